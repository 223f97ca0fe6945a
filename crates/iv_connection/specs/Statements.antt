-- What statements that were read from a text answer to C.
use Rattle.std.specs.Prelude.{◌≡◌, ℕ, if◌then◌else◌, List, length, Option, Some, None, IfSome, Result, Ok, Err, option_map}
use Rattle.iv_lex.specs.declared.token.Token.{Token}
use Rattle.iv_catalogue.specs.declared.cause.Cause.{Cause}
use Rattle.iv_catalogue.specs.declared.cause.Cause.TheVariants as cause
use Rattle.iv_catalogue.specs.declared.cause.Refusal.{Refusal}
use Rattle.iv_machine.specs.declared.answer.Answer.{Answer}
use Rattle.iv_machine.specs.declared.answer.Answer.TheVariants.{Done, Changed, Rows}
use Rattle.iv_text.specs.Causes.{cause_number}
use Rattle.iv_parse.specs.Script.{IsFault, IsScript}
use Rattle.iv_parse.specs.declared.parser.SyntaxFault.{SyntaxFault}
use Rattle.iv_syntax.specs.declared.statement.Statement.{Statement}
use Rattle.iv_connection.specs.declared.faults.ShownFault.{ShownFault}
use Rattle.iv_connection.specs.declared.outcomes.ShownOutcome.{ShownOutcome}
use Rattle.iv_connection.specs.declared.statements.ReadScript.{ReadScript}

-- the place of a fault as two numbers: whether there is one, and where
abbrev pub place_shown : Option SyntaxFault → ℕ → ℕ → Type 0
place_shown None has_fault fault_at = (has_fault ≡ 0) × (fault_at ≡ 0)
place_shown (Some fault) has_fault fault_at = (has_fault ≡ 1) × (fault_at ≡ fault.at)

-- The statements are those of the text, with its fault, and what C reads is how many they are and where the fault begins.
pub record IsRead (text : List ℕ) (statements : List Statement) (fault : Option SyntaxFault) (shown : ReadScript) : Type 0 where
  pub script : IsScript text statements (option_map (λ f. f.at) fault)
  pub word : IfSome fault (λ f. IsFault text statements f)
  pub count : shown.statements ≡ length statements
  pub place : place_shown fault shown.has_fault shown.fault_at

-- where the wrong word ends: where its token does, or where it begins where no token is there
abbrev pub word_end : ℕ → Option Token → ℕ
word_end word None = word
word_end word (Some t) = t.end

-- a fault in the numbers that C reads
abbrev pub fault_shown : SyntaxFault → ShownFault
fault_shown f = record { at = f.at; word = f.word; end = word_end f.word f.token; is_cut = if f.is_cut then 1 else 0 }

-- the row that a cause speaks of, 0 where it speaks of none
abbrev pub row_of : Cause → ℕ
row_of (cause.Restrict f) = f.row
row_of (cause.Violation f) = f.row
row_of (cause.ActionConflict f) = f.row
row_of (cause.CommitRefused f) = f.row
row_of (cause.AddRefused row) = row
row_of _ = 0

-- an outcome in the numbers that C reads
abbrev pub outcome_shown : Result Answer Refusal → ShownOutcome
outcome_shown (Ok Done) = record { kind = 0; cause = 0; count = 0; row = 0 }
outcome_shown (Ok (Changed k)) = record { kind = 1; cause = 0; count = k; row = 0 }
outcome_shown (Ok (Rows rows)) = record { kind = 2; cause = 0; count = length rows; row = 0 }
outcome_shown (Err r) = record { kind = 3; cause = cause_number r.cause; count = 0; row = row_of r.cause }
