-- A script's transcript in JSON: an object for each statement, one for the script's fault, and one for a transaction that is open at the end.
-- Each stands on a line of its own.
use Rattle.std.specs.Prelude.{ℕ, ◌+◌, Bool, true, false, List, [], ◌∷◌, ◌++◌, codes, decimal, Option, Some, None, Result, Ok, Err}
use Rattle.std.specs.List.{flat_map}
use Rattle.iv_lex.specs.declared.kind.TokenKind.{TokenKind}
use Rattle.iv_lex.specs.declared.token.Token.{Token}
use Rattle.iv_lex.specs.Told.{kind_text}
use Rattle.iv_parse_terms.specs.WantedKinds.{wanted_kinds}
use Rattle.iv_syntax.specs.declared.statement.Statement.{Statement}
use Rattle.iv_parse.specs.declared.parser.SyntaxFault.{SyntaxFault}
use Rattle.iv_catalogue.specs.Catalogues.{Schema}
use Rattle.iv_catalogue.specs.declared.cause.Fault.{Fault}
use Rattle.iv_catalogue.specs.declared.cause.Refusal.{Refusal}
use Rattle.iv_machine.specs.Bounds.{Bounds}
use Rattle.iv_machine.specs.declared.answer.Answer.{Answer}
use Rattle.iv_account.specs.declared.entry.Entry.{Entry}
use Rattle.iv_text.specs.Json.{json_text, key, kind_member, member, outcome_members}
use Rattle.iv_print.specs.JsonAccounts.{json_account}
use Rattle.iv_print.specs.PendingLines.{pending_members}
use Rattle.iv_explain.specs.Columns.{columns_member}
use Rattle.iv_explain.specs.Explanations.{explained_member}
use Rattle.iv_script.specs.FaultLines.{wrong_word}
use Rattle.iv_script.specs.Hints.{fault_hint}
use Rattle.iv_script.specs.Places.{place_at}
use Rattle.iv_script.specs.declared.place.Place.{Place}

-- the front of an object: its place among the statements, from 1
abbrev pub number_key : ℕ → List ℕ
number_key n = codes "{" ++ (key (codes "number") ++ decimal n)

-- the account, where it is told
abbrev pub account_member : Bool → Schema → Bounds → Result Answer Refusal → List Entry → List ℕ
account_member true s limits r told = member (codes "account") ++ json_account s limits r told
account_member false s limits r told = []

-- The member of the name or the reason of a refusal, where accounts are asked for and the statement is known.
abbrev pub about_member : Bool → Schema → Option Statement → Result Answer Refusal → List ℕ
about_member true s (Some st) (Err r) = explained_member s st r.cause
about_member _ s st _ = []

-- The member of the columns of a query that is accepted, where accounts are asked for and the statement is known.
abbrev pub columns_member_of : Bool → Schema → Option Statement → Result Answer Refusal → List ℕ
columns_member_of true s (Some st) (Ok a) = columns_member s st
columns_member_of _ s st _ = []

-- The line of the n-th statement: its outcome, the columns of a query, the name or the reason of its refusal, its account, and the violations
-- of deferred constraints that came and went.
abbrev pub json_line :
    Bool → Bool → ℕ → Option Statement → Schema → Bounds → Result Answer Refusal → List Entry → List Entry → List Fault → List ℕ
json_line asked is_told n st s limits r told came went =
    number_key n
    ++ (outcome_members s r
    ++ (columns_member_of asked s st r
    ++ (about_member asked s st r ++ (account_member is_told s limits r told ++ (pending_members s came went ++ codes "}\n")))))

-- the line and the column of a byte of a text
abbrev pub place_members : Place → List ℕ
place_members p = member (codes "line") ++ (decimal p.line ++ (member (codes "column") ++ decimal p.column))

-- a byte of a text, and its line and column
abbrev pub byte_members : List ℕ → ℕ → List ℕ
byte_members text at = decimal at ++ place_members (place_at text at)

-- the characters of the wrong word, where a token begins there
abbrev pub text_member : List ℕ → Option Token → List ℕ
text_member text None = []
text_member text (Some t) = member (codes "text") ++ json_text (wrong_word text (Some t))

-- the first word that can't stand where it does
abbrev pub word_member : List ℕ → SyntaxFault → List ℕ
word_member text f =
    member (codes "word") ++ (codes "{" ++ (key (codes "byte") ++ (byte_members text f.word ++ (text_member text f.token ++ codes "}"))))

abbrev pub further_text : TokenKind → List ℕ
further_text k = codes "," ++ json_text (kind_text k)

abbrev pub json_kinds : List TokenKind → List ℕ
json_kinds [] = []
json_kinds (k ∷ ks) = json_text (kind_text k) ++ flat_map further_text ks

-- what might have stood there
abbrev pub wanted_member : List TokenKind → List ℕ
wanted_member ks = member (codes "wanted") ++ (codes "[" ++ (json_kinds ks ++ codes "]"))

-- what else is known of the word, where something is
abbrev pub hint_member : List ℕ → List ℕ
hint_member [] = []
hint_member (byte ∷ bytes) = member (codes "hint") ++ json_text (byte ∷ bytes)

-- what is known of the word
abbrev pub known_members : List ℕ → SyntaxFault → List ℕ
known_members text f = wanted_member (wanted_kinds f.wanted) ++ hint_member (fault_hint text f)

-- the front of a fault's line after so many statements: where its statement begins
abbrev pub fault_front : List ℕ → ℕ → SyntaxFault → List ℕ
fault_front text n f = number_key (n + 1) ++ (kind_member (codes "fault") ++ (member (codes "byte") ++ byte_members text f.at))

abbrev pub fault_members : List ℕ → ℕ → SyntaxFault → List ℕ
fault_members text n f = fault_front text n f ++ (word_member text f ++ (known_members text f ++ codes "}\n"))

-- The line of a fault after so many statements: where its statement begins, where the word is, and what is known of it.
abbrev pub json_fault_line : List ℕ → ℕ → Option SyntaxFault → List ℕ
json_fault_line text n None = []
json_fault_line text n (Some f) = fault_members text n f

-- the line of a transaction that is open at the end
abbrev pub json_end_line : Bool → List ℕ
json_end_line true = codes "{\"kind\":\"end\",\"rolled_back\":true}\n"
json_end_line false = []

-- the lines after those of the statements
abbrev pub json_closing : List ℕ → ℕ → Option SyntaxFault → Bool → List ℕ
json_closing text n fault is_open = json_fault_line text n fault ++ json_end_line is_open
