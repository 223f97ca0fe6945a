-- The transcript of a script: what its bytes are answered with.
use Rattle.std.specs.Prelude.{◌≡◌, ℕ, ◌+◌, Bool, ◌&&◌, true, false, if◌then◌else◌, List, [], ◌∷◌, ◌++◌, codes, decimal, Option, Some, None, IfSome, Result, Ok, Err, length, is_some, option_map}
use Rattle.std.specs.Io.KnownBytes.{Appends}
use Rattle.iv_syntax.specs.declared.statement.Statement.{Statement}
use Rattle.iv_parse.specs.Script.{IsFault, IsScript}
use Rattle.iv_catalogue.specs.Catalogues.{Schema}
use Rattle.iv_parse.specs.declared.parser.SyntaxFault.{SyntaxFault}
use Rattle.iv_catalogue.specs.declared.cause.Cause.TheVariants.{OutOfMemory}
use Rattle.iv_catalogue.specs.declared.cause.Fault.{Fault}
use Rattle.iv_catalogue.specs.declared.cause.Refusal.{Refusal}
use Rattle.iv_machine.specs.declared.answer.Answer.{Answer}
use Rattle.iv_machine.specs.Bounds.{Bounds}
use Rattle.iv_machine.specs.Machine.{State, Outcome, no_work, changes_rows, may_tell, empty_state, is_open}
use Rattle.iv_resolution.specs.Resolution.{resolution}
use Rattle.iv_account.specs.declared.entry.Entry.{Entry}
use Rattle.iv_step.specs.Pending.{pending, violations_told, without}
use Rattle.iv_step.specs.Step.{step}
use Rattle.iv_step.specs.Sure.{never_refused}
use Rattle.iv_step.specs.Telling.{may_be_untold, statement_told}
use Rattle.iv_print.specs.AccountLines.{account_text}
use Rattle.iv_text.specs.Lines.{first_line, row_lines}
use Rattle.iv_print.specs.PendingLines.{pending_lines}
use Rattle.iv_text.specs.Sinks.{SinkState}
use Rattle.iv_text.specs.declared.format.Format.{Format}
use Rattle.iv_text.specs.declared.format.Format.TheVariants.{Words, Json}
use Rattle.iv_text.specs.declared.format.Style.{Style}
use Rattle.iv_script.specs.declared.summary.Summary.{Summary}
use Rattle.iv_script.specs.JsonLines.{json_closing, json_line}
use Rattle.iv_explain.specs.Columns.{columns_line}
use Rattle.iv_explain.specs.Explanations.{explained_line}
use Rattle.iv_script.specs.FaultLines.{place_lines}

-- The lines that statements were answered with, the state after them, and how many were accepted
-- and refused.
pub record Ran : Type 0 where
  pub text : List ℕ
  pub state : State
  pub accepted : ℕ
  pub refused : ℕ

-- what ran before, and then this
abbrev pub following : List ℕ → ℕ → ℕ → Ran → Ran
following text accepted refused r = record {
  text = text ++ r.text;
  state = r.state;
  accepted = accepted + r.accepted;
  refused = refused + r.refused;
}

abbrev pub accepted_of : Result Answer Refusal → ℕ
accepted_of (Ok a) = 1
accepted_of (Err r) = 0

abbrev pub refused_of : Result Answer Refusal → ℕ
refused_of (Ok a) = 0
refused_of (Err r) = 1

-- For a statement: it has the memory that it takes; or memory is refused, in this trigger or outside of every one; or it is refused to
-- the account of a COMMIT or of a ROLLBACK TO SAVEPOINT alone, or to the lines of what is pending alone.
pub data Memory : Type 0 where
  granted : Memory
  denied : Option ℕ → Memory
  untold : Memory
  unlisted : Memory

-- Cause 22, which leaves the state. It names a trigger only where the statement changes rows and the catalogue has it.
abbrev pub memory_refused_outcome : State → Statement → Option ℕ → Outcome
memory_refused_outcome s st trigger = record {
  answer = Err (record { cause = OutOfMemory; trigger = if may_tell (changes_rows st) s.schema trigger then trigger else None });
  state = s;
  work = no_work;
}

-- what a statement does: the machine's step, or cause 22
abbrev pub outcome : Memory → State → Statement → Outcome
outcome granted s st = step s st
outcome (denied trigger) s st = memory_refused_outcome s st trigger
outcome untold s st = step s st
outcome unlisted s st = step s st

-- Memory is refused only to a statement that takes some: not to COMMIT or ROLLBACK, nor to one that is refused for the transaction
-- that is open or isn't, nor to ROLLBACK TO SAVEPOINT, where that is sure to take none. It is refused to an account alone only where the
-- account is of a COMMIT or of a ROLLBACK TO SAVEPOINT, and is asked for; and to the lines of what is pending only inside a transaction,
-- where they are asked for.
abbrev pub IsDue : Bool → Bool → Memory → State → Statement → Type 0
IsDue sure_back asked granted s st = Unit {0}
IsDue sure_back asked (denied trigger) s st = never_refused sure_back s st ≡ false
IsDue sure_back asked untold s st = (asked ≡ true) × (may_be_untold (resolution s.schema st) ≡ true)
IsDue sure_back asked unlisted s st = (asked ≡ true) × (is_open (step s st).state ≡ true)

-- what is told of a statement, where an account is asked for
abbrev pub told_with : Bool → Memory → State → Statement → List Entry
told_with true granted s st = statement_told s st
told_with true unlisted s st = statement_told s st
told_with _ _ s st = []

-- ---- what is pending

-- What is told of the violations of deferred constraints: which came, with their rows, and which went; and which are listed then, so that the
-- next difference is from these.
pub record News : Type 0 where
  pub came : List Entry
  pub went : List Fault
  pub listed : List Fault

abbrev pub no_news : List Fault → News
no_news listed = record { came = []; went = []; listed = listed }

-- what came and what went between those that are listed and those that are pending in this state
abbrev pub news_since : List Fault → State → News
news_since listed s = record {
  came = violations_told s (without (pending s) listed);
  went = without listed (pending s);
  listed = pending s;
}

-- Where memory is refused nothing is told, and the list stays.
abbrev pub news_with : Memory → List Fault → State → News
news_with granted listed s = news_since listed s
news_with _ listed s = no_news listed

abbrev pub news_where : Bool → Memory → List Fault → State → News
news_where true memory listed s = news_with memory listed s
news_where false memory listed s = no_news []

-- The news after a statement that leaves this state: inside a transaction, where accounts are asked for. Outside of one nothing is pending.
abbrev pub news_after : Bool → Memory → List Fault → State → News
news_after asked memory listed s = news_where (asked && is_open s) memory listed s

-- ---- lines

-- The line of the name or the reason of a refusal, where accounts are asked for and the statement is known.
abbrev pub name_line_of : Bool → Schema → Option Statement → Result Answer Refusal → List ℕ
name_line_of true s (Some st) (Err r) = explained_line s st r.cause
name_line_of _ s st _ = []

-- The line of the columns of a query that is accepted, where accounts are asked for and the statement is known.
abbrev pub columns_line_of : Bool → Schema → Option Statement → Result Answer Refusal → List ℕ
columns_line_of true s (Some st) (Ok a) = columns_line s st
columns_line_of _ s st _ = []

-- The lines of the account, where it is told.
abbrev pub account_lines_of : Bool → Schema → Bounds → Result Answer Refusal → List Entry → List ℕ
account_lines_of true s limits r told = account_text s limits r told
account_lines_of false s limits r told = []

-- In this format: where accounts are asked for, with the columns, or the name or the reason of a refusal; and where the account is told, with
-- its lines.
abbrev pub lines_in :
    Format → Bool → Bool → ℕ → Option Statement → Schema → Bounds → Result Answer Refusal → List Entry → List Entry → List Fault → List ℕ
lines_in Words asked is_told n st s limits r told came went =
    first_line n r s
    ++ (columns_line_of asked s st r
    ++ (row_lines r ++ (account_lines_of is_told s limits r told ++ (name_line_of asked s st r ++ pending_lines s came went))))
lines_in Json asked is_told n st s limits r told came went = json_line asked is_told n st s limits r told came went

-- The lines of the outcome of the n-th statement of a session with these limits, with the catalogue as it is directly after it, and those of its
-- account. There is none where no account was asked for when the statement ran; then a refusal for a limit has no line of what was counted.
abbrev pub outcome_lines : Style → ℕ → Option Statement → Schema → Bounds → Result Answer Refusal → Option (List Entry) → List ℕ
outcome_lines style n st s limits r (Some told) = lines_in style.format style.explain true n st s limits r told [] []
outcome_lines style n st s limits r None = lines_in style.format style.explain false n st s limits r [] [] []

-- The same, with what is told of the violations that are pending.
abbrev pub lines : Style → ℕ → Statement → Outcome → List Entry → News → List ℕ
lines style n st o told news = lines_in style.format style.explain style.explain n (Some st) o.state.schema o.state.limits o.answer told news.came news.went

-- the memory of the first statement; it is granted where the list is empty
abbrev pub first_memory : List Memory → Memory
first_memory [] = granted
first_memory (m ∷ ms) = m

abbrev pub later_memory : List Memory → List Memory
later_memory [] = []
later_memory (m ∷ ms) = ms

-- The run of statements after the n-th, written in this style, where these violations were listed last; the list of memory says which of
-- the statements are refused it.
abbrev pub run_from : Style → State → List Fault → ℕ → List Statement → List Memory → Ran
run_from style s listed n [] memory = record { text = []; state = s; accepted = 0; refused = 0 }
run_from style s listed n (st ∷ sts) memory =
    let o : Outcome = outcome (first_memory memory) s st in
    let news : News = news_after style.explain (first_memory memory) listed o.state in
    following (lines style (n + 1) st o (told_with style.explain (first_memory memory) s st) news) (accepted_of o.answer) (refused_of o.answer)
    (run_from style o.state news.listed (n + 1) sts (later_memory memory))

-- so for each of the statements that run from this state
abbrev pub AreDue : Bool → Bool → State → List Statement → List Memory → Type 0
AreDue sure_back asked s [] memory = Unit {0}
AreDue sure_back asked s (st ∷ sts) memory =
    IsDue sure_back asked (first_memory memory) s st × AreDue sure_back asked (outcome (first_memory memory) s st).state sts (later_memory memory)

-- the line of a fault after so many statements
abbrev pub fault_line : ℕ → Option ℕ → List ℕ
fault_line n None = []
fault_line n (Some at) = decimal (n + 1) ++ (codes " fault " ++ (decimal at ++ codes "\n"))

-- the line of a transaction that is open at the end
abbrev pub end_line : Bool → List ℕ
end_line true = codes "end rolled back\n"
end_line false = []

-- where the statement of a fault begins
abbrev pub begin_of : Option SyntaxFault → Option ℕ
begin_of fault = option_map (λ f. f.at) fault

-- The lines after those of the statements. Where accounts are asked for, they tell more of the first word that can't stand where it does.
abbrev pub closing_text : Bool → List ℕ → ℕ → Option SyntaxFault → Bool → List ℕ
closing_text asked text n fault is_open = fault_line n (begin_of fault) ++ (place_lines asked text fault ++ end_line is_open)

-- so in this format
abbrev pub closing_in : Format → Bool → List ℕ → ℕ → Option SyntaxFault → Bool → List ℕ
closing_in Words asked text n fault is_open = closing_text asked text n fault is_open
closing_in Json asked text n fault is_open = json_closing text n fault is_open

abbrev pub closing_lines : Style → List ℕ → ℕ → Option SyntaxFault → State → List ℕ
closing_lines style text n fault s = closing_in style.format style.explain text n fault (is_some s.start)

-- The transcript of a script of these bytes that has these statements and this fault, run in a new session with
-- these limits, written in this style; the list says which statements are refused memory.
abbrev pub transcript : Style → List ℕ → Bounds → List Statement → Option SyntaxFault → List Memory → List ℕ
transcript style bytes limits statements fault memory =
    let r : Ran = run_from style (empty_state limits) [] 0 statements memory in
    r.text ++ closing_lines style bytes (length statements) fault r.state

-- how many statements are refused memory
abbrev pub memory_refusals : List Memory → ℕ
memory_refusals [] = 0
memory_refusals (denied trigger ∷ ms) = 1 + memory_refusals ms
memory_refusals (granted ∷ ms) = memory_refusals ms
memory_refusals (untold ∷ ms) = memory_refusals ms
memory_refusals (unlisted ∷ ms) = memory_refusals ms

-- how many accounts of statements that go on without one, and lines of what is pending, are refused memory
abbrev pub untold_accounts : List Memory → ℕ
untold_accounts [] = 0
untold_accounts (untold ∷ ms) = 1 + untold_accounts ms
untold_accounts (unlisted ∷ ms) = 1 + untold_accounts ms
untold_accounts (granted ∷ ms) = untold_accounts ms
untold_accounts (denied trigger ∷ ms) = untold_accounts ms

-- the script's fault, where it has one
abbrev pub fault_place : Summary → Option SyntaxFault
fault_place summary = summary.fault

-- The transcript of these bytes was appended, and the summary says how many statements were
-- accepted and refused, and the fault. For each statement that takes memory it is chosen whether it
-- is refused it, and as many are as the summary says; so for each account of a COMMIT or a ROLLBACK TO
-- SAVEPOINT, and for the lines of what is pending.
pub record RanScript (sure_back : Bool) (bytes : List ℕ) (limits : Bounds) (style : Style) (summary : Summary)
    (before after : SinkState) : Type 0 where
  pub statements : List Statement
  pub memory : List Memory
  pub is_script : IsScript bytes statements (begin_of summary.fault)
  pub word : IfSome summary.fault (λ f. IsFault bytes statements f)
  pub each : length memory ≡ length statements
  pub due : AreDue sure_back style.explain (empty_state limits) statements memory
  pub memory_refusals_are : memory_refusals memory ≡ summary.memory_refused
  pub untold_are : untold_accounts memory ≡ summary.untold
  pub accepted_is : (run_from style (empty_state limits) [] 0 statements memory).accepted ≡ summary.accepted
  pub refused_is : (run_from style (empty_state limits) [] 0 statements memory).refused ≡ summary.refused
  pub appended : Appends before.contents after.contents
      (transcript style bytes limits statements (fault_place summary) memory)

-- The transcript of these bytes was appended, and memory was refused neither to a statement nor to an account nor to the lines of what is
-- pending.
pub record RanWithMemory (bytes : List ℕ) (limits : Bounds) (style : Style) (fault : Option SyntaxFault)
    (before after : SinkState) : Type 0 where
  pub statements : List Statement
  pub is_script : IsScript bytes statements (begin_of fault)
  pub word : IfSome fault (λ f. IsFault bytes statements f)
  pub appended : Appends before.contents after.contents (transcript style bytes limits statements fault [])
