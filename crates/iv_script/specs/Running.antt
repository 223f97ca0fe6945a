-- What running statements and writing their lines does.
use Rattle.std.specs.Prelude.{◌≡◌, ℕ, ◌+◌, Bool, List, Option, ◌++◌, [], ◌∷◌, length}
use Rattle.std.specs.Io.KnownBytes.{Appends}
use Rattle.iv_parse.specs.declared.parser.SyntaxFault.{SyntaxFault}
use Rattle.iv_syntax.specs.declared.statement.Statement.{Statement}
use Rattle.iv_catalogue.specs.declared.cause.Fault.{Fault}
use Rattle.iv_machine.specs.Machine.{State}
use Rattle.iv_text.specs.Sinks.{SinkState, FailsNever}
use Rattle.iv_text.specs.declared.format.Style.{Style}
use Rattle.iv_script.specs.declared.statements.Tally.{Tally}
use Rattle.iv_script.specs.Transcript.{Memory, IsDue, AreDue, outcome, lines, accepted_of, refused_of, news_after, run_from, told_with, memory_refusals, untold_accounts, closing_lines}

-- One statement ran, with or without memory: its lines were written, and this is the state after it. Before it and after it these
-- violations were listed.
pub record RanOne (sure_back : Bool) (style : Style) (n : ℕ) (old new : State) (listed listed_then : List Fault) (st : Statement) (tally tally_then : Tally)
    (before after : SinkState) : Type 0 where
  pub memory : Memory
  pub due : IsDue sure_back style.explain memory old st
  pub state_is : new ≡ (outcome memory old st).state
  pub listed_is : listed_then ≡ (news_after style.explain memory listed (outcome memory old st).state).listed
  pub accepted_is : tally_then.accepted
      ≡ tally.accepted + accepted_of (outcome memory old st).answer
  pub refused_is : tally_then.refused ≡ tally.refused + refused_of (outcome memory old st).answer
  pub memory_refusals_are : tally_then.memory_refused ≡ tally.memory_refused + memory_refusals (memory ∷ [])
  pub untold_are : tally_then.untold ≡ tally.untold + untold_accounts (memory ∷ [])
  pub appended : Appends before.contents after.contents (lines style n st (outcome memory old st) (told_with style.explain memory old st)
      (news_after style.explain memory listed (outcome memory old st).state))
  pub works : FailsNever before after

-- all statements ran; for each it is chosen whether it was refused memory
pub record RanAll (sure_back : Bool) (style : Style) (old new : State) (sts : List Statement) (tally : Tally)
    (before after : SinkState) : Type 0 where
  pub memory : List Memory
  pub each : length memory ≡ length sts
  pub due : AreDue sure_back style.explain old sts memory
  pub memory_refusals_are : memory_refusals memory ≡ tally.memory_refused
  pub untold_are : untold_accounts memory ≡ tally.untold
  pub accepted_is : (run_from style old [] 0 sts memory).accepted ≡ tally.accepted
  pub refused_is : (run_from style old [] 0 sts memory).refused ≡ tally.refused
  pub state_is : new ≡ (run_from style old [] 0 sts memory).state
  pub appended : Appends before.contents after.contents (run_from style old [] 0 sts memory).text
  pub works : FailsNever before after

-- the statements ran, and the lines of the script's end were written
pub record RanParsed (sure_back : Bool) (style : Style) (old : State) (text : List ℕ) (sts : List Statement) (fault : Option SyntaxFault) (tally : Tally)
    (before after : SinkState) : Type 0 where
  pub memory : List Memory
  pub each : length memory ≡ length sts
  pub due : AreDue sure_back style.explain old sts memory
  pub memory_refusals_are : memory_refusals memory ≡ tally.memory_refused
  pub untold_are : untold_accounts memory ≡ tally.untold
  pub accepted_is : (run_from style old [] 0 sts memory).accepted ≡ tally.accepted
  pub refused_is : (run_from style old [] 0 sts memory).refused ≡ tally.refused
  pub appended : Appends before.contents after.contents
      ((run_from style old [] 0 sts memory).text
      ++ closing_lines style text (length sts) fault (run_from style old [] 0 sts memory).state)
  pub works : FailsNever before after
