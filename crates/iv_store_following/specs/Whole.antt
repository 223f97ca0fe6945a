-- From the parts of the constraints to the whole of a change.
use Rattle.std.specs.Prelude.{◌≡◌, ℕ, Bool, false, List, slice_get, Some}
use Rattle.iv_store_following.specs.Types.{Value, Constraint, ForeignKey}
use Rattle.iv_store_following.specs.Types.rule
use Rattle.iv_laws_kept.specs.Kept.{Groups, groups_of, is_referenced}
use Rattle.iv_laws_kept.specs.GroupFlags.{GroupFlags, violating_of, AreFlagged}
use Rattle.iv_store_following.specs.KeyGroups.{Flagged}
use Rattle.iv_store_following.specs.Steps.{is_reference}

-- If the flags of each constraint that isn't a foreign key stay right whichever keys are referenced, and those of each foreign key go from
-- right by the groups before to right by the groups after, all flags that were right are right after.
abbrev pub PartsMakeTheWhole : Type 0
PartsMakeTheWhole =
    (constraints : List Constraint) (groups after : Groups) (violating later : GroupFlags)
    → ((id : ℕ) (c : Constraint) (referenced : List Value → Bool) → slice_get constraints id ≡ Some c → is_reference c.rule ≡ false
    → Flagged referenced c.rule (groups_of groups id) (violating_of violating id) → Flagged referenced c.rule (groups_of after id) (violating_of later id))
    → ((id : ℕ) (c : Constraint) (fk : ForeignKey) → slice_get constraints id ≡ Some c → c.rule ≡ rule.ForeignKey fk
    → Flagged (is_referenced constraints groups fk) c.rule (groups_of groups id) (violating_of violating id)
    → Flagged (is_referenced constraints after fk) c.rule (groups_of after id) (violating_of later id))
    → AreFlagged constraints groups violating → AreFlagged constraints after later
