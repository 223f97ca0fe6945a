-- What is kept shows rows.
use Rattle.std.proofs.Common.{◌≡◌, ℕ, Bool, true, false, ◌&&◌, if◌then◌else◌, List, [], ◌∷◌, length, slice_get, Option, Some, None, sym, ap, ◌∙◌, arith}
use Rattle.std.specs.Prelude.{Result, Ok, Err, OnErr}
use Rattle.std.specs.Bool.{◌==◌}
use Rattle.iv_store_faults.specs.Types.{Value, StoredRow, Change, Constraint}
use Rattle.iv_value.specs.Values.{all_same}
use Rattle.iv_laws_levels.proofs.Keys.{all_same_itself}
use Rattle.iv_laws_levels.proofs.RowNumbers.{some_none, some_same}
use Rattle.iv_laws_levels.proofs.AppliedRows.{rows_after_in_order}
use Rattle.iv_machine.specs.Databases.{rows_after, scan}
use Rattle.iv_store_groups.specs.Groups.{Contents, GroupOf, groups_of}
use Rattle.iv_store_violating.specs.Shown.{shown}
use Rattle.iv_store_violating.specs.Apart.{AreApart}
use Rattle.iv_store_violating.specs.Answers.{HaveGroups}
use Rattle.iv_store_violating.proofs.Apart.{shown_groups_are_apart}
use Rattle.iv_store_violating.proofs.KeptRows.{have_groups}
use Rattle.iv_store_violating.proofs.Shown.{groups_shown}
use Rattle.iv_laws_kept.specs.Kept.{AllNamed, KeysOnce, is_kept_under, kept, kept_key, rows_in}
use Rattle.iv_laws_kept.specs.GroupFlags.{GroupFlags, AreFlagged}
use Rattle.iv_laws_kept.specs.Moves.{Holds, taken_back}
use Rattle.iv_laws_kept.specs.Numbers.{has}
use Rattle.iv_laws_kept.proofs.Rows.{has_filtered, passes}
use Rattle.iv_laws_kept.proofs.Moves.{changes_are_followed, changes_are_taken_back}
use Rattle.iv_laws_kept.proofs.KeptIsScan.{kept_is_the_scan}
use Rattle.iv_store_following.specs.BorrowedChange.{IsPresent, side_key}
use Rattle.iv_store_following.specs.Steps.{IsReady}
use Rattle.iv_store_following.specs.Turns.{AllGiven, AllStay}
use Rattle.iv_store_following.specs.Following.{Followed}
use Rattle.iv_store_faults.specs.Watching.{HasRoomBack, IsShownBy, ShownRowsArePresent, Watching}
use Rattle.iv_store_following.proofs.Rooms.{stay_flagged, stay_rows}

pub on_err : {A E : Type 0} (X : Type 0) (r : Result A E) → X → OnErr r X
on_err X (Ok a) x = tt
on_err X (Err e) x = x

-- ---- after a change

abbrev watching : List Constraint → GroupFlags → Watching
watching constraints violating = record { constraints = constraints; violating = violating }

pub shown_after : (constraints : List Constraint) (change : Change) (most : ℕ) (start now : Contents) (violating later : GroupFlags) (rows : List StoredRow) → AllNamed constraints → KeysOnce (shown now.groups)
    → Followed constraints change most start now violating later → Holds rows change → IsShownBy rows (watching constraints violating) start
    → IsShownBy (rows_after rows (change ∷ [])) (watching constraints later) now
shown_after constraints change most start now violating later rows all once f holds s = record {
  in_order = rows_after_in_order rows (change ∷ []);
  shows = (changes_are_followed constraints change (shown start.groups) (shown now.groups) rows all once f.follow holds s.shows).0;
  flagged = f.flagged s.flagged;
}

pub shown_back : (constraints : List Constraint) (change : Change) (most : ℕ) (start now : Contents) (violating later : GroupFlags) (rows : List StoredRow) → AllNamed constraints → KeysOnce (shown now.groups)
    → Followed constraints (taken_back change) most start now violating later → Holds rows change → IsShownBy (rows_after rows (change ∷ [])) (watching constraints violating) start
    → IsShownBy rows (watching constraints later) now
shown_back constraints change most start now violating later rows all once f holds s = record {
  in_order = holds.0;
  shows = (changes_are_taken_back constraints change (shown start.groups) (shown now.groups) rows all once f.follow holds s.shows).0;
  flagged = f.flagged s.flagged;
}

pub shown_still : (constraints : List Constraint) (most : ℕ) (start now : Contents) (violating later : GroupFlags) (rows : List StoredRow) → AllNamed constraints
    → AllStay constraints most start now violating later → IsShownBy rows (watching constraints violating) start → IsShownBy rows (watching constraints later) now
shown_still constraints most start now violating later rows all s shows = record {
  in_order = shows.in_order;
  shows = λ id c key at. stay_rows constraints start now violating later id c key s.stay at ∙ shows.shows id c key at;
  flagged = stay_flagged constraints start now violating later all s.stay shows.flagged;
}

-- after groups without rows were given back
pub shown_given : (constraints : List Constraint) (start now : Contents) (violating later : GroupFlags) (rows : List StoredRow) → AllNamed constraints
    → AllGiven start now violating later → IsShownBy rows (watching constraints violating) start → IsShownBy rows (watching constraints later) now
shown_given constraints start now violating later rows all s shows = record {
  in_order = shows.in_order;
  shows = λ id c key at. stay_rows constraints start now violating later id c key (λ k c at. s.stay k c) at ∙ shows.shows id c key at;
  flagged = stay_flagged constraints start now violating later all (λ k c at. s.stay k c) shows.flagged;
}

-- what the taking back of a change asks of each constraint
pub ready_back : (constraints : List Constraint) (change : Change) (groups : List (List GroupOf)) → IsPresent constraints (shown groups) (taken_back change) → HasRoomBack constraints groups change
    → (k : ℕ) (c : Constraint) → slice_get constraints k ≡ Some c → IsReady (taken_back change) c (groups_of groups k)
ready_back constraints change groups present room k c at = record {
  present = λ key e. ap (λ g. has change.row (rows_in g key)) (sym (groups_shown groups k)) ∙ present k c key at e;
  room_for = λ key moves e. room k c key at moves e;
}

-- the flagged places have groups
pub have_groups_of : (constraints : List Constraint) (groups : List (List GroupOf)) (violating : GroupFlags) → length violating ≡ length constraints → AreFlagged constraints (shown groups) violating → HaveGroups violating (shown groups)
have_groups_of constraints groups violating count flagged = have_groups constraints (shown groups) violating (omega (arith, count)) flagged

-- ---- the rows that are shown are under their keys

-- a side that is kept under a key passes the test for that key
pub side_is_there : (c : Constraint) (change : Change) (key : List Value) (side : Option (List Value)) → side_key c change.table side ≡ Some key
    → passes (is_kept_under c key) (elim side [ Some values ↦ Some (record { table = change.table; number = change.row; values = values }) | None ↦ None ]) ≡ true
side_is_there c change key None e = absurd (some_none key (sym e))
side_is_there c change key (Some values) e = by_table (change.table == c.table) (kept_key c.rule values) e
  where
    by_table : (b : Bool) (o : Option (List Value)) → (if b then o else None) ≡ Some key → (b && elim o [ Some k ↦ all_same k key | None ↦ false ]) ≡ true
    by_table true None e = absurd (some_none key (sym e))
    by_table true (Some k) e = ap (λ k. all_same k key) (some_same k key e) ∙ all_same_itself key
    by_table false o e = absurd (some_none key (sym e))

pub shown_rows_are_present : ShownRowsArePresent
shown_rows_are_present rows constraints groups change shows holds id c key at e =
    ap (has change.row) (shows id c key at) ∙ has_filtered (is_kept_under c key) rows change.row holds.0 ∙ ap (passes (is_kept_under c key)) holds.1 ∙ side_is_there c change key change.old e

-- ---- the scan

pub kept_scan : (constraints : List Constraint) (groups : Contents) (violating : GroupFlags) (rows : List StoredRow) (chosen : ℕ → Bool) → AllNamed constraints → KeysOnce (shown groups.groups)
    → IsShownBy rows (watching constraints violating) groups → kept constraints (shown groups.groups) chosen ≡ scan rows constraints chosen
kept_scan constraints groups violating rows chosen all once s = kept_is_the_scan rows constraints (shown groups.groups) chosen s.in_order all once s.shows

pub rows_apart : (constraints : List Constraint) (groups : Contents) (violating : GroupFlags) (rows : List StoredRow) → KeysOnce (shown groups.groups)
    → IsShownBy rows (watching constraints violating) groups → AreApart constraints (shown groups.groups)
rows_apart constraints groups violating rows once s = shown_groups_are_apart rows constraints (shown groups.groups) s.in_order once s.shows
