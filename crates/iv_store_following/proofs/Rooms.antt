-- Room for a change, and then the change.
use Rattle.std.proofs.Common.{◌≡◌, refl, ℕ, ◌+◌, ◌<◌, ◌≤◌, Bool, true, false, ◌&&◌, not, if◌then◌else◌, List, length, slice_get, Option, Some, None, sym, ap, subst, ◌∙◌, arith}
use Rattle.std.specs.Bool.{◌==◌}
use Rattle.iv_store_following.specs.Types.{Value, Change, Constraint, ForeignKey}
use Rattle.iv_laws_levels.proofs.RowNumbers.{some_none}
use Rattle.iv_store_groups.specs.Groups.{Contents, groups_of, rows_of, room_of}
use Rattle.iv_store_violating.specs.Shown.{shown, shown_of}
use Rattle.iv_store_violating.proofs.Shown.{groups_shown, rows_in_shown}
use Rattle.iv_laws_kept.specs.Kept.{groups_of as own_groups}
use Rattle.iv_laws_kept.specs.Kept.{Groups, kept_key, rows_in, rows_under, in_order_of, can_be_key, is_empty, is_referenced, AllNamed}
use Rattle.iv_laws_kept.specs.GroupFlags.{GroupFlags, violating_of, AreFlagged}
use Rattle.iv_laws_kept.specs.Moves.{rows_moved}
use Rattle.iv_laws_kept.specs.Numbers.{has}
use Rattle.iv_laws_kept.proofs.Naming.{Named, named_of}
use Rattle.iv_store_following.specs.KeyGroups.{Flagged}
use Rattle.iv_store_following.specs.BorrowedChange.{IsPresent, side_key, stays_put}
use Rattle.iv_store_following.specs.Steps.{IsReady}
use Rattle.iv_store_following.specs.Turns.{AllStay, HasRoom, StayTurn}
use Rattle.iv_store_following.specs.Following.{AreMet, Followed}
use Rattle.iv_store_following.proofs.Follows.{met_either}
use Rattle.iv_store_following.proofs.Steps.{violating_stay}
use Rattle.iv_store_following.proofs.Whole.{parts_make_the_whole}

-- ---- rows that stay, twice

pub stay_then : (constraints : List Constraint) (a b most : ℕ) (start mid now : Contents) (violating between later : GroupFlags) → a + b ≤ most
    → AllStay constraints a start mid violating between → AllStay constraints b mid now between later → AllStay constraints most start now violating later
stay_then constraints a b most start mid now violating between later less first second = record {
  count = second.count ∙ first.count;
  violating_count = second.violating_count ∙ first.violating_count;
  stay = λ k c at. record {
    rows = λ key. (second.stay k c at).rows key ∙ (first.stay k c at).rows key;
    flagged = λ referenced right. (second.stay k c at).flagged referenced ((first.stay k c at).flagged referenced right);
  };
  watched = λ k w. second.watched k (first.watched k w);
  sizes = λ k key. omega (arith, first.sizes k key, second.sizes k key);
  grows = omega (arith, first.grows, second.grows);
  looked_up = omega (arith, first.looked_up, second.looked_up, less);
}

pub stay_more : (constraints : List Constraint) (a most : ℕ) (start now : Contents) (violating later : GroupFlags) → a ≤ most → AllStay constraints a start now violating later → AllStay constraints most start now violating later
stay_more constraints a most start now violating later less s = record {
  count = s.count;
  violating_count = s.violating_count;
  stay = s.stay;
  watched = s.watched;
  sizes = s.sizes;
  grows = s.grows;
  looked_up = omega (arith, s.looked_up, less);
}

-- room that is there stays if the rows do
pub room_stays : (constraints : List Constraint) (change : Change) (most : ℕ) (start now : Contents) (violating later : GroupFlags) (k : ℕ) → AllStay constraints most start now violating later
    → HasRoom constraints change k (groups_of start.groups k) → HasRoom constraints change k (groups_of now.groups k)
room_stays constraints change most start now violating later k s room c key at moves new =
    let rows : rows_of (groups_of now.groups k) key ≡ rows_of (groups_of start.groups k) key =
    sym (rows_in_shown (groups_of now.groups k) key) ∙ (s.stay k c at).rows key ∙ rows_in_shown (groups_of start.groups k) key in
    omega (arith, room c key at moves new, s.sizes k key, ap length rows)

-- ---- flags

-- no row of any constraint has moved
abbrev pub NoneMoves : List Constraint → Contents → Contents → GroupFlags → GroupFlags → Type 0
NoneMoves constraints start now violating later = (k : ℕ) → StayTurn constraints k (groups_of start.groups k) (violating_of violating k) (groups_of now.groups k) (violating_of later k)

-- keys are referenced as before
same_referenced : (constraints : List Constraint) (start now : Contents) (violating later : GroupFlags) (fk : ForeignKey) (key : List Value) → NoneMoves constraints start now violating later → Named constraints fk
    → is_referenced constraints (shown now.groups) fk key ≡ is_referenced constraints (shown start.groups) fk key
same_referenced constraints start now violating later fk key s n =
    said (shown now.groups) ∙ ap (λ rows. can_be_key fk.key key && not (is_empty rows)) rows ∙ sym (said (shown start.groups))
  where
    said : (g : Groups) → is_referenced constraints g fk key ≡ (can_be_key fk.key key && not (is_empty (rows_under g n.key.id (in_order_of n.key.columns fk.key key))))
    said g = ap (λ o. elim o [
      | Some k ↦ can_be_key fk.key key && not (is_empty (rows_under g k.id (in_order_of k.columns fk.key key)))
      | None ↦ false
    ]) n.found

    rows : rows_under (shown now.groups) n.key.id (in_order_of n.key.columns fk.key key) ≡ rows_under (shown start.groups) n.key.id (in_order_of n.key.columns fk.key key)
    rows = ap (λ g. rows_in g (in_order_of n.key.columns fk.key key)) (groups_shown now.groups n.key.id)
        ∙ (s n.key.id n.constraint n.at).rows (in_order_of n.key.columns fk.key key)
        ∙ ap (λ g. rows_in g (in_order_of n.key.columns fk.key key)) (sym (groups_shown start.groups n.key.id))

pub stay_flagged : (constraints : List Constraint) (start now : Contents) (violating later : GroupFlags) → AllNamed constraints → NoneMoves constraints start now violating later
    → AreFlagged constraints (shown start.groups) violating → AreFlagged constraints (shown now.groups) later
stay_flagged constraints start now violating later all s =
    parts_make_the_whole constraints (shown start.groups) (shown now.groups) violating later
    (λ id c referenced at e right. to_shown id referenced c ((s id c at).flagged referenced (from_shown id referenced c right)))
    (λ id c fk at is right.
    violating_stay (is_referenced constraints (shown start.groups) fk) (is_referenced constraints (shown now.groups) fk) c.rule (own_groups (shown now.groups) id) (own_groups (shown now.groups) id) (violating_of later id) refl
    (λ other given. same_referenced constraints start now violating later fk other s (named_of constraints id c fk all at is))
    (to_shown id (is_referenced constraints (shown start.groups) fk) c ((s id c at).flagged (is_referenced constraints (shown start.groups) fk) (from_shown id (is_referenced constraints (shown start.groups) fk) c right))))
  where
    from_shown : (id : ℕ) (referenced : List Value → Bool) (c : Constraint) → Flagged referenced c.rule (own_groups (shown start.groups) id) (violating_of violating id) → Flagged referenced c.rule (shown_of start.groups id) (violating_of violating id)
    from_shown id referenced c = subst (λ g. Flagged referenced c.rule g (violating_of violating id)) (groups_shown start.groups id)

    to_shown : (id : ℕ) (referenced : List Value → Bool) (c : Constraint) → Flagged referenced c.rule (shown_of now.groups id) (violating_of later id) → Flagged referenced c.rule (own_groups (shown now.groups) id) (violating_of later id)
    to_shown id referenced c = subst (λ g. Flagged referenced c.rule g (violating_of later id)) (sym (groups_shown now.groups id))

-- the rows under a key are as before
pub stay_rows : (constraints : List Constraint) (start now : Contents) (violating later : GroupFlags) (id : ℕ) (c : Constraint) (key : List Value) → NoneMoves constraints start now violating later
    → slice_get constraints id ≡ Some c → rows_under (shown now.groups) id key ≡ rows_under (shown start.groups) id key
stay_rows constraints start now violating later id c key s at =
    ap (λ g. rows_in g key) (groups_shown now.groups id) ∙ (s id c at).rows key ∙ ap (λ g. rows_in g key) (sym (groups_shown start.groups id))

-- ---- room and change

-- after room was made the change can be made
pub ready : (constraints : List Constraint) (change : Change) (keys foreign_keys : List ℕ) (most : ℕ) (start now : Contents) (violating later : GroupFlags)
    → AreMet constraints change.table keys foreign_keys → IsPresent constraints (shown start.groups) change → AllStay constraints most start now violating later
    → ((k : ℕ) → has k keys ≡ true → HasRoom constraints change k (groups_of now.groups k)) → ((k : ℕ) → has k foreign_keys ≡ true → HasRoom constraints change k (groups_of now.groups k))
    → (k : ℕ) (c : Constraint) → slice_get constraints k ≡ Some c → IsReady change c (groups_of now.groups k)
ready constraints change keys foreign_keys most start now violating later met present s in_keys in_foreign_keys k c at = record {
  present = λ key e.
      ap (λ g. has change.row (rows_in g key)) (sym (groups_shown now.groups k))
      ∙ ap (has change.row) (stay_rows constraints start now violating later k c key s.stay at) ∙ present k c key at e;
  room_for = λ key moves e. by_table (change.table == c.table) refl key moves e;
}
  where
    by_table : (b : Bool) → (change.table == c.table) ≡ b → (key : List Value) → stays_put c change ≡ false → side_key c change.table change.new ≡ Some key → 0 < room_of (groups_of now.groups k) key
    by_table false t key moves e = absurd (some_none key (sym (sym (no_side change.new) ∙ e)))
      where
        no_side : (side : Option (List Value)) → side_key c change.table side ≡ None
        no_side None = refl
        no_side (Some values) = ap (λ b. if b then kept_key c.rule values else None) t
    by_table true t key moves e = by_place (has k keys) refl
      where
        by_place : (b : Bool) → has k keys ≡ b → 0 < room_of (groups_of now.groups k) key
        by_place true h = in_keys k h c key at moves e
        by_place false h = in_foreign_keys k (met_either constraints change.table keys foreign_keys met k c at t h) c key at moves e

pub then_followed : (constraints : List Constraint) (change : Change) (start mid now : Contents) (violating between later : GroupFlags) → AllNamed constraints
    → AllStay constraints (length constraints) start mid violating between → Followed constraints change 6 mid now between later → Followed constraints change 7 start now violating later
then_followed constraints change start mid now violating between later all s f = record {
  count = f.count ∙ s.count;
  violating_count = f.violating_count ∙ s.violating_count;
  follow = λ id c key at. f.follow id c key at ∙ ap (rows_moved c key change) (stay_rows constraints start mid violating between id c key s.stay at);
  flagged = λ right. f.flagged (stay_flagged constraints start mid violating between all s.stay right);
  watched = λ k w. f.watched k (s.watched k w);
  sizes = λ k key. omega (arith, s.sizes k key, f.sizes k key);
  grows = omega (arith, s.grows, f.grows);
  looked_up = omega (arith, s.looked_up, f.looked_up);
}
