-- What a step leaves of a constraint's groups and flags.
use Rattle.std.proofs.Common.{◌≡◌, refl, ℕ, ◌+◌, ◌<◌, ◌≤◌, Bool, List, length, Some, sym, ap, subst, ◌∙◌, arith}
use Rattle.std.proofs.lemmas.List.{length-map}
use Rattle.iv_store_following.specs.Types.{Value, Rule}
use Rattle.iv_store_groups.specs.Groups.{GroupOf, groups_of}
use Rattle.iv_store_violating.specs.Shown.{shown_group, shown_of}
use Rattle.iv_store_violating.specs.Flagging.{with_flag}
use Rattle.iv_laws_kept.specs.GroupFlags.{GroupFlags, violating_of, rows_at}
use Rattle.iv_store_following.specs.KeyGroups.{Flagged, place_of, violate_by, with_group, with_rows}
use Rattle.iv_store_following.specs.Steps.{IsWatched}
use Rattle.iv_store_following.proofs.Steps.{place_in, places_stay, violating_change, length_more}

shown_length : (gs : List (List GroupOf)) (id : ℕ) → length (shown_of gs id) ≡ length (groups_of gs id)
shown_length gs id = length-map (groups_of gs id) shown_group

pub places_of : (gs : List (List GroupOf)) (violating : GroupFlags) (id : ℕ) → IsWatched id gs violating → length (shown_of gs id) ≤ length (violating_of violating id)
places_of gs violating id w = omega (arith, shown_length gs id, w.places)

from_places : (gs : List (List GroupOf)) (violating : GroupFlags) (id : ℕ) → id < length gs → id < length violating → length (shown_of gs id) ≤ length (violating_of violating id) → IsWatched id gs violating
from_places gs violating id a b h = record { in_groups = a; in_violating = b; places = omega (arith, shown_length gs id, h) }

-- the place of a key is one of the flags
pub place_flagged : (gs : List (List GroupOf)) (violating : GroupFlags) (id : ℕ) (key : List Value) (place : ℕ) → IsWatched id gs violating → place_of (shown_of gs id) key ≡ Some place → place < length (violating_of violating id)
place_flagged gs violating id key place w e = place_in (shown_of gs id) (violating_of violating id) key place e (places_of gs violating id w)

-- if a group has other rows, and its flag is set anew
module _ (gs new : List (List GroupOf)) (violating later : GroupFlags) (id : ℕ) (key : List Value) (place : ℕ) (rows : List ℕ) (raised : Bool)
    (w : IsWatched id gs violating) (at : place_of (shown_of gs id) key ≡ Some place) (is : shown_of new id ≡ with_rows (shown_of gs id) place rows) where
  pub watched_set : length new ≡ length gs → length later ≡ length violating → violating_of later id ≡ with_flag (violating_of violating id) place raised → IsWatched id new later
  watched_set a b m =
      from_places new later id (subst (λ n. id < n) (sym a) w.in_groups) (subst (λ n. id < n) (sym b) w.in_violating)
      (places_stay (shown_of gs id) (shown_of new id) (violating_of violating id) (violating_of later id) place rows raised is m (places_of gs violating id w))

  pub flag_put : (is_referenced : List Value → Bool) (rule : Rule) (count : ℕ) → count ≡ length (rows_at (shown_of new id) place)
      → raised ≡ violate_by is_referenced rule key count → violating_of later id ≡ with_flag (violating_of violating id) place raised
      → Flagged is_referenced rule (shown_of gs id) (violating_of violating id) → Flagged is_referenced rule (shown_of new id) (violating_of later id)
  flag_put is_referenced rule count n m l =
      violating_change is_referenced rule (shown_of gs id) (shown_of new id) (violating_of violating id) (violating_of later id) key place rows (rows_at (shown_of new id) place) raised
      at is refl (places_of gs violating id w) (m ∙ ap (violate_by is_referenced rule key) n) l

-- if the groups are the same
pub shown_same : (gs new : List (List GroupOf)) (id : ℕ) → new ≡ gs → shown_of new id ≡ shown_of gs id
shown_same gs new id e = ap (λ g. shown_of g id) e

pub watched_flag : (gs new : List (List GroupOf)) (violating later : GroupFlags) (id place : ℕ) (raised : Bool) → IsWatched id gs violating → new ≡ gs → length later ≡ length violating
    → length (violating_of later id) ≡ length (violating_of violating id) → IsWatched id new later
watched_flag gs new violating later id place raised w e b l = record {
  in_groups = subst (λ g. id < length g) (sym e) w.in_groups;
  in_violating = subst (λ n. id < n) (sym b) w.in_violating;
  places = subst (λ g. length (groups_of g id) ≤ length (violating_of later id)) (sym e) (omega (arith, w.places, l));
}

-- after room was made under a key
pub watched_more : (gs new : List (List GroupOf)) (violating later : GroupFlags) (id : ℕ) (key : List Value) → IsWatched id gs violating
    → length new ≡ length gs → length later ≡ length violating → shown_of new id ≡ with_group key (shown_of gs id) → length (groups_of gs id) + 1 ≤ length (violating_of later id) → IsWatched id new later
watched_more gs new violating later id key w a b is l =
    from_places new later id (subst (λ n. id < n) (sym a) w.in_groups) (subst (λ n. id < n) (sym b) w.in_violating)
    (omega (arith, ap length is, length_more key (shown_of gs id), shown_length gs id, l))

-- if nothing but places came
pub watched_places : (gs new : List (List GroupOf)) (violating later : GroupFlags) (id : ℕ) → IsWatched id gs violating → new ≡ gs → length later ≡ length violating → length (violating_of violating id) ≤ length (violating_of later id) → IsWatched id new later
watched_places gs new violating later id w e b l = record {
  in_groups = subst (λ g. id < length g) (sym e) w.in_groups;
  in_violating = subst (λ n. id < n) (sym b) w.in_violating;
  places = subst (λ g. length (groups_of g id) ≤ length (violating_of later id)) (sym e) (omega (arith, w.places, l));
}
