-- Groups that are given back, and the flags that follow.
use Rattle.std.proofs.Common.{◌≡◌, ◌≢◌, refl, ℕ, zero, suc, ◌+◌, ◌-◌, ◌<◌, ◌≤◌, Bool, true, false, if◌then◌else◌, List, [], ◌∷◌, length, get_or, map, slice_get, Option, Some, None, sym, ap, subst, ◌∙◌, ⊎_elim, arith}
use Rattle.std.specs.Bool.{◌==◌, nat_lt}
use Rattle.std.specs.Prelude.{◌&&◌, ◌||◌}
use Rattle.std.proofs.lemmas.Bool.{cases_eq, cases_lt, cases_Bool, eq-eqb, ne_eqb, true≢false}
use Rattle.std.proofs.lemmas.Bool.Decides.{Decides-eqb}
use Rattle.std.proofs.lemmas.List.{get_or-map, get_or-set_same, get_or-set_other, get_or_past, get_or_default, length-map, length-set}
use Rattle.std.proofs.lemmas.Option.{slice_get-get_or}
use Rattle.iv_store_following.specs.Types.{Value, Rule, Constraint}
use Rattle.iv_store_groups.specs.Groups.{Contents, EachIsApart, GroupOf, given_back, groups_of, is_dead, no_group, rows_at, rows_of, with_groups, with_tight, without_group}
use Rattle.iv_store_groups.proofs.GivingLemmas.{given_back_is_nothing, key_at, source, source_else, source_here, source_in, swap_length}
use Rattle.iv_store_groups.proofs.GroupsLaws.{constraints_stay, groups_after}
use Rattle.iv_store_violating.specs.Shown.{shown_group, shown_of}
use Rattle.iv_store_violating.proofs.Shown.{rows_in_shown}
use Rattle.iv_store_violating.specs.Flagging.{flag, with_flag}
use Rattle.iv_laws_kept.specs.Kept.{rows_in, violates_alone}
use Rattle.iv_laws_kept.specs.GroupFlags.{GroupFlags, violating_of}
use Rattle.iv_store_following.specs.KeyGroups.{Flagged, break_by, group_violates}
use Rattle.iv_store_following.specs.Steps.{IsWatched, RowsStay}
use Rattle.iv_store_following.specs.Turns.{AllGiven, moved_flag}

-- ---- a flag that moves

pub moves_none : (from to place : ℕ) (was : Bool) → moved_flag false from to place was ≡ was
moves_none from to place was = refl

pub moves_to : (violating : List Bool) (from to place : ℕ) → from < length violating → to < length violating → flag violating from ≡ true
    → flag (with_flag (with_flag violating from false) to true) place ≡ moved_flag (flag violating from) from to place (flag violating place)
moves_to violating from to place lf lt flagged = ⊎_elim
    (λ (e : place ≡ to).
    ap (λ (n : ℕ). flag (with_flag (with_flag violating from false) to true) n) e
    ∙ get_or-set_same (with_flag violating from false) to true false (omega (arith, length-set violating from false))
    ∙ sym (ap (λ b. moved_flag b from to place (flag violating place)) flagged ∙ ap (λ b. if b then true else if place == from then false else flag violating place) (eq-eqb place to e)))
    (λ (n : place ≢ to).
    get_or-set_other (with_flag violating from false) to place true false n
    ∙ by_from n
    ∙ sym (ap (λ b. moved_flag b from to place (flag violating place)) flagged ∙ ap (λ b. if b then true else if place == from then false else flag violating place) (ne_eqb place to n)))
    (cases_eq place to)
  where
    by_from : place ≢ to → flag (with_flag violating from false) place ≡ (if place == from then false else flag violating place)
    by_from n = ⊎_elim
        (λ (e : place ≡ from). ap (λ (x : ℕ). flag (with_flag violating from false) x) e ∙ get_or-set_same violating from false false lf
        ∙ sym (ap (λ b. if b then false else flag violating place) (eq-eqb place from e)))
        (λ (m : place ≢ from). get_or-set_other violating from place false false m ∙ sym (ap (λ b. if b then false else flag violating place) (ne_eqb place from m)))
        (cases_eq place from)

-- ---- the flags of one constraint

module _ (referenced : List Value → Bool) (rule : Rule) (gs : List GroupOf) (place : ℕ) (lp : place < length gs) (dead : is_dead gs place ≡ true) where
  abbrev last : ℕ
  last = length gs - 1

  abbrev violates : GroupOf → Bool
  violates g = group_violates referenced rule (shown_group g)

  abbrev all : List GroupOf → List Bool
  all groups = map (group_violates referenced rule) (map shown_group groups)

  all_length : (groups : List GroupOf) → length (all groups) ≡ length groups
  all_length groups = length-map (map shown_group groups) (group_violates referenced rule) ∙ length-map groups shown_group

  at_place : (groups : List GroupOf) (p : ℕ) → p < length groups → flag (all groups) p ≡ violates (get_or groups p no_group)
  at_place groups p l =
      get_or-map (group_violates referenced rule) (map shown_group groups) p (shown_group no_group) false (omega (arith, length-map groups shown_group))
      ∙ ap (group_violates referenced rule) (get_or-map shown_group groups p no_group (shown_group no_group) l)

  past : (groups : List GroupOf) (p : ℕ) → length groups ≤ p → flag (all groups) p ≡ false
  past groups p le = get_or_past (all groups) p false (omega (arith, all_length groups))

  -- a group of no row violates nothing
  dead_violates : violates (get_or gs place no_group) ≡ false
  dead_violates =
      let at : rows_at gs place ≡ (get_or gs place no_group).held.rows =
      ap (λ (o : Option GroupOf). elim o [ Some g ↦ g.held.rows | None ↦ [] ]) (slice_get-get_or gs place no_group lp) in
      let none : length (get_or gs place no_group).held.rows ≡ 0 = sym (ap length at) ∙ (Decides-eqb (length (rows_at gs place)) 0).0 dead in
      ap (λ (n : ℕ). nat_lt 0 n && (violates_alone rule (get_or gs place no_group).key || break_by referenced rule (get_or gs place no_group).key n)) none

  pub flagged_given : (violating later : List Bool) → ((p : ℕ) → flag later p ≡ moved_flag (flag violating last) last place p (flag violating p))
      → Flagged referenced rule (map shown_group gs) violating → Flagged referenced rule (map shown_group (without_group gs place)) later
  flagged_given violating later moved right p = moved p ∙ ⊎_elim
      (λ (l : p < last). by_place l)
      (λ (le : last ≤ p). at_end le ∙ sym (past (without_group gs place) p (omega (arith, len))))
      (cases_lt p last)
    where
      len : length (without_group gs place) ≡ last
      len = swap_length gs place no_group lp

      -- what the flags say of the places that stay
      now_at : (l : p < last) → flag (all (without_group gs place)) p ≡ violates (get_or gs (source last place p) no_group)
      now_at l = at_place (without_group gs place) p (omega (arith, len)) ∙ ap violates (key_at gs place p no_group l)

      last_is : flag violating last ≡ violates (get_or gs last no_group)
      last_is = right last ∙ at_place gs last (omega arith)

      place_is : flag violating place ≡ false
      place_is = right place ∙ at_place gs place lp ∙ dead_violates

      by_place : p < last → moved_flag (flag violating last) last place p (flag violating p) ≡ flag (all (without_group gs place)) p
      by_place l = ⊎_elim
          (λ (e : p ≡ place).
          here (flag violating last) refl e ∙ last_is ∙ ap (λ (n : ℕ). violates (get_or gs n no_group)) (sym (source_here last place p e)) ∙ sym (now_at l))
          (λ (n : p ≢ place).
          there (flag violating last) n l ∙ right p ∙ at_place gs p (omega arith) ∙ ap (λ (x : ℕ). violates (get_or gs x no_group)) (sym (source_else last place p n)) ∙ sym (now_at l))
          (cases_eq p place)
        where
          here : (b : Bool) → flag violating last ≡ b → p ≡ place → moved_flag b last place p (flag violating p) ≡ b
          here true m e = ap (λ t. if t then true else if p == last then false else flag violating p) (eq-eqb p place e)
          here false m e = ap (λ (x : ℕ). flag violating x) e ∙ place_is

          there : (b : Bool) → p ≢ place → p < last → moved_flag b last place p (flag violating p) ≡ flag violating p
          there true n l = ap (λ t. if t then true else if p == last then false else flag violating p) (ne_eqb p place n)
              ∙ ap (λ t. if t then false else flag violating p) (ne_eqb p last (λ (e : p ≡ last). omega arith))
          there false n l = refl

      at_end : last ≤ p → moved_flag (flag violating last) last place p (flag violating p) ≡ false
      at_end le = ⊎_elim
          (λ (e : p ≡ last). ⊎_elim
          (λ (q : place ≡ last). (let f : flag violating last ≡ false = ap (λ (x : ℕ). flag violating x) (sym q) ∙ place_is in
          ap (λ b. moved_flag b last place p (flag violating p)) f ∙ ap (λ (x : ℕ). flag violating x) e ∙ f))
          (λ (n : place ≢ last). ends (flag violating last) refl e (λ (x : p ≡ place). n (sym x ∙ e)))
          (cases_eq place last))
          (λ (n : p ≢ last). beyond (flag violating last) n (λ (x : p ≡ place). omega arith))
          (cases_eq p last)
        where
          ends : (b : Bool) → flag violating last ≡ b → p ≡ last → p ≢ place → moved_flag b last place p (flag violating p) ≡ false
          ends true m e n = ap (λ t. if t then true else if p == last then false else flag violating p) (ne_eqb p place n)
              ∙ ap (λ t. if t then false else flag violating p) (eq-eqb p last e)
          ends false m e n = ap (λ (x : ℕ). flag violating x) e ∙ m

          beyond : (b : Bool) → p ≢ last → p ≢ place → moved_flag b last place p (flag violating p) ≡ false
          beyond true n m = ap (λ t. if t then true else if p == last then false else flag violating p) (ne_eqb p place m)
              ∙ ap (λ t. if t then false else flag violating p) (ne_eqb p last n) ∙ right p ∙ past gs p (omega arith)
          beyond false n m = right p ∙ past gs p (omega arith)

-- ---- one constraint, and all

-- a place of a constraint was given back
module _ (start now : Contents) (violating later : GroupFlags) (id place : ℕ) (apart : EachIsApart (groups_of start.groups id)) (known : id < length start.groups)
    (lp : place < length (groups_of start.groups id)) (groups_are : now.groups ≡ with_groups start.groups id (given_back (groups_of start.groups id) place)) where
  own_now : groups_of now.groups id ≡ given_back (groups_of start.groups id) place
  own_now = ap (λ gs. groups_of gs id) groups_are ∙ groups_after start.groups id id (given_back (groups_of start.groups id) place) known
      ∙ ap (λ b. if b then given_back (groups_of start.groups id) place else groups_of start.groups id) (eq-eqb id id refl)

  other_now : (k : ℕ) → k ≢ id → groups_of now.groups k ≡ groups_of start.groups k
  other_now k n = ap (λ gs. groups_of gs k) groups_are ∙ groups_after start.groups id k (given_back (groups_of start.groups id) place) known
      ∙ ap (λ b. if b then given_back (groups_of start.groups id) place else groups_of start.groups k) (ne_eqb k id n)

  count_now : length now.groups ≡ length start.groups
  count_now = ap length groups_are ∙ constraints_stay start.groups id (given_back (groups_of start.groups id) place)

  rows_now : (key : List Value) → rows_in (map shown_group (groups_of now.groups id)) key ≡ rows_in (map shown_group (groups_of start.groups id)) key
  rows_now key = rows_in_shown (groups_of now.groups id) key ∙ ap (λ gs. rows_of gs key) own_now
      ∙ given_back_is_nothing (groups_of start.groups id) place apart lp key ∙ sym (rows_in_shown (groups_of start.groups id) key)

  -- if it had no row
  module _ (dead : is_dead (groups_of start.groups id) place ≡ true) (same_count : length later ≡ length violating) (places : length (violating_of violating id) ≤ length (violating_of later id) + 1)
      (others : (k : ℕ) → k ≢ id → violating_of later k ≡ violating_of violating k)
      (flags : (p : ℕ) → flag (violating_of later id) p ≡ moved_flag (flag (violating_of violating id) (length (groups_of start.groups id) - 1)) (length (groups_of start.groups id) - 1) place p (flag (violating_of violating id) p))
      (looked_up : now.looked_up ≡ start.looked_up) where
    without : groups_of now.groups id ≡ without_group (groups_of start.groups id) place
    without = own_now ∙ ap (λ b. if b then without_group (groups_of start.groups id) place else with_tight (groups_of start.groups id) place) dead

    stay_own : (c : Constraint) → RowsStay c (map shown_group (groups_of start.groups id)) (violating_of violating id) (map shown_group (groups_of now.groups id)) (violating_of later id)
    stay_own c = record {
      rows = rows_now;
      flagged = λ referenced right. subst (λ gs. Flagged referenced c.rule (map shown_group gs) (violating_of later id)) (sym without)
          (flagged_given referenced c.rule (groups_of start.groups id) place lp dead (violating_of violating id) (violating_of later id) flags right);
    }

    stay_other : (k : ℕ) (c : Constraint) → k ≢ id → RowsStay c (map shown_group (groups_of start.groups k)) (violating_of violating k) (map shown_group (groups_of now.groups k)) (violating_of later k)
    stay_other k c n =
        subst (λ gs. RowsStay c (map shown_group (groups_of start.groups k)) (violating_of violating k) (map shown_group gs) (violating_of later k)) (sym (other_now k n))
        (subst (λ m. RowsStay c (map shown_group (groups_of start.groups k)) (violating_of violating k) (map shown_group (groups_of start.groups k)) m) (sym (others k n))
        (record { rows = λ key. refl; flagged = λ referenced right. right }))

    watched_now : (k : ℕ) → IsWatched k start.groups violating → IsWatched k now.groups later
    watched_now k w = record {
      in_groups = subst (λ n. k < n) (sym count_now) w.in_groups;
      in_violating = subst (λ n. k < n) (sym same_count) w.in_violating;
      places = ⊎_elim
          (λ (e : k ≡ id). (let lw : length (groups_of start.groups id) ≤ length (violating_of violating id) = subst (λ (n : ℕ). length (groups_of start.groups n) ≤ length (violating_of violating n)) e w.places in
          let ln : length (groups_of now.groups id) ≡ length (groups_of start.groups id) - 1 = ap length without ∙ swap_length (groups_of start.groups id) place no_group lp in
          subst (λ (n : ℕ). length (groups_of now.groups n) ≤ length (violating_of later n)) (sym e) (omega (arith, lw, ln, places))))
          (λ (n : k ≢ id). omega (arith, w.places, ap length (other_now k n), ap length (others k n)))
          (cases_eq k id);
    }

    pub all_given_dead : AllGiven start now violating later
    all_given_dead = record {
      count = count_now;
      violating_count = same_count;
      stay = λ k c. ⊎_elim
          (λ (e : k ≡ id). subst (λ (n : ℕ). RowsStay c (map shown_group (groups_of start.groups n)) (violating_of violating n) (map shown_group (groups_of now.groups n)) (violating_of later n)) (sym e) (stay_own c))
          (λ (n : k ≢ id). stay_other k c n)
          (cases_eq k id);
      watched = watched_now;
      looked_up = looked_up;
    }

-- each group shows what it showed
pub all_given_shown : (start now : Contents) (violating later : GroupFlags) → ((k : ℕ) → shown_of now.groups k ≡ shown_of start.groups k) → length now.groups ≡ length start.groups
    → later ≡ violating → now.looked_up ≡ start.looked_up → AllGiven start now violating later
all_given_shown start now violating later groups count same looked_up = record {
  count = count;
  violating_count = ap length same;
  stay = λ k c.
      subst (λ gs. RowsStay c (shown_of start.groups k) (violating_of violating k) gs (violating_of later k)) (sym (groups k))
      (subst (λ ms. RowsStay c (shown_of start.groups k) (violating_of violating k) (shown_of start.groups k) (violating_of ms k)) (sym same)
      (record { rows = λ key. refl; flagged = λ referenced right. right }));
  watched = λ k w. record {
    in_groups = subst (λ n. k < n) (sym count) w.in_groups;
    in_violating = subst (λ ms. k < length ms) (sym same) w.in_violating;
    places = omega (arith, w.places, many k, ap (λ ms. length (violating_of ms k)) same);
  };
  looked_up = looked_up;
}
  where
    many : (k : ℕ) → length (groups_of now.groups k) ≡ length (groups_of start.groups k)
    many k = sym (length-map (groups_of now.groups k) shown_group) ∙ ap length (groups k) ∙ length-map (groups_of start.groups k) shown_group

-- the room of a group isn't shown
shown_tight : (gs : List GroupOf) (place : ℕ) → map shown_group (with_tight gs place) ≡ map shown_group gs
shown_tight [] place = refl
shown_tight (g ∷ gs) zero = refl
shown_tight (g ∷ gs) (suc place) = ap (λ rest. shown_group g ∷ rest) (shown_tight gs place)

pub all_given_live : (start now : Contents) (violating : GroupFlags) (id place : ℕ) → id < length start.groups → is_dead (groups_of start.groups id) place ≡ false
    → now.groups ≡ with_groups start.groups id (given_back (groups_of start.groups id) place) → now.looked_up ≡ start.looked_up → AllGiven start now violating violating
all_given_live start now violating id place known live groups_are looked_up =
    all_given_shown start now violating violating same (ap length groups_are ∙ constraints_stay start.groups id (given_back (groups_of start.groups id) place)) refl looked_up
  where
    same : (k : ℕ) → shown_of now.groups k ≡ shown_of start.groups k
    same k = ap (λ gs. map shown_group (groups_of gs k)) groups_are ∙ ap (map shown_group) (groups_after start.groups id k (given_back (groups_of start.groups id) place) known) ∙ ⊎_elim
        (λ (e : k ≡ id). ap (λ b. map shown_group (if b then given_back (groups_of start.groups id) place else groups_of start.groups k)) (eq-eqb k id e)
        ∙ ap (λ b. map shown_group (if b then without_group (groups_of start.groups id) place else with_tight (groups_of start.groups id) place)) live
        ∙ shown_tight (groups_of start.groups id) place ∙ ap (λ (n : ℕ). shown_of start.groups n) (sym e))
        (λ (n : k ≢ id). ap (λ b. map shown_group (if b then given_back (groups_of start.groups id) place else groups_of start.groups k)) (ne_eqb k id n))
        (cases_eq k id)

-- one step more
pub all_given_more : (start mid now : Contents) (violating between later : GroupFlags) → AllGiven start mid violating between → AllGiven mid now between later → AllGiven start now violating later
all_given_more start mid now violating between later first second = record {
  count = second.count ∙ first.count;
  violating_count = second.violating_count ∙ first.violating_count;
  stay = λ k c. record {
    rows = λ key. (second.stay k c).rows key ∙ (first.stay k c).rows key;
    flagged = λ referenced right. (second.stay k c).flagged referenced ((first.stay k c).flagged referenced right);
  };
  watched = λ k w. second.watched k (first.watched k w);
  looked_up = second.looked_up ∙ first.looked_up;
}
