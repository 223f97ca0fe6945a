-- Constraints that are changed one after the other.
use Rattle.std.proofs.Common.{◌≡◌, ◌≢◌, refl, ℕ, suc, ◌+◌, ◌*◌, ◌<◌, ◌≤◌, Bool, true, false, ◌||◌, List, [], ◌∷◌, length, drop, get_or, map, Option, Some, sym, ap, subst, ◌∙◌, arith}
use Rattle.std.proofs.lemmas.Bool.{true≢false, eqb-true, eq-eqb}
use Rattle.std.proofs.lemmas.List.{drop_more, drop_all}
use Rattle.std.specs.Bool.{◌==◌}
use Rattle.iv_store_following.specs.Types.{Change, Constraint}
use Rattle.iv_store_groups.specs.Groups.{GroupOf, Contents, groups_of}
use Rattle.iv_store_violating.specs.Shown.{shown_group}
use Rattle.iv_store_violating.specs.Flagging.{NoRepeats}
use Rattle.iv_laws_kept.specs.GroupFlags.{GroupFlags, violating_of}
use Rattle.iv_laws_kept.specs.Numbers.{has}
use Rattle.iv_laws_kept.proofs.RisingNumbers.{has_head, has_other}
use Rattle.iv_store_following.specs.Steps.{IsWatched, OnlyOf, RowsStay}
use Rattle.iv_store_following.specs.declared.reference.KeyReference.{KeyReference}
use Rattle.iv_store_following.specs.References.{ReferenceMoved, reference_at}
use Rattle.iv_store_following.specs.Turns.{AllStay, Left, ReferenceTurn, RoomTurn, StayTurn, Turned}

-- a constraint other than the one that a step changed is watched as before
watched_other : (k id most : ℕ) (old new : Contents) (violating later : GroupFlags) → OnlyOf id most old new violating later → k ≢ id → IsWatched k old.groups violating → IsWatched k new.groups later
watched_other k id most old new violating later o n w = record {
  in_groups = subst (λ m. k < m) (sym o.count) w.in_groups;
  in_violating = subst (λ m. k < m) (sym o.violating_count) w.in_violating;
  places = subst (λ g. length g ≤ length (violating_of later k)) (sym (o.others k n)) (subst (λ m. length (groups_of old.groups k) ≤ length m) (sym (o.other_violating k n)) w.places);
}

-- before the first turn
pub turned_none : (Leaves : Left) (most : ℕ) (places : List ℕ) (start : Contents) (violating : GroupFlags) → Turned Leaves most places places start start violating violating
turned_none Leaves most places start violating = record {
  count = refl;
  violating_count = refl;
  inside = λ k h. h;
  done = λ k h n. absurd (true≢false (sym h ∙ n));
  waiting = λ k h. (refl, refl);
  others = λ k h. (refl, refl);
  watched = λ k w. w;
  sizes = λ k key. omega arith;
  grows = omega arith;
  looked_up = omega arith;
}

-- one turn more
pub turned_next : (Leaves : Left) (most : ℕ) (places rest : List ℕ) (id : ℕ) (start now next : Contents) (violating mid later : GroupFlags)
    → NoRepeats (id ∷ rest) → Turned Leaves most places (id ∷ rest) start now violating mid → OnlyOf id most now next mid later
    → (IsWatched id now.groups mid → IsWatched id next.groups later)
    → Leaves id (groups_of now.groups id) (violating_of mid id) (groups_of next.groups id) (violating_of later id)
    → Turned Leaves most places rest start next violating later
turned_next Leaves most places rest id start now next violating mid later once t o w leaves = record {
  count = o.count ∙ t.count;
  violating_count = o.violating_count ∙ t.violating_count;
  inside = λ k h. t.inside k (here k h);
  done = λ k h n. by_place k (id == k) refl h n;
  waiting = λ k h. let d = apart k h in (o.others k d ∙ (t.waiting k (here k h)).0, o.other_violating k d ∙ (t.waiting k (here k h)).1);
  others = λ k h. let d = outside k h in (o.others k d ∙ (t.others k h).0, o.other_violating k d ∙ (t.others k h).1);
  watched = λ k u. watch k (id == k) refl (t.watched k u);
  sizes = λ k key. omega (arith, t.sizes k key, o.sizes k key);
  grows = omega (arith, t.grows, o.grows);
  looked_up = more;
}
  where
    here : (k : ℕ) → has k rest ≡ true → has k (id ∷ rest) ≡ true
    here k h = elim (id == k) as (λ b. (b || has k rest) ≡ true) [ true ↦ refl | false ↦ h ]

    apart : (k : ℕ) → has k rest ≡ true → k ≡ id → ⊥
    apart k h e = true≢false (sym h ∙ ap (λ n. has n rest) e ∙ once.0)

    outside : (k : ℕ) → has k places ≡ false → k ≡ id → ⊥
    outside k h e = true≢false (sym (t.inside id (has_head id rest)) ∙ ap (λ n. has n places) (sym e) ∙ h)

    differ : (k : ℕ) → (id == k) ≡ false → k ≡ id → ⊥
    differ k e f = true≢false (sym (eq-eqb id k (sym f)) ∙ e)

    by_place : (k : ℕ) (b : Bool) → (id == k) ≡ b → has k places ≡ true → has k rest ≡ false → Leaves k (groups_of start.groups k) (violating_of violating k) (groups_of next.groups k) (violating_of later k)
    by_place k true e h n =
        let at = t.waiting id (has_head id rest) in
        subst (λ m. Leaves m (groups_of start.groups m) (violating_of violating m) (groups_of next.groups m) (violating_of later m)) (eqb-true id k e)
        (subst (λ g. Leaves id g (violating_of violating id) (groups_of next.groups id) (violating_of later id)) at.0
        (subst (λ m. Leaves id (groups_of now.groups id) m (groups_of next.groups id) (violating_of later id)) at.1 leaves))
    by_place k false e h n =
        subst (λ g. Leaves k (groups_of start.groups k) (violating_of violating k) g (violating_of later k)) (sym (o.others k (differ k e)))
        (subst (λ m. Leaves k (groups_of start.groups k) (violating_of violating k) (groups_of now.groups k) m) (sym (o.other_violating k (differ k e)))
        (t.done k h (has_other k id rest e ∙ n)))

    watch : (k : ℕ) (b : Bool) → (id == k) ≡ b → IsWatched k now.groups mid → IsWatched k next.groups later
    watch k true e u = subst (λ m. IsWatched m next.groups later) (eqb-true id k e) (w (subst (λ m. IsWatched m now.groups mid) (sym (eqb-true id k e)) u))
    watch k false e u = watched_other k id most now next mid later o (differ k e) u

    unfolded : (m n : ℕ) → m * suc n ≡ m + m * n
    unfolded m n = omega arith

    more : next.looked_up + most * length rest ≤ start.looked_up + most * length places
    more = omega (arith, t.looked_up, o.looked_up, unfolded most (length rest))

-- ---- room

-- if nothing is changed, rows stay
stay_same : (constraints : List Constraint) (k : ℕ) (groups after : List GroupOf) (violating later : List Bool) → after ≡ groups → later ≡ violating → StayTurn constraints k groups violating after later
stay_same constraints k groups after violating later e f c at =
    subst (λ g. RowsStay c (map shown_group groups) violating (map shown_group g) later) (sym e)
    (subst (λ m. RowsStay c (map shown_group groups) violating (map shown_group groups) m) (sym f)
    (record { rows = λ key. refl; flagged = λ referenced right. right }))

-- after all turns
pub all_stay : (constraints : List Constraint) (change : Change) (places : List ℕ) (start now : Contents) (violating later : GroupFlags)
    → Turned (RoomTurn constraints change) 1 places [] start now violating later → AllStay constraints (length places) start now violating later
all_stay constraints change places start now violating later t = record {
  count = t.count;
  violating_count = t.violating_count;
  stay = λ k. by_place k (has k places) refl;
  watched = t.watched;
  sizes = t.sizes;
  grows = t.grows;
  looked_up = omega (arith, t.looked_up);
}
  where
    by_place : (k : ℕ) (b : Bool) → has k places ≡ b → StayTurn constraints k (groups_of start.groups k) (violating_of violating k) (groups_of now.groups k) (violating_of later k)
    by_place k true e = (t.done k e refl).0
    by_place k false e = let same = t.others k e in stay_same constraints k (groups_of start.groups k) (groups_of now.groups k) (violating_of violating k) (violating_of later k) same.0 same.1

-- after a turn for which an allocation failed
pub stay_refused : (constraints : List Constraint) (change : Change) (places rest : List ℕ) (id : ℕ) (start now next : Contents) (violating mid later : GroupFlags)
    → NoRepeats (id ∷ rest) → Turned (RoomTurn constraints change) 1 places (id ∷ rest) start now violating mid → OnlyOf id 1 now next mid later
    → (IsWatched id now.groups mid → IsWatched id next.groups later)
    → StayTurn constraints id (groups_of now.groups id) (violating_of mid id) (groups_of next.groups id) (violating_of later id)
    → AllStay constraints (length places) start next violating later
stay_refused constraints change places rest id start now next violating mid later once t o w leaves = record {
  count = n.count;
  violating_count = n.violating_count;
  stay = λ k. by_place k (has k places) refl;
  watched = n.watched;
  sizes = n.sizes;
  grows = n.grows;
  looked_up = omega (arith, n.looked_up);
}
  where
    weaker : Turned (StayTurn constraints) 1 places (id ∷ rest) start now violating mid
    weaker = record {
      count = t.count;
      violating_count = t.violating_count;
      inside = t.inside;
      done = λ k h e. (t.done k h e).0;
      waiting = t.waiting;
      others = t.others;
      watched = t.watched;
      sizes = t.sizes;
      grows = t.grows;
      looked_up = t.looked_up;
    }

    n : Turned (StayTurn constraints) 1 places rest start next violating later
    n = turned_next (StayTurn constraints) 1 places rest id start now next violating mid later once weaker o w leaves

    by_place : (k : ℕ) (b : Bool) → has k places ≡ b → StayTurn constraints k (groups_of start.groups k) (violating_of violating k) (groups_of next.groups k) (violating_of later k)
    by_place k false e = let same = n.others k e in stay_same constraints k (groups_of start.groups k) (groups_of next.groups k) (violating_of violating k) (violating_of later k) same.0 same.1
    by_place k true e = by_rest (has k rest) refl
      where
        by_rest : (b : Bool) → has k rest ≡ b → StayTurn constraints k (groups_of start.groups k) (violating_of violating k) (groups_of next.groups k) (violating_of later k)
        by_rest false f = n.done k e f
        by_rest true f = let same = n.waiting k f in stay_same constraints k (groups_of start.groups k) (groups_of next.groups k) (violating_of violating k) (violating_of later k) same.0 same.1

-- ---- loops over the numbers of constraints

abbrev Loop : Left → ℕ → List ℕ → ℕ → Contents → Contents → GroupFlags → GroupFlags → Type 0
Loop Leaves most places i start now violating mid = Turned Leaves most places (drop i places) start now violating mid × NoRepeats (drop i places)

module _ (Leaves : Left) (most : ℕ) (places : List ℕ) (i : ℕ) (start now : Contents) (violating mid : GroupFlags) (more : i < length places) (t : Loop Leaves most places i start now violating mid) where
  rest : drop i places ≡ get_or places i 0 ∷ drop (i + 1) places
  rest = drop_more places i 0 more

  once : NoRepeats (get_or places i 0 ∷ drop (i + 1) places)
  once = subst NoRepeats rest t.1

  so_far : Turned Leaves most places (get_or places i 0 ∷ drop (i + 1) places) start now violating mid
  so_far = subst (λ xs. Turned Leaves most places xs start now violating mid) rest t.0

  -- the constraint whose turn it is is one of them
  pub turn_inside : has (get_or places i 0) places ≡ true
  turn_inside = so_far.inside (get_or places i 0) (has_head (get_or places i 0) (drop (i + 1) places))

  pub turn_watched : ((k : ℕ) → has k places ≡ true → IsWatched k start.groups violating) → IsWatched (get_or places i 0) now.groups mid
  turn_watched w = so_far.watched (get_or places i 0) (w (get_or places i 0) turn_inside)

  pub turn : (next : Contents) (later : GroupFlags) → OnlyOf (get_or places i 0) most now next mid later → IsWatched (get_or places i 0) next.groups later
      → Leaves (get_or places i 0) (groups_of now.groups (get_or places i 0)) (violating_of mid (get_or places i 0)) (groups_of next.groups (get_or places i 0)) (violating_of later (get_or places i 0))
      → Loop Leaves most places (i + 1) start next violating later
  turn next later o w leaves = (turned_next Leaves most places (drop (i + 1) places) (get_or places i 0) start now next violating mid later once so_far o (λ _. w) leaves, once.1)

-- a turn for which an allocation failed
pub turn_refused : (constraints : List Constraint) (change : Change) (places : List ℕ) (i : ℕ) (start now next : Contents) (violating mid later : GroupFlags) → i < length places
    → Loop (RoomTurn constraints change) 1 places i start now violating mid → OnlyOf (get_or places i 0) 1 now next mid later → IsWatched (get_or places i 0) next.groups later
    → StayTurn constraints (get_or places i 0) (groups_of now.groups (get_or places i 0)) (violating_of mid (get_or places i 0)) (groups_of next.groups (get_or places i 0)) (violating_of later (get_or places i 0))
    → AllStay constraints (length places) start next violating later
turn_refused constraints change places i start now next violating mid later more t o w leaves =
    stay_refused constraints change places (drop (i + 1) places) (get_or places i 0) start now next violating mid later
    (once (RoomTurn constraints change) 1 places i start now violating mid more t) (so_far (RoomTurn constraints change) 1 places i start now violating mid more t) o (λ _. w) leaves

-- after the last turn
pub ended : (Leaves : Left) (most : ℕ) (places : List ℕ) (i : ℕ) (start now : Contents) (violating mid : GroupFlags) → length places ≤ i → Loop Leaves most places i start now violating mid → Turned Leaves most places [] start now violating mid
ended Leaves most places i start now violating mid end t = subst (λ xs. Turned Leaves most places xs start now violating mid) (drop_all i places end) t.0

-- what the part of a foreign key asks
module _ (constraints : List Constraint) (references : List (Option KeyReference)) (change : Change) (places : List ℕ) (i : ℕ) (start now : Contents) (violating mid : GroupFlags) (more : i < length places)
    (t : Loop (ReferenceTurn constraints references change start.groups) 6 places i start now violating mid)
    (named : (k : ℕ) (r : KeyReference) → reference_at references k ≡ Some r → (r.named < length start.groups) × (has r.named places ≡ false)) where
  pub named_there : (r : KeyReference) → reference_at references (get_or places i 0) ≡ Some r → (r.named < length now.groups) × (get_or places i 0 ≢ r.named)
  named_there r e = (
    subst (λ n. r.named < n) (sym t.0.count) (named (get_or places i 0) r e).0,
    λ is. true≢false (sym (turn_inside (ReferenceTurn constraints references change start.groups) 6 places i start now violating mid more t) ∙ ap (λ n. has n places) is ∙ (named (get_or places i 0) r e).1),
  )

  pub from_start : (after : List GroupOf) (later : List Bool)
      → ReferenceTurn constraints references change now.groups (get_or places i 0) (groups_of now.groups (get_or places i 0)) (violating_of mid (get_or places i 0)) after later
      → ReferenceTurn constraints references change start.groups (get_or places i 0) (groups_of now.groups (get_or places i 0)) (violating_of mid (get_or places i 0)) after later
  from_start after later moved c r at e =
      subst (λ g. ReferenceMoved r change (map shown_group g) c (map shown_group (groups_of now.groups (get_or places i 0))) (violating_of mid (get_or places i 0)) (map shown_group after) later)
      (t.0.others r.named (named (get_or places i 0) r e).1).0 (moved c r at e)
