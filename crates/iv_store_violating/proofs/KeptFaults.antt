-- The kept violations, from the constraints with a flagged place.
use Rattle.std.proofs.Common.{◌≡◌, ◌≢◌, refl, ℕ, suc, ◌+◌, ◌<◌, ◌≤◌, Bool, true, false, ◌&&◌, if◌then◌else◌, List, [], ◌∷◌, ◌++◌, length, drop, get_or, map, filter, flat_map, slice_get, option_map, Option, Some, None, sym, ap, ◌∙◌, ⊎_elim, arith}
use Rattle.std.specs.Bool.{◌==◌}
use Rattle.std.specs.List.{enumerate_from}
use Rattle.std.proofs.lemmas.List.{append_assoc, at_drop_more}
use Rattle.std.proofs.lemmas.Bool.{true≢false, cases_eq, cases_lt, ne_eqb, or_right}
use Rattle.iv_catalogue.specs.declared.cause.Fault.{Fault}
use Rattle.iv_catalogue.specs.declared.constraint.Constraint.{Constraint}
use Rattle.iv_machine.specs.Databases.{first}
use Rattle.iv_laws_levels.proofs.Keys.{false_true, and_second}
use Rattle.iv_laws_levels.proofs.RowNumbers.{some_none, some_same}
use Rattle.iv_laws_kept.specs.Numbers.{has, in_rising_order, AllAbove, Rise}
use Rattle.iv_laws_kept.specs.Kept.{Groups, fault_of, chosen_rows, kept, kept_rows}
use Rattle.iv_laws_kept.specs.GroupFlags.{GroupFlags, violating_of, AreFlagged}
use Rattle.iv_laws_kept.proofs.RisingNumbers.{has_head, has_other, has_in_rising_order, not_above, rise_in_rising_order}
use Rattle.iv_store_violating.specs.Flagging.{is_any, NoRepeats}
use Rattle.iv_store_violating.specs.Answers.{rows_kept, faults_kept}
use Rattle.iv_store_violating.proofs.Once.{has_filter, length_once, once_filter}
use Rattle.iv_store_violating.proofs.KeptRows.{known, none_kept, some_kept}

-- ---- numbers of constraints, from n on

-- the constraint of this number, if the first has the number n
record Numbered (n : ℕ) (constraints : List Constraint) (id : ℕ) (c : Constraint) : Type 0 where
  place : ℕ
  is : id ≡ n + place
  at : slice_get constraints place ≡ Some c

later : (n id : ℕ) (d c : Constraint) (constraints : List Constraint) → Numbered (n + 1) constraints id c → Numbered n (d ∷ constraints) id c
later n id d c constraints h = let e = h.is in record { place = suc h.place; is = omega (arith, e); at = h.at }

above_has : (low n : ℕ) (numbers : List ℕ) → AllAbove low numbers → has n numbers ≡ true → low < n
above_has low n numbers a e = ⊎_elim
    (λ (l : low < n). l)
    (λ (l : n ≤ low). absurd (true≢false (sym e ∙ not_above low n numbers l a)))
    (cases_lt low n)

-- What is told of each constraint in turn is what is told of those of a rising list, if nothing is told of the others.
listed : (told : ℕ → List Fault) (each : ℕ → Constraint → List Fault) (n : ℕ) (constraints : List Constraint) (ids : List ℕ)
    → Rise ids → ((id : ℕ) → has id ids ≡ true → n ≤ id) → ((id : ℕ) → has id ids ≡ true → id < n + length constraints)
    → ((id : ℕ) (c : Constraint) → Numbered n constraints id c → each id c ≡ (if has id ids then told id else []))
    → flat_map (λ k. each k.0 k.1) (enumerate_from n constraints) ≡ flat_map told ids
listed told each n [] [] rise low high h = refl
listed told each n [] (id ∷ ids) rise low high h =
    let above = low id (has_head id ids) in
    let below = high id (has_head id ids) in
    absurd (omega (arith, above, below))
listed told each n (c ∷ constraints) [] rise low high h =
    ap (λ xs. xs ++ flat_map (λ k. each k.0 k.1) (enumerate_from (n + 1) constraints)) (h n c (record { place = 0; is = omega arith; at = refl }))
    ∙ listed told each (n + 1) constraints [] tt (λ id e. absurd (false_true e)) (λ id e. absurd (false_true e)) (λ id d at. h id d (later n id c d constraints at))
listed told each n (c ∷ constraints) (x ∷ ids) rise low high h = ⊎_elim
    (λ (e : x ≡ n).
    ap (λ xs. xs ++ flat_map (λ k. each k.0 k.1) (enumerate_from (n + 1) constraints))
    (here ∙ ap (λ b. if b then told n else []) (ap (λ y. has n (y ∷ ids)) e ∙ has_head n ids) ∙ ap told (sym e))
    ∙ ap (λ xs. told x ++ xs) (listed told each (n + 1) constraints ids rise.1
    (λ id f. let above = above_has x id ids rise.0 f in omega (arith, above, e))
    (λ id f. let below = high id (or_right (x == id) (has id ids) f) in omega (arith, below))
    (λ id d at.
    let more = at.is in
    h id d (later n id c d constraints at) ∙ ap (λ b. if b then told id else []) (has_other id x ids (ne_eqb x id (λ f. absurd (omega (arith, e, f, more))))))))
    (λ (e : x ≢ n).
    let above : n ≤ x = low x (has_head x ids) in
    let absent : has n (x ∷ ids) ≡ false = has_other n x ids (ne_eqb x n e) ∙ not_above x n ids above rise.0 in
    ap (λ xs. xs ++ flat_map (λ k. each k.0 k.1) (enumerate_from (n + 1) constraints)) (here ∙ ap (λ b. if b then told n else []) absent)
    ∙ listed told each (n + 1) constraints (x ∷ ids) rise
    (λ id f.
    let from : n ≤ id = low id f in
    let other : id ≢ n = λ g. true≢false (sym f ∙ ap (λ y. has y (x ∷ ids)) g ∙ absent) in
    omega (arith, from, other))
    (λ id f. let below = high id f in omega (arith, below))
    (λ id d at. h id d (later n id c d constraints at)))
    (cases_eq x n)
  where
    here : each n c ≡ (if has n (x ∷ ids) then told n else [])
    here = h n c (record { place = 0; is = omega arith; at = refl })

-- ---- the first

first_mapped : (f : ℕ → Fault) (rows : List ℕ) → first (map f rows) ≡ option_map f (first rows)
first_mapped f [] = refl
first_mapped f (row ∷ rows) = refl

first_joined : (some others : List Fault) → (some ≡ [] → ⊥) → first (some ++ others) ≡ first some
first_joined [] others h = absurd (h refl)
first_joined (x ∷ some) others h = refl

no_rows : (f : ℕ → Fault) (rows : List ℕ) → map f rows ≡ [] → rows ≡ []
no_rows f [] e = refl
no_rows f (row ∷ rows) e = absurd (some_first e)
  where
    some_first : {x : Fault} {xs : List Fault} → x ∷ xs ≡ [] → ⊥
    some_first e = cc

-- ---- the kept violations

module _ (violating : GroupFlags) (chosen : ℕ → Bool) (ids : List ℕ) (members : (id : ℕ) → has id ids ≡ is_any (violating_of violating id)) where
  has_violated : (id : ℕ) → has id (in_rising_order (filter chosen ids)) ≡ (chosen id && is_any (violating_of violating id))
  has_violated id = has_in_rising_order id (filter chosen ids) ∙ has_filter chosen id ids ∙ ap (λ b. chosen id && b) (members id)

  violated_is : (id : ℕ) → has id (in_rising_order (filter chosen ids)) ≡ true → is_any (violating_of violating id) ≡ true
  violated_is id e = and_second (chosen id) (is_any (violating_of violating id)) (sym (has_violated id) ∙ e)

  pub violated_known : (id : ℕ) → has id (in_rising_order (filter chosen ids)) ≡ true → id < length violating
  violated_known id e = known violating id (violated_is id e)

module _ (constraints : List Constraint) (groups : Groups) (violating : GroupFlags) (few : length violating ≤ length constraints) (are : AreFlagged constraints groups violating) (chosen : ℕ → Bool) (ids : List ℕ) (members : (id : ℕ) → has id ids ≡ is_any (violating_of violating id)) where
  told_of : (id : ℕ) (c : Constraint) → slice_get constraints id ≡ Some c
      → chosen_rows constraints groups chosen id c ≡ (if has id (in_rising_order (filter chosen ids)) then faults_kept constraints groups id else [])
  told_of id c at = by_test (chosen id) (is_any (violating_of violating id)) refl ∙ ap (λ b. if b then faults_kept constraints groups id else []) (sym (has_violated violating chosen ids members id))
    where
      by_test : (b d : Bool) → is_any (violating_of violating id) ≡ d
          → (if b then map (fault_of id) (kept_rows constraints groups id c) else []) ≡ (if b && d then faults_kept constraints groups id else [])
      by_test false d e = refl
      by_test true true e = ap (λ o. map (fault_of id) (elim o [ Some c ↦ kept_rows constraints groups id c | None ↦ [] ])) (sym at)
      by_test true false e = ap (λ o. map (fault_of id) (elim o [ Some c ↦ kept_rows constraints groups id c | None ↦ [] ])) (sym at) ∙ ap (map (fault_of id)) (none_kept constraints groups violating few are id e)

  pub kept_are : kept constraints groups chosen ≡ flat_map (faults_kept constraints groups) (in_rising_order (filter chosen ids))
  kept_are =
      listed (faults_kept constraints groups) (chosen_rows constraints groups chosen) 0 constraints (in_rising_order (filter chosen ids)) (rise_in_rising_order (filter chosen ids))
      (λ id e. omega arith)
      (λ id e. let l = violated_known violating chosen ids members id e in omega (arith, l, few))
      (λ id c at. let is : id ≡ at.place = (let e = at.is in omega (arith, e)) in told_of id c (ap (slice_get constraints) is ∙ at.at))

  pub count_kept_faults : NoRepeats ids → length (kept constraints groups chosen) ≡ length (flat_map (faults_kept constraints groups) (filter chosen ids))
  count_kept_faults once = ap length kept_are ∙ length_once (faults_kept constraints groups) (filter chosen ids) (once_filter chosen ids once)

  -- the first of them is of the least constraint
  pub first_kept : (o : Option ℕ) → o ≡ first (in_rising_order (filter chosen ids))
      → first (kept constraints groups chosen) ≡ elim o [ Some id ↦ option_map (fault_of id) (first (rows_kept constraints groups id)) | None ↦ None ]
  first_kept o e = ap first kept_are ∙ by_ids (in_rising_order (filter chosen ids)) refl ∙ ap (λ o. elim o [ Some id ↦ option_map (fault_of id) (first (rows_kept constraints groups id)) | None ↦ None ]) (sym e)
    where
      by_ids : (xs : List ℕ) → in_rising_order (filter chosen ids) ≡ xs
          → first (flat_map (faults_kept constraints groups) xs) ≡ elim (first xs) [ Some id ↦ option_map (fault_of id) (first (rows_kept constraints groups id)) | None ↦ None ]
      by_ids [] e = refl
      by_ids (id ∷ xs) e =
          first_joined (faults_kept constraints groups id) (flat_map (faults_kept constraints groups) xs)
          (λ none. some_kept constraints groups violating few are id (violated_is violating chosen ids members id (ap (has id) e ∙ has_head id xs)) (no_rows (fault_of id) (rows_kept constraints groups id) none))
          ∙ first_mapped (fault_of id) (rows_kept constraints groups id)

-- a step of a loop that adds what is told of each number
pub told_step : {A : Type 0} (told : ℕ → List A) (ids : List ℕ) (i id : ℕ) (now next all : List A) → i < length ids → id ≡ get_or ids i 0 → next ≡ now ++ told id
    → now ++ flat_map told (drop i ids) ≡ all → next ++ flat_map told (drop (i + 1) ids) ≡ all
told_step told ids i id now next all l e n h =
    ap (λ xs. xs ++ flat_map told (drop (i + 1) ids)) n ∙ append_assoc now (told id) (flat_map told (drop (i + 1) ids))
    ∙ ap (λ x. now ++ (told x ++ flat_map told (drop (i + 1) ids))) e ∙ ap (λ xs. now ++ xs) (sym (at_drop_more (flat_map told) ids i 0 l)) ∙ h

-- a first number is in its list
pub first_is_in : (numbers : List ℕ) (n : ℕ) → first numbers ≡ Some n → has n numbers ≡ true
first_is_in [] n e = absurd (some_none n (sym e))
first_is_in (m ∷ numbers) n e = ap (λ x. has x (m ∷ numbers)) (sym (some_same m n e)) ∙ has_head m numbers
