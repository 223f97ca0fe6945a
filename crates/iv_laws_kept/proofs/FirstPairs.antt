-- The first of pairs of a foreign key and a row, by the foreign key's creation, then by row.
use Rattle.std.proofs.Common.{◌≡◌, refl, ℕ, ◌+◌, ◌≤◌, Bool, true, false, if◌then◌else◌, List, [], ◌∷◌, ◌++◌, filter, filter_map, map, Option, Some, None, sym, ap, ◌∙◌, arith}
use Rattle.std.specs.List.{find, flat_map, cons_option, enumerate_from}
use Rattle.std.specs.Option.{option_map}
use Rattle.std.proofs.lemmas.Bool.{lt-ltb, le-ltb}
use Rattle.iv_expr.specs.declared.row.StoredRow.{StoredRow}
use Rattle.iv_catalogue.specs.declared.cause.Fault.{Fault}
use Rattle.iv_catalogue.specs.declared.constraint.Constraint.{Constraint}
use Rattle.iv_catalogue.specs.declared.constraint.ForeignKey.{ForeignKey}
use Rattle.iv_machine.specs.Databases.{first, fault_at}
use Rattle.iv_machine.specs.ReferentialActions.{Reference, foreign_key, reference, references}
use Rattle.iv_laws_kept.specs.FollowingWaves.{earlier, least}
use Rattle.iv_laws_kept.proofs.PickedRows.{picked}

-- the numbers of these foreign keys rise, from this one on
abbrev pub RisingReferences : ℕ → List Reference → Type 0
RisingReferences low [] = Unit {0}
RisingReferences low (k ∷ ks) = (low ≤ k.id) × RisingReferences (k.id + 1) ks

rising_lower : (low n : ℕ) (ks : List Reference) → low ≤ n → RisingReferences n ks → RisingReferences low ks
rising_lower low n [] le h = tt
rising_lower low n (k ∷ ks) le h = (omega (arith, le, h.0), h.1)

references_rise_from : (n : ℕ) (constraints : List Constraint) → RisingReferences n (filter_map reference (enumerate_from n constraints))
references_rise_from n [] = tt
references_rise_from n (c ∷ constraints) = where_key (foreign_key c.rule) (references_rise_from (n + 1) constraints)
  where
    rest : List Reference
    rest = filter_map reference (enumerate_from (n + 1) constraints)

    where_key : (o : Option ForeignKey) → RisingReferences (n + 1) rest
        → RisingReferences n (cons_option (elim o [ Some fk ↦ Some (record { id = n; table = c.table; key = fk }) | None ↦ None ]) rest)
    where_key None h = rising_lower n (n + 1) rest (omega arith) h
    where_key (Some fk) h = (omega arith, h)

pub references_rise : (constraints : List Constraint) → RisingReferences 0 (references constraints)
references_rise constraints = references_rise_from 0 constraints

pub rising_filter : (p : Reference → Bool) (low : ℕ) (ks : List Reference) → RisingReferences low ks → RisingReferences low (filter p ks)
rising_filter p low [] h = tt
rising_filter p low (k ∷ ks) h = where_passes (p k) (rising_filter p (k.id + 1) ks h.1)
  where
    where_passes : (b : Bool) → RisingReferences (k.id + 1) (filter p ks) → RisingReferences low (if b then k ∷ filter p ks else filter p ks)
    where_passes true more = (h.0, more)
    where_passes false more = rising_lower low (k.id + 1) (filter p ks) (omega (arith, h.0)) more

-- ---- pairs

-- the pairs that pass a test
abbrev pub pairs : (StoredRow → Reference → Bool) → List Reference → List StoredRow → List Fault
pairs p ks rows = flat_map (λ k. map (fault_at k.id) (filter (λ r. p r k) rows)) ks

-- the first foreign key with which this row makes a pair
abbrev pub pair_of : (StoredRow → Reference → Bool) → List Reference → StoredRow → Option Fault
pair_of p ks r = option_map (λ k. fault_at k.id r) (find (p r) ks)

abbrev AtLeast : ℕ → Option Fault → Type 0
AtLeast n None = Unit {0}
AtLeast n (Some f) = n ≤ f.constraint

at_least_lower : (m n : ℕ) (o : Option Fault) → m ≤ n → AtLeast n o → AtLeast m o
at_least_lower m n None le h = tt
at_least_lower m n (Some f) le h = omega (arith, le, h)

pairs_from : (p : StoredRow → Reference → Bool) (low : ℕ) (ks : List Reference) (rows : List StoredRow) → RisingReferences low ks → AtLeast low (first (pairs p ks rows))
pairs_from p low [] rows h = tt
pairs_from p low (k ∷ ks) rows h = where_rows (filter (λ r. p r k) rows) (pairs_from p (k.id + 1) ks rows h.1)
  where
    where_rows : (here : List StoredRow) → AtLeast (k.id + 1) (first (pairs p ks rows)) → AtLeast low (first (map (fault_at k.id) here ++ pairs p ks rows))
    where_rows [] a = at_least_lower low (k.id + 1) (first (pairs p ks rows)) (omega (arith, h.0)) a
    where_rows (s ∷ here) a = h.0

pair_from : (p : StoredRow → Reference → Bool) (low : ℕ) (ks : List Reference) (r : StoredRow) → RisingReferences low ks → AtLeast low (pair_of p ks r)
pair_from p low [] r h = tt
pair_from p low (k ∷ ks) r h = where_passes (p r k) (pair_from p (k.id + 1) ks r h.1)
  where
    where_passes : (b : Bool) → AtLeast (k.id + 1) (pair_of p ks r) → AtLeast low (option_map (λ j. fault_at j.id r) (if b then Some k else find (p r) ks))
    where_passes true a = h.0
    where_passes false a = at_least_lower low (k.id + 1) (pair_of p ks r) (omega (arith, h.0)) a

not_below : (f : Fault) (o : Option Fault) → AtLeast f.constraint o → earlier (Some f) o ≡ Some f
not_below f None h = refl
not_below f (Some g) h = ap (λ b. if b then Some g else Some f) (le-ltb g.constraint f.constraint h)

above_it : (g : Fault) (o : Option Fault) → AtLeast (g.constraint + 1) o → earlier o (Some g) ≡ Some g
above_it g None h = refl
above_it g (Some f) h = ap (λ b. if b then Some g else Some f) (lt-ltb g.constraint f.constraint (omega (arith, h)))

-- The first pair of these rows is that of the first row, unless the others have one of an earlier foreign key.
first_pair : (p : StoredRow → Reference → Bool) (low : ℕ) (ks : List Reference) (r : StoredRow) (rows : List StoredRow) → RisingReferences low ks
    → first (pairs p ks (r ∷ rows)) ≡ earlier (pair_of p ks r) (first (pairs p ks rows))
first_pair p low [] r rows h = refl
first_pair p low (k ∷ ks) r rows h =
    where_rows (p r k) (filter (λ s. p s k) rows) (pairs_from p k.id (k ∷ ks) rows (omega arith, h.1)) (first_pair p (k.id + 1) ks r rows h.1)
  where
    where_rows : (b : Bool) (here : List StoredRow) → AtLeast k.id (first (map (fault_at k.id) here ++ pairs p ks rows))
        → first (pairs p ks (r ∷ rows)) ≡ earlier (pair_of p ks r) (first (pairs p ks rows))
        → first (map (fault_at k.id) (if b then r ∷ here else here) ++ pairs p ks (r ∷ rows))
        ≡ earlier (option_map (λ j. fault_at j.id r) (if b then Some k else find (p r) ks)) (first (map (fault_at k.id) here ++ pairs p ks rows))
    where_rows true here low rest = sym (not_below (fault_at k.id r) (first (map (fault_at k.id) here ++ pairs p ks rows)) low)
    where_rows false [] low rest = rest
    where_rows false (s ∷ here) low rest = sym (above_it (fault_at k.id s) (pair_of p ks r) (pair_from p (k.id + 1) ks r h.1))

no_pair : (p : StoredRow → Reference → Bool) (ks : List Reference) → first (pairs p ks []) ≡ None
no_pair p [] = refl
no_pair p (k ∷ ks) = no_pair p ks

-- The first pair of picked rows is the least of their pairs.
pub first_of_picked : (p : StoredRow → Reference → Bool) (ks : List Reference) (at : ℕ → Option StoredRow) (numbers : List ℕ) → RisingReferences 0 ks
    → first (pairs p ks (picked at numbers)) ≡ least (λ n. elim (at n) [ Some r ↦ pair_of p ks r | None ↦ None ]) numbers
first_of_picked p ks at [] h = no_pair p ks
first_of_picked p ks at (n ∷ numbers) h = where_row (at n) (first_of_picked p ks at numbers h)
  where
    rest : Option Fault
    rest = least (λ m. elim (at m) [ Some r ↦ pair_of p ks r | None ↦ None ]) numbers

    where_row : (o : Option StoredRow) → first (pairs p ks (picked at numbers)) ≡ rest
        → first (pairs p ks (cons_option o (picked at numbers))) ≡ earlier (elim o [ Some r ↦ pair_of p ks r | None ↦ None ]) rest
    where_row None e = e
    where_row (Some r) e = first_pair p 0 ks r (picked at numbers) h ∙ ap (earlier (pair_of p ks r)) e
