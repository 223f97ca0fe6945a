-- The constraints of a CREATE TABLE one after another, and names that come again, looked for in place.
use Rattle.std.proofs.Common.{◌≡◌, refl, ap, sym, ◌∙◌, ℕ, ◌+◌, ◌-◌, ◌<◌, ◌≤◌, ◌||◌, Bool, true, false, List, [], ◌∷◌, ◌++◌, Option, Some, None, is_some, option_map, if◌then◌else◌, length, map, take, drop, get_or, zero, suc, arith}
use Rattle.std.proofs.Math.Seq.{take-suc}
use Rattle.std.specs.Option.{option_or}
use Rattle.std.specs.Str.{bytes_eq}
use Rattle.iv_catalogue.specs.Catalogues.{Schema}
use Rattle.iv_catalogue.specs.Names.{is_among}
use Rattle.iv_resolution.specs.Constraints.{WrittenConstraint, constraint_name}
use Rattle.iv_resolution.specs.Items.{Fault, twice_fault, told_if, first_again}
use Rattle.iv_resolution.specs.NameFaults.{constraint_in_use, duplicate_in_constraints, duplicate_in_rule, item_of_constraint}
use Rattle.iv_resolution.proofs.Told.{none_parts, untold}
use Rattle.iv_resolve_name_faults.specs.Places.{constraint_names, duplicate_where}
use Rattle.iv_resolve_name_faults.specs.Seen.{fault_seen}
use Rattle.iv_resolve_name_faults.specs.declared.item.NameFault.{NameFault}

-- a name that isn't among those before it
pub again_passed : {A : Type 0} (name : A → List ℕ) (before : List (List ℕ)) (x : A) (xs : List A) → is_among before (name x) ≡ false
    → first_again name before (x ∷ xs) ≡ first_again name (before ++ name x ∷ []) xs
again_passed name before x xs h = ap (λ b. if b then Some x else first_again name (before ++ name x ∷ []) xs) h

-- one more than a place
pub taken_next : {A : Type 0} (xs : List A) (i : ℕ) (x : A) → i < length xs → x ≡ get_or xs i x → take (i + 1) xs ≡ take i xs ++ x ∷ []
taken_next xs i x h g =
    let one : i + 1 ≡ suc i = omega arith in
    ap (λ k. take k xs) one ∙ take-suc xs i x h ∙ ap (λ y. take i xs ++ y ∷ []) (sym g)

-- ---- constraints of a CREATE TABLE

-- the constraint at a place isn't the one that is asked about
pub one_differs : (table name : List ℕ) (k : WrittenConstraint) (left rest : List WrittenConstraint) (other place : ℕ) → other < place → k ∷ rest ≡ left
    → bytes_eq name (constraint_name table other k) ≡ false
    → is_among (constraint_names table other (take (place - other) left)) name ≡ is_among (constraint_names table (other + 1) (take (place - (other + 1)) rest)) name
one_differs table name k left rest other place h e new =
    let more : place - other ≡ suc (place - (other + 1)) = omega (arith, h) in
    ap (λ l. is_among (constraint_names table other (take (place - other) l)) name) (sym e)
    ∙ ap (λ n. is_among (constraint_names table other (take n (k ∷ rest))) name) more
    ∙ ap (λ b. b || is_among (constraint_names table (other + 1) (take (place - (other + 1)) rest)) name) new

-- a list from a place on, and up to the next
pub rest_at : {A : Type 0} (all : List A) (d : ℕ) (k : A) (rest : List A) → k ∷ rest ≡ drop d all → rest ≡ drop (suc d) all
rest_at [] zero k rest h = cc
rest_at [] (suc d) k rest h = cc
rest_at (x ∷ xs) zero k rest h = cc
rest_at (x ∷ xs) (suc d) k rest h = rest_at xs d k rest h

taken_at : {A : Type 0} (all : List A) (d : ℕ) (k : A) (rest : List A) → k ∷ rest ≡ drop d all → take (suc d) all ≡ take d all ++ k ∷ []
taken_at [] zero k rest h = cc
taken_at [] (suc d) k rest h = cc
taken_at (x ∷ xs) zero k rest h = cc
taken_at (x ∷ xs) (suc d) k rest h = ap (λ l. x ∷ l) (taken_at xs d k rest h)

length_at : {A : Type 0} (all : List A) (d : ℕ) (k : A) (rest : List A) → k ∷ rest ≡ drop d all → length (take d all) ≡ d
length_at [] zero k rest h = refl
length_at [] (suc d) k rest h = cc
length_at (x ∷ xs) zero k rest h = refl
length_at (x ∷ xs) (suc d) k rest h = ap suc (length_at xs d k rest h)

one_more : (table : List ℕ) (place : ℕ) (xs : List WrittenConstraint) (k : WrittenConstraint)
    → constraint_names table place (xs ++ k ∷ []) ≡ constraint_names table place xs ++ constraint_name table (place + length xs) k ∷ []
one_more table place [] k = let same : place ≡ place + 0 = omega arith in ap (λ n. constraint_name table n k ∷ []) same
one_more table place (x ∷ xs) k =
    let same : (place + 1) + length xs ≡ place + suc (length xs) = omega arith in
    ap (λ l. constraint_name table place x ∷ l)
    (one_more table (place + 1) xs k ∙ ap (λ n. constraint_names table (place + 1) xs ++ constraint_name table n k ∷ []) same)

-- a constraint of which nothing is told isn't among those before it
not_again : (again : Bool) (schema : Schema) (table : List ℕ) (place : ℕ) (k : WrittenConstraint) → duplicate_where again schema table place k ≡ None → again ≡ false
not_again again schema table place k h =
    untold again (twice_fault (item_of_constraint table place k))
    (none_parts (told_if again (twice_fault (item_of_constraint table place k))) (duplicate_in_rule k.rule)
    (none_parts (constraint_in_use schema table place k) (option_or (told_if again (twice_fault (item_of_constraint table place k))) (duplicate_in_rule k.rule)) h).1).0

-- the search ends at a constraint of which something is told
pub constraint_told : (schema : Schema) (table : List ℕ) (place : ℕ) (before : List (List ℕ)) (left rest : List WrittenConstraint) (k : WrittenConstraint) (again : Bool)
    → again ≡ is_among before (constraint_name table place k) → k ∷ rest ≡ left → is_some (duplicate_where again schema table place k) ≡ true
    → duplicate_where again schema table place k ≡ duplicate_in_constraints schema table place before left
constraint_told schema table place before left rest k again a e h =
    sym (first_there (duplicate_where again schema table place k) (duplicate_in_constraints schema table (place + 1) (before ++ constraint_name table place k ∷ []) rest) h)
    ∙ ap (λ b. option_or (duplicate_where b schema table place k) (duplicate_in_constraints schema table (place + 1) (before ++ constraint_name table place k ∷ []) rest)) a
    ∙ ap (duplicate_in_constraints schema table place before) e
  where
    first_there : (o p : Option Fault) → is_some o ≡ true → option_or o p ≡ o
    first_there None p g = cc
    first_there (Some x) p g = refl

-- and goes on after one of which nothing is told
pub constraint_passed : (schema : Schema) (table : List ℕ) (place : ℕ) (before after : List (List ℕ)) (left rest : List WrittenConstraint) (k : WrittenConstraint) (again : Bool)
    → again ≡ is_among before (constraint_name table place k) → after ≡ (if again then before else before ++ constraint_name table place k ∷ []) → k ∷ rest ≡ left
    → duplicate_where again schema table place k ≡ None
    → duplicate_in_constraints schema table place before left ≡ duplicate_in_constraints schema table (place + 1) after rest
constraint_passed schema table place before after left rest k again a n e h =
    ap (duplicate_in_constraints schema table place before) (sym e)
    ∙ ap (λ b. option_or (duplicate_where b schema table place k) (duplicate_in_constraints schema table (place + 1) (before ++ constraint_name table place k ∷ []) rest)) (sym a)
    ∙ ap (λ o. option_or o (duplicate_in_constraints schema table (place + 1) (before ++ constraint_name table place k ∷ []) rest)) h
    ∙ ap (λ names. duplicate_in_constraints schema table (place + 1) names rest)
    (sym (n ∙ ap (λ b. if b then before else before ++ constraint_name table place k ∷ []) (not_again again schema table place k h)))

-- if no fault is told, none is seen
pub none_seen : (o : Option NameFault) → is_some o ≡ false → option_map fault_seen o ≡ None
none_seen None h = refl
none_seen (Some f) h = cc

-- the same in place
pub constraint_passed_at : (schema : Schema) (table : List ℕ) (all left rest : List WrittenConstraint) (k : WrittenConstraint) (place : ℕ) (again : Bool) → 1 ≤ place
    → left ≡ drop (place - 1) all → k ∷ rest ≡ left → again ≡ is_among (constraint_names table 1 (take (place - 1) all)) (constraint_name table place k)
    → duplicate_where again schema table place k ≡ None
    → duplicate_in_constraints schema table place (constraint_names table 1 (take (place - 1) all)) left
    ≡ duplicate_in_constraints schema table (place + 1) (constraint_names table 1 (take (place + 1 - 1) all)) rest
constraint_passed_at schema table all left rest k place again h l e a none =
    let next : place + 1 - 1 ≡ suc (place - 1) = omega (arith, h) in
    let size = length_at all (place - 1) k rest (e ∙ l) in
    let here : 1 + length (take (place - 1) all) ≡ place = ap (λ n. 1 + n) size ∙ omega (arith, h) in
    constraint_passed schema table place (constraint_names table 1 (take (place - 1) all)) (constraint_names table 1 (take (place + 1 - 1) all)) left rest k again a
    (ap (λ n. constraint_names table 1 (take n all)) next ∙ ap (constraint_names table 1) (taken_at all (place - 1) k rest (e ∙ l)) ∙ one_more table 1 (take (place - 1) all) k
    ∙ ap (λ n. constraint_names table 1 (take (place - 1) all) ++ constraint_name table n k ∷ []) here
    ∙ ap (λ b. if b then constraint_names table 1 (take (place - 1) all) else constraint_names table 1 (take (place - 1) all) ++ constraint_name table place k ∷ [])
    (sym (not_again again schema table place k none)))
    e none

pub rest_next : (all left rest : List WrittenConstraint) (k : WrittenConstraint) (place : ℕ) → 1 ≤ place → left ≡ drop (place - 1) all → k ∷ rest ≡ left → rest ≡ drop (place + 1 - 1) all
rest_next all left rest k place h l e =
    let next : suc (place - 1) ≡ place + 1 - 1 = omega (arith, h) in
    rest_at all (place - 1) k rest (e ∙ l) ∙ ap (λ n. drop n all) next

-- names as they are
pub themselves : (names : List (List ℕ)) → map (λ n. n) names ≡ names
themselves [] = refl
themselves (n ∷ names) = ap (λ l. n ∷ l) (themselves names)
