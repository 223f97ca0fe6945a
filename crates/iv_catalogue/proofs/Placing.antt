-- The places of each table's constraints, as tables and constraints come and go.
use Rattle.std.proofs.Common.{◌≡◌, ◌≢◌, ℕ, ◌+◌, ◌-◌, ◌*◌, nat_lt, Option, MatchOption, ◌<◌, ◌≤◌, zero, suc, Bool, true, false, cond, nat_eq, List, [], ◌∷◌, ◌++◌, ◌∙◌, Some, None, length, take, set, get_or, refl, sym, ap, arith}
use Rattle.std.proofs.lemmas.List.{append-nil, length-append, get_or_past, take_at}
use Rattle.std.proofs.lemmas.Bool.Decides.{nat_tests}
use Rattle.iv_catalogue.specs.declared.catalogue.Table.{Table}
use Rattle.iv_catalogue.specs.declared.constraint.Constraint.{Constraint}
use Rattle.iv_catalogue.specs.declared.limits.TheConstants.{MOST_CONSTRAINTS}
use Rattle.iv_catalogue.specs.Catalogues.{AllOn, AllWithinTables, places_from}
use Rattle.iv_catalogue.specs.ConstraintPlaces.{places_by_table, count_places, EachWithinLimit}

-- ---- the places of one table's constraints

same_number : (n : ℕ) → nat_eq n n ≡ true
same_number n = grind (arith, nat_tests)

other_number : (m n : ℕ) → m ≢ n → nat_eq m n ≡ false
other_number m n h = grind (arith, nat_tests)

pub places_append : (t p : ℕ) (ks new : List Constraint) → places_from t p (ks ++ new) ≡ places_from t p ks ++ places_from t (p + length ks) new
places_append t p [] new = ap (λ n. places_from t n new) (omega arith)
places_append t p (k ∷ ks) new =
    let rest : places_from t (p + 1) (ks ++ new) ≡ places_from t (p + 1) ks ++ places_from t (p + length (k ∷ ks)) new =
    places_append t (p + 1) ks new ∙ ap (λ n. places_from t (p + 1) ks ++ places_from t n new) (omega arith) in
    elim (nat_eq k.table t) as (λ b. cond b (p ∷ places_from t (p + 1) (ks ++ new)) (places_from t (p + 1) (ks ++ new))
    ≡ cond b (p ∷ places_from t (p + 1) ks) (places_from t (p + 1) ks) ++ places_from t (p + length (k ∷ ks)) new) [
      | true ↦ ap (λ l. p ∷ l) rest
      | false ↦ rest
    ]

-- a table that comes later has none
pub none_later : (count t p : ℕ) (ks : List Constraint) → AllWithinTables count ks → count ≤ t → places_from t p ks ≡ []
none_later count t p [] h l = refl
none_later count t p (k ∷ ks) h l =
    ap (λ b. cond b (p ∷ places_from t (p + 1) ks) (places_from t (p + 1) ks)) (other_number k.table t (λ e. omega (arith, h.0, l, e)))
    ∙ none_later count t (p + 1) ks h.1 l

-- one that comes earlier has none of another's
pub none_of_other : (m t p : ℕ) (ks : List Constraint) → AllOn m ks → t < m → places_from t p ks ≡ []
none_of_other m t p [] h l = refl
none_of_other m t p (k ∷ ks) h l =
    ap (λ b. cond b (p ∷ places_from t (p + 1) ks) (places_from t (p + 1) ks)) (other_number k.table t (λ e. omega (arith, h.0, l, e)))
    ∙ none_of_other m t (p + 1) ks h.1 l

pub length_on : (m p : ℕ) (ks : List Constraint) → AllOn m ks → length (places_from m p ks) ≡ length ks
length_on m p [] h = refl
length_on m p (k ∷ ks) h =
    ap (λ b. length (cond b (p ∷ places_from m (p + 1) ks) (places_from m (p + 1) ks))) (ap (λ n. nat_eq n m) h.0 ∙ same_number m)
    ∙ ap suc (length_on m (p + 1) ks h.1)

-- ---- lists by table

pub length_by_table : (n : ℕ) (ts : List Table) (ks : List Constraint) → length (places_by_table n ts ks) ≡ length ts
length_by_table n [] ks = refl
length_by_table n (x ∷ ts) ks = ap suc (length_by_table (n + 1) ts ks)

pub at_table : (n i m : ℕ) (ts : List Table) (ks : List Constraint) → n + i ≡ m → i < length ts → get_or (places_by_table n ts ks) i [] ≡ places_from m 0 ks
at_table n i m [] ks e l = absurd (omega (arith, l))
at_table n zero m (x ∷ ts) ks e l = ap (λ t. places_from t 0 ks) (omega (arith, e))
at_table n (suc i) m (x ∷ ts) ks e l = at_table (n + 1) i m ts ks (omega (arith, e)) (omega (arith, l))

-- a table more, with its constraints
pub table_more : (n m : ℕ) (ts : List Table) (x : Table) (ks new : List Constraint) → n + length ts ≡ m → AllWithinTables m ks → AllOn m new
    → places_by_table n (ts ++ x ∷ []) (ks ++ new) ≡ places_by_table n ts ks ++ places_from m (length ks) new ∷ []
table_more n m [] x ks new e within own =
    let same : n ≡ m = omega (arith, e) in
    ap (λ l. l ∷ []) (ap (λ t. places_from t 0 (ks ++ new)) same ∙ places_append m 0 ks new ∙ ap (λ l. l ++ places_from m (0 + length ks) new) (none_later m m 0 ks within (omega arith))
    ∙ ap (λ p. places_from m p new) (omega arith))
table_more n m (t ∷ ts) x ks new e within own =
    let head : places_from n 0 (ks ++ new) ≡ places_from n 0 ks =
    places_append n 0 ks new ∙ ap (λ l. places_from n 0 ks ++ l) (none_of_other m n (0 + length ks) new own (omega (arith, e))) ∙ append-nil (places_from n 0 ks) in
    ap (λ l. l ∷ places_by_table (n + 1) (ts ++ x ∷ []) (ks ++ new)) head
    ∙ ap (λ l. places_from n 0 ks ∷ l) (table_more (n + 1) m ts x ks new (omega (arith, e)) within own)

-- a constraint of an earlier table changes nothing
earlier_more : (n : ℕ) (ts : List Table) (ks : List Constraint) (k : Constraint) → k.table < n → places_by_table n ts (ks ++ k ∷ []) ≡ places_by_table n ts ks
earlier_more n [] ks k l = refl
earlier_more n (x ∷ ts) ks k l =
    let head : places_from n 0 (ks ++ k ∷ []) ≡ places_from n 0 ks =
    places_append n 0 ks (k ∷ []) ∙ ap (λ b. places_from n 0 ks ++ cond b ((0 + length ks) ∷ []) []) (other_number k.table n (λ e. omega (arith, l, e)))
    ∙ append-nil (places_from n 0 ks) in
    ap (λ l. l ∷ places_by_table (n + 1) ts (ks ++ k ∷ [])) head ∙ ap (λ l. places_from n 0 ks ∷ l) (earlier_more (n + 1) ts ks k (omega (arith, l)))

-- a constraint more goes to the end of its table's places
pub constraint_more : (n i : ℕ) (ts : List Table) (ks : List Constraint) (k : Constraint) → n + i ≡ k.table → i < length ts
    → places_by_table n ts (ks ++ k ∷ []) ≡ set (places_by_table n ts ks) i (get_or (places_by_table n ts ks) i [] ++ length ks ∷ [])
constraint_more n i [] ks k e l = absurd (omega (arith, l))
constraint_more n zero (x ∷ ts) ks k e l =
    let same : k.table ≡ n = omega (arith, e) in
    let head : places_from n 0 (ks ++ k ∷ []) ≡ places_from n 0 ks ++ length ks ∷ [] =
    places_append n 0 ks (k ∷ []) ∙ ap (λ b. places_from n 0 ks ++ cond b ((0 + length ks) ∷ []) []) (ap (λ t. nat_eq t n) same ∙ same_number n)
    ∙ ap (λ p. places_from n 0 ks ++ p ∷ []) (omega arith) in
    ap (λ l. l ∷ places_by_table (n + 1) ts (ks ++ k ∷ [])) head
    ∙ ap (λ l. (places_from n 0 ks ++ length ks ∷ []) ∷ l) (earlier_more (n + 1) ts ks k (omega (arith, e)))
constraint_more n (suc i) (x ∷ ts) ks k e l =
    let head : places_from n 0 (ks ++ k ∷ []) ≡ places_from n 0 ks =
    places_append n 0 ks (k ∷ []) ∙ ap (λ b. places_from n 0 ks ++ cond b ((0 + length ks) ∷ []) []) (other_number k.table n (λ h. omega (arith, e, h)))
    ∙ append-nil (places_from n 0 ks) in
    ap (λ l. l ∷ places_by_table (n + 1) ts (ks ++ k ∷ [])) head
    ∙ ap (λ l. places_from n 0 ks ∷ l) (constraint_more (n + 1) i ts ks k (omega (arith, e)) (omega (arith, l)))

-- ---- how many there are

pub count_push : (lists : List (List ℕ)) (l : List ℕ) → count_places (lists ++ l ∷ []) ≡ count_places lists + length l
count_push [] l = omega arith
count_push (x ∷ lists) l = ap (λ n. length x + n) (count_push lists l) ∙ omega arith

pub limit_push : (lists : List (List ℕ)) (l : List ℕ) → EachWithinLimit lists → length l ≤ MOST_CONSTRAINTS → EachWithinLimit (lists ++ l ∷ [])
limit_push [] l h few = (few, tt)
limit_push (x ∷ lists) l h few = (h.0, limit_push lists l h.1 few)

pub count_set : (lists : List (List ℕ)) (i : ℕ) (l : List ℕ) → i < length lists → count_places (set lists i l) + length (get_or lists i []) ≡ count_places lists + length l
count_set [] i l h = absurd (omega (arith, h))
count_set (x ∷ lists) zero l h = omega arith
count_set (x ∷ lists) (suc i) l h = omega (arith, count_set lists i l (omega (arith, h)))

pub limit_set : (lists : List (List ℕ)) (i : ℕ) (l : List ℕ) → EachWithinLimit lists → length l ≤ MOST_CONSTRAINTS → EachWithinLimit (set lists i l)
limit_set [] i l h few = tt
limit_set (x ∷ lists) zero l h few = (few, h.1)
limit_set (x ∷ lists) (suc i) l h few = (h.0, limit_set lists i l h.1 few)

pub limit_at : (lists : List (List ℕ)) (i : ℕ) → EachWithinLimit lists → length (get_or lists i []) ≤ MOST_CONSTRAINTS
limit_at [] i h = omega arith
limit_at (x ∷ lists) zero h = h.0
limit_at (x ∷ lists) (suc i) h = limit_at lists i h.1

pub limit_front : (lists : List (List ℕ)) (l : List ℕ) → EachWithinLimit (lists ++ l ∷ []) → EachWithinLimit lists
limit_front [] l h = tt
limit_front (x ∷ lists) l h = (h.0, limit_front lists l h.1)

pub count_few : (lists : List (List ℕ)) → EachWithinLimit lists → count_places lists ≤ MOST_CONSTRAINTS * length lists
count_few [] h = omega arith
count_few (x ∷ lists) h = omega (arith, h.0, count_few lists h.1)

-- ---- the tables of constraints

pub within_more : (m n : ℕ) (ks : List Constraint) → m ≤ n → AllWithinTables m ks → AllWithinTables n ks
within_more m n [] l h = tt
within_more m n (k ∷ ks) l h = (omega (arith, h.0, l), within_more m n ks l h.1)

pub within_append : (n : ℕ) (ks new : List Constraint) → AllWithinTables n ks → AllWithinTables n new → AllWithinTables n (ks ++ new)
within_append n [] new h i = i
within_append n (k ∷ ks) new h i = (h.0, within_append n ks new h.1 i)

pub within_on : (m n : ℕ) (ks : List Constraint) → m < n → AllOn m ks → AllWithinTables n ks
within_on m n [] l h = tt
within_on m n (k ∷ ks) l h = (omega (arith, h.0, l), within_on m n ks l h.1)

pub within_front : (n : ℕ) (ks new : List Constraint) → AllWithinTables n (ks ++ new) → AllWithinTables n ks
within_front n [] new h = tt
within_front n (k ∷ ks) new h = (h.0, within_front n ks new h.1)

pub within_back : (n : ℕ) (ks new : List Constraint) → AllWithinTables n (ks ++ new) → AllWithinTables n new
within_back n [] new h = h
within_back n (k ∷ ks) new h = within_back n ks new h.1

-- ---- as the catalogue reads and changes them

-- a table that isn't there has none
pub at_any : (t : ℕ) (ts : List Table) (ks : List Constraint) → AllWithinTables (length ts) ks → get_or (places_by_table 0 ts ks) t [] ≡ places_from t 0 ks
at_any t ts ks h = by (nat_lt t (length ts)) refl
  where
    by : (b : Bool) → nat_lt t (length ts) ≡ b → get_or (places_by_table 0 ts ks) t [] ≡ places_from t 0 ks
    by true e = at_table 0 t t ts ks (omega arith) (grind (arith, nat_tests))
    by false e =
        let later : length ts ≤ t = grind (arith, nat_tests) in
        get_or_past (places_by_table 0 ts ks) t [] (omega (arith, later, length_by_table 0 ts ks)) ∙ sym (none_later (length ts) t 0 ks h later)

-- the list without its last place
pub popped : (r : Option ℕ) (old new : List ℕ) → MatchOption r ((old ≡ []) × (new ≡ [])) (λ last. old ≡ new ++ last ∷ []) → new ≡ take (length old - 1) old
popped None old new h = h.1 ∙ sym (ap (λ l. take (length l - 1) l) h.0)
popped (Some last) old new h =
    sym (take_at new (last ∷ []) (length new) refl)
    ∙ ap (λ n. take n (new ++ last ∷ [])) (omega (arith, length-append new (last ∷ []))) ∙ sym (ap (λ l. take (length l - 1) l) h)
