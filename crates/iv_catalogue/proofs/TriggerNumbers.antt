-- The numbers of triggers, as triggers come and go.
use Rattle.std.proofs.Common.{◌≡◌, ℕ, ◌+◌, ◌<◌, ◌≤◌, suc, Bool, true, false, cond, not, nat_eq, nat_lt, List, [], ◌∷◌, ◌++◌, ◌∙◌, Some, None, length, take, remove, filter, find, position, slice_get, refl, sym, ap, arith}
use Rattle.std.specs.List.{position_or_len}
use Rattle.std.proofs.lemmas.Bool.Decides.{nat_tests}
use Rattle.std.proofs.lemmas.Option.{slice_get_past}
use Rattle.std.proofs.lemmas.List.{take_all, drop_all, append-nil}
use Rattle.iv_catalogue.specs.declared.plan.Trigger.{Trigger}
use Rattle.iv_catalogue.specs.declared.limits.TheConstants.{MOST_BODY_STATEMENTS}
use Rattle.iv_catalogue.specs.Catalogues.{NumbersRise, BodiesWithinLimit}

-- ---- a place that is found

place_some : (b : Bool) (n i : ℕ) → cond b (Some n) None ≡ Some i → n ≡ i
place_some true n i h = cc
place_some false n i h = cc

place_none : (b : Bool) (n : ℕ) → cond b (Some n) None ≡ None → b ≡ false
place_none true n h = cc
place_none false n h = refl

pub found_at : {X : Type 0} (p : X → Bool) (xs : List X) → slice_get xs (position_or_len p xs) ≡ find p xs
found_at p [] = refl
found_at p (x ∷ xs) = by (p x) refl (found_at p xs)
  where
    by : (b : Bool) → p x ≡ b → slice_get xs (position_or_len p xs) ≡ find p xs → slice_get (x ∷ xs) (position_or_len p (x ∷ xs)) ≡ find p (x ∷ xs)
    by true e rest = rw e refl
    by false e rest = let one : 1 + position_or_len p xs ≡ suc (position_or_len p xs) = omega arith in rw e (ap (slice_get (x ∷ xs)) one ∙ rest)

pub found : {X : Type 0} (p : X → Bool) (xs : List X) (i : ℕ) → position p xs ≡ Some i → slice_get xs i ≡ find p xs
found p xs i h = ap (slice_get xs) (sym (place_some _ (position_or_len p xs) i h)) ∙ found_at p xs

past : (n m : ℕ) → nat_lt n m ≡ false → m ≤ n
past n m h = grind (arith, nat_tests)

pub found_none : {X : Type 0} (p : X → Bool) (xs : List X) → position p xs ≡ None → find p xs ≡ None
found_none p xs h =
    sym (found_at p xs) ∙ slice_get_past xs (position_or_len p xs) (past (position_or_len p xs) (length xs) (place_none _ (position_or_len p xs) h))

-- ---- a trigger that is dropped

pub rise_from_lower : (low other : ℕ) (ts : List Trigger) (created : ℕ) → low ≤ other → NumbersRise other ts created → NumbersRise low ts created
rise_from_lower low other [] created l h = omega (arith, l, h)
rise_from_lower low other (t ∷ ts) created l h = (omega (arith, l, h.0), h.1)

other_number : (m n : ℕ) → n < m → nat_eq m n ≡ false
other_number m n h = grind (arith, nat_tests)

same_number : (m n : ℕ) → nat_eq m n ≡ true → m ≡ n
same_number m n h = grind (arith, nat_tests)

none_higher : (low id : ℕ) (ts : List Trigger) (created : ℕ) → id < low → NumbersRise low ts created → filter (λ t. not (nat_eq t.id id)) ts ≡ ts
none_higher low id [] created l h = refl
none_higher low id (t ∷ ts) created l h =
    ap (λ b. cond (not b) (t ∷ filter (λ s. not (nat_eq s.id id)) ts) (filter (λ s. not (nat_eq s.id id)) ts)) (other_number t.id id (omega (arith, l, h.0)))
    ∙ ap (λ l. t ∷ l) (none_higher (t.id + 1) id ts created (omega (arith, l, h.0)) h.1)

dropped : (low id : ℕ) (ts : List Trigger) (created : ℕ) → NumbersRise low ts created
    → remove ts (position_or_len (λ t. nat_eq t.id id) ts) ≡ filter (λ t. not (nat_eq t.id id)) ts
dropped low id [] created h = refl
dropped low id (t ∷ ts) created h = by (nat_eq t.id id) refl (dropped (t.id + 1) id ts created h.1)
  where
    by : (b : Bool) → nat_eq t.id id ≡ b
        → remove ts (position_or_len (λ s. nat_eq s.id id) ts) ≡ filter (λ s. not (nat_eq s.id id)) ts
        → remove (t ∷ ts) (position_or_len (λ s. nat_eq s.id id) (t ∷ ts)) ≡ filter (λ s. not (nat_eq s.id id)) (t ∷ ts)
    by true e rest = rw e (sym (none_higher (t.id + 1) id ts created (omega (arith, same_number t.id id e)) h.1))
    by false e rest =
        let one : 1 + position_or_len (λ s. nat_eq s.id id) ts ≡ suc (position_or_len (λ s. nat_eq s.id id) ts) = omega arith in
        rw e (ap (remove (t ∷ ts)) one ∙ ap (λ l. t ∷ l) rest)

pub dropped_at : (low id : ℕ) (ts : List Trigger) (created i : ℕ) → NumbersRise low ts created → position (λ t. nat_eq t.id id) ts ≡ Some i
    → remove ts i ≡ filter (λ t. not (nat_eq t.id id)) ts
dropped_at low id ts created i h e = ap (remove ts) (sym (place_some _ (position_or_len (λ t. nat_eq t.id id) ts) i e)) ∙ dropped low id ts created h

pub dropped_none : (low id : ℕ) (ts : List Trigger) (created : ℕ) → NumbersRise low ts created → position (λ t. nat_eq t.id id) ts ≡ None
    → ts ≡ filter (λ t. not (nat_eq t.id id)) ts
dropped_none low id ts created h e =
    let n = position_or_len (λ t. nat_eq t.id id) ts in
    let after : length ts ≤ n = past n (length ts) (place_none _ n e) in
    let whole : remove ts n ≡ ts = ap (λ l. take n ts ++ l) (drop_all (suc n) ts (omega (arith, after))) ∙ append-nil (take n ts) ∙ take_all n ts after in
    sym whole ∙ dropped low id ts created h

-- ---- what stays true

pub rise_more : (low : ℕ) (ts : List Trigger) (created : ℕ) (t : Trigger) → t.id ≡ created → NumbersRise low ts created → NumbersRise low (ts ++ t ∷ []) (created + 1)
rise_more low [] created t e h = (omega (arith, e, h), omega (arith, e))
rise_more low (x ∷ ts) created t e h = (h.0, rise_more (x.id + 1) ts created t e h.1)

pub rise_filter : (keeps : Trigger → Bool) (low : ℕ) (ts : List Trigger) (created : ℕ) → NumbersRise low ts created → NumbersRise low (filter keeps ts) created
rise_filter keeps low [] created h = h
rise_filter keeps low (t ∷ ts) created h =
    let rest = rise_filter keeps (t.id + 1) ts created h.1 in
    elim (keeps t) as (λ b. NumbersRise low (cond b (t ∷ filter keeps ts) (filter keeps ts)) created) [
      | true ↦ (h.0, rest)
      | false ↦ rise_from_lower low (t.id + 1) (filter keeps ts) created (omega (arith, h.0)) rest
    ]

pub bodies_more : (ts : List Trigger) (t : Trigger) → BodiesWithinLimit ts → length t.body ≤ MOST_BODY_STATEMENTS → BodiesWithinLimit (ts ++ t ∷ [])
bodies_more [] t h few = (few, tt)
bodies_more (x ∷ ts) t h few = (h.0, bodies_more ts t h.1 few)

pub bodies_filter : (keeps : Trigger → Bool) (ts : List Trigger) → BodiesWithinLimit ts → BodiesWithinLimit (filter keeps ts)
bodies_filter keeps [] h = tt
bodies_filter keeps (t ∷ ts) h =
    elim (keeps t) as (λ b. BodiesWithinLimit (cond b (t ∷ filter keeps ts) (filter keeps ts))) [
      | true ↦ (h.0, bodies_filter keeps ts h.1)
      | false ↦ bodies_filter keeps ts h.1
    ]

pub length_filter : {X : Type 0} (keeps : X → Bool) (xs : List X) → length (filter keeps xs) ≤ length xs
length_filter keeps [] = omega arith
length_filter keeps (x ∷ xs) =
    elim (keeps x) as (λ b. length (cond b (x ∷ filter keeps xs) (filter keeps xs)) ≤ suc (length xs)) [
      | true ↦ omega (arith, length_filter keeps xs)
      | false ↦ omega (arith, length_filter keeps xs)
    ]
