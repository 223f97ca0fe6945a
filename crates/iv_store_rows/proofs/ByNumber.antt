-- Lists in rising number: what two numbers tell, an item among the others, and the place of a number.
use Rattle.std.proofs.Common.{◌≡◌, ℕ, zero, suc, ◌+◌, ◌-◌, ◌^◌, ◌<◌, ◌≤◌, ◌⊎◌, inl, inr, Bool, true, false, ◌||◌, if◌then◌else◌, ◌==◌, cond, Some, option_map, List, [], ◌∷◌, filter, length, get_or, slice_set, arith, refl, ap, sym, subst, ◌∙◌}
use Rattle.std.proofs.lemmas.Bool.{or_left, or_right, or_cases}
use Rattle.std.specs.Prelude.{nat_lt, slice_get, unwrap_or}
use Rattle.std.specs.List.{insert}
use Rattle.std.proofs.lemmas.Bool.Decides.{nat_tests}
use Rattle.std.specs.List.Sorted.{IsPartitionPoint}
use Rattle.std.proofs.lemmas.List.Sums.{prefix_len_is}
use Rattle.std.proofs.lemmas.Option.{get_or_from_slice_get}
use Rattle.iv_store_rows.specs.ByNumber.{RiseBy, with_item, has_number, place_by}

-- ---- two numbers

abbrev pub Less : ℕ → ℕ → Type 0
Less a b = (nat_lt a b ≡ true) × (nat_lt b a ≡ false) × ((a == b) ≡ false) × ((b == a) ≡ false) × (a < b)

abbrev pub Same : ℕ → ℕ → Type 0
Same a b = (nat_lt a b ≡ false) × (nat_lt b a ≡ false) × ((a == b) ≡ true) × ((b == a) ≡ true) × (a ≡ b)

pub tells : (a b : ℕ) → Less a b ⊎ (Same a b ⊎ Less b a)
tells a b = grind (arith, nat_tests)

pub less : (a b : ℕ) → a < b → Less a b
less a b l = grind (arith, nat_tests)

pub below_tells : (a b : ℕ) → ((nat_lt a b ≡ true) × (a < b)) ⊎ ((nat_lt a b ≡ false) × (b ≤ a))
below_tells a b = grind (arith, nat_tests)

pub lt_true : (a b : ℕ) → nat_lt a b ≡ true → a < b
lt_true a b e = elim (below_tells a b) [
  | inl t ↦ t.1
  | inr f ↦ wrong (sym e ∙ f.0)
] where
  wrong : true ≡ false → a < b
  wrong x = cc

pub same_tells : (a b : ℕ) → (((a == b) ≡ true) × (a ≡ b)) ⊎ (((a == b) ≡ false) × (a ≡ b → ⊥))
same_tells a b = elim (tells a b) [
  | inl t ↦ inr (t.2, λ e. omega (arith, e, t.4))
  | inr o ↦ elim o [
    | inl e ↦ inl (e.2, e.4)
    | inr t ↦ inr (t.3, λ e. omega (arith, e, t.4))
  ]
]

pub equal_itself : (n : ℕ) → (n == n) ≡ true
equal_itself n = grind (arith, nat_tests)

pub impossible : true ≡ false → ⊥
impossible x = cc

one_more : (k : ℕ) → suc k ≡ 1 + k
one_more k = omega arith

-- ---- numbers rise

pub lower : {A : Type 0} (number : A → ℕ) (low up : ℕ) (xs : List A) → low ≤ up → RiseBy number up xs → RiseBy number low xs
lower number low up [] le h = tt
lower number low up (x ∷ xs) le h = (omega (arith, le, h.0), h.1, h.2)

pub part_rises : {A : Type 0} (number : A → ℕ) (low : ℕ) (p : A → Bool) (xs : List A) → RiseBy number low xs → RiseBy number low (filter p xs)
part_rises number low p [] h = tt
part_rises number low p (x ∷ xs) h = by (p x) (part_rises number (number x) p xs h.2)
  where
    by : (b : Bool) → RiseBy number (number x) (filter p xs) → RiseBy number low (if b then x ∷ filter p xs else filter p xs)
    by true rest = (h.0, h.1, rest)
    by false rest = lower number low (number x) (filter p xs) (omega (arith, h.0)) rest

-- ---- an item among the others: in front, in the place of the first, and further back

pub front : {A : Type 0} (number : A → ℕ) (x y : A) (ys : List A) → nat_lt (number x) (number y) ≡ true → with_item number x (y ∷ ys) ≡ x ∷ y ∷ ys
front number x y ys t = ap (λ b. if b then x ∷ y ∷ ys else (if number x == number y then x ∷ ys else y ∷ with_item number x ys)) t

pub instead : {A : Type 0} (number : A → ℕ) (x y : A) (ys : List A) → nat_lt (number x) (number y) ≡ false → (number x == number y) ≡ true
    → with_item number x (y ∷ ys) ≡ x ∷ ys
instead number x y ys t e =
    ap (λ b. if b then x ∷ y ∷ ys else (if number x == number y then x ∷ ys else y ∷ with_item number x ys)) t
    ∙ ap (λ b. if b then x ∷ ys else y ∷ with_item number x ys) e

pub further : {A : Type 0} (number : A → ℕ) (x y : A) (ys : List A) → nat_lt (number x) (number y) ≡ false → (number x == number y) ≡ false
    → with_item number x (y ∷ ys) ≡ y ∷ with_item number x ys
further number x y ys t e =
    ap (λ b. if b then x ∷ y ∷ ys else (if number x == number y then x ∷ ys else y ∷ with_item number x ys)) t
    ∙ ap (λ b. if b then x ∷ ys else y ∷ with_item number x ys) e

pub with_rises : {A : Type 0} (number : A → ℕ) (low : ℕ) (x : A) (xs : List A) → low < number x → number x < 2 ^ 63 → RiseBy number low xs
    → RiseBy number low (with_item number x xs)
with_rises number low x [] l m h = (l, m, tt)
with_rises number low x (y ∷ ys) l m h = by (tells (number x) (number y)) (λ f. with_rises number (number y) x ys f m h.2) where
  by : Less (number x) (number y) ⊎ (Same (number x) (number y) ⊎ Less (number y) (number x))
      → (number y < number x → RiseBy number (number y) (with_item number x ys))
      → RiseBy number low (with_item number x (y ∷ ys))
  by (inl t) more = subst (λ zs. RiseBy number low zs) (sym (front number x y ys t.0)) (l, m, (t.4, h.1, h.2))
  by (inr (inl e)) more =
      subst (λ zs. RiseBy number low zs) (sym (instead number x y ys e.0 e.2)) (l, m, subst (λ k. RiseBy number k ys) (sym e.4) h.2)
  by (inr (inr f)) more = subst (λ zs. RiseBy number low zs) (sym (further number x y ys f.1 f.3)) (h.0, h.1, more f.4)

pub has_added : {A : Type 0} (number : A → ℕ) (x : A) (xs : List A) → has_number number (with_item number x xs) (number x) ≡ true
has_added number x [] = or_left (number x == number x) false (equal_itself (number x))
has_added number x (y ∷ ys) = by (tells (number x) (number y)) (has_added number x ys) where
  by : Less (number x) (number y) ⊎ (Same (number x) (number y) ⊎ Less (number y) (number x))
      → has_number number (with_item number x ys) (number x) ≡ true → has_number number (with_item number x (y ∷ ys)) (number x) ≡ true
  by (inl t) more =
      ap (λ zs. has_number number zs (number x)) (front number x y ys t.0)
      ∙ or_left (number x == number x) (has_number number (y ∷ ys) (number x)) (equal_itself (number x))
  by (inr (inl e)) more =
      ap (λ zs. has_number number zs (number x)) (instead number x y ys e.0 e.2)
      ∙ or_left (number x == number x) (has_number number ys (number x)) (equal_itself (number x))
  by (inr (inr f)) more =
      ap (λ zs. has_number number zs (number x)) (further number x y ys f.1 f.3)
      ∙ or_right (number y == number x) (has_number number (with_item number x ys) (number x)) more

pub has_still : {A : Type 0} (number : A → ℕ) (x : A) (n : ℕ) (xs : List A) → has_number number xs n ≡ true → has_number number (with_item number x xs) n ≡ true
has_still number x n [] e = or_right (number x == n) false e
has_still number x n (y ∷ ys) e = by (tells (number x) (number y)) (or_cases (number y == n) (has_number number ys n) e) (λ g. has_still number x n ys g) where
  by : Less (number x) (number y) ⊎ (Same (number x) (number y) ⊎ Less (number y) (number x))
      → ((number y == n) ≡ true) ⊎ (has_number number ys n ≡ true)
      → (has_number number ys n ≡ true → has_number number (with_item number x ys) n ≡ true)
      → has_number number (with_item number x (y ∷ ys)) n ≡ true
  by (inl t) o more = ap (λ zs. has_number number zs n) (front number x y ys t.0) ∙ or_right (number x == n) (has_number number (y ∷ ys) n) e
  by (inr (inl q)) (inl a) more =
      ap (λ zs. has_number number zs n) (instead number x y ys q.0 q.2) ∙ or_left (number x == n) (has_number number ys n) (ap (λ k. k == n) q.4 ∙ a)
  by (inr (inl q)) (inr b) more = ap (λ zs. has_number number zs n) (instead number x y ys q.0 q.2) ∙ or_right (number x == n) (has_number number ys n) b
  by (inr (inr f)) (inl a) more =
      ap (λ zs. has_number number zs n) (further number x y ys f.1 f.3) ∙ or_left (number y == n) (has_number number (with_item number x ys) n) a
  by (inr (inr f)) (inr b) more =
      ap (λ zs. has_number number zs n) (further number x y ys f.1 f.3) ∙ or_right (number y == n) (has_number number (with_item number x ys) n) (more b)

-- ---- places

pub place_further : {A : Type 0} (number : A → ℕ) (n : ℕ) (x : A) (xs : List A) → nat_lt (number x) n ≡ true
    → place_by number n (x ∷ xs) ≡ suc (place_by number n xs)
place_further number n x xs t = ap (λ b. cond b (1 + place_by number n xs) 0) t ∙ sym (one_more (place_by number n xs))

pub place_here : {A : Type 0} (number : A → ℕ) (n : ℕ) (x : A) (xs : List A) → nat_lt (number x) n ≡ false → place_by number n (x ∷ xs) ≡ 0
place_here number n x xs t = ap (λ b. cond b (1 + place_by number n xs) 0) t

pub above_low : {A : Type 0} (number : A → ℕ) (low : ℕ) (xs : List A) (j : ℕ) (d : A) → RiseBy number low xs → j < length xs → low < number (get_or xs j d)
above_low number low [] j d h l = absurd (omega (arith, l))
above_low number low (x ∷ xs) zero d h l = h.0
above_low number low (x ∷ xs) (suc j) d h l =
    let m : number x < number (get_or xs j d) = above_low number (number x) xs j d h.2 (omega (arith, l)) in omega (arith, h.0, m)

-- a later number is not below an earlier one
pub never_falls : {A : Type 0} (number : A → ℕ) (low : ℕ) (xs : List A) → RiseBy number low xs → (i j : ℕ) (d : A) → i ≤ j → j < length xs
    → number (get_or xs i d) ≤ number (get_or xs j d)
never_falls number low [] h i j d le l = absurd (omega (arith, l))
never_falls number low (x ∷ xs) h zero zero d le l = omega arith
never_falls number low (x ∷ xs) h zero (suc j) d le l =
    let m : number x < number (get_or xs j d) = above_low number (number x) xs j d h.2 (omega (arith, l)) in omega (arith, m)
never_falls number low (x ∷ xs) h (suc i) zero d le l = absurd (omega (arith, le))
never_falls number low (x ∷ xs) h (suc i) (suc j) d le l = never_falls number (number x) xs h.2 i j d (omega (arith, le)) (omega (arith, l))

-- if the last number is below one, all are
pub all_below : {A : Type 0} (number : A → ℕ) (n : ℕ) (xs : List A) (last : A) → RiseBy number 0 xs → slice_get xs (length xs - 1) ≡ Some last → number last < n
    → place_by number n xs ≡ length xs
all_below number n xs last h e l = prefix_len_is (λ x. nat_lt (number x) n) xs (length xs) last (omega arith) each (λ m. absurd (omega (arith, m))) where
  each : (k : ℕ) → k < length xs → nat_lt (number (get_or xs k last)) n ≡ true
  each k m =
      let falls : number (get_or xs k last) ≤ number (get_or xs (length xs - 1) last) =
      never_falls number 0 xs h k (length xs - 1) last (omega (arith, m)) (omega (arith, m)) in
      let at_end : number (get_or xs (length xs - 1) last) ≡ number last = ap number (get_or_from_slice_get xs (length xs - 1) last last e) in
      (less (number (get_or xs k last)) n (omega (arith, falls, at_end, l))).0

pub by_point : {A : Type 0} (number : A → ℕ) (n i : ℕ) (xs : List A) (d : A) → i ≤ length xs
    → IsPartitionPoint (λ x. nat_lt (number x) n ≡ true) (λ x. nat_lt (number x) n ≡ false) xs i → i ≡ place_by number n xs
by_point number n i xs d le point =
    sym (prefix_len_is (λ x. nat_lt (number x) n) xs i d le (λ k l. point.0 k d (omega arith) l) (λ l. point.1 i d (omega arith) l))

-- ---- the item at the place

abbrev pub has_at : {A : Type 0} → (A → ℕ) → List A → ℕ → ℕ → Bool
has_at number xs k n = unwrap_or (option_map (λ x. number x == n) (slice_get xs k)) false

is_same : (a b : ℕ) → (a == b) ≡ true → a ≡ b
is_same a b e = grind (arith, nat_tests)

isnt_less : (a b : ℕ) → a ≡ b → nat_lt a b ≡ false
isnt_less a b e = grind (arith, nat_tests)

-- an item of this number stands above if the numbers rise from
above_found : {A : Type 0} (number : A → ℕ) (low n k : ℕ) (xs : List A) → RiseBy number low xs → has_at number xs k n ≡ true → low < n
above_found number low n k [] h e = cc
above_found number low n zero (x ∷ xs) h e = omega (arith, h.0, is_same (number x) n e)
above_found number low n (suc k) (x ∷ xs) h e = let more : number x < n = above_found number (number x) n k xs h.2 e in omega (arith, h.0, more)

-- an item of this number is at its place
pub found_at : {A : Type 0} (number : A → ℕ) (low n k : ℕ) (xs : List A) → RiseBy number low xs → has_at number xs k n ≡ true → k ≡ place_by number n xs
found_at number low n k [] h e = cc
found_at number low n zero (x ∷ xs) h e = sym (place_here number n x xs (isnt_less (number x) n (is_same (number x) n e)))
found_at number low n (suc k) (x ∷ xs) h e =
    ap suc (found_at number (number x) n k xs h.2 e) ∙ sym (place_further number n x xs (less (number x) n (above_found number (number x) n k xs h.2 e)).0)

pub adds : {A : Type 0} (number : A → ℕ) (x : A) (xs : List A) → has_at number xs (place_by number (number x) xs) (number x) ≡ false
    → with_item number x xs ≡ insert xs (place_by number (number x) xs) x
adds number x [] h = refl
adds number x (y ∷ ys) h = by (tells (number x) (number y)) (adds number x ys) where
  by : Less (number x) (number y) ⊎ (Same (number x) (number y) ⊎ Less (number y) (number x))
      → (has_at number ys (place_by number (number x) ys) (number x) ≡ false → with_item number x ys ≡ insert ys (place_by number (number x) ys) x)
      → with_item number x (y ∷ ys) ≡ insert (y ∷ ys) (place_by number (number x) (y ∷ ys)) x
  by (inl t) more = front number x y ys t.0 ∙ sym (ap (λ k. insert (y ∷ ys) k x) (place_here number (number x) y ys t.1))
  by (inr (inl e)) more = absurd (impossible (sym (ap (λ k. has_at number (y ∷ ys) k (number x)) (place_here number (number x) y ys e.1) ∙ e.3) ∙ h))
  by (inr (inr f)) more =
      further number x y ys f.1 f.3
      ∙ ap (λ l. y ∷ l) (more (sym (ap (λ k. has_at number (y ∷ ys) k (number x)) (place_further number (number x) y ys f.0)) ∙ h))
      ∙ sym (ap (λ k. insert (y ∷ ys) k x) (place_further number (number x) y ys f.0))

pub replaces : {A : Type 0} (number : A → ℕ) (x : A) (xs : List A) → has_at number xs (place_by number (number x) xs) (number x) ≡ true
    → with_item number x xs ≡ slice_set xs (place_by number (number x) xs) x
replaces number x [] h = cc
replaces number x (y ∷ ys) h = by (tells (number x) (number y)) (replaces number x ys) where
  by : Less (number x) (number y) ⊎ (Same (number x) (number y) ⊎ Less (number y) (number x))
      → (has_at number ys (place_by number (number x) ys) (number x) ≡ true → with_item number x ys ≡ slice_set ys (place_by number (number x) ys) x)
      → with_item number x (y ∷ ys) ≡ slice_set (y ∷ ys) (place_by number (number x) (y ∷ ys)) x
  by (inl t) more = absurd (impossible (sym h ∙ ap (λ k. has_at number (y ∷ ys) k (number x)) (place_here number (number x) y ys t.1) ∙ t.3))
  by (inr (inl e)) more = instead number x y ys e.0 e.2 ∙ sym (ap (λ k. slice_set (y ∷ ys) k x) (place_here number (number x) y ys e.1))
  by (inr (inr f)) more =
      further number x y ys f.1 f.3
      ∙ ap (λ l. y ∷ l) (more (sym (ap (λ k. has_at number (y ∷ ys) k (number x)) (place_further number (number x) y ys f.0)) ∙ h))
      ∙ sym (ap (λ k. slice_set (y ∷ ys) k x) (place_further number (number x) y ys f.0))

none_above : {A : Type 0} (number : A → ℕ) (low n : ℕ) (xs : List A) → RiseBy number low xs → n ≤ low → has_number number xs n ≡ false
none_above number low n [] h le = refl
none_above number low n (x ∷ xs) h le =
    ap (λ b. b || has_number number xs n) (less n (number x) (omega (arith, h.0, le))).3 ∙ none_above number (number x) n xs h.2 (omega (arith, h.0, le))

pub has_at_place : {A : Type 0} (number : A → ℕ) (low n : ℕ) (xs : List A) → RiseBy number low xs
    → has_at number xs (place_by number n xs) n ≡ has_number number xs n
has_at_place number low n [] h = refl
has_at_place number low n (x ∷ xs) h = by (tells (number x) n) (has_at_place number (number x) n xs h.2) where
  by : Less (number x) n ⊎ (Same (number x) n ⊎ Less n (number x)) → has_at number xs (place_by number n xs) n ≡ has_number number xs n
      → has_at number (x ∷ xs) (place_by number n (x ∷ xs)) n ≡ has_number number (x ∷ xs) n
  by (inl t) more = ap (λ k. has_at number (x ∷ xs) k n) (place_further number n x xs t.0) ∙ more ∙ sym (ap (λ b. b || has_number number xs n) t.2)
  by (inr (inl e)) more = ap (λ k. has_at number (x ∷ xs) k n) (place_here number n x xs e.0) ∙ e.2 ∙ sym (or_left (number x == n) (has_number number xs n) e.2)
  by (inr (inr f)) more =
      ap (λ k. has_at number (x ∷ xs) k n) (place_here number n x xs f.1) ∙ f.3
      ∙ sym (ap (λ b. b || has_number number xs n) f.3 ∙ none_above number (number x) n xs h.2 (omega (arith, f.4)))
