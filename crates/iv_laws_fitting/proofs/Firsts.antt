-- The first of a list is what find and position give.
use Rattle.std.proofs.Common.{◌≡◌, ℕ, Bool, true, false, not, ◌||◌, List, [], ◌∷◌, ◌++◌, ◌∙◌, Some, None, refl, sym, ap, cond, length, ◌+◌, suc, ◌<◌, nat_lt, find, position, slice_get, arith}
use Rattle.std.proofs.lemmas.Bool.{or_parts}
use Rattle.std.proofs.lemmas.Bool.Decides.{nat_tests}
use Rattle.std.specs.List.{list_any, position_or_len}
use Rattle.iv_laws_fitting.specs.Naming.{IsFirst, NonePasses}

-- one more in front, which doesn't pass
pub later : {X : Type 0} (p : X → Bool) (y : X) (ys : List X) (i : ℕ) (x : X) → p y ≡ false → IsFirst p ys i x → IsFirst p (y ∷ ys) (suc i) x
later p y ys i x n f = record {
  before = y ∷ f.before;
  after = f.after;
  split = ap (λ l. y ∷ l) f.split;
  passed = f.passed;
  none_before = ap (λ b. b || list_any p f.before) n ∙ f.none_before;
  counted = ap suc f.counted;
}

pub at_front : {X : Type 0} (p : X → Bool) (x : X) (xs : List X) → p x ≡ true → IsFirst p (x ∷ xs) 0 x
at_front p x xs h = record { before = []; after = xs; split = refl; passed = h; none_before = refl; counted = refl }

-- either none passes, or there is a first
pub data Search {X : Type 0} (p : X → Bool) (xs : List X) : Type 0 where
  nothing : NonePasses p xs → Search p xs
  something : (i : ℕ) → (x : X) → IsFirst p xs i x → Search p xs

search_more : {X : Type 0} (p : X → Bool) (y : X) (ys : List X) (b : Bool) → p y ≡ b → Search p ys → Search p (y ∷ ys)
search_more p y ys true h s = something 0 y (at_front p y ys h)
search_more p y ys false h (nothing n) = nothing (ap (λ b. b || list_any p ys) h ∙ n)
search_more p y ys false h (something i x f) = something (suc i) x (later p y ys i x h f)

pub search : {X : Type 0} (p : X → Bool) (xs : List X) → Search p xs
search p [] = nothing refl
search p (y ∷ ys) = search_more p y ys (p y) refl (search p ys)

place_split : {X : Type 0} (p : X → Bool) (before : List X) (x : X) (after : List X) → p x ≡ true → list_any p before ≡ false
    → position_or_len p (before ++ x ∷ after) ≡ length before
place_split p [] x after h n = ap (λ b. cond (not b) (1 + position_or_len p after) 0) h
place_split p (y ∷ ys) x after h n =
    let both = or_parts (p y) (list_any p ys) n in
    let one : 1 + length ys ≡ suc (length ys) = omega arith in
    ap (λ b. cond (not b) (1 + position_or_len p (ys ++ x ∷ after)) 0) both.0 ∙ ap (λ n. 1 + n) (place_split p ys x after h both.1) ∙ one

longer : {X : Type 0} (before : List X) (x : X) (after : List X) → length before < length (before ++ x ∷ after)
longer [] x after = omega arith
longer (y ∷ ys) x after = let l = longer ys x after in omega arith

shorter : {X : Type 0} (before : List X) (x : X) (after : List X) → nat_lt (length before) (length (before ++ x ∷ after)) ≡ true
shorter before x after = let l = longer before x after in grind (arith, nat_tests)

pub position_split : {X : Type 0} (p : X → Bool) (before : List X) (x : X) (after : List X) → p x ≡ true → list_any p before ≡ false
    → position p (before ++ x ∷ after) ≡ Some (length before)
position_split p before x after h n =
    ap (λ i. cond (nat_lt i (length (before ++ x ∷ after))) (Some i) None) (place_split p before x after h n)
    ∙ ap (λ b. cond b (Some (length before)) None) (shorter before x after)

find_split : {X : Type 0} (p : X → Bool) (before : List X) (x : X) (after : List X) → p x ≡ true → list_any p before ≡ false
    → find p (before ++ x ∷ after) ≡ Some x
find_split p [] x after h n = ap (λ b. cond b (Some x) (find p after)) h
find_split p (y ∷ ys) x after h n =
    let both = or_parts (p y) (list_any p ys) n in
    ap (λ b. cond b (Some y) (find p (ys ++ x ∷ after))) both.0 ∙ find_split p ys x after h both.1

get_split : {X : Type 0} (before : List X) (x : X) (after : List X) → slice_get (before ++ x ∷ after) (length before) ≡ Some x
get_split [] x after = refl
get_split (y ∷ ys) x after = get_split ys x after

-- the first is what position, find and an index give
pub first_position : {X : Type 0} (p : X → Bool) (xs : List X) (i : ℕ) (x : X) → IsFirst p xs i x → position p xs ≡ Some i
first_position p xs i x f = ap (position p) f.split ∙ position_split p f.before x f.after f.passed f.none_before ∙ ap (λ n. Some n) (sym f.counted)

pub first_found : {X : Type 0} (p : X → Bool) (xs : List X) (i : ℕ) (x : X) → IsFirst p xs i x → find p xs ≡ Some x
first_found p xs i x f = ap (find p) f.split ∙ find_split p f.before x f.after f.passed f.none_before

pub first_there : {X : Type 0} (p : X → Bool) (xs : List X) (i : ℕ) (x : X) → IsFirst p xs i x → slice_get xs i ≡ Some x
first_there p xs i x f = ap (λ l. slice_get l i) f.split ∙ ap (λ n. slice_get (f.before ++ x ∷ f.after) n) f.counted ∙ get_split f.before x f.after

no_place : {X : Type 0} (p : X → Bool) (xs : List X) → list_any p xs ≡ false → position_or_len p xs ≡ length xs
no_place p [] n = refl
no_place p (y ∷ ys) n =
    let both = or_parts (p y) (list_any p ys) n in
    let one : 1 + length ys ≡ suc (length ys) = omega arith in
    ap (λ b. cond (not b) (1 + position_or_len p ys) 0) both.0 ∙ ap (λ n. 1 + n) (no_place p ys both.1) ∙ one

not_less : (n : ℕ) → nat_lt n n ≡ false
not_less n = grind (arith, nat_tests)

-- if none passes they give none
pub none_position : {X : Type 0} (p : X → Bool) (xs : List X) → list_any p xs ≡ false → position p xs ≡ None
none_position p xs n =
    ap (λ i. cond (nat_lt i (length xs)) (Some i) None) (no_place p xs n) ∙ ap (λ b. cond b (Some (length xs)) None) (not_less (length xs))

pub none_found : {X : Type 0} (p : X → Bool) (xs : List X) → list_any p xs ≡ false → find p xs ≡ None
none_found p [] n = refl
none_found p (y ∷ ys) n =
    let both = or_parts (p y) (list_any p ys) n in
    ap (λ b. cond b (Some y) (find p ys)) both.0 ∙ none_found p ys both.1

-- if one passes, some does
pub some_passes : {X : Type 0} (p : X → Bool) (before : List X) (x : X) (after : List X) → p x ≡ true → list_any p (before ++ x ∷ after) ≡ true
some_passes p [] x after h = ap (λ b. b || list_any p after) h
some_passes p (y ∷ ys) x after h = elim (p y) as (λ b. (b || list_any p (ys ++ x ∷ after)) ≡ true) [ true ↦ refl | false ↦ some_passes p ys x after h ]

pub first_passes : {X : Type 0} (p : X → Bool) (xs : List X) (i : ℕ) (x : X) → IsFirst p xs i x → list_any p xs ≡ true
first_passes p xs i x f = ap (list_any p) f.split ∙ some_passes p f.before x f.after f.passed
