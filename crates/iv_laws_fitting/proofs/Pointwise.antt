-- Lists element by element.
use Rattle.std.proofs.Common.{◌≡◌, ℕ, zero, suc, ◌+◌, Bool, true, false, List, [], ◌∷◌, ◌∙◌, Option, Some, refl, sym, ap, length, map, zip, slice_get, option_map, arith}
use Rattle.std.proofs.lemmas.Bool.{and_from, and_parts, or_parts}
use Rattle.std.proofs.lemmas.Option.{same_Some}
use Rattle.std.specs.List.{list_any, list_all, enumerate_from}
use Rattle.iv_laws_fitting.specs.Types.{Kind, Expr}
use Rattle.iv_expr.specs.Suiting.{Shape}
use Rattle.iv_laws_fitting.specs.PlanShapes.{value_suits, values_suit, kind_suits, kinds_suit}

pub any_at : {X : Type 0} (p : X → Bool) (xs : List X) → list_any p xs ≡ false → (j : ℕ) (x : X) → slice_get xs j ≡ Some x → p x ≡ false
any_at p [] n j x h = cc
any_at p (y ∷ ys) n zero x h = ap p (sym (same_Some y x h)) ∙ (or_parts (p y) (list_any p ys) n).0
any_at p (y ∷ ys) n (suc j) x h = any_at p ys (or_parts (p y) (list_any p ys) n).1 j x h

pub all_at : {X : Type 0} (p : X → Bool) (xs : List X) → list_all p xs ≡ true → (j : ℕ) (x : X) → slice_get xs j ≡ Some x → p x ≡ true
all_at p [] n j x h = cc
all_at p (y ∷ ys) n zero x h = ap p (sym (same_Some y x h)) ∙ (and_parts (p y) (list_all p ys) n).0
all_at p (y ∷ ys) n (suc j) x h = all_at p ys (and_parts (p y) (list_all p ys) n).1 j x h

abbrev pub some_pair : {X Y : Type 0} → X → Y → Option (X × Y)
some_pair x y = Some (x, y)

pub zip_at : {X Y : Type 0} (xs : List X) (ys : List Y) (j : ℕ) (x : X) (y : Y) → slice_get xs j ≡ Some x → slice_get ys j ≡ Some y → slice_get (zip xs ys) j ≡ Some (x, y)
zip_at [] ys j x y h g = cc
zip_at (a ∷ more) [] j x y h g = cc
zip_at {X = X} {Y = Y} (a ∷ more) (b ∷ bs) zero x y h g = ap (λ (u : X). some_pair u b) (same_Some a x h) ∙ ap (λ (v : Y). some_pair x v) (same_Some b y g)
zip_at (a ∷ more) (b ∷ bs) (suc j) x y h g = zip_at more bs j x y h g

pub map_at : {X Y : Type 0} (f : X → Y) (xs : List X) (j : ℕ) → slice_get (map f xs) j ≡ option_map f (slice_get xs j)
map_at f [] j = refl
map_at f (x ∷ xs) zero = refl
map_at f (x ∷ xs) (suc j) = map_at f xs j

-- the element that another is made of
pub made_of : {X Y : Type 0} (f : X → Y) (xs : List X) (j : ℕ) (y : Y) → slice_get (map f xs) j ≡ Some y → (x : X) × (slice_get xs j ≡ Some x) × (y ≡ f x)
made_of f [] j y h = cc
made_of f (x ∷ xs) zero y h = (x, refl, sym (same_Some (f x) y h))
made_of f (x ∷ xs) (suc j) y h = made_of f xs j y h

-- the element with its place
pub placed_at : {X : Type 0} (from : ℕ) (xs : List X) (j : ℕ) (p : ℕ × X) → slice_get (enumerate_from from xs) j ≡ Some p → (slice_get xs j ≡ Some p.1) × (p.0 ≡ from + j)
placed_at from [] j p h = cc
placed_at {X = X} from (x ∷ xs) zero p h =
    let e : (from, x) ≡ p = same_Some (from, x) p h in
    let here : from ≡ from + 0 = omega arith in
    (ap (λ (q : ℕ × X). Some q.1) e, sym (ap (λ (q : ℕ × X). q.0) e) ∙ here)
placed_at from (x ∷ xs) (suc j) p h =
    let rest = placed_at (from + 1) xs j p h in
    let further : from + 1 + j ≡ from + suc j = omega arith in
    (rest.0, rest.1 ∙ further)

pub enumerated_length : {X : Type 0} (from : ℕ) (xs : List X) → length (enumerate_from from xs) ≡ length xs
enumerated_length from [] = refl
enumerated_length from (x ∷ xs) = ap suc (enumerated_length (from + 1) xs)

pub mapped_length : {X Y : Type 0} (f : X → Y) (xs : List X) → length (map f xs) ≡ length xs
mapped_length f [] = refl
mapped_length f (x ∷ xs) = ap suc (mapped_length f xs)

pub same_tail : (m n : ℕ) → suc m ≡ suc n → m ≡ n
same_tail m n h = omega arith

-- expressions suit columns if each suits its own
pub values_by : (shape : Shape) (kinds : List (Option Kind)) (es : List Expr) → length es ≡ length kinds
    → ((j : ℕ) (o : Option Kind) (e : Expr) → slice_get kinds j ≡ Some o → slice_get es j ≡ Some e → value_suits shape o e ≡ true)
    → values_suit shape kinds es ≡ true
values_by shape [] [] l h = refl
values_by shape [] (e ∷ es) l h = cc
values_by shape (o ∷ os) [] l h = cc
values_by shape (o ∷ os) (e ∷ es) l h =
    and_from (value_suits shape o e) (values_suit shape os es) (h zero o e refl refl)
    (values_by shape os es (same_tail (length es) (length os) l) (λ j. h (suc j)))

pub kinds_by : (kinds : List (Option Kind)) (own : List Kind) → length own ≡ length kinds
    → ((j : ℕ) (o : Option Kind) (k : Kind) → slice_get kinds j ≡ Some o → slice_get own j ≡ Some k → kind_suits o k ≡ true)
    → kinds_suit kinds own ≡ true
kinds_by [] [] l h = refl
kinds_by [] (k ∷ ks) l h = cc
kinds_by (o ∷ os) [] l h = cc
kinds_by (o ∷ os) (k ∷ ks) l h =
    and_from (kind_suits o k) (kinds_suit os ks) (h zero o k refl refl) (kinds_by os ks (same_tail (length ks) (length os) l) (λ j. h (suc j)))

pub all_by : {X : Type 0} (p : X → Bool) (xs : List X) → ((j : ℕ) (x : X) → slice_get xs j ≡ Some x → p x ≡ true) → list_all p xs ≡ true
all_by p [] h = refl
all_by p (x ∷ xs) h = and_from (p x) (list_all p xs) (h zero x refl) (all_by p xs (λ j. h (suc j)))
