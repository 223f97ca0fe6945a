-- Two rising lists, walked side by side.
use Rattle.std.proofs.Common.{◌≡◌, ℕ, ◌<◌, ◌≤◌, ◌⊎◌, inl, inr, Bool, true, false, ◌&&◌, ◌||◌, ◌==◌, not, if◌then◌else◌, List, [], ◌∷◌, ◌++◌, filter, refl, sym, ap, ◌∙◌, arith}
use Rattle.std.specs.Prelude.{nat_lt}
use Rattle.std.proofs.lemmas.Bool.Decides.{nat_tests}
use Rattle.iv_catalogue.specs.declared.cause.Fault.{Fault}
use Rattle.iv_step.specs.Pending.{FaultsRise, Precedes, RiseAfter, has_fault, is_same, without}
use Rattle.iv_script.specs.Merging.{begins_with, faults_from, is_before}

-- ---- two faults

-- what two tests say of two numbers
tells : (a b : ℕ) → ((nat_lt a b ≡ true) × ((a == b) ≡ false) × (a < b)) ⊎ (((nat_lt a b ≡ false) × ((a == b) ≡ true) × (a ≡ b)) ⊎ ((nat_lt a b ≡ false) × ((a == b) ≡ false) × (b < a)))
tells a b = grind (arith, nat_tests)

-- what the tests say of two faults: the first comes before the second, or they are one, or it comes after
pub told : (f g : Fault) → ((is_before f g ≡ true) × (is_same g f ≡ false) × Precedes f g)
    ⊎ (((is_before f g ≡ false) × (is_same g f ≡ true)) ⊎ ((is_before f g ≡ false) × (is_same g f ≡ false) × Precedes g f))
told f g = elim (tells f.constraint g.constraint) [
  | inl t ↦ inl (rw (t.0, t.1) (refl, refl, inl t.2))
  | inr o ↦ elim o [
    | inl e ↦ rows e.0 e.1 e.2
    | inr m ↦ inr (inr (rw (m.0, m.1) (refl, refl, inl m.2)))
  ]
] where
  rows : nat_lt f.constraint g.constraint ≡ false → (f.constraint == g.constraint) ≡ true → f.constraint ≡ g.constraint
      → ((is_before f g ≡ true) × (is_same g f ≡ false) × Precedes f g)
      ⊎ (((is_before f g ≡ false) × (is_same g f ≡ true)) ⊎ ((is_before f g ≡ false) × (is_same g f ≡ false) × Precedes g f))
  rows a b e = elim (tells f.row g.row) [
    | inl t ↦ inl (rw (a, b, t.0, t.1) (refl, refl, inr (e, t.2)))
    | inr o ↦ elim o [
      | inl s ↦ inr (inl (rw (a, b, s.0, s.1) (refl, refl)))
      | inr m ↦ inr (inr (rw (a, b, m.0, m.1) (refl, refl, inr (sym e, m.2))))
    ]
  ]

pub precedes_then : (f g h : Fault) → Precedes f g → Precedes g h → Precedes f h
precedes_then f g h (inl a) (inl b) = inl (omega (arith, a, b))
precedes_then f g h (inl a) (inr b) = inl (omega (arith, a, b.0))
precedes_then f g h (inr a) (inl b) = inl (omega (arith, a.0, b))
precedes_then f g h (inr a) (inr b) = inr (a.0 ∙ b.0, omega (arith, a.1, b.1))

-- one that comes before another is another
pub other : (f g : Fault) → Precedes f g → is_same g f ≡ false
other f g h = grind (arith, nat_tests, h)

pub other_too : (f g : Fault) → Precedes f g → is_same f g ≡ false
other_too f g h = grind (arith, nat_tests, h)

pub not_before : (f g : Fault) → Precedes f g → is_before g f ≡ false
not_before f g h = grind (arith, nat_tests, h)

-- ---- lists

-- what comes before all of a list isn't in it
pub before_all : (f g : Fault) (gs : List Fault) → Precedes f g → RiseAfter g gs → has_fault (g ∷ gs) f ≡ false
before_all f g [] h r = ap (λ b. b || false) (other_too f g h)
before_all f g (k ∷ gs) h r = ap (λ b. b || has_fault (k ∷ gs) f) (other_too f g h) ∙ before_all f k gs (precedes_then f g k h r.0) r.1

pub tail_rises : (f : Fault) (fs : List Fault) → RiseAfter f fs → FaultsRise fs
tail_rises f [] r = tt
tail_rises f (g ∷ fs) r = r.1

pub from_rises : (f : Fault) (gs : List Fault) → FaultsRise gs → FaultsRise (faults_from f gs)
from_rises f [] r = tt
from_rises f (g ∷ gs) r = elim (is_before g f) as (λ b. FaultsRise (if b then faults_from f gs else g ∷ gs)) [
  | true ↦ from_rises f gs (tail_rises g gs r)
  | false ↦ r
]

before_rest_of : (f g : Fault) (gs : List Fault) → Precedes f g → RiseAfter g gs → has_fault gs f ≡ false
before_rest_of f g [] h r = refl
before_rest_of f g (k ∷ ks) h r = before_all f k ks (precedes_then f g k h r.0) r.1

-- the first of those that aren't before a fault tells whether the list has it
pub front_tells : (f : Fault) (gs : List Fault) → FaultsRise gs → begins_with (faults_from f gs) f ≡ has_fault gs f
front_tells f [] r = refl
front_tells f (g ∷ gs) r = elim (told g f) [
  | inl t ↦ rw (t.0, t.1) (front_tells f gs (tail_rises g gs r))
  | inr o ↦ elim o [
    | inl s ↦ rw (s.0, s.1) refl
    | inr m ↦ rw (m.0, m.1) (sym (before_rest m.2))
  ]
] where
  before_rest : Precedes f g → has_fault gs f ≡ false
  before_rest h = before_rest_of f g gs h r

-- those before a fault are no matter for what comes after it
pub from_has : (f x : Fault) (gs : List Fault) → Precedes f x → has_fault (faults_from f gs) x ≡ has_fault gs x
from_has f x [] h = refl
from_has f x (g ∷ gs) h = elim (told g f) [
  | inl t ↦ rw t.0 (from_has f x gs h ∙ sym (ap (λ b. b || has_fault gs x) (other g x (precedes_then g f x t.2 h))))
  | inr o ↦ elim o [
    | inl s ↦ rw s.0 refl
    | inr m ↦ rw m.0 refl
  ]
]

from_without : (f low : Fault) (fs gs : List Fault) → ((x : Fault) → Precedes low x → Precedes f x) → RiseAfter low fs → without fs (faults_from f gs) ≡ without fs gs
from_without f low [] gs after r = refl
from_without f low (x ∷ fs) gs after r =
    ap (λ b. if not b then x ∷ without fs (faults_from f gs) else without fs (faults_from f gs)) (from_has f x gs (after x r.0))
    ∙ ap (λ l. if not (has_fault gs x) then x ∷ l else l) (from_without f x fs gs (λ y h. after y (precedes_then low x y r.0 h)) r.1)

-- the faults that the others don't have, each list walked once
abbrev pub merged : List Fault → List Fault → List Fault
merged [] left = []
merged (f ∷ fs) left = (if begins_with (faults_from f left) f then [] else f ∷ []) ++ merged fs (faults_from f left)

pub merged_is : (fs gs : List Fault) → FaultsRise fs → FaultsRise gs → merged fs gs ≡ without fs gs
merged_is [] gs r s = refl
merged_is (f ∷ fs) gs r s =
    ap (λ b. (if b then [] else f ∷ []) ++ merged fs (faults_from f gs)) (front_tells f gs s)
    ∙ ap (λ l. (if has_fault gs f then [] else f ∷ []) ++ l) (merged_is fs (faults_from f gs) (tail_rises f fs r) (from_rises f gs s) ∙ from_without f f fs gs (λ x h. h) r)
    ∙ by (has_fault gs f) where
      by : (b : Bool) → ((if b then [] else f ∷ []) ++ without fs gs) ≡ (if not b then f ∷ without fs gs else without fs gs)
      by true = refl
      by false = refl
