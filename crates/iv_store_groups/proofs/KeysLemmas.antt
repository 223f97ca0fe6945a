-- Two keys are the same exactly if they are equal.
use Rattle.std.specs.Prelude.{◌&&◌, bytes_eq}
use Rattle.std.specs.Bool.{Decides}
use Rattle.std.specs.Ordering.{int_eq}
use Rattle.std.proofs.Common.{◌≡◌, List, [], ◌∷◌, true, refl, ap, ◌∙◌}
use Rattle.std.proofs.lemmas.Bool.Decides.{Decides-int_eq, Decides-like, Decides-and}
use Rattle.std.proofs.lemmas.Slice.Eq.{bytes_eq-Decides}
use Rattle.iv_value.specs.declared.value.Value.{Value}
use Rattle.iv_value.specs.declared.value.Value.TheVariants.{Null, Int, Text}
use Rattle.iv_value.specs.Values.{is_same, all_same}

-- two values are the same exactly if they are equal
pub is_same-Decides : (a b : Value) → Decides (is_same a b) (a ≡ b)
is_same-Decides Null Null = (λ _. refl, λ _. refl)
is_same-Decides Null (Int b) = (λ h. cc, λ h. cc)
is_same-Decides Null (Text b) = (λ h. cc, λ h. cc)
is_same-Decides (Int a) Null = (λ h. cc, λ h. cc)
is_same-Decides (Int a) (Int b) = Decides-like (int_eq a b) (λ e. ap Int e) (λ e. cc) (Decides-int_eq a b)
is_same-Decides (Int a) (Text b) = (λ h. cc, λ h. cc)
is_same-Decides (Text a) Null = (λ h. cc, λ h. cc)
is_same-Decides (Text a) (Int b) = (λ h. cc, λ h. cc)
is_same-Decides (Text a) (Text b) = Decides-like (bytes_eq a b) (λ e. ap Text e) (λ e. cc) (bytes_eq-Decides a b)

pub all_same-Decides : (xs ys : List Value) → Decides (all_same xs ys) (xs ≡ ys)
all_same-Decides [] [] = (λ _. refl, λ _. refl)
all_same-Decides [] (y ∷ ys) = (λ h. cc, λ h. cc)
all_same-Decides (x ∷ xs) [] = (λ h. cc, λ h. cc)
all_same-Decides (x ∷ xs) (y ∷ ys) = Decides-like {P = (x ≡ y) × (xs ≡ ys)} (is_same x y && all_same xs ys)
    (λ p. ap (λ v. v ∷ xs) p.0 ∙ ap (λ vs. y ∷ vs) p.1) (λ e. (cc, cc)) (Decides-and (is_same x y) (all_same xs ys) (is_same-Decides x y) (all_same-Decides xs ys))

pub all_same_refl : (a : List Value) → all_same a a ≡ true
all_same_refl a = (all_same-Decides a a).1 refl

pub all_same_sound : (a b : List Value) → all_same a b ≡ true → a ≡ b
all_same_sound a b = (all_same-Decides a b).0
