-- Keys that are the same are equal.
use Rattle.std.proofs.Common.{◌≡◌, refl, Bool, true, false, ◌&&◌, List, [], ◌∷◌, sym, ap, ◌∙◌}
use Rattle.std.proofs.lemmas.Bool.{true≢false}
use Rattle.std.proofs.lemmas.Bool.Decides.{Decides-int_eq}
use Rattle.std.proofs.lemmas.Slice.Eq.{bytes_eq-Decides}
use Rattle.iv_laws_levels.specs.Types.{Value}
use Rattle.iv_value.specs.declared.value.Value.TheVariants.{Null, Int, Text}
use Rattle.iv_value.specs.Values.{is_same, all_same}

pub false_true : false ≡ true → ⊥
false_true e = true≢false (sym e)

pub and_first : (a b : Bool) → (a && b) ≡ true → a ≡ true
and_first true b e = refl
and_first false b e = e

pub and_second : (a b : Bool) → (a && b) ≡ true → b ≡ true
and_second true b e = e
and_second false b e = absurd (false_true e)

is_same_itself : (v : Value) → is_same v v ≡ true
is_same_itself Null = refl
is_same_itself (Int a) = (Decides-int_eq a a).1 refl
is_same_itself (Text a) = (bytes_eq-Decides a a).1 refl

is_same_is : (v u : Value) → is_same v u ≡ true → v ≡ u
is_same_is Null Null e = refl
is_same_is Null (Int b) e = absurd (false_true e)
is_same_is Null (Text b) e = absurd (false_true e)
is_same_is (Int a) Null e = absurd (false_true e)
is_same_is (Int a) (Int b) e = ap Int ((Decides-int_eq a b).0 e)
is_same_is (Int a) (Text b) e = absurd (false_true e)
is_same_is (Text a) Null e = absurd (false_true e)
is_same_is (Text a) (Int b) e = absurd (false_true e)
is_same_is (Text a) (Text b) e = ap Text ((bytes_eq-Decides a b).0 e)

pub all_same_itself : (key : List Value) → all_same key key ≡ true
all_same_itself [] = refl
all_same_itself (v ∷ key) = ap (λ b. b && all_same key key) (is_same_itself v) ∙ all_same_itself key

pub all_same_is : (key other : List Value) → all_same key other ≡ true → key ≡ other
all_same_is [] [] e = refl
all_same_is [] (u ∷ other) e = absurd (false_true e)
all_same_is (v ∷ key) [] e = absurd (false_true e)
all_same_is (v ∷ key) (u ∷ other) e =
    let one = is_same_is v u (and_first (is_same v u) (all_same key other) e) in
    let rest = all_same_is key other (and_second (is_same v u) (all_same key other) e) in
    λ i. one i ∷ rest i

-- two tests that pass together are one
pub same_test : (a b : Bool) → (a ≡ true → b ≡ true) → (b ≡ true → a ≡ true) → a ≡ b
same_test true b f g = sym (f refl)
same_test false true f g = absurd (false_true (g refl))
same_test false false f g = refl

pub all_same_swap : (key other : List Value) → all_same key other ≡ all_same other key
all_same_swap key other = same_test (all_same key other) (all_same other key) (turned key other) (turned other key)
  where
    turned : (a b : List Value) → all_same a b ≡ true → all_same b a ≡ true
    turned a b e = ap (λ x. all_same x a) (sym (all_same_is a b e)) ∙ all_same_itself a
