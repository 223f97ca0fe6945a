-- What the tests of sameness decide.
use Rattle.std.proofs.Common.{◌≡◌, ℕ, true, List, refl, ap}
use Rattle.std.specs.Str.{bytes_eq}
use Rattle.std.proofs.lemmas.Bool.Decides.{Decides-int_eq}
use Rattle.std.proofs.lemmas.Slice.Eq.{bytes_eq-Decides}
use Rattle.iv_value.specs.declared.value.Value.{Value}
use Rattle.iv_value.specs.declared.value.Value.TheVariants.{Null, Int, Text}
use Rattle.iv_value.specs.Values.{is_same}

pub value_is : (v u : Value) → is_same v u ≡ true → v ≡ u
value_is Null Null e = refl
value_is Null (Int b) e = cc
value_is Null (Text b) e = cc
value_is (Int a) Null e = cc
value_is (Int a) (Int b) e = ap Int ((Decides-int_eq a b).0 e)
value_is (Int a) (Text b) e = cc
value_is (Text a) Null e = cc
value_is (Text a) (Int b) e = cc
value_is (Text a) (Text b) e = ap Text ((bytes_eq-Decides a b).0 e)

pub name_is : (v u : List ℕ) → bytes_eq v u ≡ true → v ≡ u
name_is v u = (bytes_eq-Decides v u).0
