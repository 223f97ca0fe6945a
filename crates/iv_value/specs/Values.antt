-- This file defines the order of values, their sameness, what fits a column, and arithmetic in 64 bits.
use Rattle.std.specs.Prelude.{Bool, true, false, ◌&&◌, if◌then◌else◌, nat_le, List, [], ◌∷◌, length, ℤ, pos, negsuc, int_le, Option, Some, None, chars, bytes_eq}
use Rattle.std.specs.declared.cmp.Ordering.{Ordering}
use Rattle.std.specs.Ordering.{nat_cmp, int_cmp, int_eq}
use Rattle.std.specs.Cmp.Lexicographic.{slice_cmp}
use Rattle.iv_value.specs.declared.value.Value.{Value}
use Rattle.iv_value.specs.declared.value.Value.TheVariants.{Null, Int, Text}
use Rattle.iv_value.specs.declared.value.Kind.{Kind}
use Rattle.iv_value.specs.declared.value.Kind.TheVariants.{Integer, Varchar}
use Rattle.iv_value.specs.declared.value.Fit.{Fit}
use Rattle.iv_value.specs.declared.value.Fit.TheVariants.{Yes, WrongKind, TooLong}

-- Whether a value is null.
abbrev pub is_null : Value → Bool
is_null Null = true
is_null _ = false

-- Compares two integers by size, two texts by their code points; none for a null or for two kinds
-- ("comparison predicate", without padding).
abbrev pub order : Value → Value → Option Ordering
order (Int a) (Int b) = Some (int_cmp a b)
order (Text a) (Text b) = Some (slice_cmp nat_cmp (chars a) (chars b))
order _ _ = None

-- Two values are the same if they are equal; null is the same as null.
abbrev pub is_same : Value → Value → Bool
is_same Null Null = true
is_same (Int a) (Int b) = int_eq a b
is_same (Text a) (Text b) = bytes_eq a b
is_same _ _ = false

-- Two lists of values are the same if they are as long and the same at each place.
abbrev pub all_same : List Value → List Value → Bool
all_same [] [] = true
all_same (x ∷ xs) (y ∷ ys) = is_same x y && all_same xs ys
all_same _ _ = false

-- How a value fits a column: null fits each, an integer an INTEGER, a text a VARCHAR of at least its count of characters
-- ("Store assignment").
abbrev pub fit_of : Value → Kind → Fit
fit_of Null kind = Yes
fit_of (Int a) Integer = Yes
fit_of (Text t) (Varchar n) = if nat_le (length (chars t)) n then Yes else TooLong
fit_of _ _ = WrongKind

-- Whether an integer has a place in 64 bits: from -9223372036854775808 to 9223372036854775807.
abbrev pub in_range : ℤ → Bool
in_range z = int_le (negsuc 9223372036854775807) z && int_le z (pos 9223372036854775807)

-- An integer if it has a place in 64 bits.
abbrev pub checked : ℤ → Option ℤ
checked z = if in_range z then Some z else None
