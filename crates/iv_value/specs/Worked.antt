-- This file states worked values of the definitions: the truth tables whole, and the edges of arithmetic, order and length.
use Rattle.std.specs.Prelude.{◌≡◌, [], ◌∷◌, pos, negsuc, ◌+ℤ◌, ◌-ℤ◌, ◌*ℤ◌, Some, None, true}
use Rattle.std.specs.declared.cmp.Ordering.TheVariants as ordering
use Rattle.iv_value.specs.declared.value.Value.TheVariants.{Null, Int, Text}
use Rattle.iv_value.specs.declared.value.Truth.TheVariants.{False, Unknown, True}
use Rattle.iv_value.specs.declared.value.Kind.TheVariants.{Integer, Varchar}
use Rattle.iv_value.specs.declared.value.Fit.TheVariants.{Yes, WrongKind, TooLong}
use Rattle.iv_value.specs.Truths.{truth_and, truth_or, truth_not}
use Rattle.iv_value.specs.Values.{order, is_same, fit_of, checked}

-- NOT.
abbrev pub NotTable : Type 0
NotTable = (truth_not False ≡ True) × (truth_not Unknown ≡ Unknown) × (truth_not True ≡ False)

-- AND, a row for each left side.
abbrev pub AndTable : Type 0
AndTable =
    (truth_and False False ≡ False) × (truth_and False Unknown ≡ False) × (truth_and False True ≡ False)
    × (truth_and Unknown False ≡ False) × (truth_and Unknown Unknown ≡ Unknown) × (truth_and Unknown True ≡ Unknown)
    × (truth_and True False ≡ False) × (truth_and True Unknown ≡ Unknown) × (truth_and True True ≡ True)

-- OR, a row for each left side.
abbrev pub OrTable : Type 0
OrTable =
    (truth_or False False ≡ False) × (truth_or False Unknown ≡ Unknown) × (truth_or False True ≡ True)
    × (truth_or Unknown False ≡ Unknown) × (truth_or Unknown Unknown ≡ Unknown) × (truth_or Unknown True ≡ True)
    × (truth_or True False ≡ True) × (truth_or True Unknown ≡ True) × (truth_or True True ≡ True)

-- The greatest and the least integer, and one beyond each.
abbrev pub ArithmeticEdges : Type 0
ArithmeticEdges =
    (checked (pos 1 +ℤ pos 2) ≡ Some (pos 3))
    × (checked (negsuc 9223372036854775806 -ℤ pos 1) ≡ Some (negsuc 9223372036854775807))
    × (checked (negsuc 9223372036854775807 -ℤ pos 1) ≡ None)
    × (checked (pos 9223372036854775807 +ℤ pos 1) ≡ None)
    × (checked (negsuc 9223372036854775807 *ℤ negsuc 0) ≡ None)

-- U+FFFF is below U+10000, though UTF-16 has it above; "b" is above "aa", though it is shorter; there is no order of
-- a null or of two kinds, and null is the same as null.
abbrev pub OrderEdges : Type 0
OrderEdges =
    (order (Text (239 ∷ 191 ∷ 191 ∷ [])) (Text (240 ∷ 144 ∷ 128 ∷ 128 ∷ [])) ≡ Some ordering.Less)
    × (order (Text (98 ∷ [])) (Text (97 ∷ 97 ∷ [])) ≡ Some ordering.Greater)
    × (order Null Null ≡ None) × (order (Int (pos 1)) (Text (49 ∷ [])) ≡ None)
    × (is_same Null Null ≡ true)

-- A text of two characters in four bytes fits VARCHAR(2) and is too long for VARCHAR(1); null fits each column.
abbrev pub LengthEdges : Type 0
LengthEdges =
    (fit_of (Text (195 ∷ 169 ∷ 195 ∷ 169 ∷ [])) (Varchar 2) ≡ Yes)
    × (fit_of (Text (195 ∷ 169 ∷ 195 ∷ 169 ∷ [])) (Varchar 1) ≡ TooLong)
    × (fit_of Null (Varchar 0) ≡ Yes) × (fit_of Null Integer ≡ Yes)
    × (fit_of (Int (pos 1)) (Varchar 9) ≡ WrongKind) × (fit_of (Text []) Integer ≡ WrongKind)
