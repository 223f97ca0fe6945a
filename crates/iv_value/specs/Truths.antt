-- This file defines the truth tables of the three-valued logic (ISO/IEC 9075-2:1999, "boolean value expression").
use Rattle.std.specs.Prelude.{Bool, true, false}
use Rattle.iv_value.specs.declared.value.Truth.{Truth}
use Rattle.iv_value.specs.declared.value.Truth.TheVariants.{False, Unknown, True}

-- NOT changes false and true for each other; unknown stays unknown.
abbrev pub truth_not : Truth → Truth
truth_not False = True
truth_not Unknown = Unknown
truth_not True = False

-- AND is the least, in the order false, unknown, true.
abbrev pub truth_and : Truth → Truth → Truth
truth_and False b = False
truth_and Unknown False = False
truth_and Unknown _ = Unknown
truth_and True b = b

-- OR is the greatest, in the same order.
abbrev pub truth_or : Truth → Truth → Truth
truth_or True b = True
truth_or Unknown True = True
truth_or Unknown _ = Unknown
truth_or False b = b

-- The truth of what is decided.
abbrev pub truth_of : Bool → Truth
truth_of true = True
truth_of false = False

-- Whether a truth is true.
abbrev pub is_true : Truth → Bool
is_true True = true
is_true _ = false

-- Whether a truth is false.
abbrev pub is_false : Truth → Bool
is_false False = true
is_false _ = false
