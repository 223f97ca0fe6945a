-- The literals of values, as they are written.
use Rattle.std.specs.Prelude.{ℕ, suc, ◌<◌, ◌^◌, List, [], ◌∷◌, ◌++◌, pos, negsuc, nat_lt, nat_eq, if◌then◌else◌, codes, flat_map, decimal}
use Rattle.iv_value.specs.declared.value.Value.{Value}
use Rattle.iv_value.specs.declared.value.Value.TheVariants as value
use Rattle.iv_syntax.specs.declared.limits.TheConstants.{GREATEST_INTEGER}

-- two quotes for each one; every other character as it is
abbrev pub quote_doubled : ℕ → List ℕ
quote_doubled b = if nat_eq b 39 then 39 ∷ 39 ∷ [] else b ∷ []

-- NULL; decimal digits; a minus sign and decimal digits in parentheses; an expression for the least integer; or a text between single
-- quotes
abbrev pub literal_text : Value → List ℕ
literal_text value.Null = codes "NULL"
literal_text (value.Int (pos n)) = decimal n
literal_text (value.Int (negsuc n)) =
    if nat_lt n GREATEST_INTEGER then 40 ∷ 32 ∷ 45 ∷ (decimal (suc n) ++ 32 ∷ 41 ∷ []) else codes "( - 9223372036854775807 - 1 )"
literal_text (value.Text t) = 39 ∷ (flat_map quote_doubled t ++ 39 ∷ [])

-- an integer has 64 bits
abbrev pub IsSmall : Value → Type 0
IsSmall (value.Int (pos n)) = n < 2 ^ 63
IsSmall (value.Int (negsuc n)) = n < 2 ^ 63
IsSmall _ = Unit {0}
