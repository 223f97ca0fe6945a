-- Names of the language.
use Rattle.std.specs.Prelude.{ℕ, Bool, false, ◌&&◌, ◌||◌, nat_le, nat_eq, List, [], ◌∷◌, length}
use Rattle.std.specs.List.{list_all}
use Rattle.iv_syntax.specs.declared.limits.TheConstants.{LONGEST_NAME}
use Rattle.iv_lex.specs.Tokens.{is_digit}

-- a letter in upper case or an underscore
abbrev pub is_upper_case : ℕ → Bool
is_upper_case b = (nat_le 65 b && nat_le b 90) || nat_eq b 95

abbrev pub is_name_byte : ℕ → Bool
is_name_byte b = is_upper_case b || is_digit b

abbrev pub starts_name : List ℕ → Bool
starts_name [] = false
starts_name (b ∷ bs) = is_upper_case b

-- folded, and no longer than the longest
abbrev pub is_name : List ℕ → Bool
is_name n = starts_name n && (list_all is_name_byte n && nat_le (length n) LONGEST_NAME)
