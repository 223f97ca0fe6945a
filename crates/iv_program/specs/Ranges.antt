-- What is known of the numbers that clap's matches give.
use Rattle.std.specs.Prelude.{◌≤◌, ℕ, ⊤, List, Option, Some, None, codes}
use Rattle.std.specs.Str.Parse.{IsNumeral, digits_value, without_leading_plus}
use Rattle.clap.specs.Words.{Row, Text, one_of}
use Rattle.iv_machine.specs.Bounds.{least_depth, greatest_depth, fewest_changes_in_a_statement, most_changes_in_a_statement}

-- the text writes a number from `low` to `high`, or there is none
abbrev pub WritesWithin : ℕ → ℕ → Option Text → Type 0
WritesWithin low high None = ⊤
WritesWithin low high (Some text) =
    IsNumeral 10 (without_leading_plus text)
    × (low ≤ digits_value 10 (without_leading_plus text))
    × (digits_value 10 (without_leading_plus text) ≤ high)

-- the texts of both limits write numbers that a session may have
abbrev pub GivesLimits : List Row → Type 0
GivesLimits rows =
    WritesWithin least_depth greatest_depth (one_of (codes "depth") rows)
    × WritesWithin fewest_changes_in_a_statement most_changes_in_a_statement
    (one_of (codes "changes") rows)
