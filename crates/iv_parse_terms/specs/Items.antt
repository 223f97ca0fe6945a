-- What comes first in a test.
use Rattle.iv_parse_terms.specs.Types.{Expression, Condition}

-- a value, or a condition that is whole
pub data Item : Type 0 where
  Value : Expression → Item
  Truth : Condition → Item
