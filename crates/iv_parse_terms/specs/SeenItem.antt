-- What the results of the code for conditions are among the definitions.
use Rattle.std.specs.Prelude.{Option, option_map}
use Rattle.iv_parse_terms.specs.Types.{RangeName, Condition}
use Rattle.iv_parse_terms.specs.Items.{Item, Value, Truth}
use Rattle.iv_parse_terms.specs.declared.condition_part.ConditionPart.{ConditionPart}
use Rattle.iv_parse_terms.specs.declared.item.Item.TheVariants as code
use Rattle.iv_parse_terms.specs.declared.item.Item.{Item as ItemPart}

abbrev pub condition_in : ConditionPart → Condition
condition_in p = p.tree

abbrev pub item_in : ItemPart → Item
item_in (code.Value p) = Value p.tree
item_in (code.Truth p) = Truth p.tree

abbrev pub from_in : RangeName × Option ConditionPart → RangeName × Option Condition
from_in p = (p.0, option_map condition_in p.1)
