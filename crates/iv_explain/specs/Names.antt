-- What is told of a name that a refusal is about.
use Rattle.std.specs.Prelude.{ℕ, List, ◌++◌, codes, Option, Some, None}
use Rattle.iv_catalogue.specs.Names.{generated_name}
use Rattle.iv_resolution.specs.Items.{Item, table_item, column_item, variable_item, trigger_item, constraint_item, generated_item, transition_item, Fault, unknown_fault, in_use_fault, twice_fault}

-- a column, with the range or row variable before it where it is written with one
abbrev pub column_text : Option (List ℕ) → List ℕ → List ℕ
column_text None name = codes "column " ++ name
column_text (Some range) name = codes "column " ++ (range ++ (codes "." ++ name))

abbrev pub item_text : Item → List ℕ
item_text (table_item name) = codes "table " ++ name
item_text (column_item range name) = column_text range name
item_text (variable_item name) = codes "row variable " ++ name
item_text (trigger_item name) = codes "trigger " ++ name
item_text (constraint_item name) = codes "constraint " ++ name
item_text (generated_item table place) = codes "constraint " ++ generated_name table place
item_text (transition_item name) = codes "REFERENCING name " ++ name

abbrev pub fault_text : Fault → List ℕ
fault_text (unknown_fault i) = item_text i ++ codes " isn't there"
fault_text (in_use_fault i) = item_text i ++ codes " is there already"
fault_text (twice_fault i) = item_text i ++ codes " comes twice"
