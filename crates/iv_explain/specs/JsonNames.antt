-- What is told in JSON of a name that a refusal is about.
use Rattle.std.specs.Prelude.{ℕ, List, [], ◌++◌, codes, decimal, Option, Some, None}
use Rattle.std.specs.List.{flat_map}
use Rattle.iv_catalogue.specs.Names.{generated_name}
use Rattle.iv_text.specs.Json.{escaped, json_text, key, member}
use Rattle.iv_resolution.specs.Items.{Item, table_item, column_item, variable_item, trigger_item, constraint_item, generated_item, transition_item, Fault, unknown_fault, in_use_fault, twice_fault}

-- what is named, and its name
abbrev pub named_members : List ℕ → List ℕ → List ℕ
named_members what name = member (codes "item") ++ (json_text what ++ (member (codes "name") ++ json_text name))

-- the range or row variable before a column that is written with one
abbrev pub range_member : Option (List ℕ) → List ℕ
range_member (Some range) = member (codes "range") ++ json_text range
range_member None = []

-- the name that is generated for a constraint of a table, in its quotes, part by part
abbrev pub generated_parts : List ℕ → ℕ → List ℕ
generated_parts table place =
    codes "\"" ++ (flat_map escaped table ++ (flat_map escaped (codes "_C") ++ (flat_map escaped (decimal place) ++ codes "\"")))

abbrev pub item_members : Item → List ℕ
item_members (table_item name) = named_members (codes "table") name
item_members (column_item range name) = named_members (codes "column") name ++ range_member range
item_members (variable_item name) = named_members (codes "row_variable") name
item_members (trigger_item name) = named_members (codes "trigger") name
item_members (constraint_item name) = named_members (codes "constraint") name
item_members (generated_item table place) = named_members (codes "constraint") (generated_name table place)
item_members (transition_item name) = named_members (codes "referencing_name") name

-- the front of the object that tells what is wrong with a name
abbrev pub fault_key : List ℕ → List ℕ
fault_key fault = codes "{" ++ (key (codes "fault") ++ json_text fault)

abbrev pub json_fault : Fault → List ℕ
json_fault (unknown_fault i) = fault_key (codes "unknown") ++ (item_members i ++ codes "}")
json_fault (in_use_fault i) = fault_key (codes "in_use") ++ (item_members i ++ codes "}")
json_fault (twice_fault i) = fault_key (codes "twice") ++ (item_members i ++ codes "}")
