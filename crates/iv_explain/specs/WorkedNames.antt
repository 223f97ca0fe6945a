-- Worked texts of names at fault, written by hand.
use Rattle.std.specs.Prelude.{◌≡◌, codes, Some, None}
use Rattle.iv_resolution.specs.Items.{table_item, column_item, variable_item, trigger_item, constraint_item, generated_item, transition_item, unknown_fault, in_use_fault, twice_fault}
use Rattle.iv_explain.specs.Names.{fault_text}

pub record WorkedNames : Type 0 where
  pub no_table : fault_text (unknown_fault (table_item (codes "T"))) ≡ codes "table T isn't there"
  pub no_column : fault_text (unknown_fault (column_item None (codes "A"))) ≡ codes "column A isn't there"
  pub no_column_of_a_range : fault_text (unknown_fault (column_item (Some (codes "X")) (codes "A"))) ≡ codes "column X.A isn't there"
  pub no_row_variable : fault_text (unknown_fault (variable_item (codes "N"))) ≡ codes "row variable N isn't there"
  pub trigger_in_use : fault_text (in_use_fault (trigger_item (codes "R"))) ≡ codes "trigger R is there already"
  pub constraint_twice : fault_text (twice_fault (constraint_item (codes "C"))) ≡ codes "constraint C comes twice"
  pub made_name_in_use : fault_text (in_use_fault (generated_item (codes "T") 12)) ≡ codes "constraint T_C12 is there already"
  pub item_of_referencing : fault_text (twice_fault (transition_item (codes "N"))) ≡ codes "REFERENCING name N comes twice"
