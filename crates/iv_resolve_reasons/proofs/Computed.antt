-- The worked statements compute.
use Rattle.std.proofs.Common.{refl}
use Rattle.iv_resolution.specs.Scopes.{column_meant, source_named, source_columns, range_of}
use Rattle.iv_resolution.specs.Terms.{clash}
use Rattle.iv_resolution.specs.Changes.{clashes_with, kinds_clash}
use Rattle.iv_resolution.specs.Triggers.{subject_of, trigger_names, trigger_variables, variable_named}
use Rattle.iv_resolve_reasons.specs.Shapes.{operand_told, shape_in_comparison, shape_in_condition, shape_of_expression, shape_of_value, shape_of_values, shape_of_tuple, shape_of_column, shape_of_columns, shape_of_expressions}
use Rattle.iv_resolve_reasons.specs.Shapes.{shape_of_list, shape_of_source, shape_in_assignment, shape_in_set, shape_in_action}
use Rattle.iv_resolve_reasons.specs.SchemaFaults.{types_told, fault_of_types, fault_of_pairs, fault_of_foreign_key, fault_of_constraint, primary_keys, fault_of_item, fault_of_action, fault_of_set}
use Rattle.iv_resolve_reasons.specs.WorkedShapes.{WorkedShapes}
use Rattle.iv_resolve_reasons.specs.WorkedRules.{WorkedRules}
use Rattle.iv_resolve_reasons.specs.WorkedLimits.{WorkedLimits}

pub shapes : WorkedShapes
unfolding column_meant source_named source_columns range_of clash clashes_with kinds_clash subject_of trigger_names trigger_variables
    operand_told shape_in_comparison shape_in_condition shape_of_expression shape_of_value shape_of_values shape_of_tuple shape_of_column shape_of_columns shape_of_expressions
    shape_of_list shape_of_source shape_in_assignment shape_in_set shape_in_action
shapes = record {
  suits = refl;
  too_few = refl;
  third_tuple = refl;
  integer_into_text = refl;
  text_into_listed = refl;
  operand_before_the_next_value = refl;
  count_before_values = refl;
  query_too_narrow = refl;
  star_too_wide = refl;
  star_of_another_kind = refl;
  query_of_another_kind = refl;
  second_assignment = refl;
  second_comparison = refl;
  first_operand = refl;
  comparison_before_operand = refl;
  set_of_another_kind = refl;
  row_variable_of_another_kind = refl;
  text_in_a_check = refl;
  text_in_an_added_check = refl;
}

pub rules : WorkedRules
unfolding subject_of trigger_variables variable_named types_told fault_of_types fault_of_pairs fault_of_foreign_key fault_of_constraint primary_keys fault_of_item
    fault_of_action fault_of_set
rules = record {
  no_rule = refl;
  no_columns = refl;
  second_default = refl;
  second_of_three = refl;
  never_and_deferred = refl;
  exists_in_a_check = refl;
  table_without_primary_key = refl;
  own_key_is_deferrable = refl;
  two_columns_to_one = refl;
  length_differs = refl;
  no_key = refl;
  primary_key_added_again = refl;
  table_named_twice = refl;
  insert_has_no_old_row = refl;
  row_of_a_statement = refl;
  transition_table_before = refl;
  delete_before = refl;
  set_in_an_after_trigger = refl;
  set_of_a_statement = refl;
  old_is_set = refl;
}

pub limits : WorkedLimits
limits = record {
  within = refl;
  table_65 = refl;
  columns_34 = refl;
  constraints_65 = refl;
  no_character = refl;
  character_4097 = refl;
  key_of_9_columns = refl;
  added_key_of_9_columns = refl;
  statements_33 = refl;
  trigger_ever = refl;
  lower_case = refl;
}
