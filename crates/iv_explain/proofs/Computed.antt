-- The worked texts compute.
use Rattle.std.proofs.Common.{refl}
use Rattle.std.specs.Fmt.{digits}
use Rattle.iv_catalogue.specs.Names.{generated_name}
use Rattle.iv_text.specs.Json.{json_text, member}
use Rattle.iv_resolution.specs.Scopes.{column_meant, is_source, source_named, source_columns, range_of}
use Rattle.iv_resolution.specs.Terms.{clash}
use Rattle.iv_resolution.specs.Changes.{clashes_with, kinds_clash}
use Rattle.iv_resolution.specs.Triggers.{subject_of, trigger_names, trigger_variables, variable_named}
use Rattle.iv_resolve_reasons.specs.Shapes.{operand_told, shape_in_comparison, shape_in_condition, shape_of_expression, shape_of_value, shape_of_values, shape_of_tuple, shape_of_column, shape_of_columns, shape_of_expressions}
use Rattle.iv_resolve_reasons.specs.Shapes.{shape_of_list, shape_of_source, shape_in_assignment, shape_in_set, shape_in_action}
use Rattle.iv_resolve_reasons.specs.SchemaFaults.{types_told, fault_of_types, fault_of_pairs, fault_of_foreign_key, fault_of_constraint, primary_keys, fault_of_item, fault_of_action, fault_of_set}
use Rattle.iv_explain.specs.WorkedReasons.{WorkedCauses, WorkedLimits, WorkedRules, WorkedShapes}

pub shapes : WorkedShapes
unfolding digits generated_name
shapes = record {
  too_few_values = refl;
  one_value = refl;
  query_too_wide = refl;
  text_for_an_integer = refl;
  integer_for_a_text = refl;
  columns_of_a_star = refl;
  set_of_a_text = refl;
  comparison = refl;
  operand = refl;
  signs_and_parentheses = refl;
  quote_in_a_text = refl;
}

pub rules : WorkedRules
unfolding digits generated_name
rules = record {
  no_column = refl;
  default_too_long = refl;
  negative_default = refl;
  second_key = refl;
  never_and_deferred = refl;
  exists = refl;
  two_columns_to_one = refl;
  length_differs = refl;
  no_key = refl;
  no_primary = refl;
  deferrable = refl;
  named_twice = refl;
  no_old_rows = refl;
  row_of_all = refl;
  table_too_early = refl;
  change_too_early = refl;
  set_too_late = refl;
  set_of_all = refl;
  set_of_the_old_row = refl;
}

pub limits : WorkedLimits
unfolding digits generated_name
limits = record {
  table_65 = refl;
  columns_34 = refl;
  constraints_65 = refl;
  key_of_9 = refl;
  no_character = refl;
  character_4097 = refl;
  trigger_257 = refl;
  trigger_ever = refl;
  statements_33 = refl;
  unwritable = refl;
}

pub causes : WorkedCauses
unfolding digits generated_name json_text member column_meant source_named source_columns range_of clash clashes_with kinds_clash subject_of trigger_names trigger_variables
    operand_told shape_in_comparison shape_in_condition shape_of_expression shape_of_value shape_of_values shape_of_tuple shape_of_column shape_of_columns shape_of_expressions
    shape_of_list shape_of_source shape_in_assignment shape_in_set shape_in_action
    types_told fault_of_types fault_of_pairs fault_of_foreign_key fault_of_constraint primary_keys fault_of_item fault_of_action fault_of_set variable_named is_source
causes = record {
  unknown = refl;
  duplicate = refl;
  schema_fault = refl;
  wrong_shape = refl;
  limit = refl;
  no_savepoint = refl;
  not_deferrable = refl;
  no_more = refl;
  json = refl;
}
