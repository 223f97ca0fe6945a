-- The worked statements compute.
use Rattle.std.proofs.Common.{refl}
use Rattle.iv_resolution.specs.Worked.{WorkedStatements}
use Rattle.iv_resolution.specs.Scopes.{column_meant, source_named, is_source, source_columns, source_range, range_of}
use Rattle.iv_resolution.specs.NameFaults.{unknown_in_condition, unknown_in_set, unknown_in_action}
use Rattle.iv_resolution.specs.Terms.{clash, some_text, misshaped_condition, integer_of, bound_condition}
use Rattle.iv_resolution.specs.Changes.{clashes_with, value_clashes, misshaped_value, tuple_clashes, misshaped_tuple, kinds_clash, values_clash}
use Rattle.iv_resolution.specs.Changes.{columns_clash, list_clashes, misshaped_source, misshaped_assignment}
use Rattle.iv_resolution.specs.Triggers.{subject_of, trigger_names, trigger_variables, variable_named, is_allowed_item, is_allowed_action, sets_old}
use Rattle.iv_resolution.specs.Triggers.{misshaped_action}
use Rattle.iv_resolution.specs.Bound.{table_id, default_at, bound_value, target_place, bound_tuple, bound_list, bound_source, bound_columns}
use Rattle.iv_resolution.specs.Bound.{bound_assignment}
use Rattle.iv_catalogue.specs.Names.{generated_name}

pub statements : WorkedStatements
unfolding column_meant source_named is_source source_columns source_range range_of unknown_in_condition clash some_text misshaped_condition
    integer_of bound_condition clashes_with value_clashes misshaped_value tuple_clashes misshaped_tuple kinds_clash values_clash columns_clash
    list_clashes misshaped_source misshaped_assignment subject_of trigger_names trigger_variables variable_named unknown_in_set unknown_in_action
    is_allowed_item is_allowed_action sets_old misshaped_action table_id default_at bound_value target_place bound_tuple bound_list bound_source
    bound_columns bound_assignment generated_name
statements = record {
  unknown_target = refl;
  unknown_in_list = refl;
  values_see_no_range = refl;
  column_twice = refl;
  too_few_values = refl;
  integer_into_text = refl;
  one_value_each = refl;
  alias_hides_the_name = refl;
  alias_names_the_range = refl;
  names_go_outward = refl;
  qualifier_takes_the_innermost = refl;
  null_suits_a_text = refl;
  sign_gives_an_integer = refl;
  number_beyond_integers = refl;
  reference_to_nothing = refl;
  column_defined_twice = refl;
  table_in_use = refl;
  key_column_twice = refl;
  no_columns = refl;
  two_primary_keys = refl;
  default_of_another_kind = refl;
  reference_without_a_key = refl;
  reference_of_another_type = refl;
  exists_in_a_check = refl;
  text_in_a_check = refl;
  long_text = refl;
  no_text = refl;
  longest_text = refl;
  constraints_in_the_order_of_the_text = refl;
  primary_key_added_again = refl;
  constraint_in_use = refl;
  new_is_set = refl;
  set_of_nothing = refl;
  old_is_set = refl;
  insert_has_no_old_row = refl;
  transition_table_is_no_target = refl;
  transition_table_in_exists = refl;
  no_such_trigger = refl;
  constraint_named = refl;
  no_such_constraint = refl;
}
