-- The worked statements compute.
use Rattle.std.proofs.Common.{refl}
use Rattle.std.specs.Fmt.{digits}
use Rattle.iv_value.proofs.OnLiterals.{values_on_literals}
use Rattle.iv_worked.specs.WorkedUnknown.{WorkedUnknown}
use Rattle.iv_worked.specs.WorkedDuplicates.{WorkedDuplicates}
use Rattle.iv_worked.specs.WorkedSchemaFaults.{WorkedSchemaFaults}
use Rattle.iv_worked.specs.WorkedShapes.{WorkedShapes}
use Rattle.iv_worked.specs.WorkedLanguageLimits.{WorkedLanguageLimits}
use Rattle.iv_worked.specs.WorkedOrder.{WorkedOrder}
use Rattle.iv_worked.specs.WorkedUpdateOf.{WorkedUpdateOf}
use Rattle.iv_worked.specs.WorkedNullWords.{WorkedNullWords}
use Rattle.iv_worked.specs.WorkedNames.{WorkedNames}
use Rattle.iv_worked.specs.WorkedMeanings.{WorkedMeanings}
use Rattle.iv_resolution.specs.Scopes.{column_meant, source_named, is_source, source_columns, source_range, range_of}
use Rattle.iv_resolution.specs.NameFaults.{unknown_in_condition, unknown_in_set, unknown_in_action}
use Rattle.iv_resolution.specs.Terms.{clash, some_text, misshaped_condition, integer_of, bound_condition}
use Rattle.iv_resolution.specs.Changes.{clashes_with, value_clashes, misshaped_value, tuple_clashes, misshaped_tuple, kinds_clash, values_clash}
use Rattle.iv_resolution.specs.Changes.{columns_clash, list_clashes, misshaped_source, misshaped_assignment}
use Rattle.iv_resolution.specs.Triggers.{subject_of, trigger_names, trigger_variables, variable_named, is_allowed_item, is_allowed_action, sets_old}
use Rattle.iv_resolution.specs.Triggers.{misshaped_action}
use Rattle.iv_resolution.specs.Bound.{table_id, default_at, bound_value, target_place, bound_tuple, bound_list, bound_source, bound_columns}
use Rattle.iv_resolution.specs.Bound.{bound_assignment}
use Rattle.iv_catalogue.specs.Names.{generated_name}

pub unknown : WorkedUnknown
unfolding column_meant source_named is_source source_columns source_range range_of unknown_in_condition clash some_text misshaped_condition
    integer_of bound_condition clashes_with value_clashes misshaped_value tuple_clashes misshaped_tuple kinds_clash values_clash columns_clash
    list_clashes misshaped_source misshaped_assignment subject_of trigger_names trigger_variables variable_named unknown_in_set unknown_in_action
    is_allowed_item is_allowed_action sets_old misshaped_action table_id default_at bound_value target_place bound_tuple bound_list bound_source
    bound_columns bound_assignment generated_name digits
unknown = record {
  unique_of_nothing = refl;
  unique_of_a_column = refl;
  primary_key_of_nothing = refl;
  primary_key_of_columns = refl;
  check_of_nothing = refl;
  check_of_a_column = refl;
  check_of_a_later_column = refl;
  check_of_another_table = refl;
  check_of_its_table = refl;
  check_over_nothing = refl;
  check_over_a_table = refl;
  check_over_no_column = refl;
  foreign_key_of_nothing = refl;
  foreign_key_of_a_column = refl;
  reference_to_no_column = refl;
  reference_to_a_column = refl;
  reference_to_no_table = refl;
  reference_to_its_table = refl;
  reference_to_no_column_of_its_own = refl;
  reference_to_a_column_of_its_own = refl;
  alteration_of_nothing = refl;
  alteration_of_a_table = refl;
  added_unique_of_nothing = refl;
  added_primary_key_of_nothing = refl;
  added_primary_key = refl;
  added_check_of_nothing = refl;
  added_check = refl;
  added_check_of_another_table = refl;
  added_check_of_its_table = refl;
  added_check_over_nothing = refl;
  added_foreign_key_of_nothing = refl;
  added_foreign_key = refl;
  added_reference_to_nothing = refl;
  added_reference_to_no_column = refl;
  added_reference_to_a_column = refl;
  added_reference_to_its_table = refl;
  trigger_on_nothing = refl;
  trigger_on_a_table = refl;
  when_of_no_column = refl;
  when_of_a_column = refl;
  when_of_no_variable = refl;
  when_without_a_variable = refl;
  when_over_nothing = refl;
  when_over_a_table = refl;
  when_over_a_transition_table = refl;
  when_over_no_column_of_it = refl;
  transition_table_hides_a_table = refl;
  transition_table_called_as_a_table = refl;
  triggered_insert_into_nothing = refl;
  triggered_insert = refl;
  triggered_insert_of_no_column = refl;
  triggered_values_see_row_variables = refl;
  triggered_values_see_no_range = refl;
  triggered_insert_into_a_transition_table = refl;
  triggered_insert_from_a_transition_table = refl;
  triggered_insert_from_no_column_of_it = refl;
  triggered_update_of_nothing = refl;
  triggered_update = refl;
  triggered_update_of_no_column = refl;
  triggered_update_by_nothing = refl;
  triggered_update_where_nothing = refl;
  triggered_update_of_a_transition_table = refl;
  triggered_delete_from_nothing = refl;
  triggered_delete = refl;
  triggered_delete_where_nothing = refl;
  range_hides_a_row_variable = refl;
  range_called_as_a_row_variable = refl;
  changed_table_called_as_a_transition_table = refl;
  transition_table_inside_such_a_change = refl;
  set_of_no_column = refl;
  set_by_a_row_variable = refl;
  set_without_a_variable = refl;
  set_by_nothing = refl;
  set_of_the_table = refl;
  set_of_a_transition_table = refl;
  second_of_a_body = refl;
  trigger_dropped = refl;
  defaults_into_nothing = refl;
  defaults_into_a_table = refl;
  listed_column = refl;
  second_tuple_of_nothing = refl;
  two_tuples = refl;
  insert_from_nothing = refl;
  insert_from_a_table = refl;
  insert_of_no_column = refl;
  insert_of_a_column = refl;
  insert_where_nothing = refl;
  insert_where_a_column = refl;
  source_sees_no_target = refl;
  update_of_nothing = refl;
  update_of_a_table = refl;
  update_of_no_column = refl;
  second_update_of_no_column = refl;
  update_by_nothing = refl;
  update_by_a_column = refl;
  update_by_another_table = refl;
  update_to_the_default = refl;
  update_of_no_column_to_the_default = refl;
  update_where_nothing = refl;
  update_where_a_column = refl;
  delete_from_nothing = refl;
  delete_from_a_table = refl;
  compared_on_the_left = refl;
  compared_on_the_right = refl;
  compared_columns = refl;
  nothing_is_null = refl;
  column_is_null = refl;
  nothing_is_not_null = refl;
  column_is_not_null = refl;
  exists_over_nothing = refl;
  exists_over_a_table = refl;
  exists_over_nothing_where = refl;
  exists_where_nothing = refl;
  exists_where_both_ranges = refl;
  alias_hides_in_exists = refl;
  alias_in_exists = refl;
  range_ends_with_its_exists = refl;
  enclosed_nothing = refl;
  enclosed_column = refl;
  negated_nothing = refl;
  negated_column = refl;
  nothing_and_a_column = refl;
  column_and_nothing = refl;
  column_and_a_column = refl;
  nothing_or_a_column = refl;
  column_or_nothing = refl;
  column_or_a_column = refl;
  count_of_nothing = refl;
  count_of_a_table = refl;
  count_where_nothing = refl;
  count_where_a_column = refl;
  select_from_nothing = refl;
  select_from_a_table = refl;
  select_where_nothing = refl;
  select_where_a_column = refl;
  select_of_nothing = refl;
  select_of_columns = refl;
  select_of_another_table = refl;
  group_of_nothing = refl;
  group_of_a_column = refl;
  sign_of_nothing = refl;
  sign_of_a_column = refl;
  product_with_nothing_on_the_left = refl;
  product_with_nothing_on_the_right = refl;
  product_of_columns = refl;
  sum_with_nothing_on_the_left = refl;
  difference_with_nothing_on_the_right = refl;
  sum_of_columns = refl;
  all_constraints = refl;
  second_constraint_of_nothing = refl;
  two_constraints = refl;
  table_is_no_constraint = refl;
  start = refl;
  commit = refl;
  rollback = refl;
  savepoint = refl;
  release = refl;
  rollback_to = refl;
}

pub duplicates : WorkedDuplicates
unfolding column_meant source_named is_source source_columns source_range range_of unknown_in_condition clash some_text misshaped_condition
    integer_of bound_condition clashes_with value_clashes misshaped_value tuple_clashes misshaped_tuple kinds_clash values_clash columns_clash
    list_clashes misshaped_source misshaped_assignment subject_of trigger_names trigger_variables variable_named unknown_in_set unknown_in_action
    is_allowed_item is_allowed_action sets_old misshaped_action table_id default_at bound_value target_place bound_tuple bound_list bound_source
    bound_columns bound_assignment generated_name digits
duplicates = record {
  table_not_in_use = refl;
  table_called_as_a_trigger = refl;
  table_called_as_a_constraint = refl;
  two_columns = refl;
  last_column_again = refl;
  given_name_in_use = refl;
  given_name_not_in_use = refl;
  constraint_called_as_a_table = refl;
  generated_name_in_use = refl;
  generated_name_at_the_next_place = refl;
  one_name_given_twice = refl;
  two_names_given = refl;
  given_name_is_generated_later = refl;
  given_name_is_of_its_own_place = refl;
  given_name_was_generated = refl;
  unique_of_two_columns = refl;
  column_in_two_keys = refl;
  primary_key_column_twice = refl;
  primary_key_of_two_columns = refl;
  referencing_column_twice = refl;
  referencing_columns = refl;
  referenced_column_twice = refl;
  referenced_columns = refl;
  added_name_not_in_use = refl;
  added_name_is_generated_in_use = refl;
  added_name_is_given_instead = refl;
  added_name_is_generated_for_its_place = refl;
  added_unique_column_twice = refl;
  added_unique_of_two_columns = refl;
  added_primary_key_column_twice = refl;
  added_primary_key_of_two_columns = refl;
  added_referencing_column_twice = refl;
  added_referencing_columns = refl;
  added_referenced_column_twice = refl;
  added_referenced_columns = refl;
  trigger_in_use = refl;
  trigger_not_in_use = refl;
  trigger_called_as_a_table = refl;
  one_name_for_both_rows = refl;
  two_names_for_both_rows = refl;
  one_name_for_row_and_table = refl;
  two_names_for_row_and_table = refl;
  triggered_insert_of_a_column_twice = refl;
  triggered_insert_of_two_columns = refl;
  triggered_update_of_a_column_twice = refl;
  triggered_update_of_two_columns = refl;
  two_sets_of_one_column = refl;
  insert_of_two_columns = refl;
  insert_from_a_query_of_a_column_twice = refl;
  insert_from_a_query_of_two_columns = refl;
  update_of_a_column_twice = refl;
  update_of_two_columns = refl;
  selected_column_twice = refl;
  constraint_set_twice = refl;
}

pub faults : WorkedSchemaFaults
unfolding column_meant source_named is_source source_columns source_range range_of unknown_in_condition clash some_text misshaped_condition
    integer_of bound_condition clashes_with value_clashes misshaped_value tuple_clashes misshaped_tuple kinds_clash values_clash columns_clash
    list_clashes misshaped_source misshaped_assignment subject_of trigger_names trigger_variables variable_named unknown_in_set unknown_in_action
    is_allowed_item is_allowed_action sets_old misshaped_action table_id default_at bound_value target_place bound_tuple bound_list bound_source
    bound_columns bound_assignment generated_name digits values_on_literals
faults = record {
  one_column = refl;
  number_for_a_text = refl;
  number_for_a_number = refl;
  negative_number = refl;
  null_for_a_number = refl;
  null_for_a_text = refl;
  text_too_long = refl;
  text_that_fits = refl;
  text_of_two_long_characters = refl;
  text_for_a_second_column = refl;
  primary_key_and_unique = refl;
  primary_key_of_column_and_table = refl;
  not_deferrable_and_deferred = refl;
  deferred_and_not_deferrable = refl;
  not_deferrable_and_immediate = refl;
  not_deferrable = refl;
  deferrable_and_deferred = refl;
  deferred = refl;
  exists_where_in_a_check = refl;
  enclosed_exists_in_a_check = refl;
  negated_exists_in_a_check = refl;
  exists_in_a_check_before_and = refl;
  exists_in_a_check_after_and = refl;
  exists_in_a_check_before_or = refl;
  exists_in_a_check_after_or = refl;
  no_exists_in_a_check = refl;
  fewer_referenced_columns = refl;
  more_referenced_columns = refl;
  as_many_referenced_columns = refl;
  columns_in_another_order = refl;
  columns_crossed = refl;
  text_for_an_integer_key = refl;
  integer_for_an_integer_key = refl;
  integer_for_a_text_key = refl;
  longer_text_for_a_text_key = refl;
  columns_without_a_key = refl;
  column_of_a_wider_key = refl;
  columns_of_two_keys = refl;
  column_of_a_unique_key = refl;
  column_of_a_deferrable_key = refl;
  column_of_two_keys_of_which_one_is_deferrable = refl;
  own_columns_without_a_key = refl;
  own_columns_of_a_key = refl;
  own_columns_of_a_deferrable_key = refl;
  primary_key_is_deferrable = refl;
  primary_key_is_not_deferrable = refl;
  primary_key_has_more_columns = refl;
  primary_key_has_fewer_columns = refl;
  primary_key_has_as_many_columns = refl;
  primary_key_has_other_types = refl;
  no_primary_key_of_its_own = refl;
  primary_key_of_its_own = refl;
  deferrable_primary_key_of_its_own = refl;
  deferred_primary_key_of_its_own = refl;
  immediate_primary_key_of_its_own = refl;
  first_primary_key_added = refl;
  unique_added_beside_the_primary_key = refl;
  added_as_not_deferrable_and_deferred = refl;
  added_as_deferrable_and_deferred = refl;
  added_check_with_exists = refl;
  added_check_without_exists = refl;
  added_reference_without_a_primary_key = refl;
  added_reference_to_a_primary_key = refl;
  added_reference_of_another_type = refl;
  added_reference_of_fewer_columns = refl;
  added_reference_of_as_many_columns = refl;
  added_reference_to_columns_without_a_key = refl;
  added_reference_to_a_unique_key = refl;
  added_reference_to_a_deferrable_key = refl;
  added_reference_to_a_deferrable_primary_key = refl;
  added_reference_to_one_of_two_keys = refl;
  old_row_twice = refl;
  new_row_twice = refl;
  old_table_twice = refl;
  new_table_twice = refl;
  each_item_once = refl;
  insert_has_no_old_rows = refl;
  insert_has_new_rows = refl;
  insert_has_a_new_row = refl;
  delete_has_no_new_row = refl;
  delete_has_no_new_rows = refl;
  delete_has_an_old_row = refl;
  delete_has_old_rows = refl;
  row_of_a_statement = refl;
  row_without_for_each = refl;
  rows_of_each_row = refl;
  rows_before = refl;
  row_before = refl;
  row_that_is_not_there_has_its_columns = refl;
  insert_before = refl;
  insert_after = refl;
  update_before = refl;
  update_after = refl;
  delete_before = refl;
  delete_after = refl;
  signal_before = refl;
  set_after = refl;
  set_before = refl;
  set_for_each_statement = refl;
  second_action_before = refl;
  second_action_after = refl;
  set_of_the_old_row = refl;
  set_by_the_old_row = refl;
}

pub shapes : WorkedShapes
unfolding column_meant source_named is_source source_columns source_range range_of unknown_in_condition clash some_text misshaped_condition
    integer_of bound_condition clashes_with value_clashes misshaped_value tuple_clashes misshaped_tuple kinds_clash values_clash columns_clash
    list_clashes misshaped_source misshaped_assignment subject_of trigger_names trigger_variables variable_named unknown_in_set unknown_in_action
    is_allowed_item is_allowed_action sets_old misshaped_action table_id default_at bound_value target_place bound_tuple bound_list bound_source
    bound_columns bound_assignment generated_name digits
shapes = record {
  text_compared_in_a_check = refl;
  integer_compared_in_a_check = refl;
  sum_of_a_text_in_a_check = refl;
  text_in_an_added_check = refl;
  text_in_an_added_check_of_texts = refl;
  sign_of_a_text_in_an_added_check = refl;
  too_many_values = refl;
  as_many_values = refl;
  more_values_than_listed = refl;
  fewer_values_than_listed = refl;
  second_tuple_of_two = refl;
  text_into_an_integer = refl;
  integer_into_a_text = refl;
  nulls_into_each = refl;
  defaults_into_each = refl;
  too_many_defaults = refl;
  sign_of_null_into_a_text = refl;
  sign_of_null_into_an_integer = refl;
  enclosed_null_into_a_text = refl;
  enclosed_text_into_an_integer = refl;
  sum_of_nulls_into_a_text = refl;
  product_of_nulls_into_a_text = refl;
  sum_with_a_text = refl;
  sum_with_null = refl;
  values_in_the_order_of_the_columns = refl;
  values_in_the_order_of_the_list = refl;
  one_column_into_two = refl;
  two_columns_into_two = refl;
  one_column_into_a_list_of_one = refl;
  integer_column_into_a_text = refl;
  text_column_into_an_integer = refl;
  integer_columns_into_integers = refl;
  columns_into_a_list_in_another_order = refl;
  one_value_into_two_columns = refl;
  two_values_into_two_columns = refl;
  selected_values_crossed = refl;
  selected_null = refl;
  selected_sign_of_a_text = refl;
  selected_sign_of_an_integer = refl;
  selected_where_a_text_is_an_integer = refl;
  selected_where_a_text_is_a_text = refl;
  integer_set_to_a_text = refl;
  text_set_to_an_integer = refl;
  text_set_to_a_text = refl;
  text_set_to_null = refl;
  text_set_to_its_default = refl;
  integer_set_to_a_text_column = refl;
  text_set_to_an_integer_column = refl;
  text_set_to_a_text_column = refl;
  text_set_to_a_sign_of_null = refl;
  integer_set_to_a_sum_of_a_text = refl;
  integer_set_to_a_sum = refl;
  second_of_two_assignments = refl;
  updated_where_a_text_is_an_integer = refl;
  updated_where_a_text_is_a_text = refl;
  integer_less_than_a_text = refl;
  integer_less_than_an_integer = refl;
  text_less_than_an_integer = refl;
  text_less_than_a_text = refl;
  number_is_a_text = refl;
  null_is_null = refl;
  text_is_a_sum_of_nulls = refl;
  text_is_an_enclosed_null = refl;
  sum_of_a_text_on_the_right = refl;
  sum_of_a_text_is_null = refl;
  sum_of_an_integer_is_null = refl;
  sum_of_a_text_is_not_null = refl;
  sum_of_an_integer_is_not_null = refl;
  exists_where_an_integer_is_a_text = refl;
  exists_where_an_integer_is_an_integer = refl;
  enclosed_clash = refl;
  negated_clash = refl;
  clash_before_and = refl;
  clash_after_and = refl;
  clash_before_or = refl;
  clash_after_or = refl;
  no_clash = refl;
  sign_of_a_text = refl;
  sign_of_an_integer = refl;
  sign_of_an_enclosed_text = refl;
  enclosed_sign_of_a_text = refl;
  enclosed_text = refl;
  sign_of_an_enclosed_sign_of_a_text = refl;
  product_with_a_text_on_the_left = refl;
  product_with_a_text_on_the_right = refl;
  product_of_integers = refl;
  product_with_a_sign_of_a_text_on_the_left = refl;
  product_with_a_sign_of_a_text_on_the_right = refl;
  sum_with_a_text_on_the_left = refl;
  difference_with_a_text_on_the_right = refl;
  sum_of_integers = refl;
  sum_with_a_sign_of_a_text_on_the_left = refl;
  sum_with_a_sign_of_a_text_on_the_right = refl;
  second_of_the_list = refl;
  selected_integer_and_text = refl;
  rows_where_a_text_is_an_integer = refl;
  rows_where_a_text_is_a_text = refl;
  count_where_a_text_is_an_integer = refl;
  count_where_a_text_is_a_text = refl;
  when_an_integer_is_a_text = refl;
  when_a_text_is_a_text = refl;
  triggered_insert_of_a_text = refl;
  triggered_insert_of_an_integer = refl;
  triggered_insert_of_too_many = refl;
  transition_table_of_two_columns_into_one = refl;
  transition_table_of_two_columns_into_two = refl;
  triggered_update_to_a_text = refl;
  triggered_update_to_an_integer = refl;
  triggered_delete_where_an_integer_is_a_text = refl;
  triggered_delete_where_an_integer_is_an_integer = refl;
  new_integer_set_to_a_text = refl;
  new_text_set_to_an_integer = refl;
  new_text_set_to_a_text = refl;
  new_text_set_to_null = refl;
  new_integer_set_to_a_sign_of_a_text = refl;
  second_of_a_body = refl;
}

pub limits : WorkedLanguageLimits
unfolding column_meant source_named is_source source_columns source_range range_of unknown_in_condition clash some_text misshaped_condition
    integer_of bound_condition clashes_with value_clashes misshaped_value tuple_clashes misshaped_tuple kinds_clash values_clash columns_clash
    list_clashes misshaped_source misshaped_assignment subject_of trigger_names trigger_variables variable_named unknown_in_set unknown_in_action
    is_allowed_item is_allowed_action sets_old misshaped_action table_id default_at bound_value target_place bound_tuple bound_list bound_source
    bound_columns bound_assignment generated_name digits
limits = record {
  table_65 = refl;
  table_64 = refl;
  columns_33 = refl;
  columns_32 = refl;
  constraints_65 = refl;
  constraints_64 = refl;
  text_of_one_character = refl;
  unique_of_9_columns = refl;
  unique_of_8_columns = refl;
  primary_key_of_9_columns = refl;
  primary_key_of_8_columns = refl;
  added_constraint_65 = refl;
  added_constraint_64 = refl;
  added_constraint_of_another_table = refl;
  added_unique_of_9_columns = refl;
  added_unique_of_8_columns = refl;
  added_primary_key_of_9_columns = refl;
  added_primary_key_of_8_columns = refl;
  trigger_257 = refl;
  trigger_256 = refl;
  last_trigger_ever_was_created = refl;
  last_trigger_ever = refl;
  body_of_33 = refl;
  body_of_32 = refl;
  body_of_none = refl;
  name_of_129_letters = refl;
  name_of_128_letters = refl;
  name_of_no_letter = refl;
  name_with_a_digit_first = refl;
  name_with_a_digit_last = refl;
  name_with_an_underscore_first = refl;
  name_of_the_outermost_letters = refl;
  name_in_lower_case = refl;
  name_with_a_space = refl;
  name_before_the_letters = refl;
  name_after_the_letters = refl;
  name_after_the_digits = refl;
  name_with_a_letter_of_two_bytes = refl;
  released_name = refl;
  name_to_roll_back_to = refl;
  name_of_a_table = refl;
  name_of_a_column = refl;
  name_of_a_constraint = refl;
  name_of_a_constraint_of_a_column = refl;
  name_of_an_added_constraint = refl;
  name_of_a_trigger = refl;
  name_of_a_transition_table = refl;
  name_of_a_range = refl;
  name_of_a_counted_range = refl;
  name_of_a_range_of_an_insert = refl;
  name_of_a_range_in_exists = refl;
  name_of_a_range_in_exists_where = refl;
  number_of_a_default = refl;
  greatest_number_of_a_default = refl;
  negative_number_of_a_default = refl;
  greatest_number = refl;
  number_on_the_left = refl;
  number_is_null = refl;
  number_is_not_null = refl;
  number_in_exists = refl;
  enclosed_number = refl;
  negated_number = refl;
  number_before_and = refl;
  number_after_and = refl;
  number_before_or = refl;
  number_after_or = refl;
  number_in_values = refl;
  number_in_a_second_tuple = refl;
  number_in_the_list_of_an_insert = refl;
  number_in_the_condition_of_an_insert = refl;
  number_in_an_update = refl;
  number_in_the_condition_of_an_update = refl;
  number_in_a_list = refl;
  number_in_the_condition_of_a_select = refl;
  number_in_the_condition_of_a_count = refl;
  grouped_number = refl;
  signed_number = refl;
  number_in_a_product_on_the_left = refl;
  number_in_a_product_on_the_right = refl;
  number_in_a_sum_on_the_left = refl;
  number_in_a_sum_on_the_right = refl;
  number_in_a_check = refl;
  number_in_an_added_check = refl;
  number_in_when = refl;
  number_in_a_set = refl;
  number_in_a_triggered_insert = refl;
  number_in_a_triggered_update = refl;
  number_in_a_triggered_delete = refl;
  value_of_depth_65 = refl;
  value_of_depth_64 = refl;
  sum_of_depth_65 = refl;
  sum_of_depth_64 = refl;
  sign_of_depth_65 = refl;
  sign_of_depth_64 = refl;
  condition_of_depth_65 = refl;
  condition_of_depth_64 = refl;
  comparison_of_depth_65 = refl;
  comparison_of_depth_64 = refl;
  product_of_depth_65 = refl;
  product_of_depth_64 = refl;
  set_of_depth_65 = refl;
  set_of_depth_64 = refl;
  and_of_depth_65 = refl;
  and_of_depth_64 = refl;
  exists_of_depth_65 = refl;
  exists_of_depth_64 = refl;
  exists_where_of_depth_65 = refl;
  exists_where_of_depth_64 = refl;
  listed_columns = refl;
  tuples = refl;
  assignments = refl;
  selected_values = refl;
  unique_columns = refl;
  primary_key_columns = refl;
  constraint_names = refl;
  tuple_of_none = refl;
}

pub order : WorkedOrder
unfolding column_meant source_named is_source source_columns source_range range_of unknown_in_condition clash some_text misshaped_condition
    integer_of bound_condition clashes_with value_clashes misshaped_value tuple_clashes misshaped_tuple kinds_clash values_clash columns_clash
    list_clashes misshaped_source misshaped_assignment subject_of trigger_names trigger_variables variable_named unknown_in_set unknown_in_action
    is_allowed_item is_allowed_action sets_old misshaped_action table_id default_at bound_value target_place bound_tuple bound_list bound_source
    bound_columns bound_assignment generated_name digits values_on_literals
order = record {
  table_in_use_that_refers_to_nothing = refl;
  check_of_nothing_with_exists = refl;
  check_of_nothing_with_a_clash = refl;
  long_text_that_refers_to_nothing = refl;
  table_in_use_without_columns = refl;
  table_in_use_with_a_clash = refl;
  table_in_use_with_a_long_text = refl;
  exists_with_a_clash = refl;
  default_that_no_text_of_no_character_is = refl;
  default_that_a_text_of_no_character_is = refl;
  clash_with_a_long_text = refl;
  all_five = refl;
  constraint_in_use_of_nothing = refl;
  constraint_in_use_of_no_table = refl;
  constraint_in_use_with_exists = refl;
  constraint_in_use_with_a_clash = refl;
  second_primary_key_of_nothing = refl;
  second_primary_key_of_a_column_twice = refl;
  deferred_clash_not_deferrable = refl;
  trigger_in_use_on_nothing = refl;
  insert_into_nothing_before = refl;
  insert_of_a_column_twice_before = refl;
  one_name_for_the_old_row_twice = refl;
  trigger_in_use_with_a_clash = refl;
  clash_before = refl;
  set_of_no_column_of_the_old_row = refl;
  column_twice_and_nothing = refl;
  column_twice_for_one_value = refl;
  too_few_values_of_nothing = refl;
  too_few_values_beyond_integers = refl;
  update_of_a_column_twice_and_of_nothing = refl;
  update_of_a_column_twice_to_a_text = refl;
  update_of_a_column_twice_beyond_integers = refl;
  update_of_a_text_beyond_integers = refl;
  clash_where_nothing = refl;
  clash_beyond_integers = refl;
  nothing_beyond_integers = refl;
  column_beyond_integers = refl;
}

pub update_of : WorkedUpdateOf
unfolding column_meant source_named is_source source_columns source_range range_of unknown_in_condition clash some_text misshaped_condition
    integer_of bound_condition clashes_with value_clashes misshaped_value tuple_clashes misshaped_tuple kinds_clash values_clash columns_clash
    list_clashes misshaped_source misshaped_assignment subject_of trigger_names trigger_variables variable_named unknown_in_set unknown_in_action
    is_allowed_item is_allowed_action sets_old misshaped_action table_id default_at bound_value target_place bound_tuple bound_list bound_source
    bound_columns bound_assignment generated_name digits values_on_literals
update_of = record {
  column_of_the_table = refl;
  all_columns_of_the_table = refl;
  no_column = refl;
  no_column_after_a_column = refl;
  column_of_another_table = refl;
  column_of_no_table = refl;
  column_twice = refl;
  column_before_and_after = refl;
  no_column_twice = refl;
  column_of_no_table_twice = refl;
  trigger_in_use = refl;
  trigger_in_use_of_no_column = refl;
  insert_without_columns = refl;
  insert_of_columns = refl;
  delete_without_columns = refl;
  delete_of_columns = refl;
  insert_of_no_column = refl;
  delete_of_a_column_twice = refl;
  places_in_the_order_of_the_list = refl;
}

pub nulls : WorkedNullWords
unfolding column_meant source_named is_source source_columns source_range range_of unknown_in_condition clash some_text misshaped_condition
    integer_of bound_condition clashes_with value_clashes misshaped_value tuple_clashes misshaped_tuple kinds_clash values_clash columns_clash
    list_clashes misshaped_source misshaped_assignment subject_of trigger_names trigger_variables variable_named unknown_in_set unknown_in_action
    is_allowed_item is_allowed_action sets_old misshaped_action table_id default_at bound_value target_place bound_tuple bound_list bound_source
    bound_columns bound_assignment generated_name digits values_on_literals
nulls = record {
  in_a_column = refl;
  of_two_columns = refl;
  of_nothing = refl;
  of_a_column_twice = refl;
  beside_a_unique = refl;
  beside_a_primary_key = refl;
  named_twice = refl;
  not_deferrable_and_deferred = refl;
  of_9_columns = refl;
  of_8_columns = refl;
  of_no_column = refl;
  referred_to = refl;
  deferrable_referred_to = refl;
  no_primary_key = refl;
  added_referred_to = refl;
  not_added_referred_to = refl;
  added_is_no_primary_key = refl;
  plan_of_an_addition = refl;
  plan_of_both = refl;
}

pub names : WorkedNames
unfolding Rattle.iv_resolution.specs.Scopes.column_meant Rattle.iv_resolution.specs.Scopes.source_named Rattle.iv_resolution.specs.Scopes.is_source Rattle.iv_resolution.specs.Scopes.source_columns Rattle.iv_resolution.specs.Scopes.range_of Rattle.iv_resolution.specs.Triggers.subject_of Rattle.iv_resolution.specs.Triggers.trigger_names Rattle.iv_resolution.specs.Triggers.trigger_variables Rattle.iv_resolution.specs.Triggers.variable_named Rattle.iv_resolution.specs.NameFaults.unknown_in_condition Rattle.iv_resolution.specs.NameFaults.unknown_in_set Rattle.iv_resolution.specs.NameFaults.unknown_in_action Rattle.iv_catalogue.specs.Names.generated_name digits
names = record {
  target = refl;
  column_of_the_list = refl;
  value_of_no_range = refl;
  from_before_the_list = refl;
  list_before_the_condition = refl;
  with_its_qualifier = refl;
  left_operand_first = refl;
  inside_an_exists = refl;
  column_that_is_set = refl;
  column_of_a_key = refl;
  referenced_table = refl;
  referenced_column = refl;
  altered_table = refl;
  column_of_an_added_key = refl;
  column_of_update_of = refl;
  row_variable = refl;
  column_of_a_row_variable = refl;
  second_statement_of_a_body = refl;
  dropped_trigger = refl;
  constraint_that_is_set = refl;
  table_before_its_columns = refl;
  column_that_comes_again_first = refl;
  constraint_in_use_before_a_column_again = refl;
  column_again_before_its_constraint = refl;
  key_before_a_column_again = refl;
  key_before_a_constraint_in_use = refl;
  name_before_its_key = refl;
  constraint_twice_before_one_in_use = refl;
  generated_in_use = refl;
  constraint_twice = refl;
  generated_again = refl;
  column_of_a_key_twice = refl;
  added_constraint_in_use = refl;
  added_name_in_use = refl;
  column_of_an_added_key_twice = refl;
  trigger_in_use = refl;
  column_of_update_of_twice = refl;
  transition_twice = refl;
  column_in_a_body_twice = refl;
  column_of_the_list_twice = refl;
  column_set_twice = refl;
  of_another_cause = refl;
  left_factor_first = refl;
  left_side_first = refl;
  from_before_its_condition = refl;
  list_before_the_values = refl;
  set_before_the_condition = refl;
  first_of_the_list = refl;
  condition_before_the_body = refl;
  table_before_update_of = refl;
  columns_before_the_reference = refl;
  constraint_again_before_a_key = refl;
  first_list_before_the_second = refl;
}

pub meanings : WorkedMeanings
unfolding column_meant source_named is_source source_columns source_range range_of unknown_in_condition clash some_text misshaped_condition
    integer_of bound_condition clashes_with value_clashes misshaped_value tuple_clashes misshaped_tuple kinds_clash values_clash columns_clash
    list_clashes misshaped_source misshaped_assignment subject_of trigger_names trigger_variables variable_named unknown_in_set unknown_in_action
    is_allowed_item is_allowed_action sets_old misshaped_action table_id default_at bound_value target_place bound_tuple bound_list bound_source
    bound_columns bound_assignment generated_name digits values_on_literals
meanings = record {
  match_full_and_two_actions = refl;
  match_simple_and_no_action = refl;
  default_of_a_column = refl;
  deferrable_begins_immediate = refl;
  default_in_values = refl;
  number_minus_column = refl;
}
