-- The worked scripts compute.
use Rattle.std.proofs.Common.{refl}
use Rattle.iv_value.proofs.OnLiterals.{values_on_literals}
use Rattle.iv_worked.specs.WorkedConstraints.{WorkedConstraints}
use Rattle.iv_worked.specs.WorkedActions.{WorkedActions}
use Rattle.iv_worked.specs.WorkedTriggers.{WorkedTriggers}
use Rattle.iv_worked.specs.WorkedStatements.{WorkedStatements}
use Rattle.iv_worked.specs.WorkedKeys.{WorkedKeys}
use Rattle.iv_worked.specs.WorkedTransactions.{WorkedTransactions}
use Rattle.iv_worked.specs.WorkedEffects.{WorkedEffects}
use Rattle.iv_worked.specs.WorkedBeforeTriggers.{WorkedBeforeTriggers}
use Rattle.iv_worked.specs.WorkedTransitions.{WorkedTransitions}
use Rattle.iv_worked.specs.WorkedLimits.{WorkedLimits}
use Rattle.iv_worked.specs.WorkedOccasions.{WorkedOccasions}
use Rattle.iv_worked.specs.WorkedNulls.{WorkedNulls}
use Rattle.iv_worked.specs.WorkedColumns.{WorkedColumns}
use Rattle.iv_worked.specs.WorkedAccounts.{WorkedAccounts}
use Rattle.iv_worked.specs.WorkedFailures.{WorkedFailures}
use Rattle.iv_worked.specs.WorkedRefusals.{WorkedRefusals}

pub constraints : WorkedConstraints
constraints = record {
  check_unknown_passes = refl;
  unique_passes_over_nulls = refl;
  unique_after_shift = refl;
  ring_of_deferred_keys = refl;
  constraint_added_over_rows = refl;
  deferred_key_mended = refl;
  commit_refused_rolls_back = refl;
  commit_refused_undoes = refl;
  set_constraints_immediate = refl;
  match_simple_and_full = refl;
  overflow_undoes_statement = refl;
  savepoint_restores_modes = refl;
  release_keeps_no_later = refl;
  violations_by_constraint = refl;
}

pub actions : WorkedActions
actions = record {
  update_cascade_swaps_keys = refl;
  update_cascade_counts_both_waves = refl;
  self_reference_deleted_whole = refl;
  self_reference_restrict = refl;
  deletion_wins_over_set_null = refl;
  deletion_wins_in_one_wave = refl;
  two_actions_on_one_column = refl;
  set_default = refl;
  budget_of_three = refl;
  budget_of_three_undoes = refl;
  budget_of_four = refl;
  budget_of_five = refl;
  budget_of_five_counts = refl;
  keys_apart_disagree = refl;
}

pub triggers : WorkedTriggers
unfolding values_on_literals
triggers = record {
  trigger_depth_limit = refl;
  trigger_depth_limit_undoes = refl;
  trigger_depth_limit_at_1 = refl;
  trigger_depth_limit_at_32 = refl;
  trigger_depth_limit_at_64 = refl;
  before_trigger_fills_null = refl;
  check_before_after_triggers = refl;
  statement_trigger_without_rows = refl;
  refusal_inside_trigger = refl;
  innermost_trigger_is_told = refl;
  before_triggers_in_order = refl;
  later_set_sees_the_earlier = refl;
  forty_levels_of_64 = refl;
  after_triggers_in_order = refl;
}

pub statements : WorkedStatements
unfolding values_on_literals
statements = record {
  columns_that_are_listed = refl;
  values_are_stored_in_turn = refl;
  unknown_finds_no_row = refl;
}

pub keys : WorkedKeys
unfolding values_on_literals
keys = record {
  primary_key_has_no_null = refl;
  match_simple_with_nulls = refl;
  match_full_with_nulls = refl;
  duplicates_violate_both = refl;
  added_constraint_looks_at_all_rows = refl;
}

pub transactions : WorkedTransactions
unfolding values_on_literals
transactions = record {
  savepoint_of_a_used_name = refl;
  rollback_to_gives_numbers_back = refl;
  rollback_leads_to_before_the_first_statement = refl;
  savepoints_end_with_their_transaction = refl;
  rollback_to_gives_the_count_back = refl;
  committed_numbers_stay = refl;
  commit_ends_the_count = refl;
  commit_ends_the_modes = refl;
  rollback_ends_the_modes = refl;
  set_constraints_looks_at_those_it_names = refl;
  refused_modes_stay = refl;
}

pub effects : WorkedEffects
unfolding values_on_literals
effects = record {
  least_row_gives_the_new_key = refl;
  three_waves_are_counted = refl;
  row_that_lets_go_of_the_key_is_not_reached = refl;
  row_that_takes_the_key_is_not_reached = refl;
  restrict_protects_rows_that_change_too = refl;
  restricted_wave_is_counted = refl;
  equal_values_are_no_conflict = refl;
  conflict_names_the_later_key = refl;
  conflict_names_the_first_that_disagrees = refl;
  conflicting_wave_is_counted = refl;
  no_conflict_on_a_deleted_row = refl;
  restrict_comes_before_a_conflict = refl;
  set_null_sets_all_columns = refl;
  set_default_takes_the_defaults_of_its_own_table = refl;
  cascade_copies_the_whole_key = refl;
}

pub before_triggers : WorkedBeforeTriggers
unfolding values_on_literals
before_triggers = record {
  signal_of_a_before_trigger = refl;
  row_triggers_of_the_table_and_event = refl;
  statement_trigger_with_a_condition = refl;
  text_too_long = refl;
  text_too_long_changes_nothing = refl;
  tables_are_seen_before_the_wave = refl;
  later_waves_see_tables_before_the_wave = refl;
  later_trigger_sees_the_earlier_set = refl;
  values_before_statement_triggers = refl;
  each_trigger_over_all_rows = refl;
}

pub transitions : WorkedTransitions
unfolding values_on_literals
transitions = record {
  statement_trigger_sees_both_transition_tables = refl;
  row_trigger_sees_the_whole_transition_table = refl;
  when_of_a_row_trigger_sees_old_and_new = refl;
  transitions_are_net = refl;
  signal_of_an_after_trigger = refl;
  signal_undoes_both_levels = refl;
  refusal_names_the_innermost_trigger = refl;
}

pub limits : WorkedLimits
unfolding values_on_literals
limits = record {
  budget_of_three_for_four = refl;
  budget_of_three_for_four_undoes = refl;
  budget_of_four_for_four = refl;
  last_change_of_a_transaction = refl;
  last_two_changes_of_a_transaction = refl;
  last_row_number = refl;
  last_two_row_numbers = refl;
  refused_for_a_limit_changes_nothing = refl;
}

pub occasions : WorkedOccasions
unfolding values_on_literals
occasions = record {
  schema_inside = refl;
  schema_outside = refl;
  savepoints_inside = refl;
  savepoints_outside = refl;
  start_inside = refl;
  start_outside = refl;
  others_inside = refl;
  others_outside = refl;
}

pub nulls : WorkedNulls
unfolding values_on_literals
nulls = record {
  nulls_not_distinct = refl;
  nulls_not_distinct_parent = refl;
  both_rows_violate = refl;
  beside_a_plain_unique = refl;
  simple_needs_none = refl;
  full_refuses_it = refl;
  added_over_nulls = refl;
}

pub columns : WorkedColumns
unfolding values_on_literals
columns = record {
  update_of = refl;
  set_list_without_rows = refl;
  before_statement = refl;
  before_row_in_a_later_wave = refl;
  equal_values_count = refl;
  a_set_adds_nothing = refl;
  whole_key_counts = refl;
  deleted_rows_name_no_columns = refl;
  all_transitions_of_the_table = refl;
  columns_of_later_waves = refl;
  one_of_two_columns = refl;
  set_list_is_of_the_first_wave = refl;
  columns_of_a_second_key = refl;
}

pub accounts : WorkedAccounts
unfolding values_on_literals
accounts = record {
  insert_of_two_rows = refl;
  update_of_two_rows = refl;
  delete_of_no_row = refl;
  delete_cascades = refl;
  budget_ends_after_a_wave = refl;
  delete_sets_null = refl;
  two_keys_act_on_a_row = refl;
  after_row_trigger_logs = refl;
  before_row_triggers_set = refl;
  trigger_whose_condition_is_false = refl;
  statement_triggers_are_skipped = refl;
  skipped_before_one_that_runs = refl;
  condition_at_fault = refl;
  budget_ends_before_triggers = refl;
  check_is_violated = refl;
  unique_is_violated = refl;
  restrict_protects_a_row = refl;
  two_levels_of_triggers = refl;
  refusal_inside_a_body = refl;
  before_statement_trigger_runs = refl;
  commit_is_refused = refl;
  set_constraints_is_refused = refl;
  start_tells_nothing = refl;
  signal_of_the_first_row = refl;
  signal_of_the_first_trigger = refl;
  transaction_is_full_before_triggers = refl;
  value_before_a_statement_trigger = refl;
  update_of_fires = refl;
  update_of_sets = refl;
  key_that_the_row_lets_go = refl;
  trigger_of_the_child = refl;
  two_keys_disagree = refl;
  second_column_of_the_later_key = refl;
  first_of_two_earlier_keys = refl;
  conflict_of_a_row_of_the_wave = refl;
  first_other_row = refl;
  null_primary_keys = refl;
  nulls_not_distinct = refl;
  one_constraint_is_set = refl;
  set_constraints_of_one_not_deferrable = refl;
  depth_of_one = refl;
}

pub failures : WorkedFailures
unfolding values_on_literals
failures = record {
  second_tuple = refl;
  listed_column = refl;
  first_value = refl;
  left_side = refl;
  whole_after_parts = refl;
  second_row_of_an_update = refl;
  row_of_a_query = refl;
  item_of_a_query = refl;
  condition_before_values = refl;
  value_where_true = refl;
  conditions_before_values = refl;
  no_value_where_false = refl;
  condition_of_a_deletion = refl;
  condition_of_a_subquery = refl;
  set_of_a_trigger = refl;
  second_set = refl;
  condition_of_a_before_trigger = refl;
  condition_of_an_after_trigger = refl;
  statement_of_a_body = refl;
  row_of_a_transition_table = refl;
  text_of_values = refl;
  text_of_an_update = refl;
  text_of_a_set = refl;
  accepted = refl;
}

pub refusals : WorkedRefusals
unfolding values_on_literals
refusals = record {
  release_of_none = refl;
  rollback_to_none = refl;
  later_ones_are_gone = refl;
  none_stands = refl;
  rollback_to_one = refl;
  release_of_one = refl;
  check_of_a_row = refl;
  check_of_no_row = refl;
  deferred_check = refl;
  key_of_two_rows = refl;
  null_in_a_key = refl;
  nulls_as_a_key = refl;
  key_that_is_missing = refl;
}
