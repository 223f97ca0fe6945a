-- The worked scripts compute.
use Rattle.std.proofs.Common.{refl}
use Rattle.iv_value.proofs.OnLiterals.{values_on_literals}
use Rattle.iv_step.specs.Worked.{WorkedScripts}
use Rattle.iv_resolution.specs.Bound.{table_id, default_at, bound_value, target_place, bound_tuple, bound_list, bound_source, bound_columns}
use Rattle.iv_resolution.specs.Bound.{bound_assignment}
use Rattle.iv_resolution.specs.Changes.{clashes_with, value_clashes, misshaped_value, tuple_clashes, misshaped_tuple, kinds_clash, values_clash}
use Rattle.iv_resolution.specs.Changes.{columns_clash, list_clashes, misshaped_source, misshaped_assignment}
use Rattle.iv_resolution.specs.Scopes.{column_meant, source_named, is_source, source_columns, source_range, range_of}
use Rattle.iv_resolution.specs.NameFaults.{unknown_in_condition, unknown_in_set, unknown_in_action}
use Rattle.iv_resolution.specs.Terms.{clash, some_text, misshaped_condition, integer_of, bound_condition}
use Rattle.iv_resolution.specs.Triggers.{subject_of, trigger_names, trigger_variables, variable_named, is_allowed_item, is_allowed_action, sets_old}
use Rattle.iv_resolution.specs.Triggers.{misshaped_action}
use Rattle.iv_catalogue.specs.Names.{has_repeated, generated_name}

pub scripts : WorkedScripts
unfolding table_id default_at bound_value target_place bound_tuple bound_list bound_source bound_columns bound_assignment clashes_with value_clashes
    misshaped_value tuple_clashes misshaped_tuple kinds_clash values_clash columns_clash list_clashes misshaped_source misshaped_assignment
    column_meant source_named is_source source_columns source_range range_of unknown_in_condition clash some_text misshaped_condition integer_of
    bound_condition subject_of trigger_names trigger_variables variable_named unknown_in_set unknown_in_action is_allowed_item is_allowed_action
    sets_old misshaped_action has_repeated generated_name values_on_literals
scripts = record {
  one_check = refl;
  two_checks = refl;
  table_in_transaction = refl;
  first_insert_told = refl;
  refused_commit_told = refl;
  accepted_commit_told = refl;
  without_meaning_told = refl;
}
