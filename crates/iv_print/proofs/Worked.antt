-- The worked lines compute.
use Rattle.std.proofs.Common.{refl}
use Rattle.std.specs.Fmt.{digits}
use Rattle.iv_text.specs.Rules.{names_listed, names_text, references_words}
use Rattle.iv_text.specs.Ways.{begun_after, limit_text}
use Rattle.iv_print.specs.WorkedAccounts.{WorkedAccounts}

pub accounts : WorkedAccounts
unfolding digits begun_after limit_text names_listed names_text references_words
accounts = record {
  nothing_is_told = refl;
  changes = refl;
  actions = refl;
  triggers = refl;
  skipped_triggers = refl;
  statements_that_change_nothing = refl;
  statement_that_is_refused = refl;
  statements_of_bodies_are_deeper = refl;
  depth_is_the_limit = refl;
  changes_are_the_limit = refl;
  transaction_is_the_limit = refl;
  long_way = refl;
  fault_in_a_body = refl;
  key_is_missing = refl;
  key_is_missing_at_the_end = refl;
  key_is_missing_without_a_refusal = refl;
  key_is_protected = refl;
  actions_disagree = refl;
  actions_disagree_about_a_text = refl;
  actions_differ = refl;
  key_of_two_columns = refl;
  key_with_a_null = refl;
  same_primary_key = refl;
  null_in_a_primary_key = refl;
  same_key = refl;
  condition_is_false = refl;
  column_is_null = refl;
  same_key_without_a_name = refl;
  condition_without_a_name = refl;
  no_row = refl;
  no_constraint = refl;
}
