-- The worked lines compute.
use Rattle.std.proofs.Common.{refl}
use Rattle.std.specs.Fmt.{digits}
use Rattle.iv_text.specs.Rules.{names_listed, names_text, references_words}
use Rattle.iv_text.specs.WorkedConditions.{WorkedConditions, WorkedRules}

pub conditions : WorkedConditions
unfolding digits
conditions = record {
  comparison = refl;
  comparison_of_values = refl;
  sum_in_a_product = refl;
  sum_of_values_in_a_product = refl;
  product_in_a_product = refl;
  difference_on_the_right = refl;
  difference_on_the_left = refl;
  column_with_a_sign = refl;
  value_with_a_sign = refl;
  not_null = refl;
  not_null_of_values = refl;
  conjunctions = refl;
  disjunctions = refl;
  denials = refl;
  denied_comparison = refl;
}

pub rules : WorkedRules
unfolding digits names_listed names_text references_words
rules = record {
  not_null = refl;
  check = refl;
  unique = refl;
  unique_nulls = refl;
  primary_key = refl;
  foreign_key = refl;
  foreign_key_full = refl;
  given_name = refl;
  given_name_like_it = refl;
  name_of_another_table = refl;
  name_with_a_number = refl;
  no_constraint = refl;
}
