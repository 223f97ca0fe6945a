-- The worked texts of names compute.
use Rattle.std.proofs.Common.{refl}
use Rattle.std.specs.Fmt.{digits}
use Rattle.iv_catalogue.specs.Names.{generated_name}
use Rattle.iv_explain.specs.WorkedNames.{WorkedNames}

pub names : WorkedNames
unfolding digits generated_name
names = record {
  no_table = refl;
  no_column = refl;
  no_column_of_a_range = refl;
  no_row_variable = refl;
  trigger_in_use = refl;
  constraint_twice = refl;
  made_name_in_use = refl;
  item_of_referencing = refl;
}
