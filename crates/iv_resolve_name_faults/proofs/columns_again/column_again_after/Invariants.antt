use Rattle.std.proofs.Common.{◌≡◌, ◌++◌, drop, take}
use Rattle.iv_resolution.specs.Items.{first_again}
use Rattle.iv_resolution.specs.NameFaults.{before_column_again}
use Rattle.iv_resolve_name_faults.proofs.ColumnText.{column_names}
use Rattle.iv_resolve_name_faults.proofs.columns_again.column_again_after.Given as goal

abbrev pub invariant-loop-place : goal.invariant-loop-place
invariant-loop-place l = record {
  name : first_again (λ n. n) l.initial.set (column_names l.elements) ≡ first_again (λ n. n) l.set (column_names (drop l.place l.elements));
  before : before_column_again l.initial.set l.elements ≡ take l.place l.elements ++ before_column_again l.set (drop l.place l.elements);
}
