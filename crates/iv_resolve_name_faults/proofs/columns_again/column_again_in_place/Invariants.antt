use Rattle.std.proofs.Common.{◌≡◌, ◌++◌, [], drop, take}
use Rattle.iv_resolution.specs.Items.{first_again}
use Rattle.iv_resolution.specs.NameFaults.{before_column_again}
use Rattle.iv_resolve_name_faults.proofs.ColumnText.{column_names}
use Rattle.iv_resolve_name_faults.proofs.columns_again.column_again_in_place.Given as goal

abbrev pub invariant-loop-place : goal.invariant-loop-place
invariant-loop-place l = record {
  name : first_again (λ n. n) [] (column_names l.elements) ≡ first_again (λ n. n) (column_names (take l.place l.elements)) (column_names (drop l.place l.elements));
  before : before_column_again [] l.elements ≡ take l.place l.elements ++ before_column_again (column_names (take l.place l.elements)) (drop l.place l.elements);
}
