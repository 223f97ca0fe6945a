use Rattle.std.proofs.Common.{◌≡◌, ℕ, List, drop}
use Rattle.std.specs.BTreeMap.{get_by_text}
use Rattle.std.specs.Option.{option_or}
use Rattle.iv_resolve_scope.specs.FirstColumns.{first_from}
use Rattle.iv_resolve_scope.proofs.column_index.firsts_of.Given as goal

abbrev pub invariant-loop-column : goal.invariant-loop-column
invariant-loop-column l = record {
  counted : l.place ≡ l.column-index;
  same : (name : List ℕ) → option_or (get_by_text l.firsts name) (first_from l.place (drop l.column-index l.columns) name) ≡ first_from 0 l.columns name;
}
