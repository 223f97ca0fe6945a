use Rattle.std.proofs.Common.{◌≡◌, ◌||◌, ℕ, drop}
use Rattle.iv_expr.specs.Changes.{names_column}
use Rattle.iv_exec_triggers.specs.Distinct.{EachOnce}
use Rattle.iv_exec_triggers.proofs.columns_of_level.add_all.Given as goal

abbrev pub invariant-loop-column : goal.invariant-loop-column
invariant-loop-column l = record {
  named : (t c : ℕ)
      → (names_column l.columns.items t c || names_column (drop l.column-index l.named) t c) ≡ (names_column l.initial.columns.items t c || names_column l.named t c);
  once : EachOnce l.initial.columns.items → EachOnce l.columns.items;
}
