use Rattle.std.proofs.Common.{◌≡◌, ◌||◌, ℕ, drop, flat_map}
use Rattle.iv_expr.specs.Changes.{names_column}
use Rattle.iv_machine.specs.Levels.{level_columns}
use Rattle.iv_exec_triggers.specs.Distinct.{EachOnce}
use Rattle.iv_exec_triggers.proofs.columns_of_level.level_columns.Given as goal

abbrev pub invariant-loop-wave : goal.invariant-loop-wave
invariant-loop-wave l = record {
  named : (t c : ℕ)
      → (names_column l.columns.items t c || names_column (flat_map (λ wave. wave.columns) (drop l.wave-index l.waves)) t c)
      ≡ names_column (level_columns l.statement l.waves) t c;
  once : EachOnce l.columns.items;
}
