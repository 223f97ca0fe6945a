use Rattle.std.proofs.Common.{◌≡◌, ◌++◌, drop}
use Rattle.iv_exec_triggers.specs.Listed.{columns_of}
use Rattle.iv_exec_triggers.proofs.columns.columns_of.Given as goal

abbrev pub invariant-loop-setting : goal.invariant-loop-setting
invariant-loop-setting l = l.columns.items ++ columns_of l.table (drop l.setting-index l.settings) ≡ columns_of l.table l.settings
