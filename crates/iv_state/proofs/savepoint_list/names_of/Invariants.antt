use Rattle.std.proofs.Common.{◌≡◌, ◌++◌, drop, map, string_bytes}
use Rattle.iv_state.proofs.savepoint_list.names_of.Given as goal

abbrev pub invariant-loop-text : goal.invariant-loop-text
invariant-loop-text l = l.names.items ++ map string_bytes (drop l.text-index l.texts) ≡ map string_bytes l.texts
