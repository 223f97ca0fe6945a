use Rattle.std.proofs.Common.{◌≡◌, ℕ, ◌||◌, List, drop}
use Rattle.std.specs.BTreeSet.{IsOrdered, contains_text}
use Rattle.std.specs.String.{string_cmp}
use Rattle.iv_catalogue.specs.Names.{is_among}
use Rattle.iv_resolve_tables.proofs.key_sets.set_of.Given as goal

abbrev pub invariant-loop-name : goal.invariant-loop-name
invariant-loop-name l = record {
  ordered : IsOrdered string_cmp l.set;
  same : (name : List ℕ) → (contains_text l.set name || is_among (drop l.name-index l.names) name) ≡ is_among l.names name;
}
