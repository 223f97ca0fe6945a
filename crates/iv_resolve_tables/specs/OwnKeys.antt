-- What is known of the keys of the table that constraints are of.
use Rattle.std.specs.Prelude.{◌≡◌, ⊤, List, option_map}
use Rattle.std.specs.List.{list_any}
use Rattle.iv_resolution.specs.Constraints.{Key, is_reliable, primary_key_of}
use Rattle.iv_resolve_tables.specs.Keys.{key_seen}
use Rattle.iv_resolve_tables.specs.KeySets.{Finds}
use Rattle.iv_resolve_tables.specs.declared.own_keys.OwnKeys.{OwnKeys}
use Rattle.iv_resolve_tables.specs.declared.own_keys.OwnKeys.TheVariants.{Searched, Found}

-- what is known is so of these keys
abbrev pub Knows : OwnKeys → List Key → Type 0
Knows Searched keys = ⊤
Knows (Found alloc primary sets) keys =
    (option_map key_seen primary ≡ primary_key_of keys) × Finds sets.now (λ names. list_any (is_reliable names) keys)
