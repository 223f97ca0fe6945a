use Rattle.std.proofs.Common.{◌∙◌, ap, cond, true, string_bytes}
use Rattle.std.specs.BTreeSet.{contains_text}
use Rattle.std.specs.Str.{bytes_eq}
use Rattle.std.proofs.lemmas.Map.Text.{btree_set_updates_text}
use Rattle.iv_resolve_tables.proofs.SameSets.{gained_text}
use Rattle.iv_resolve_tables.proofs.key_sets.add_name.Goals as goal

pub returns-clause-text : goal.returns-clause-text
returns-clause-text c other =
    btree_set_updates_text (string_bytes c.in_ok-owned.owned) c.args.set.now c.insert.new.self true c.in_ok-insert.ensures.updates other
    ∙ ap (λ n. cond (bytes_eq n other) true (contains_text c.args.set.now other)) c.in_ok-owned.ensures.ok
    ∙ gained_text (contains_text c.args.set.now other) c.args.name.now other
