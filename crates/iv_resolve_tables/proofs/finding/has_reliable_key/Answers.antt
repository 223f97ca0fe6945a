use Rattle.std.proofs.Common.{◌∙◌, sym, ap, is_some}
use Rattle.iv_resolution.specs.Constraints.{is_reliable}
use Rattle.iv_resolve_tables.specs.Keys.{key_seen}
use Rattle.iv_resolve_tables.specs.Seen.{own_seen}
use Rattle.iv_resolve_tables.proofs.KeysOfTable.{any_found, some_mapped}
use Rattle.iv_resolve_tables.proofs.finding.has_reliable_key.Goals as goal

pub returns : goal.returns
returns c =
    c.is_some.ensures ∙ some_mapped key_seen c.sought_key.result ∙ ap is_some c.sought_key.ensures
    ∙ sym (any_found (is_reliable c.args.names.now) (own_seen c.args.catalogue.now c.args.own.now).keys)
