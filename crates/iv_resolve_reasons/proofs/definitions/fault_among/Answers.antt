use Rattle.std.proofs.Common.{◌∙◌, ap, sym}
use Rattle.iv_resolution.specs.Constraints.{Altered, primary_key_of, written_constraints, written_keys}
use Rattle.iv_resolve_tables.specs.Seen.{own_seen}
use Rattle.iv_resolve_tables.proofs.SameSets.{finds_keys}
use Rattle.iv_resolve_reasons.proofs.definitions.fault_among.Goals as goal

pub fault_of_constraints-requires : goal.fault_of_constraints-requires
fault_of_constraints-requires c = record {
  name = sym (ap (λ (o : Altered). o.name) c.requires);
  primary = c.primary_key-primary.ensures ∙ sym (ap (λ (o : Altered). primary_key_of o.keys) c.requires);
  search = finds_keys c.in-Ok.sets (own_seen c.args.catalogue.now c.args.own).columns (written_constraints c.args.elements.now) (own_seen c.args.catalogue.now c.args.own).keys
      (ap (λ (o : Altered). o.keys) c.requires ∙ sym (ap (λ (o : Altered). written_keys o.columns (written_constraints c.args.elements.now)) c.requires))
      (c.in-Ok.ensures (own_seen c.args.catalogue.now c.args.own).columns);
}
