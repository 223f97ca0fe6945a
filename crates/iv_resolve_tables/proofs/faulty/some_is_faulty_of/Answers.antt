use Rattle.iv_resolution.specs.Constraints.{written_constraints}
use Rattle.iv_resolve_tables.specs.Seen.{own_seen}
use Rattle.iv_resolve_tables.proofs.SameSets.{finds_keys}
use Rattle.iv_resolve_tables.proofs.faulty.some_is_faulty_of.Goals as goal

pub some_is_faulty_among-requires : goal.some_is_faulty_among-requires
some_is_faulty_among-requires c =
    finds_keys c.in-Ok.sets (own_seen c.args.catalogue.now c.args.own.now).columns (written_constraints c.args.elements.now) (own_seen c.args.catalogue.now c.args.own.now).keys
    c.requires (c.in-Ok.ensures (own_seen c.args.catalogue.now c.args.own.now).columns)
