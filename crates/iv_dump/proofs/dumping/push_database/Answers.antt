use Rattle.std.proofs.Common.{rules}
use Rattle.iv_dump.proofs.Told.{whole_if}
use Rattle.iv_dump.proofs.dumping.push_database.Goals as goal

pub returns : goal.returns
returns c =
    whole_if c.args.catalogue.now c.args.lists.now _ _ _ _ _ _ _ _ _ c.in_ok-left.ensures c.in_ok-push_additions.ensures c.push_triggers.ensures
    (search rules) (search rules) (search rules)
