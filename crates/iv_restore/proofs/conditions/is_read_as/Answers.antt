use Rattle.std.proofs.Common.{rules}
use Rattle.iv_restore.proofs.Read.{read_as}
use Rattle.iv_restore.proofs.conditions.is_read_as.Goals as goal

pub returns-in_ok-means : goal.returns-in_ok-means
returns-in_ok-means c = λ yes.
    read_as (λ f. f.at) c.args.catalogue.now c.args.id c.args.text.now c.args.condition.now c.as_str.result.now c.in-Ok.parsed.statements c.as_slice.result.now
    c.in-Ok.parsed.fault (search rules) c.in-Ok.ensures.script (search rules) c.as_slice.ensures (c.in_ok-means.ensures yes)
