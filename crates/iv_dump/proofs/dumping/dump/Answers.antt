use Rattle.std.proofs.Common.{map, rules, string_bytes}
use Rattle.iv_dump.proofs.Told.{dump_if}
use Rattle.iv_dump.proofs.dumping.dump.Goals as goal

pub returns-in-Ok-clause-statements : goal.returns-in-Ok-clause-statements
returns-in-Ok-clause-statements g c =
    dump_if c.into_vec.result (λ v. map string_bytes v.items) (g.X.Executor.state c.args.database.now) _ _ _ _ c.in-Ok.ensures c.into_vec.ensures.texts
    (search rules) (search rules) (search rules)
