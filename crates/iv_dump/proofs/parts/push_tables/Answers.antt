use Rattle.std.proofs.Common.{◌≡◌, ◌+◌, ap, refl, rules}
use Rattle.iv_dump.proofs.Made.{makes_nothing}
use Rattle.iv_dump.proofs.Told.{tables_step}
use Rattle.iv_dump.proofs.parts.push_tables.Goals as goal

pub loop-rows-init : goal.loop-rows-init
loop-rows-init c = record { at = refl; made = λ h. makes_nothing c.args.tables.now c.args.scripts.now c.args.constraints.now }

pub loop-rows-preserved : goal.loop-rows-preserved
loop-rows-preserved c =
    let seen : c.as_slice.result.now ≡ c.rows-item.result = search rules in
    record {
      at = ap (λ n. n + 1) c.loop-rows.invariant.at;
      made = tables_step c.args.tables.now c.args.scripts.now c.loop-rows.scripts _ c.args.lists.now c.rows-item.result c.as_slice.result.now c.loop-rows.place c.loop-rows.rows-index
          c.args.constraints.now _ _ c.loop-rows.invariant.made c.in_ok-more.ensures c.loop-rows.invariant.at seen c.loop-rows-test.true c.rows-item.is;
    }
