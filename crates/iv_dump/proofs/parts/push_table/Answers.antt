use Rattle.std.proofs.Common.{◌≡◌, Bor, List, drop, rules, take}
use Rattle.iv_dump.specs.Types.{Constraint}
use Rattle.iv_dump.proofs.Told.{table_if}
use Rattle.iv_dump.proofs.parts.push_table.Goals as goal

pub returns : goal.returns
returns c =
    let front : c.split_at.result.0.now ≡ take c.count_earlier.result c.args.constraints.now = search rules in
    let back : c.split_at.result.1.now ≡ drop c.count_earlier.result c.args.constraints.now = search rules in
    table_if (λ (l : Bor (List Constraint)). l.now) c.args.tables.now c.args.scripts.now c.push_additions.new.scripts _ c.args.place c.count_earlier.result c.args.rows.now
    c.args.constraints.now c.split_at.result.0.now c.split_at.result.1.now c.push_own.result front back c.in_ok-push_additions.ensures c.push_own.ensures
