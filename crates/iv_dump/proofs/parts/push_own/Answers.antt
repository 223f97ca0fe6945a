use Rattle.std.proofs.Common.{◌≡◌, ◌≤◌, Some, arith, length, rules, slice_get, take, true}
use Rattle.std.proofs.lemmas.Grind.{common_steps}
use Rattle.std.proofs.lemmas.Option.{gets}
use Rattle.iv_dump.specs.Dumps.{has_null_after_key}
use Rattle.iv_dump.specs.Making.{own_count}
use Rattle.iv_dump.proofs.Told.{late_if, own_if}
use Rattle.iv_dump.proofs.parts.push_own.Goals as goal

pub returns-then-has_null_after_key : goal.returns-then-has_null_after_key
returns-then-has_null_after_key c =
    let at : slice_get c.args.tables.now c.args.place ≡ Some c.in-Some.table.now = grind (arith, common_steps, gets, c.in-Some.ensures.lookup) in
    let own : c.split_at.result.0.now ≡ take (own_count c.args.place c.args.constraints.now) c.args.constraints.now = search rules in
    let null : has_null_after_key c.split_at.result.0.now ≡ true = search rules in
    late_if c.args.tables.now c.args.scripts.now _ c.in-Some.table.now c.args.place c.args.rows.now c.args.constraints.now c.split_at.result.0.now _
    c.in_ok-push_late.ensures at own (search rules) null

pub returns : goal.returns
returns c =
    let at : slice_get c.args.tables.now c.args.place ≡ Some c.in-Some.table.now = grind (arith, common_steps, gets, c.in-Some.ensures.lookup) in
    let own : c.split_at.result.0.now ≡ take (own_count c.args.place c.args.constraints.now) c.args.constraints.now = search rules in
    let first : c.split_at-2.result.0.now ≡ take c.count_created-count.result c.args.constraints.now = search rules in
    let few : c.count_created-count.result ≤ length c.split_at.result.0.now = c.count_created-count.ensures in
    own_if c.args.tables.now c.args.scripts.now _ c.in-Some.table.now c.args.place c.args.rows.now c.args.constraints.now c.split_at.result.0.now c.split_at-2.result.0.now _
    c.count_created-count.result c.in_ok-push_created.ensures at own few first (search rules)
