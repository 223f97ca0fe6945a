use Rattle.std.proofs.Common.{◌≡◌, ◌<◌, ◌∷◌, [], drop, length, rules, subst, sym, take}
use Rattle.iv_restate.specs.Statements.{insert_rows}
use Rattle.iv_dump.specs.Types.statement
use Rattle.iv_dump.specs.Making.{Adds, Inserts}
use Rattle.iv_dump.proofs.Made.{inserts_batch}
use Rattle.iv_dump.proofs.parts.push_rows.Goals as goal

pub batch-preserved : goal.batch-preserved
batch-preserved c =
    let name = c.args.name.now in
    let left = c.batch.left.now in
    let n = c.next_batch.result in
    let front : c.split_at.result.0.now ≡ take n left = search rules in
    let back : c.split_at.result.1.now ≡ drop n left = search rules in
    let some : 0 < length left = search rules in
    subst (Inserts name c.args.scripts.now c.push_batch.new.scripts c.args.rows.now) (sym back)
    (inserts_batch name c.args.scripts.now c.batch.scripts c.push_batch.new.scripts c.args.rows.now left n (c.next_batch.ensures.some some) some c.batch.invariant
    (subst (λ xs. Adds c.batch.scripts c.push_batch.new.scripts (insert_rows name xs ∷ statement.Commit ∷ [])) front c.in_ok-push_batch.ensures))
