use Rattle.std.proofs.lemmas.List.{take_rest}
use Rattle.iv_exec_triggers.proofs.Merges.{rest_older, on_ok}
use Rattle.iv_exec_triggers.proofs.net.push_rest.Goals as goal

pub returns-then-at-older-clause-changes : goal.returns-then-at-older-clause-changes
returns-then-at-older-clause-changes c =
    let so_far = simp take_rest at c.push_all.ensures.changes in
    on_ok _ _ c.push_all.result (rest_older c.args.older.now c.args.newer.now c.args.net.now.changes c.push_all.new.net.changes c.args.at c.args.to c.requires.merging c.requires.end c.if-at-older.true) so_far
