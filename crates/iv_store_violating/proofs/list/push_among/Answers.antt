use Rattle.std.proofs.Common.{refl}
use Rattle.iv_store_violating.specs.Answers.{faults_kept}
use Rattle.iv_store_violating.specs.Shown.{shown}
use Rattle.iv_store_violating.proofs.Flags.{has_at}
use Rattle.iv_store_violating.proofs.KeptFaults.{told_step}
use Rattle.iv_store_violating.proofs.list.push_among.Goals as goal

pub push_faults-requires-clause-small : goal.push_faults-requires-clause-small
push_faults-requires-clause-small c = c.requires.small _ (has_at c.args.ids.now c.loop-id.id-index c.loop-id-test.true)

pub loop-id-preserved : goal.loop-id-preserved
loop-id-preserved c = λ constraints few are.
    told_step (faults_kept constraints (shown c.args.groups.now.groups)) c.args.ids.now c.loop-id.id-index _ c.loop-id.faults.items c.push_faults.new.faults.items _
    c.loop-id-test.true refl (c.in_ok-push_faults.ensures constraints few are) (c.loop-id.invariant constraints few are)
