use Rattle.iv_store_following.proofs.Given.{all_given_more}
use Rattle.iv_store_following.proofs.giving.give_back.Goals as goal

pub loop-preserved : goal.loop-preserved
loop-preserved c = record {
  given = all_given_more c.args.groups.now c.loop.groups c.give_back_next.new.groups c.args.violating.now c.loop.violating c.give_back_next.new.violating c.loop.invariant.given c.give_back_next.ensures;
}
