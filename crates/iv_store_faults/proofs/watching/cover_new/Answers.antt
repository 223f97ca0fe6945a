use Rattle.std.proofs.Common.{length, sym, ap, subst, ◌∙◌}
use Rattle.iv_store_faults.specs.Watching.{ViolatingStay}
use Rattle.iv_store_faults.proofs.Taking.{dropped_length, stay_dropped, unflagged}
use Rattle.iv_store_faults.proofs.watching.cover_new.Goals as goal

pub truncate-requires : goal.truncate-requires
truncate-requires c = record { unflagged = unflagged c.args.violating.now c.cover_both.new.violating c.args.first c.requires.first c.cover_both.ensures.stay }

pub returns-in-Err-clause-same : goal.returns-in-Err-clause-same
returns-in-Err-clause-same c = ap length c.truncate.ensures.violating ∙ dropped_length c.args.violating.now c.cover_both.new.violating c.args.first c.requires.first c.cover_both.ensures.stay.count

pub returns-in-Err-clause-stay : goal.returns-in-Err-clause-stay
returns-in-Err-clause-stay c =
    subst (λ violating. ViolatingStay c.args.violating.now violating) (sym c.truncate.ensures.violating) (stay_dropped c.args.violating.now c.cover_both.new.violating c.args.first c.requires.first c.cover_both.ensures.stay)
