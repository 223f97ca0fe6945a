use Rattle.std.proofs.Common.{◌≡◌, length, sym, subst, ◌∙◌}
use Rattle.iv_store_faults.specs.Watching.{ViolatingStay}
use Rattle.iv_store_faults.proofs.Taking.{stay_dropped, unflagged}
use Rattle.iv_store_faults.proofs.watching.take_up.Goals as goal

pub truncate-requires : goal.truncate-requires
truncate-requires c =
    let is : c.len-first.result ≡ length c.args.violating.now = c.len-first.ensures ∙ c.args.constraints.now.ok.0 ∙ sym c.requires.taken_up.violating_count in
    record { unflagged = unflagged c.args.violating.now c.cover_new.new.violating c.len-first.result is c.cover_new.ensures.stay }

pub returns-clause-stay : goal.returns-clause-stay
returns-clause-stay c =
    let is : c.len-first.result ≡ length c.args.violating.now = c.len-first.ensures ∙ c.args.constraints.now.ok.0 ∙ sym c.requires.taken_up.violating_count in
    subst (λ violating. ViolatingStay c.args.violating.now violating) (sym c.truncate.ensures.violating) (stay_dropped c.args.violating.now c.cover_new.new.violating c.len-first.result is c.cover_new.ensures.stay)
