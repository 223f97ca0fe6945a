use Rattle.std.proofs.Common.{refl, ap, ◌∙◌}
use Rattle.iv_laws_kept.specs.GroupFlags.{violating_of}
use Rattle.iv_store_violating.specs.Shown.{shown_of}
use Rattle.iv_store_following.specs.BorrowedChange.{is_key}
use Rattle.iv_store_following.proofs.Steps.{violating_stay}
use Rattle.iv_store_following.proofs.step.refer.Goals as goal

pub returns-in-Some-clause-flagged : goal.returns-in-Some-clause-flagged
returns-in-Some-clause-flagged c = λ before after same others right.
    c.refer_to.ensures.flagged before after (same c.in-Some.key c.in-Some.is) (λ other given differs. others other given (ap (λ o. is_key o other) c.in-Some.is ∙ differs)) right

pub returns-in_default-clause-flagged : goal.returns-in_default-clause-flagged
returns-in_default-clause-flagged c = λ before after same others right.
    violating_stay before after c.args.rule.now (shown_of c.args.groups.now.groups c.args.id) (shown_of c.args.groups.now.groups c.args.id) (violating_of c.args.violating.now c.args.id) refl
    (λ other given. others other given (ap (λ o. is_key o other) c.in_default.is)) right
