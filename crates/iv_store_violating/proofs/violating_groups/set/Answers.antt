use Rattle.std.proofs.Common.{◌≡◌, ◌<◌, length, sym, ap, subst, ◌∙◌, arith}
use Rattle.iv_laws_kept.specs.GroupFlags.{violating_of}
use Rattle.iv_store_violating.specs.Flagging.{with_flag, with_violating}
use Rattle.iv_store_violating.proofs.ViolatingWith.{its_violating, violated_with}
use Rattle.iv_store_violating.proofs.violating_groups.set.Goals as goal

pub set-requires : goal.set-requires
set-requires c =
    subst (λ own. c.args.place < length own) (sym (its_violating c.args.constraints.now.items c.args.constraint c.index_mut-violating.result.now c.requires.known c.index_mut-violating.ensures.value)) c.requires.place

pub returns-clause-violating : goal.returns-clause-violating
returns-clause-violating c =
    ap (with_violating c.args.constraints.now.items c.args.constraint)
    (c.set.ensures
    ∙ ap (λ own. with_flag own c.args.place c.args.raised) (its_violating c.args.constraints.now.items c.args.constraint c.index_mut-violating.result.now c.requires.known c.index_mut-violating.ensures.value))

pub returns-clause-violated : goal.returns-clause-violated
returns-clause-violated c =
    violated_with c.args.constraints.now.items c.args.violated.now c.set-2.new.self c.args.constraint c.set.new.self c.is_any-any.result c.requires.violated c.requires.known c.is_any-any.ensures c.set-2.ensures
