use Rattle.std.proofs.Common.{◌≡◌, refl, ◌≤◌, length, OnOk, sym, subst, arith}
use Rattle.std.proofs.lemmas.List.{length-set}
use Rattle.iv_laws_kept.specs.GroupFlags.{violating_of}
use Rattle.iv_store_violating.specs.Flagging.{flag}
use Rattle.iv_store_violating.proofs.ViolatingWith.{its_violating, violating_with, violating_beside, each_with}
use Rattle.iv_store_violating.proofs.violating_groups.cover_places.Goals as goal

pub returns-clause-ok : goal.returns-clause-ok
returns-clause-ok c = subst (λ own. OnOk c.cover.result (c.args.count ≤ length own)) (sym (violating_with c.args.constraints.now.items c.args.constraint c.cover.new.self c.requires.known)) c.cover.ensures.ok

pub returns-clause-count : goal.returns-clause-count
returns-clause-count c = length-set c.args.constraints.now.items c.args.constraint c.cover.new.self

pub returns-clause-others : goal.returns-clause-others
returns-clause-others c = λ id n. violating_beside c.args.constraints.now.items c.args.constraint id c.cover.new.self n

pub returns-clause-stays : goal.returns-clause-stays
returns-clause-stays c =
    each_with (λ own now. length own ≤ length now) c.args.constraints.now.items c.args.constraint c.index_mut.result.now c.cover.new.self c.requires.known
    (its_violating c.args.constraints.now.items c.args.constraint c.index_mut.result.now c.requires.known c.index_mut.ensures.value)
    c.cover.ensures.stays
    (λ own. omega arith)

pub returns-clause-flags : goal.returns-clause-flags
returns-clause-flags c = λ id place.
    each_with (λ own now. flag now place ≡ flag own place) c.args.constraints.now.items c.args.constraint c.index_mut.result.now c.cover.new.self c.requires.known
    (its_violating c.args.constraints.now.items c.args.constraint c.index_mut.result.now c.requires.known c.index_mut.ensures.value)
    (c.cover.ensures.flags place)
    (λ own. refl)
    id
