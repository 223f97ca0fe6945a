use Rattle.std.proofs.Common.{◌≡◌, ◌∙◌, ap, sym, subst, option_map, Option, IfOk}
use Rattle.iv_laws_kept.specs.Kept.{KeyConstraint}
use Rattle.iv_store_faults.specs.Watch.{as_key}
use Rattle.iv_store_faults.proofs.WatchAppended.{next_named, still_named}
use Rattle.iv_store_faults.proofs.naming.named_key.Goals as goal

pub returns-in-Some : goal.returns-in-Some
returns-in-Some c =
    sym (still_named c.args.olds.now c.args.more.now c.args.fk.now (as_key c.in-Some.key) (sym c.in_ok-key.ensures ∙ ap (option_map as_key) c.in-Some.is))

pub returns-in-None : goal.returns-in-None
returns-in-None c =
    subst (λ (x : Option KeyConstraint). IfOk c.first_named-in-None.result (λ k. option_map as_key k ≡ x))
    (sym (next_named c.args.olds.now c.args.more.now c.args.fk.now (sym c.in_ok-key.ensures ∙ ap (option_map as_key) c.in-None.is)))
    c.first_named-in-None.ensures
