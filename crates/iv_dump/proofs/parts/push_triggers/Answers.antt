use Rattle.std.proofs.Common.{◌+◌, ◌∷◌, ◌∙◌, ap, drop, sym}
use Rattle.std.proofs.lemmas.List.{drop_more}
use Rattle.iv_dump.proofs.Made.{triggers_more, triggers_none}
use Rattle.iv_dump.proofs.parts.push_triggers.Goals as goal

pub loop-trigger-init : goal.loop-trigger-init
loop-trigger-init c = triggers_none c.args.tables.now c.args.scripts.now c.args.triggers.now

pub loop-trigger-preserved : goal.loop-trigger-preserved
loop-trigger-preserved c =
    let ts = c.args.triggers.now in
    let i = c.loop-trigger.trigger-index in
    let t = c.trigger-item.result in
    triggers_more c.args.tables.now c.args.scripts.now c.loop-trigger.scripts c.push_statement.new.scripts ts (drop i ts) (drop (i + 1) ts) t c.in_ok-statement.statement
    c.loop-trigger.invariant c.in_ok-push_statement.ensures c.in_ok-statement.ensures
    (drop_more ts i t c.loop-trigger-test.true ∙ ap (λ y. y ∷ drop (i + 1) ts) (sym c.trigger-item.is))
