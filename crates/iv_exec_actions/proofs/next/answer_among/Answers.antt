use Rattle.std.proofs.Common.{◌∙◌, sym, ap, Ok}
use Rattle.iv_exec_actions.specs.Answers.{uncounted}
use Rattle.iv_exec_actions.specs.Following.{answer_among}
use Rattle.iv_exec_actions.proofs.Nothing.{none_there, nothing_follows}
use Rattle.iv_exec_actions.proofs.next.answer_among.Goals as goal

pub returns-then-is_empty : goal.returns-then-is_empty
returns-then-is_empty g c =
    let later = (g.K.ReferencingRows.view c.args.store.now).base in
    ap Ok c.new.ensures
    ∙ ap uncounted
    (sym (nothing_follows c.args.catalogue.now c.args.changes.now later c.args.numbers.now)
    ∙ ap (λ xs. answer_among c.args.catalogue.now xs c.args.changes.now later c.args.numbers.now)
    (sym (none_there c.args.affected_keys.now (sym c.is_empty.ensures ∙ c.if-is_empty.true))))
