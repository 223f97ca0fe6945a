use Rattle.std.proofs.Common.{Bool, ◌+◌, ◌&&◌, if◌then◌else◌, ap, subst, sym, ◌∙◌}
use Rattle.iv_machine.specs.Machine.{is_open}
use Rattle.iv_step.specs.Telling.{Tells}
use Rattle.iv_step.proofs.Asked.{asked_stays}
use Rattle.iv_script.specs.News.{AreNews}
use Rattle.iv_script.proofs.Runs.{ran_one, sure_of}
use Rattle.iv_script.proofs.statements.run_one.Goals as goal

pub returns-clause-ran : goal.returns-clause-ran
returns-clause-ran g c =
    let old = g.S.Executor.state c.args.session.now in
    let new = g.S.Executor.state c.execute-outcome.new.self in
    let account = g.S.Executor.told c.execute-outcome.new.self in
    let told : Tells c.args.telling.style.explain old c.args.statement.now c.execute-outcome.result account =
    subst (λ (b : Bool). Tells b old c.args.statement.now c.execute-outcome.result account) (sym c.requires.asked) c.execute-outcome.ensures.told in
    ran_one g.S.Executor.sure_store c.args.telling.style c.args.number old new c.args.point.listed.items c.args.statement.now c.execute-outcome.result account c.news_after-news.result
    c.args.point.tally c.with-counted.result (g.W.Sink.state c.args.writer.now) (g.W.Sink.state c.write_statement-written.new.writer)
    c.execute-outcome.ensures.step
    (sure_of g.S.Executor.sure_store old c.args.statement.now c.execute-outcome.result c.execute-outcome.ensures.sure c.execute-outcome.ensures.sure_store)
    told
    (subst (λ (b : Bool). AreNews (c.args.telling.style.explain && is_open new) b c.args.point.listed.items new c.news_after-news.result) c.is_refused-refused.ensures c.news_after-news.ensures.news)
    c.in_ok-written.ensures
    c.with-counted.ensures.accepted c.with-counted.ensures.refused c.with-counted.ensures.memory_refused
    (c.with-counted.ensures.untold ∙ ap (λ b. c.args.point.tally.untold + (if b then 1 else 0)) c.is_untold-untold.ensures)

pub returns-clause-asked : goal.returns-clause-asked
returns-clause-asked g c =
    asked_stays (g.S.Executor.told c.args.session.now).asked (g.S.Executor.state c.args.session.now) c.args.statement.now c.execute-outcome.result
    (g.S.Executor.told c.execute-outcome.new.self) c.execute-outcome.ensures.told

pub returns-in_err-written-clause-asked : goal.returns-in_err-written-clause-asked
returns-in_err-written-clause-asked g c =
    asked_stays (g.S.Executor.told c.args.session.now).asked (g.S.Executor.state c.args.session.now) c.args.statement.now c.execute-outcome.result
    (g.S.Executor.told c.execute-outcome.new.self) c.execute-outcome.ensures.told
