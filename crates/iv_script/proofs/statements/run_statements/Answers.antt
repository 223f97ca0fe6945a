use Rattle.std.proofs.Common.{◌≡◌, ◌+◌, ◌∷◌, [], rules, arith, length, refl, ap, sym, subst, ◌∙◌}
use Rattle.std.proofs.lemmas.Grind.{common_steps}
use Rattle.iv_step.specs.Pending.{FaultsRise}
use Rattle.iv_script.proofs.Runs.{onward_start, onward_more, onward_end, few_more}
use Rattle.iv_script.proofs.statements.run_statements.Goals as goal

pub loop-statement-init : goal.loop-statement-init
loop-statement-init g c = record {
  counted = omega arith;
  accepted_few = omega arith;
  refused_few = omega arith;
  memory_refusals_few = omega arith;
  untold_few = omega arith;
  asked = c.requires;
  rise = subst FaultsRise (sym c.new-listed.ensures.items) tt;
  onward = onward_start g.S.Executor.sure_store c.args.telling.style (g.S.Executor.state c.args.session.now) _ c.args.statements.now _ (g.W.Sink.state c.args.writer.now) c.new-listed.ensures.items refl refl refl refl;
}

pub loop-statement-preserved : goal.loop-statement-preserved
loop-statement-preserved g c =
    let e : c.loop-statement.rest.now ≡ c.in-Some.statement.now ∷ c.in-Some.others.now = search rules in
    let n : length c.loop-statement.rest.now ≡ length c.in-Some.others.now + 1 = grind (arith, common_steps, e) in
    let style = c.args.telling.style in
    let ran = c.in_ok-point.ensures.ran in
    let few = few_more g.S.Executor.sure_store style (c.loop-statement.number + 1) c.loop-statement.number (g.S.Executor.state c.loop-statement.session) (g.S.Executor.state c.run_one.new.session)
    c.loop-statement.point.listed.items c.in_ok-point.point.listed.items c.in-Some.statement.now c.loop-statement.point.tally c.in_ok-point.point.tally
    (g.W.Sink.state c.loop-statement.writer) (g.W.Sink.state c.run_one.new.writer)
    ran c.loop-statement.invariant.accepted_few c.loop-statement.invariant.refused_few c.loop-statement.invariant.memory_refusals_few c.loop-statement.invariant.untold_few in
    record {
      counted = omega (arith, n, c.loop-statement.invariant.counted);
      accepted_few = few.0;
      refused_few = few.1;
      memory_refusals_few = few.2;
      untold_few = few.3;
      asked = c.loop-statement.invariant.asked ∙ sym c.in_ok-point.ensures.asked;
      rise = c.in_ok-point.ensures.rise;
      onward = onward_more g.S.Executor.sure_store style (g.S.Executor.state c.args.session.now) (g.S.Executor.state c.loop-statement.session) (g.S.Executor.state c.run_one.new.session)
          c.loop-statement.point.listed.items c.in_ok-point.point.listed.items c.args.statements.now c.loop-statement.rest.now c.in-Some.others.now c.in-Some.statement.now
          c.loop-statement.number c.loop-statement.point.tally c.in_ok-point.point.tally
          (g.W.Sink.state c.args.writer.now) (g.W.Sink.state c.loop-statement.writer) (g.W.Sink.state c.run_one.new.writer)
          c.loop-statement.invariant.onward e ran;
    }

pub returns : goal.returns
returns g c =
    let e : c.loop-statement.rest.now ≡ [] = grind (arith, common_steps, c.in_default.ensures.cases) in
    onward_end g.S.Executor.sure_store c.args.telling.style (g.S.Executor.state c.args.session.now) (g.S.Executor.state c.loop-statement.session) c.loop-statement.point.listed.items
    c.args.statements.now c.loop-statement.rest.now c.loop-statement.number c.loop-statement.point.tally
    (g.W.Sink.state c.args.writer.now) (g.W.Sink.state c.loop-statement.writer)
    c.loop-statement.invariant.onward e (omega (arith, c.loop-statement.invariant.counted, ap length e))
