use Rattle.std.proofs.Common.{◌≡◌, ◌+◌, ◌∷◌, [], rules, arith, length, refl}
use Rattle.std.proofs.lemmas.Grind.{common_steps}
use Rattle.iv_program.proofs.Executed.{onward_start, onward_more, onward_end}
use Rattle.iv_program.proofs.dumping.execute_all.Goals as goal

pub loop-statement-init : goal.loop-statement-init
loop-statement-init g c = record {
  counted = omega arith;
  few = omega arith;
  onward = onward_start (g.X.Executor.state c.args.database.now) c.args.statements.now _ refl;
}

pub loop-statement-preserved : goal.loop-statement-preserved
loop-statement-preserved g c =
    let e : c.loop-statement.rest.now ≡ c.in-Some.statement.now ∷ c.in-Some.others.now = search rules in
    let n : length c.loop-statement.rest.now ≡ length c.in-Some.others.now + 1 = grind (arith, common_steps, e) in
    record {
      counted = omega (arith, n, c.loop-statement.invariant.counted);
      few = omega (arith, c.loop-statement.invariant.few, c.in_ok-refused.ensures.small);
      onward = onward_more (g.X.Executor.state c.args.database.now) (g.X.Executor.state c.loop-statement.database) (g.X.Executor.state c.execute_one.new.database)
          c.args.statements.now c.loop-statement.rest.now c.in-Some.others.now c.in-Some.statement.now c.loop-statement.refused c.in_ok-refused.field-0
          c.loop-statement.invariant.onward e (c.in_ok-refused.ensures.state, c.in_ok-refused.ensures.answer);
    }

pub returns : goal.returns
returns g c =
    let e : c.loop-statement.rest.now ≡ [] = grind (arith, common_steps, c.in_default.ensures.cases) in
    record {
      ran = onward_end (g.X.Executor.state c.args.database.now) (g.X.Executor.state c.loop-statement.database) c.args.statements.now c.loop-statement.rest.now c.loop-statement.refused
          c.loop-statement.invariant.onward e;
      stop = tt {0};
    }
