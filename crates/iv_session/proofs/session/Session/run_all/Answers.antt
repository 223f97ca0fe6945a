use Rattle.std.proofs.Common.{◌≡◌, ◌+◌, [], ◌∷◌, rules, arith, length, sym, subst}
use Rattle.std.proofs.lemmas.Grind.{common_steps}
use Rattle.iv_session.proofs.AllRan.{Ran, ran_none, ran_more}
use Rattle.iv_session.proofs.EachExecuted.{Went, went_all, went_more, went_none}
use Rattle.iv_session.proofs.session.Session.run_all.Goals as goal

pub loop-statement-init : goal.loop-statement-init
loop-statement-init g c = record {
  room = search rules;
  ran = subst (Ran c.args.self.now.state c.args.self.now.state c.args.statements.now c.args.statements.now) (search rules) (ran_none c.args.self.now.state c.args.statements.now);
  went = subst (Went g.K.Keeper.sure c.args.self.now c.args.self.now c.args.statements.now c.args.statements.now) (search rules) (went_none g.K.Keeper.sure c.args.self.now c.args.statements.now);
}

pub loop-statement-preserved : goal.loop-statement-preserved
loop-statement-preserved g c =
    let e : c.loop-statement.rest.now ≡ c.in-Some.statement.now ∷ c.in-Some.others.now = search rules in
    let n : length c.loop-statement.rest.now ≡ length c.in-Some.others.now + 1 = grind (arith, common_steps, e) in
    record {
      room = omega (arith, n, c.loop-statement.invariant.room, c.push_reserved.ensures.len, c.push_reserved.ensures.capacity);
      ran = subst (Ran c.args.self.now.state c.execute.new.self.state c.args.statements.now c.in-Some.others.now) (sym c.push_reserved.ensures.items)
          (ran_more c.args.self.now.state c.loop-statement.self.state c.execute.new.self.state c.args.statements.now c.loop-statement.rest.now c.in-Some.others.now
          c.in-Some.statement.now c.loop-statement.outcomes.items c.execute.result c.loop-statement.invariant.ran e c.execute.ensures.step);
      went = subst (Went g.K.Keeper.sure c.args.self.now c.execute.new.self c.args.statements.now c.in-Some.others.now) (sym c.push_reserved.ensures.items)
          (went_more g.K.Keeper.sure c.args.self.now c.loop-statement.self c.execute.new.self c.args.statements.now c.loop-statement.rest.now c.in-Some.others.now
          c.in-Some.statement.now c.loop-statement.outcomes.items c.execute.result c.loop-statement.invariant.went e (record {
            step_is = c.execute.ensures.step;
            sure = c.execute.ensures.sure;
            sure_store = c.execute.ensures.sure_store;
            work = c.execute.ensures.work;
            lookups = c.execute.ensures.lookups;
            bounded = c.execute.ensures.bounded;
            told = c.execute.ensures.told;
          }));
    }

pub returns-clause-each : goal.returns-clause-each
returns-clause-each g c =
    let e : c.loop-statement.rest.now ≡ [] = grind (arith, common_steps, c.in_default.ensures.cases) in
    went_all g.K.Keeper.sure c.args.self.now c.loop-statement.self c.args.statements.now c.loop-statement.rest.now c.loop-statement.outcomes.items
    c.loop-statement.invariant.went e
