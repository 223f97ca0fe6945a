use Rattle.iv_connection.proofs.statements.execute_at.Goals as goal

pub returns-in-Some-clause-executed : goal.returns-in-Some-clause-executed
returns-in-Some-clause-executed c =
    rw (← c.in-Some.ensures) (record {
      step_is = c.execute.ensures.step;
      sure = c.execute.ensures.sure;
      sure_store = c.execute.ensures.sure_store;
      work = c.execute.ensures.work;
      lookups = c.execute.ensures.lookups;
      bounded = c.execute.ensures.bounded;
      told = c.execute.ensures.told;
    })
