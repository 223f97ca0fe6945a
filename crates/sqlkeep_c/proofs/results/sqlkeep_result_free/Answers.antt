use Rattle.sqlkeep_c.proofs.results.sqlkeep_result_free.Goals as goal

pub returns-in-Some-clause-freed : goal.returns-in-Some-clause-freed
returns-in-Some-clause-freed c = c.in-Some.ensures.left
