use Rattle.iv_store_following.specs.Turns.{AllGiven}
use Rattle.iv_store_following.proofs.giving.give_back.Given as goal

abbrev pub invariant-loop : goal.invariant-loop
invariant-loop l = record {
  given : AllGiven l.fn.groups l.groups l.fn.violating l.violating;
}
