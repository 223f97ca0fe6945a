use Rattle.std.proofs.Common.{◌∙◌, arith, sym, unwrap_or}
use Rattle.iv_catalogue.specs.Names.{generated_name}
use Rattle.iv_resolve_tables.specs.Unread.{left_seen}
use Rattle.iv_resolve_tables.specs.Seen.{constraint_seen}
use Rattle.iv_resolve_name_faults.proofs.InPlace.{one_differs}
use Rattle.iv_resolve_name_faults.proofs.constraints_again.comes_before.Goals as goal

pub loop-other-preserved : goal.loop-other-preserved
loop-other-preserved c = record {
  small = let h = c.loop-other-test.true in omega (arith, h);
  same =
      c.loop-other.invariant.same
      ∙ one_differs c.args.table.now (unwrap_or c.args.given.now (generated_name c.args.table.now c.args.place)) (constraint_seen c.in-Some.constraint) (left_seen c.loop-other.left)
      (left_seen c.in-Some.rest) c.loop-other.other c.args.place c.loop-other-test.true c.in-Some.ensures (sym c.are_same.ensures ∙ c.if-are_same.false);
}
