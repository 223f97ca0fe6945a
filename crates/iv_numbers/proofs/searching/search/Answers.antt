use Rattle.iv_numbers.proofs.RowsFound.{not_falling, stands_last}
use Rattle.std.proofs.Common.{arith}
use Rattle.std.proofs.lemmas.List.Sorted.{searched}
use Rattle.iv_numbers.proofs.searching.search.Goals as goal

pub returns-then-is_at : goal.returns-then-is_at
returns-then-is_at c =
    let here = c.is_at.ensures c.if-is_at.true in
    record { stands = here; within = here.0 }

pub returns-then-is_beyond : goal.returns-then-is_beyond
returns-then-is_beyond c =
    record {
      stands = stands_last c.args.rows.now c.args.row c.requires (c.is_beyond.ensures c.if-is_beyond.true);
      within = omega arith;
    }

pub returns : goal.returns
returns c = record {
  stands = searched c.args.rows.now c.args.row c.binary_search.result c.binary_search.ensures.position (not_falling c.args.rows.now c.requires);
  within = c.binary_search.ensures.bound;
}
