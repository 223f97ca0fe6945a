use Rattle.std.proofs.Common.{◌≡◌, ◌++◌, drop}
use Rattle.iv_restate.specs.Statements.{elements_of}
use Rattle.iv_restate.proofs.tables.elements_of.Given as goal

abbrev pub invariant-loop-column : goal.invariant-loop-column
invariant-loop-column l = record {
  place : l.place ≡ l.column-index;
  all : l.elements ++ elements_of l.fn.tables l.place (drop l.column-index l.columns) l.left ≡ elements_of l.fn.tables 0 l.columns l.fn.constraints;
}
