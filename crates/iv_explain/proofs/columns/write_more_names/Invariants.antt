use Rattle.std.proofs.Common.{length, map}
use Rattle.std.specs.List.{flat_map}
use Rattle.iv_catalogue.specs.declared.catalogue.Column.{Column}
use Rattle.iv_explain.specs.Columns.{further_in}
use Rattle.iv_text.proofs.WriteLemmas.{Wrote}
use Rattle.iv_explain.proofs.columns.write_more_names.Given as goal

abbrev pub invariant-loop-column : goal.invariant-loop-column
invariant-loop-column g l =
    Wrote (flat_map (further_in l.fn.format) (map {A = Column} (λ c. c.name) l.fn.columns)) (flat_map (further_in l.fn.format) (map {A = Column} (λ c. c.name) l.rest)) (g.W.Sink.state l.initial.writer) (g.W.Sink.state l.writer)

abbrev pub decreases-loop-column : goal.decreases-loop-column
decreases-loop-column g l = length l.rest
