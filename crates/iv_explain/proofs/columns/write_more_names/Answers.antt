use Rattle.std.proofs.Common.{◌≡◌, ◌∷◌, List, map, rules, ap}
use Rattle.std.specs.List.{flat_map}
use Rattle.iv_catalogue.specs.declared.catalogue.Column.{Column}
use Rattle.iv_explain.specs.Columns.{further_in}
use Rattle.iv_text.proofs.WriteLemmas.{wrote_step}
use Rattle.iv_explain.proofs.columns.write_more_names.Goals as goal

pub loop-column-preserved : goal.loop-column-preserved
loop-column-preserved g c =
    let e : c.loop-column.rest.now ≡ c.in-Some.column.now ∷ c.in-Some.others.now = search rules in
    let f = c.args.format in
    wrote_step (flat_map (further_in f) (map {A = Column} (λ c. c.name) c.args.columns.now)) (further_in f c.in-Some.column.now.name) (flat_map (further_in f) (map {A = Column} (λ c. c.name) c.in-Some.others.now)) (flat_map (further_in f) (map {A = Column} (λ c. c.name) c.loop-column.rest.now))
    (g.W.Sink.state c.args.writer.now) (g.W.Sink.state c.loop-column.writer) (g.W.Sink.state c.write_further_name.new.writer)
    c.loop-column.invariant (ap (λ (l : List Column). flat_map (further_in f) (map {A = Column} (λ c. c.name) l)) e) c.in_ok-write_further_name.ensures
