use Rattle.std.proofs.Common.{List, codes, slice_get, subst, Ok}
use Rattle.iv_catalogue.specs.declared.constraint.Constraint.{Constraint}
use Rattle.iv_text.specs.Lines.{name_of}
use Rattle.iv_text.specs.Writing.{Writes}
use Rattle.iv_text.proofs.WriteLemmas.{writes_then}
use Rattle.iv_print.proofs.conflict.write_later.Goals as goal

pub returns : goal.returns
returns g c =
    let s0 = g.W.Sink.state c.args.sink.now in
    let s1 = g.W.Sink.state c.write_all.new.sink in
    let s2 = g.W.Sink.state c.write_name.new.sink in
    let s3 = g.W.Sink.state c.write_all-2.new.sink in
    let s4 = g.W.Sink.state c.write_value.new.sink in
    let r = c.write_value.result in
    let name = subst (λ (l : List Constraint). Writes s1 s2 (Ok tt) (name_of (slice_get l c.args.constraint))) c.constraints.ensures.constraints c.in_ok-write_name.ensures in
    writes_then s0 s1 s4 r (codes ", where ") _ c.in_ok-write_all.ensures
    (writes_then s1 s2 s4 r (name_of (slice_get c.args.catalogue.now.constraints c.args.constraint)) _ name
    (writes_then s2 s3 s4 r (codes " sets it to ") _ c.in_ok-write_all-2.ensures c.write_value.ensures))
