use Rattle.std.proofs.Common.{ℕ, codes, slice_get, subst}
use Rattle.iv_text.specs.Writing.{Writes}
use Rattle.iv_print.specs.AccountLines.{column_name_in}
use Rattle.iv_text.proofs.WriteLemmas.{writes_then}
use Rattle.iv_print.proofs.account.write_null.Goals as goal

pub returns : goal.returns
returns g c =
    let s0 = g.W.Sink.state c.args.sink.now in
    let s1 = g.W.Sink.state c.write_all.new.sink in
    let s2 = g.W.Sink.state c.write_column.new.sink in
    let r = c.write_column.result in
    writes_then s0 s1 s2 r (codes " has NULL in ") _ c.in_ok-write_all.ensures
    (subst (λ (n : ℕ). Writes s1 s2 r (column_name_in (slice_get c.args.catalogue.now.tables c.args.table) n)) c.from.ensures c.write_column.ensures)
