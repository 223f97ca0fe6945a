use Rattle.std.proofs.Common.{◌++◌, codes, subst}
use Rattle.iv_text.specs.Writing.{Writes}
use Rattle.iv_text.specs.Lines.{row_number_text}
use Rattle.iv_print.specs.AccountLines.{listed_text}
use Rattle.iv_text.proofs.WriteLemmas.{writes_then}
use Rattle.iv_print.proofs.account.write_equal.Goals as goal

pub returns : goal.returns
returns g c =
    let row = row_number_text c.args.other.now.number in
    let values = listed_text c.args.other.now.values in
    let first = g.W.Sink.state c.write_all.new.sink in
    let second = g.W.Sink.state c.write_row_number.new.sink in
    let third = g.W.Sink.state c.write_listed.new.sink in
    writes_then (g.W.Sink.state c.args.sink.now) first third c.write_listed.result (codes " has the key of") (row ++ values)
    c.in_ok-write_all.ensures
    (writes_then first second third c.write_listed.result row values c.in_ok-write_row_number.ensures
    (subst (λ v. Writes second third c.write_listed.result (listed_text v)) c.values.ensures c.write_listed.ensures))
