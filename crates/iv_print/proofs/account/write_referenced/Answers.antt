use Rattle.std.proofs.Common.{◌++◌, codes, slice_get, subst}
use Rattle.iv_key.specs.Keys.{key_of}
use Rattle.iv_text.specs.Writing.{Writes}
use Rattle.iv_print.specs.AccountLines.{table_name, listed_text}
use Rattle.iv_text.proofs.WriteLemmas.{writes_then}
use Rattle.iv_print.proofs.account.write_referenced.Goals as goal

pub returns : goal.returns
returns g c =
    let table = table_name (slice_get c.args.catalogue.now.tables c.args.key.now.referenced) in
    let values = listed_text (key_of c.args.key.now.columns c.args.values.now) in
    let first = g.W.Sink.state c.write_all.new.sink in
    let second = g.W.Sink.state c.write_table.new.sink in
    let third = g.W.Sink.state c.write_listed_columns.new.sink in
    writes_then (g.W.Sink.state c.args.sink.now) first third c.write_listed_columns.result (codes " refers to ") (table ++ values)
    c.in_ok-write_all.ensures
    (writes_then first second third c.write_listed_columns.result table values
    c.in_ok-write_table.ensures
    (subst (λ k. Writes second third c.write_listed_columns.result (listed_text (key_of k c.args.values.now))) c.as_slice.ensures
    c.write_listed_columns.ensures))
