use Rattle.std.proofs.Common.{subst, sym}
use Rattle.iv_account.specs.declared.failure.EvaluatedFor.{EvaluatedFor}
use Rattle.iv_print.specs.AccountLines.{part_name}
use Rattle.iv_text.specs.Writing.{Writes}
use Rattle.iv_text.proofs.WriteLemmas.{writes_then}
use Rattle.iv_print.proofs.failure.write_part.Goals as goal

pub returns-in_ok-write_all-in-Item : goal.returns-in_ok-write_all-in-Item
returns-in_ok-write_all-in-Item g c =
    let s0 = g.W.Sink.state c.args.sink.now in
    let s2 = g.W.Sink.state c.write_number.new.sink in
    subst (λ (p : EvaluatedFor). Writes s0 s2 c.write_number.result (part_name c.args.catalogue.now p)) (sym c.in-Item.is)
    (writes_then _ _ _ _ _ _ c.in_ok-write_all-in-Item.ensures c.write_number.ensures)
