use Rattle.std.proofs.Common.{subst, sym}
use Rattle.iv_account.specs.declared.failure.RowAtHand.{RowAtHand}
use Rattle.iv_print.specs.AccountLines.{evaluated_text}
use Rattle.iv_text.specs.Writing.{Writes}
use Rattle.iv_text.proofs.WriteLemmas.{writes_then}
use Rattle.iv_print.proofs.failure.write_evaluated.Goals as goal

pub returns-in_ok-write_numbered-in-Row : goal.returns-in_ok-write_numbered-in-Row
returns-in_ok-write_numbered-in-Row g c =
    let s0 = g.W.Sink.state c.args.sink.now in
    let s4 = g.W.Sink.state c.write_listed.new.sink in
    subst (λ (h : RowAtHand). Writes s0 s4 c.write_listed.result (evaluated_text c.args.catalogue.now c.args.part h)) (sym c.in-Row.is)
    (writes_then _ _ _ _ _ _ c.in_ok-write_part-in-Row.ensures
    (writes_then _ _ _ _ _ _ c.in_ok-write_all-in-Row.ensures
    (writes_then _ _ _ _ _ _ c.in_ok-write_numbered-in-Row.ensures (rw c.values.ensures at c.write_listed.ensures))))

pub returns-in_ok-write_numbered-in-Source : goal.returns-in_ok-write_numbered-in-Source
returns-in_ok-write_numbered-in-Source g c =
    let s0 = g.W.Sink.state c.args.sink.now in
    let s4 = g.W.Sink.state c.write_listed-in-Source.new.sink in
    subst (λ (h : RowAtHand). Writes s0 s4 c.write_listed-in-Source.result (evaluated_text c.args.catalogue.now c.args.part h)) (sym c.in-Source.is)
    (writes_then _ _ _ _ _ _ c.in_ok-write_part_in_table-in-Source.ensures
    (writes_then _ _ _ _ _ _ c.in_ok-write_all-in-Source.ensures
    (writes_then _ _ _ _ _ _ c.in_ok-write_numbered-in-Source.ensures (rw c.values-in-Source.ensures at c.write_listed-in-Source.ensures))))

pub returns-in_ok-write_side-in-Variables : goal.returns-in_ok-write_side-in-Variables
returns-in_ok-write_side-in-Variables g c =
    let s0 = g.W.Sink.state c.args.sink.now in
    let s3 = g.W.Sink.state c.write_side-in-Variables.new.sink in
    subst (λ (h : RowAtHand). Writes s0 s3 c.write_side-in-Variables.result (evaluated_text c.args.catalogue.now c.args.part h)) (sym c.in-Variables.is)
    (writes_then _ _ _ _ _ _ c.in_ok-write_part_in_table-in-Variables.ensures
    (writes_then _ _ _ _ _ _ c.in_ok-write_side-in-Variables.ensures c.write_side-in-Variables.ensures))
