use Rattle.std.proofs.Common.{subst, Ok}
use Rattle.iv_parse_terms.specs.Reading.{Reads}
use Rattle.iv_parse_data.proofs.Loops.{amid_start, amid_told, amid_end, amid_next, amid_fewer}
use Rattle.iv_parse_data.proofs.repeated.sequence.Goals as goal

pub loop-items-init : goal.loop-items-init
loop-items-init g c = amid_start g.T.ParseSome.found_some c.args.cursor.now c.new-items.result c.new-items.ensures

pub returns-in_err-item : goal.returns-in_err-item
returns-in_err-item g c =
    amid_told g.T.ParseSome.found_some c.args.cursor.now c.loop-items.cursor c.parse_some.new.cursor c.loop-items.items c.from_residual.result c.in_err-item.field-0.0
    c.loop-items.invariant c.in_err-item.ensures c.from_residual.ensures

pub returns-in_default : goal.returns-in_default
returns-in_default g c =
    amid_end g.T.ParseSome.found_some c.args.cursor.now c.loop-items.cursor c.parse_some.new.cursor c.go_back.new.self c.loop-items.items c.place-place.result
    c.loop-items.invariant (subst (λ x. Reads g.T.ParseSome.found_some c.loop-items.cursor (Ok x) c.parse_some.new.cursor) c.in_default.is c.in_ok-item.ensures) c.place-place.ensures c.go_back.ensures

pub loop-items-preserved : goal.loop-items-preserved
loop-items-preserved g c =
    amid_next g.T.ParseSome.found_some c.args.cursor.now c.loop-items.cursor c.parse_some.new.cursor c.in-Some.item c.loop-items.items c.push.new.self
    c.recall_word.ensures c.loop-items.invariant (subst (λ x. Reads g.T.ParseSome.found_some c.loop-items.cursor (Ok x) c.parse_some.new.cursor) c.in-Some.is c.in_ok-item.ensures) c.in_ok-push.ensures.ok

pub loop-items-smaller : goal.loop-items-smaller
loop-items-smaller g c =
    amid_fewer g.T.ParseSome.found_some c.loop-items.cursor c.parse_some.new.cursor c.in-Some.item c.recall_word.ensures
    (subst (λ x. Reads g.T.ParseSome.found_some c.loop-items.cursor (Ok x) c.parse_some.new.cursor) c.in-Some.is c.in_ok-item.ensures)
