use Rattle.std.proofs.Common.{subst, Ok}
use Rattle.iv_parse_terms.specs.Reading.{Reads}
use Rattle.iv_parse.specs.readers.Triggers.{read_ended_action}
use Rattle.iv_parse_data.proofs.Loops.{amid_start, amid_told, amid_end, amid_next, amid_fewer}
use Rattle.iv_parse.proofs.Actions.{action_takes}
use Rattle.iv_parse.proofs.action.actions.Goals as goal

pub loop-items-init : goal.loop-items-init
loop-items-init c = amid_start read_ended_action c.args.cursor.now c.new-items.result c.new-items.ensures

pub returns-in_err-item : goal.returns-in_err-item
returns-in_err-item c =
    amid_told read_ended_action c.args.cursor.now c.loop-items.cursor c.ended_action.new.cursor c.loop-items.items c.from_residual.result c.in_err-item.field-0.0
    c.loop-items.invariant c.in_err-item.ensures c.from_residual.ensures

pub returns-in_default : goal.returns-in_default
returns-in_default c =
    amid_end read_ended_action c.args.cursor.now c.loop-items.cursor c.ended_action.new.cursor c.go_back.new.self c.loop-items.items c.place-place.result
    c.loop-items.invariant (subst (λ x. Reads read_ended_action c.loop-items.cursor (Ok x) c.ended_action.new.cursor) c.in_default.is c.in_ok-item.ensures) c.place-place.ensures c.go_back.ensures

pub loop-items-preserved : goal.loop-items-preserved
loop-items-preserved c =
    amid_next read_ended_action c.args.cursor.now c.loop-items.cursor c.ended_action.new.cursor c.in-Some.item c.loop-items.items c.push.new.self
    action_takes c.loop-items.invariant (subst (λ x. Reads read_ended_action c.loop-items.cursor (Ok x) c.ended_action.new.cursor) c.in-Some.is c.in_ok-item.ensures) c.in_ok-push.ensures.ok

pub loop-items-smaller : goal.loop-items-smaller
loop-items-smaller c =
    amid_fewer read_ended_action c.loop-items.cursor c.ended_action.new.cursor c.in-Some.item action_takes
    (subst (λ x. Reads read_ended_action c.loop-items.cursor (Ok x) c.ended_action.new.cursor) c.in-Some.is c.in_ok-item.ensures)
