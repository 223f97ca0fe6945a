use Rattle.iv_parse.proofs.Actions.{ends, goes_on, goes_wrong}
use Rattle.iv_parse.proofs.action.ended_action.Goals as goal

pub returns-then-is_at : goal.returns-then-is_at
returns-then-is_at c = ends c.args.cursor.now c.is_at.new.self c.if-is_at.ensures

pub returns-in_err-action : goal.returns-in_err-action
returns-in_err-action c =
    goes_wrong c.args.cursor.now c.is_at.new.self c.with_semicolon.new.cursor c.from_residual.result c.in_err-action.field-0.0 c.if-is_at.ensures c.in_err-action.ensures c.from_residual.ensures

pub returns : goal.returns
returns c = goes_on c.args.cursor.now c.is_at.new.self c.with_semicolon.new.cursor c.in_ok-action.action c.if-is_at.ensures c.in_ok-action.ensures
