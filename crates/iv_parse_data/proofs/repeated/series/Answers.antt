use Rattle.iv_parse_data.proofs.Loops.{begun, next, ended, series_told, fewer}
use Rattle.iv_lex.specs.declared.kind.TokenKind.TheVariants as kind
use Rattle.iv_parse_data.proofs.repeated.series.Goals as goal

pub loop-cursor-init : goal.loop-cursor-init
loop-cursor-init g c =
    begun g.T.Parse.found c.args.cursor.now c.parse.new.cursor c.in_ok-first.first _ c.push.new.self c.new-items.ensures c.in_ok-push.ensures.ok c.in_ok-first.ensures

pub returns-in_err-item : goal.returns-in_err-item
returns-in_err-item g c =
    series_told g.T.Parse.found c.args.cursor.now c.loop-cursor.cursor c.accept_in_place.new.self c.parse-in-loop-cursor.new.cursor c.loop-cursor.items c.from_residual-in_err-item.result c.in_err-item.field-0.0
    c.loop-cursor.invariant c.loop-cursor-test.ensures c.in_err-item.ensures c.from_residual-in_err-item.ensures

pub loop-cursor-smaller : goal.loop-cursor-smaller
loop-cursor-smaller g c =
    fewer g.T.Parse.found c.loop-cursor.cursor c.accept_in_place.new.self c.parse-in-loop-cursor.new.cursor kind.Comma c.parse-in-loop-cursor.result c.loop-cursor-test.ensures c.parse-in-loop-cursor.ensures

pub loop-cursor-preserved : goal.loop-cursor-preserved
loop-cursor-preserved g c =
    next g.T.Parse.found c.args.cursor.now c.loop-cursor.cursor c.accept_in_place.new.self c.parse-in-loop-cursor.new.cursor c.in_ok-item.item c.loop-cursor.items c.push-in-loop-cursor.new.self
    c.loop-cursor.invariant c.loop-cursor-test.ensures c.in_ok-item.ensures c.in_ok-push-2.ensures.ok

pub returns : goal.returns
returns g c =
    ended g.T.Parse.found c.args.cursor.now c.loop-cursor.cursor c.accept_in_place.new.self c.loop-cursor.items c.loop-cursor.invariant c.loop-cursor-test.ensures
