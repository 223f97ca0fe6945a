use Rattle.std.proofs.Common.{refl, sym, ◌∙◌}
use Rattle.iv_lex.specs.Words.{words}
use Rattle.iv_parse.proofs.Runs.{fewer, run_more, run_ends, no_match, too_deep}
use Rattle.iv_parse.proofs.parser.run.Goals as goal

pub loop-found-smaller : goal.loop-found-smaller
loop-found-smaller c =
    rw (c.place-place.ensures)
    (fewer c.args.text.now c.args.tokens.now (words c.args.text.now c.args.tokens.now) c.loop-found.place c.in-Ok.found c.new-cursor.result c.statement.new.cursor refl c.new-cursor.ensures c.in-Ok.ensures)

pub loop-found-preserved : goal.loop-found-preserved
loop-found-preserved c =
    run_more c.args.text.now c.args.tokens.now (words c.args.text.now c.args.tokens.now) c.loop-found.place c.loop-found.statements c.push.new.self c.in-Ok.found c.new-cursor.result c.statement.new.cursor c.place-place.result
    refl c.loop-found.invariant c.new-cursor.ensures c.in-Ok.ensures c.place-place.ensures c.in_ok-push-in-Ok.ensures.ok

pub returns-in-Err-NoMatch : goal.returns-in-Err-NoMatch
returns-in-Err-NoMatch c =
    run_ends c.args.text.now c.args.tokens.now (words c.args.text.now c.args.tokens.now) c.loop-found.place c.end_of.result.place c.end_of.result.word c.loop-found.statements c.new-cursor.result c.statement.new.cursor c.in-Err-NoMatch.field-0
    refl c.loop-found.invariant (λ q. no_match (sym c.in-Err-NoMatch.field-0-is ∙ q)) c.new-cursor.ensures c.in-Err-NoMatch.ensures c.end_of.ensures.place c.end_of.ensures.word

pub returns-in-Err-TooDeep : goal.returns-in-Err-TooDeep
returns-in-Err-TooDeep c =
    run_ends c.args.text.now c.args.tokens.now (words c.args.text.now c.args.tokens.now) c.loop-found.place c.end_of-in-Err-TooDeep.result.place c.end_of-in-Err-TooDeep.result.word c.loop-found.statements c.new-cursor.result c.statement.new.cursor c.in-Err-TooDeep.field-0
    refl c.loop-found.invariant (λ q. too_deep (sym c.in-Err-TooDeep.field-0-is ∙ q)) c.new-cursor.ensures c.in-Err-TooDeep.ensures c.end_of-in-Err-TooDeep.ensures.place c.end_of-in-Err-TooDeep.ensures.word
