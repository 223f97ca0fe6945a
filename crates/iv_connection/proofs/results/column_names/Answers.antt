use Rattle.std.proofs.Common.{◌≡◌, ◌+◌, ◌-◌, ◌∙◌, [], ◌∷◌, ◌++◌, ap, unwrap_or}
use Rattle.std.specs.Prelude.{map}
use Rattle.iv_connection.specs.OutcomeLines.{executed}
use Rattle.iv_connection.specs.Results.{names_from}
use Rattle.iv_connection.proofs.ResultProofs.{names_more}
use Rattle.iv_connection.proofs.results.column_names.Goals as goal

pub loop-place-preserved : goal.loop-place-preserved
loop-place-preserved c =
    let s = c.args.connection.now.session.state.schema in
    let st = executed c.args.connection.now.statements c.args.connection.now.executed in
    ap (λ names. map (λ name. name.items) names ++ names_from s st (c.loop-place.place + 1) (c.args.count - (c.loop-place.place + 1))) c.in_ok-push.ensures.items
    ∙ names_more (λ name. name.items) s st c.loop-place.names.items c.in_ok-name.name c.loop-place.place c.args.count (names_from s st 0 c.args.count)
    c.loop-place-test.true (c.in_ok-name.ensures ∙ ap (λ o. unwrap_or o []) c.query_column.ensures) c.loop-place.invariant
