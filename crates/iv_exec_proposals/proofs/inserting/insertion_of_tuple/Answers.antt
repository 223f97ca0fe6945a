use Rattle.std.proofs.Common.{◌∙◌, List, Result, Ok, map, ap, sym}
use Rattle.iv_value.specs.declared.value.Value.{Value}
use Rattle.iv_expr.specs.declared.row.Change.{Change}
use Rattle.iv_expr.specs.Evaluation.{and_then, value}
use Rattle.iv_catalogue.specs.declared.cause.Cause.{Cause}
use Rattle.iv_machine.specs.Proposals.{insertion, insertion_of}
use Rattle.iv_exec_proposals.specs.Placements.{row_made}
use Rattle.iv_exec_proposals.proofs.Placing.{inserted}
use Rattle.iv_exec_proposals.proofs.Steps.{after_err, told_on}
use Rattle.iv_exec_proposals.proofs.inserting.insertion_of_tuple.Goals as goal

pub returns : goal.returns
returns g c =
    sym (inserted c.args.context.now c.args.table c.args.listed.now (map (value c.args.scope.now) c.args.tuple.now))
    ∙ ap (λ (r : Result (List Value) Cause). and_then r (λ row. Ok (insertion c.args.table row))) c.in_ok-row.ensures
    ∙ ap (λ (x : Change). Ok x) (sym c.insertion.ensures)

pub returns-in_err-row : goal.returns-in_err-row
returns-in_err-row g c =
    told_on _ c.from_residual.result c.in_err-row.field-0.0 _ c.from_residual.ensures.1
    (after_err (insertion_of c.args.context.now c.args.table c.args.listed.now (map (value c.args.scope.now) c.args.tuple.now)) (row_made c.args.context.now c.args.table c.args.listed.now (map (value c.args.scope.now) c.args.tuple.now))
    (λ row. Ok (insertion c.args.table row)) c.in_err-row.field-0.0 (sym (inserted c.args.context.now c.args.table c.args.listed.now (map (value c.args.scope.now) c.args.tuple.now))) c.in_err-row.ensures)
