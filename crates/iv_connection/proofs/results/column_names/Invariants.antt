use Rattle.std.proofs.Common.{◌≡◌, ◌++◌, ◌-◌}
use Rattle.std.specs.Prelude.{map}
use Rattle.iv_connection.specs.OutcomeLines.{executed}
use Rattle.iv_connection.specs.Results.{names_from}
use Rattle.iv_connection.proofs.results.column_names.Given as goal

abbrev pub invariant-loop-place : goal.invariant-loop-place
invariant-loop-place l =
    map (λ name. name.items) l.names.items
    ++ names_from l.connection.session.state.schema (executed l.connection.statements l.connection.executed) l.place (l.count - l.place)
    ≡ names_from l.connection.session.state.schema (executed l.connection.statements l.connection.executed) 0 l.count
