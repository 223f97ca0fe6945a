-- What the firings of triggers one by one have to do with those of the machine.
use Rattle.std.specs.Prelude.{◌≡◌, ℕ, List}
use Rattle.iv_expr.specs.declared.row.Change.{Change}
use Rattle.iv_expr.specs.declared.wave.TableColumn.{TableColumn}
use Rattle.iv_expr.specs.Changes.{Wave, names_column}
use Rattle.iv_catalogue.specs.declared.plan.DataStatement.{DataStatement}
use Rattle.iv_machine.specs.Context.{Context}
use Rattle.iv_machine.specs.Levels.{firings}
use Rattle.iv_exec_triggers.specs.ByTable.{ByTableAndEvent, all_firings}

-- The firings on transitions by table and event are the machine's on the net changes.
abbrev pub FiringsAreTheMachines : Type 0
FiringsAreTheMachines =
    (context : Context) (statement : DataStatement) (columns : List TableColumn) (parts : List (List Change)) (net : Wave)
    → ByTableAndEvent parts net.changes → all_firings statement columns parts context.schema.triggers ≡ firings context statement columns net

-- Two lists that name the same columns fire the same.
abbrev pub FiringsAreByName : Type 0
FiringsAreByName =
    (context : Context) (statement : DataStatement) (columns others : List TableColumn) (net : Wave)
    → ((table column : ℕ) → names_column columns table column ≡ names_column others table column)
    → firings context statement columns net ≡ firings context statement others net
