-- What an account says of a savepoint that isn't there, and of a constraint that isn't added.
use Rattle.std.specs.Prelude.{◌≡◌, ℕ, true, List, [], ◌∷◌, Some, None, is_some, Ok}
use Rattle.std.specs.List.{list_any}
use Rattle.std.specs.Str.{bytes_eq}
use Rattle.iv_expr.specs.declared.row.StoredRow.{StoredRow}
use Rattle.iv_catalogue.specs.Refusals.{refusal_answer}
use Rattle.iv_catalogue.specs.declared.cause.Cause.TheVariants.{AddRefused}
use Rattle.iv_catalogue.specs.declared.constraint.Constraint.{Constraint}
use Rattle.iv_machine.specs.declared.answer.Answer.{Answer}
use Rattle.iv_machine.specs.Databases.{violates}
use Rattle.iv_machine.specs.Machine.{NamedSavepoint, State, add_constraint_outcome, savepoint_named}
use Rattle.iv_laws_levels.specs.RisingRows.{InOrder}
use Rattle.iv_account.specs.declared.entry.Entry.TheVariants.{Standing, NotAdded}
use Rattle.iv_account.specs.Sessions.{addition_told, savepoint_told}

-- Where no savepoint has the name of the statement, one entry tells others: a name is in it exactly if a savepoint has it.
abbrev pub StandingSavepointsAreTold : Type 0
StandingSavepointsAreTold =
    (s : State) (missing : List ℕ) → savepoint_named missing s.savepoints ≡ None
    → (names : List (List ℕ)) × (savepoint_told s missing ≡ Standing names ∷ [])
    × ((name : List ℕ) → list_any (bytes_eq name) names ≡ is_some (savepoint_named name s.savepoints))

-- Where one has it, nothing is told.
abbrev pub OtherSavepointsAreNotTold : Type 0
OtherSavepointsAreNotTold = (s : State) (name : List ℕ) (named : NamedSavepoint) → savepoint_named name s.savepoints ≡ Some named → savepoint_told s name ≡ []

-- one entry tells the constraint, and first the row of this number, which violates it
pub record ToldOf (s : State) (k : Constraint) (number : ℕ) : Type 0 where
  pub row : StoredRow
  pub others : List StoredRow
  pub told : addition_told s k ≡ NotAdded k (row ∷ others) ∷ []
  pub is_named : row.number ≡ number
  pub violates_it : violates s.database.rows k row ≡ true

-- Where ALTER TABLE is refused for a row, and the rows are in rising number, as they are in every reached state.
abbrev pub RefusedAdditionsAreTold : Type 0
RefusedAdditionsAreTold =
    (s : State) (k : Constraint) (number : ℕ) → InOrder s.database.rows
    → (add_constraint_outcome s k).answer ≡ refusal_answer (AddRefused number) → ToldOf s k number

-- Where the constraint is added, nothing is told.
abbrev pub AcceptedAdditionsAreNotTold : Type 0
AcceptedAdditionsAreNotTold = (s : State) (k : Constraint) (answer : Answer) → (add_constraint_outcome s k).answer ≡ Ok answer → addition_told s k ≡ []
