-- The states that resolved statements reach, whatever constraints, modes, savepoints and triggers there are.
use Rattle.std.specs.Prelude.{ℕ, ◌<◌, List, [], ◌∷◌, length}
use Rattle.iv_catalogue.specs.Catalogues.{AllOn, Schema}
use Rattle.iv_laws_levels.specs.Types.{BodyStatement, Plan, SchemaPlan}
use Rattle.iv_laws_levels.specs.Types.body
use Rattle.iv_laws_levels.specs.Types.plan
use Rattle.iv_laws_levels.specs.Types.schema
use Rattle.iv_machine.specs.Bounds.{Bounds}
use Rattle.iv_machine.specs.Laws.{IsSound}
use Rattle.iv_machine.specs.Machine.{State, Outcome, empty_state, is_open, transaction_cause, plan_occasion, outcome_unless, plan_outcome}
use Rattle.iv_machine.specs.Proposals.{table_of}

-- ---- what resolution sees to: the tables that are changed are there, and the constraints of a new table are on it

abbrev pub IsThere : Schema → ℕ → Type 0
IsThere c table = table < length c.tables

abbrev pub BodyFits : Schema → List BodyStatement → Type 0
BodyFits c [] = Unit {0}
BodyFits c (body.Data statement ∷ rest) = IsThere c (table_of statement) × BodyFits c rest
BodyFits c (_ ∷ rest) = BodyFits c rest

abbrev pub SchemaPlanFits : Schema → SchemaPlan → Type 0
SchemaPlanFits c (schema.CreateTable table constraints) = AllOn (length c.tables) constraints
SchemaPlanFits c (schema.CreateTrigger t) = BodyFits c t.body
SchemaPlanFits c _ = Unit {0}

abbrev pub FitsSchema : Schema → Plan → Type 0
FitsSchema c (plan.Schema p) = SchemaPlanFits c p
FitsSchema c (plan.Change statement) = IsThere c (table_of statement)
FitsSchema c _ = Unit {0}

-- ---- resolved statements one after another

-- what a resolved statement does, or why it is refused for the transaction that is open or isn't
abbrev pub planned : State → Plan → Outcome
planned s p = outcome_unless s (transaction_cause (is_open s) (plan_occasion p)) (plan_outcome s p)

-- the state after resolved statements, in their order
abbrev pub reached : State → List Plan → State
reached s [] = s
reached s (p ∷ plans) = reached (planned s p).state plans

-- each fits the catalogue that it comes to
abbrev pub AllFit : State → List Plan → Type 0
AllFit s [] = Unit {0}
AllFit s (p ∷ plans) = FitsSchema s.schema p × AllFit (planned s p).state plans

-- In every state that resolved statements reach from an empty one no immediate constraint is violated, and outside a transaction
-- none at all; there modes are initial; rows have rising numbers below the next one.
abbrev pub PlannedStatesAreSound : Type 0
PlannedStatesAreSound = (limits : Bounds) (plans : List Plan) → AllFit (empty_state limits) plans → IsSound (reached (empty_state limits) plans)
