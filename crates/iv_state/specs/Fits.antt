-- When a plan fits the state of a session: it may run now, and what it adds suits the schema.
use Rattle.std.specs.Prelude.{◌≡◌, ◌≤◌, ◌<◌, true, false, length, None}
use Rattle.iv_catalogue.specs.Catalogues.{Schema, after, has_trigger}
use Rattle.iv_catalogue.specs.declared.limits.TheConstants.{MOST_BODY_STATEMENTS, MOST_TRIGGERS, MOST_TRIGGERS_EVER}
use Rattle.iv_state.specs.Types.{Plan, SchemaPlan, Trigger, Refusal}
use Rattle.iv_state.specs.Types.plan
use Rattle.iv_state.specs.Types.schema
use Rattle.iv_state.specs.Types.cause.{AddRefused}
use Rattle.iv_catalogue.specs.Refusals.{out_of_memory, refusal_of}
use Rattle.iv_store.specs.declared.fault.AddFault.{AddFault}
use Rattle.iv_store.specs.declared.fault.AddFault.TheVariants as fault
use Rattle.iv_machine.specs.Machine.{State, is_open, transaction_cause, transaction_occasion}
use Rattle.iv_laws_fitting.specs.ConstraintShapes.{ConstraintFits, SchemaSuits, TableFits}
use Rattle.iv_laws_fitting.specs.PlanShapes.{data_suits, plain_shape}

-- All holds that adding a trigger to the catalogue asks for.
pub record TriggerFits (c : Schema) (t : Trigger) : Type 0 where
  pub room : length c.triggers < MOST_TRIGGERS
  pub ever : c.created < MOST_TRIGGERS_EVER
  pub short : length t.body ≤ MOST_BODY_STATEMENTS
  pub free : has_trigger c t.name ≡ false

abbrev pub AdditionFits : Schema → SchemaPlan → Type 0
AdditionFits c (schema.CreateTable table constraints) = TableFits c table constraints
AdditionFits c (schema.AddConstraint k) = ConstraintFits c k
AdditionFits c (schema.CreateTrigger t) = TriggerFits c t
AdditionFits c (schema.DropTrigger id) = Unit {0}

-- No transaction is open, what is added fits, and the schema after it suits its tables.
pub record SchemaFits (s : State) (p : SchemaPlan) : Type 0 where
  pub outside : is_open s ≡ false
  pub addition : AdditionFits s.schema p
  pub suits : SchemaSuits (after s.schema p)

abbrev pub PlanFits : State → Plan → Type 0
PlanFits s (plan.Schema p) = SchemaFits s p
PlanFits s (plan.Change d) = data_suits s.schema.tables (plain_shape s.schema.tables) d ≡ true
PlanFits s (plan.Query q) = Unit {0}
PlanFits s (plan.Transaction t) = transaction_cause (is_open s) (transaction_occasion t) ≡ None

-- the refusal of a constraint that isn't added
abbrev pub adding_refusal : AddFault → Refusal
adding_refusal (fault.Row n) = refusal_of (AddRefused n)
adding_refusal fault.NoMemory = out_of_memory
