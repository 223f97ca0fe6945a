-- How many keys a call looks up.
use Rattle.std.proofs.Common.{◌≡◌, ℕ, ◌+◌, ◌-◌, ◌*◌, ◌≤◌, Bool, true, false, Result, Ok, Err, refl, sym, ap, subst, ◌∙◌, arith, MatchBool, length}
use Rattle.iv_session.specs.Types.{Statement, Refusal, Answer}
use Rattle.iv_syntax.specs.declared.statement.Statement.TheVariants as statement
use Rattle.iv_catalogue.specs.declared.plan.Plan.{Plan}
use Rattle.iv_catalogue.specs.declared.plan.Plan.TheVariants as plan
use Rattle.iv_catalogue.specs.declared.plan.TransactionPlan.{TransactionPlan}
use Rattle.iv_catalogue.specs.declared.plan.TransactionPlan.TheVariants as transaction
use Rattle.iv_catalogue.specs.Refusals.{is_memory_cause}
use Rattle.iv_machine.specs.Machine.{Occasion, State, Work, always, beginning, inside, occasion_of, outside, plan_occasion}
use Rattle.iv_laws_rows.specs.Changing.{UnlessMemory}
use Rattle.iv_store.specs.Lookups.{most_lookups_for_a_change}
use Rattle.iv_state.specs.Kept.{Seen}
use Rattle.iv_state.specs.Looking.{LookedUp, LooksUpFew, is_definition}
use Rattle.iv_session.specs.FewLookups.{FewLookups, defines_schema}

-- ---- what doesn't change the schema has a plan that doesn't

abbrev is_outside : Occasion → Bool
is_outside outside = true
is_outside beginning = false
is_outside inside = false
is_outside always = false

defined_outside : (st : Statement) → is_outside (occasion_of st) ≡ defines_schema st
defined_outside (statement.CreateTable name elements) = refl
defined_outside (statement.AlterTable name k) = refl
defined_outside (statement.CreateTrigger t) = refl
defined_outside (statement.DropTrigger name) = refl
defined_outside (statement.Insert i) = refl
defined_outside (statement.Update u) = refl
defined_outside (statement.Delete d) = refl
defined_outside (statement.Select s) = refl
defined_outside statement.StartTransaction = refl
defined_outside statement.Commit = refl
defined_outside statement.Rollback = refl
defined_outside (statement.Savepoint name) = refl
defined_outside (statement.Release name) = refl
defined_outside (statement.RollbackTo name) = refl
defined_outside (statement.SetConstraints l m) = refl

control_outside : (t : TransactionPlan) → false ≡ is_outside (plan_occasion (plan.Transaction t))
control_outside transaction.Start = refl
control_outside transaction.Commit = refl
control_outside transaction.Rollback = refl
control_outside (transaction.Savepoint name) = refl
control_outside (transaction.Release name) = refl
control_outside (transaction.RollbackTo name) = refl
control_outside (transaction.SetConstraints ids m) = refl

planned_outside : (p : Plan) → is_definition p ≡ is_outside (plan_occasion p)
planned_outside (plan.Schema q) = refl
planned_outside (plan.Change d) = refl
planned_outside (plan.Query q) = refl
planned_outside (plan.Transaction t) = control_outside t

pub no_definition : (p : Plan) (st : Statement) → plan_occasion p ≡ occasion_of st → defines_schema st ≡ false → is_definition p ≡ false
no_definition p st same h = planned_outside p ∙ ap is_outside same ∙ defined_outside st ∙ h

-- ---- few look-ups

-- what follows from what holds unless an allocation failed holds then too
unless_then : {P Q : Type 0} (r : Result Answer Refusal) → (P → Q) → UnlessMemory r P → UnlessMemory r Q
unless_then (Ok a) f h = f h
unless_then {P = P} {Q = Q} (Err r) f h = by (is_memory_cause r.cause) h where
  by : (b : Bool) → MatchBool b (Unit {0}) P → MatchBool b (Unit {0}) Q
  by true h = tt
  by false h = f h

-- by a call that began with the same schema and the same count
pub few_from : (r : Result Answer Refusal) (old other new : Seen) → other.state ≡ old.state → other.looked_up ≡ old.looked_up
    → UnlessMemory r (LooksUpFew other new) → UnlessMemory r (LooksUpFew old new)
few_from r old other new e f h =
    subst (λ (s : State). UnlessMemory r (LookedUp (length s.schema.constraints) new.work old.looked_up new.looked_up)) e
    (subst (λ (n : ℕ). UnlessMemory r (LookedUp (length other.state.schema.constraints) new.work n new.looked_up)) f h)

grown : (before after k lookups : ℕ) → after ≤ before + k → lookups ≡ after - before → lookups ≤ k
grown before after k lookups h e = omega (arith, h, e)

-- what a call is said to have looked up is by how much the count grew
pub few_grown : (old new : Seen) → LooksUpFew old new → new.lookups ≡ new.looked_up - old.looked_up → FewLookups old.state new
few_grown old new h e = grown old.looked_up new.looked_up (most_lookups_for_a_change * length old.state.schema.constraints * (new.work.changes + new.work.undone)) new.lookups h e

-- the same, if it is said after the call
pub few_counted : (r : Result Answer Refusal) (old ran new : Seen) → UnlessMemory r (LooksUpFew old ran) → new.lookups ≡ ran.looked_up - old.looked_up → new.work ≡ ran.work
    → UnlessMemory r (FewLookups old.state new)
few_counted r old ran new h e w =
    unless_then r
    (λ (few : LooksUpFew old ran). subst (λ (x : Work). new.lookups ≤ most_lookups_for_a_change * length old.state.schema.constraints * (x.changes + x.undone)) (sym w)
    (grown old.looked_up ran.looked_up (most_lookups_for_a_change * length old.state.schema.constraints * (ran.work.changes + ran.work.undone)) new.lookups few e)) h
