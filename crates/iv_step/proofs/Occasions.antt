-- A statement and its plan may run on the same occasions.
use Rattle.std.proofs.Common.{◌≡◌, ℕ, false, not, List, Ok, slice_get, refl, sym, ap, ◌∙◌}
use Rattle.iv_syntax.specs.declared.statement.Statement.{Statement}
use Rattle.iv_syntax.specs.declared.statement.Statement.TheVariants as statement
use Rattle.iv_syntax.specs.declared.table.TableConstraint.{TableConstraint}
use Rattle.iv_catalogue.specs.Catalogues.{Schema}
use Rattle.iv_catalogue.specs.declared.plan.Plan.{Plan}
use Rattle.iv_catalogue.specs.declared.plan.Plan.TheVariants as plan
use Rattle.iv_catalogue.specs.declared.plan.TransactionPlan.TheVariants as transaction
use Rattle.iv_machine.specs.Machine.{occasion_of, plan_occasion, outside}
use Rattle.iv_resolution.specs.Bound.{bound, table_id}
use Rattle.iv_resolution.specs.Constraints.{table_constraint}
use Rattle.iv_resolution.specs.Changes.{is_table}
use Rattle.iv_resolution.specs.Items.{table_item}
use Rattle.iv_resolution.specs.NameFaults.{unknown_in_target, unknown_in_rule, told_of_altered}
use Rattle.iv_resolution.specs.Resolution.{resolution}
use Rattle.iv_resolution.specs.Tables.{table_names}
use Rattle.iv_resolution.proofs.Told.{none_parts, untold}
use Rattle.iv_laws_fitting.proofs.Plans.{Accepted, accepted, alteration}
use Rattle.iv_laws_fitting.proofs.Targets.{Target, target_of, target_id}
use Rattle.iv_step.specs.Laws.{PlansKeepTheOccasion}

-- the table that is altered is there
altered_outside : (c : Schema) (name : List ℕ) (k : TableConstraint) (p : Plan) → Accepted c (statement.AlterTable name k) p → plan_occasion p ≡ outside
altered_outside c name k p a =
    let known = none_parts (unknown_in_target (table_names c) name) (told_of_altered c name (λ own. unknown_in_rule c (table_names c) own (table_constraint k).rule)) a.known in
    let t : Target (table_names c).tables name = target_of (table_names c) name (untold (not (is_table (table_names c) name)) (table_item name) known.0) in
    sym (ap plan_occasion
    (sym (ap (alteration c t.place (table_constraint k)) t.there)
    ∙ sym (ap (λ place. alteration c place (table_constraint k) (slice_get c.tables place)) (target_id (table_names c) name t))
    ∙ a.is))

occasion_of_bound : (c : Schema) (p : Plan) (st : Statement) → Accepted c st p → plan_occasion p ≡ occasion_of st
occasion_of_bound c p (statement.AlterTable table k) a = altered_outside c table k p a
occasion_of_bound c p (statement.CreateTable name elements) a = sym (ap plan_occasion a.is)
occasion_of_bound c p (statement.CreateTrigger x) a = sym (ap plan_occasion a.is)
occasion_of_bound c p (statement.DropTrigger name) a = sym (ap plan_occasion a.is)
occasion_of_bound c p (statement.Insert i) a = sym (ap plan_occasion a.is)
occasion_of_bound c p (statement.Update u) a = sym (ap plan_occasion a.is)
occasion_of_bound c p (statement.Delete e) a = sym (ap plan_occasion a.is)
occasion_of_bound c p (statement.Select x) a = sym (ap plan_occasion a.is)
occasion_of_bound c p statement.StartTransaction a = sym (ap plan_occasion a.is)
occasion_of_bound c p statement.Commit a = sym (ap plan_occasion a.is)
occasion_of_bound c p statement.Rollback a = sym (ap plan_occasion a.is)
occasion_of_bound c p (statement.Savepoint name) a = sym (ap plan_occasion a.is)
occasion_of_bound c p (statement.Release name) a = sym (ap plan_occasion a.is)
occasion_of_bound c p (statement.RollbackTo name) a = sym (ap plan_occasion a.is)
occasion_of_bound c p (statement.SetConstraints l m) a = sym (ap plan_occasion a.is)

pub plans_keep : PlansKeepTheOccasion
plans_keep c st p h = occasion_of_bound c p st (accepted c st p h)
