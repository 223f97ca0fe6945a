-- A schema that suits still suits after a schema statement.
use Rattle.std.proofs.Common.{◌≡◌, Bool, true, false, not, ◌==◌, List, [], ◌∷◌, ◌++◌, refl, cond, filter}
use Rattle.std.proofs.lemmas.Bool.{and_from, and_parts}
use Rattle.std.specs.List.{list_all}
use Rattle.iv_laws_fitting.specs.Types.{Trigger}
use Rattle.iv_laws_fitting.specs.Types.schema.{CreateTable, AddConstraint, CreateTrigger, DropTrigger}
use Rattle.iv_laws_fitting.specs.ConstraintShapes.{constraint_suits}
use Rattle.iv_laws_fitting.specs.Laws.{SchemasStaySuited, EmptySchemaSuits}
use Rattle.iv_laws_fitting.specs.PlanShapes.{table_suits, trigger_suits}
use Rattle.iv_laws_fitting.proofs.MoreTables.{trigger_still, constraint_still}
use Rattle.iv_laws_fitting.proofs.Pointwise.{all_at, all_by}
use Rattle.iv_laws_fitting.proofs.Schemas.{tables_fit, additions_fit}
use Rattle.iv_laws_fitting.proofs.Triggers.{triggers_fit}

all_of_both : {X : Type 0} (p : X → Bool) (xs ys : List X) → list_all p xs ≡ true → list_all p ys ≡ true → list_all p (xs ++ ys) ≡ true
all_of_both p [] ys h g = g
all_of_both p (x ∷ xs) ys h g = let parts = and_parts (p x) (list_all p xs) h in and_from _ _ parts.0 (all_of_both p xs ys parts.1 g)

all_of_kept : {X : Type 0} (p keep : X → Bool) (xs : List X) → list_all p xs ≡ true → list_all p (filter keep xs) ≡ true
all_of_kept p keep [] h = refl
all_of_kept {X = X} p keep (x ∷ xs) h = by (keep x) (and_parts (p x) (list_all p xs) h).0 (all_of_kept p keep xs (and_parts (p x) (list_all p xs) h).1)
  where
    by : (b : Bool) → p x ≡ true → list_all p (filter keep xs) ≡ true → list_all p (cond b (x ∷ filter keep xs) (filter keep xs)) ≡ true
    by true one rest = and_from _ _ one rest
    by false one rest = rest

pub empty_suits : EmptySchemaSuits
empty_suits = record { tables = refl; constraints = refl; triggers = refl }

pub schemas_stay : SchemasStaySuited
schemas_stay schema s (CreateTable table constraints) f h =
    let new = tables_fit schema s table constraints f.tables f.constraints h in
    record {
      tables = all_of_both table_suits schema.tables (table ∷ []) f.tables (and_from _ _ new.suit refl);
      constraints = all_of_both (constraint_suits (schema.tables ++ table ∷ [])) schema.constraints constraints
          (all_by (constraint_suits (schema.tables ++ table ∷ [])) schema.constraints
          (λ j k g. constraint_still schema.tables table k (all_at (constraint_suits schema.tables) schema.constraints f.constraints j k g)))
          new.rules;
      triggers = all_by (trigger_suits (schema.tables ++ table ∷ [])) schema.triggers
          (λ j t g. trigger_still schema.tables table t (all_at (trigger_suits schema.tables) schema.triggers f.triggers j t g));
    }
schemas_stay schema s (AddConstraint k) f h =
    let new = additions_fit schema s k f.tables f.constraints h in
    record {
      tables = f.tables;
      constraints = all_of_both (constraint_suits schema.tables) schema.constraints (k ∷ []) f.constraints (and_from _ _ new.suits refl);
      triggers = f.triggers;
    }
schemas_stay schema s (CreateTrigger t) f h =
    let new = triggers_fit schema s t f.tables h in
    record {
      tables = f.tables;
      constraints = f.constraints;
      triggers = all_of_both (trigger_suits schema.tables) schema.triggers (record t { id = schema.created } ∷ []) f.triggers (and_from _ _ new refl);
    }
schemas_stay schema s (DropTrigger id) f h = record {
  tables = f.tables;
  constraints = f.constraints;
  triggers = all_of_kept (trigger_suits schema.tables) (λ (t : Trigger). not (t.id == id)) schema.triggers f.triggers;
}
