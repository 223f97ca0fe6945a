-- What is known of a text that was read again.
use Rattle.std.proofs.Common.{◌≡◌, ℕ, true, false, List, [], ◌∷◌, ◌∙◌, Option, Some, None, Ok, option_map, refl, sym, subst}
use Rattle.std.specs.Prelude.{is_none}
use Rattle.iv_expr.specs.declared.tree.Cond.{Cond}
use Rattle.iv_syntax.specs.declared.statement.Statement.{Statement}
use Rattle.iv_parse.specs.Script.{IsScript}
use Rattle.iv_catalogue.specs.Catalogues.{Schema}
use Rattle.iv_catalogue.specs.declared.plan.Outputs.TheVariants.{Star}
use Rattle.iv_catalogue.specs.declared.plan.Plan.TheVariants.{Query}
use Rattle.iv_catalogue.specs.declared.plan.QueryPlan.TheVariants.{Rows}
use Rattle.iv_resolution.specs.Resolution.{resolution}
use Rattle.iv_restate.specs.Constraints.{table_name_at}
use Rattle.iv_restore.specs.Conditions.{IsReadAs, select_text}

no_fault : {A : Type 0} (f : A → ℕ) (o : Option A) → is_none o ≡ true → option_map f o ≡ None
no_fault f None h = refl
no_fault f (Some a) h = absurd (let e : false ≡ true = h in cc)

pub read_as : {A : Type 0} (f : A → ℕ) (schema : Schema) (table : ℕ) (text : List ℕ) (c : Cond) (select : List ℕ) (statements taken : List Statement) (fault : Option A)
    → select ≡ select_text (table_name_at schema.tables table) text → IsScript select statements (option_map f fault) → is_none fault ≡ true → taken ≡ statements
    → ((s : Statement) × (taken ≡ s ∷ []) × (resolution schema s ≡ Ok (Query (Rows table Star c))))
    → IsReadAs schema table text c
read_as f schema table text c select statements taken fault e script none same found = record {
  statement = found.0;
  read = subst (λ (x : List ℕ). IsScript x (found.0 ∷ []) None) e
      (subst (λ (x : List Statement). IsScript select x None) (sym same ∙ found.1)
      (subst (λ (x : Option ℕ). IsScript select statements x) (no_fault f fault none) script));
  means = found.2;
}
