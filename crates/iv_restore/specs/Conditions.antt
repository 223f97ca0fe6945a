-- When a text is read as the condition of a CHECK: as the WHERE of a SELECT of its table it means just that condition.
use Rattle.std.specs.Prelude.{◌≡◌, ℕ, List, [], ◌∷◌, ◌++◌, None, Ok, codes}
use Rattle.iv_expr.specs.declared.tree.Cond.{Cond}
use Rattle.iv_syntax.specs.declared.statement.Statement.{Statement}
use Rattle.iv_parse.specs.Script.{IsScript}
use Rattle.iv_catalogue.specs.Catalogues.{Schema}
use Rattle.iv_catalogue.specs.declared.plan.Outputs.TheVariants.{Star}
use Rattle.iv_catalogue.specs.declared.plan.Plan.TheVariants.{Query}
use Rattle.iv_catalogue.specs.declared.plan.QueryPlan.TheVariants.{Rows}
use Rattle.iv_resolution.specs.Resolution.{resolution}
use Rattle.iv_restate.specs.Constraints.{table_name_at}

abbrev pub select_text : List ℕ → List ℕ → List ℕ
select_text table text = codes "SELECT * FROM " ++ (table ++ (codes " WHERE " ++ (text ++ codes ";")))

-- The table is the one at this place.
pub record IsReadAs (schema : Schema) (table : ℕ) (text : List ℕ) (c : Cond) : Type 0 where
  pub statement : Statement
  pub read : IsScript (select_text (table_name_at schema.tables table) text) (statement ∷ []) None
  pub means : resolution schema statement ≡ Ok (Query (Rows table Star c))
