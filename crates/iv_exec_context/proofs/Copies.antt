-- A copy of a value fails as the value of a literal.
use Rattle.std.proofs.Common.{◌≡◌, refl, ℕ, ◌+◌, List, [], ◌∷◌, map, Option, ap}
use Rattle.std.specs.Prelude.{filter_map, zip}
use Rattle.std.specs.List.{enumerate_from}
use Rattle.iv_value.specs.declared.value.Value.{Value}
use Rattle.iv_expr.specs.declared.tree.Expr.{Expr}
use Rattle.iv_expr.specs.declared.tree.Expr.TheVariants.{Literal}
use Rattle.iv_expr.specs.Scopes.{Scope}
use Rattle.iv_catalogue.specs.Catalogues.{Schema}
use Rattle.iv_catalogue.specs.declared.plan.InsertColumns.{InsertColumns}
use Rattle.iv_catalogue.specs.declared.plan.InsertColumns.TheVariants as columns
use Rattle.iv_machine.specs.Databases.{first}
use Rattle.iv_account.specs.declared.failure.EvaluatedFor.{EvaluatedFor}
use Rattle.iv_account.specs.declared.failure.EvaluatedFor.TheVariants as part
use Rattle.iv_account.specs.declared.failure.ValueFailure.{ValueFailure}
use Rattle.iv_account.specs.Failures.{by_column, of_part, stored_failure, values_failure}
use Rattle.iv_exec_context.specs.Sides.{copied_by_column, copies_failure, copy_failure}

module _ (schema : Schema) (s : Scope) (table : ℕ) where
  abbrev fails : ℕ × Expr → Option (EvaluatedFor × ValueFailure)
  fails p = of_part (part.Column table p.0) (stored_failure schema s table p.0 p.1)

  in_place : (n : ℕ) (values : List Value)
      → filter_map (copy_failure schema table) (enumerate_from n values) ≡ filter_map fails (enumerate_from n (map Literal values))
  in_place n [] = refl
  in_place n (v ∷ values) = rw (in_place (n + 1) values) refl

  listed : (places : List ℕ) (values : List Value)
      → filter_map (copy_failure schema table) (zip places values) ≡ filter_map fails (zip places (map Literal values))
  listed [] values = refl
  listed (place ∷ places) [] = refl
  listed (place ∷ places) (v ∷ values) = rw (listed places values) refl

  pub copies_fail : (columns : InsertColumns) (values : List Value)
      → copies_failure schema table columns values ≡ values_failure schema s table (by_column columns (map Literal values))
  copies_fail columns.All values = ap first (in_place 0 values)
  copies_fail (columns.Listed places) values = ap first (listed places values)
