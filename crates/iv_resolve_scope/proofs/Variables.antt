-- Row variables among the ranges: an unqualified name is none of their columns, and the count of ranges doesn't matter to them.
use Rattle.std.proofs.Common.{◌≡◌, refl, ap, ℕ, ◌+◌, true, false, ◌∙◌, List, [], ◌∷◌, cond, Option, Some, None}
use Rattle.std.specs.Str.{bytes_eq}
use Rattle.iv_expr.specs.declared.tree.Side.{Side}
use Rattle.iv_syntax.specs.declared.trigger.Referencing.{Referencing}
use Rattle.iv_syntax.specs.declared.trigger.TransitionName.{TransitionName}
use Rattle.iv_syntax.specs.declared.trigger.TransitionName.TheVariants.{Row, Table}
use Rattle.iv_resolution.specs.declared.origin.Origin.TheVariants.{Variable}
use Rattle.iv_resolution.specs.Scopes.{Found, NamedColumn, found_in, number, qualified, unqualified}
use Rattle.iv_resolution.specs.Triggers.{row_variables}
use Rattle.iv_resolve_scope.specs.FirstItems.{first_side}

none_of_one : (name : List ℕ) (n : ℕ) (columns : List NamedColumn) (i : Referencing) (items : List Referencing) (w : TransitionName)
    → ((m : ℕ) → unqualified name m (row_variables columns items) ≡ None)
    → unqualified name n (row_variables columns (record i { what = w } ∷ items)) ≡ None
none_of_one name n columns i items Row rest = rest (number (n + 1))
none_of_one name n columns i items Table rest = rest n

pub no_unqualified : (name : List ℕ) (n : ℕ) (columns : List NamedColumn) (items : List Referencing) → unqualified name n (row_variables columns items) ≡ None
no_unqualified name n columns [] = refl
no_unqualified name n columns (i ∷ items) = none_of_one name n columns i items i.what (λ m. no_unqualified name m columns items)

same_of_one : (range name : List ℕ) (n m : ℕ) (columns : List NamedColumn) (i : Referencing) (items : List Referencing) (w : TransitionName)
    → ((n m : ℕ) → qualified range name n (row_variables columns items) ≡ qualified range name m (row_variables columns items))
    → qualified range name n (row_variables columns (record i { what = w } ∷ items)) ≡ qualified range name m (row_variables columns (record i { what = w } ∷ items))
same_of_one range name n m columns i items Row rest =
    ap (λ o. cond (bytes_eq range i.name) (found_in (record { name = i.name; columns = columns; origin = Variable i.side }) 0 name) o) (rest (number (n + 1)) (number (m + 1)))
same_of_one range name n m columns i items Table rest = rest n m

pub any_count : (range name : List ℕ) (n m : ℕ) (columns : List NamedColumn) (items : List Referencing)
    → qualified range name n (row_variables columns items) ≡ qualified range name m (row_variables columns items)
any_count range name n m columns [] = refl
any_count range name n m columns (i ∷ items) = same_of_one range name n m columns i items i.what (λ k l. any_count range name k l columns items)

-- the column of a row variable, if there is one
abbrev pub column_of : List NamedColumn → List ℕ → ℕ → Option Side → Option Found
column_of columns name n None = None
column_of columns name n (Some side) = found_in (record { name = []; columns = columns; origin = Variable side }) n name

one_first : (range name : List ℕ) (n : ℕ) (columns : List NamedColumn) (i : Referencing) (items : List Referencing) (w : TransitionName)
    → qualified range name n (row_variables columns items) ≡ column_of columns name n (first_side Row items range)
    → qualified range name n (row_variables columns (record i { what = w } ∷ items)) ≡ column_of columns name n (first_side Row (record i { what = w } ∷ items) range)
one_first range name n columns i items Row rest =
    elim (bytes_eq range i.name)
    as (λ b. cond b (found_in (record { name = i.name; columns = columns; origin = Variable i.side }) n name) (qualified range name (number (n + 1)) (row_variables columns items))
    ≡ column_of columns name n (cond b (Some i.side) (first_side Row items range)))
    [ true ↦ refl | false ↦ any_count range name (number (n + 1)) n columns items ∙ rest ]
one_first range name n columns i items Table rest = rest

pub variable_of_first : (range name : List ℕ) (n : ℕ) (columns : List NamedColumn) (items : List Referencing)
    → qualified range name n (row_variables columns items) ≡ column_of columns name n (first_side Row items range)
variable_of_first range name n columns [] = refl
variable_of_first range name n columns (i ∷ items) = one_first range name n columns i items i.what (variable_of_first range name n columns items)
