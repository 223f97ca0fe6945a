-- The row variable of a name is the first item of REFERENCING that names one so.
use Rattle.std.proofs.Common.{◌≡◌, refl, ℕ, true, false, List, [], ◌∷◌, cond, Some, option_map, find}
use Rattle.std.specs.Str.{bytes_eq}
use Rattle.iv_expr.specs.declared.tree.Side.{Side}
use Rattle.iv_syntax.specs.declared.trigger.Referencing.{Referencing}
use Rattle.iv_syntax.specs.declared.trigger.TransitionName.{TransitionName}
use Rattle.iv_syntax.specs.declared.trigger.TransitionName.TheVariants.{Row, Table}
use Rattle.iv_resolution.specs.declared.origin.Origin.{Origin}
use Rattle.iv_resolution.specs.declared.origin.Origin.TheVariants.{Variable}
use Rattle.iv_resolution.specs.Scopes.{NamedColumn, NamedRange}
use Rattle.iv_resolution.specs.Triggers.{row_variables, variable_named}
use Rattle.iv_resolve_scope.specs.FirstItems.{first_side}

abbrev variable_of : Side → Origin
variable_of side = Variable side

one_named : (columns : List NamedColumn) (i : Referencing) (items : List Referencing) (name : List ℕ) (w : TransitionName)
    → variable_named (row_variables columns items) name ≡ option_map variable_of (first_side Row items name)
    → variable_named (row_variables columns (record i { what = w } ∷ items)) name ≡ option_map variable_of (first_side Row (record i { what = w } ∷ items) name)
unfolding variable_named
one_named columns i items name Row rest =
    elim (bytes_eq name i.name)
    as (λ b. option_map (λ (r : NamedRange). r.origin) (cond b (Some (record { name = i.name; columns = columns; origin = Variable i.side })) (find (λ (r : NamedRange). bytes_eq name r.name) (row_variables columns items)))
    ≡ option_map variable_of (cond b (Some i.side) (first_side Row items name)))
    [ true ↦ refl | false ↦ rest ]
one_named columns i items name Table rest = rest

pub named_first : (columns : List NamedColumn) (items : List Referencing) (name : List ℕ)
    → variable_named (row_variables columns items) name ≡ option_map variable_of (first_side Row items name)
unfolding variable_named
named_first columns [] name = refl
named_first columns (i ∷ items) name = one_named columns i items name i.what (named_first columns items name)
