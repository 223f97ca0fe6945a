-- The first item of REFERENCING of a name is the transition table that a FROM names.
use Rattle.std.proofs.Common.{◌≡◌, refl, ℕ, true, false, List, [], ◌∷◌, cond, Some, find, option_map}
use Rattle.std.specs.Str.{bytes_eq}
use Rattle.iv_syntax.specs.declared.trigger.Referencing.{Referencing}
use Rattle.iv_syntax.specs.declared.trigger.TransitionName.{TransitionName}
use Rattle.iv_syntax.specs.declared.trigger.TransitionName.TheVariants.{Row, Table}
use Rattle.iv_resolution.specs.Scopes.{NamedTransition, transition_named}
use Rattle.iv_resolution.specs.Triggers.{transition_tables}
use Rattle.iv_resolve_scope.specs.FirstItems.{first_side}

one_table : (name : List ℕ) (i : Referencing) (items : List Referencing) (w : TransitionName)
    → transition_named (transition_tables items) name ≡ first_side Table items name
    → transition_named (transition_tables (record i { what = w } ∷ items)) name ≡ first_side Table (record i { what = w } ∷ items) name
one_table name i items Row rest = rest
one_table name i items Table rest =
    elim (bytes_eq name i.name)
    as (λ b. option_map (λ (t : NamedTransition). t.side) (cond b (Some (record { name = i.name; side = i.side })) (find (λ (t : NamedTransition). bytes_eq name t.name) (transition_tables items)))
    ≡ cond b (Some i.side) (first_side Table items name))
    [ true ↦ refl | false ↦ rest ]

pub table_of_first : (items : List Referencing) (name : List ℕ) → transition_named (transition_tables items) name ≡ first_side Table items name
table_of_first [] name = refl
table_of_first (i ∷ items) name = one_table name i items i.what (table_of_first items name)
