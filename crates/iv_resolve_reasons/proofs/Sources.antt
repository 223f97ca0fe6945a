-- What a FROM of a data statement names: a transition table, or a table of the catalogue.
use Rattle.std.proofs.Common.{◌≡◌, refl, ap, ◌∙◌, ℕ, List, [], Option, Some, None, option_map, slice_get}
use Rattle.std.specs.Option.{option_or}
use Rattle.iv_expr.specs.declared.tree.Range.TheVariants as range
use Rattle.iv_expr.specs.declared.tree.Side.{Side}
use Rattle.iv_syntax.specs.declared.trigger.Referencing.{Referencing}
use Rattle.iv_syntax.specs.declared.trigger.TransitionName.TheVariants as what
use Rattle.iv_catalogue.specs.declared.catalogue.Table.{Table}
use Rattle.iv_resolution.specs.Scopes.{NamedColumn, Source, named_columns, source_columns, source_named, stored_source, table_place}
use Rattle.iv_resolution.specs.Changes.{stored_columns}
use Rattle.iv_resolution.specs.Triggers.{transition_tables}
use Rattle.iv_resolve_scope.specs.FirstItems.{first_side}
use Rattle.iv_resolve_scope.proofs.FirstItems.{table_of_first}

-- the columns of a transition table of this side, or of what is there without one
abbrev columns_by : List NamedColumn → Option Source → Option Side → List NamedColumn
columns_by subject rest o =
    elim (option_or (option_map {U = Source} (λ (side : Side). record { range = range.Transition side; columns = subject }) o) rest) as (λ _. List NamedColumn) [ Some s ↦ s.columns | None ↦ [] ]

stored_is : (tables : List Table) (name : List ℕ) → columns_by [] (stored_source tables name) None ≡ named_columns (stored_columns tables name)
stored_is tables name = by (table_place tables name)
  where
    at : (place : ℕ) (o : Option Table)
        → elim (option_map {U = Source} (λ (t : Table). record { range = range.Table place; columns = named_columns t.columns }) o) as (λ _. List NamedColumn) [ Some s ↦ s.columns | None ↦ [] ]
        ≡ named_columns (elim o [ Some t ↦ t.columns | None ↦ [] ])
    at place None = refl
    at place (Some t) = refl

    by : (o : Option ℕ)
        → elim (elim o as (λ _. Option Source) [ Some place ↦ option_map {U = Source} (λ (t : Table). record { range = range.Table place; columns = named_columns t.columns }) (slice_get tables place) | None ↦ None ]) as (λ _. List NamedColumn) [ Some s ↦ s.columns | None ↦ [] ]
        ≡ named_columns (elim o [ Some place ↦ elim (slice_get tables place) [ Some t ↦ t.columns | None ↦ [] ] | None ↦ [] ])
    by None = refl
    by (Some place) = at place (slice_get tables place)

pub of_transition : (tables : List Table) (items : List Referencing) (subject : List NamedColumn) (name : List ℕ) (side : Side) → first_side what.Table items name ≡ Some side
    → source_columns (record { created = None; tables = tables; transitions = transition_tables items; subject = subject }) name ≡ subject
unfolding source_columns source_named
of_transition tables items subject name side h = ap (columns_by subject (stored_source tables name)) (table_of_first items name ∙ h)

pub of_table : (tables : List Table) (items : List Referencing) (subject : List NamedColumn) (name : List ℕ) → first_side what.Table items name ≡ None
    → source_columns (record { created = None; tables = tables; transitions = transition_tables items; subject = subject }) name ≡ named_columns (stored_columns tables name)
unfolding source_columns source_named
of_table tables items subject name h = ap (columns_by subject (stored_source tables name)) (table_of_first items name ∙ h) ∙ stored_is tables name
