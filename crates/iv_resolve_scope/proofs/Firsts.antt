-- The first column of a name is the one that place and type are looked up by.
use Rattle.std.proofs.Common.{◌≡◌, ℕ, ◌+◌, true, false, List, [], ◌∷◌, ◌∙◌, Option, Some, None, refl, ap, cond, option_map, if◌then◌else◌, find}
use Rattle.std.specs.List.{position_from}
use Rattle.std.specs.Str.{bytes_eq}
use Rattle.std.proofs.lemmas.Iterator.Adapters.{position_from-zero}
use Rattle.iv_syntax.specs.declared.table.ColumnType.{ColumnType}
use Rattle.iv_resolution.specs.Scopes.{NamedColumn, column_place, number, type_named}
use Rattle.iv_resolve_scope.specs.declared.column_index.FirstColumn.{FirstColumn}
use Rattle.iv_resolve_scope.specs.FirstColumns.{first_from}

abbrev of_place : FirstColumn → ℕ
of_place f = f.place

abbrev of_type : FirstColumn → ColumnType
of_type f = f.kind

places : (place : ℕ) (columns : List NamedColumn) (name : List ℕ)
    → position_from (λ (c : NamedColumn). bytes_eq name c.name) place columns ≡ option_map of_place (first_from place columns name)
places place [] name = refl
places place (c ∷ columns) name =
    elim (bytes_eq name c.name)
    as (λ b. cond b (Some place) (position_from (λ (d : NamedColumn). bytes_eq name d.name) (place + 1) columns)
    ≡ option_map of_place (if b then Some (record { place = place; kind = c.kind }) else first_from (place + 1) columns name))
    [ true ↦ refl | false ↦ places (place + 1) columns name ]

numbered : (o : Option FirstColumn) → option_map number (option_map of_place o) ≡ option_map (λ f. number (of_place f)) o
numbered None = refl
numbered (Some f) = refl

pub place_of_first : (columns : List NamedColumn) (name : List ℕ) → column_place columns name ≡ option_map (λ f. number (of_place f)) (first_from 0 columns name)
place_of_first columns name =
    ap (option_map number) (position_from-zero (λ (c : NamedColumn). bytes_eq name c.name) columns ∙ places 0 columns name)
    ∙ numbered (first_from 0 columns name)

types : (place : ℕ) (columns : List NamedColumn) (name : List ℕ) → type_named columns name ≡ option_map of_type (first_from place columns name)
types place [] name = refl
types place (c ∷ columns) name =
    elim (bytes_eq name c.name)
    as (λ b. option_map (λ (d : NamedColumn). d.kind) (cond b (Some c) (find (λ (d : NamedColumn). bytes_eq name d.name) columns))
    ≡ option_map of_type (if b then Some (record { place = place; kind = c.kind }) else first_from (place + 1) columns name))
    [ true ↦ refl | false ↦ types (place + 1) columns name ]

pub type_of_first : (columns : List NamedColumn) (name : List ℕ) → type_named columns name ≡ option_map of_type (first_from 0 columns name)
type_of_first columns name = types 0 columns name
