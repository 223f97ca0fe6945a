-- What is asked of the table that an ALTER TABLE names.
use Rattle.std.proofs.Common.{◌≡◌, ℕ, Bool, false, List, Option, Some, None, slice_get, ◌∙◌, sym, ap}
use Rattle.iv_catalogue.specs.Catalogues.{Schema}
use Rattle.iv_catalogue.specs.declared.catalogue.Table.{Table}
use Rattle.iv_resolution.specs.Constraints.{Altered}
use Rattle.iv_resolution.specs.Scopes.{table_place}
use Rattle.iv_resolution.specs.Tables.{altered_at}
use Rattle.iv_resolution.specs.Resolution.{of_altered}

pub asked_there : (schema : Schema) (name : List ℕ) (asks : Altered → Bool) (place : ℕ) (t : Table)
    → Some place ≡ table_place schema.tables name → slice_get schema.tables place ≡ Some t → of_altered schema name asks ≡ asks (altered_at schema place t)
asked_there schema name asks place t h g =
    ap (λ (o : Option ℕ). elim o [ Some p ↦ elim (slice_get schema.tables p) [ Some x ↦ asks (altered_at schema p x) | None ↦ false ] | None ↦ false ]) (sym h)
    ∙ ap (λ (o : Option Table). elim o [ Some x ↦ asks (altered_at schema place x) | None ↦ false ]) g

pub asked_nowhere : (schema : Schema) (name : List ℕ) (asks : Altered → Bool) → None ≡ table_place schema.tables name → of_altered schema name asks ≡ false
asked_nowhere schema name asks h =
    ap (λ (o : Option ℕ). elim o [ Some p ↦ elim (slice_get schema.tables p) [ Some x ↦ asks (altered_at schema p x) | None ↦ false ] | None ↦ false ]) (sym h)
