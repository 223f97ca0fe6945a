-- The row of a change that effects make.
use Rattle.std.proofs.Common.{◌≡◌, refl, ℕ, List, [], ◌∷◌, Option, Some, None, sym, ap, ◌∙◌}
use Rattle.iv_expr.specs.declared.row.StoredRow.{StoredRow}
use Rattle.iv_expr.specs.declared.row.Change.{Change}
use Rattle.iv_catalogue.specs.Catalogues.{Schema}
use Rattle.iv_machine.specs.declared.effect.Effect.{Effect}
use Rattle.iv_machine.specs.Databases.{row_at}
use Rattle.iv_machine.specs.ReferentialActions.{change_by}
use Rattle.iv_laws_levels.proofs.RowNumbers.{some_none, some_same, number_of_row_at}
use Rattle.iv_exec_actions.specs.AffectedForeignKey.{AffectedForeignKey}
use Rattle.iv_exec_actions.specs.Following.{effects_at, change_at}

pub row_of_change : (schema : Schema) (xs : List AffectedForeignKey) (changes : List Change) (later : List StoredRow) (number : ℕ) (c : Change)
    → change_at schema xs changes later number ≡ Some c → c.row ≡ number
row_of_change schema xs changes later number c e = by (row_at later number) refl e
  where
    by_effects : (after : StoredRow) (es : List (ℕ × Effect)) → change_by after es ≡ Some c → c.row ≡ after.number
    by_effects after [] f = absurd (some_none c (sym f))
    by_effects after (x ∷ es) f = ap (λ y. y.row) (sym (some_same _ c f))

    by : (o : Option StoredRow) → row_at later number ≡ o
        → (elim o [ Some after ↦ change_by after (effects_at schema xs changes later after) | None ↦ None ]) ≡ Some c → c.row ≡ number
    by None f g = absurd (some_none c (sym g))
    by (Some after) f g = by_effects after (effects_at schema xs changes later after) g ∙ number_of_row_at later number after f
