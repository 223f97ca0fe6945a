-- Of which rows a change of one row can alter whether they satisfy a constraint.
use Rattle.std.specs.Prelude.{◌≡◌, ℕ, Bool, false, ◌&&◌, ◌||◌, not, ◌==◌, List, [], ◌∷◌, filter, Option, Some, None}
use Rattle.iv_laws_levels.specs.Types.{Value, StoredRow, Change, Constraint, Rule, Database}
use Rattle.iv_laws_levels.specs.Types.rule
use Rattle.iv_syntax.specs.declared.table.NullTreatment.{NullTreatment}
use Rattle.iv_syntax.specs.declared.table.NullTreatment.TheVariants.{Distinct}
use Rattle.iv_key.specs.Keys.{key_of}
use Rattle.iv_machine.specs.Databases.{row_at, holds_key_with, satisfies, violates}
use Rattle.iv_laws_levels.specs.RisingRows.{InOrder}
use Rattle.iv_laws_levels.specs.Reorderings.{after_changes}
use Rattle.iv_laws_levels.specs.FittingWaves.{old_row}

-- a row holds in these columns what one side of a change has in the columns of a key; if nulls are not distinct, null is the same as null
abbrev pub holds_side : NullTreatment → List ℕ → List ℕ → StoredRow → Option (List Value) → Bool
holds_side nulls columns key row None = false
holds_side nulls columns key row (Some values) = holds_key_with nulls columns (key_of key values) row.values

-- a row holds in these columns what the old or the new values of a change have
abbrev pub holds_old_or_new : NullTreatment → List ℕ → List ℕ → StoredRow → Change → Bool
holds_old_or_new nulls columns key row change = holds_side nulls columns key row change.old || holds_side nulls columns key row change.new

-- Whether a change of another row can alter that a row obeys a rule on this table. UNIQUE and PRIMARY KEY: a change in the table whose old
-- or new key the row holds, keys with a null too if nulls are not distinct. A foreign key: a change in the referenced table to whose old or
-- new key the row refers.
abbrev pub concerns_by : Change → ℕ → Rule → StoredRow → Bool
concerns_by change table (rule.NotNull column) row = false
concerns_by change table (rule.Check condition) row = false
concerns_by change table (rule.Unique nulls columns) row = (change.table == table) && holds_old_or_new nulls columns columns row change
concerns_by change table (rule.PrimaryKey columns) row = (change.table == table) && holds_old_or_new Distinct columns columns row change
concerns_by change table (rule.ForeignKey fk) row = (change.table == fk.referenced) && holds_old_or_new Distinct fk.columns fk.key row change

abbrev pub concerns : Change → Constraint → StoredRow → Bool
concerns change constraint row = concerns_by change constraint.table constraint.rule row

-- A row that a change doesn't concern satisfies the constraint after the change exactly if it did before. (The changed row itself has other
-- values after the change; it is to be looked at again too.)
abbrev pub AChangeIsLocal : Type 0
AChangeIsLocal =
    (db : Database) (change : Change) (constraint : Constraint) (row : StoredRow)
    → InOrder db.rows → row_at db.rows change.row ≡ old_row change
    → concerns change constraint row ≡ false
    → satisfies (after_changes db (change ∷ [])).rows constraint row ≡ satisfies db.rows constraint row

-- neither the changed row nor one that the change concerns
abbrev pub is_elsewhere : Change → Constraint → StoredRow → Bool
is_elsewhere change constraint row = not (change.row == row.number) && not (concerns change constraint row)

-- Elsewhere the same rows violate a constraint, before and after.
abbrev pub ViolationsElsewhereStay : Type 0
ViolationsElsewhereStay =
    (db : Database) (change : Change) (constraint : Constraint)
    → InOrder db.rows → row_at db.rows change.row ≡ old_row change
    → filter (is_elsewhere change constraint) (filter (violates (after_changes db (change ∷ [])).rows constraint) (after_changes db (change ∷ [])).rows)
    ≡ filter (is_elsewhere change constraint) (filter (violates db.rows constraint) db.rows)
