-- Resolution: what a statement deserves to be refused for, by cause, the least of these, and the plan of a statement that deserves none.
use Rattle.std.specs.Prelude.{◌≡◌, ℕ, Bool, true, false, not, ◌||◌, List, [], ◌∷◌, find, Option, Some, None, is_some, is_ok, Result, Ok, Err, slice_get, MatchBool}
use Rattle.iv_resolution.specs.Types.{Statement, Cause, Refusal, Plan}
use Rattle.iv_resolution.specs.Types.statement
use Rattle.iv_resolution.specs.Types.cause.{Unknown, Duplicate, SchemaFault, WrongShape, Limit}
use Rattle.iv_catalogue.specs.Catalogues.{Schema}
use Rattle.iv_catalogue.specs.Refusals.{refusal_answer, out_of_memory, is_memory}
use Rattle.iv_resolution.specs.Scopes.{table_place}
use Rattle.iv_resolution.specs.Constraints.{table_constraint, Altered}
use Rattle.iv_resolution.specs.Changes.{misshaped_insert, misshaped_update, misshaped_delete, misshaped_select}
use Rattle.iv_resolution.specs.Tables.{table_names, altered_at, faulty_addition, misshaped_rule, addition_beyond_limits, faulty_table, misshaped_table, table_beyond_limits}
use Rattle.iv_resolution.specs.Triggers.{faulty_trigger, misshaped_trigger, trigger_beyond_limits}
use Rattle.iv_resolution.specs.NameFaults.{unknown_name, duplicate_name}
use Rattle.iv_resolution.specs.Writable.{is_writable}
use Rattle.iv_resolution.specs.Bound.{bound}

-- ---- ALTER TABLE of a table that is there

-- what is asked of the table that an ALTER TABLE names; false if there is none, which is only Unknown
abbrev pub of_altered : Schema → List ℕ → (Altered → Bool) → Bool
of_altered schema table asks =
    elim (table_place schema.tables table) [
      | Some place ↦ elim (slice_get schema.tables place) [ Some t ↦ asks (altered_at schema place t) | None ↦ false ]
      | None ↦ false
    ]

-- ---- the five causes

-- Unknown: a table, column, range name, row variable, transition table, trigger or constraint name that names nothing there.
abbrev pub is_unknown : Schema → Statement → Bool
is_unknown schema s = is_some (unknown_name schema s)

-- Duplicate: a new name that is in use or comes twice, or a column twice in a list.
abbrev pub is_duplicate : Schema → Statement → Bool
is_duplicate schema s = is_some (duplicate_name schema s)

-- SchemaFault: a definition that no schema can have.
abbrev pub is_faulty : Schema → Statement → Bool
is_faulty schema (statement.CreateTable name elements) = faulty_table schema name elements
is_faulty schema (statement.AlterTable table k) = of_altered schema table (λ own. faulty_addition schema own (table_constraint k))
is_faulty schema (statement.CreateTrigger t) = faulty_trigger schema t
is_faulty schema _ = false

-- WrongShape: the number of values isn't that of the columns, or an integer meets a text.
abbrev pub is_misshaped : Schema → Statement → Bool
is_misshaped schema (statement.CreateTable name elements) = misshaped_table schema name elements
is_misshaped schema (statement.AlterTable table k) =
    of_altered schema table (λ own. misshaped_rule (table_names schema) own (table_constraint k).rule)
is_misshaped schema (statement.CreateTrigger t) = misshaped_trigger schema t
is_misshaped schema (statement.Insert i) = misshaped_insert (table_names schema) [] i
is_misshaped schema (statement.Update u) = misshaped_update (table_names schema) [] u
is_misshaped schema (statement.Delete d) = misshaped_delete (table_names schema) [] d
is_misshaped schema (statement.Select s) = misshaped_select (table_names schema) [] s
is_misshaped schema _ = false

-- more of something than there may be
abbrev pub is_too_large : Schema → Statement → Bool
is_too_large schema (statement.CreateTable name elements) = table_beyond_limits schema elements
is_too_large schema (statement.AlterTable table k) = of_altered schema table (λ own. addition_beyond_limits schema own (table_constraint k))
is_too_large schema (statement.CreateTrigger t) = trigger_beyond_limits schema t
is_too_large schema _ = false

-- Limit: a number beyond the limits of the catalogue, or a statement that no text of the language is.
abbrev pub is_beyond_limits : Schema → Statement → Bool
is_beyond_limits schema s = is_too_large schema s || not (is_writable s)

-- A statement deserves a cause.
abbrev pub deserves : Schema → Statement → Cause → Bool
deserves schema s Unknown = is_unknown schema s
deserves schema s Duplicate = is_duplicate schema s
deserves schema s SchemaFault = is_faulty schema s
deserves schema s WrongShape = is_misshaped schema s
deserves schema s Limit = is_beyond_limits schema s
deserves schema s _ = false

-- ---- the least cause, or the plan

-- the causes of resolution, in the order of their numbers
abbrev pub causes : List Cause
causes = Unknown ∷ Duplicate ∷ SchemaFault ∷ WrongShape ∷ Limit ∷ []

-- the first that is deserved
abbrev pub least : Schema → Statement → Option Cause
least schema s = find (deserves schema s) causes

abbrev pub refused_or_planned : Option Cause → Plan → Result Plan Refusal
refused_or_planned (Some cause) p = refusal_answer cause
refused_or_planned None p = Ok p

-- The plan of a statement, or the least cause that it deserves.
abbrev pub resolution : Schema → Statement → Result Plan Refusal
resolution schema s = refused_or_planned (least schema s) (bound schema s)

-- The answer is the resolution; or the plan could not be allocated, with which no trigger has to do.
abbrev pub Resolves : Schema → Statement → Result Plan Refusal → Type 0
Resolves schema s r = MatchBool (is_memory r) ((r ≡ Err out_of_memory) × (is_ok (resolution schema s) ≡ true)) (r ≡ resolution schema s)
