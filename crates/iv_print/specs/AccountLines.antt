-- The lines of an account, after those of the outcome.
use Rattle.std.specs.Prelude.{ℕ, zero, suc, ◌-◌, Bool, true, false, if◌then◌else◌, List, [], ◌∷◌, ◌++◌, codes, decimal, slice_get, Option, Some, None, Result, Ok, Err}
use Rattle.std.specs.List.{flat_map}
use Rattle.std.specs.Fmt.{signed_decimal}
use Rattle.iv_value.specs.declared.value.Value.{Value}
use Rattle.iv_value.specs.declared.value.Truth.{Truth}
use Rattle.iv_value.specs.declared.value.Truth.TheVariants.{False, Unknown, True}
use Rattle.iv_key.specs.Keys.{key_of, none_null}
use Rattle.iv_expr.specs.declared.row.StoredRow.{StoredRow}
use Rattle.iv_expr.specs.declared.tree.Cond.{Cond}
use Rattle.iv_expr.specs.declared.row.Change.{Change}
use Rattle.iv_syntax.specs.declared.table.ReferentialAction.{ReferentialAction}
use Rattle.iv_syntax.specs.declared.table.ReferentialAction.TheVariants as action
use Rattle.iv_syntax.specs.declared.trigger.TriggerEvent.{TriggerEvent}
use Rattle.iv_syntax.specs.declared.trigger.TriggerEvent.TheVariants as event
use Rattle.iv_catalogue.specs.Catalogues.{Schema}
use Rattle.iv_catalogue.specs.declared.catalogue.Column.{Column}
use Rattle.iv_catalogue.specs.declared.catalogue.Table.{Table}
use Rattle.iv_catalogue.specs.declared.constraint.Constraint.{Constraint}
use Rattle.iv_catalogue.specs.declared.constraint.ForeignKey.{ForeignKey}
use Rattle.iv_catalogue.specs.declared.constraint.Rule.{Rule}
use Rattle.iv_catalogue.specs.declared.constraint.Rule.TheVariants as rule
use Rattle.iv_catalogue.specs.declared.cause.Cause.{Cause}
use Rattle.iv_catalogue.specs.declared.cause.Cause.TheVariants as cause
use Rattle.iv_catalogue.specs.declared.cause.Refusal.{Refusal}
use Rattle.iv_machine.specs.declared.answer.Answer.{Answer}
use Rattle.iv_machine.specs.BeforeTriggers.{event_of_change}
use Rattle.iv_machine.specs.Bounds.{Bounds}
use Rattle.iv_account.specs.declared.entry.RowAction.{RowAction}
use Rattle.iv_account.specs.declared.entry.TriggerView.{TriggerView}
use Rattle.iv_account.specs.declared.entry.SkippedView.{SkippedView}
use Rattle.iv_account.specs.declared.entry.Disagreement.{Disagreement}
use Rattle.iv_account.specs.declared.entry.Entry.{Entry}
use Rattle.iv_account.specs.declared.entry.Entry.TheVariants.{Changed, Acted, Ran, Skipped, Began, Ended, Faulted, Disagreed, Failed, Standing, NotAdded}
use Rattle.iv_account.specs.declared.failure.Operator.{Operator}
use Rattle.iv_account.specs.declared.failure.Operator.TheVariants.{Plus, Minus, Times}
use Rattle.iv_account.specs.declared.failure.ValueFailure.{ValueFailure}
use Rattle.iv_account.specs.declared.failure.ValueFailure.TheVariants.{OutOfRange, TooLong}
use Rattle.iv_account.specs.declared.failure.RowAtHand.{RowAtHand}
use Rattle.iv_account.specs.declared.failure.RowAtHand.TheVariants as hand
use Rattle.iv_account.specs.declared.failure.EvaluatedFor.{EvaluatedFor}
use Rattle.iv_account.specs.declared.failure.EvaluatedFor.TheVariants as part
use Rattle.iv_account.specs.declared.failure.FailedEvaluation.{FailedEvaluation}
use Rattle.iv_text.specs.Conditions.{condition_text}
use Rattle.iv_text.specs.declared.condition.Shown.TheVariants.{Names, Values}
use Rattle.iv_text.specs.Rules.{columns_of, described_text}
pub use Rattle.iv_text.specs.Lines.{table_name, column_name, column_name_in}
pub use Rattle.iv_text.specs.Ways.{depth_after}
use Rattle.iv_text.specs.Ways.{limit_line}
use Rattle.iv_text.specs.Lines.{value_text, values_text, name_of, trigger_text, row_number_text}

-- two spaces for each
abbrev pub spaces : ℕ → List ℕ
spaces zero = []
spaces (suc depth) = codes "  " ++ spaces depth

-- the front of a line at this depth
abbrev pub indent : ℕ → List ℕ
indent depth = codes "  " ++ spaces depth

-- ---- names and rows

-- a table and a number of a row
abbrev pub numbered_text : Schema → ℕ → ℕ → List ℕ
numbered_text s table row = table_name (slice_get s.tables table) ++ row_number_text row

-- values in parentheses
abbrev pub listed_text : List Value → List ℕ
listed_text values = codes " (" ++ (values_text values ++ codes ")")

-- a row after these words, where there is one
abbrev pub side_text : List ℕ → Option (List Value) → List ℕ
side_text words (Some values) = words ++ listed_text values
side_text words None = []

-- ---- changes

abbrev pub verb : TriggerEvent → List ℕ
verb event.Insert = codes "insert "
verb event.Delete = codes "delete "
verb event.Update = codes "update "

-- what the row was and is: of an insertion or a deletion the side that is there
abbrev pub sides_text : Option (List Value) → Option (List Value) → List ℕ
sides_text None new = side_text [] new
sides_text (Some old) new = listed_text old ++ side_text (codes " to") new

abbrev pub change_text : Schema → Change → List ℕ
change_text s c = verb (event_of_change c) ++ (numbered_text s c.table c.row ++ sides_text c.old c.new)

-- the line of a change after these words
abbrev pub change_line : Schema → ℕ → List ℕ → Change → List ℕ
change_line s depth words c = indent depth ++ (words ++ (change_text s c ++ codes "\n"))

abbrev pub change_lines : Schema → ℕ → List ℕ → List Change → List ℕ
change_lines s depth words changes = flat_map (change_line s depth words) changes

-- ---- referential actions

abbrev pub action_words : ReferentialAction → List ℕ
action_words action.NoAction = codes " NO ACTION on "
action_words action.Restrict = codes " RESTRICT on "
action_words action.Cascade = codes " CASCADE on "
action_words action.SetNull = codes " SET NULL on "
action_words action.SetDefault = codes " SET DEFAULT on "

abbrev pub action_line : Schema → ℕ → RowAction → List ℕ
action_line s depth a =
    indent depth
    ++ (name_of (slice_get s.constraints a.constraint)
    ++ (action_words a.action ++ (numbered_text s a.table a.row ++ codes "\n")))

abbrev pub action_lines : Schema → ℕ → List RowAction → List ℕ
action_lines s depth actions = flat_map (action_line s depth) actions

-- ---- triggers

-- a trigger with the rows that it saw
abbrev pub asked_text : Schema → ℕ → ℕ → Option (List Value) → Option (List Value) → List ℕ
asked_text s depth id old new =
    indent depth ++ (codes "trigger" ++ (trigger_text s id ++ (side_text (codes " OLD") old ++ side_text (codes " NEW") new)))

-- one that runs, and one deeper a line for each change that it saw
abbrev pub ran_lines : Schema → ℕ → ℕ → TriggerView → List ℕ
ran_lines s depth id seen =
    asked_text s depth id seen.old seen.new ++ (codes "\n" ++ change_lines s depth (codes "  saw ") seen.transition)

abbrev pub truth_name : Truth → List ℕ
truth_name False = codes "false"
truth_name Unknown = codes "unknown"
truth_name True = codes "true"

-- one that is skipped
abbrev pub skipped_line : Schema → ℕ → ℕ → SkippedView → List ℕ
skipped_line s depth id seen =
    asked_text s depth id seen.old seen.new ++ (codes " skipped: WHEN is " ++ (truth_name seen.when ++ codes "\n"))

-- a statement that ends as it begins
abbrev pub nothing_text : Bool → List ℕ
nothing_text true = codes " changes nothing"
nothing_text false = []

abbrev pub began_line : ℕ → ℕ → Bool → List ℕ
began_line depth place nothing = indent depth ++ (codes "statement " ++ (decimal place ++ (nothing_text nothing ++ codes "\n")))

-- ---- faults

-- why the key to which a row refers doesn't do
abbrev pub reference_words : Cause → List ℕ
reference_words (cause.Restrict f) = codes ", which RESTRICT protects"
reference_words (cause.ActionConflict f) = codes ", and another foreign key sets a column otherwise"
reference_words _ = codes ", which isn't there"

-- so by the outcome of the statement
abbrev pub reference_words_of : Result Answer Refusal → List ℕ
reference_words_of (Ok answer) = codes ", which isn't there"
reference_words_of (Err refusal) = reference_words refusal.cause

-- the table and the key to which a row of these values refers
abbrev pub referenced_text : Schema → List Value → ForeignKey → List ℕ
referenced_text s values k =
    codes " refers to " ++ (table_name (slice_get s.tables k.referenced) ++ listed_text (key_of k.columns values))

-- The row refers to a key that doesn't do. Where its own key has a null, which only MATCH FULL refuses, it refers to none.
abbrev pub reference_text : Schema → Result Answer Refusal → List Value → ForeignKey → List ℕ
reference_text s outcome values k =
    if none_null (key_of k.columns values) then referenced_text s values k ++ reference_words_of outcome else codes " has some nulls in its key"

-- the row whose key another has
abbrev pub equal_text : StoredRow → List ℕ
equal_text other = codes " has the key of" ++ (row_number_text other.number ++ listed_text other.values)

-- so of the first of the other rows; where there is none, a key has a null
abbrev pub key_text : List StoredRow → List ℕ
key_text [] = codes " has a null in its key"
key_text (other ∷ others) = equal_text other

-- the column that is null
abbrev pub null_text : Schema → ℕ → ℕ → List ℕ
null_text s table column = codes " has NULL in " ++ column_name_in (slice_get s.tables table) column

-- the condition that is false, with the names of the columns of a table, and with the values of the row
abbrev pub check_text : List Column → List Value → Cond → List ℕ
check_text columns row condition =
    codes " makes "
    ++ (condition_text Names columns row condition ++ (codes " false (" ++ (condition_text Values columns row condition ++ codes ")")))

-- what a rule of a table finds wrong with a row
abbrev pub rule_text : Schema → Result Answer Refusal → StoredRow → List StoredRow → ℕ → Rule → List ℕ
rule_text s outcome row others table (rule.ForeignKey k) = reference_text s outcome row.values k
rule_text s outcome row others table (rule.PrimaryKey columns) = key_text others
rule_text s outcome row others table (rule.Unique nulls columns) = key_text others
rule_text s outcome row others table (rule.Check condition) = check_text (columns_of (slice_get s.tables table)) row.values condition
rule_text s outcome row others table (rule.NotNull column) = null_text s table column

-- so of a constraint that is there
abbrev pub constraint_rule_text : Schema → Result Answer Refusal → StoredRow → List StoredRow → Option Constraint → List ℕ
constraint_rule_text s outcome row others (Some k) = rule_text s outcome row others k.table k.rule
constraint_rule_text s outcome row others None = []

-- the first of the rows, and what is wrong with it
abbrev pub fault_rows_text : Schema → Result Answer Refusal → Option Constraint → List StoredRow → List ℕ
fault_rows_text s outcome constraint [] = []
fault_rows_text s outcome constraint (row ∷ others) =
    numbered_text s row.table row.number
    ++ (listed_text row.values ++ constraint_rule_text s outcome row others constraint)

abbrev pub fault_line : Schema → Result Answer Refusal → ℕ → ℕ → List StoredRow → List ℕ
fault_line s outcome depth constraint rows =
    indent depth
    ++ (described_text s (slice_get s.constraints constraint)
    ++ (codes ": " ++ (fault_rows_text s outcome (slice_get s.constraints constraint) rows ++ codes "\n")))

-- a constraint that isn't added, in the words of a violation
abbrev pub not_added_line : Schema → Result Answer Refusal → ℕ → Constraint → List StoredRow → List ℕ
not_added_line s outcome depth k rows =
    indent depth
    ++ (described_text s (Some k) ++ (codes ": " ++ (fault_rows_text s outcome (Some k) rows ++ codes "\n")))

-- ---- foreign keys that disagree

-- the key to which a row of these values refers by a rule, if that is a foreign key
abbrev pub rule_refers_text : Schema → List Value → Rule → List ℕ
rule_refers_text s values (rule.ForeignKey k) = referenced_text s values k
rule_refers_text s values _ = []

-- so by a constraint that is there
abbrev pub refers_text : Schema → List Value → Option Constraint → List ℕ
refers_text s values (Some k) = rule_refers_text s values k.rule
refers_text s values None = []

-- what the earlier foreign key sets a column of the table to
abbrev pub earlier_text : Schema → ℕ → Disagreement → List ℕ
earlier_text s table how =
    codes ", and "
    ++ (name_of (slice_get s.constraints how.earlier)
    ++ (codes " sets " ++ (column_name_in (slice_get s.tables table) how.column ++ (codes " to " ++ value_text how.earlier_value))))

-- what this one sets it to
abbrev pub later_text : Schema → ℕ → Disagreement → List ℕ
later_text s constraint how =
    codes ", where " ++ (name_of (slice_get s.constraints constraint) ++ (codes " sets it to " ++ value_text how.value))

abbrev pub settings_text : Schema → ℕ → ℕ → Disagreement → List ℕ
settings_text s table constraint how = earlier_text s table how ++ later_text s constraint how

-- the first of the rows, the key to which it refers, and how the two foreign keys disagree
abbrev pub conflict_text : Schema → ℕ → List StoredRow → Disagreement → List ℕ
conflict_text s constraint [] how = []
conflict_text s constraint (row ∷ others) how =
    numbered_text s row.table row.number
    ++ (listed_text row.values
    ++ (refers_text s row.values (slice_get s.constraints constraint) ++ settings_text s row.table constraint how))

abbrev pub conflict_line : Schema → ℕ → ℕ → List StoredRow → Disagreement → List ℕ
conflict_line s depth constraint rows how =
    indent depth
    ++ (described_text s (slice_get s.constraints constraint) ++ (codes ": " ++ (conflict_text s constraint rows how ++ codes "\n")))

-- ---- savepoints

-- a name after another
abbrev pub further_savepoint : List ℕ → List ℕ
further_savepoint name = codes ", " ++ name

-- the savepoints that stand
abbrev pub standing_words : List (List ℕ) → List ℕ
standing_words [] = codes "no savepoint stands"
standing_words (name ∷ names) = codes "savepoints that stand: " ++ (name ++ flat_map further_savepoint names)

abbrev pub standing_line : ℕ → List (List ℕ) → List ℕ
standing_line depth names = indent depth ++ (standing_words names ++ codes "\n")

-- ---- numbers out of range, and texts that are too long

-- the column, the item of a SELECT or the condition that was evaluated
abbrev pub part_name : Schema → EvaluatedFor → List ℕ
part_name s (part.Column table column) = column_name_in (slice_get s.tables table) column
part_name s (part.Item place) = codes "item " ++ decimal place
part_name s part.Where = codes "WHERE"
part_name s (part.When id) = codes "WHEN of trigger" ++ trigger_text s id

-- with the table of a column
abbrev pub part_in_table : Schema → EvaluatedFor → List ℕ
part_in_table s (part.Column table column) =
    column_name_in (slice_get s.tables table) column ++ (codes " of " ++ table_name (slice_get s.tables table))
part_in_table s evaluated = part_name s evaluated

-- what was evaluated, and the row at hand
abbrev pub evaluated_text : Schema → EvaluatedFor → RowAtHand → List ℕ
evaluated_text s evaluated (hand.Row r) =
    part_name s evaluated ++ (codes " of " ++ (numbered_text s r.table r.number ++ listed_text r.values))
evaluated_text s evaluated (hand.Source r) =
    part_in_table s evaluated ++ (codes " from " ++ (numbered_text s r.table r.number ++ listed_text r.values))
evaluated_text s evaluated (hand.Variables old new) =
    part_in_table s evaluated ++ (side_text (codes " OLD") old ++ side_text (codes " NEW") new)

abbrev pub operator_text : Operator → List ℕ
operator_text Plus = codes " + "
operator_text Minus = codes " - "
operator_text Times = codes " * "

abbrev pub failure_text : ValueFailure → List ℕ
failure_text (OutOfRange left operator right) =
    codes ": " ++ (signed_decimal left ++ (operator_text operator ++ (signed_decimal right ++ codes " is out of range")))
failure_text (TooLong most length) =
    (codes " is VARCHAR(" ++ (decimal most ++ codes "), and the text has ")) ++ (decimal length ++ codes " characters")

abbrev pub failure_line : Schema → ℕ → FailedEvaluation → List ℕ
failure_line s depth f = indent depth ++ (evaluated_text s f.part f.row ++ (failure_text f.failure ++ codes "\n"))

-- ---- entries

-- the next of these entries is an end
abbrev pub ends_next : List Entry → Bool
ends_next (Ended ∷ entries) = true
ends_next _ = false

-- the lines of an entry at this depth, before these further entries
abbrev pub entry_text : Schema → Result Answer Refusal → ℕ → Entry → List Entry → List ℕ
entry_text s outcome depth (Changed changes) further = change_lines s depth [] changes
entry_text s outcome depth (Acted actions) further = action_lines s depth actions
entry_text s outcome depth (Ran id seen) further = ran_lines s depth id seen
entry_text s outcome depth (Skipped id seen) further = skipped_line s depth id seen
entry_text s outcome depth (Began place) further = began_line depth place (ends_next further)
entry_text s outcome depth Ended further = []
entry_text s outcome depth (Faulted fault rows) further = fault_line s outcome depth fault.constraint rows
entry_text s outcome depth (Disagreed fault rows how) further = conflict_line s depth fault.constraint rows how
entry_text s outcome depth (Failed f) further = failure_line s depth f
entry_text s outcome depth (Standing names) further = standing_line depth names
entry_text s outcome depth (NotAdded k rows) further = not_added_line s outcome depth k rows

-- the lines of entries, of which the first is at this depth
abbrev pub entries_text : Schema → Result Answer Refusal → ℕ → List Entry → List ℕ
entries_text s outcome depth [] = []
entries_text s outcome depth (entry ∷ entries) =
    entry_text s outcome depth entry entries ++ entries_text s outcome (depth_after depth entry) entries

-- The lines of the account of a statement with this outcome, in a session with these limits, with names as the catalogue has them after it.
abbrev pub account_text : Schema → Bounds → Result Answer Refusal → List Entry → List ℕ
account_text s limits outcome entries = entries_text s outcome 0 entries ++ limit_line s limits entries outcome
