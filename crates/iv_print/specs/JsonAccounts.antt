-- An account as JSON: an array of entries. The entries of a nested statement are an array in the entry with which it begins.
use Rattle.std.specs.Prelude.{ℕ, ℤ, zero, suc, Bool, true, false, if◌then◌else◌, List, [], ◌∷◌, ◌++◌, codes, decimal, slice_get, Option, Some, None, Result, Ok, Err}
use Rattle.std.specs.List.{flat_map}
use Rattle.std.specs.Fmt.{signed_decimal}
use Rattle.iv_value.specs.declared.value.Value.{Value}
use Rattle.iv_key.specs.Keys.{key_of, none_null}
use Rattle.iv_expr.specs.declared.row.StoredRow.{StoredRow}
use Rattle.iv_expr.specs.declared.tree.Cond.{Cond}
use Rattle.iv_expr.specs.declared.row.Change.{Change}
use Rattle.iv_syntax.specs.declared.table.ReferentialAction.{ReferentialAction}
use Rattle.iv_syntax.specs.declared.table.ReferentialAction.TheVariants as action
use Rattle.iv_syntax.specs.declared.trigger.TriggerEvent.{TriggerEvent}
use Rattle.iv_syntax.specs.declared.trigger.TriggerEvent.TheVariants as event
use Rattle.iv_catalogue.specs.Catalogues.{Schema, trigger_numbered}
use Rattle.iv_catalogue.specs.declared.catalogue.Column.{Column}
use Rattle.iv_catalogue.specs.declared.constraint.Constraint.{Constraint}
use Rattle.iv_catalogue.specs.declared.constraint.ForeignKey.{ForeignKey}
use Rattle.iv_catalogue.specs.declared.constraint.Rule.{Rule}
use Rattle.iv_catalogue.specs.declared.constraint.Rule.TheVariants as rule
use Rattle.iv_catalogue.specs.declared.cause.Cause.{Cause}
use Rattle.iv_catalogue.specs.declared.cause.Cause.TheVariants as cause
use Rattle.iv_catalogue.specs.declared.cause.Refusal.{Refusal}
use Rattle.iv_machine.specs.declared.answer.Answer.{Answer}
use Rattle.iv_machine.specs.BeforeTriggers.{event_of_change}
use Rattle.iv_machine.specs.Bounds.{Bounds}
use Rattle.iv_account.specs.declared.entry.RowAction.{RowAction}
use Rattle.iv_account.specs.declared.entry.TriggerView.{TriggerView}
use Rattle.iv_account.specs.declared.entry.SkippedView.{SkippedView}
use Rattle.iv_account.specs.declared.entry.Disagreement.{Disagreement}
use Rattle.iv_account.specs.declared.entry.Entry.{Entry}
use Rattle.iv_account.specs.declared.entry.Entry.TheVariants.{Changed, Acted, Ran, Skipped, Began, Ended, Faulted, Disagreed, Failed, Standing, NotAdded}
use Rattle.iv_account.specs.declared.failure.Operator.{Operator}
use Rattle.iv_account.specs.declared.failure.Operator.TheVariants.{Plus, Minus, Times}
use Rattle.iv_account.specs.declared.failure.ValueFailure.{ValueFailure}
use Rattle.iv_account.specs.declared.failure.ValueFailure.TheVariants.{OutOfRange, TooLong}
use Rattle.iv_account.specs.declared.failure.RowAtHand.{RowAtHand}
use Rattle.iv_account.specs.declared.failure.RowAtHand.TheVariants as hand
use Rattle.iv_account.specs.declared.failure.EvaluatedFor.{EvaluatedFor}
use Rattle.iv_account.specs.declared.failure.EvaluatedFor.TheVariants as part
use Rattle.iv_account.specs.declared.failure.FailedEvaluation.{FailedEvaluation}
use Rattle.iv_text.specs.Lines.{name_of, trigger_name}
use Rattle.iv_text.specs.Conditions.{condition_text}
use Rattle.iv_text.specs.declared.condition.Shown.TheVariants.{Names, Values}
use Rattle.iv_text.specs.Rules.{columns_of, constraint_words}
use Rattle.iv_print.specs.AccountLines.{column_name_in, depth_after, ends_next, table_name, truth_name}
use Rattle.iv_text.specs.Ways.{limit_of, limit_text}
use Rattle.iv_text.specs.declared.way.Limit.{Limit}
use Rattle.iv_text.specs.Json.{json_row, json_text, json_value, json_values, key, member}

-- ---- rows and changes

-- the table and the number of a row
abbrev pub place_members : Schema → ℕ → ℕ → List ℕ
place_members s table row =
    member (codes "table") ++ (json_text (table_name (slice_get s.tables table)) ++ (member (codes "row") ++ decimal row))

-- a row by this name, where there is one
abbrev pub side_member : List ℕ → Option (List Value) → List ℕ
side_member name (Some values) = member name ++ json_row values
side_member name None = []

abbrev pub event_name : TriggerEvent → List ℕ
event_name event.Insert = codes "insert"
event_name event.Delete = codes "delete"
event_name event.Update = codes "update"

-- the event of a change
abbrev pub event_member : Change → List ℕ
event_member c = key (codes "event") ++ json_text (event_name (event_of_change c))

-- what the row was, and what it is
abbrev pub side_members : Change → List ℕ
side_members c = side_member (codes "old") c.old ++ side_member (codes "new") c.new

abbrev pub json_change : Schema → Change → List ℕ
json_change s c = codes "{" ++ (event_member c ++ (place_members s c.table c.row ++ (side_members c ++ codes "}")))

-- a change after another
abbrev pub further_change : Schema → Change → List ℕ
further_change s c = codes "," ++ json_change s c

abbrev pub json_changes : Schema → List Change → List ℕ
json_changes s [] = []
json_changes s (c ∷ cs) = json_change s c ++ flat_map (further_change s) cs

-- ---- referential actions

abbrev pub action_name : ReferentialAction → List ℕ
action_name action.NoAction = codes "NO ACTION"
action_name action.Restrict = codes "RESTRICT"
action_name action.Cascade = codes "CASCADE"
action_name action.SetNull = codes "SET NULL"
action_name action.SetDefault = codes "SET DEFAULT"

-- the foreign key that acts, and its action
abbrev pub acting_members : Schema → RowAction → List ℕ
acting_members s a =
    key (codes "constraint")
    ++ (json_text (name_of (slice_get s.constraints a.constraint)) ++ (member (codes "action") ++ json_text (action_name a.action)))

abbrev pub json_action : Schema → RowAction → List ℕ
json_action s a = codes "{" ++ (acting_members s a ++ (place_members s a.table a.row ++ codes "}"))

-- an action after another
abbrev pub further_action : Schema → RowAction → List ℕ
further_action s a = codes "," ++ json_action s a

abbrev pub json_actions : Schema → List RowAction → List ℕ
json_actions s [] = []
json_actions s (a ∷ others) = json_action s a ++ flat_map (further_action s) others

-- ---- violations

abbrev pub because : List ℕ → List ℕ
because reason = member (codes "because") ++ json_text reason

-- why the key to which a row refers doesn't do
abbrev pub cause_reason : Cause → List ℕ
cause_reason (cause.Restrict f) = codes "protected_key"
cause_reason (cause.ActionConflict f) = codes "action_conflict"
cause_reason _ = codes "missing_key"

-- the same by the outcome of the statement
abbrev pub reference_reason : Result Answer Refusal → List ℕ
reference_reason (Ok answer) = codes "missing_key"
reference_reason (Err r) = cause_reason r.cause

-- the table and the key to which a row of these values refers
abbrev pub referenced_members : Schema → List Value → ForeignKey → List ℕ
referenced_members s values k =
    member (codes "referenced")
    ++ (json_text (table_name (slice_get s.tables k.referenced))
    ++ (member (codes "key") ++ (codes "[" ++ (json_values (key_of k.columns values) ++ codes "]"))))

-- The key to which a row refers doesn't do. Where its own key has a null, which only MATCH FULL refuses, it refers to none.
abbrev pub reference_members : Schema → Result Answer Refusal → List Value → ForeignKey → List ℕ
reference_members s outcome values k =
    if none_null (key_of k.columns values) then because (reference_reason outcome) ++ referenced_members s values k else because (codes "some_nulls")

-- the first other row that has the same key
abbrev pub equal_members : StoredRow → List ℕ
equal_members other =
    because (codes "equal_key")
    ++ (member (codes "other_row") ++ (decimal other.number ++ (member (codes "other") ++ json_row other.values)))

-- the same of the other rows; where there is none, a key has a null
abbrev pub key_members : List StoredRow → List ℕ
key_members [] = because (codes "null_in_key")
key_members (other ∷ others) = equal_members other

-- the column that is null
abbrev pub null_members : Schema → ℕ → ℕ → List ℕ
null_members s table column =
    because (codes "null") ++ (member (codes "column") ++ json_text (column_name_in (slice_get s.tables table) column))

-- the condition that is false, with the names of the columns of a table, and with the values of the row
abbrev pub check_members : List Column → List Value → Cond → List ℕ
check_members columns row condition =
    because (codes "false_condition")
    ++ (member (codes "condition")
    ++ (json_text (condition_text Names columns row condition)
    ++ (member (codes "with_values") ++ json_text (condition_text Values columns row condition))))

-- what a rule of a table finds wrong with a row
abbrev pub rule_members : Schema → Result Answer Refusal → StoredRow → List StoredRow → ℕ → Rule → List ℕ
rule_members s outcome row others table (rule.ForeignKey k) = reference_members s outcome row.values k
rule_members s outcome row others table (rule.PrimaryKey columns) = key_members others
rule_members s outcome row others table (rule.Unique nulls columns) = key_members others
rule_members s outcome row others table (rule.Check condition) = check_members (columns_of (slice_get s.tables table)) row.values condition
rule_members s outcome row others table (rule.NotNull column) = null_members s table column

-- the same of a constraint that is there
abbrev pub constraint_rule_members : Schema → Result Answer Refusal → StoredRow → List StoredRow → Option Constraint → List ℕ
constraint_rule_members s outcome row others (Some k) = rule_members s outcome row others k.table k.rule
constraint_rule_members s outcome row others None = []

-- the first of the rows, and what is wrong with it
abbrev pub violation_members : Schema → Result Answer Refusal → Option Constraint → List StoredRow → List ℕ
violation_members s outcome constraint [] = []
violation_members s outcome constraint (row ∷ others) =
    place_members s row.table row.number
    ++ (member (codes "values") ++ (json_row row.values ++ constraint_rule_members s outcome row others constraint))

-- ---- foreign keys that disagree

-- why, and the key to which a row of these values refers by a rule, if that is a foreign key
abbrev pub rule_refers_members : Schema → List Value → Rule → List ℕ
rule_refers_members s values (rule.ForeignKey k) = because (codes "action_conflict") ++ referenced_members s values k
rule_refers_members s values _ = []

-- the same by a constraint that is there
abbrev pub refers_members : Schema → List Value → Option Constraint → List ℕ
refers_members s values (Some k) = rule_refers_members s values k.rule
refers_members s values None = []

-- the earlier foreign key, the column of the table, and what this one and that one set it to
abbrev pub settings_members : Schema → ℕ → Disagreement → List ℕ
settings_members s table how =
    member (codes "other_constraint")
    ++ (json_text (name_of (slice_get s.constraints how.earlier))
    ++ (member (codes "column")
    ++ (json_text (column_name_in (slice_get s.tables table) how.column)
    ++ (member (codes "value") ++ (json_value how.value ++ (member (codes "other_value") ++ json_value how.earlier_value))))))

-- the first of the rows, the key to which it refers, and how the two foreign keys disagree
abbrev pub conflict_members : Schema → Option Constraint → List StoredRow → Disagreement → List ℕ
conflict_members s constraint [] how = []
conflict_members s constraint (row ∷ others) how =
    place_members s row.table row.number
    ++ (member (codes "values")
    ++ (json_row row.values ++ (refers_members s row.values constraint ++ settings_members s row.table how)))

-- ---- numbers out of range, and texts that are too long

-- what was evaluated: the value of a column, an item of a SELECT, or a condition
abbrev pub part_members : Schema → EvaluatedFor → List ℕ
part_members s (part.Column table column) =
    member (codes "part")
    ++ (json_text (codes "column")
    ++ (member (codes "column_of")
    ++ (json_text (table_name (slice_get s.tables table))
    ++ (member (codes "column") ++ json_text (column_name_in (slice_get s.tables table) column)))))
part_members s (part.Item place) =
    member (codes "part") ++ (json_text (codes "item") ++ (member (codes "item") ++ decimal place))
part_members s part.Where = member (codes "part") ++ json_text (codes "where")
part_members s (part.When id) =
    member (codes "part")
    ++ (json_text (codes "when") ++ (member (codes "trigger") ++ json_text (trigger_name (trigger_numbered s id))))

-- a row with its table and number
abbrev pub stored_members : Schema → StoredRow → List ℕ
stored_members s r = place_members s r.table r.number ++ (member (codes "values") ++ json_row r.values)

-- the row at hand; it is said of one from which an INSERT takes its values
abbrev pub hand_members : Schema → RowAtHand → List ℕ
hand_members s (hand.Row r) = stored_members s r
hand_members s (hand.Source r) = member (codes "source") ++ (codes "true" ++ stored_members s r)
hand_members s (hand.Variables old new) = side_member (codes "old") old ++ side_member (codes "new") new

abbrev pub operator_sign : Operator → List ℕ
operator_sign Plus = codes "+"
operator_sign Minus = codes "-"
operator_sign Times = codes "*"

abbrev pub integer_member : List ℕ → ℤ → List ℕ
integer_member name number = member name ++ signed_decimal number

abbrev pub operator_member : Operator → List ℕ
operator_member operator = member (codes "operator") ++ json_text (operator_sign operator)

-- the two numbers and the operator, or the length of the column and that of the text
abbrev pub failure_members : ValueFailure → List ℕ
failure_members (OutOfRange left operator right) =
    because (codes "out_of_range")
    ++ (integer_member (codes "left") left ++ (operator_member operator ++ integer_member (codes "right") right))
failure_members (TooLong most length) =
    because (codes "too_long") ++ (member (codes "most") ++ (decimal most ++ (member (codes "length") ++ decimal length)))

-- ---- entries

-- the front of an entry: its kind
abbrev pub entry_key : List ℕ → List ℕ
entry_key kind = codes "{" ++ (key (codes "entry") ++ json_text kind)

abbrev pub changed_entry : Schema → List Change → List ℕ
changed_entry s changes = entry_key (codes "changes") ++ (member (codes "changes") ++ (codes "[" ++ (json_changes s changes ++ codes "]}")))

abbrev pub acted_entry : Schema → List RowAction → List ℕ
acted_entry s actions = entry_key (codes "actions") ++ (member (codes "actions") ++ (codes "[" ++ (json_actions s actions ++ codes "]}")))

-- the changes of a trigger's transition tables
abbrev pub saw_member : Schema → List Change → List ℕ
saw_member s changes = member (codes "saw") ++ (codes "[" ++ (json_changes s changes ++ codes "]}"))

-- what a trigger saw: its rows, and these changes
abbrev pub seen_members : Schema → TriggerView → List ℕ
seen_members s seen = side_member (codes "old") seen.old ++ (side_member (codes "new") seen.new ++ saw_member s seen.transition)

abbrev pub ran_entry : Schema → ℕ → TriggerView → List ℕ
ran_entry s id seen =
    entry_key (codes "trigger")
    ++ (member (codes "trigger") ++ (json_text (trigger_name (trigger_numbered s id)) ++ seen_members s seen))

-- what a trigger saw that is skipped, and the truth of its WHEN
abbrev pub skipped_members : SkippedView → List ℕ
skipped_members seen =
    side_member (codes "old") seen.old
    ++ (side_member (codes "new") seen.new ++ (member (codes "when") ++ (json_text (truth_name seen.when) ++ codes "}")))

abbrev pub skipped_entry : Schema → ℕ → SkippedView → List ℕ
skipped_entry s id seen =
    entry_key (codes "skipped")
    ++ (member (codes "trigger") ++ (json_text (trigger_name (trigger_numbered s id)) ++ skipped_members seen))

-- a statement that ends as it begins
abbrev pub changes_nothing : List ℕ
changes_nothing = member (codes "changes_nothing") ++ codes "true"

abbrev pub nothing_member : Bool → List ℕ
nothing_member true = changes_nothing
nothing_member false = []

-- A nested statement by its place in the trigger's body. Its entries follow, in an array that its end closes.
abbrev pub began_entry : ℕ → Bool → List ℕ
began_entry place nothing =
    entry_key (codes "statement")
    ++ (member (codes "number") ++ (decimal place ++ (nothing_member nothing ++ (member (codes "account") ++ codes "["))))

-- a constraint, and what it asks, if it is there
abbrev pub asked_member : Schema → Option Constraint → List ℕ
asked_member s (Some k) = member (codes "rule") ++ json_text (constraint_words s k)
asked_member s None = []

abbrev pub described_members : Schema → ℕ → List ℕ
described_members s constraint =
    member (codes "constraint")
    ++ (json_text (name_of (slice_get s.constraints constraint)) ++ asked_member s (slice_get s.constraints constraint))

abbrev pub violation_entry : Schema → Result Answer Refusal → ℕ → List StoredRow → List ℕ
violation_entry s outcome constraint rows =
    entry_key (codes "violation")
    ++ (described_members s constraint ++ (violation_members s outcome (slice_get s.constraints constraint) rows ++ codes "}"))

abbrev pub conflict_entry : Schema → ℕ → List StoredRow → Disagreement → List ℕ
conflict_entry s constraint rows how =
    entry_key (codes "violation")
    ++ (described_members s constraint ++ (conflict_members s (slice_get s.constraints constraint) rows how ++ codes "}"))

abbrev pub failure_entry : Schema → FailedEvaluation → List ℕ
failure_entry s f =
    entry_key (codes "failure") ++ (part_members s f.part ++ (hand_members s f.row ++ (failure_members f.failure ++ codes "}")))

-- the same of a constraint that the schema doesn't have
abbrev pub described_members_of : Schema → Constraint → List ℕ
described_members_of s k = member (codes "constraint") ++ (json_text k.name ++ asked_member s (Some k))

-- a constraint that isn't added, in the members of a violation
abbrev pub not_added_entry : Schema → Result Answer Refusal → Constraint → List StoredRow → List ℕ
not_added_entry s outcome k rows =
    entry_key (codes "not_added") ++ (described_members_of s k ++ (violation_members s outcome (Some k) rows ++ codes "}"))

-- names after one another
abbrev pub further_name : List ℕ → List ℕ
further_name name = codes "," ++ json_text name

abbrev pub json_names : List (List ℕ) → List ℕ
json_names [] = []
json_names (name ∷ names) = json_text name ++ flat_map further_name names

-- the savepoints that stand
abbrev pub standing_entry : List (List ℕ) → List ℕ
standing_entry names =
    entry_key (codes "savepoints") ++ (member (codes "standing") ++ (codes "[" ++ (json_names names ++ codes "]}")))

-- an entry before these further entries
abbrev pub json_entry : Schema → Result Answer Refusal → Entry → List Entry → List ℕ
json_entry s outcome (Changed changes) further = changed_entry s changes
json_entry s outcome (Acted actions) further = acted_entry s actions
json_entry s outcome (Ran id seen) further = ran_entry s id seen
json_entry s outcome (Skipped id seen) further = skipped_entry s id seen
json_entry s outcome (Began place) further = began_entry place (ends_next further)
json_entry s outcome Ended further = codes "]}"
json_entry s outcome (Faulted fault rows) further = violation_entry s outcome fault.constraint rows
json_entry s outcome (Disagreed fault rows how) further = conflict_entry s fault.constraint rows how
json_entry s outcome (Failed f) further = failure_entry s f
json_entry s outcome (Standing names) further = standing_entry names
json_entry s outcome (NotAdded k rows) further = not_added_entry s outcome k rows

-- what stands between an entry and what is before it: a comma, unless it is the first of its array, or ends one
abbrev pub separator : Bool → Entry → List ℕ
separator true entry = []
separator false Ended = []
separator false entry = codes ","

-- whether the next entry is the first of its array
abbrev pub begins : Entry → Bool
begins (Began place) = true
begins _ = false

-- the ends of so many statements that are refused, and so have none
abbrev pub ends : ℕ → List ℕ
ends zero = []
ends (suc depth) = codes "]}" ++ ends depth

-- the entries from one on that is so deep, and is the first of its array or isn't
abbrev pub json_entries : Schema → Result Answer Refusal → ℕ → Bool → List Entry → List ℕ
json_entries s outcome depth first [] = ends depth
json_entries s outcome depth first (entry ∷ entries) =
    separator first entry
    ++ (json_entry s outcome entry entries ++ json_entries s outcome (depth_after depth entry) (begins entry) entries)

-- these entries, in an array
abbrev pub entry_list : Schema → Result Answer Refusal → List Entry → List ℕ
entry_list s outcome entries = codes "[" ++ (json_entries s outcome 0 true entries ++ codes "]")

-- a further entry, if there are some
abbrev pub limit_separator : List Entry → List ℕ
limit_separator [] = []
limit_separator (entry ∷ entries) = codes ","

-- which limit, and the way that led there
abbrev pub limit_object : Schema → Bounds → List Entry → Limit → List ℕ
limit_object s limits entries limit =
    entry_key (codes "limit") ++ (member (codes "text") ++ (json_text (limit_text s limits entries limit) ++ codes "}"))

-- the last entry of a statement that is refused for a limit
abbrev pub limit_entry : Schema → Bounds → List Entry → Result Answer Refusal → List ℕ
limit_entry s limits entries (Ok a) = []
limit_entry s limits entries (Err r) =
    elim (limit_of r.cause) [ Some limit ↦ limit_separator entries ++ limit_object s limits entries limit | None ↦ [] ]

-- The account of a statement with this outcome, in a session with these limits, with names as the catalogue has them after it.
abbrev pub json_account : Schema → Bounds → Result Answer Refusal → List Entry → List ℕ
json_account s limits outcome entries = codes "[" ++ (json_entries s outcome 0 true entries ++ (limit_entry s limits entries outcome ++ codes "]"))
