-- What C reads of the catalogue: tables, constraints and triggers by their places in the order of creation, columns by their places in
-- their table. Places count from 0.
use Rattle.std.specs.Prelude.{ℕ, Bool, List, [], ◌∷◌, length, slice_get, Option, Some, None, option_and_then, option_map, if◌then◌else◌, get_or}
use Rattle.iv_catalogue.specs.Catalogues.{Schema}
use Rattle.iv_catalogue.specs.declared.catalogue.Column.{Column}
use Rattle.iv_catalogue.specs.declared.constraint.Constraint.{Constraint}
use Rattle.iv_catalogue.specs.declared.constraint.Rule.{Rule}
use Rattle.iv_catalogue.specs.declared.constraint.Rule.TheVariants.{NotNull, Check, Unique, PrimaryKey, ForeignKey}
use Rattle.iv_catalogue.specs.declared.plan.Trigger.{Trigger}
use Rattle.iv_syntax.specs.declared.statement.ConstraintMode.{ConstraintMode}
use Rattle.iv_syntax.specs.declared.statement.ConstraintMode.TheVariants as mode
use Rattle.iv_syntax.specs.declared.table.MatchType.{MatchType}
use Rattle.iv_syntax.specs.declared.table.MatchType.TheVariants as match
use Rattle.iv_syntax.specs.declared.table.NullTreatment.{NullTreatment}
use Rattle.iv_syntax.specs.declared.table.NullTreatment.TheVariants as nulls
use Rattle.iv_syntax.specs.declared.table.ReferentialAction.{ReferentialAction}
use Rattle.iv_syntax.specs.declared.table.ReferentialAction.TheVariants as action
use Rattle.iv_syntax.specs.declared.trigger.ActionTime.{ActionTime}
use Rattle.iv_syntax.specs.declared.trigger.ActionTime.TheVariants as time
use Rattle.iv_syntax.specs.declared.trigger.Granularity.{Granularity}
use Rattle.iv_syntax.specs.declared.trigger.Granularity.TheVariants as granularity
use Rattle.iv_syntax.specs.declared.trigger.TriggerEvent.{TriggerEvent}
use Rattle.iv_syntax.specs.declared.trigger.TriggerEvent.TheVariants as event
use Rattle.iv_value.specs.declared.value.Kind.{Kind}
use Rattle.iv_value.specs.declared.value.Kind.TheVariants.{Integer, Varchar}
use Rattle.iv_shown.specs.declared.tables.ShownCatalogue.{ShownCatalogue}
use Rattle.iv_shown.specs.declared.tables.ShownColumn.{ShownColumn}
use Rattle.iv_shown.specs.declared.constraints.ShownConstraint.{ShownConstraint}
use Rattle.iv_shown.specs.declared.triggers.ShownTrigger.{ShownTrigger}

-- how many there are
abbrev pub catalogue_shown : Schema → ShownCatalogue
catalogue_shown s = record { tables = length s.tables; constraints = length s.constraints; triggers = length s.triggers }

-- ---- tables and their columns

abbrev pub columns_at : Schema → ℕ → Option (List Column)
columns_at s table = option_map (λ t. t.columns) (slice_get s.tables table)

abbrev pub table_name : Schema → ℕ → Option (List ℕ)
table_name s table = option_map (λ t. t.name) (slice_get s.tables table)

abbrev pub column_at : Schema → ℕ → ℕ → Option Column
column_at s table column = option_and_then (λ columns. slice_get columns column) (columns_at s table)

abbrev pub column_name : Schema → ℕ → ℕ → Option (List ℕ)
column_name s table column = option_map (λ c. c.name) (column_at s table column)

-- 1 is INTEGER, 2 is VARCHAR with the most characters that a value may have
abbrev pub kind_shown : Kind → ShownColumn
kind_shown Integer = record { kind = 1; longest = 0 }
kind_shown (Varchar n) = record { kind = 2; longest = n }

-- ---- constraints

abbrev pub mode_number : ConstraintMode → ℕ
mode_number mode.Immediate = 0
mode_number mode.Deferred = 1

-- the mode now of the constraint at this place
abbrev pub mode_at : List ConstraintMode → ℕ → Option ℕ
mode_at modes at = option_map mode_number (slice_get modes at)

abbrev pub nulls_number : NullTreatment → ℕ
nulls_number nulls.Distinct = 0
nulls_number nulls.NotDistinct = 1

abbrev pub match_number : MatchType → ℕ
match_number match.Simple = 0
match_number match.Full = 1

abbrev pub action_number : ReferentialAction → ℕ
action_number action.NoAction = 0
action_number action.Restrict = 1
action_number action.Cascade = 2
action_number action.SetNull = 3
action_number action.SetDefault = 4

-- 0 is NOT NULL, 1 CHECK, 2 UNIQUE, 3 PRIMARY KEY, 4 FOREIGN KEY
abbrev pub rule_number : Rule → ℕ
rule_number (NotNull column) = 0
rule_number (Check condition) = 1
rule_number (Unique nulls columns) = 2
rule_number (PrimaryKey columns) = 3
rule_number (ForeignKey key) = 4

-- the columns that a constraint is of; a CHECK has none
abbrev pub columns_of : Rule → List ℕ
columns_of (NotNull column) = column ∷ []
columns_of (Check condition) = []
columns_of (Unique nulls columns) = columns
columns_of (PrimaryKey columns) = columns
columns_of (ForeignKey key) = key.columns

-- the columns that they refer to, each at the place of its referencing column; none where the constraint is no foreign key
abbrev pub referenced_of : Rule → List ℕ
referenced_of (ForeignKey key) = key.key
referenced_of _ = []

-- Whether nulls are equal, of UNIQUE; the table that is referred to, the match type, and the actions on delete and on update, of a
-- foreign key. They are 0 elsewhere.
abbrev pub nulls_of : Rule → ℕ
nulls_of (Unique nulls columns) = nulls_number nulls
nulls_of _ = 0

abbrev pub referenced_table_of : Rule → ℕ
referenced_table_of (ForeignKey key) = key.referenced
referenced_table_of _ = 0

abbrev pub match_of : Rule → ℕ
match_of (ForeignKey key) = match_number key.matching
match_of _ = 0

abbrev pub on_delete_of : Rule → ℕ
on_delete_of (ForeignKey key) = action_number key.on_delete
on_delete_of _ = 0

abbrev pub on_update_of : Rule → ℕ
on_update_of (ForeignKey key) = action_number key.on_update
on_update_of _ = 0

abbrev pub constraint_shown : Constraint → ShownConstraint
constraint_shown c = record {
  kind = rule_number c.rule;
  table = c.table;
  columns = length (columns_of c.rule);
  deferrable = if c.deferrable then 1 else 0;
  initially = mode_number c.initially;
  nulls = nulls_of c.rule;
  referenced = referenced_table_of c.rule;
  matching = match_of c.rule;
  on_delete = on_delete_of c.rule;
  on_update = on_update_of c.rule;
}

abbrev pub constraint_name : Schema → ℕ → Option (List ℕ)
constraint_name s at = option_map (λ c. c.name) (slice_get s.constraints at)

abbrev pub constraint_column : Schema → ℕ → ℕ → Option ℕ
constraint_column s at place = option_and_then (λ c. slice_get (columns_of c.rule) place) (slice_get s.constraints at)

abbrev pub referenced_column : Schema → ℕ → ℕ → Option ℕ
referenced_column s at place = option_and_then (λ c. slice_get (referenced_of c.rule) place) (slice_get s.constraints at)

-- ---- triggers

abbrev pub time_number : ActionTime → ℕ
time_number time.Before = 0
time_number time.After = 1

abbrev pub event_number : TriggerEvent → ℕ
event_number event.Insert = 0
event_number event.Update = 1
event_number event.Delete = 2

abbrev pub granularity_number : Granularity → ℕ
granularity_number granularity.Row = 0
granularity_number granularity.Statement = 1

abbrev pub trigger_shown : Trigger → ShownTrigger
trigger_shown t = record {
  table = t.table;
  time = time_number t.time;
  event = event_number t.event;
  granularity = granularity_number t.granularity;
  columns = length t.columns;
  statements = length t.body;
}

abbrev pub trigger_name_at : Schema → ℕ → Option (List ℕ)
trigger_name_at s at = option_map (λ t. t.name) (slice_get s.triggers at)

-- a column of UPDATE OF
abbrev pub trigger_column : Schema → ℕ → ℕ → Option ℕ
trigger_column s at place = option_and_then (λ t. slice_get t.columns place) (slice_get s.triggers at)
