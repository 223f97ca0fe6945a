-- Which rule of definitions a statement breaks that is refused for SchemaFault. The rules are asked one after another in the order of
-- `is_faulty`, and of each rule the first place in the text is told.
use Rattle.std.specs.Prelude.{ℕ, ◌+◌, true, false, not, ◌&&◌, ◌==◌, List, length, filter, zip, Option, Some, None, slice_get, option_map}
use Rattle.std.specs.List.{enumerate_from, list_any}
use Rattle.std.specs.Option.{option_or}
use Rattle.iv_expr.specs.declared.tree.Side.{Side}
use Rattle.iv_expr.specs.declared.tree.Side.TheVariants as side
use Rattle.iv_syntax.specs.declared.table.ColumnDefinition.{ColumnDefinition}
use Rattle.iv_syntax.specs.declared.table.ColumnType.{ColumnType}
use Rattle.iv_syntax.specs.declared.table.Literal.{Literal}
use Rattle.iv_syntax.specs.declared.table.References.{References}
use Rattle.iv_syntax.specs.declared.table.TableElement.{TableElement}
use Rattle.iv_syntax.specs.declared.table.TableConstraint.{TableConstraint}
use Rattle.iv_syntax.specs.declared.statement.Statement.{Statement}
use Rattle.iv_syntax.specs.declared.statement.Statement.TheVariants as statement
use Rattle.iv_syntax.specs.declared.trigger.Referencing.{Referencing}
use Rattle.iv_syntax.specs.declared.trigger.TransitionName.{TransitionName}
use Rattle.iv_syntax.specs.declared.trigger.TransitionName.TheVariants as what
use Rattle.iv_syntax.specs.declared.trigger.TriggerAction.{TriggerAction}
use Rattle.iv_syntax.specs.declared.trigger.TriggerAction.TheVariants as action
use Rattle.iv_syntax.specs.declared.trigger.TriggerDefinition.{TriggerDefinition}
use Rattle.iv_syntax.specs.declared.trigger.TriggerEvent.{TriggerEvent}
use Rattle.iv_catalogue.specs.Catalogues.{Schema}
use Rattle.iv_resolution.specs.Scopes.{NamedColumn, NamedRange, type_named}
use Rattle.iv_resolution.specs.Terms.{has_exists}
use Rattle.iv_resolution.specs.Constraints.{WrittenRule, check, foreign_key, WrittenConstraint, written_columns, written_constraints, table_constraint, constraints_of, is_contradictory, primary_key_of, is_reliable, same_type, Referenced, Altered, referenced, literal_fits}
use Rattle.iv_resolution.specs.Tables.{created_table, is_primary_rule}
use Rattle.iv_resolution.specs.Triggers.{trigger_variables, variable_named, is_before, for_each_row, has_side, item_twice, is_old}
use Rattle.iv_resolution.specs.Items.{Item, told_if, first_of}
use Rattle.iv_resolution.specs.NameFaults.{item_of_constraint, told_of_altered}

-- What is wrong with a reference: so many referencing columns refer to so many others; a referencing column and the one that it refers
-- to, each with its type; the columns of the list are no key that is NOT DEFERRABLE; there is no primary key; it is DEFERRABLE.
pub data ReferenceFault : Type 0 where
  pair_count : ℕ → ℕ → ReferenceFault
  pair_types : List ℕ → ColumnType → List ℕ → ColumnType → ReferenceFault
  no_reliable_key : List (List ℕ) → ReferenceFault
  no_primary_key : ReferenceFault
  deferrable_primary_key : ReferenceFault

-- The rule that is broken. A table, which has no column. A column, its type, and a DEFAULT that doesn't fit. A constraint: the second
-- PRIMARY KEY of the table; NOT DEFERRABLE and INITIALLY DEFERRED; a CHECK with EXISTS; a foreign key, the table that it refers to and
-- what is wrong. An item of REFERENCING, by what it names, that comes twice. A name of REFERENCING: of the old or new side, which the event
-- doesn't have; of a row variable without FOR EACH ROW; of a transition table in a BEFORE trigger. A statement of a body by its number
-- from 1: INSERT, UPDATE or DELETE in a BEFORE trigger; SET in an AFTER trigger; SET without FOR EACH ROW; SET of the row variable
-- OLD, with the variable and the column.
pub data SchemaFault : Type 0 where
  columnless_table : List ℕ → SchemaFault
  unfit_default : List ℕ → ColumnType → Literal → SchemaFault
  second_primary_key : Item → SchemaFault
  contradictory_time : Item → SchemaFault
  exists_in_check : Item → SchemaFault
  reference_at_fault : Item → List ℕ → ReferenceFault → SchemaFault
  item_again : Side → TransitionName → SchemaFault
  side_without_rows : List ℕ → Side → TriggerEvent → SchemaFault
  row_of_statement : List ℕ → SchemaFault
  table_before : List ℕ → SchemaFault
  change_before : ℕ → SchemaFault
  set_after : ℕ → SchemaFault
  set_of_statement : ℕ → SchemaFault
  set_of_old : ℕ → List ℕ → List ℕ → SchemaFault

-- ---- foreign keys

unfoldable pub types_told : List ℕ → Option ColumnType → List ℕ → Option ColumnType → Option ReferenceFault
types_told a (Some kind) b (Some other) = told_if (not (same_type kind other)) (pair_types a kind b other)
types_told a _ b _ = None

-- the first pair of columns at one place that differ in type
unfoldable pub fault_of_types : List NamedColumn → List NamedColumn → List (List ℕ × List ℕ) → Option ReferenceFault
fault_of_types columns others pairs = first_of (λ p. types_told p.0 (type_named columns p.0) p.1 (type_named others p.1)) pairs

unfoldable pub fault_of_pairs : List NamedColumn → List (List ℕ) → List NamedColumn → List (List ℕ) → Option ReferenceFault
fault_of_pairs columns referencing others names =
    option_or (told_if (not (length referencing == length names)) (pair_count (length referencing) (length names)))
    (fault_of_types columns others (zip referencing names))

abbrev pub fault_of_reference : List NamedColumn → List (List ℕ) → Referenced → Option (List (List ℕ)) → Option ReferenceFault
fault_of_reference columns referencing r (Some names) =
    option_or (fault_of_pairs columns referencing r.columns names) (told_if (not (list_any (is_reliable names) r.keys)) (no_reliable_key names))
fault_of_reference columns referencing r None =
    elim (primary_key_of r.keys) [
      | Some k ↦ option_or (told_if k.deferrable deferrable_primary_key) (fault_of_pairs columns referencing r.columns k.columns)
      | None ↦ Some no_primary_key
    ]

-- ---- CREATE TABLE and ALTER TABLE

-- what is wrong with the reference to a table; nothing if there is no such table, which is only Unknown
unfoldable pub fault_of_foreign_key : Schema → Altered → List (List ℕ) → References → Option ReferenceFault
fault_of_foreign_key schema own columns r =
    elim (referenced schema own r.table) [ Some t ↦ fault_of_reference own.columns columns t r.columns | None ↦ None ]

abbrev pub fault_of_rule : Schema → Altered → Item → WrittenRule → Option SchemaFault
fault_of_rule schema own item (check c) = told_if (has_exists c) (exists_in_check item)
fault_of_rule schema own item (foreign_key columns r) =
    option_map (λ fault. reference_at_fault item r.table fault) (fault_of_foreign_key schema own columns r)
fault_of_rule schema own item _ = None

-- the constraint at this place among those of its table
unfoldable pub fault_of_constraint : Schema → Altered → ℕ → WrittenConstraint → Option SchemaFault
fault_of_constraint schema own place k =
    option_or (told_if (is_contradictory k.time) (contradictory_time (item_of_constraint own.name place k)))
    (fault_of_rule schema own (item_of_constraint own.name place k) k.rule)

abbrev pub fault_of_default : ColumnDefinition → Option SchemaFault
fault_of_default c = elim c.default [ Some l ↦ told_if (not (literal_fits c.kind l)) (unfit_default c.name c.kind l) | None ↦ None ]

-- the primary keys among constraints, with their places, the first of which is given
unfoldable pub primary_keys : ℕ → List WrittenConstraint → List (ℕ × WrittenConstraint)
primary_keys place constraints = filter (λ p. is_primary_rule p.1.rule) (enumerate_from place constraints)

abbrev pub fault_in_table : Schema → List ℕ → List TableElement → Option SchemaFault
fault_in_table schema name elements =
    option_or (told_if (length (written_columns elements) == 0) (columnless_table name))
    (option_or (first_of fault_of_default (written_columns elements))
    (option_or (option_map (λ p. second_primary_key (item_of_constraint name p.0 p.1)) (slice_get (primary_keys 1 (written_constraints elements)) 1))
    (first_of (λ p. fault_of_constraint schema (created_table schema name elements) p.0 p.1) (enumerate_from 1 (written_constraints elements)))))

-- the place of a constraint that is added
abbrev pub added_place : Schema → Altered → ℕ
added_place schema own = length (constraints_of schema own.table) + 1

abbrev pub fault_of_addition : Schema → Altered → WrittenConstraint → Option SchemaFault
fault_of_addition schema own k =
    option_or (told_if (is_primary_rule k.rule && elim (primary_key_of own.keys) [ Some p ↦ true | None ↦ false ])
    (second_primary_key (item_of_constraint own.name (added_place schema own) k)))
    (fault_of_constraint schema own (added_place schema own) k)

abbrev pub fault_in_alteration : Schema → List ℕ → TableConstraint → Option SchemaFault
fault_in_alteration schema table k = told_of_altered schema table (λ own. fault_of_addition schema own (table_constraint k))

-- ---- CREATE TRIGGER

-- the old or new row, or the old or new table, that is named twice
abbrev pub fault_of_names : List Referencing → Option SchemaFault
fault_of_names items =
    option_or (option_or (told_if (item_twice items side.Old true) (item_again side.Old what.Row)) (told_if (item_twice items side.New true) (item_again side.New what.Row)))
    (option_or (told_if (item_twice items side.Old false) (item_again side.Old what.Table)) (told_if (item_twice items side.New false) (item_again side.New what.Table)))

-- row variables need FOR EACH ROW; BEFORE triggers have no transition tables
unfoldable pub fault_of_item : TriggerDefinition → Referencing → Option SchemaFault
fault_of_item t i =
    option_or (told_if (not (has_side t.event i.side)) (side_without_rows i.name i.side t.event))
    (elim i.what [ what.Row ↦ told_if (not (for_each_row t)) (row_of_statement i.name) | what.Table ↦ told_if (is_before t) (table_before i.name) ])

-- BEFORE triggers hold SIGNAL, and for each row SET; AFTER triggers INSERT, UPDATE, DELETE and SIGNAL
unfoldable pub fault_of_action : TriggerDefinition → ℕ → TriggerAction → Option SchemaFault
fault_of_action t number (action.Signal text) = None
fault_of_action t number (action.Set v column e) =
    option_or (told_if (not (is_before t)) (set_after number)) (told_if (not (for_each_row t)) (set_of_statement number))
fault_of_action t number _ = told_if (is_before t) (change_before number)

-- SET changes only the row variable NEW
unfoldable pub fault_of_set : List NamedRange → ℕ → TriggerAction → Option SchemaFault
fault_of_set variables number (action.Set v column e) =
    elim (variable_named variables v) [ Some o ↦ told_if (is_old o) (set_of_old number v column) | None ↦ None ]
fault_of_set variables number _ = None

abbrev pub fault_in_trigger : Schema → TriggerDefinition → Option SchemaFault
fault_in_trigger schema t =
    option_or (fault_of_names t.referencing)
    (option_or (first_of (fault_of_item t) t.referencing)
    (option_or (first_of (λ p. fault_of_action t p.0 p.1) (enumerate_from 1 t.body))
    (first_of (λ p. fault_of_set (trigger_variables schema t) p.0 p.1) (enumerate_from 1 t.body))))

-- ---- the rule that a statement breaks

abbrev pub schema_fault : Schema → Statement → Option SchemaFault
schema_fault schema (statement.CreateTable name elements) = fault_in_table schema name elements
schema_fault schema (statement.AlterTable table k) = fault_in_alteration schema table k
schema_fault schema (statement.CreateTrigger t) = fault_in_trigger schema t
schema_fault schema _ = None
