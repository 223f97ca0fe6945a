-- The text of each reason that resolution refuses a statement for.
use Rattle.std.specs.Prelude.{ℕ, ◌==◌, if◌then◌else◌, List, ◌++◌, codes, decimal}
use Rattle.iv_expr.specs.declared.tree.Side.{Side}
use Rattle.iv_expr.specs.declared.tree.Side.TheVariants.{Old, New}
use Rattle.iv_syntax.specs.declared.table.ColumnType.{ColumnType}
use Rattle.iv_syntax.specs.declared.trigger.TransitionName.{TransitionName}
use Rattle.iv_syntax.specs.declared.trigger.TransitionName.TheVariants as what
use Rattle.iv_syntax.specs.declared.trigger.TriggerEvent.{TriggerEvent}
use Rattle.iv_syntax.specs.declared.trigger.TriggerEvent.TheVariants as event
use Rattle.iv_resolution.specs.Items.{Item}
use Rattle.iv_resolve_reasons.specs.Shapes.{ShapeFault, tuple_count, query_count, value_fault, column_fault, set_fault, comparison_fault, operand_fault}
use Rattle.iv_resolve_reasons.specs.SchemaFaults.{ReferenceFault, pair_count, pair_types, no_reliable_key, no_primary_key, deferrable_primary_key}
use Rattle.iv_resolve_reasons.specs.SchemaFaults.{SchemaFault, columnless_table, unfit_default, second_primary_key}
use Rattle.iv_resolve_reasons.specs.SchemaFaults.{contradictory_time, exists_in_check, reference_at_fault}
use Rattle.iv_resolve_reasons.specs.SchemaFaults.{item_again, side_without_rows, row_of_statement, table_before, change_before, set_after, set_of_statement, set_of_old}
use Rattle.iv_resolve_reasons.specs.Limits.{LimitFault, many_tables, many_columns, many_constraints, many_key_columns, no_characters, many_characters, many_triggers, many_triggers_ever, many_statements, no_text}
use Rattle.iv_resolve_reasons.specs.Reasons.{Reason, schema_reason, shape_reason, limit_reason}
use Rattle.iv_explain.specs.Expressions.{expression_text, literal_text, names_text, type_text, unsuited_text}
use Rattle.iv_explain.specs.Names.{item_text}

-- one thing, or so many
abbrev pub counted_text : ℕ → List ℕ → List ℕ → List ℕ
counted_text n one many = decimal n ++ (if n == 1 then one else many)

abbrev pub columns_text : ℕ → List ℕ
columns_text n = counted_text n (codes " column") (codes " columns")

abbrev pub values_text : ℕ → List ℕ
values_text n = counted_text n (codes " value") (codes " values")

-- ---- WrongShape

-- a column of a table, and its type
abbrev pub typed_text : List ℕ → List ℕ → ColumnType → List ℕ
typed_text table column kind = codes "column " ++ (column ++ (codes " of " ++ (table ++ (codes " is " ++ type_text kind))))

-- so many values for so many columns of a table
abbrev pub counts_text : ℕ → ℕ → List ℕ → List ℕ
counts_text values columns table = values_text values ++ (codes " for " ++ (columns_text columns ++ (codes " of " ++ table)))

abbrev pub shape_text : ShapeFault → List ℕ
shape_text (tuple_count table number columns values) = codes "tuple " ++ (decimal number ++ (codes " has " ++ counts_text values columns table))
shape_text (query_count table columns values) = codes "the query gives " ++ counts_text values columns table
shape_text (value_fault table column kind e) = expression_text e ++ (unsuited_text kind ++ typed_text table column kind)
shape_text (column_fault table column kind from given given_kind) = typed_text from given given_kind ++ (codes ", and " ++ typed_text table column kind)
shape_text (set_fault v column kind e) = expression_text e ++ (unsuited_text kind ++ (v ++ (codes "." ++ (column ++ (codes " is " ++ type_text kind)))))
shape_text (comparison_fault a b) = expression_text a ++ (codes " is compared with " ++ (expression_text b ++ codes ", and only one of them is a text"))
shape_text (operand_fault e) = expression_text e ++ codes " is a text, and arithmetic takes integers"

-- ---- SchemaFault

abbrev pub side_text : Side → List ℕ
side_text Old = codes "old"
side_text New = codes "new"

abbrev pub what_text : TransitionName → List ℕ
what_text what.Row = codes "row"
what_text what.Table = codes "table"

abbrev pub event_text : TriggerEvent → List ℕ
event_text event.Insert = codes "INSERT"
event_text event.Update = codes "UPDATE"
event_text event.Delete = codes "DELETE"

-- a column of a foreign key, after the constraint
abbrev pub own_text : List ℕ → ColumnType → List ℕ
own_text column kind = codes ": column " ++ (column ++ (codes " is " ++ type_text kind))

-- what is wrong with a reference to a table, after the constraint
abbrev pub reference_text : List ℕ → ReferenceFault → List ℕ
reference_text table (pair_count columns referenced) =
    codes " has " ++ (columns_text columns ++ (codes ", and refers to " ++ (columns_text referenced ++ (codes " of " ++ table))))
reference_text table (pair_types column kind other other_kind) = own_text column kind ++ (codes ", and " ++ typed_text table other other_kind)
reference_text table (no_reliable_key names) =
    codes " refers to " ++ (table ++ (codes " (" ++ (names_text names ++ codes "), which is no key that is NOT DEFERRABLE")))
reference_text table no_primary_key = codes " refers to " ++ (table ++ codes ", which has no PRIMARY KEY")
reference_text table deferrable_primary_key = codes " refers to " ++ (table ++ codes ", whose PRIMARY KEY is DEFERRABLE")

abbrev pub rule_text : SchemaFault → List ℕ
rule_text (columnless_table table) = codes "table " ++ (table ++ codes " has no column")
rule_text (unfit_default column kind default) =
    codes "column " ++ (column ++ (codes " is " ++ (type_text kind ++ (codes ", and its DEFAULT is " ++ literal_text default))))
rule_text (second_primary_key i) = item_text i ++ codes " is the second PRIMARY KEY of its table"
rule_text (contradictory_time i) = item_text i ++ codes " is NOT DEFERRABLE and INITIALLY DEFERRED"
rule_text (exists_in_check i) = item_text i ++ codes " is a CHECK with EXISTS"
rule_text (reference_at_fault i table fault) = item_text i ++ reference_text table fault
rule_text (item_again side what) = codes "REFERENCING names the " ++ (side_text side ++ (codes " " ++ (what_text what ++ codes " twice")))
rule_text (side_without_rows name side event) =
    codes "REFERENCING name " ++ (name ++ (codes " is for " ++ (side_text side ++ (codes " rows, and " ++ (event_text event ++ codes " has none")))))
rule_text (row_of_statement name) = codes "REFERENCING name " ++ (name ++ codes " is for a row, and the trigger is FOR EACH STATEMENT")
rule_text (table_before name) = codes "REFERENCING name " ++ (name ++ codes " is for a table, and the trigger is BEFORE")
rule_text (change_before n) = codes "statement " ++ (decimal n ++ codes " is INSERT, UPDATE or DELETE, and the trigger is BEFORE")
rule_text (set_after n) = codes "statement " ++ (decimal n ++ codes " is SET, and the trigger is AFTER")
rule_text (set_of_statement n) = codes "statement " ++ (decimal n ++ codes " is SET, and the trigger is FOR EACH STATEMENT")
rule_text (set_of_old n v column) = codes "statement " ++ (decimal n ++ (codes " sets " ++ (v ++ (codes "." ++ (column ++ codes ", which is of the old row")))))

-- ---- Limit

-- so many things, and how many there may be
abbrev pub most_text : ℕ → List ℕ → ℕ → List ℕ
most_text asked things most = decimal asked ++ (things ++ (decimal most ++ codes " is the most"))

abbrev pub limit_text : LimitFault → List ℕ
limit_text (many_tables most asked) = codes "there would be " ++ most_text asked (codes " tables, and ") most
limit_text (many_columns table most asked) = codes "table " ++ (table ++ (codes " would have " ++ most_text asked (codes " columns, and ") most))
limit_text (many_constraints table most asked) = codes "table " ++ (table ++ (codes " would have " ++ most_text asked (codes " constraints, and ") most))
limit_text (many_key_columns i most asked) = item_text i ++ (codes " would have " ++ most_text asked (codes " columns, and ") most)
limit_text (no_characters column) = codes "column " ++ (column ++ codes " is a VARCHAR(0), and 1 is the least")
limit_text (many_characters column most asked) = codes "column " ++ (column ++ (codes " is a VARCHAR(" ++ most_text asked (codes "), and ") most))
limit_text (many_triggers most asked) = codes "there would be " ++ most_text asked (codes " triggers, and ") most
limit_text (many_triggers_ever most asked) = codes "it would be trigger " ++ most_text asked (codes " that was ever created, and ") most
limit_text (many_statements trigger most asked) = codes "trigger " ++ (trigger ++ (codes " would have " ++ most_text asked (codes " statements, and ") most))
limit_text no_text = codes "no text is this statement"

-- ---- reasons

abbrev pub reason_text : Reason → List ℕ
reason_text (schema_reason fault) = rule_text fault
reason_text (shape_reason fault) = shape_text fault
reason_text (limit_reason fault) = limit_text fault
