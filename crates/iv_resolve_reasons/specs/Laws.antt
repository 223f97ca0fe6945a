-- A reason is told exactly if the statement deserves the cause, and what is told is so.
use Rattle.std.specs.Prelude.{◌≡◌, ⊤, ℕ, ◌+◌, true, false, ◌==◌, List, ◌++◌, length, map, slice_get, Option, Some, None, is_some, option_map, nat_lt}
use Rattle.std.specs.List.{list_any}
use Rattle.iv_syntax.specs.declared.tree.Condition.{Condition}
use Rattle.iv_syntax.specs.declared.tree.Expression.{Expression}
use Rattle.iv_syntax.specs.declared.tree.RangeName.{RangeName}
use Rattle.iv_syntax.specs.declared.statement.Delete.{Delete}
use Rattle.iv_syntax.specs.declared.statement.Insert.{Insert}
use Rattle.iv_syntax.specs.declared.statement.Select.{Select}
use Rattle.iv_syntax.specs.declared.statement.Statement.{Statement}
use Rattle.iv_syntax.specs.declared.statement.Update.{Update}
use Rattle.iv_syntax.specs.declared.statement.ValueOrDefault.{ValueOrDefault}
use Rattle.iv_catalogue.specs.Catalogues.{Schema}
use Rattle.iv_resolution.specs.Scopes.{NamedColumn, NamedRange, Names, type_named, range_of}
use Rattle.iv_resolution.specs.Constraints.{Referenced, primary_key_of, is_reliable, same_type}
use Rattle.iv_resolution.specs.Writable.{is_writable}
use Rattle.iv_resolution.specs.Terms.{clash, is_text}
use Rattle.iv_resolution.specs.Changes.{target_ranges, clashes_with, kinds_clash}
use Rattle.iv_resolution.specs.Resolution.{is_beyond_limits, is_faulty, is_misshaped}
use Rattle.iv_resolve_reasons.specs.SchemaFaults.{ReferenceFault, pair_count, pair_types, no_reliable_key, no_primary_key, deferrable_primary_key, fault_of_reference, schema_fault}
use Rattle.iv_resolve_reasons.specs.Limits.{LimitFault, many_tables, many_columns, many_constraints, many_key_columns, no_characters, many_characters, many_triggers, many_triggers_ever, many_statements, no_text, limit_fault}
use Rattle.iv_resolve_reasons.specs.Shapes.{ShapeFault, tuple_count, query_count, value_fault, column_fault, set_fault, comparison_fault, operand_fault, shape_in_expression, shape_in_condition}
use Rattle.iv_resolve_reasons.specs.Shapes.{Target, shape_of_tuples, shape_in_insert, shape_in_update, shape_in_delete, shape_in_select, shape_in_set, shape_fault}

-- Of a statement is told what doesn't suit if and only if it deserves WrongShape.
pub record ShapesAreTold : Type 0 where
  pub told : (schema : Schema) (s : Statement) → is_some (shape_fault schema s) ≡ is_misshaped schema s

-- Of a statement a rule that it breaks is told if and only if it deserves SchemaFault.
pub record SchemaFaultsAreTold : Type 0 where
  pub told : (schema : Schema) (s : Statement) → is_some (schema_fault schema s) ≡ is_faulty schema s

-- Of a statement a limit that it is beyond is told if and only if it deserves Limit.
pub record LimitFaultsAreTold : Type 0 where
  pub told : (schema : Schema) (s : Statement) → is_some (limit_fault schema s) ≡ is_beyond_limits schema s

-- ---- what is told is so

-- What is told is so in these ranges: the numbers differ, an integer meets a text, or the operand is a text.
abbrev pub IsSo : List NamedRange → ShapeFault → Type 0
IsSo ranges (tuple_count table number columns values) = (values == columns) ≡ false
IsSo ranges (query_count table columns values) = (values == columns) ≡ false
IsSo ranges (value_fault table column kind e) = clashes_with (Some kind) ranges e ≡ true
IsSo ranges (column_fault table column kind from given given_kind) = kinds_clash (Some kind) given_kind ≡ true
IsSo ranges (set_fault v column kind e) = clashes_with (Some kind) ranges e ≡ true
IsSo ranges (comparison_fault a b) = clash ranges a b ≡ true
IsSo ranges (operand_fault e) = is_text ranges e ≡ true

-- it is so in these ranges with those of some FROMs inside, the innermost first
abbrev pub IsSoWithin : Names → List NamedRange → ShapeFault → Type 0
IsSoWithin names outer fault = (froms : List RangeName) × IsSo (map (range_of names) froms ++ outer) fault

-- the tuple of this number has so many values, which isn't the number of columns
pub record TupleMiscounted (targets : List Target) (tuples : List (List ValueOrDefault)) (number columns values : ℕ) : Type 0 where
  pub tuple : List ValueOrDefault
  pub place : ℕ
  pub counted : number ≡ place + 1
  pub there : slice_get tuples place ≡ Some tuple
  pub columns_are : columns ≡ length targets
  pub values_are : values ≡ length tuple
  pub differ : (length tuple == length targets) ≡ false

-- What is told of a statement is so, in the ranges of its parts.
pub record ShapesAreSo : Type 0 where
  pub expression : (ranges : List NamedRange) (e : Expression) (fault : ShapeFault) → shape_in_expression ranges e ≡ Some fault → IsSo ranges fault
  pub condition : (names : Names) (ranges : List NamedRange) (c : Condition) (fault : ShapeFault) → shape_in_condition names ranges c ≡ Some fault → IsSoWithin names ranges fault
  pub insert : (names : Names) (ranges : List NamedRange) (i : Insert) (fault : ShapeFault) → shape_in_insert names ranges i ≡ Some fault → IsSoWithin names ranges fault
  pub update : (names : Names) (ranges : List NamedRange) (u : Update) (fault : ShapeFault) → shape_in_update names ranges u ≡ Some fault
      → IsSoWithin names (target_ranges names u.table ranges) fault
  pub delete : (names : Names) (ranges : List NamedRange) (d : Delete) (fault : ShapeFault) → shape_in_delete names ranges d ≡ Some fault
      → IsSoWithin names (target_ranges names d.table ranges) fault
  pub select : (names : Names) (ranges : List NamedRange) (s : Select) (fault : ShapeFault) → shape_in_select names ranges s ≡ Some fault → IsSoWithin names ranges fault
  pub set : (names : Names) (variables : List NamedRange) (v column : List ℕ) (e : Expression) (fault : ShapeFault) → shape_in_set names variables v column e ≡ Some fault → IsSo variables fault
  pub tuples : (table : List ℕ) (targets : List Target) (ranges : List NamedRange) (ts : List (List ValueOrDefault)) (told : List ℕ) (number columns values : ℕ)
      → shape_of_tuples table targets ranges 1 ts ≡ Some (tuple_count told number columns values) → TupleMiscounted targets ts number columns values

-- What is told of a reference is so of the referencing columns and of the table that they refer to.
abbrev pub ReferenceIsSo : List NamedColumn → Referenced → ReferenceFault → Type 0
ReferenceIsSo columns r (pair_count m n) = (m == n) ≡ false
ReferenceIsSo columns r (pair_types a kind b other) = (type_named columns a ≡ Some kind) × (type_named r.columns b ≡ Some other) × (same_type kind other ≡ false)
ReferenceIsSo columns r (no_reliable_key names) = list_any (is_reliable names) r.keys ≡ false
ReferenceIsSo columns r no_primary_key = primary_key_of r.keys ≡ None
ReferenceIsSo columns r deferrable_primary_key = option_map (λ k. k.deferrable) (primary_key_of r.keys) ≡ Some true

-- More is asked than there may be, or no text is the statement.
abbrev pub LimitIsSo : Statement → LimitFault → Type 0
LimitIsSo s (many_tables most asked) = nat_lt most asked ≡ true
LimitIsSo s (many_columns table most asked) = nat_lt most asked ≡ true
LimitIsSo s (many_constraints table most asked) = nat_lt most asked ≡ true
LimitIsSo s (many_key_columns item most asked) = nat_lt most asked ≡ true
LimitIsSo s (no_characters column) = ⊤
LimitIsSo s (many_characters column most asked) = nat_lt most asked ≡ true
LimitIsSo s (many_triggers most asked) = nat_lt most asked ≡ true
LimitIsSo s (many_triggers_ever most asked) = nat_lt most asked ≡ true
LimitIsSo s (many_statements trigger most asked) = nat_lt most asked ≡ true
LimitIsSo s no_text = is_writable s ≡ false

-- What is told of references and limits is so.
pub record RulesAreSo : Type 0 where
  pub reference : (columns : List NamedColumn) (referencing : List (List ℕ)) (r : Referenced) (names : Option (List (List ℕ))) (fault : ReferenceFault)
      → fault_of_reference columns referencing r names ≡ Some fault → ReferenceIsSo columns r fault
  pub limit : (schema : Schema) (s : Statement) (fault : LimitFault) → limit_fault schema s ≡ Some fault → LimitIsSo s fault
