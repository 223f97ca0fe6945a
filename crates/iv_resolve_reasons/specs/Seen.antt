-- What the code holds as the definitions say it.
use Rattle.std.specs.Prelude.{◌≡◌, ⊤, List, Some, None, option_map}
use Rattle.std.specs.List.{list_any}
use Rattle.iv_catalogue.specs.Catalogues.{Schema}
use Rattle.iv_resolution.specs.Constraints.{Key, is_reliable, primary_key_of}
use Rattle.iv_resolve_name_faults.specs.Seen.{item_seen}
use Rattle.iv_resolve_tables.specs.Keys.{key_seen}
use Rattle.iv_resolve_tables.specs.KeySets.{Finds}
use Rattle.iv_resolve_tables.specs.Seen.{own_seen}
use Rattle.iv_resolution.specs.Scopes.{Names, named_columns}
use Rattle.iv_resolution.specs.Triggers.{transition_tables}
use Rattle.iv_resolve_scope.specs.Seen.{items_seen}
use Rattle.iv_resolve_statements.specs.declared.targets.Targets.{Targets}
use Rattle.iv_resolve_statements.specs.declared.targets.Targets.TheVariants.{All, Listed}
use Rattle.iv_resolve_reasons.specs.Shapes as spec
use Rattle.iv_resolve_reasons.specs.Shapes.{targets_of}
use Rattle.iv_resolve_reasons.specs.Reasons as reasons
use Rattle.iv_resolve_reasons.specs.SchemaFaults as rules
use Rattle.iv_resolve_reasons.specs.Limits as limits
use Rattle.iv_resolve_reasons.specs.declared.definitions.Definition.{Definition}
use Rattle.iv_resolve_reasons.specs.declared.limits.LimitFault.{LimitFault}
use Rattle.iv_resolve_reasons.specs.declared.limits.LimitFault.TheVariants as limit
use Rattle.iv_resolve_reasons.specs.declared.references.KeySearch.{KeySearch}
use Rattle.iv_resolve_reasons.specs.declared.references.KeySearch.TheVariants.{Searched, Found}
use Rattle.iv_resolve_reasons.specs.declared.rule.ReferenceFault.{ReferenceFault}
use Rattle.iv_resolve_reasons.specs.declared.rule.ReferenceFault.TheVariants.{PairCount, PairTypes, NoReliableKey, NoPrimaryKey, DeferrablePrimaryKey}
use Rattle.iv_resolve_reasons.specs.declared.rule.SchemaFault.{SchemaFault}
use Rattle.iv_resolve_reasons.specs.declared.rule.SchemaFault.TheVariants as rule
use Rattle.iv_resolve_reasons.specs.declared.reason.Reason.{Reason}
use Rattle.iv_resolve_reasons.specs.declared.reason.Reason.TheVariants.{Shape, Schema as SchemaRule, Limit}
use Rattle.iv_resolve_reasons.specs.declared.scope.Scope.{Scope}
use Rattle.iv_resolve_reasons.specs.declared.shape.ShapeFault.{ShapeFault}
use Rattle.iv_resolve_reasons.specs.declared.shape.ShapeFault.TheVariants.{TupleCount, QueryCount, Value, Column, Set, Comparison, Operand}
use Rattle.iv_resolve_reasons.specs.declared.target.Target.{Target}

abbrev pub shape_seen : ShapeFault → spec.ShapeFault
shape_seen (TupleCount table number columns values) = spec.tuple_count table.now number columns values
shape_seen (QueryCount table columns values) = spec.query_count table.now columns values
shape_seen (Value table column kind e) = spec.value_fault table.now column.now kind e.now
shape_seen (Column table column kind from given given_kind) = spec.column_fault table.now column.now kind from.now given.now given_kind
shape_seen (Set v column kind e) = spec.set_fault v.now column.now kind e.now
shape_seen (Comparison a b) = spec.comparison_fault a.now b.now
shape_seen (Operand e) = spec.operand_fault e.now

abbrev pub target_seen : Target → spec.Target
target_seen t = record { name = t.name.now; kind = t.kind }

-- the columns that an INSERT has values for
unfoldable pub targets_named : Targets → List spec.Target
targets_named (All columns) = targets_of (named_columns columns.now) None
targets_named (Listed columns names) = targets_of (named_columns columns.now) (Some names.now)

-- the tables that a data statement may name
abbrev pub scope_seen : Scope → Names
scope_seen s = record {
  created = None;
  tables = s.tables.now;
  transitions = transition_tables (items_seen s.referencing);
  subject = named_columns s.subject.now;
}

-- ---- definitions that no schema can have

abbrev pub reference_fault_seen : ReferenceFault → rules.ReferenceFault
reference_fault_seen (PairCount columns referenced) = rules.pair_count columns referenced
reference_fault_seen (PairTypes column kind referenced referenced_kind) = rules.pair_types column.now kind referenced.now referenced_kind
reference_fault_seen (NoReliableKey names) = rules.no_reliable_key names.now
reference_fault_seen NoPrimaryKey = rules.no_primary_key
reference_fault_seen DeferrablePrimaryKey = rules.deferrable_primary_key

abbrev pub schema_fault_seen : SchemaFault → rules.SchemaFault
schema_fault_seen (rule.ColumnlessTable table) = rules.columnless_table table.now
schema_fault_seen (rule.UnfitDefault column kind default) = rules.unfit_default column.now kind default.now
schema_fault_seen (rule.SecondPrimaryKey constraint) = rules.second_primary_key (item_seen constraint)
schema_fault_seen (rule.ContradictoryTime constraint) = rules.contradictory_time (item_seen constraint)
schema_fault_seen (rule.ExistsInCheck constraint) = rules.exists_in_check (item_seen constraint)
schema_fault_seen (rule.Reference constraint table fault) = rules.reference_at_fault (item_seen constraint) table.now (reference_fault_seen fault)
schema_fault_seen (rule.ItemAgain side what) = rules.item_again side what
schema_fault_seen (rule.SideWithoutRows name side event) = rules.side_without_rows name.now side event
schema_fault_seen (rule.RowOfStatement name) = rules.row_of_statement name.now
schema_fault_seen (rule.TableBefore name) = rules.table_before name.now
schema_fault_seen (rule.ChangeBefore number) = rules.change_before number
schema_fault_seen (rule.SetAfter number) = rules.set_after number
schema_fault_seen (rule.SetOfStatement number) = rules.set_of_statement number
schema_fault_seen (rule.SetOfOld number variable column) = rules.set_of_old number variable.now column.now

-- the sets of columns are those of the keys that are NOT DEFERRABLE
abbrev pub Searches : KeySearch → List Key → Type 0
Searches Searched keys = ⊤
Searches (Found alloc sets) keys = Finds sets.now (λ names. list_any (is_reliable names) keys)

-- what is known of a table is so
pub record Describes (schema : Schema) (d : Definition) : Type 0 where
  pub name : d.name.now ≡ (own_seen schema d.own).name
  pub primary : option_map key_seen d.primary ≡ primary_key_of (own_seen schema d.own).keys
  pub search : Searches d.search (own_seen schema d.own).keys

-- ---- limits

abbrev pub limit_fault_seen : LimitFault → limits.LimitFault
limit_fault_seen (limit.Tables most asked) = limits.many_tables most asked
limit_fault_seen (limit.Columns table most asked) = limits.many_columns table.now most asked
limit_fault_seen (limit.Constraints table most asked) = limits.many_constraints table.now most asked
limit_fault_seen (limit.KeyColumns constraint most asked) = limits.many_key_columns (item_seen constraint) most asked
limit_fault_seen (limit.NoCharacters column) = limits.no_characters column.now
limit_fault_seen (limit.Characters column most asked) = limits.many_characters column.now most asked
limit_fault_seen (limit.Triggers most asked) = limits.many_triggers most asked
limit_fault_seen (limit.TriggersEver most asked) = limits.many_triggers_ever most asked
limit_fault_seen (limit.Statements trigger most asked) = limits.many_statements trigger.now most asked
limit_fault_seen limit.NoText = limits.no_text

-- ---- reasons

abbrev pub reason_seen : Reason → reasons.Reason
reason_seen (Shape fault) = reasons.shape_reason (shape_seen fault)
reason_seen (SchemaRule fault) = reasons.schema_reason (schema_fault_seen fault)
reason_seen (Limit fault) = reasons.limit_reason (limit_fault_seen fault)
