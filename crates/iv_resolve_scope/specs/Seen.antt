-- What the columns, ranges and names of the code are in definitions.
use Rattle.std.specs.Prelude.{List, [], ◌∷◌, option_map}
use Rattle.iv_syntax.specs.declared.trigger.Referencing.{Referencing}
use Rattle.iv_resolution.specs.Constraints.{defined_columns}
use Rattle.iv_resolution.specs.Scopes.{NamedColumn, NamedRange, named_columns}
use Rattle.iv_resolution.specs.Scopes as scope
use Rattle.iv_resolution.specs.Triggers.{row_variables, transition_tables}
use Rattle.iv_resolve_scope.specs.declared.columns.Columns.{Columns}
use Rattle.iv_resolve_scope.specs.declared.columns.Columns.TheVariants.{Stored, Defined, Indexed}
use Rattle.iv_resolve_scope.specs.declared.names.Created.{Created}
use Rattle.iv_resolve_scope.specs.declared.names.Names.{Names}
use Rattle.iv_resolve_scope.specs.declared.names.FromSource.{FromSource}
use Rattle.iv_resolve_scope.specs.declared.ranges.Found.{Found}
use Rattle.iv_resolve_scope.specs.declared.ranges.Ranges.{Ranges}
use Rattle.iv_resolve_scope.specs.declared.ranges.Ranges.TheVariants.{Nothing, Variables, Within'}
use Rattle.iv_resolve_scope.specs.declared.referencing.ReferencingItems.{ReferencingItems}
use Rattle.iv_resolve_scope.specs.declared.referencing.ReferencingItems.TheVariants as listing

abbrev pub columns_seen : Columns → List NamedColumn
columns_seen (Stored columns) = named_columns columns.now
columns_seen (Defined elements) = defined_columns elements.now
columns_seen (Indexed index) = index.now

abbrev pub found_seen : Found → scope.Found
found_seen f = record { origin = f.origin; outward = f.outward; place = f.place; kind = f.kind }

abbrev pub items_seen : ReferencingItems → List Referencing
items_seen (listing.Listed items) = items.now
items_seen (listing.Indexed index) = index.now

-- the innermost first
abbrev pub ranges_seen : Ranges → List NamedRange
ranges_seen Nothing = []
ranges_seen (Variables items columns) = row_variables (columns_seen columns) (items_seen items)
ranges_seen (Within' name columns origin p outer) = record { name = name.now; columns = columns_seen columns; origin = origin } ∷ ranges_seen outer

abbrev pub created_seen : Created → scope.NamedTable
created_seen t = record { name = t.name.now; columns = columns_seen t.columns }

abbrev pub names_seen : Names → scope.Names
names_seen n = record {
  created = option_map created_seen n.created;
  tables = n.tables.now;
  transitions = transition_tables (items_seen n.referencing);
  subject = columns_seen n.subject;
}

abbrev pub source_seen : FromSource → scope.Source
source_seen s = record { range = s.range; columns = columns_seen s.columns }
