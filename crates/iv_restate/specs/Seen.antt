-- What the types of the code are in the definitions.
use Rattle.std.specs.Prelude.{List, [], ◌∷◌}
use Rattle.iv_resolution.specs.Scopes.{NamedRange, named_columns}
use Rattle.iv_resolution.specs.declared.origin.Origin.TheVariants.{Rows}
use Rattle.iv_restate.specs.declared.naming.Naming as code
use Rattle.iv_restate.specs.declared.scope.Scope.{Scope}
use Rattle.iv_restate.specs.declared.scope.Scope.TheVariants.{Nothing, Within'}
use Rattle.iv_restate.specs.Trees.{Naming}

-- the innermost first
abbrev pub ranges_seen : Scope → List NamedRange
ranges_seen Nothing = []
ranges_seen (Within' name columns p outer) = record { name = name.now; columns = named_columns columns.now; origin = Rows } ∷ ranges_seen outer

abbrev pub naming_seen : code.Naming → Naming
naming_seen n = record { tables = n.tables.now; items = n.items.now; subject = named_columns n.subject.now; stem = n.stem.now }
