-- The referencing columns with those that they refer to.
use Rattle.std.specs.Prelude.{ℕ, List, Bool}
use Rattle.std.specs.List.{list_any}
use Rattle.iv_resolution.specs.Scopes.{NamedColumn, type_named}
use Rattle.iv_resolution.specs.Constraints.{types_differ}

-- two columns of a pair differ in type
unfoldable pub some_pair_differs : List NamedColumn → List NamedColumn → List (List ℕ × List ℕ) → Bool
some_pair_differs columns others pairs = list_any (λ p. types_differ (type_named columns p.0) (type_named others p.1)) pairs
