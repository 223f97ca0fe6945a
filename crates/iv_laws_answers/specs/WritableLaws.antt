-- Each statement that is read from a text is writable: its names, numbers, lists and trees are what the language allows ("Names and
-- identifiers", "Literal").
use Rattle.std.specs.Prelude.{◌≡◌, ℕ, true, List, map, Option}
use Rattle.std.specs.List.{list_all}
use Rattle.iv_parse.specs.Types.{Statement}
use Rattle.iv_parse.specs.Script.{IsScript}
use Rattle.iv_catalogue.specs.Catalogues.{Schema}
use Rattle.iv_resolution.specs.Writable.{is_writable}
use Rattle.iv_resolution.specs.Resolution.{is_too_large, is_beyond_limits}

-- All statements of a script are writable, whatever text it is read from.
abbrev pub StatementsAreWritable : Type 0
StatementsAreWritable =
    (text : List ℕ) (statements : List Statement) (fault : Option ℕ) → IsScript text statements fault → list_all is_writable statements ≡ true

-- Under every schema, they deserve Limit exactly if there would be more of something than the limits allow.
abbrev pub LimitsAreTooLarge : Type 0
LimitsAreTooLarge =
    (text : List ℕ) (statements : List Statement) (fault : Option ℕ) → IsScript text statements fault
    → (schema : Schema) → map (is_beyond_limits schema) statements ≡ map (is_too_large schema) statements
