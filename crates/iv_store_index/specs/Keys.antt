-- The columns of a constraint whose keys hold rows.
use Rattle.std.specs.Prelude.{ℕ, List, Option, Some, None}
use Rattle.iv_catalogue.specs.declared.constraint.Rule.{Rule}
use Rattle.iv_catalogue.specs.declared.constraint.Rule.TheVariants as rule
use Rattle.iv_laws_kept.specs.Types.nulls.{NotDistinct}

-- UNIQUE, PRIMARY KEY and foreign keys keep rows by their keys in these columns; other rules have no key. A search asks only for keys
-- without nulls, under which all of these keep the rows that hold them.
abbrev pub key_columns : Rule → Option (List ℕ)
key_columns (rule.Unique nulls columns) = Some columns
key_columns (rule.PrimaryKey columns) = Some columns
key_columns (rule.ForeignKey fk) = Some fk.columns
key_columns _ = None

-- The columns of a UNIQUE in which nulls are equal: it keeps each row by its values in them, with their nulls.
abbrev pub columns_of_equal_nulls : Rule → Option (List ℕ)
columns_of_equal_nulls (rule.Unique NotDistinct columns) = Some columns
columns_of_equal_nulls _ = None
