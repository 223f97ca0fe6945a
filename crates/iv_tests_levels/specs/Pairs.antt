-- A schema of one table of two columns of integers: the first has UNIQUE, and the second refers to it.
use Rattle.std.specs.Prelude.{◌≡◌, ℕ, true, false, List, [], ◌∷◌, codes}
use Rattle.iv_value.specs.declared.value.Kind.TheVariants.{Integer}
use Rattle.iv_value.specs.declared.value.Value.TheVariants.{Null}
use Rattle.iv_syntax.specs.declared.statement.ConstraintMode.TheVariants.{Immediate}
use Rattle.iv_syntax.specs.declared.table.MatchType.TheVariants.{Simple}
use Rattle.iv_syntax.specs.declared.table.NullTreatment.TheVariants.{Distinct}
use Rattle.iv_syntax.specs.declared.table.ReferentialAction.TheVariants.{Restrict, Cascade}
use Rattle.iv_catalogue.specs.declared.catalogue.Column.{Column}
use Rattle.iv_catalogue.specs.declared.catalogue.Table.{Table}
use Rattle.iv_catalogue.specs.declared.constraint.Constraint.{Constraint}
use Rattle.iv_catalogue.specs.declared.constraint.ForeignKey.{ForeignKey}
use Rattle.iv_catalogue.specs.declared.constraint.Rule.{Rule}
use Rattle.iv_catalogue.specs.declared.constraint.Rule.TheVariants as rule
use Rattle.iv_laws_fitting.specs.PlanShapes.{is_there, table_kinds}

abbrev pub column_of : List ℕ → Column
column_of name = record { name = name; kind = Integer; default = Null }

abbrev pub pair_columns : List Column
pair_columns = column_of (codes "K") ∷ column_of (codes "UP") ∷ []

abbrev pub pair_table : Table
pair_table = record { name = codes "T"; columns = pair_columns }

abbrev pub immediate : List ℕ → Rule → Constraint
immediate name rule = record { name = name; table = 0; rule = rule; deferrable = false; initially = Immediate }

-- ON DELETE RESTRICT ON UPDATE CASCADE
abbrev pub up_to_key : ForeignKey
up_to_key = record { columns = 1 ∷ []; referenced = 0; key = 0 ∷ []; matching = Simple; on_delete = Restrict; on_update = Cascade }

abbrev pub unique_key : Constraint
unique_key = immediate (codes "U") (rule.Unique Distinct (0 ∷ []))

abbrev pub foreign_key : Constraint
foreign_key = immediate (codes "F") (rule.ForeignKey up_to_key)

abbrev pub pair_keys : List Constraint
pair_keys = unique_key ∷ foreign_key ∷ []

-- Table 0 is there, and has two columns of integers.
pub record HasPairs (tables : List Table) : Type 0 where
  pub there : is_there tables 0 ≡ true
  pub kinds : table_kinds tables 0 ≡ Integer ∷ Integer ∷ []
