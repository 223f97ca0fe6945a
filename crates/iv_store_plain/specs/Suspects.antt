-- Which constraints of a plain store may be violated: those on a table that was changed, and the foreign keys that refer to one.
use Rattle.std.specs.Prelude.{◌≡◌, ℕ, ◌≤◌, ◌*◌, Bool, false, ◌||◌, ◌==◌, if◌then◌else◌, List, [], ◌∷◌, ◌++◌, length, filter}
use Rattle.std.specs.List.{list_any}
use Rattle.iv_expr.specs.declared.row.StoredRow.{StoredRow}
use Rattle.iv_catalogue.specs.declared.constraint.Constraint.{Constraint}
use Rattle.iv_catalogue.specs.declared.constraint.Rule.{Rule}
use Rattle.iv_catalogue.specs.declared.constraint.Rule.TheVariants as rule
use Rattle.iv_catalogue.specs.declared.limits.TheConstants.{MOST_CONSTRAINTS, MOST_TABLES}
use Rattle.iv_machine.specs.declared.database.Database.{Database}
use Rattle.iv_machine.specs.Databases.{violates}

-- the rule is a foreign key that refers to the table
abbrev pub refers_to : ℕ → Rule → Bool
refers_to table (rule.ForeignKey fk) = fk.referenced == table
refers_to table _ = false

-- the constraint is on the table, or refers to it
abbrev pub is_about : Constraint → ℕ → Bool
is_about c table = (c.table == table) || refers_to table c.rule

-- the constraint is about one of these tables
abbrev pub is_suspect : List ℕ → Constraint → Bool
is_suspect touched c = list_any (is_about c) touched

-- the rows that violate a constraint
abbrev pub violating : List StoredRow → Constraint → List StoredRow
violating rows c = filter (violates rows c) rows

-- no row violates a constraint that isn't about one of these tables
abbrev pub Clean : List ℕ → List StoredRow → List Constraint → Type 0
Clean touched rows [] = Unit {0}
Clean touched rows (c ∷ cs) = (is_suspect touched c ≡ false → violating rows c ≡ []) × Clean touched rows cs

-- the same in each of these databases
abbrev pub EachClean : List ℕ → List Constraint → List Database → Type 0
EachClean touched cs [] = Unit {0}
EachClean touched cs (db ∷ dbs) = Clean touched db.rows cs × EachClean touched cs dbs

-- What holds of a plain store: how many constraints there are, and that in its database and in each marked one only constraints about
-- the tables that were changed may be violated.
pub record Watched (touched : List ℕ) (cs : List Constraint) (db : Database) (dbs : List Database) : Type 0 where
  pub few : length cs ≤ MOST_TABLES * MOST_CONSTRAINTS
  pub base : Clean touched db.rows cs
  pub marks : EachClean touched cs dbs

-- these tables and this one
abbrev pub with_table : ℕ → List ℕ → List ℕ
with_table table touched = if list_any (λ t. t == table) touched then touched else touched ++ table ∷ []

-- these tables, and that of new constraints if it has rows
abbrev pub with_new : List StoredRow → List Constraint → List ℕ → List ℕ
with_new rows [] touched = touched
with_new rows (c ∷ cs) touched = if list_any (λ r. r.table == c.table) rows then with_table c.table touched else touched
