-- Words for what there may be only so many of: names, columns, constraints, tables, triggers, and depth.
use Rattle.std.specs.Prelude.{ℕ, zero, suc, false, List, [], ◌∷◌, map, codes, None}
use Rattle.iv_worked.specs.Words.{Condition, Expression, ColumnRule, TableElement, TriggerAction, Table}
use Rattle.iv_worked.specs.Words.value
use Rattle.iv_worked.specs.Words.kind
use Rattle.iv_worked.specs.Words.mode
use Rattle.iv_worked.specs.Words.type
use Rattle.iv_worked.specs.Words.column_rule
use Rattle.iv_worked.specs.Words.action
use Rattle.iv_worked.specs.Words.rule
use Rattle.iv_syntax.specs.Trees.{group, enclosed}
use Rattle.iv_catalogue.specs.Names.{generated_name}
use Rattle.iv_catalogue.specs.Catalogues.{Schema}
use Rattle.iv_resolution.specs.Worked.{a, p, t, defined}
use Rattle.iv_worked.specs.Words.{x, signalling}

-- the numbers below this one, the greatest first
abbrev pub numbers : ℕ → List ℕ
numbers zero = []
numbers (suc n) = n ∷ numbers n

-- as many names
abbrev pub numbered : ℕ → List (List ℕ)
numbered n = map (generated_name x) (numbers n)

-- a name of so many letters
abbrev pub long_name : ℕ → List ℕ
long_name n = map (λ _. 65) (numbers n)

-- a digit first, which no name has
abbrev pub first_digit : List ℕ
first_digit = codes "1A"

-- as many columns, INT each
abbrev pub columns : ℕ → List TableElement
columns n = map (λ name. defined name type.Integer None []) (numbered n)

-- NOT NULL so many times
abbrev pub not_nulls : ℕ → List ColumnRule
not_nulls n = map (λ _. column_rule.NotNull) (numbers n)

-- SIGNAL 'x'; so many times
abbrev pub signals : ℕ → List TriggerAction
signals n = map (λ _. action.Signal (codes "x")) (numbers n)

-- in so many pairs of parentheses
abbrev pub grouped_by : ℕ → Expression → Expression
grouped_by zero e = e
grouped_by (suc n) e = group (grouped_by n e)

abbrev pub enclosed_by : ℕ → Condition → Condition
enclosed_by zero c = c
enclosed_by (suc n) c = enclosed (enclosed_by n c)

-- a table of so many columns
abbrev pub table_of : List ℕ → List (List ℕ) → Table
table_of name names = record { name = name; columns = map (λ column. record { name = column; kind = kind.Integer; default = value.Null }) names }

-- a catalogue of one table T with so many columns
abbrev pub wide : ℕ → Schema
wide n = record { tables = table_of t (numbered n) ∷ []; constraints = []; triggers = []; created = 0 }

-- a catalogue of so many tables
abbrev pub with_tables : ℕ → Schema
with_tables n = record { tables = map (λ name. table_of name (a ∷ [])) (numbered n); constraints = []; triggers = []; created = 0 }

-- a catalogue of two tables T and P, the first with so many constraints
abbrev pub with_constraints : ℕ → Schema
with_constraints n = record {
  tables = table_of t (a ∷ []) ∷ table_of p (a ∷ []) ∷ [];
  constraints = map (λ name. record { name = name; table = 0; rule = rule.NotNull 0; deferrable = false; initially = mode.Immediate }) (numbered n);
  triggers = [];
  created = 0;
}

-- a catalogue of a table T with so many triggers, after so many were created
abbrev pub with_triggers : ℕ → ℕ → Schema
with_triggers n created = record {
  tables = table_of t (a ∷ []) ∷ [];
  constraints = [];
  triggers = map signalling (numbered n);
  created = created;
}
