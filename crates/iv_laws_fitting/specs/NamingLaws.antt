-- The look-ups of resolution find what names name, and nothing else: there is at most one such thing, and one is found exactly if there is
-- one ("Identifier chain", "Column reference", "Table reference").
use Rattle.std.specs.Prelude.{◌≡◌, ℕ, List, Option, Some}
use Rattle.iv_syntax.specs.declared.tree.ColumnName.{ColumnName}
use Rattle.iv_catalogue.specs.declared.catalogue.Table.{Table}
use Rattle.iv_resolution.specs.Scopes.{NamedRange, Names, column_meant, source_named, table_place}
use Rattle.iv_resolution.specs.Triggers.{variable_named}
use Rattle.iv_laws_fitting.specs.Naming.{NamesColumn, NamesSource, NamesTarget, NamesVariable}

-- What is found is named, what is named is found, and so at most one thing is named.
pub record Finds {X : Type 0} (Named : X → Type 0) (found : Option X) : Type 0 where
  pub sound : (x : X) → found ≡ Some x → Named x
  pub complete : (x : X) → Named x → found ≡ Some x

abbrev pub ColumnsAreFound : Type 0
ColumnsAreFound = (ranges : List NamedRange) (c : ColumnName) → Finds (NamesColumn ranges c) (column_meant ranges c)

abbrev pub SourcesAreFound : Type 0
SourcesAreFound = (names : Names) (name : List ℕ) → Finds (NamesSource names name) (source_named names name)

abbrev pub TargetsAreFound : Type 0
TargetsAreFound = (tables : List Table) (name : List ℕ) → Finds (NamesTarget tables name) (table_place tables name)

abbrev pub VariablesAreFound : Type 0
VariablesAreFound = (variables : List NamedRange) (name : List ℕ) → Finds (NamesVariable variables name) (variable_named variables name)
