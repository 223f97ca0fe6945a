-- Value expressions, literals and types as a person writes them.
use Rattle.std.specs.Prelude.{ℕ, List, [], ◌∷◌, ◌++◌, codes, decimal, Option, Some, None}
use Rattle.std.specs.List.{flat_map}
use Rattle.iv_syntax.specs.declared.table.ColumnType.{ColumnType}
use Rattle.iv_syntax.specs.declared.table.ColumnType.TheVariants as type
use Rattle.iv_syntax.specs.declared.table.Literal.{Literal}
use Rattle.iv_syntax.specs.declared.table.Literal.TheVariants as literal
use Rattle.iv_syntax.specs.declared.tree.Expression.{Expression}
use Rattle.iv_syntax.specs.declared.tree.Expression.TheVariants.{Number, Text, Null, Column}
use Rattle.iv_syntax.specs.declared.tree.Sign.{Sign}
use Rattle.iv_syntax.specs.declared.tree.Sign.TheVariants.{Plus, Minus}
use Rattle.iv_syntax.specs.Trees.{group, signed, product, sum}
use Rattle.iv_text.specs.Lines.{quoted_text}

-- a sign before its operand
abbrev pub sign_text : Sign → List ℕ
sign_text Plus = codes "+"
sign_text Minus = codes "-"

-- a sign between two operands
abbrev pub operator_text : Sign → List ℕ
operator_text Plus = codes " + "
operator_text Minus = codes " - "

-- the range or row variable before a column that is written with one
abbrev pub qualifier_text : Option (List ℕ) → List ℕ
qualifier_text None = []
qualifier_text (Some q) = q ++ codes "."

abbrev pub expression_text : Expression → List ℕ
expression_text (Number n) = decimal n
expression_text (Text t) = quoted_text t
expression_text Null = codes "NULL"
expression_text (Column c) = qualifier_text c.qualifier ++ c.name
expression_text (group a) = codes "(" ++ (expression_text a ++ codes ")")
expression_text (signed s a) = sign_text s ++ expression_text a
expression_text (product a b) = expression_text a ++ (codes " * " ++ expression_text b)
expression_text (sum s a b) = expression_text a ++ (operator_text s ++ expression_text b)

abbrev pub sign_before : Option Sign → List ℕ
sign_before None = []
sign_before (Some s) = sign_text s

-- a literal of a DEFAULT
abbrev pub literal_text : Literal → List ℕ
literal_text (literal.Number sign n) = sign_before sign ++ decimal n
literal_text (literal.Text t) = quoted_text t
literal_text literal.Null = codes "NULL"

-- a type after its article
abbrev pub type_text : ColumnType → List ℕ
type_text type.Integer = codes "an INTEGER"
type_text (type.Varchar n) = codes "a VARCHAR(" ++ (decimal n ++ codes ")")

-- what a value is that doesn't suit a column of this type
abbrev pub unsuited_text : ColumnType → List ℕ
unsuited_text type.Integer = codes " is a text, and "
unsuited_text (type.Varchar n) = codes " is an integer, and "

-- a name after another
abbrev pub further_name : List ℕ → List ℕ
further_name name = codes ", " ++ name

abbrev pub names_text : List (List ℕ) → List ℕ
names_text [] = []
names_text (name ∷ names) = name ++ flat_map further_name names
