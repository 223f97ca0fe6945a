-- What a word is written as, and which words can be written.
use Rattle.std.specs.Prelude.{◌≡◌, ◌≤◌, ℕ, true, List, [], ◌∷◌, ◌++◌, codes, flat_map, decimal}
use Rattle.iv_syntax.specs.declared.limits.TheConstants.{GREATEST_INTEGER}
use Rattle.iv_lex.specs.declared.kind.TokenKind.{TokenKind}
use Rattle.iv_lex.specs.declared.kind.TokenKind.TheVariants as kind
use Rattle.iv_lex.specs.Reserved.{word_kind}
use Rattle.iv_lex.specs.Words.{Word, name, number, quoted, plain}
use Rattle.iv_parse_terms.specs.After.{is_plain}
use Rattle.iv_template.specs.Literals.{quote_doubled}
use Rattle.iv_write.specs.Names.{is_name}

-- a symbol, or a reserved word in upper case; nothing for what is neither
abbrev pub kind_text : TokenKind → List ℕ
kind_text kind.LeftParenthesis = codes "("
kind_text kind.RightParenthesis = codes ")"
kind_text kind.Comma = codes ","
kind_text kind.Semicolon = codes ";"
kind_text kind.Period = codes "."
kind_text kind.Equals = codes "="
kind_text kind.NotEquals = codes "<>"
kind_text kind.Less = codes "<"
kind_text kind.LessEquals = codes "<="
kind_text kind.Greater = codes ">"
kind_text kind.GreaterEquals = codes ">="
kind_text kind.Plus = codes "+"
kind_text kind.Minus = codes "-"
kind_text kind.Asterisk = codes "*"
kind_text kind.Action = codes "ACTION"
kind_text kind.Add = codes "ADD"
kind_text kind.After = codes "AFTER"
kind_text kind.All = codes "ALL"
kind_text kind.Alter = codes "ALTER"
kind_text kind.And = codes "AND"
kind_text kind.As = codes "AS"
kind_text kind.Atomic = codes "ATOMIC"
kind_text kind.Before = codes "BEFORE"
kind_text kind.Begin = codes "BEGIN"
kind_text kind.Cascade = codes "CASCADE"
kind_text kind.Char = codes "CHAR"
kind_text kind.Character = codes "CHARACTER"
kind_text kind.Check = codes "CHECK"
kind_text kind.Commit = codes "COMMIT"
kind_text kind.Constraint = codes "CONSTRAINT"
kind_text kind.Constraints = codes "CONSTRAINTS"
kind_text kind.Count = codes "COUNT"
kind_text kind.Create = codes "CREATE"
kind_text kind.Default = codes "DEFAULT"
kind_text kind.Deferrable = codes "DEFERRABLE"
kind_text kind.Deferred = codes "DEFERRED"
kind_text kind.Delete = codes "DELETE"
kind_text kind.Distinct = codes "DISTINCT"
kind_text kind.Drop = codes "DROP"
kind_text kind.Each = codes "EACH"
kind_text kind.End = codes "END"
kind_text kind.Exists = codes "EXISTS"
kind_text kind.For = codes "FOR"
kind_text kind.Foreign = codes "FOREIGN"
kind_text kind.From = codes "FROM"
kind_text kind.Full = codes "FULL"
kind_text kind.Immediate = codes "IMMEDIATE"
kind_text kind.Initially = codes "INITIALLY"
kind_text kind.Insert = codes "INSERT"
kind_text kind.Int = codes "INT"
kind_text kind.Integer = codes "INTEGER"
kind_text kind.Into = codes "INTO"
kind_text kind.Is = codes "IS"
kind_text kind.Key = codes "KEY"
kind_text kind.Match = codes "MATCH"
kind_text kind.New = codes "NEW"
kind_text kind.No = codes "NO"
kind_text kind.Not = codes "NOT"
kind_text kind.Null = codes "NULL"
kind_text kind.Nulls = codes "NULLS"
kind_text kind.Of = codes "OF"
kind_text kind.Old = codes "OLD"
kind_text kind.On = codes "ON"
kind_text kind.Or = codes "OR"
kind_text kind.Primary = codes "PRIMARY"
kind_text kind.References = codes "REFERENCES"
kind_text kind.Referencing = codes "REFERENCING"
kind_text kind.Release = codes "RELEASE"
kind_text kind.Restrict = codes "RESTRICT"
kind_text kind.Rollback = codes "ROLLBACK"
kind_text kind.Row = codes "ROW"
kind_text kind.Savepoint = codes "SAVEPOINT"
kind_text kind.Select = codes "SELECT"
kind_text kind.Set = codes "SET"
kind_text kind.Signal = codes "SIGNAL"
kind_text kind.Simple = codes "SIMPLE"
kind_text kind.Start = codes "START"
kind_text kind.Statement = codes "STATEMENT"
kind_text kind.Table = codes "TABLE"
kind_text kind.To = codes "TO"
kind_text kind.Transaction = codes "TRANSACTION"
kind_text kind.Trigger = codes "TRIGGER"
kind_text kind.Unique = codes "UNIQUE"
kind_text kind.Update = codes "UPDATE"
kind_text kind.Values = codes "VALUES"
kind_text kind.Varchar = codes "VARCHAR"
kind_text kind.Varying = codes "VARYING"
kind_text kind.When = codes "WHEN"
kind_text kind.Where = codes "WHERE"
kind_text kind.Work = codes "WORK"
kind_text kind.Name = []
kind_text (kind.Number n) = []
kind_text kind.Quoted = []

-- a name as it is, decimal digits, a text between single quotes with two for each one, a symbol or a reserved word
abbrev pub word_text : Word → List ℕ
word_text (name n) = n
word_text (number n) = decimal n
word_text (quoted t) = 39 ∷ (flat_map quote_doubled t ++ 39 ∷ [])
word_text (plain k) = kind_text k

-- a name of the language, and no reserved word
pub record IsName (n : List ℕ) : Type 0 where
  pub formed : is_name n ≡ true
  pub free : word_kind n ≡ kind.Name

-- which words can be written: names, numbers that are no greater than the greatest, texts, symbols and reserved words
abbrev pub IsWritten : Word → Type 0
IsWritten (name n) = IsName n
IsWritten (number n) = n ≤ GREATEST_INTEGER
IsWritten (quoted t) = Unit {0}
IsWritten (plain k) = is_plain k ≡ true

abbrev pub AreWritten : List Word → Type 0
AreWritten [] = Unit {0}
AreWritten (w ∷ ws) = IsWritten w × AreWritten ws
