-- Tables: which words are the parts of CREATE TABLE and ALTER TABLE.
use Rattle.std.specs.Prelude.{◌≡◌, ◌⊎◌, ℕ, Bool, true, false, Option, Some, None, List, [], ◌∷◌, ◌++◌}
use Rattle.iv_lex.specs.declared.kind.TokenKind.{TokenKind}
use Rattle.iv_lex.specs.declared.kind.TokenKind.TheVariants as kind
use Rattle.iv_lex.specs.Words.{Word, name, number, quoted, plain}
use Rattle.iv_parse_data.specs.Types.{ConstraintMode, Literal, ColumnType, ConstraintTime, MatchType, NullTreatment, ReferentialAction, References, ColumnRule, ColumnConstraint, TableRule, TableConstraint, ColumnDefinition, TableElement}
use Rattle.iv_parse_data.specs.Types.mode.{Immediate, Deferred}
use Rattle.iv_parse_data.specs.Types.literal
use Rattle.iv_parse_data.specs.Types.type.{Integer, Varchar}
use Rattle.iv_parse_data.specs.Types.matching.{Simple, Full}
use Rattle.iv_parse_data.specs.Types.nulls.{Distinct, NotDistinct}
use Rattle.iv_parse_data.specs.Types.referential_action.{NoAction, Restrict, Cascade, SetNull, SetDefault}
use Rattle.iv_parse_data.specs.Types.column_rule
use Rattle.iv_parse_data.specs.Types.table_rule
use Rattle.iv_parse_data.specs.Types.element.{Column, Constraint}
use Rattle.iv_parse_terms.specs.Expressions.{sign_kind}
use Rattle.iv_parse_data.specs.Series.{Series, Sequence, Maybe, InParentheses, InEitherOrder}
use Rattle.iv_parse_data.specs.Data.{Names, IsColumnList, IsShallowCondition}

abbrev pub mode_kind : ConstraintMode → TokenKind
mode_kind Immediate = kind.Immediate
mode_kind Deferred = kind.Deferred

-- VARCHAR | CHARACTER VARYING | CHAR VARYING
abbrev pub IsVarchar : List Word → Type 0
IsVarchar ws =
    (ws ≡ plain kind.Varchar ∷ []) ⊎ ((ws ≡ plain kind.Character ∷ plain kind.Varying ∷ []) ⊎ (ws ≡ plain kind.Char ∷ plain kind.Varying ∷ []))

-- INTEGER | INT | varchar ( number )
abbrev pub IsType : List Word → ColumnType → Type 0
IsType ws Integer = (ws ≡ plain kind.Integer ∷ []) ⊎ (ws ≡ plain kind.Int ∷ [])
IsType ws (Varchar n) =
    (head : List Word) × IsVarchar head × (ws ≡ head ++ plain kind.LeftParenthesis ∷ number n ∷ plain kind.RightParenthesis ∷ [])

-- [ + | - ] number | text | NULL
abbrev pub IsLiteral : List Word → Literal → Type 0
IsLiteral ws (literal.Number None n) = ws ≡ number n ∷ []
IsLiteral ws (literal.Number (Some s) n) = ws ≡ plain (sign_kind s) ∷ number n ∷ []
IsLiteral ws (literal.Text t) = ws ≡ quoted t ∷ []
IsLiteral ws literal.Null = ws ≡ plain kind.Null ∷ []

-- DEFAULT literal
abbrev pub IsDefault : List Word → Literal → Type 0
IsDefault ws l = (inner : List Word) × IsLiteral inner l × (ws ≡ plain kind.Default ∷ inner)

-- CONSTRAINT name
abbrev pub IsConstraintName : List Word → List ℕ → Type 0
IsConstraintName ws n = ws ≡ plain kind.Constraint ∷ name n ∷ []

-- [ NOT ] DEFERRABLE
abbrev pub IsDeferrable : List Word → Bool → Type 0
IsDeferrable ws true = ws ≡ plain kind.Deferrable ∷ []
IsDeferrable ws false = ws ≡ plain kind.Not ∷ plain kind.Deferrable ∷ []

-- INITIALLY < DEFERRED | IMMEDIATE >
abbrev pub IsInitially : List Word → ConstraintMode → Type 0
IsInitially ws m = ws ≡ plain kind.Initially ∷ plain (mode_kind m) ∷ []

-- both or one of them or neither, in either order
abbrev pub IsTime : List Word → ConstraintTime → Type 0
IsTime ws t = InEitherOrder (Maybe IsDeferrable) (Maybe IsInitially) ws (t.deferrable, t.initially)

abbrev pub match_kind : MatchType → TokenKind
match_kind Simple = kind.Simple
match_kind Full = kind.Full

-- MATCH < SIMPLE | FULL >
abbrev pub IsMatch : List Word → MatchType → Type 0
IsMatch ws m = ws ≡ plain kind.Match ∷ plain (match_kind m) ∷ []

-- NO ACTION | RESTRICT | CASCADE | SET NULL | SET DEFAULT
abbrev pub action_words : ReferentialAction → List Word
action_words NoAction = plain kind.No ∷ plain kind.Action ∷ []
action_words Restrict = plain kind.Restrict ∷ []
action_words Cascade = plain kind.Cascade ∷ []
action_words SetNull = plain kind.Set ∷ plain kind.Null ∷ []
action_words SetDefault = plain kind.Set ∷ plain kind.Default ∷ []

-- ON and DELETE or UPDATE, and an action
abbrev pub IsOn : TokenKind → List Word → ReferentialAction → Type 0
IsOn event ws a = ws ≡ plain kind.On ∷ plain event ∷ action_words a

-- ON DELETE and ON UPDATE, or one of them or neither, in either order
abbrev pub AreActions : List Word → Option ReferentialAction × Option ReferentialAction → Type 0
AreActions = InEitherOrder (Maybe (IsOn kind.Delete)) (Maybe (IsOn kind.Update))

-- REFERENCES table [ ( names ) ] [ MATCH .. ] [ ON .. ]
abbrev pub IsReferences : List Word → References → Type 0
IsReferences ws r =
    (columns : List Word) × (matching : List Word) × (actions : List Word)
    × IsColumnList columns r.columns × Maybe IsMatch matching r.matching × AreActions actions (r.on_delete, r.on_update)
    × (ws ≡ plain kind.References ∷ name r.table ∷ (columns ++ (matching ++ actions)))

-- [ NULLS NOT DISTINCT ]
abbrev pub null_words : NullTreatment → List Word
null_words Distinct = []
null_words NotDistinct = plain kind.Nulls ∷ plain kind.Not ∷ plain kind.Distinct ∷ []

-- NOT NULL | UNIQUE [ NULLS .. ] | PRIMARY KEY | CHECK ( condition ) | references
abbrev pub IsColumnRule : List Word → ColumnRule → Type 0
IsColumnRule ws column_rule.NotNull = ws ≡ plain kind.Not ∷ plain kind.Null ∷ []
IsColumnRule ws (column_rule.Unique nulls) = ws ≡ plain kind.Unique ∷ null_words nulls
IsColumnRule ws column_rule.PrimaryKey = ws ≡ plain kind.Primary ∷ plain kind.Key ∷ []
IsColumnRule ws (column_rule.Check c) = (check : List Word) × InParentheses IsShallowCondition check c × (ws ≡ plain kind.Check ∷ check)
IsColumnRule ws (column_rule.References r) = IsReferences ws r

-- [ CONSTRAINT name ] rule [ time ]
abbrev pub IsColumnConstraint : List Word → ColumnConstraint → Type 0
IsColumnConstraint ws c =
    (called : List Word) × (rule : List Word) × (time : List Word)
    × Maybe IsConstraintName called c.name × IsColumnRule rule c.rule × IsTime time c.time × (ws ≡ called ++ (rule ++ time))

-- name type [ DEFAULT literal ] { constraint }
abbrev pub IsColumn : List Word → ColumnDefinition → Type 0
IsColumn ws c =
    (type : List Word) × (default : List Word) × (constraints : List Word)
    × IsType type c.kind × Maybe IsDefault default c.default × Sequence IsColumnConstraint constraints c.constraints
    × (ws ≡ name c.name ∷ (type ++ (default ++ constraints)))

-- UNIQUE [ NULLS .. ] ( names ) | PRIMARY KEY ( names ) | CHECK ( condition ) | FOREIGN KEY ( names ) references
abbrev pub IsTableRule : List Word → TableRule → Type 0
IsTableRule ws (table_rule.Unique nulls ns) =
    (key : List Word) × InParentheses Names key ns × (ws ≡ plain kind.Unique ∷ (null_words nulls ++ key))
IsTableRule ws (table_rule.PrimaryKey ns) =
    (key : List Word) × InParentheses Names key ns × (ws ≡ plain kind.Primary ∷ plain kind.Key ∷ key)
IsTableRule ws (table_rule.Check c) = (check : List Word) × InParentheses IsShallowCondition check c × (ws ≡ plain kind.Check ∷ check)
IsTableRule ws (table_rule.ForeignKey ns r) =
    (key : List Word) × (references : List Word) × InParentheses Names key ns × IsReferences references r
    × (ws ≡ plain kind.Foreign ∷ plain kind.Key ∷ (key ++ references))

-- [ CONSTRAINT name ] rule [ time ]
abbrev pub IsTableConstraint : List Word → TableConstraint → Type 0
IsTableConstraint ws c =
    (called : List Word) × (rule : List Word) × (time : List Word)
    × Maybe IsConstraintName called c.name × IsTableRule rule c.rule × IsTime time c.time × (ws ≡ called ++ (rule ++ time))

-- a column or a constraint
abbrev pub IsElement : List Word → TableElement → Type 0
IsElement ws (Column c) = IsColumn ws c
IsElement ws (Constraint c) = IsTableConstraint ws c

-- CREATE TABLE name ( element {, element} )
abbrev pub IsCreateTable : List Word → List ℕ → List TableElement → Type 0
IsCreateTable ws n es =
    (body : List Word) × InParentheses (Series IsElement) body es × (ws ≡ plain kind.Create ∷ plain kind.Table ∷ name n ∷ body)

-- ALTER TABLE name ADD constraint
abbrev pub IsAlterTable : List Word → List ℕ → TableConstraint → Type 0
IsAlterTable ws n c =
    (constraint : List Word) × IsTableConstraint constraint c
    × (ws ≡ plain kind.Alter ∷ plain kind.Table ∷ name n ∷ plain kind.Add ∷ constraint)
