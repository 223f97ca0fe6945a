-- CREATE TABLE and ALTER TABLE in the words that they are written with.
use Rattle.std.proofs.Common.{inl, ℕ, true, false, Some, None, List, [], ◌∷◌, ◌++◌, refl, subst}
use Rattle.iv_lex.specs.declared.kind.TokenKind.{TokenKind}
use Rattle.iv_lex.specs.declared.kind.TokenKind.TheVariants as kind
use Rattle.iv_lex.specs.Words.{Word, name, number, plain}
use Rattle.iv_parse_data.specs.Series.{Series, Maybe, InParentheses}
use Rattle.iv_parse_data.specs.Data.{Names, IsShallowCondition}
use Rattle.iv_parse_data.specs.Tables.{null_words, IsType, IsLiteral, IsDefault, IsConstraintName, IsDeferrable, IsInitially, IsTime, IsMatch, IsOn, IsReferences, IsColumnRule, IsColumnConstraint, IsColumn, IsTableRule, IsTableConstraint, IsElement, IsCreateTable, IsAlterTable}
use Rattle.iv_write.specs.Types.{TableElement, TableConstraint}
use Rattle.iv_write.specs.Types.literal
use Rattle.iv_write.specs.Types.type.{Integer, Varchar}
use Rattle.iv_write.specs.Types.column_rule
use Rattle.iv_write.specs.Types.table_rule
use Rattle.iv_write.specs.Types.element.{Column, Constraint}
use Rattle.iv_write.specs.Spelling.{AreWritten}
use Rattle.iv_write.specs.Terms.{condition_words}
use Rattle.iv_write.specs.Parts.{series_words, sequence_words, enclosed_words}
use Rattle.iv_write.specs.Data.{names_words, column_list_words}
use Rattle.iv_write.specs.Tables.{type_words, literal_words, default_words, constraint_name_words, deferrable_words, initially_words, time_words, match_words, on_words, actions_words, references_words, column_rule_words, column_constraint_words, column_words, table_rule_words, table_constraint_words, element_words, create_table_words, alter_table_words}
use Rattle.iv_write.proofs.Canonical.{joined, parts, Canonical}
use Rattle.iv_write.proofs.CanonicalParts.{series_canonical, sequence_canonical, enclosed_canonical, order_canonical}
use Rattle.iv_write.proofs.CanonicalData.{names_canonical, shallow_condition_canonical, column_list_canonical}

-- ---- types and defaults

type_canonical : Canonical IsType type_words
type_canonical ws Integer p w = (inl refl, (refl, tt {0}))
type_canonical ws (Varchar n) (head, p, e) w =
    let v = parts head (plain kind.LeftParenthesis ∷ number n ∷ plain kind.RightParenthesis ∷ []) (subst AreWritten e w) in
    ((plain kind.Varchar ∷ [], inl refl, refl), (refl, v.1))

literal_canonical : Canonical IsLiteral literal_words
literal_canonical ws (literal.Number None n) e w = (refl, subst AreWritten e w)
literal_canonical ws (literal.Number (Some s) n) e w = (refl, subst AreWritten e w)
literal_canonical ws (literal.Text t) e w = (refl, subst AreWritten e w)
literal_canonical ws literal.Null e w = (refl, subst AreWritten e w)

default_canonical : Canonical (Maybe IsDefault) default_words
default_canonical ws None e w = (refl, tt {0})
default_canonical ws (Some l) (inner, p, e) w =
    let u : AreWritten (plain kind.Default ∷ inner) = subst AreWritten e w in
    let x = literal_canonical inner l p u.1 in
    ((literal_words l, x.0, refl), (refl, x.1))

-- ---- constraints

called_canonical : Canonical (Maybe IsConstraintName) constraint_name_words
called_canonical ws None e w = (refl, tt {0})
called_canonical ws (Some n) e w = (refl, subst AreWritten e w)

deferrable_canonical : Canonical (Maybe IsDeferrable) deferrable_words
deferrable_canonical ws None e w = (refl, tt {0})
deferrable_canonical ws (Some true) e w = (refl, subst AreWritten e w)
deferrable_canonical ws (Some false) e w = (refl, subst AreWritten e w)

initially_canonical : Canonical (Maybe IsInitially) initially_words
initially_canonical ws None e w = (refl, tt {0})
initially_canonical ws (Some m) e w = (refl, subst AreWritten e w)

time_canonical : Canonical IsTime time_words
time_canonical ws t p w = order_canonical (Maybe IsDeferrable) (Maybe IsInitially) deferrable_words initially_words deferrable_canonical initially_canonical ws (t.deferrable, t.initially) p w

match_canonical : Canonical (Maybe IsMatch) match_words
match_canonical ws None e w = (refl, tt {0})
match_canonical ws (Some m) e w = (refl, subst AreWritten e w)

on_canonical : (event : TokenKind) → Canonical (Maybe (IsOn event)) (on_words event)
on_canonical event ws None e w = (refl, tt {0})
on_canonical event ws (Some a) e w = (refl, subst AreWritten e w)

references_canonical : Canonical IsReferences references_words
references_canonical ws r (columns, matching, actions, p, q, s, e) w =
    let u : AreWritten (plain kind.References ∷ name r.table ∷ (columns ++ (matching ++ actions))) = subst AreWritten e w in
    let v = parts columns (matching ++ actions) u.1.1 in
    let t = parts matching actions v.1 in
    let x = column_list_canonical columns r.columns p v.0 in
    let y = match_canonical matching r.matching q t.0 in
    let z = order_canonical (Maybe (IsOn kind.Delete)) (Maybe (IsOn kind.Update)) (on_words kind.Delete) (on_words kind.Update) (on_canonical kind.Delete) (on_canonical kind.Update) actions (r.on_delete, r.on_update) s t.1 in
    let acts : List Word = actions_words r.on_delete r.on_update in (
      (column_list_words r.columns, match_words r.matching, acts, x.0, y.0, z.0, refl),
      (refl, (u.1.0, joined (column_list_words r.columns) (match_words r.matching ++ acts) x.1 (joined (match_words r.matching) acts y.1 z.1))),
    )

column_rule_canonical : Canonical IsColumnRule column_rule_words
column_rule_canonical ws column_rule.NotNull e w = (refl, subst AreWritten e w)
column_rule_canonical ws (column_rule.Unique n) e w = (refl, subst AreWritten e w)
column_rule_canonical ws column_rule.PrimaryKey e w = (refl, subst AreWritten e w)
column_rule_canonical ws (column_rule.Check c) (check, p, e) w =
    let u : AreWritten (plain kind.Check ∷ check) = subst AreWritten e w in
    let x = enclosed_canonical IsShallowCondition condition_words shallow_condition_canonical check c p u.1 in
    ((enclosed_words (condition_words c), x.0, refl), (refl, x.1))
column_rule_canonical ws (column_rule.References r) p w = references_canonical ws r p w

column_constraint_canonical : Canonical IsColumnConstraint column_constraint_words
column_constraint_canonical ws c (called, rule, time, p, q, r, e) w =
    let v = parts called (rule ++ time) (subst AreWritten e w) in
    let t = parts rule time v.1 in
    let x = called_canonical called c.name p v.0 in
    let y = column_rule_canonical rule c.rule q t.0 in
    let z = time_canonical time c.time r t.1 in (
      (constraint_name_words c.name, column_rule_words c.rule, time_words c.time, x.0, y.0, z.0, refl),
      joined (constraint_name_words c.name) (column_rule_words c.rule ++ time_words c.time) x.1 (joined (column_rule_words c.rule) (time_words c.time) y.1 z.1),
    )

column_canonical : Canonical IsColumn column_words
column_canonical ws c (type, default, constraints, p, q, r, e) w =
    let u : AreWritten (name c.name ∷ (type ++ (default ++ constraints))) = subst AreWritten e w in
    let v = parts type (default ++ constraints) u.1 in
    let t = parts default constraints v.1 in
    let x = type_canonical type c.kind p v.0 in
    let y = default_canonical default c.default q t.0 in
    let z = sequence_canonical IsColumnConstraint column_constraint_words column_constraint_canonical constraints c.constraints r t.1 in
    let others : List Word = sequence_words column_constraint_words c.constraints in (
      (type_words c.kind, default_words c.default, others, x.0, y.0, z.0, refl),
      (u.0, joined (type_words c.kind) (default_words c.default ++ others) x.1 (joined (default_words c.default) others y.1 z.1)),
    )

-- ---- tables

key_canonical : Canonical (InParentheses Names) (λ ns. enclosed_words (names_words ns))
key_canonical = enclosed_canonical Names names_words names_canonical

table_rule_canonical : Canonical IsTableRule table_rule_words
table_rule_canonical ws (table_rule.Unique n ns) (key, p, e) w =
    let u : AreWritten (plain kind.Unique ∷ (null_words n ++ key)) = subst AreWritten e w in
    let v = parts (null_words n) key u.1 in
    let x = key_canonical key ns p v.1 in
    ((enclosed_words (names_words ns), x.0, refl), (refl, joined (null_words n) (enclosed_words (names_words ns)) v.0 x.1))
table_rule_canonical ws (table_rule.PrimaryKey ns) (key, p, e) w =
    let u : AreWritten (plain kind.Primary ∷ plain kind.Key ∷ key) = subst AreWritten e w in
    let x = key_canonical key ns p u.1.1 in
    ((enclosed_words (names_words ns), x.0, refl), (refl, (refl, x.1)))
table_rule_canonical ws (table_rule.Check c) (check, p, e) w =
    let u : AreWritten (plain kind.Check ∷ check) = subst AreWritten e w in
    let x = enclosed_canonical IsShallowCondition condition_words shallow_condition_canonical check c p u.1 in
    ((enclosed_words (condition_words c), x.0, refl), (refl, x.1))
table_rule_canonical ws (table_rule.ForeignKey ns r) (key, references, p, q, e) w =
    let u : AreWritten (plain kind.Foreign ∷ plain kind.Key ∷ (key ++ references)) = subst AreWritten e w in
    let v = parts key references u.1.1 in
    let x = key_canonical key ns p v.0 in
    let y = references_canonical references r q v.1 in
    ((enclosed_words (names_words ns), references_words r, x.0, y.0, refl), (refl, (refl, joined (enclosed_words (names_words ns)) (references_words r) x.1 y.1)))

table_constraint_canonical : Canonical IsTableConstraint table_constraint_words
table_constraint_canonical ws c (called, rule, time, p, q, r, e) w =
    let v = parts called (rule ++ time) (subst AreWritten e w) in
    let t = parts rule time v.1 in
    let x = called_canonical called c.name p v.0 in
    let y = table_rule_canonical rule c.rule q t.0 in
    let z = time_canonical time c.time r t.1 in (
      (constraint_name_words c.name, table_rule_words c.rule, time_words c.time, x.0, y.0, z.0, refl),
      joined (constraint_name_words c.name) (table_rule_words c.rule ++ time_words c.time) x.1 (joined (table_rule_words c.rule) (time_words c.time) y.1 z.1),
    )

element_canonical : Canonical IsElement element_words
element_canonical ws (Column c) p w = column_canonical ws c p w
element_canonical ws (Constraint c) p w = table_constraint_canonical ws c p w

pub create_table_canonical : (ws : List Word) (n : List ℕ) (es : List TableElement) → IsCreateTable ws n es → AreWritten ws
    → IsCreateTable (create_table_words n es) n es × AreWritten (create_table_words n es)
create_table_canonical ws n es (body, p, e) w =
    let u : AreWritten (plain kind.Create ∷ plain kind.Table ∷ name n ∷ body) = subst AreWritten e w in
    let x = enclosed_canonical (Series IsElement) (series_words element_words) (series_canonical IsElement element_words element_canonical) body es p u.1.1.1 in
    ((enclosed_words (series_words element_words es), x.0, refl), (refl, (refl, (u.1.1.0, x.1))))

pub alter_table_canonical : (ws : List Word) (n : List ℕ) (c : TableConstraint) → IsAlterTable ws n c → AreWritten ws
    → IsAlterTable (alter_table_words n c) n c × AreWritten (alter_table_words n c)
alter_table_canonical ws n c (constraint, p, e) w =
    let u : AreWritten (plain kind.Alter ∷ plain kind.Table ∷ name n ∷ plain kind.Add ∷ constraint) = subst AreWritten e w in
    let x = table_constraint_canonical constraint c p u.1.1.1.1 in
    ((table_constraint_words c, x.0, refl), (refl, (refl, (u.1.1.0, (refl, x.1)))))
