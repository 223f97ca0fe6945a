-- What is in the grammar of CREATE TABLE and ALTER TABLE is read.
use Rattle.std.proofs.Common.{◌≡◌, inl, inr, ℕ, Bool, true, false, Option, Some, None, List, [], ◌∷◌, ◌++◌, refl, sym, ◌∙◌, ap, subst, append_assoc}
use Rattle.iv_lex.specs.declared.kind.TokenKind.{TokenKind}
use Rattle.iv_lex.specs.declared.kind.TokenKind.TheVariants as kind
use Rattle.iv_lex.specs.Words.{Word, name, number, plain}
use Rattle.iv_syntax.specs.declared.tree.Sign.{Sign}
use Rattle.iv_syntax.specs.declared.tree.Sign.TheVariants as sign
use Rattle.iv_parse_data.specs.Types.{ConstraintMode, Literal, ColumnType, ConstraintTime, MatchType, NullTreatment, ReferentialAction, References, ColumnRule, ColumnConstraint, TableRule, TableConstraint, ColumnDefinition, TableElement}
use Rattle.iv_parse_data.specs.Types.mode.{Immediate, Deferred}
use Rattle.iv_parse_data.specs.Types.literal
use Rattle.iv_parse_data.specs.Types.type.{Integer, Varchar}
use Rattle.iv_parse_data.specs.Types.matching.{Simple, Full}
use Rattle.iv_parse_data.specs.Types.nulls.{Distinct, NotDistinct}
use Rattle.iv_parse_data.specs.Types.referential_action.{NoAction, Restrict, Cascade, SetNull, SetDefault}
use Rattle.iv_parse_data.specs.Types.column_rule
use Rattle.iv_parse_data.specs.Types.table_rule
use Rattle.iv_parse_data.specs.Types.element.{Column, Constraint}
use Rattle.iv_parse_terms.specs.After.{after, after_name, if_some, then_read, same}
use Rattle.iv_parse_terms.specs.Expressions.{sign_kind}
use Rattle.iv_parse_data.specs.Series.{Series, Sequence, Maybe, InParentheses}
use Rattle.iv_parse_data.specs.readers.Series.{read_all, read_optional, read_series}
use Rattle.iv_parse_data.specs.Data.{Names}
use Rattle.iv_parse_data.specs.readers.Data.{then_word, read_name}
use Rattle.iv_parse_data.specs.Tables.{mode_kind, IsVarchar, IsType, IsLiteral, IsDefault, IsConstraintName, IsDeferrable, IsInitially, IsTime, match_kind, IsMatch, action_words, IsOn, AreActions, IsReferences, null_words, IsColumnRule, IsColumnConstraint, IsTableRule, IsTableConstraint, IsElement}
use Rattle.iv_parse_data.specs.readers.Tables.{read_length, read_type, read_literal, read_default, read_constraint_name, read_deferrable, read_mode, read_initially, read_time, read_match_type, read_match, read_referential_action, read_on, read_actions, read_references, read_null_treatment, read_column_rule, column_constraint_of, read_column_constraint, read_column_constraints, read_column, read_key, read_foreign_key, read_table_rule, read_table_constraint, read_element, read_elements}
use Rattle.iv_parse_data.proofs.Complete.{Reads_all, Anything, series_complete, enclosed_complete}
use Rattle.iv_parse_data.proofs.OptionalComplete.{maybe_after, either_after, either_order_complete, Parts, sequence_complete}
use Rattle.iv_parse_data.proofs.DataComplete.{names_complete, column_list_reads, check_complete, other_word}
use Rattle.iv_parse_data.proofs.Readers.{read_varchar, read_strict_action, read_reference_columns, read_null_rule, read_primary_rule, read_unique_column, read_plain_rule, read_condition_rule, read_primary_key, read_check_rule, read_unique_key, read_unique_rule, read_column_element}

varchar_reads : (n : ℕ) (head rest : List Word) → IsVarchar head
    → read_type (head ++ plain kind.LeftParenthesis ∷ number n ∷ plain kind.RightParenthesis ∷ rest) ≡ Some (Varchar n, rest)
unfolding read_type read_length
varchar_reads n head rest (inl h) = ap (λ z. read_type (z ++ plain kind.LeftParenthesis ∷ number n ∷ plain kind.RightParenthesis ∷ rest)) h
varchar_reads n head rest (inr (inl h)) = ap (λ z. read_type (z ++ plain kind.LeftParenthesis ∷ number n ∷ plain kind.RightParenthesis ∷ rest)) h
varchar_reads n head rest (inr (inr h)) = ap (λ z. read_type (z ++ plain kind.LeftParenthesis ∷ number n ∷ plain kind.RightParenthesis ∷ rest)) h

type_reads : (t : ColumnType) (front rest : List Word) → IsType front t → read_type (front ++ rest) ≡ Some (t, rest)
unfolding read_type
type_reads Integer front rest (inl h) = ap (λ z. read_type (z ++ rest)) h
type_reads Integer front rest (inr h) = ap (λ z. read_type (z ++ rest)) h
type_reads (Varchar n) front rest (head, h, w) =
    ap (λ z. read_type (z ++ rest)) w
    ∙ ap read_type (append_assoc head (plain kind.LeftParenthesis ∷ number n ∷ plain kind.RightParenthesis ∷ []) rest)
    ∙ varchar_reads n head rest h

signed_reads : (s : Sign) (n : ℕ) (rest : List Word) → read_literal (plain (sign_kind s) ∷ number n ∷ rest) ≡ Some (literal.Number (Some s) n, rest)
unfolding read_literal
signed_reads sign.Plus n rest = refl
signed_reads sign.Minus n rest = refl

literal_reads : (l : Literal) (front rest : List Word) → IsLiteral front l → read_literal (front ++ rest) ≡ Some (l, rest)
unfolding read_literal
literal_reads (literal.Number None n) front rest h = ap (λ z. read_literal (z ++ rest)) h
literal_reads (literal.Number (Some s) n) front rest h = ap (λ z. read_literal (z ++ rest)) h ∙ signed_reads s n rest
literal_reads (literal.Text t) front rest h = ap (λ z. read_literal (z ++ rest)) h
literal_reads literal.Null front rest h = ap (λ z. read_literal (z ++ rest)) h

default_reads : (d : Option Literal) (front rest : List Word) → Maybe IsDefault front d → after kind.Default rest ≡ None → read_default (front ++ rest) ≡ Some (d, rest)
unfolding read_optional
default_reads None front rest p e =
    ap (λ z. read_default (z ++ rest)) p
    ∙ ap (λ o. if_some o (λ more. then_read (read_literal more) (λ l left. Some (Some l, left))) (Some (None, rest))) e
default_reads (Some l) front rest (inner, p, w) e =
    ap (λ z. read_default (z ++ rest)) w ∙ ap (λ o. then_read o (λ l left. Some (Some l, left))) (literal_reads l inner rest p)

constraint_name_reads : (n : Option (List ℕ)) (front rest : List Word) → Maybe IsConstraintName front n → after kind.Constraint rest ≡ None → read_constraint_name (front ++ rest) ≡ Some (n, rest)
unfolding read_optional
constraint_name_reads None front rest p e =
    ap (λ z. read_constraint_name (z ++ rest)) p
    ∙ ap (λ o. if_some o (λ more. then_read (read_name more) (λ n left. Some (Some n, left))) (Some (None, rest))) e
constraint_name_reads (Some n) front rest p e = ap (λ z. read_constraint_name (z ++ rest)) p

deferrable_reads : (a : Bool) (front rest : List Word) → IsDeferrable front a → read_deferrable (front ++ rest) ≡ Some (Some a, rest)
unfolding read_deferrable
deferrable_reads true front rest h = ap (λ z. read_deferrable (z ++ rest)) h
deferrable_reads false front rest h = ap (λ z. read_deferrable (z ++ rest)) h

pub mode_reads : (m : ConstraintMode) (rest : List Word) → read_mode (plain (mode_kind m) ∷ rest) ≡ Some (m, rest)
unfolding read_mode
mode_reads Immediate rest = refl
mode_reads Deferred rest = refl

initially_reads : (m : ConstraintMode) (front rest : List Word) → IsInitially front m → read_initially (front ++ rest) ≡ Some (Some m, rest)
unfolding read_optional
initially_reads m front rest h = ap (λ z. read_initially (z ++ rest)) h ∙ ap (λ o. then_read o (λ m left. Some (Some m, left))) (mode_reads m rest)

no_initially : (ws : List Word) → after kind.Initially ws ≡ None → read_initially ws ≡ Some (None, ws)
unfolding read_optional
no_initially ws e = ap (λ o. if_some o (λ rest. then_read (read_mode rest) (λ m more. Some (Some m, more))) (Some (None, ws))) e

initially_apart : (m : ConstraintMode) (front rest : List Word) → IsInitially front m → read_deferrable (front ++ rest) ≡ Some (None, front ++ rest)
unfolding read_deferrable
initially_apart m front rest h = ap (λ z. read_deferrable (z ++ rest)) h ∙ ap (λ z. Some (None, z ++ rest)) (sym h)

-- the words cannot go on with the time of a constraint
pub record EndsTime (ws : List Word) : Type 0 where
  pub deferrable : read_deferrable ws ≡ Some (None, ws)
  pub initially : after kind.Initially ws ≡ None

time_reads : (t : ConstraintTime) (front rest : List Word) → IsTime front t → EndsTime rest → read_time (front ++ rest) ≡ Some (t, rest)
unfolding read_time
time_reads t front rest p e =
    ap (λ o. then_read o (λ p left. Some (record { deferrable = p.0; initially = p.1 }, left)))
    (either_order_complete IsDeferrable IsInitially read_deferrable read_initially
    (record { firsts = deferrable_reads; seconds = initially_reads; apart = initially_apart }) rest e.deferrable (no_initially rest e.initially) t.deferrable t.initially front p)

match_type_reads : (m : MatchType) (rest : List Word) → read_match_type (plain (match_kind m) ∷ rest) ≡ Some (m, rest)
unfolding read_match_type
match_type_reads Simple rest = refl
match_type_reads Full rest = refl

match_reads : (m : Option MatchType) (front rest : List Word) → Maybe IsMatch front m → after kind.Match rest ≡ None → read_match (front ++ rest) ≡ Some (m, rest)
unfolding read_optional
match_reads None front rest p e =
    ap (λ z. read_match (z ++ rest)) p
    ∙ ap (λ o. if_some o (λ more. then_read (read_match_type more) (λ m left. Some (Some m, left))) (Some (None, rest))) e
match_reads (Some m) front rest p e = ap (λ z. read_match (z ++ rest)) p ∙ ap (λ o. then_read o (λ m left. Some (Some m, left))) (match_type_reads m rest)

action_reads : (a : ReferentialAction) (rest : List Word) → read_referential_action (action_words a ++ rest) ≡ Some (a, rest)
unfolding read_referential_action
action_reads NoAction rest = refl
action_reads Restrict rest = refl
action_reads Cascade rest = refl
action_reads SetNull rest = refl
action_reads SetDefault rest = refl

delete_reads : (a : ReferentialAction) (front rest : List Word) → IsOn kind.Delete front a → read_on kind.Delete (front ++ rest) ≡ Some (Some a, rest)
unfolding read_on
delete_reads a front rest h = ap (λ z. read_on kind.Delete (z ++ rest)) h ∙ ap (λ o. then_read o (λ a left. Some (Some a, left))) (action_reads a rest)

update_reads : (a : ReferentialAction) (front rest : List Word) → IsOn kind.Update front a → read_on kind.Update (front ++ rest) ≡ Some (Some a, rest)
unfolding read_on
update_reads a front rest h = ap (λ z. read_on kind.Update (z ++ rest)) h ∙ ap (λ o. then_read o (λ a left. Some (Some a, left))) (action_reads a rest)

update_apart : (a : ReferentialAction) (front rest : List Word) → IsOn kind.Update front a → read_on kind.Delete (front ++ rest) ≡ Some (None, front ++ rest)
unfolding read_on
update_apart a front rest h = ap (λ z. read_on kind.Delete (z ++ rest)) h ∙ ap (λ z. Some (None, z ++ rest)) (sym h)

no_on : (event : TokenKind) (ws : List Word) → after kind.On ws ≡ None → read_on event ws ≡ Some (None, ws)
unfolding read_on
no_on event ws e =
    ap (λ o. if_some o (λ rest. if_some (after event rest) (λ more. then_read (read_referential_action more) (λ a left. Some (Some a, left))) (Some (None, ws))) (Some (None, ws))) e

actions_read : (a b : Option ReferentialAction) (front rest : List Word) → AreActions front (a, b) → after kind.On rest ≡ None → read_actions (front ++ rest) ≡ Some ((a, b), rest)
unfolding read_actions
actions_read a b front rest p e =
    either_order_complete (IsOn kind.Delete) (IsOn kind.Update) (read_on kind.Delete) (read_on kind.Update)
    (record { firsts = delete_reads; seconds = update_reads; apart = update_apart }) rest (no_on kind.Delete rest e) (no_on kind.Update rest e) a b front p

actions_after : (k : TokenKind) → same kind.On k ≡ false → (a b : Option ReferentialAction) (front ws : List Word) → AreActions front (a, b) → after k ws ≡ None → after k (front ++ ws) ≡ None
actions_after k h a b front ws p e =
    either_after (IsOn kind.Delete) (IsOn kind.Update) k
    (λ x f rest q. ap (λ z. after k (z ++ rest)) q ∙ other_word k kind.On _ h) (λ x f rest q. ap (λ z. after k (z ++ rest)) q ∙ other_word k kind.On _ h) a b front ws p e

match_after : (k : TokenKind) → same kind.Match k ≡ false → (m : Option MatchType) (front ws : List Word) → Maybe IsMatch front m → after k ws ≡ None → after k (front ++ ws) ≡ None
match_after k h m front ws p e = maybe_after IsMatch k (λ x f rest q. ap (λ z. after k (z ++ rest)) q ∙ other_word k kind.Match _ h) m front ws p e

-- the words cannot go on with a rule
pub record EndsRule (ws : List Word) : Type 0 where
  pub columns : after kind.LeftParenthesis ws ≡ None
  pub matching : after kind.Match ws ≡ None
  pub actions : after kind.On ws ≡ None
  pub nulls : after kind.Nulls ws ≡ None

references_read : (r : References) (front rest : List Word) → IsReferences front r → EndsRule rest
    → (back : List Word) × (front ++ rest ≡ plain kind.References ∷ back) × (read_references back ≡ Some (r, rest))
unfolding read_references
references_read r front rest (columns, matching, actions, p, q, s, w) e = (
  name r.table ∷ (columns ++ (matching ++ (actions ++ rest))),
  ap (λ z. z ++ rest) w
      ∙ ap (λ z. plain kind.References ∷ name r.table ∷ z) (append_assoc columns (matching ++ actions) rest ∙ ap (λ z. columns ++ z) (append_assoc matching actions rest)),
  ap (λ o. then_read o (λ cs left. then_read (read_match left) (λ m more. then_read (read_actions more)
      (λ p last. Some (record { table = r.table; columns = cs; matching = m; on_delete = p.0; on_update = p.1 }, last)))))
      (column_list_reads r.columns columns (matching ++ (actions ++ rest)) p
      (match_after kind.LeftParenthesis refl r.matching matching (actions ++ rest) q (actions_after kind.LeftParenthesis refl r.on_delete r.on_update actions rest s e.columns)))
      ∙ ap (λ o. then_read o (λ m more. then_read (read_actions more)
      (λ p last. Some (record { table = r.table; columns = r.columns; matching = m; on_delete = p.0; on_update = p.1 }, last))))
      (match_reads r.matching matching (actions ++ rest) q (actions_after kind.Match refl r.on_delete r.on_update actions rest s e.matching))
      ∙ ap (λ o. then_read o (λ p last. Some (record { table = r.table; columns = r.columns; matching = r.matching; on_delete = p.0; on_update = p.1 }, last)))
      (actions_read r.on_delete r.on_update actions rest s e.actions),
)

deferrable_after : (k : TokenKind) → same kind.Deferrable k ≡ false → same kind.Not k ≡ false → (a : Bool) (f ws : List Word) → IsDeferrable f a → after k (f ++ ws) ≡ None
deferrable_after k h i true f ws p = ap (λ z. after k (z ++ ws)) p ∙ other_word k kind.Deferrable _ h
deferrable_after k h i false f ws p = ap (λ z. after k (z ++ ws)) p ∙ other_word k kind.Not _ i

time_after : (k : TokenKind) → same kind.Deferrable k ≡ false → same kind.Not k ≡ false → same kind.Initially k ≡ false
    → (t : ConstraintTime) (front ws : List Word) → IsTime front t → after k ws ≡ None → after k (front ++ ws) ≡ None
time_after k h i j t front ws p e =
    either_after IsDeferrable IsInitially k (deferrable_after k h i) (λ x f rest q. ap (λ z. after k (z ++ rest)) q ∙ other_word k kind.Initially _ j) t.deferrable t.initially front ws p e

time_rule : (t : ConstraintTime) (front ws : List Word) → IsTime front t → EndsRule ws → EndsRule (front ++ ws)
time_rule t front ws p e = record {
  columns = time_after kind.LeftParenthesis refl refl refl t front ws p e.columns;
  matching = time_after kind.Match refl refl refl t front ws p e.matching;
  actions = time_after kind.On refl refl refl t front ws p e.actions;
  nulls = time_after kind.Nulls refl refl refl t front ws p e.nulls;
}

-- the words cannot go on with a constraint
pub record EndsConstraint (ws : List Word) : Type 0 where
  pub rule : EndsRule ws
  pub time : EndsTime ws

null_treatment_reads : (nulls : NullTreatment) (rest : List Word) → after kind.Nulls rest ≡ None → read_null_treatment (null_words nulls ++ rest) ≡ Some (nulls, rest)
unfolding read_null_treatment
null_treatment_reads Distinct rest e =
    ap (λ o. if_some o (λ more. then_word kind.Not more (λ left. then_word kind.Distinct left (λ last. Some (NotDistinct, last)))) (Some (Distinct, rest))) e
null_treatment_reads NotDistinct rest e = refl

column_rule_reads : (r : ColumnRule) (front rest : List Word) → IsColumnRule front r → EndsRule rest → read_column_rule (front ++ rest) ≡ Some (Some r, rest)
unfolding read_column_rule
column_rule_reads column_rule.NotNull front rest p e = ap (λ z. read_column_rule (z ++ rest)) p
column_rule_reads (column_rule.Unique nulls) front rest p e =
    ap (λ z. read_column_rule (z ++ rest)) p
    ∙ ap (λ o. then_read o (λ nulls left. Some (Some (column_rule.Unique nulls), left))) (null_treatment_reads nulls rest e.nulls)
column_rule_reads column_rule.PrimaryKey front rest p e = ap (λ z. read_column_rule (z ++ rest)) p
column_rule_reads (column_rule.Check c) front rest (check, p, w) e =
    ap (λ z. read_column_rule (z ++ rest)) w ∙ ap (λ o. then_read o (λ c left. Some (Some (column_rule.Check c), left))) (check_complete.reads c check rest p tt)
column_rule_reads (column_rule.References r) front rest p e =
    let (back, w, h) = references_read r front rest p e in
    ap read_column_rule w ∙ ap (λ o. then_read o (λ r left. Some (Some (column_rule.References r), left))) h

-- a rule doesn't begin with CONSTRAINT
column_rule_begins : (r : ColumnRule) (front rest : List Word) → IsColumnRule front r → after kind.Constraint (front ++ rest) ≡ None
column_rule_begins column_rule.NotNull front rest p = ap (λ z. after kind.Constraint (z ++ rest)) p
column_rule_begins (column_rule.Unique nulls) front rest p = ap (λ z. after kind.Constraint (z ++ rest)) p
column_rule_begins column_rule.PrimaryKey front rest p = ap (λ z. after kind.Constraint (z ++ rest)) p
column_rule_begins (column_rule.Check c) front rest (check, p, w) = ap (λ z. after kind.Constraint (z ++ rest)) w
column_rule_begins (column_rule.References r) front rest (columns, matching, actions, p, q, s, w) = ap (λ z. after kind.Constraint (z ++ rest)) w

column_constraint_reads : (c : ColumnConstraint) (front rest : List Word) → IsColumnConstraint front c → EndsConstraint rest → read_column_constraint (front ++ rest) ≡ Some (Some c, rest)
unfolding read_column_constraint
column_constraint_reads c front rest (called, rule, time, p, q, s, w) e =
    ap (λ z. read_column_constraint (z ++ rest)) w
    ∙ ap read_column_constraint (append_assoc called (rule ++ time) rest ∙ ap (λ z. called ++ z) (append_assoc rule time rest))
    ∙ ap (λ o. then_read o (λ n left. then_read (read_column_rule left) (column_constraint_of n)))
    (constraint_name_reads c.name called (rule ++ (time ++ rest)) p (column_rule_begins c.rule rule (time ++ rest) q))
    ∙ ap (λ o. then_read o (column_constraint_of c.name)) (column_rule_reads c.rule rule (time ++ rest) q (time_rule c.time time rest s e.rule))
    ∙ ap (λ o. then_read o (λ t left. Some (Some (record { name = c.name; rule = c.rule; time = t }), left))) (time_reads c.time time rest s e.time)

-- each of these words begins something else
constraint_ends : (ws : List Word) → EndsConstraint (plain kind.Constraint ∷ ws)
unfolding read_deferrable
constraint_ends ws = record { rule = record { columns = refl; matching = refl; actions = refl; nulls = refl }; time = record { deferrable = refl; initially = refl } }

column_rule_ends : (r : ColumnRule) (front rest : List Word) → IsColumnRule front r → EndsConstraint (front ++ rest)
unfolding read_deferrable
column_rule_ends column_rule.NotNull front rest p =
    subst (λ z. EndsConstraint (z ++ rest)) (sym p) (record { rule = record { columns = refl; matching = refl; actions = refl; nulls = refl }; time = record { deferrable = refl; initially = refl } })
column_rule_ends (column_rule.Unique nulls) front rest p =
    subst (λ z. EndsConstraint (z ++ rest)) (sym p) (record { rule = record { columns = refl; matching = refl; actions = refl; nulls = refl }; time = record { deferrable = refl; initially = refl } })
column_rule_ends column_rule.PrimaryKey front rest p =
    subst (λ z. EndsConstraint (z ++ rest)) (sym p) (record { rule = record { columns = refl; matching = refl; actions = refl; nulls = refl }; time = record { deferrable = refl; initially = refl } })
column_rule_ends (column_rule.Check c) front rest (check, p, w) =
    subst (λ z. EndsConstraint (z ++ rest)) (sym w) (record { rule = record { columns = refl; matching = refl; actions = refl; nulls = refl }; time = record { deferrable = refl; initially = refl } })
column_rule_ends (column_rule.References r) front rest (columns, matching, actions, p, q, s, w) =
    subst (λ z. EndsConstraint (z ++ rest)) (sym w) (record { rule = record { columns = refl; matching = refl; actions = refl; nulls = refl }; time = record { deferrable = refl; initially = refl } })

called_ends : (n : Option (List ℕ)) (r : ColumnRule) (called rule rest : List Word) → Maybe IsConstraintName called n → IsColumnRule rule r → EndsConstraint (called ++ (rule ++ rest))
called_ends None r called rule rest p q = subst (λ z. EndsConstraint (z ++ (rule ++ rest))) (sym p) (column_rule_ends r rule rest q)
called_ends (Some n) r called rule rest p q = subst (λ z. EndsConstraint (z ++ (rule ++ rest))) (sym p) (constraint_ends (name n ∷ (rule ++ rest)))

column_constraint_begins : (c : ColumnConstraint) (front rest : List Word) → IsColumnConstraint front c → EndsConstraint (front ++ rest)
column_constraint_begins c front rest (called, rule, time, p, q, s, w) =
    subst EndsConstraint (sym (ap (λ z. z ++ rest) w ∙ append_assoc called (rule ++ time) rest ∙ ap (λ z. called ++ z) (append_assoc rule time rest)))
    (called_ends c.name c.rule called rule (time ++ rest) p q)

pub statement_constraint : (ws : List Word) → EndsConstraint (plain kind.Semicolon ∷ ws)
unfolding read_deferrable
statement_constraint ws = record { rule = record { columns = refl; matching = refl; actions = refl; nulls = refl }; time = record { deferrable = refl; initially = refl } }

constraint_parts : Parts IsColumnConstraint EndsConstraint read_column_constraint
constraint_parts = record { reads = column_constraint_reads; begins = column_constraint_begins }

-- a comma or a parenthesis that closes
pub data EndsElement : List Word → Type 0 where
  comma : (ws : List Word) → EndsElement (plain kind.Comma ∷ ws)
  closes : (ws : List Word) → EndsElement (plain kind.RightParenthesis ∷ ws)

element_ends : (ws : List Word) → EndsElement ws → EndsConstraint ws
unfolding read_deferrable
element_ends _ (comma ws) = record { rule = record { columns = refl; matching = refl; actions = refl; nulls = refl }; time = record { deferrable = refl; initially = refl } }
element_ends _ (closes ws) = record { rule = record { columns = refl; matching = refl; actions = refl; nulls = refl }; time = record { deferrable = refl; initially = refl } }

no_constraint : (ws : List Word) → EndsElement ws → read_column_constraint ws ≡ Some (None, ws)
unfolding read_column_constraint read_column_rule read_optional
no_constraint _ (comma ws) = refl
no_constraint _ (closes ws) = refl

no_default : (ws : List Word) → EndsElement ws → after kind.Default ws ≡ None
no_default _ (comma ws) = refl
no_default _ (closes ws) = refl

-- a constraint doesn't begin with DEFAULT
called_default : (n : Option (List ℕ)) (r : ColumnRule) (called rule rest : List Word) → Maybe IsConstraintName called n → IsColumnRule rule r → after kind.Default (called ++ (rule ++ rest)) ≡ None
called_default (Some n) r called rule rest p q = ap (λ z. after kind.Default (z ++ (rule ++ rest))) p
called_default None column_rule.NotNull called rule rest p q = ap (λ z. after kind.Default (z ++ (rule ++ rest))) p ∙ ap (λ z. after kind.Default (z ++ rest)) q
called_default None (column_rule.Unique nulls) called rule rest p q = ap (λ z. after kind.Default (z ++ (rule ++ rest))) p ∙ ap (λ z. after kind.Default (z ++ rest)) q
called_default None column_rule.PrimaryKey called rule rest p q = ap (λ z. after kind.Default (z ++ (rule ++ rest))) p ∙ ap (λ z. after kind.Default (z ++ rest)) q
called_default None (column_rule.Check c) called rule rest p (check, q, w) = ap (λ z. after kind.Default (z ++ (rule ++ rest))) p ∙ ap (λ z. after kind.Default (z ++ rest)) w
called_default None (column_rule.References r) called rule rest p (columns, matching, actions, q, s, t, w) =
    ap (λ z. after kind.Default (z ++ (rule ++ rest))) p ∙ ap (λ z. after kind.Default (z ++ rest)) w

constraints_default : (cs : List ColumnConstraint) (front rest : List Word) → Sequence IsColumnConstraint front cs → after kind.Default rest ≡ None → after kind.Default (front ++ rest) ≡ None
constraints_default [] front rest p e = ap (λ z. after kind.Default (z ++ rest)) p ∙ e
constraints_default (c ∷ cs) front rest (f, g, (called, rule, time, p, q, s, v), m, w) e =
    ap (λ z. after kind.Default (z ++ rest)) w ∙ ap (after kind.Default) (append_assoc f g rest)
    ∙ ap (λ z. after kind.Default (z ++ (g ++ rest))) v
    ∙ ap (after kind.Default) (append_assoc called (rule ++ time) (g ++ rest) ∙ ap (λ z. called ++ z) (append_assoc rule time (g ++ rest)))
    ∙ called_default c.name c.rule called rule (time ++ (g ++ rest)) p q

column_reads : (c : ColumnDefinition) (type default constraints rest : List Word) → IsType type c.kind → Maybe IsDefault default c.default → Sequence IsColumnConstraint constraints c.constraints → EndsElement rest
    → read_column c.name (type ++ (default ++ (constraints ++ rest))) ≡ Some (c, rest)
unfolding read_column read_all
column_reads c type default constraints rest p q s e =
    ap (λ o. then_read o (λ k left. then_read (read_default left) (λ d more. then_read (read_column_constraints more)
    (λ cs last. Some (record { name = c.name; kind = k; default = d; constraints = cs }, last)))))
    (type_reads c.kind type (default ++ (constraints ++ rest)) p)
    ∙ ap (λ o. then_read o (λ d more. then_read (read_column_constraints more)
    (λ cs last. Some (record { name = c.name; kind = c.kind; default = d; constraints = cs }, last))))
    (default_reads c.default default (constraints ++ rest) q (constraints_default c.constraints constraints rest s (no_default rest e)))
    ∙ ap (λ o. then_read o (λ cs last. Some (record { name = c.name; kind = c.kind; default = c.default; constraints = cs }, last)))
    (sequence_complete IsColumnConstraint EndsConstraint read_column_constraint constraint_parts c.constraints constraints rest s (element_ends rest e) (no_constraint rest e))

key_complete : Reads_all (InParentheses Names) Anything read_key
key_complete = enclosed_complete Names (λ rest. Anything rest × (after kind.Comma rest ≡ None)) (read_series read_name) names_complete (λ ws. (tt, refl))

-- a list of names doesn't begin with NULLS
key_nulls : (ns : List (List ℕ)) (front rest : List Word) → InParentheses Names front ns → after kind.Nulls (front ++ rest) ≡ None
key_nulls ns front rest (inner, p, w) = ap (λ z. after kind.Nulls (z ++ rest)) w

table_rule_reads : (r : TableRule) (front rest : List Word) → IsTableRule front r → EndsRule rest → read_table_rule (front ++ rest) ≡ Some (r, rest)
unfolding read_table_rule read_foreign_key
table_rule_reads (table_rule.Unique nulls ns) front rest (key, p, w) e =
    ap (λ z. read_table_rule (z ++ rest)) w
    ∙ ap read_unique_key (append_assoc (null_words nulls) key rest)
    ∙ ap (λ o. then_read o (λ nulls left. then_read (read_key left) (λ ns more. Some (table_rule.Unique nulls ns, more))))
    (null_treatment_reads nulls (key ++ rest) (key_nulls ns key rest p))
    ∙ ap (λ o. then_read o (λ ns left. Some (table_rule.Unique nulls ns, left))) (key_complete.reads ns key rest p tt)
table_rule_reads (table_rule.PrimaryKey ns) front rest (key, p, w) e =
    ap (λ z. read_table_rule (z ++ rest)) w ∙ ap (λ o. then_read o (λ ns left. Some (table_rule.PrimaryKey ns, left))) (key_complete.reads ns key rest p tt)
table_rule_reads (table_rule.Check c) front rest (check, p, w) e =
    ap (λ z. read_table_rule (z ++ rest)) w ∙ ap (λ o. then_read o (λ c left. Some (table_rule.Check c, left))) (check_complete.reads c check rest p tt)
table_rule_reads (table_rule.ForeignKey ns r) front rest (key, references, p, q, w) e =
    let (back, v, h) = references_read r references rest q e in
    ap (λ z. read_table_rule (z ++ rest)) w
    ∙ ap (λ z. then_read (read_key z) (λ ns more. then_word kind.References more (λ left. then_read (read_references left) (λ r last. Some (table_rule.ForeignKey ns r, last)))))
    (append_assoc key references rest ∙ ap (λ z. key ++ z) v)
    ∙ ap (λ o. then_read o (λ ns more. then_word kind.References more (λ left. then_read (read_references left) (λ r last. Some (table_rule.ForeignKey ns r, last)))))
    (key_complete.reads ns key (plain kind.References ∷ back) p tt)
    ∙ ap (λ o. then_read o (λ r last. Some (table_rule.ForeignKey ns r, last))) h

table_rule_begins : (r : TableRule) (front rest : List Word) → IsTableRule front r → after kind.Constraint (front ++ rest) ≡ None
table_rule_begins (table_rule.Unique nulls ns) front rest (key, p, w) = ap (λ z. after kind.Constraint (z ++ rest)) w
table_rule_begins (table_rule.PrimaryKey ns) front rest (key, p, w) = ap (λ z. after kind.Constraint (z ++ rest)) w
table_rule_begins (table_rule.Check c) front rest (check, p, w) = ap (λ z. after kind.Constraint (z ++ rest)) w
table_rule_begins (table_rule.ForeignKey ns r) front rest (key, references, p, q, w) = ap (λ z. after kind.Constraint (z ++ rest)) w

pub table_constraint_reads : (c : TableConstraint) (front rest : List Word) → IsTableConstraint front c → EndsConstraint rest → read_table_constraint (front ++ rest) ≡ Some (c, rest)
unfolding read_table_constraint
table_constraint_reads c front rest (called, rule, time, p, q, s, w) e =
    ap (λ z. read_table_constraint (z ++ rest)) w
    ∙ ap read_table_constraint (append_assoc called (rule ++ time) rest ∙ ap (λ z. called ++ z) (append_assoc rule time rest))
    ∙ ap (λ o. then_read o (λ n left. then_read (read_table_rule left) (λ r more. then_read (read_time more) (λ t last. Some (record { name = n; rule = r; time = t }, last)))))
    (constraint_name_reads c.name called (rule ++ (time ++ rest)) p (table_rule_begins c.rule rule (time ++ rest) q))
    ∙ ap (λ o. then_read o (λ r more. then_read (read_time more) (λ t last. Some (record { name = c.name; rule = r; time = t }, last))))
    (table_rule_reads c.rule rule (time ++ rest) q (time_rule c.time time rest s e.rule))
    ∙ ap (λ o. then_read o (λ t last. Some (record { name = c.name; rule = c.rule; time = t }, last))) (time_reads c.time time rest s e.time)

-- a constraint of a table doesn't begin with a name
rule_name : (r : TableRule) (front rest : List Word) → IsTableRule front r → after_name (front ++ rest) ≡ None
rule_name (table_rule.Unique nulls ns) front rest (key, p, w) = ap (λ z. after_name (z ++ rest)) w
rule_name (table_rule.PrimaryKey ns) front rest (key, p, w) = ap (λ z. after_name (z ++ rest)) w
rule_name (table_rule.Check c) front rest (check, p, w) = ap (λ z. after_name (z ++ rest)) w
rule_name (table_rule.ForeignKey ns r) front rest (key, references, p, q, w) = ap (λ z. after_name (z ++ rest)) w

called_name : (n : Option (List ℕ)) (r : TableRule) (called rule rest : List Word) → Maybe IsConstraintName called n → IsTableRule rule r → after_name (called ++ (rule ++ rest)) ≡ None
called_name None r called rule rest p q = ap (λ z. after_name (z ++ (rule ++ rest))) p ∙ rule_name r rule rest q
called_name (Some n) r called rule rest p q = ap (λ z. after_name (z ++ (rule ++ rest))) p

constraint_name_none : (c : TableConstraint) (front rest : List Word) → IsTableConstraint front c → after_name (front ++ rest) ≡ None
constraint_name_none c front rest (called, rule, time, p, q, s, w) =
    ap (λ z. after_name (z ++ rest)) w ∙ ap after_name (append_assoc called (rule ++ time) rest ∙ ap (λ z. called ++ z) (append_assoc rule time rest))
    ∙ called_name c.name c.rule called rule (time ++ rest) p q

element_reads : (t : TableElement) (front rest : List Word) → IsElement front t → EndsElement rest → read_element (front ++ rest) ≡ Some (t, rest)
unfolding read_element
element_reads (Column c) front rest (type, default, constraints, p, q, s, w) e =
    ap (λ z. read_element (z ++ rest)) w
    ∙ ap (λ z. read_column_element c.name z) (append_assoc type (default ++ constraints) rest ∙ ap (λ z. type ++ z) (append_assoc default constraints rest))
    ∙ ap (λ o. then_read o (λ c left. Some (Column c, left))) (column_reads c type default constraints rest p q s e)
element_reads (Constraint c) front rest p e =
    ap (λ o. if_some o (λ p. read_column_element p.0 p.1) (then_read (read_table_constraint (front ++ rest)) (λ c left. Some (Constraint c, left)))) (constraint_name_none c front rest p)
    ∙ ap (λ o. then_read o (λ c left. Some (Constraint c, left))) (table_constraint_reads c front rest p (element_ends rest e))

pub elements_complete : Reads_all (InParentheses (Series IsElement)) Anything read_elements
elements_complete =
    enclosed_complete (Series IsElement) (λ rest. EndsElement rest × (after kind.Comma rest ≡ None)) (read_series read_element)
    (series_complete IsElement EndsElement read_element (record { reads = element_reads }) comma) (λ ws. (closes ws, refl))
