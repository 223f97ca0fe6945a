-- What is read of the parts of CREATE TABLE and ALTER TABLE is in the grammar.
use Rattle.std.proofs.Common.{◌≡◌, inl, inr, ℕ, true, false, Option, Some, None, List, [], ◌∷◌, ◌++◌, length, refl, sym, ◌∙◌, ap, subst, append-nil}
use Rattle.iv_lex.specs.declared.kind.TokenKind.{TokenKind}
use Rattle.iv_lex.specs.declared.kind.TokenKind.TheVariants as kind
use Rattle.iv_lex.specs.Words.{Word, name, plain}
use Rattle.iv_parse_data.specs.Types.{ConstraintMode, MatchType, NullTreatment, ReferentialAction, ColumnRule}
use Rattle.iv_parse_data.specs.Types.mode.{Immediate, Deferred}
use Rattle.iv_parse_data.specs.Types.literal
use Rattle.iv_parse_data.specs.Types.type.{Integer, Varchar}
use Rattle.iv_parse_data.specs.Types.matching.{Simple, Full}
use Rattle.iv_parse_data.specs.Types.nulls.{Distinct, NotDistinct}
use Rattle.iv_parse_data.specs.Types.referential_action.{NoAction, Restrict, Cascade, SetNull, SetDefault}
use Rattle.iv_parse_data.specs.Types.column_rule
use Rattle.iv_parse_data.specs.Types.table_rule
use Rattle.iv_parse_data.specs.Types.element.{Column, Constraint}
use Rattle.iv_parse_terms.specs.Expressions.{sign_kind}
use Rattle.iv_parse_terms.specs.readers.Expressions.{after_sign}
use Rattle.iv_parse_data.specs.Series.{Series, Sequence, Maybe, InParentheses, InEitherOrder}
use Rattle.iv_parse_data.specs.readers.Series.{read_all, read_optional, read_series, read_either_order}
use Rattle.iv_parse_data.specs.Data.{IsName, Names, IsColumnList, IsShallowCondition}
use Rattle.iv_parse_data.specs.readers.Data.{read_name, read_column_list, read_check}
use Rattle.iv_parse_data.specs.Tables.{mode_kind, IsVarchar, IsType, IsLiteral, IsDefault, IsConstraintName, IsDeferrable, IsInitially, IsTime, match_kind, IsMatch, action_words, IsOn, AreActions, IsReferences, null_words, IsColumnRule, IsColumnConstraint, IsColumn, IsTableRule, IsTableConstraint, IsElement}
use Rattle.iv_parse_data.specs.readers.Tables.{read_varying, read_length, read_type, read_literal, read_default, read_constraint_name, read_deferrable, read_mode, read_initially, read_time, read_match_type, read_match, read_referential_action, read_on, read_actions, read_references, read_null_treatment, read_column_rule, column_constraint_of, read_column_constraint, read_column_constraints, read_column, read_key, read_foreign_key, read_table_rule, read_table_constraint, read_element, read_elements}
use Rattle.iv_parse_data.proofs.Fronts.{Good, nothing_good, done_good, after_good, name_good, then_good, made_good, series_good, enclosed_good, ahead_good}
use Rattle.iv_parse_data.proofs.OptionalSound.{IsNumber, IsQuoted, IsSign, number_good, quoted_good, sign_good, found_good, sequence_good, either_order_good}
use Rattle.iv_parse_data.proofs.DataSound.{one_name_good, names_good, column_list_good, check_good}
use Rattle.iv_parse_data.proofs.Readers.{read_number, read_quoted, read_varchar, read_set_action, read_strict_action, read_reference_columns, read_null_rule, read_primary_rule, read_unique_column, read_plain_rule, read_condition_rule, read_primary_key, read_check_rule, read_unique_key, read_unique_rule, read_column_element}

length_good : (head : List Word) → IsVarchar head → (ws : List Word) → Good (λ back t. IsType (head ++ back) t) ws (read_length ws)
unfolding read_length
length_good head h ws =
    after_good _ kind.LeftParenthesis ws _ None
    (λ rest. then_good IsNumber _ rest (read_number rest) _ (number_good rest)
    (λ n front more p. after_good _ kind.RightParenthesis more _ None
    (λ left. done_good _ left (Varchar n) (head, h, ap (λ z. head ++ plain kind.LeftParenthesis ∷ (z ++ plain kind.RightParenthesis ∷ [])) p))
    (nothing_good _ more)))
    (nothing_good _ ws)

varchar_good : (ws : List Word) → Good IsType ws (read_varchar ws)
varchar_good ws =
    after_good IsType kind.Varchar ws read_length _ (λ rest. length_good (plain kind.Varchar ∷ []) (inl refl) rest)
    (after_good IsType kind.Character ws read_varying _
    (λ rest. after_good _ kind.Varying rest read_length None (λ more. length_good (plain kind.Character ∷ plain kind.Varying ∷ []) (inr (inl refl)) more) (nothing_good _ rest))
    (after_good IsType kind.Char ws read_varying None
    (λ rest. after_good _ kind.Varying rest read_length None (λ more. length_good (plain kind.Char ∷ plain kind.Varying ∷ []) (inr (inr refl)) more) (nothing_good _ rest))
    (nothing_good IsType ws)))

pub type_good : (ws : List Word) → Good IsType ws (read_type ws)
unfolding read_type
type_good ws =
    after_good IsType kind.Integer ws _ _ (λ rest. done_good _ rest Integer (inl refl))
    (after_good IsType kind.Int ws _ _ (λ rest. done_good _ rest Integer (inr refl)) (varchar_good ws))

literal_good : (ws : List Word) → Good IsLiteral ws (read_literal ws)
unfolding read_literal
literal_good ws =
    found_good IsSign IsLiteral ws (after_sign ws) _ _ (sign_good ws)
    (λ s front rest p. then_good IsNumber _ rest (read_number rest) _ (number_good rest)
    (λ n back more q. done_good _ more (literal.Number (Some s) n) (ap (λ z. z ++ (back ++ [])) p ∙ ap (λ z. plain (sign_kind s) ∷ (z ++ [])) q)))
    (found_good IsNumber IsLiteral ws (read_number ws) _ _ (number_good ws)
    (λ n front rest p. done_good _ rest (literal.Number None n) (append-nil front ∙ p))
    (found_good IsQuoted IsLiteral ws (read_quoted ws) _ _ (quoted_good ws)
    (λ t front rest p. done_good _ rest (literal.Text t) (append-nil front ∙ p))
    (after_good IsLiteral kind.Null ws _ None (λ rest. done_good _ rest literal.Null refl) (nothing_good IsLiteral ws))))

default_good : (ws : List Word) → Good (Maybe IsDefault) ws (read_default ws)
unfolding read_optional
default_good ws =
    after_good (Maybe IsDefault) kind.Default ws _ _
    (λ rest. made_good IsLiteral _ rest (read_literal rest) Some (literal_good rest) (λ l front p. (front, p, refl)))
    (done_good (Maybe IsDefault) ws None refl)

constraint_name_good : (ws : List Word) → Good (Maybe IsConstraintName) ws (read_constraint_name ws)
unfolding read_optional
constraint_name_good ws =
    after_good (Maybe IsConstraintName) kind.Constraint ws _ _
    (λ rest. name_good _ rest _ (λ n more. done_good _ more (Some n) refl))
    (done_good (Maybe IsConstraintName) ws None refl)

deferrable_good : (ws : List Word) → Good (Maybe IsDeferrable) ws (read_deferrable ws)
unfolding read_deferrable
deferrable_good ws =
    after_good (Maybe IsDeferrable) kind.Deferrable ws _ _ (λ rest. done_good _ rest (Some true) refl)
    (ahead_good (Maybe IsDeferrable) kind.Not kind.Deferrable ws (λ more. Some (Some false, more)) (Some (None, ws))
    (λ more. done_good _ more (Some false) refl) (done_good _ ws None refl))

abbrev pub IsMode : List Word → ConstraintMode → Type 0
IsMode ws m = ws ≡ plain (mode_kind m) ∷ []

pub mode_good : (ws : List Word) → Good IsMode ws (read_mode ws)
unfolding read_mode
mode_good ws =
    after_good IsMode kind.Deferred ws _ _ (λ rest. done_good _ rest Deferred refl)
    (after_good IsMode kind.Immediate ws _ None (λ rest. done_good _ rest Immediate refl) (nothing_good IsMode ws))

initially_good : (ws : List Word) → Good (Maybe IsInitially) ws (read_initially ws)
unfolding read_optional
initially_good ws =
    after_good (Maybe IsInitially) kind.Initially ws _ _
    (λ rest. made_good IsMode _ rest (read_mode rest) Some (mode_good rest) (λ m front p. ap (λ z. plain kind.Initially ∷ z) p))
    (done_good (Maybe IsInitially) ws None refl)

pub time_good : (ws : List Word) → Good IsTime ws (read_time ws)
unfolding read_time
time_good ws =
    made_good (InEitherOrder (Maybe IsDeferrable) (Maybe IsInitially)) IsTime ws (read_either_order read_deferrable read_initially ws) (λ p. record { deferrable = p.0; initially = p.1 })
    (either_order_good IsDeferrable IsInitially read_deferrable read_initially deferrable_good initially_good ws) (λ p front h. h)

abbrev pub IsMatchType : List Word → MatchType → Type 0
IsMatchType ws m = ws ≡ plain (match_kind m) ∷ []

match_type_good : (ws : List Word) → Good IsMatchType ws (read_match_type ws)
unfolding read_match_type
match_type_good ws =
    after_good IsMatchType kind.Simple ws _ _ (λ rest. done_good _ rest Simple refl)
    (after_good IsMatchType kind.Full ws _ None (λ rest. done_good _ rest Full refl) (nothing_good IsMatchType ws))

match_good : (ws : List Word) → Good (Maybe IsMatch) ws (read_match ws)
unfolding read_optional
match_good ws =
    after_good (Maybe IsMatch) kind.Match ws _ _
    (λ rest. made_good IsMatchType _ rest (read_match_type rest) Some (match_type_good rest) (λ m front p. ap (λ z. plain kind.Match ∷ z) p))
    (done_good (Maybe IsMatch) ws None refl)

abbrev pub IsAction : List Word → ReferentialAction → Type 0
IsAction ws a = ws ≡ action_words a

action_good : (ws : List Word) → Good IsAction ws (read_referential_action ws)
unfolding read_referential_action
action_good ws =
    after_good IsAction kind.Cascade ws _ _ (λ rest. done_good _ rest Cascade refl)
    (after_good IsAction kind.Set ws read_set_action _
    (λ rest. after_good _ kind.Null rest _ _ (λ more. done_good _ more SetNull refl)
    (after_good _ kind.Default rest _ None (λ more. done_good _ more SetDefault refl) (nothing_good _ rest)))
    (after_good IsAction kind.No ws _ _
    (λ rest. after_good _ kind.Action rest _ None (λ more. done_good _ more NoAction refl) (nothing_good _ rest))
    (after_good IsAction kind.Restrict ws _ None (λ rest. done_good _ rest Restrict refl) (nothing_good IsAction ws))))

on_good : (event : TokenKind) (ws : List Word) → Good (Maybe (IsOn event)) ws (read_on event ws)
unfolding read_on
on_good event ws =
    ahead_good (Maybe (IsOn event)) kind.On event ws _ (Some (None, ws))
    (λ more. made_good IsAction _ more (read_referential_action more) Some (action_good more) (λ a front p. ap (λ z. plain kind.On ∷ plain event ∷ z) p))
    (done_good (Maybe (IsOn event)) ws None refl)

actions_good : (ws : List Word) → Good AreActions ws (read_actions ws)
unfolding read_actions
actions_good ws =
    either_order_good (IsOn kind.Delete) (IsOn kind.Update) (read_on kind.Delete) (read_on kind.Update) (on_good kind.Delete) (on_good kind.Update) ws

references_good : (ws : List Word) → Good (λ back r. IsReferences (plain kind.References ∷ back) r) ws (read_references ws)
unfolding read_references
references_good ws =
    name_good _ ws read_reference_columns
    (λ t rest. then_good IsColumnList _ rest (read_column_list rest) _ (column_list_good rest)
    (λ cs columns more p. then_good (Maybe IsMatch) _ more (read_match more) _ (match_good more)
    (λ m matching left q. made_good AreActions _ left (read_actions left) (λ p. record { table = t; columns = cs; matching = m; on_delete = p.0; on_update = p.1 })
    (actions_good left) (λ a actions r. (columns, matching, actions, p, q, r, refl)))))

abbrev pub IsNullTreatment : List Word → NullTreatment → Type 0
IsNullTreatment ws nulls = ws ≡ null_words nulls

null_treatment_good : (ws : List Word) → Good IsNullTreatment ws (read_null_treatment ws)
unfolding read_null_treatment
null_treatment_good ws =
    after_good IsNullTreatment kind.Nulls ws _ _
    (λ rest. after_good _ kind.Not rest _ None
    (λ more. after_good _ kind.Distinct more _ None (λ left. done_good _ left NotDistinct refl) (nothing_good _ more))
    (nothing_good _ rest))
    (done_good IsNullTreatment ws Distinct refl)

plain_rule_good : (ws : List Word) → Good (Maybe IsColumnRule) ws (read_plain_rule ws)
plain_rule_good ws =
    after_good (Maybe IsColumnRule) kind.Not ws read_null_rule _
    (λ rest. after_good _ kind.Null rest _ None (λ more. done_good _ more (Some column_rule.NotNull) refl) (nothing_good _ rest))
    (after_good (Maybe IsColumnRule) kind.Unique ws read_unique_column _
    (λ rest. made_good IsNullTreatment _ rest (read_null_treatment rest) (λ nulls. Some (column_rule.Unique nulls)) (null_treatment_good rest) (λ nulls front p. ap (λ z. plain kind.Unique ∷ z) p))
    (after_good (Maybe IsColumnRule) kind.Primary ws _ _
    (λ rest. after_good _ kind.Key rest _ None (λ more. done_good _ more (Some column_rule.PrimaryKey) refl) (nothing_good _ rest))
    (done_good (Maybe IsColumnRule) ws None refl)))

column_rule_good : (ws : List Word) → Good (Maybe IsColumnRule) ws (read_column_rule ws)
unfolding read_column_rule
column_rule_good ws =
    after_good (Maybe IsColumnRule) kind.References ws _ _
    (λ rest. made_good (λ back r. IsReferences (plain kind.References ∷ back) r) _ rest (read_references rest) (λ r. Some (column_rule.References r)) (references_good rest) (λ r front p. p))
    (after_good (Maybe IsColumnRule) kind.Check ws _ _
    (λ rest. made_good (InParentheses IsShallowCondition) _ rest (read_check rest) (λ c. Some (column_rule.Check c)) (check_good rest) (λ c front p. (front, p, refl)))
    (plain_rule_good ws))

column_constraint_of_good : (called rule ws : List Word) (n : Option (List ℕ)) (r : Option ColumnRule) → Maybe IsConstraintName called n → Maybe IsColumnRule rule r
    → Good (λ back c. Maybe IsColumnConstraint (called ++ (rule ++ back)) c) ws (column_constraint_of n r ws)
column_constraint_of_good called rule ws n (Some r) p q =
    made_good IsTime _ ws (read_time ws) (λ t. Some (record { name = n; rule = r; time = t })) (time_good ws) (λ t time h. (called, rule, time, p, q, h, refl))
column_constraint_of_good called rule ws None None p q = done_good _ ws None (ap (λ z. z ++ (rule ++ [])) p ∙ append-nil rule ∙ q)
column_constraint_of_good called rule ws (Some n) None p q = nothing_good _ ws

pub column_constraint_good : (ws : List Word) → Good (Maybe IsColumnConstraint) ws (read_column_constraint ws)
unfolding read_column_constraint
column_constraint_good ws =
    then_good (Maybe IsConstraintName) _ ws (read_constraint_name ws) _ (constraint_name_good ws)
    (λ n called rest p. then_good (Maybe IsColumnRule) _ rest (read_column_rule rest) (column_constraint_of n) (column_rule_good rest)
    (λ r rule more q. column_constraint_of_good called rule more n r p q))

column_constraints_good : (ws : List Word) → Good (Sequence IsColumnConstraint) ws (read_column_constraints ws)
unfolding read_all
column_constraints_good ws = sequence_good IsColumnConstraint read_column_constraint column_constraint_good (length ws) ws

column_good : (n : List ℕ) (ws : List Word) → Good (λ back c. IsColumn (name n ∷ back) c) ws (read_column n ws)
unfolding read_column
column_good n ws =
    then_good IsType _ ws (read_type ws) _ (type_good ws)
    (λ k type rest p. then_good (Maybe IsDefault) _ rest (read_default rest) _ (default_good rest)
    (λ d default more q. made_good (Sequence IsColumnConstraint) _ more (read_column_constraints more) (λ cs. record { name = n; kind = k; default = d; constraints = cs })
    (column_constraints_good more) (λ cs constraints r. (type, default, constraints, p, q, r, refl))))

key_good : (ws : List Word) → Good (InParentheses Names) ws (read_key ws)
key_good ws = enclosed_good Names (read_series read_name) names_good ws

table_rule_good : (ws : List Word) → Good IsTableRule ws (read_table_rule ws)
unfolding read_table_rule read_foreign_key
table_rule_good ws =
    after_good IsTableRule kind.Primary ws read_primary_key _
    (λ rest. after_good _ kind.Key rest _ None
    (λ more. made_good (InParentheses Names) _ more (read_key more) table_rule.PrimaryKey (key_good more) (λ ns front p. (front, p, refl)))
    (nothing_good _ rest))
    (after_good IsTableRule kind.Foreign ws read_foreign_key _
    (λ rest. after_good _ kind.Key rest _ None
    (λ more. then_good (InParentheses Names) _ more (read_key more) _ (key_good more)
    (λ ns key left p. after_good _ kind.References left _ None
    (λ last. made_good (λ back r. IsReferences (plain kind.References ∷ back) r) _ last (read_references last) (table_rule.ForeignKey ns) (references_good last)
    (λ r front q. (key, plain kind.References ∷ front, p, q, refl)))
    (nothing_good _ left)))
    (nothing_good _ rest))
    (after_good IsTableRule kind.Unique ws read_unique_key _
    (λ rest. then_good IsNullTreatment _ rest (read_null_treatment rest) _ (null_treatment_good rest)
    (λ nulls front more p. made_good (InParentheses Names) _ more (read_key more) (table_rule.Unique nulls) (key_good more)
    (λ ns key q. (key, q, ap (λ z. plain kind.Unique ∷ (z ++ key)) p))))
    (after_good IsTableRule kind.Check ws _ None
    (λ rest. made_good (InParentheses IsShallowCondition) _ rest (read_check rest) table_rule.Check (check_good rest) (λ c front p. (front, p, refl)))
    (nothing_good IsTableRule ws))))

pub table_constraint_good : (ws : List Word) → Good IsTableConstraint ws (read_table_constraint ws)
unfolding read_table_constraint
table_constraint_good ws =
    then_good (Maybe IsConstraintName) _ ws (read_constraint_name ws) _ (constraint_name_good ws)
    (λ n called rest p. then_good IsTableRule _ rest (read_table_rule rest) _ (table_rule_good rest)
    (λ r rule more q. made_good IsTime _ more (read_time more) (λ t. record { name = n; rule = r; time = t }) (time_good more) (λ t time h. (called, rule, time, p, q, h, refl))))

element_good : (ws : List Word) → Good IsElement ws (read_element ws)
unfolding read_element
element_good ws =
    found_good IsName IsElement ws (read_name ws) _ _ (one_name_good ws)
    (λ n front rest p. made_good (λ back c. IsColumn (name n ∷ back) c) _ rest (read_column n rest) Column (column_good n rest)
    (λ c back q. subst (λ z. IsColumn (z ++ back) c) (sym p) q))
    (made_good IsTableConstraint IsElement ws (read_table_constraint ws) Constraint (table_constraint_good ws) (λ c front p. p))

pub elements_good : (ws : List Word) → Good (InParentheses (Series IsElement)) ws (read_elements ws)
elements_good ws = enclosed_good (Series IsElement) (read_series read_element) (λ vs. series_good IsElement read_element element_good vs) ws
