-- What the grammar has of conditions, the reader finds.
use Rattle.std.specs.Prelude.{◌≡◌, ℕ, ◌+◌, ◌≤◌, zero, suc, Option, Some, None, List, [], ◌∷◌, ◌++◌, refl}
use Rattle.std.proofs.Common.{inl, inr, sym, ◌∙◌, ap, arith, append_assoc}
use Rattle.std.proofs.lemmas.Bool.{le-leb}
use Rattle.iv_parse_terms.specs.Types.{Comparison, Sign, RangeName, Expression, Condition}
use Rattle.iv_parse_terms.specs.Types.comparison
use Rattle.iv_parse_terms.specs.Types.sign
use Rattle.iv_parse_terms.specs.Types.expression.{Number, Text, Null, Column}
use Rattle.iv_parse_terms.specs.Types.condition.{Compare, IsNull, IsNotNull, Exists}
use Rattle.iv_lex.specs.declared.kind.TokenKind.TheVariants as kind
use Rattle.iv_lex.specs.Words.{Word, name, plain}
use Rattle.iv_syntax.specs.declared.tree.ColumnName.{ColumnName}
use Rattle.iv_parse_terms.specs.Items.{Value, Truth}
use Rattle.iv_parse_terms.specs.declared.item.Connective.{Connective}
use Rattle.iv_parse_terms.specs.declared.item.Connective.TheVariants.{And, Or}
use Rattle.iv_syntax.specs.Trees.{group, signed, product, sum, enclosed, negated, both, either, exists_where, depth, condition_depth}
use Rattle.iv_parse_terms.specs.After.{after, after_name, if_some, then_read}
use Rattle.iv_parse_terms.specs.Expressions.{expression, term, factor, primary, sign_kind, qualifier_spelling, spelling, Formed, EndsPrimary, EndsTerm, EndsExpression}
use Rattle.iv_parse_terms.specs.readers.Expressions.{after_sign, more_factors, more_terms, read_factor, read_term}
use Rattle.iv_parse_terms.specs.Conditions.{comparison_kind, AliasSpelled, RangeSpelled, exists_spelling, Spelled, condition, conjunction, negation, test, ConditionFormed, EndsConjunction, EndsCondition, EndsFrom}
use Rattle.iv_parse_terms.specs.readers.Conditions.{FoundItem, as_item, condition_fits, on_value, close_item, predicate_from, comparison_from, alias_from, range_from, with_condition, where_from, from_by, exists_over, close_exists, exists_by, value_test, negate, connective_kind, connection, connection_from, more_by, read_lead, lead_factor, read_test, read_negation, read_conjunction, read_item}
use Rattle.iv_parse_terms.proofs.Complete.{fits_ok, stop_factors, stop_terms, step_factor, step_term, complete, expression_whole, column_read, column_first, sign_ends}
use Rattle.iv_parse_terms.proofs.Parts.{sign_found}
use Rattle.iv_parse_terms.proofs.ConditionSteps.{lead_simple, staged, test_is, factor_signed, factor_lead, negation_not, negation_plain, conjunction_step, item_step}

pub condition_fits_ok : (d : ℕ) (c : Condition) (ws : List Word) → condition_depth c ≤ d → condition_fits d c ws ≡ Some (Truth c, ws)
condition_fits_ok d c ws h = rw (le-leb (condition_depth c) d h) refl

-- no expression begins with NOT
pub column_not : (q : Option (List ℕ)) (n : List ℕ) (rest : List Word)
    → (after kind.Not ((qualifier_spelling q ++ name n ∷ []) ++ rest) ≡ None) × (after kind.Exists ((qualifier_spelling q ++ name n ∷ []) ++ rest) ≡ None)
column_not None n rest = (refl, refl)
column_not (Some q) n rest = (refl, refl)

pub no_not : (e : Expression) (rest : List Word) → after kind.Not (spelling e ++ rest) ≡ None
no_not (Number n) rest = refl
no_not (Text t) rest = refl
no_not Null rest = refl
no_not (Column c) rest = (column_not c.qualifier c.name rest).0
no_not (group a) rest = refl
no_not (signed sign.Plus a) rest = refl
no_not (signed sign.Minus a) rest = refl
no_not (product a b) rest = rw (append_assoc (spelling a) (plain kind.Asterisk ∷ spelling b) rest) (no_not a (plain kind.Asterisk ∷ (spelling b ++ rest)))
no_not (sum s a b) rest = rw (append_assoc (spelling a) (plain (sign_kind s) ∷ spelling b) rest) (no_not a (plain (sign_kind s) ∷ (spelling b ++ rest)))

abbrev lead_term : ℕ → List Word → FoundItem
lead_term d ws = then_read (lead_factor d ws) (on_value (λ e rest. as_item (more_factors d (read_factor d) d e rest)))

abbrev lead_expression : ℕ → List Word → FoundItem
lead_expression d ws = then_read (lead_term d ws) (on_value (λ e rest. as_item (more_terms d (read_term d) d e rest)))

-- an expression that comes first in a test is read as a value
pub record Lead (e : Expression) : Type 0 where
  pub factor_first : Formed factor e → (d : ℕ) → depth e ≤ d → (rest : List Word) → EndsPrimary rest → lead_factor d (spelling e ++ rest) ≡ Some (Value e, rest)
  pub term_first : Formed term e → (d : ℕ) → depth e ≤ d → (rest : List Word) → EndsPrimary rest
      → (n : ℕ) × (d ≤ n + depth e) × (lead_term d (spelling e ++ rest) ≡ as_item (more_factors d (read_factor d) n e rest))
  pub expression_first : Formed expression e → (d : ℕ) → depth e ≤ d → (rest : List Word) → EndsTerm rest
      → (n : ℕ) × (d ≤ n + depth e) × (lead_expression d (spelling e ++ rest) ≡ as_item (more_terms d (read_term d) n e rest))

pub lead_of_factor : (e : Expression) (d : ℕ) (rest : List Word) → lead_factor d (spelling e ++ rest) ≡ Some (Value e, rest)
    → (n : ℕ) × (d ≤ n + depth e) × (lead_term d (spelling e ++ rest) ≡ as_item (more_factors d (read_factor d) n e rest))
lead_of_factor e d rest h = (d, omega arith, ap (λ f. then_read f (on_value (λ a ws. as_item (more_factors d (read_factor d) d a ws)))) h)

pub lead_of_term : (e : Expression) (d : ℕ) (rest : List Word) → EndsTerm rest
    → (n : ℕ) × (d ≤ n + depth e) × (lead_term d (spelling e ++ rest) ≡ as_item (more_factors d (read_factor d) n e rest))
    → (n : ℕ) × (d ≤ n + depth e) × (lead_expression d (spelling e ++ rest) ≡ as_item (more_terms d (read_term d) n e rest))
lead_of_term e d rest a t =
    (d, omega arith, ap (λ f. then_read f (on_value (λ a ws. as_item (more_terms d (read_term d) d a ws)))) (t.2 ∙ ap as_item (stop_factors d (read_factor d) t.0 e rest a)))

pub lead_from_factor : (e : Expression) → ((d : ℕ) → depth e ≤ d → (rest : List Word) → EndsPrimary rest → lead_factor d (spelling e ++ rest) ≡ Some (Value e, rest)) → Lead e
lead_from_factor e f = record {
  factor_first = λ _ d h rest a. f d h rest a;
  term_first = λ _ d h rest a. lead_of_factor e d rest (f d h rest a);
  expression_first = λ _ d h rest a. lead_of_term e d rest a (lead_of_factor e d rest (f d h rest a.0));
}

pub lead_at : (d : ℕ) (ws : List Word) (f : FoundItem) → 1 ≤ d → ((m : ℕ) → lead_factor (suc m) ws ≡ f) → lead_factor d ws ≡ f
lead_at zero ws f h e = absurd (omega arith)
lead_at (suc m) ws f h e = e m

pub lead_whole : (e : Expression) → Lead e → Formed expression e → (d : ℕ) → depth e ≤ d → (rest : List Word) → EndsExpression rest → lead_expression d (spelling e ++ rest) ≡ Some (Value e, rest)
lead_whole e l f d h rest a =
    let found = l.expression_first f d h rest a.0 in
    found.2 ∙ ap as_item (stop_terms d (read_term d) found.0 e rest a)

-- a test that begins with a value goes on with it
pub test_of_value : (d : ℕ) (e : Expression) (ws rest : List Word) → lead_expression d ws ≡ Some (Value e, rest) → read_test d ws ≡ predicate_from d e rest
test_of_value d e ws rest h = test_is d ws ∙ (staged d (lead_factor d ws) ∙ ap (λ o. then_read o (on_value (predicate_from d))) h)

pub value_stops : (k : Connective) (d : ℕ) (F : List Word → FoundItem) (n : ℕ) (e : Expression) (ws : List Word) → more_by k d F n (Value e) ws ≡ Some (Value e, ws)
value_stops k d F zero e ws = refl
value_stops k d F (suc n) e ws = refl

-- a value before a parenthesis that closes is read as a value
pub item_of_value : (e : Expression) → Lead e → Formed expression e → (d : ℕ) → depth e ≤ d → (rest : List Word)
    → read_item d (spelling e ++ plain kind.RightParenthesis ∷ rest) ≡ Some (Value e, plain kind.RightParenthesis ∷ rest)
item_of_value e l f d h rest =
    let close = plain kind.RightParenthesis ∷ rest in
    let first : lead_expression d (spelling e ++ close) ≡ Some (Value e, close) = lead_whole e l f d h close ((refl, refl), refl, refl) in
    let second : read_test d (spelling e ++ close) ≡ Some (Value e, close) = test_of_value d e (spelling e ++ close) close first in
    let third : read_negation d (spelling e ++ close) ≡ Some (Value e, close) = sym (negation_plain d (spelling e ++ close) (sym (no_not e close))) ∙ second in
    let fourth : read_conjunction d (spelling e ++ close) ≡ Some (Value e, close) =
    sym (conjunction_step d (spelling e ++ close)) ∙ (ap (λ o. then_read o (more_by And d (read_negation d) d)) third ∙ value_stops And d (read_negation d) d e close) in
    sym (item_step d (spelling e ++ close)) ∙ (ap (λ o. then_read o (more_by Or d (read_conjunction d) d)) fourth ∙ value_stops Or d (read_conjunction d) d e close)

-- what is in parentheses at the beginning of a test
pub lead_group : (d : ℕ) (ws : List Word) → read_lead (suc d) (plain kind.LeftParenthesis ∷ ws) ≡ then_read (read_item d ws) (close_item (suc d))
unfolding read_lead read_item read_conjunction read_negation read_test lead_factor
lead_group d ws = refl

pub lead_exists_at : (d : ℕ) (ws : List Word) → read_lead (suc d) (plain kind.Exists ∷ ws) ≡ exists_by (suc d) (read_item d) ws
unfolding read_lead read_item read_conjunction read_negation read_test lead_factor
lead_exists_at d ws = refl

pub group_first : (a : Expression) → Lead a → Formed expression a → (d : ℕ) → depth (group a) ≤ d → (rest : List Word)
    → lead_factor d (spelling (group a) ++ rest) ≡ Some (Value (group a), rest)
group_first a l f zero h rest = absurd (omega arith)
group_first a l f (suc d) h rest =
    let inner = item_of_value a l f d (omega arith) rest in
    sym (factor_lead (suc d) (spelling (group a) ++ rest) refl)
    ∙ rw (append_assoc (spelling a) (plain kind.RightParenthesis ∷ []) rest)
    (lead_group d (spelling a ++ plain kind.RightParenthesis ∷ rest) ∙ (ap (λ o. then_read o (close_item (suc d))) inner ∙ ap as_item (fits_ok (suc d) (group a) rest h)))

pub signed_first : (s : Sign) (a : Expression) → Formed primary a → (d : ℕ) → depth (signed s a) ≤ d → (rest : List Word) → EndsPrimary rest
    → lead_factor d (spelling (signed s a) ++ rest) ≡ Some (Value (signed s a), rest)
signed_first s a f d h rest after =
    sym (factor_signed d (spelling (signed s a) ++ rest) (s, spelling a ++ rest) (sym (sign_found s (spelling a ++ rest))))
    ∙ ap as_item ((complete (signed s a)).factor_read (tt, f) d h rest after)

pub product_first : (a b : Expression) → Formed term a → Formed factor b → Lead a → (d : ℕ) → depth (product a b) ≤ d → (rest : List Word) → EndsPrimary rest
    → (n : ℕ) × (d ≤ n + depth (product a b)) × (lead_term d (spelling (product a b) ++ rest) ≡ as_item (more_factors d (read_factor d) n (product a b) rest))
product_first a b fa fb la d h rest after =
    let first = la.term_first fa d (omega arith) (plain kind.Asterisk ∷ (spelling b ++ rest)) refl in
    let second = (complete b).factor_read fb d (omega arith) rest after in
    let step = step_factor d (read_factor d) first.0 a b (spelling b ++ rest) rest (omega arith) second h in
    (step.0, omega arith, rw (append_assoc (spelling a) (plain kind.Asterisk ∷ spelling b) rest) (first.2 ∙ ap as_item step.2))

pub sum_first : (s : Sign) (a b : Expression) → Formed expression a → Formed term b → Lead a → (d : ℕ) → depth (sum s a b) ≤ d → (rest : List Word) → EndsTerm rest
    → (n : ℕ) × (d ≤ n + depth (sum s a b)) × (lead_expression d (spelling (sum s a b) ++ rest) ≡ as_item (more_terms d (read_term d) n (sum s a b) rest))
sum_first s a b fa fb la d h rest after =
    let first = la.expression_first fa d (omega arith) (plain (sign_kind s) ∷ (spelling b ++ rest)) (sign_ends s _) in
    let second = (complete b).term_read fb d (omega arith) rest after.0 in
    let whole : read_term d (spelling b ++ rest) ≡ Some (b, rest) = second.2 ∙ stop_factors d (read_factor d) second.0 b rest after in
    let step = step_term s d (read_term d) first.0 a b (spelling b ++ rest) rest (omega arith) whole h in
    (step.0, omega arith, rw (append_assoc (spelling a) (plain (sign_kind s) ∷ spelling b) rest) (first.2 ∙ ap as_item step.2))

pub column_lead : (c : ColumnName) (d : ℕ) → 1 ≤ d → (rest : List Word) → EndsPrimary rest → lead_factor d (spelling (Column c) ++ rest) ≡ Some (Value (Column c), rest)
column_lead c d h rest a =
    let f = column_first c.qualifier c.name rest in
    sym (factor_lead d (spelling (Column c) ++ rest) (sym f.1))
    ∙ (sym (lead_simple d (spelling (Column c) ++ rest) (λ e. absurd (omega (arith, e))) (sym f.0) (sym (column_not c.qualifier c.name rest).1))
    ∙ ap as_item (column_read c.qualifier c.name rest a))

pub lead : (e : Expression) → Lead e
unfolding read_lead lead_factor
lead (Number n) = lead_from_factor (Number n) (λ d h rest a. lead_at d (spelling (Number n) ++ rest) _ h (λ m. refl))
lead (Text t) = lead_from_factor (Text t) (λ d h rest a. lead_at d (spelling (Text t) ++ rest) _ h (λ m. refl))
lead Null = lead_from_factor Null (λ d h rest a. lead_at d (spelling Null ++ rest) _ h (λ m. refl))
lead (Column c) = lead_from_factor (Column c) (λ d h rest a. column_lead c d h rest a)
lead (group a) = record {
  factor_first = λ f d h rest _. group_first a (lead a) f d h rest;
  term_first = λ f d h rest _. lead_of_factor (group a) d rest (group_first a (lead a) f d h rest);
  expression_first = λ f d h rest after. lead_of_term (group a) d rest after (lead_of_factor (group a) d rest (group_first a (lead a) f d h rest));
}
lead (signed s a) = record {
  factor_first = λ f d h rest after. signed_first s a f.1 d h rest after;
  term_first = λ f d h rest after. lead_of_factor (signed s a) d rest (signed_first s a f.1 d h rest after);
  expression_first = λ f d h rest after. lead_of_term (signed s a) d rest after (lead_of_factor (signed s a) d rest (signed_first s a f.1 d h rest after.0));
}
lead (product a b) = record {
  factor_first = λ f d h rest _. absurd f.0;
  term_first = λ f d h rest after. product_first a b f.1 f.2 (lead a) d h rest after;
  expression_first = λ f d h rest after. lead_of_term (product a b) d rest after (product_first a b f.1 f.2 (lead a) d h rest after.0);
}
lead (sum s a b) = record {
  factor_first = λ f d h rest _. absurd f.0;
  term_first = λ f d h rest _. absurd f.0;
  expression_first = λ f d h rest after. sum_first s a b f.1 f.2 (lead a) d h rest after;
}

-- chains
pub stop_more : (k : Connective) (d : ℕ) (F : List Word → FoundItem) (n : ℕ) (a : Condition) (ws : List Word) → after (connective_kind k) ws ≡ None → more_by k d F n (Truth a) ws ≡ Some (Truth a, ws)
stop_more k d F zero a ws h = ap (λ o. if_some o (λ rest. None) (Some (Truth a, ws))) h
stop_more k d F (suc n) a ws h =
    ap (λ o. if_some o (λ rest. then_read (F rest) (λ j more. then_read (connection_from k d (Truth a) j more) (more_by k d F n))) (Some (Truth a, ws))) h

pub connective_first : (k : Connective) (ws : List Word) → after (connective_kind k) (plain (connective_kind k) ∷ ws) ≡ Some ws
connective_first And ws = refl
connective_first Or ws = refl

pub step_more : (k : Connective) (d : ℕ) (F : List Word → FoundItem) (n : ℕ) (a b : Condition) (ws rest : List Word) → 1 ≤ n → F ws ≡ Some (Truth b, rest) → condition_depth (connection k a b) ≤ d
    → (m : ℕ) × (n ≡ suc m) × (more_by k d F n (Truth a) (plain (connective_kind k) ∷ ws) ≡ more_by k d F m (Truth (connection k a b)) rest)
step_more k d F zero a b ws rest h e f = absurd (omega arith)
step_more k d F (suc m) a b ws rest h e f = (
  m,
  refl,
  ap (λ o. if_some o (λ r. then_read (F r) (λ j more. then_read (connection_from k d (Truth a) j more) (more_by k d F m))) (Some (Truth a, plain (connective_kind k) ∷ ws))) (connective_first k ws)
      ∙ (ap (λ o. then_read o (λ j more. then_read (connection_from k d (Truth a) j more) (more_by k d F m))) e
      ∙ ap (λ o. then_read o (more_by k d F m)) (condition_fits_ok d (connection k a b) rest f)),
)

pub record ConditionComplete (c : Condition) : Type 0 where
  pub test_read : ConditionFormed test c → (front : List Word) → Spelled c front → (d : ℕ) → condition_depth c ≤ d → (rest : List Word) → EndsExpression rest
      → read_test d (front ++ rest) ≡ Some (Truth c, rest)
  pub negation_read : ConditionFormed negation c → (front : List Word) → Spelled c front → (d : ℕ) → condition_depth c ≤ d → (rest : List Word) → EndsExpression rest
      → read_negation d (front ++ rest) ≡ Some (Truth c, rest)
  pub conjunction_read : ConditionFormed conjunction c → (front : List Word) → Spelled c front → (d : ℕ) → condition_depth c ≤ d → (rest : List Word) → EndsExpression rest
      → (n : ℕ) × (d ≤ n + condition_depth c) × (read_conjunction d (front ++ rest) ≡ more_by And d (read_negation d) n (Truth c) rest)
  pub condition_read : ConditionFormed condition c → (front : List Word) → Spelled c front → (d : ℕ) → condition_depth c ≤ d → (rest : List Word) → EndsConjunction rest
      → (n : ℕ) × (d ≤ n + condition_depth c) × (read_item d (front ++ rest) ≡ more_by Or d (read_conjunction d) n (Truth c) rest)

pub conjunction_of_negation : (c : Condition) (d : ℕ) (ws rest : List Word) → read_negation d ws ≡ Some (Truth c, rest)
    → (n : ℕ) × (d ≤ n + condition_depth c) × (read_conjunction d ws ≡ more_by And d (read_negation d) n (Truth c) rest)
conjunction_of_negation c d ws rest h = (d, omega arith, sym (conjunction_step d ws) ∙ ap (λ f. then_read f (more_by And d (read_negation d) d)) h)

pub condition_of_conjunction : (c : Condition) (d : ℕ) (ws rest : List Word) → EndsConjunction rest
    → (n : ℕ) × (d ≤ n + condition_depth c) × (read_conjunction d ws ≡ more_by And d (read_negation d) n (Truth c) rest)
    → (n : ℕ) × (d ≤ n + condition_depth c) × (read_item d ws ≡ more_by Or d (read_conjunction d) n (Truth c) rest)
condition_of_conjunction c d ws rest a t =
    (d, omega arith, sym (item_step d ws) ∙ ap (λ f. then_read f (more_by Or d (read_conjunction d) d)) (t.2 ∙ stop_more And d (read_negation d) t.0 c rest a.1))

-- where a condition is a test
pub from_test : (c : Condition) → ((front : List Word) → Spelled c front → (rest : List Word) → after kind.Not (front ++ rest) ≡ None)
    → (ConditionFormed test c → (front : List Word) → Spelled c front → (d : ℕ) → condition_depth c ≤ d → (rest : List Word) → EndsExpression rest → read_test d (front ++ rest) ≡ Some (Truth c, rest))
    → (ConditionFormed negation c → ConditionFormed test c) → (ConditionFormed conjunction c → ConditionFormed test c) → (ConditionFormed condition c → ConditionFormed test c)
    → ConditionComplete c
from_test c skips t n j o = record {
  test_read = t;
  negation_read = λ f front s d h rest a. sym (negation_plain d (front ++ rest) (sym (skips front s rest))) ∙ t (n f) front s d h rest a;
  conjunction_read = λ f front s d h rest a.
      conjunction_of_negation c d (front ++ rest) rest (sym (negation_plain d (front ++ rest) (sym (skips front s rest))) ∙ t (j f) front s d h rest a);
  condition_read = λ f front s d h rest a.
      condition_of_conjunction c d (front ++ rest) rest a
      (conjunction_of_negation c d (front ++ rest) rest (sym (negation_plain d (front ++ rest) (sym (skips front s rest))) ∙ t (o f) front s d h rest a.0));
}

-- predicates
pub comparison_ends : (o : Comparison) (ws : List Word) → EndsExpression (plain (comparison_kind o) ∷ ws)
comparison_ends comparison.Equal ws = ((refl, refl), refl, refl)
comparison_ends comparison.NotEqual ws = ((refl, refl), refl, refl)
comparison_ends comparison.Less ws = ((refl, refl), refl, refl)
comparison_ends comparison.LessEqual ws = ((refl, refl), refl, refl)
comparison_ends comparison.Greater ws = ((refl, refl), refl, refl)
comparison_ends comparison.GreaterEqual ws = ((refl, refl), refl, refl)

pub tested_by : (o : Comparison) (d : ℕ) (a : Expression) (ws : List Word) → predicate_from d a (plain (comparison_kind o) ∷ ws) ≡ comparison_from d o a ws
tested_by comparison.Equal d a ws = refl
tested_by comparison.NotEqual d a ws = refl
tested_by comparison.Less d a ws = refl
tested_by comparison.LessEqual d a ws = refl
tested_by comparison.Greater d a ws = refl
tested_by comparison.GreaterEqual d a ws = refl

-- what is spelled after an expression comes after it
pub spelled_after : (a : Expression) (front tail rest : List Word) → front ≡ spelling a ++ tail → front ++ rest ≡ spelling a ++ (tail ++ rest)
spelled_after a front tail rest h = ap (λ l. l ++ rest) h ∙ append_assoc (spelling a) tail rest

pub spelled_not : (a : Expression) (front tail rest : List Word) → front ≡ spelling a ++ tail → after kind.Not (front ++ rest) ≡ None
spelled_not a front tail rest h = ap (after kind.Not) (spelled_after a front tail rest h) ∙ no_not a (tail ++ rest)

pub compare_read : (o : Comparison) (a b : Expression) → Formed expression a × Formed expression b → (front : List Word) → Spelled (Compare o a b) front → (d : ℕ)
    → condition_depth (Compare o a b) ≤ d → (rest : List Word) → EndsExpression rest → read_test d (front ++ rest) ≡ Some (Truth (Compare o a b), rest)
compare_read o a b f front s d h rest ends =
    let tail = plain (comparison_kind o) ∷ (spelling b ++ rest) in
    let first = lead_whole a (lead a) f.0 d (omega arith) tail (comparison_ends o (spelling b ++ rest)) in
    let second = expression_whole b f.1 d (omega arith) rest ends in
    ap (read_test d) (spelled_after a front (plain (comparison_kind o) ∷ spelling b) rest s)
    ∙ (test_of_value d a (spelling a ++ tail) tail first
    ∙ (tested_by o d a (spelling b ++ rest)
    ∙ (ap (λ p. then_read p (λ e. condition_fits d (Compare o a e))) second ∙ condition_fits_ok d (Compare o a b) rest h)))

pub null_read : (a : Expression) → Formed expression a → (front : List Word) → Spelled (IsNull a) front → (d : ℕ) → condition_depth (IsNull a) ≤ d → (rest : List Word) → EndsExpression rest
    → read_test d (front ++ rest) ≡ Some (Truth (IsNull a), rest)
null_read a f front s d h rest ends =
    let tail = plain kind.Is ∷ plain kind.Null ∷ rest in
    ap (read_test d) (spelled_after a front (plain kind.Is ∷ plain kind.Null ∷ []) rest s)
    ∙ (test_of_value d a (spelling a ++ tail) tail (lead_whole a (lead a) f d (omega arith) tail ((refl, refl), refl, refl)) ∙ condition_fits_ok d (IsNull a) rest h)

pub not_null_read : (a : Expression) → Formed expression a → (front : List Word) → Spelled (IsNotNull a) front → (d : ℕ) → condition_depth (IsNotNull a) ≤ d → (rest : List Word)
    → EndsExpression rest → read_test d (front ++ rest) ≡ Some (Truth (IsNotNull a), rest)
not_null_read a f front s d h rest ends =
    let tail = plain kind.Is ∷ plain kind.Not ∷ plain kind.Null ∷ rest in
    ap (read_test d) (spelled_after a front (plain kind.Is ∷ plain kind.Not ∷ plain kind.Null ∷ []) rest s)
    ∙ (test_of_value d a (spelling a ++ tail) tail (lead_whole a (lead a) f d (omega arith) tail ((refl, refl), refl, refl)) ∙ condition_fits_ok d (IsNotNull a) rest h)

-- a condition that comes first in a test is the test
pub test_of_truth : (d : ℕ) (c : Condition) (ws rest : List Word) → after_sign ws ≡ None → read_lead d ws ≡ Some (Truth c, rest) → read_test d ws ≡ Some (Truth c, rest)
unfolding read_test
test_of_truth d c ws rest s h =
    ap (λ o. then_read o (on_value (value_test d))) (sym (factor_lead d ws (sym s)) ∙ h)

pub condition_item : (c : Condition) → ConditionComplete c → ConditionFormed condition c → (front : List Word) → Spelled c front → (d : ℕ) → condition_depth c ≤ d → (rest : List Word)
    → EndsCondition rest → read_item d (front ++ rest) ≡ Some (Truth c, rest)
condition_item c k f front s d h rest a =
    let found = k.condition_read f front s d h rest a.0 in
    found.2 ∙ stop_more Or d (read_conjunction d) found.0 c rest a.1

pub enclosed_first : (a : Condition) → ConditionComplete a → ConditionFormed condition a → (front inner : List Word) → Spelled a inner
    → front ≡ plain kind.LeftParenthesis ∷ (inner ++ plain kind.RightParenthesis ∷ []) → (d : ℕ) → condition_depth (enclosed a) ≤ d → (rest : List Word)
    → read_test d (front ++ rest) ≡ Some (Truth (enclosed a), rest)
enclosed_first a k f front inner s e zero h rest = absurd (omega arith)
enclosed_first a k f front inner s e (suc d) h rest =
    let close = plain kind.RightParenthesis ∷ rest in
    let found = condition_item a k f inner s d (omega arith) close ((((refl, refl), refl, refl), refl), refl) in
    let placed : front ++ rest ≡ plain kind.LeftParenthesis ∷ (inner ++ close) =
    ap (λ l. l ++ rest) e ∙ ap (λ l. plain kind.LeftParenthesis ∷ l) (append_assoc inner (plain kind.RightParenthesis ∷ []) rest) in
    ap (read_test (suc d)) placed
    ∙ test_of_truth (suc d) (enclosed a) (plain kind.LeftParenthesis ∷ (inner ++ close)) rest refl
    (lead_group d (inner ++ close) ∙ (ap (λ o. then_read o (close_item (suc d))) found ∙ condition_fits_ok (suc d) (enclosed a) rest h))

-- ranges
pub alias_read : (a : Option (List ℕ)) (alias : List Word) → AliasSpelled a alias → (rest : List Word) → after kind.As rest ≡ None → after_name rest ≡ None → alias_from (alias ++ rest) ≡ Some (a, rest)
alias_read None alias s rest h g =
    ap (λ l. alias_from (l ++ rest)) s
    ∙ (ap (λ o. if_some o (λ r. then_read (after_name r) (λ n more. Some (Some n, more))) (if_some (after_name rest) (λ p. Some (Some p.0, p.1)) (Some (None, rest)))) h
    ∙ ap (λ o. if_some o (λ p. Some (Some p.0, p.1)) (Some (None, rest))) g)
alias_read (Some a) alias (inl s) rest h g = ap (λ l. alias_from (l ++ rest)) s
alias_read (Some a) alias (inr s) rest h g = ap (λ l. alias_from (l ++ rest)) s

pub range_read : (r : RangeName) (alias : List Word) → AliasSpelled r.alias alias → (rest : List Word) → after kind.As rest ≡ None → after_name rest ≡ None
    → range_from (name r.table ∷ (alias ++ rest)) ≡ Some (r, rest)
range_read r alias s rest h g = ap (λ o. then_read o (λ a more. Some (record { table = r.table; alias = a }, more))) (alias_read r.alias alias s rest h g)

pub from_read : (I : List Word → FoundItem) (r : RangeName) (from : List Word) → RangeSpelled r from → (rest : List Word) → after kind.As rest ≡ None → after_name rest ≡ None
    → from_by I (from ++ rest) ≡ where_from I r rest
from_read I r from s rest h g =
    ap (λ l. from_by I (l ++ rest)) s.2 ∙ ap (λ o. then_read o (where_from I)) (range_read r s.0 s.1 rest h g)

pub from_all_read : (I : List Word → FoundItem) (r : RangeName) (from : List Word) → RangeSpelled r from → (rest : List Word) → EndsFrom rest → from_by I (from ++ rest) ≡ Some ((r, None), rest)
from_all_read I r from s rest ends =
    from_read I r from s rest ends.1 ends.2 ∙ ap (λ o. if_some o (λ more. then_read (I more) (with_condition r)) (Some ((r, None), rest))) ends.3

pub from_where_read : (I : List Word → FoundItem) (r : RangeName) (c : Condition) (from inner : List Word) → RangeSpelled r from → (rest : List Word) → I (inner ++ rest) ≡ Some (Truth c, rest)
    → from_by I ((from ++ plain kind.Where ∷ inner) ++ rest) ≡ Some ((r, Some c), rest)
from_where_read I r c from inner s rest h =
    ap (from_by I) (append_assoc from (plain kind.Where ∷ inner) rest)
    ∙ (from_read I r from s (plain kind.Where ∷ (inner ++ rest)) refl refl ∙ ap (λ o. then_read o (with_condition r)) h)

-- EXISTS
pub exists_placed : (front from rest : List Word) → front ≡ exists_spelling from
    → front ++ rest ≡ plain kind.Exists ∷ plain kind.LeftParenthesis ∷ plain kind.Select ∷ plain kind.Asterisk ∷ (from ++ plain kind.RightParenthesis ∷ rest)
exists_placed front from rest e =
    ap (λ l. l ++ rest) e ∙ ap (λ l. plain kind.Exists ∷ plain kind.LeftParenthesis ∷ plain kind.Select ∷ plain kind.Asterisk ∷ l) (append_assoc from (plain kind.RightParenthesis ∷ []) rest)

pub exists_read : (r : RangeName) (o : Option Condition) (front from : List Word) → front ≡ exists_spelling from → (d : ℕ) → condition_depth (exists_over (r, o)) ≤ suc d → (rest : List Word)
    → from_by (read_item d) (from ++ plain kind.RightParenthesis ∷ rest) ≡ Some ((r, o), plain kind.RightParenthesis ∷ rest)
    → read_test (suc d) (front ++ rest) ≡ Some (Truth (exists_over (r, o)), rest)
exists_read r o front from e d h rest f =
    let inner = plain kind.LeftParenthesis ∷ plain kind.Select ∷ plain kind.Asterisk ∷ (from ++ plain kind.RightParenthesis ∷ rest) in
    ap (read_test (suc d)) (exists_placed front from rest e)
    ∙ test_of_truth (suc d) (exists_over (r, o)) (plain kind.Exists ∷ inner) rest refl
    (lead_exists_at d inner ∙ (ap (λ p. then_read p (close_exists (suc d))) f ∙ condition_fits_ok (suc d) (exists_over (r, o)) rest h))

pub exists_all_read : (r : RangeName) (front : List Word) → Spelled (Exists r) front → (d : ℕ) → condition_depth (Exists r) ≤ d → (rest : List Word) → read_test d (front ++ rest) ≡ Some (Truth (Exists r), rest)
exists_all_read r front s zero h rest = absurd (omega arith)
exists_all_read r front s (suc d) h rest =
    exists_read r None front s.0 s.2 d h rest
    (from_all_read (read_item d) r s.0 s.1 (plain kind.RightParenthesis ∷ rest) (((((refl, refl), refl, refl), refl), refl), refl, refl, refl))

pub exists_where_read : (r : RangeName) (a : Condition) → ConditionComplete a → ConditionFormed condition a → (front : List Word) → Spelled (exists_where r a) front → (d : ℕ)
    → condition_depth (exists_where r a) ≤ d → (rest : List Word) → read_test d (front ++ rest) ≡ Some (Truth (exists_where r a), rest)
exists_where_read r a k f front s zero h rest = absurd (omega arith)
exists_where_read r a k f front s (suc d) h rest =
    exists_read r (Some a) front (s.0 ++ plain kind.Where ∷ s.1) s.4 d h rest
    (from_where_read (read_item d) r a s.0 s.1 s.2 (plain kind.RightParenthesis ∷ rest)
    (condition_item a k f s.1 s.3 d (omega arith) (plain kind.RightParenthesis ∷ rest) ((((refl, refl), refl, refl), refl), refl)))

pub exists_not : (front from rest : List Word) → front ≡ exists_spelling from → after kind.Not (front ++ rest) ≡ None
exists_not front from rest e = ap (after kind.Not) (exists_placed front from rest e)

-- NOT, AND, OR
pub negated_read : (a : Condition) → ConditionComplete a → ConditionFormed test a → (front inner : List Word) → Spelled a inner → front ≡ plain kind.Not ∷ inner → (d : ℕ)
    → condition_depth (negated a) ≤ d → (rest : List Word) → EndsExpression rest → read_negation d (front ++ rest) ≡ Some (Truth (negated a), rest)
negated_read a k f front inner s e d h rest ends =
    ap (λ l. read_negation d (l ++ rest)) e
    ∙ (sym (negation_not d (plain kind.Not ∷ (inner ++ rest)) (inner ++ rest) refl)
    ∙ (ap (λ o. then_read o (negate d)) (k.test_read f inner s d (omega arith) rest ends) ∙ condition_fits_ok d (negated a) rest h))

pub joined_placed : (front left right rest : List Word) (w : Word) → front ≡ left ++ w ∷ right → front ++ rest ≡ left ++ w ∷ (right ++ rest)
joined_placed front left right rest w e = ap (λ l. l ++ rest) e ∙ append_assoc left (w ∷ right) rest

pub both_read : (a b : Condition) → ConditionComplete a → ConditionComplete b → ConditionFormed conjunction a → ConditionFormed negation b → (front : List Word) → Spelled (both a b) front
    → (d : ℕ) → condition_depth (both a b) ≤ d → (rest : List Word) → EndsExpression rest
    → (n : ℕ) × (d ≤ n + condition_depth (both a b)) × (read_conjunction d (front ++ rest) ≡ more_by And d (read_negation d) n (Truth (both a b)) rest)
both_read a b ka kb fa fb front s d h rest ends =
    let first = ka.conjunction_read fa s.0 s.2 d (omega arith) (plain kind.And ∷ (s.1 ++ rest)) ((refl, refl), refl, refl) in
    let second = kb.negation_read fb s.1 s.3 d (omega arith) rest ends in
    let step = step_more And d (read_negation d) first.0 a b (s.1 ++ rest) rest (omega arith) second h in
    (step.0, omega arith, ap (read_conjunction d) (joined_placed front s.0 s.1 rest (plain kind.And) s.4) ∙ (first.2 ∙ step.2))

pub either_read : (a b : Condition) → ConditionComplete a → ConditionComplete b → ConditionFormed condition a → ConditionFormed conjunction b → (front : List Word) → Spelled (either a b) front
    → (d : ℕ) → condition_depth (either a b) ≤ d → (rest : List Word) → EndsConjunction rest
    → (n : ℕ) × (d ≤ n + condition_depth (either a b)) × (read_item d (front ++ rest) ≡ more_by Or d (read_conjunction d) n (Truth (either a b)) rest)
either_read a b ka kb fa fb front s d h rest ends =
    let first = ka.condition_read fa s.0 s.2 d (omega arith) (plain kind.Or ∷ (s.1 ++ rest)) (((refl, refl), refl, refl), refl) in
    let second = kb.conjunction_read fb s.1 s.3 d (omega arith) rest ends.0 in
    let whole : read_conjunction d (s.1 ++ rest) ≡ Some (Truth b, rest) = second.2 ∙ stop_more And d (read_negation d) second.0 b rest ends.1 in
    let step = step_more Or d (read_conjunction d) first.0 a b (s.1 ++ rest) rest (omega arith) whole h in
    (step.0, omega arith, ap (read_item d) (joined_placed front s.0 s.1 rest (plain kind.Or) s.4) ∙ (first.2 ∙ step.2))

pub condition_complete : (c : Condition) → ConditionComplete c
condition_complete (Compare o a b) = from_test (Compare o a b)
    (λ front s rest. spelled_not a front (plain (comparison_kind o) ∷ spelling b) rest s) (compare_read o a b) (λ f. f) (λ f. f) (λ f. f)
condition_complete (IsNull a) = from_test (IsNull a)
    (λ front s rest. spelled_not a front (plain kind.Is ∷ plain kind.Null ∷ []) rest s) (null_read a) (λ f. f) (λ f. f) (λ f. f)
condition_complete (IsNotNull a) = from_test (IsNotNull a)
    (λ front s rest. spelled_not a front (plain kind.Is ∷ plain kind.Not ∷ plain kind.Null ∷ []) rest s) (not_null_read a) (λ f. f) (λ f. f) (λ f. f)
condition_complete (Exists r) = from_test (Exists r)
    (λ front s rest. exists_not front s.0 rest s.2) (λ f front s d h rest _. exists_all_read r front s d h rest) (λ f. f) (λ f. f) (λ f. f)
condition_complete (exists_where r a) = from_test (exists_where r a)
    (λ front s rest. exists_not front (s.0 ++ plain kind.Where ∷ s.1) rest s.4)
    (λ f front s d h rest _. exists_where_read r a (condition_complete a) f front s d h rest) (λ f. f) (λ f. f) (λ f. f)
condition_complete (enclosed a) = from_test (enclosed a)
    (λ front s rest. ap (λ l. after kind.Not (l ++ rest)) s.2)
    (λ f front s d h rest _. enclosed_first a (condition_complete a) f front s.0 s.1 s.2 d h rest) (λ f. f) (λ f. f) (λ f. f)
condition_complete (negated a) = record {
  test_read = λ f front s d h rest _. absurd f.0;
  negation_read = λ f front s d h rest ends. negated_read a (condition_complete a) f.1 front s.0 s.1 s.2 d h rest ends;
  conjunction_read = λ f front s d h rest ends. conjunction_of_negation (negated a) d (front ++ rest) rest (negated_read a (condition_complete a) f.1 front s.0 s.1 s.2 d h rest ends);
  condition_read = λ f front s d h rest ends. condition_of_conjunction (negated a) d (front ++ rest) rest ends
      (conjunction_of_negation (negated a) d (front ++ rest) rest (negated_read a (condition_complete a) f.1 front s.0 s.1 s.2 d h rest ends.0));
}
condition_complete (both a b) = record {
  test_read = λ f front s d h rest _. absurd f.0;
  negation_read = λ f front s d h rest _. absurd f.0;
  conjunction_read = λ f front s d h rest ends. both_read a b (condition_complete a) (condition_complete b) f.1 f.2 front s d h rest ends;
  condition_read = λ f front s d h rest ends. condition_of_conjunction (both a b) d (front ++ rest) rest ends
      (both_read a b (condition_complete a) (condition_complete b) f.1 f.2 front s d h rest ends.0);
}
condition_complete (either a b) = record {
  test_read = λ f front s d h rest _. absurd f.0;
  negation_read = λ f front s d h rest _. absurd f.0;
  conjunction_read = λ f front s d h rest _. absurd f.0;
  condition_read = λ f front s d h rest ends. either_read a b (condition_complete a) (condition_complete b) f.1 f.2 front s d h rest ends;
}

-- a condition of the grammar that is not too deep is read whole, whatever follows that cannot go on with it
pub condition_whole : (c : Condition) → ConditionFormed condition c → (front : List Word) → Spelled c front → (d : ℕ) → condition_depth c ≤ d → (rest : List Word) → EndsCondition rest
    → read_item d (front ++ rest) ≡ Some (Truth c, rest)
condition_whole c f front s d h rest a = condition_item c (condition_complete c) f front s d h rest a
