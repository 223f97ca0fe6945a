-- What the grammar has of expressions, the reader finds.
use Rattle.std.specs.Prelude.{◌≡◌, ℕ, ◌+◌, ◌≤◌, zero, suc, Option, Some, None, List, [], ◌∷◌, ◌++◌, refl}
use Rattle.std.proofs.Common.{◌∙◌, ap, arith, append_assoc}
use Rattle.std.proofs.lemmas.Bool.{le-leb}
use Rattle.iv_lex.specs.declared.kind.TokenKind.TheVariants as kind
use Rattle.iv_lex.specs.Words.{Word, name, plain}
use Rattle.iv_parse_terms.specs.Types.{Sign, Expression}
use Rattle.iv_parse_terms.specs.Types.sign
use Rattle.iv_parse_terms.specs.Types.expression.{Number, Text, Null, Column}
use Rattle.iv_syntax.specs.declared.tree.ColumnName.{ColumnName}
use Rattle.iv_syntax.specs.Trees.{group, signed, product, sum, depth}
use Rattle.iv_parse_terms.specs.After.{after, after_name, if_some, then_read}
use Rattle.iv_parse_terms.specs.Expressions.{expression, term, factor, primary, sign_kind, qualifier_spelling, spelling, Formed, EndsPrimary, EndsTerm, EndsExpression}
use Rattle.iv_parse_terms.specs.readers.Expressions.{FoundExpression, fits, after_sign, column_tree, simple, close_group, more_factors, more_terms, expression_over, read_primary, read_factor, read_term, read_expression}

pub fits_ok : (d : ℕ) (e : Expression) (ws : List Word) → depth e ≤ d → fits d e ws ≡ Some (e, ws)
fits_ok d e ws h = rw (le-leb (depth e) d h) refl

pub no_sign : (ws : List Word) → EndsExpression ws → after_sign ws ≡ None
no_sign ws h = rw (h.1, h.2) refl

pub stop_factors : (d : ℕ) (F : List Word → FoundExpression) (n : ℕ) (a : Expression) (ws : List Word) → EndsTerm ws → more_factors d F n a ws ≡ Some (a, ws)
stop_factors d F zero a ws h = ap (λ o. if_some o (λ rest. None) (Some (a, ws))) h.1
stop_factors d F (suc n) a ws h =
    ap (λ o. if_some o (λ rest. then_read (F rest) (λ b more. then_read (fits d (product a b) more) (more_factors d F n))) (Some (a, ws))) h.1

pub stop_terms : (d : ℕ) (F : List Word → FoundExpression) (n : ℕ) (a : Expression) (ws : List Word) → EndsExpression ws → more_terms d F n a ws ≡ Some (a, ws)
stop_terms d F zero a ws h = ap (λ o. if_some o (λ p. None) (Some (a, ws))) (no_sign ws h)
stop_terms d F (suc n) a ws h =
    ap (λ o. if_some o (λ p. then_read (F p.1) (λ b more. then_read (fits d (sum p.0 a b) more) (more_terms d F n))) (Some (a, ws))) (no_sign ws h)

-- one more operand is taken
pub step_factor : (d : ℕ) (F : List Word → FoundExpression) (n : ℕ) (a b : Expression) (ws rest : List Word) → 1 ≤ n → F ws ≡ Some (b, rest) → depth (product a b) ≤ d
    → (m : ℕ) × (n ≡ suc m) × (more_factors d F n a (plain kind.Asterisk ∷ ws) ≡ more_factors d F m (product a b) rest)
step_factor d F zero a b ws rest h e f = absurd (omega arith)
step_factor d F (suc m) a b ws rest h e f = (m, refl, rw (e, fits_ok d (product a b) rest f) refl)

pub step_term : (s : Sign) (d : ℕ) (F : List Word → FoundExpression) (n : ℕ) (a b : Expression) (ws rest : List Word) → 1 ≤ n → F ws ≡ Some (b, rest) → depth (sum s a b) ≤ d
    → (m : ℕ) × (n ≡ suc m) × (more_terms d F n a (plain (sign_kind s) ∷ ws) ≡ more_terms d F m (sum s a b) rest)
step_term s d F zero a b ws rest h e f = absurd (omega arith)
step_term sign.Plus d F (suc m) a b ws rest h e f = (m, refl, rw (e, fits_ok d (sum sign.Plus a b) rest f) refl)
step_term sign.Minus d F (suc m) a b ws rest h e f = (m, refl, rw (e, fits_ok d (sum sign.Minus a b) rest f) refl)

-- the reader of each rule finds the tree
pub record Complete (e : Expression) : Type 0 where
  pub primary_read : Formed primary e → (d : ℕ) → depth e ≤ d → (rest : List Word) → EndsPrimary rest → read_primary d (spelling e ++ rest) ≡ Some (e, rest)
  pub factor_read : Formed factor e → (d : ℕ) → depth e ≤ d → (rest : List Word) → EndsPrimary rest → read_factor d (spelling e ++ rest) ≡ Some (e, rest)
  pub term_read : Formed term e → (d : ℕ) → depth e ≤ d → (rest : List Word) → EndsPrimary rest
      → (n : ℕ) × (d ≤ n + depth e) × (read_term d (spelling e ++ rest) ≡ more_factors d (read_factor d) n e rest)
  pub expression_read : Formed expression e → (d : ℕ) → depth e ≤ d → (rest : List Word) → EndsTerm rest
      → (n : ℕ) × (d ≤ n + depth e) × (read_expression d (spelling e ++ rest) ≡ more_terms d (read_term d) n e rest)

-- a factor is a term
pub term_of_factor : (e : Expression) (d : ℕ) (rest : List Word) → read_factor d (spelling e ++ rest) ≡ Some (e, rest)
    → (n : ℕ) × (d ≤ n + depth e) × (read_term d (spelling e ++ rest) ≡ more_factors d (read_factor d) n e rest)
term_of_factor e d rest h = (d, omega arith, ap (λ f. then_read f (more_factors d (read_factor d) d)) h)

-- a term is an expression
pub expression_of_term : (e : Expression) (d : ℕ) (rest : List Word) → EndsTerm rest
    → (n : ℕ) × (d ≤ n + depth e) × (read_term d (spelling e ++ rest) ≡ more_factors d (read_factor d) n e rest)
    → (n : ℕ) × (d ≤ n + depth e) × (read_expression d (spelling e ++ rest) ≡ more_terms d (read_term d) n e rest)
expression_of_term e d rest after t =
    (d, omega arith, ap (λ f. then_read f (more_terms d (read_term d) d)) (t.2 ∙ stop_factors d (read_factor d) t.0 e rest after))

-- where a tree is a primary and no sign is before it
pub from_factor : (e : Expression) → (Formed primary e → (d : ℕ) → depth e ≤ d → (rest : List Word) → EndsPrimary rest → read_primary d (spelling e ++ rest) ≡ Some (e, rest))
    → ((d : ℕ) → depth e ≤ d → (rest : List Word) → EndsPrimary rest → read_factor d (spelling e ++ rest) ≡ Some (e, rest))
    → Complete e
from_factor e p f = record {
  primary_read = p;
  factor_read = λ _ d h rest a. f d h rest a;
  term_read = λ _ d h rest a. term_of_factor e d rest (f d h rest a);
  expression_read = λ _ d h rest a. expression_of_term e d rest a (term_of_factor e d rest (f d h rest a.0));
}

-- a tree of depth one is read at any depth but 0
pub primary_at : (d : ℕ) (ws : List Word) (f : FoundExpression) → 1 ≤ d → ((m : ℕ) → read_primary (suc m) ws ≡ f) → read_primary d ws ≡ f
primary_at zero ws f h e = absurd (omega arith)
primary_at (suc m) ws f h e = e m

pub column_read : (q : Option (List ℕ)) (n : List ℕ) (rest : List Word) → EndsPrimary rest
    → simple ((qualifier_spelling q ++ name n ∷ []) ++ rest) ≡ Some (column_tree q n, rest)
column_read None n rest h = ap (λ o. if_some o (λ r. then_read (after_name r) (λ m more. Some (column_tree (Some n) m, more))) (Some (column_tree None n, rest))) h
column_read (Some q) n rest h = refl

-- what a column begins with
pub column_first : (q : Option (List ℕ)) (n : List ℕ) (rest : List Word)
    → (after kind.LeftParenthesis ((qualifier_spelling q ++ name n ∷ []) ++ rest) ≡ None) × (after_sign ((qualifier_spelling q ++ name n ∷ []) ++ rest) ≡ None)
column_first None n rest = (refl, refl)
column_first (Some q) n rest = (refl, refl)

pub column_primary : (c : ColumnName) (d : ℕ) → 1 ≤ d → (rest : List Word) → EndsPrimary rest → read_primary d (spelling (Column c) ++ rest) ≡ Some (Column c, rest)
unfolding read_primary
column_primary c zero h rest a = absurd (omega arith)
column_primary c (suc d) h rest a =
    ap (λ o. if_some o (λ r. then_read (expression_over d (read_primary d) r) (close_group (suc d))) (simple (spelling (Column c) ++ rest))) (column_first c.qualifier c.name rest).0
    ∙ column_read c.qualifier c.name rest a

pub column_factor : (c : ColumnName) (d : ℕ) → 1 ≤ d → (rest : List Word) → EndsPrimary rest → read_factor d (spelling (Column c) ++ rest) ≡ Some (Column c, rest)
column_factor c d h rest a =
    ap (λ o. if_some o (λ p. then_read (read_primary d p.1) (λ e. fits d (signed p.0 e))) (read_primary d (spelling (Column c) ++ rest))) (column_first c.qualifier c.name rest).1
    ∙ column_primary c d h rest a

pub group_read : (a : Expression) → Formed expression a → Complete a → (d : ℕ) → depth (group a) ≤ d → (rest : List Word)
    → read_primary d (spelling (group a) ++ rest) ≡ Some (group a, rest)
unfolding read_primary
group_read a f c zero h rest = absurd (omega arith)
group_read a f c (suc d) h rest =
    let inner = c.expression_read f d (omega arith) (plain kind.RightParenthesis ∷ rest) (refl, refl) in
    let left : read_expression d (spelling a ++ plain kind.RightParenthesis ∷ rest) ≡ Some (a, plain kind.RightParenthesis ∷ rest) =
    inner.2 ∙ stop_terms d (read_term d) inner.0 a (plain kind.RightParenthesis ∷ rest) ((refl, refl), refl, refl) in
    rw (append_assoc (spelling a) (plain kind.RightParenthesis ∷ []) rest) (ap (λ o. then_read o (close_group (suc d))) left ∙ fits_ok (suc d) (group a) rest h)

pub signed_read : (s : Sign) (a : Expression) → Formed primary a → Complete a → (d : ℕ) → depth (signed s a) ≤ d → (rest : List Word) → EndsPrimary rest
    → read_factor d (spelling (signed s a) ++ rest) ≡ Some (signed s a, rest)
signed_read sign.Plus a f c d h rest after =
    ap (λ o. then_read o (λ e. fits d (signed sign.Plus e))) (c.primary_read f d (omega arith) rest after) ∙ fits_ok d (signed sign.Plus a) rest h
signed_read sign.Minus a f c d h rest after =
    ap (λ o. then_read o (λ e. fits d (signed sign.Minus e))) (c.primary_read f d (omega arith) rest after) ∙ fits_ok d (signed sign.Minus a) rest h

pub product_read : (a b : Expression) → Formed term a → Formed factor b → Complete a → Complete b → (d : ℕ) → depth (product a b) ≤ d → (rest : List Word) → EndsPrimary rest
    → (n : ℕ) × (d ≤ n + depth (product a b)) × (read_term d (spelling (product a b) ++ rest) ≡ more_factors d (read_factor d) n (product a b) rest)
product_read a b fa fb ca cb d h rest after =
    let first = ca.term_read fa d (omega arith) (plain kind.Asterisk ∷ (spelling b ++ rest)) refl in
    let second = cb.factor_read fb d (omega arith) rest after in
    let step = step_factor d (read_factor d) first.0 a b (spelling b ++ rest) rest (omega arith) second h in
    (step.0, omega arith, rw (append_assoc (spelling a) (plain kind.Asterisk ∷ spelling b) rest) (first.2 ∙ step.2))

pub sign_ends : (s : Sign) (ws : List Word) → EndsTerm (plain (sign_kind s) ∷ ws)
sign_ends sign.Plus ws = (refl, refl)
sign_ends sign.Minus ws = (refl, refl)

pub sum_read : (s : Sign) (a b : Expression) → Formed expression a → Formed term b → Complete a → Complete b → (d : ℕ) → depth (sum s a b) ≤ d → (rest : List Word) → EndsTerm rest
    → (n : ℕ) × (d ≤ n + depth (sum s a b)) × (read_expression d (spelling (sum s a b) ++ rest) ≡ more_terms d (read_term d) n (sum s a b) rest)
sum_read s a b fa fb ca cb d h rest after =
    let first = ca.expression_read fa d (omega arith) (plain (sign_kind s) ∷ (spelling b ++ rest)) (sign_ends s _) in
    let second = cb.term_read fb d (omega arith) rest after.0 in
    let whole : read_term d (spelling b ++ rest) ≡ Some (b, rest) = second.2 ∙ stop_factors d (read_factor d) second.0 b rest after in
    let step = step_term s d (read_term d) first.0 a b (spelling b ++ rest) rest (omega arith) whole h in
    (step.0, omega arith, rw (append_assoc (spelling a) (plain (sign_kind s) ∷ spelling b) rest) (first.2 ∙ step.2))

pub complete : (e : Expression) → Complete e
unfolding read_primary
complete (Number n) = from_factor (Number n) (λ _ d h rest a. primary_at d _ _ h (λ m. refl)) (λ d h rest a. primary_at d _ _ h (λ m. refl))
complete (Text t) = from_factor (Text t) (λ _ d h rest a. primary_at d _ _ h (λ m. refl)) (λ d h rest a. primary_at d _ _ h (λ m. refl))
complete Null = from_factor Null (λ _ d h rest a. primary_at d _ _ h (λ m. refl)) (λ d h rest a. primary_at d _ _ h (λ m. refl))
complete (Column c) = from_factor (Column c) (λ _ d h rest a. column_primary c d h rest a) (λ d h rest a. column_factor c d h rest a)
complete (group a) = record {
  primary_read = λ f d h rest _. group_read a f (complete a) d h rest;
  factor_read = λ f d h rest _. group_read a f (complete a) d h rest;
  term_read = λ f d h rest _. term_of_factor (group a) d rest (group_read a f (complete a) d h rest);
  expression_read = λ f d h rest after. expression_of_term (group a) d rest after (term_of_factor (group a) d rest (group_read a f (complete a) d h rest));
}
complete (signed s a) = record {
  primary_read = λ f d h rest _. absurd f.0;
  factor_read = λ f d h rest after. signed_read s a f.1 (complete a) d h rest after;
  term_read = λ f d h rest after. term_of_factor (signed s a) d rest (signed_read s a f.1 (complete a) d h rest after);
  expression_read = λ f d h rest after. expression_of_term (signed s a) d rest after (term_of_factor (signed s a) d rest (signed_read s a f.1 (complete a) d h rest after.0));
}
complete (product a b) = record {
  primary_read = λ f d h rest _. absurd f.0;
  factor_read = λ f d h rest _. absurd f.0;
  term_read = λ f d h rest after. product_read a b f.1 f.2 (complete a) (complete b) d h rest after;
  expression_read = λ f d h rest after. expression_of_term (product a b) d rest after (product_read a b f.1 f.2 (complete a) (complete b) d h rest after.0);
}
complete (sum s a b) = record {
  primary_read = λ f d h rest _. absurd f.0;
  factor_read = λ f d h rest _. absurd f.0;
  term_read = λ f d h rest _. absurd f.0;
  expression_read = λ f d h rest after. sum_read s a b f.1 f.2 (complete a) (complete b) d h rest after;
}

-- an expression of the grammar that is not too deep is read whole, whatever follows that cannot go on with it
pub expression_whole : (e : Expression) → Formed expression e → (d : ℕ) → depth e ≤ d → (rest : List Word) → EndsExpression rest → read_expression d (spelling e ++ rest) ≡ Some (e, rest)
expression_whole e f d h rest after =
    let found = (complete e).expression_read f d h rest after.0 in
    found.2 ∙ stop_terms d (read_term d) found.0 e rest after
