-- What the reader finds of expressions, the grammar has.
use Rattle.std.specs.Prelude.{◌≡◌, ℕ, ◌≤◌, zero, suc, nat_le, Bool, true, false, if◌then◌else◌, Option, Some, None, List, [], ◌∷◌, ◌++◌, refl}
use Rattle.std.proofs.Common.{sym, ◌∙◌, ap, arith, append_assoc}
use Rattle.std.proofs.lemmas.Bool.{leb-true}
use Rattle.iv_lex.specs.declared.kind.TokenKind.{TokenKind}
use Rattle.iv_lex.specs.declared.kind.TokenKind.TheVariants as kind
use Rattle.iv_lex.specs.Words.{Word, name, number, quoted, plain}
use Rattle.iv_parse_terms.specs.Types.{Sign, Expression}
use Rattle.iv_parse_terms.specs.Types.expression.{Null}
use Rattle.iv_syntax.specs.Trees.{group, signed, product, sum, depth}
use Rattle.iv_parse_terms.specs.After.{same, after, after_name, then_read}
use Rattle.iv_parse_terms.specs.Expressions.{Rule, expression, term, factor, primary, sign_kind, spelling, Formed}
use Rattle.iv_parse_terms.specs.readers.Expressions.{FoundExpression, fits, after_sign, column_tree, column_from, simple, close_group, primary_by, factor_by, more_factors, term_by, more_terms, expression_by, expression_over, read_primary, read_factor, read_term, read_expression}
use Rattle.iv_parse_terms.proofs.Exact.{exact}
use Rattle.iv_parse_terms.proofs.Parts.{if_some_has, after_is, after_name_is, after_sign_is}

-- the front of the words is a tree that is formed by the rule
pub record Read (r : Rule) (d : ℕ) (ws : List Word) (e : Expression) (rest : List Word) : Type 0 where
  pub formed : Formed r e
  pub shallow : depth e ≤ d
  pub front : ws ≡ spelling e ++ rest

-- nothing is found, or what is found is of the grammar
abbrev pub Good : Rule → ℕ → List Word → FoundExpression → Type 0
Good r d ws None = Unit {0}
Good r d ws (Some p) = Read r d ws p.0 p.1

abbrev pub Sound : Rule → ℕ → (List Word → FoundExpression) → Type 0
Sound r d F = (ws : List Word) → Good r d ws (F ws)

pub then_good : (r s : Rule) (d c : ℕ) (ws js : List Word) (f : Expression → List Word → FoundExpression) (o : FoundExpression) → Good r d ws o
    → ((a : Expression) (rest : List Word) → Read r d ws a rest → Good s c js (f a rest)) → Good s c js (then_read o f)
then_good r s d c ws js f None h g = tt
then_good r s d c ws js f (Some p) h g = g p.0 p.1 h

pub test_good : (r : Rule) (d : ℕ) (ws : List Word) (e : Expression) (rest : List Word) (b : Bool) → (b ≡ true → Read r d ws e rest)
    → Good r d ws (if b then Some (e, rest) else None)
test_good r d ws e rest true h = h refl
test_good r d ws e rest false h = tt

pub fits_good : (r : Rule) (d : ℕ) (ws : List Word) (e : Expression) (rest : List Word) → Formed r e → ws ≡ spelling e ++ rest → Good r d ws (fits d e rest)
fits_good r d ws e rest f h = test_good r d ws e rest (nat_le (depth e) d) (λ t. record { formed = f; shallow = leb-true (depth e) d t; front = h })

pub qualified_good : (d : ℕ) (n : List ℕ) (ws rest : List Word) → ws ≡ plain kind.Period ∷ rest → (o : Option (List ℕ × List Word)) → after_name rest ≡ o
    → Good primary (suc d) (name n ∷ ws) (then_read o (λ m more. Some (column_tree (Some n) m, more)))
qualified_good d n ws rest h None e = tt
qualified_good d n ws rest h (Some p) e =
    record { formed = tt; shallow = omega arith; front = ap (λ l. name n ∷ l) (h ∙ ap (λ l. plain kind.Period ∷ l) (after_name_is rest p e)) }

pub column_good : (d : ℕ) (n : List ℕ) (ws : List Word) → Good primary (suc d) (name n ∷ ws) (column_from n ws)
column_good d n ws =
    if_some_has (Good primary (suc d) (name n ∷ ws)) (after kind.Period ws) _ _
    (λ rest e. qualified_good d n ws rest (after_is kind.Period ws rest e) (after_name rest) refl)
    (λ _. record { formed = tt; shallow = omega arith; front = refl })

pub null_good : (d : ℕ) (k : TokenKind) (ws : List Word) (b : Bool) → same k kind.Null ≡ b → Good primary (suc d) (plain k ∷ ws) (if b then Some (Null, ws) else None)
null_good d k ws true e = record { formed = tt; shallow = omega arith; front = ap (λ j. plain j ∷ ws) (exact k kind.Null e) }
null_good d k ws false e = tt

pub simple_good : (d : ℕ) (ws : List Word) → Good primary (suc d) ws (simple ws)
simple_good d [] = tt
simple_good d (number n ∷ ws) = record { formed = tt; shallow = omega arith; front = refl }
simple_good d (quoted t ∷ ws) = record { formed = tt; shallow = omega arith; front = refl }
simple_good d (name n ∷ ws) = column_good d n ws
simple_good d (plain k ∷ ws) = null_good d k ws (same k kind.Null) refl

pub closed_good : (d : ℕ) (all ws : List Word) (e : Expression) (rest : List Word) → all ≡ plain kind.LeftParenthesis ∷ ws → Read expression d ws e rest
    → Good primary (suc d) all (close_group (suc d) e rest)
closed_good d all ws e rest a h =
    if_some_has (Good primary (suc d) all) (after kind.RightParenthesis rest) (fits (suc d) (group e)) None
    (λ more t. fits_good primary (suc d) all (group e) more h.formed
    (a ∙ ap (λ l. plain kind.LeftParenthesis ∷ l)
    (h.front ∙ (ap (λ l. spelling e ++ l) (after_is kind.RightParenthesis rest more t) ∙ sym (append_assoc (spelling e) (plain kind.RightParenthesis ∷ []) more)))))
    (λ _. tt)

pub primary_by_sound : (d : ℕ) (inner : List Word → FoundExpression) → Sound expression d inner → Sound primary (suc d) (primary_by (suc d) inner)
primary_by_sound d inner h ws =
    if_some_has (Good primary (suc d) ws) (after kind.LeftParenthesis ws) _ (simple ws)
    (λ rest e. then_good expression primary d (suc d) rest ws (close_group (suc d)) (inner rest) (h rest)
    (λ a more r. closed_good d ws rest a more (after_is kind.LeftParenthesis ws rest e) r))
    (λ _. simple_good d ws)

-- what a narrower rule has, a wider one has
pub factor_primary : (e : Expression) → Formed primary e → Formed factor e
factor_primary (group a) h = h
factor_primary (signed s a) h = absurd h.0
factor_primary (product a b) h = absurd h.0
factor_primary (sum s a b) h = absurd h.0
factor_primary _ h = tt

pub term_factor : (e : Expression) → Formed factor e → Formed term e
term_factor (group a) h = h
term_factor (signed s a) h = (tt, h.1)
term_factor (product a b) h = absurd h.0
term_factor (sum s a b) h = absurd h.0
term_factor _ h = tt

pub expression_term : (e : Expression) → Formed term e → Formed expression e
expression_term (group a) h = h
expression_term (signed s a) h = (tt, h.1)
expression_term (product a b) h = (tt, h.1, h.2)
expression_term (sum s a b) h = absurd h.0
expression_term _ h = tt

pub widened : (r s : Rule) (d : ℕ) (ws : List Word) (o : FoundExpression) → ((e : Expression) → Formed r e → Formed s e) → Good r d ws o → Good s d ws o
widened r s d ws None f h = tt
widened r s d ws (Some p) f h = record { formed = f p.0 h.formed; shallow = h.shallow; front = h.front }

pub factor_by_sound : (d : ℕ) (P : List Word → FoundExpression) → Sound primary d P → Sound factor d (factor_by d P)
factor_by_sound d P h ws =
    if_some_has (Good factor d ws) (after_sign ws) _ (P ws)
    (λ p e. then_good primary factor d d p.1 ws (λ a. fits d (signed p.0 a)) (P p.1) (h p.1)
    (λ a rest r. fits_good factor d ws (signed p.0 a) rest (tt, r.formed) (after_sign_is ws p e ∙ ap (λ l. plain (sign_kind p.0) ∷ l) r.front)))
    (λ _. widened primary factor d ws (P ws) factor_primary (h ws))

-- the operands so far and one more make one tree of all the words
pub product_good : (d : ℕ) (all ws rest more : List Word) (a b : Expression) → Read term d all a ws → ws ≡ plain kind.Asterisk ∷ rest → Read factor d rest b more
    → Good term d all (fits d (product a b) more)
product_good d all ws rest more a b r e rb =
    fits_good term d all (product a b) more (tt, r.formed, rb.formed)
    (r.front ∙ (ap (λ l. spelling a ++ l) (e ∙ ap (λ l. plain kind.Asterisk ∷ l) rb.front) ∙ sym (append_assoc (spelling a) (plain kind.Asterisk ∷ spelling b) more)))

pub more_factors_good : (d : ℕ) (F : List Word → FoundExpression) → Sound factor d F → (n : ℕ) (all : List Word) (a : Expression) (ws : List Word)
    → Read term d all a ws → Good term d all (more_factors d F n a ws)
more_factors_good d F h zero all a ws r = if_some_has (Good term d all) (after kind.Asterisk ws) (λ rest. None) (Some (a, ws)) (λ rest e. tt) (λ _. r)
more_factors_good d F h (suc n) all a ws r =
    if_some_has (Good term d all) (after kind.Asterisk ws) _ (Some (a, ws))
    (λ rest e. then_good factor term d d rest all (λ b more. then_read (fits d (product a b) more) (more_factors d F n)) (F rest) (h rest)
    (λ b more rb. then_good term term d d all all (more_factors d F n) (fits d (product a b) more)
    (product_good d all ws rest more a b r (after_is kind.Asterisk ws rest e) rb)
    (λ c left rc. more_factors_good d F h n all c left rc)))
    (λ _. r)

pub term_by_sound : (d : ℕ) (F : List Word → FoundExpression) → Sound factor d F → Sound term d (term_by d F)
term_by_sound d F h ws = then_good factor term d d ws ws (more_factors d F d) (F ws) (h ws)
    (λ a rest r. more_factors_good d F h d ws a rest (record { formed = term_factor a r.formed; shallow = r.shallow; front = r.front }))

pub sum_good : (d : ℕ) (all ws more : List Word) (p : Sign × List Word) (a b : Expression) → Read expression d all a ws → ws ≡ plain (sign_kind p.0) ∷ p.1 → Read term d p.1 b more
    → Good expression d all (fits d (sum p.0 a b) more)
sum_good d all ws more p a b r e rb =
    fits_good expression d all (sum p.0 a b) more (tt, r.formed, rb.formed)
    (r.front ∙ (ap (λ l. spelling a ++ l) (e ∙ ap (λ l. plain (sign_kind p.0) ∷ l) rb.front) ∙ sym (append_assoc (spelling a) (plain (sign_kind p.0) ∷ spelling b) more)))

pub more_terms_good : (d : ℕ) (F : List Word → FoundExpression) → Sound term d F → (n : ℕ) (all : List Word) (a : Expression) (ws : List Word)
    → Read expression d all a ws → Good expression d all (more_terms d F n a ws)
more_terms_good d F h zero all a ws r = if_some_has (Good expression d all) (after_sign ws) (λ p. None) (Some (a, ws)) (λ p e. tt) (λ _. r)
more_terms_good d F h (suc n) all a ws r =
    if_some_has (Good expression d all) (after_sign ws) _ (Some (a, ws))
    (λ p e. then_good term expression d d p.1 all (λ b more. then_read (fits d (sum p.0 a b) more) (more_terms d F n)) (F p.1) (h p.1)
    (λ b more rb. then_good expression expression d d all all (more_terms d F n) (fits d (sum p.0 a b) more)
    (sum_good d all ws more p a b r (after_sign_is ws p e) rb)
    (λ c left rc. more_terms_good d F h n all c left rc)))
    (λ _. r)

pub expression_by_sound : (d : ℕ) (F : List Word → FoundExpression) → Sound term d F → Sound expression d (expression_by d F)
expression_by_sound d F h ws = then_good term expression d d ws ws (more_terms d F d) (F ws) (h ws)
    (λ a rest r. more_terms_good d F h d ws a rest (record { formed = expression_term a r.formed; shallow = r.shallow; front = r.front }))

pub primary_sound : (d : ℕ) → Sound primary d (read_primary d)
unfolding read_primary
primary_sound zero ws = tt
primary_sound (suc d) ws = primary_by_sound d (expression_over d (read_primary d))
    (expression_by_sound d (read_term d) (term_by_sound d (read_factor d) (factor_by_sound d (read_primary d) (primary_sound d)))) ws

pub factor_sound : (d : ℕ) → Sound factor d (read_factor d)
factor_sound d = factor_by_sound d (read_primary d) (primary_sound d)

pub term_sound : (d : ℕ) → Sound term d (read_term d)
term_sound d = term_by_sound d (read_factor d) (factor_sound d)

pub expression_sound : (d : ℕ) → Sound expression d (read_expression d)
expression_sound d = expression_by_sound d (read_term d) (term_sound d)
