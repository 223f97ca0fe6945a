-- One step of each reader, as the code takes it.
use Rattle.std.proofs.Common.{◌≡◌, ◌≢◌, ℕ, ◌-◌, Bool, true, false, if◌then◌else◌, List, [], ◌∷◌, Some, None, refl, sym, ap, arith}
use Rattle.std.specs.Prelude.{zero, suc}
use Rattle.iv_lex.specs.declared.kind.TokenKind.TheVariants as kind
use Rattle.iv_lex.specs.Words.{Word, name, number, quoted, plain}
use Rattle.iv_parse_terms.specs.Types.{Sign, Expression}
use Rattle.iv_parse_terms.specs.Types.expression.{Number, Text, Null}
use Rattle.iv_syntax.specs.Trees.{product, sum}
use Rattle.iv_parse_terms.specs.After.{after, after_number, after_quoted, same, if_some, then_read}
use Rattle.iv_parse_terms.specs.readers.Expressions.{FoundExpression, fits, after_sign, null_or_column, simple, close_group, more_factors, more_terms, read_primary, read_expression}

pub primary_zero : (d : ℕ) (ws : List Word) → d ≡ 0 → read_primary d ws ≡ None
unfolding read_primary
primary_zero zero ws h = refl
primary_zero (suc d) ws h = absurd (omega (arith, h))

abbrev pub opened : ℕ → List Word → FoundExpression
opened d ws = then_read (read_expression (d - 1) ws) (close_group d)

pub primary_step : (d : ℕ) (ws : List Word) → d ≢ 0 → read_primary d ws ≡ if_some (after kind.LeftParenthesis ws) (opened d) (simple ws)
unfolding read_primary
primary_step zero ws n = absurd (n refl)
primary_step (suc d) ws n =
    let e : suc d - 1 ≡ d = omega arith in
    ap (λ m. if_some (after kind.LeftParenthesis ws) (λ rest. then_read (read_expression m rest) (close_group (suc d))) (simple ws)) (sym e)

-- a further factor, and a further term
abbrev pub factor_more : ℕ → (List Word → FoundExpression) → ℕ → Expression → List Word → FoundExpression
factor_more d F n a ws = then_read (F ws) (λ b more. then_read (fits d (product a b) more) (more_factors d F (n - 1)))

abbrev pub term_more : ℕ → (List Word → FoundExpression) → ℕ → Expression → Sign → List Word → FoundExpression
term_more d F n a s ws = then_read (F ws) (λ b more. then_read (fits d (sum s a b) more) (more_terms d F (n - 1)))

pub factors_step : (d : ℕ) (F : List Word → FoundExpression) (n : ℕ) (a : Expression) (ws : List Word) → n ≢ 0
    → more_factors d F n a ws ≡ if_some (after kind.Asterisk ws) (factor_more d F n a) (Some (a, ws))
factors_step d F zero a ws n = absurd (n refl)
factors_step d F (suc m) a ws n =
    let e : suc m - 1 ≡ m = omega arith in
    ap (λ q. if_some (after kind.Asterisk ws) (λ rest. then_read (F rest) (λ b more. then_read (fits d (product a b) more) (more_factors d F q))) (Some (a, ws))) (sym e)

pub terms_step : (d : ℕ) (F : List Word → FoundExpression) (n : ℕ) (a : Expression) (ws : List Word) → n ≢ 0
    → more_terms d F n a ws ≡ if_some (after_sign ws) (λ p. term_more d F n a p.0 p.1) (Some (a, ws))
terms_step d F zero a ws n = absurd (n refl)
terms_step d F (suc m) a ws n =
    let e : suc m - 1 ≡ m = omega arith in
    ap (λ q. if_some (after_sign ws) (λ (p : Sign × List Word). then_read (F p.1) (λ b more. then_read (fits d (sum p.0 a b) more) (more_terms d F q))) (Some (a, ws))) (sym e)

-- where one operand too many comes
pub factors_full : (d : ℕ) (F : List Word → FoundExpression) (n : ℕ) (a : Expression) (ws : List Word) → n ≡ 0 → more_factors d F n a ws ≡ if_some (after kind.Asterisk ws) (λ rest. None) (Some (a, ws))
factors_full d F zero a ws e = refl
factors_full d F (suc m) a ws e = absurd (omega (arith, e))

pub terms_full : (d : ℕ) (F : List Word → FoundExpression) (n : ℕ) (a : Expression) (ws : List Word) → n ≡ 0 → more_terms d F n a ws ≡ if_some (after_sign ws) (λ q. None) (Some (a, ws))
terms_full d F zero a ws e = refl
terms_full d F (suc m) a ws e = absurd (omega (arith, e))

abbrev null_then : List Word → FoundExpression
null_then ws = Some (Null, ws)

by_null : (b : Bool) (ws : List Word) → (if b then null_then ws else None) ≡ if_some (if b then Some ws else None) null_then None
by_null true ws = refl
by_null false ws = refl

-- a number, a text, or what begins otherwise
pub simple_is : (ws : List Word) → simple ws
    ≡ if_some (after_number ws) (λ p. Some (Number p.0, p.1)) (if_some (after_quoted ws) (λ p. Some (Text p.0, p.1)) (null_or_column ws))
simple_is [] = refl
simple_is (name n ∷ ws) = refl
simple_is (number n ∷ ws) = refl
simple_is (quoted t ∷ ws) = refl
simple_is (plain k ∷ ws) = by_null (same k kind.Null) ws
