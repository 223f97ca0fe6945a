-- Small laws of the front of words, of options and of what is read.
use Rattle.std.specs.Prelude.{◌≡◌, ℕ, Bool, true, false, if◌then◌else◌, Option, Some, None, List, [], ◌∷◌, refl}
use Rattle.std.proofs.Common.{◌∙◌, ap}
use Rattle.std.proofs.lemmas.Bool.{false≢true}
use Rattle.std.proofs.lemmas.Option.{none-some, same_Some}
use Rattle.iv_lex.specs.declared.kind.TokenKind.{TokenKind}
use Rattle.iv_lex.specs.declared.kind.TokenKind.TheVariants as kind
use Rattle.iv_lex.specs.Words.{Word, name, number, quoted, plain}
use Rattle.iv_parse_terms.specs.Types.{Sign}
use Rattle.iv_parse_terms.specs.Types.sign
use Rattle.iv_parse_terms.specs.After.{is_word, after, after_name, if_some}
use Rattle.iv_parse_terms.specs.Expressions.{sign_kind}
use Rattle.iv_parse_terms.specs.readers.Expressions.{after_sign}
use Rattle.iv_parse_terms.proofs.Exact.{exact}

-- a property of both outcomes
pub if_some_has : {A B : Type 0} (P : B → Type 0) (o : Option A) (f : A → B) (x : B) → ((a : A) → o ≡ Some a → P (f a)) → (o ≡ None → P x) → P (if_some o f x)
if_some_has P None f x g h = h refl
if_some_has P (Some a) f x g h = g a refl

pub front_by : (k : TokenKind) (w : Word) (ws rest : List Word) (b : Bool) → is_word k w ≡ b → (if b then Some ws else None) ≡ Some rest → w ∷ ws ≡ plain k ∷ rest
front_by k (name n) ws rest true e h = absurd (false≢true e)
front_by k (number n) ws rest true e h = absurd (false≢true e)
front_by k (quoted t) ws rest true e h = absurd (false≢true e)
front_by k (plain j) ws rest true e h = ap (λ i. plain i ∷ ws) (exact j k e) ∙ ap (λ l. plain k ∷ l) (same_Some ws rest h)
front_by k w ws rest false e h = absurd (none-some rest h)

-- the symbol is at the front
pub after_is : (k : TokenKind) (ws rest : List Word) → after k ws ≡ Some rest → ws ≡ plain k ∷ rest
after_is k [] rest h = absurd (none-some rest h)
after_is k (w ∷ ws) rest h = front_by k w ws rest (is_word k w) refl h

pub after_name_is : (ws : List Word) (p : List ℕ × List Word) → after_name ws ≡ Some p → ws ≡ name p.0 ∷ p.1
after_name_is (name n ∷ ws) p h = ap (λ (q : List ℕ × List Word). name q.0 ∷ q.1) (same_Some (n, ws) p h)
after_name_is [] p h = absurd (none-some p h)
after_name_is (number n ∷ ws) p h = absurd (none-some p h)
after_name_is (quoted t ∷ ws) p h = absurd (none-some p h)
after_name_is (plain k ∷ ws) p h = absurd (none-some p h)

pub sign_found : (s : Sign) (ws : List Word) → after_sign (plain (sign_kind s) ∷ ws) ≡ Some (s, ws)
sign_found sign.Plus ws = refl
sign_found sign.Minus ws = refl

pub after_sign_is : (ws : List Word) (p : Sign × List Word) → after_sign ws ≡ Some p → ws ≡ plain (sign_kind p.0) ∷ p.1
after_sign_is ws p =
    if_some_has (λ o. o ≡ Some p → ws ≡ plain (sign_kind p.0) ∷ p.1) (after kind.Plus ws) (λ rest. Some (sign.Plus, rest)) _
    (λ rest e h. after_is kind.Plus ws rest e ∙ ap (λ (q : Sign × List Word). plain (sign_kind q.0) ∷ q.1) (same_Some (sign.Plus, rest) p h))
    (λ _. if_some_has (λ o. o ≡ Some p → ws ≡ plain (sign_kind p.0) ∷ p.1) (after kind.Minus ws) (λ rest. Some (sign.Minus, rest)) None
    (λ rest e h. after_is kind.Minus ws rest e ∙ ap (λ (q : Sign × List Word). plain (sign_kind q.0) ∷ q.1) (same_Some (sign.Minus, rest) p h))
    (λ _ h. absurd (none-some p h)))
