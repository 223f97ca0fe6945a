-- A template has one reading, and values add no name and no semicolon to it.
use Rattle.std.proofs.Common.{◌≡◌, ℕ, suc, Bool, true, false, Some, None, List, [], ◌∷◌, ◌++◌, length, refl, sym, ◌∙◌, ap, subst}
use Rattle.std.specs.Prelude.{map, filter, cond, pos, negsuc, nat_lt, if◌then◌else◌}
use Rattle.iv_value.specs.declared.value.Value.{Value}
use Rattle.iv_value.specs.declared.value.Value.TheVariants as value
use Rattle.iv_lex.specs.declared.kind.TokenKind.TheVariants as kind
use Rattle.iv_syntax.specs.declared.limits.TheConstants.{GREATEST_INTEGER}
use Rattle.iv_lex.specs.Words.{Word, number, plain}
use Rattle.iv_template.specs.Templates.{words_of, word, hole, IsTemplate, least, literal, filled}
use Rattle.iv_template.specs.Templates.IsTemplate.{ends, goes_on}
use Rattle.iv_template.specs.Laws.{OneReading, is_name, is_semicolon, KeepsTheTemplates}
use Rattle.iv_template.proofs.ByHoles.{some_same, same_rest}

pub one_reading : OneReading
one_reading text ps qs (ends _ _ e p) (ends _ _ f q) = p ∙ sym q
one_reading text ps qs (ends _ _ e p) (goes_on _ front rest _ others w f t q) = absurd (let h : None ≡ Some (length front) = sym e ∙ f in cc)
one_reading text ps qs (goes_on _ front rest _ others w f t q) (ends _ _ e p) = absurd (let h : None ≡ Some (length front) = sym e ∙ f in cc)
one_reading text ps qs (goes_on _ a b _ xs v e t p) (goes_on _ c d _ ys w f u q) =
    let n : length a ≡ length c = some_same (length a) (length c) (sym e ∙ f) in
    let r : b ≡ d = same_rest a b c d (sym v ∙ w) n in
    p ∙ ap (λ z. map word (words_of text) ++ hole ∷ z) (one_reading b xs ys t (subst (λ z. IsTemplate z ys) (sym r) u)) ∙ sym q

cond_append : (b : Bool) (w : Word) (xs ys zs : List Word) → xs ≡ ys ++ zs → cond b (w ∷ xs) xs ≡ cond b (w ∷ ys) ys ++ zs
cond_append true w xs ys zs e = ap (λ z. w ∷ z) e
cond_append false w xs ys zs e = e

filter_append : (test : Word → Bool) (xs ys : List Word) → filter test (xs ++ ys) ≡ filter test xs ++ filter test ys
filter_append test [] ys = refl
filter_append test (x ∷ xs) ys = cond_append (test x) x (filter test (xs ++ ys)) (filter test xs) (filter test ys) (filter_append test xs ys)

kept : (test : Word → Bool) → ((v : Value) → filter test (literal v) ≡ []) → KeepsTheTemplates test
kept test h [] vs = refl
kept test h (word w ∷ ps) vs = ap (λ z. cond (test w) (w ∷ z) z) (kept test h ps vs)
kept test h (hole ∷ ps) [] = kept test h ps []
kept test h (hole ∷ ps) (v ∷ vs) =
    filter_append test (literal v) (filled ps vs) ∙ ap (λ z. z ++ filter test (filled ps vs)) (h v) ∙ kept test h ps vs

negative : (test : Word → Bool) (n : ℕ) (x : Bool) → filter test (plain kind.LeftParenthesis ∷ plain kind.Minus ∷ number n ∷ plain kind.RightParenthesis ∷ []) ≡ [] → filter test least ≡ []
    → filter test (if x then plain kind.LeftParenthesis ∷ plain kind.Minus ∷ number n ∷ plain kind.RightParenthesis ∷ [] else least) ≡ []
negative test n true h l = h
negative test n false h l = l

no_name : (v : Value) → filter is_name (literal v) ≡ []
no_name value.Null = refl
no_name (value.Int (pos n)) = refl
no_name (value.Int (negsuc n)) = negative is_name (suc n) (nat_lt n GREATEST_INTEGER) refl refl
no_name (value.Text t) = refl

no_semicolon : (v : Value) → filter is_semicolon (literal v) ≡ []
no_semicolon value.Null = refl
no_semicolon (value.Int (pos n)) = refl
no_semicolon (value.Int (negsuc n)) = negative is_semicolon (suc n) (nat_lt n GREATEST_INTEGER) refl refl
no_semicolon (value.Text t) = refl

pub names_kept : KeepsTheTemplates is_name
names_kept = kept is_name no_name

pub semicolons_kept : KeepsTheTemplates is_semicolon
semicolons_kept = kept is_semicolon no_semicolon
