-- What the words of one token are, by its kind, where a reader asks for some kinds alone.
use Rattle.std.specs.Prelude.{◌≡◌, ◌≢◌, ℕ, ◌-◌, ◌≤◌, Option, Some, None, option_map, List, ◌∷◌, length, take, drop, slice_index_or, refl}
use Rattle.std.proofs.Common.{sym, ◌∙◌, ap}
use Rattle.std.proofs.lemmas.Option.{none-some}
use Rattle.iv_lex.specs.declared.kind.TokenKind.{TokenKind}
use Rattle.iv_lex.specs.declared.kind.TokenKind.TheVariants as kind
use Rattle.iv_lex.specs.Words.{Word, folded_text, unquoted_text, word_by, words}
use Rattle.iv_lex.specs.declared.token.Token.{Token}
use Rattle.iv_parse_terms.specs.Types.expression.{Text}
use Rattle.iv_parse_terms.specs.After.{after_name}
use Rattle.iv_parse_terms.specs.readers.Expressions.{simple, column_from}
use Rattle.iv_parse_terms.specs.readers.Conditions.{after_comparison}
use Rattle.iv_parse_terms.proofs.Fronts.{first_word}
use Rattle.iv_parse_terms.proofs.Parts.{after_name_is}

pub no_comparison : (k : TokenKind) (of_name of_text : Option (List ℕ)) (ws : List Word)
    → (k ≢ kind.Equals) → (k ≢ kind.NotEquals) → (k ≢ kind.Less) → (k ≢ kind.LessEquals) → (k ≢ kind.Greater) → (k ≢ kind.GreaterEquals)
    → None ≡ after_comparison (word_by k of_name of_text ∷ ws)
no_comparison kind.Equals of_name of_text ws a b c d e f = absurd (a refl)
no_comparison kind.NotEquals of_name of_text ws a b c d e f = absurd (b refl)
no_comparison kind.Less of_name of_text ws a b c d e f = absurd (c refl)
no_comparison kind.LessEquals of_name of_text ws a b c d e f = absurd (d refl)
no_comparison kind.Greater of_name of_text ws a b c d e f = absurd (e refl)
no_comparison kind.GreaterEquals of_name of_text ws a b c d e f = absurd (f refl)
no_comparison kind.Name (Some cs) of_text ws a b c d e f = refl
no_comparison kind.Name None of_text ws a b c d e f = refl
no_comparison kind.Quoted of_name (Some cs) ws a b c d e f = refl
no_comparison kind.Quoted of_name None ws a b c d e f = refl
no_comparison _ of_name of_text ws a b c d e f = refl

pub nothing_simple : (k : TokenKind) (of_name of_text : Option (List ℕ)) (ws : List Word)
    → (k ≢ kind.Name) → ((n : ℕ) → k ≢ kind.Number n) → (k ≢ kind.Quoted) → (k ≢ kind.Null) → None ≡ simple (word_by k of_name of_text ∷ ws)
nothing_simple kind.Name of_name of_text ws a b c d = absurd (a refl)
nothing_simple (kind.Number n) of_name of_text ws a b c d = absurd (b n refl)
nothing_simple kind.Quoted of_name of_text ws a b c d = absurd (c refl)
nothing_simple kind.Null of_name of_text ws a b c d = absurd (d refl)
nothing_simple _ of_name of_text ws a b c d = refl

-- what begins with this name
pub simple_name : (ws : List Word) (n : List ℕ) (rest : List Word) → after_name ws ≡ Some (n, rest) → column_from n rest ≡ simple ws
simple_name ws n rest h = sym (ap simple (after_name_is ws (n, rest) h))

name_missing : (of_name of_text : Option (List ℕ)) (ws : List Word) → after_name (word_by kind.Name of_name of_text ∷ ws) ≡ None → None ≡ simple (word_by kind.Name of_name of_text ∷ ws)
name_missing None of_text ws h = refl
name_missing (Some n) of_text ws h = absurd (none-some (n, ws) (sym h))

-- a name without characters
pub simple_nameless : (text : List ℕ) (d : Token) (all : List Token) → 1 ≤ length all → (slice_index_or all 0 d).kind ≡ kind.Name → None ≡ after_name (words text all)
    → None ≡ simple (words text all)
simple_nameless text d all l e h =
    let w = first_word text d all kind.Name l e in
    let of_name = folded_text text (slice_index_or all 0 d) in
    let of_text = unquoted_text text (slice_index_or all 0 d) in
    name_missing of_name of_text (words text (take (length all - 1) (drop 1 all))) (sym (h ∙ ap after_name w)) ∙ sym (ap simple w)

quoted_by : (of_name of_text : Option (List ℕ)) (ws : List Word) → option_map (λ t. (Text t, ws)) of_text ≡ simple (word_by kind.Quoted of_name of_text ∷ ws)
quoted_by of_name None ws = refl
quoted_by of_name (Some t) ws = refl

-- a text, where it has characters
pub simple_text : (text : List ℕ) (d : Token) (all : List Token) (found : Option (List ℕ)) → 1 ≤ length all → (slice_index_or all 0 d).kind ≡ kind.Quoted
    → found ≡ unquoted_text text (slice_index_or all 0 d)
    → option_map (λ t. (Text t, words text (take (length all - 1) (drop 1 all)))) found ≡ simple (words text all)
simple_text text d all found l e h =
    let ws = words text (take (length all - 1) (drop 1 all)) in
    ap (option_map (λ t. (Text t, ws))) h
    ∙ (quoted_by (folded_text text (slice_index_or all 0 d)) (unquoted_text text (slice_index_or all 0 d)) ws ∙ sym (ap simple (first_word text d all kind.Quoted l e)))
