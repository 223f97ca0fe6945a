-- The front of tokens and the front of their words.
use Rattle.std.specs.Prelude.{◌≡◌, ℕ, ◌-◌, ◌≤◌, Bool, true, false, not, if◌then◌else◌, Option, Some, None, option_map, List, [], ◌∷◌, length, take, drop, slice_index_or, refl}
use Rattle.std.proofs.Common.{sym, ◌∙◌, ap, arith}
use Rattle.std.proofs.lemmas.Bool.{false≢true}
use Rattle.std.proofs.lemmas.List.{take_all}
use Rattle.iv_lex.specs.declared.kind.TokenKind.{TokenKind}
use Rattle.iv_lex.specs.declared.kind.TokenKind.TheVariants as kind
use Rattle.iv_lex.specs.declared.token.Token.{Token}
use Rattle.iv_lex.specs.Words.{Word, folded_text, unquoted_text, word_by, words}
use Rattle.iv_parse_terms.specs.After.{same, is_plain, is_word, after, after_name}
use Rattle.iv_parse_terms.proofs.Exact.{exact}

not_true : (b : Bool) → not b ≡ true → b ≡ false
not_true false h = refl
not_true true h = absurd (false≢true h)

not_false : (b : Bool) → not b ≡ false → b ≡ true
not_false true h = refl
not_false false h = absurd (false≢true (sym h))

pub not_name : (k : TokenKind) → is_plain k ≡ true → false ≡ same kind.Name k
not_name kind.Name h = absurd (false≢true h)
not_name _ h = refl

pub not_quoted : (k : TokenKind) → is_plain k ≡ true → false ≡ same kind.Quoted k
not_quoted kind.Quoted h = absurd (false≢true h)
not_quoted _ h = refl

pub not_number : (n : ℕ) (k : TokenKind) → is_plain k ≡ true → false ≡ same (kind.Number n) k
not_number n (kind.Number m) h = absurd (false≢true h)
not_number n _ h = refl

-- a token's word is this symbol where its kind is
pub word_is : (k j : TokenKind) (of_name of_text : Option (List ℕ)) → is_plain k ≡ true → is_word k (word_by j of_name of_text) ≡ same j k
word_is k kind.Name (Some cs) of_text h = not_name k h
word_is k kind.Name None of_text h = refl
word_is k kind.Quoted of_name (Some cs) h = not_quoted k h
word_is k kind.Quoted of_name None h = refl
word_is k (kind.Number n) of_name of_text h = not_number n k h
word_is k _ of_name of_text h = refl

pub word_tested : (text : List ℕ) (k : TokenKind) (t : Token) (ts : List Token) → is_plain k ≡ true
    → after k (words text (t ∷ ts)) ≡ (if same t.kind k then Some (words text ts) else None)
word_tested text k t ts h = ap (λ b. if b then Some (words text ts) else None) (word_is k t.kind (folded_text text t) (unquoted_text text t) h)

pub front_same : (k : TokenKind) (t : Token) (ts all : List Token) (b : Bool) → is_plain k ≡ true → all ≡ t ∷ ts → b ≡ same t.kind k → b ≡ true
    → (text : List ℕ) → Some (words text ts) ≡ after k (words text all)
front_same k t ts all b h e s r text =
    sym (ap (λ l. after k (words text l)) e ∙ (word_tested text k t ts h ∙ ap (λ q. if q then Some (words text ts) else None) (sym s ∙ r)))

pub front_other : (k : TokenKind) (t : Token) (ts all : List Token) (b : Bool) → is_plain k ≡ true → all ≡ t ∷ ts → b ≡ same t.kind k → b ≡ false
    → (text : List ℕ) → None ≡ after k (words text all)
front_other k t ts all b h e s r text =
    sym (ap (λ l. after k (words text l)) e ∙ (word_tested text k t ts h ∙ ap (λ q. if q then Some (words text ts) else None) (sym s ∙ r)))

pub front_none : (k : TokenKind) (all : List Token) → length all ≡ 0 → (text : List ℕ) → None ≡ after k (words text all)
front_none k [] h text = refl
front_none k (t ∷ ts) h text = absurd (omega arith)

-- a token that is no name is no name's word
name_absent : (k : TokenKind) (of_name of_text : Option (List ℕ)) (ws : List Word) → same k kind.Name ≡ false → None ≡ after_name (word_by k of_name of_text ∷ ws)
name_absent kind.Name of_name of_text ws h = absurd (false≢true (sym h))
name_absent kind.Quoted of_name (Some cs) ws h = refl
name_absent kind.Quoted of_name None ws h = refl
name_absent _ of_name of_text ws h = refl

pub no_name : (text : List ℕ) (d : Token) (all : List Token) (b : Bool) → 1 ≤ length all → b ≡ not (same (slice_index_or all 0 d).kind kind.Name) → b ≡ true
    → None ≡ after_name (words text all)
no_name text d [] b l e h = absurd (omega arith)
no_name text d (t ∷ ts) b l e h = name_absent t.kind (folded_text text t) (unquoted_text text t) (words text ts) (not_true _ (sym e ∙ h))

-- a token that is a name, by its characters
name_by : (k : TokenKind) (of_name of_text : Option (List ℕ)) (ws : List Word) → k ≡ kind.Name → after_name (word_by k of_name of_text ∷ ws) ≡ option_map (λ n. (n, ws)) of_name
name_by k None of_text ws h = rw (h) refl
name_by k (Some cs) of_text ws h = rw (h) refl

pub a_name : (text : List ℕ) (d : Token) (all : List Token) (b : Bool) (found : Option (List ℕ)) → 1 ≤ length all → b ≡ not (same (slice_index_or all 0 d).kind kind.Name) → b ≡ false
    → found ≡ folded_text text (slice_index_or all 0 d)
    → option_map (λ n. (n, words text (take (length all - 1) (drop 1 all)))) found ≡ after_name (words text all)
a_name text d [] b found l e h f = absurd (omega arith)
a_name text d (t ∷ ts) b found l e h f =
    let n : length (t ∷ ts) - 1 ≡ length ts = omega arith in
    rw (n, take_all (length ts) ts (omega arith), f) (sym (name_by t.kind (folded_text text t) (unquoted_text text t) (words text ts) (exact t.kind kind.Name (not_false _ (sym e ∙ h)))))

-- the words of tokens of which the first has this kind
pub first_word : (text : List ℕ) (d : Token) (all : List Token) (k : TokenKind) → 1 ≤ length all → (slice_index_or all 0 d).kind ≡ k
    → words text all ≡ word_by k (folded_text text (slice_index_or all 0 d)) (unquoted_text text (slice_index_or all 0 d)) ∷ words text (take (length all - 1) (drop 1 all))
first_word text d [] k l e = absurd (omega arith)
first_word text d (t ∷ ts) k l e =
    let n : length (t ∷ ts) - 1 ≡ length ts = omega arith in
    rw (n, take_all (length ts) ts (omega arith)) (ap (λ j. word_by j (folded_text text t) (unquoted_text text t) ∷ words text ts) e)
