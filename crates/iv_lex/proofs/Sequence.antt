-- The tokens that are found are those of the text, and there are no others.
use Rattle.std.proofs.Common.{◌≡◌, ℕ, zero, suc, ◌+◌, ◌-◌, ◌≤◌, ◌<◌, Bool, true, false, Option, Some, None, List, [], ◌∷◌, length, drop, take, refl, sym, ◌∙◌, ap, subst, arith, nat_le}
use Rattle.std.specs.Prelude.{if◌then◌else◌}
use Rattle.std.proofs.lemmas.Grind.{common_steps}
use Rattle.std.proofs.lemmas.Bool.{leb-true, leb-false}
use Rattle.iv_lex.specs.declared.kind.TokenKind.{TokenKind}
use Rattle.iv_lex.specs.declared.token.Token.{Token}
use Rattle.iv_lex.specs.declared.lexer.Lexed.{Lexed}
use Rattle.iv_lex.specs.Words.{slice}
use Rattle.iv_lex.specs.Tokens.{gap, token_at, tokens_from, tokens_of, Front, no_tokens, with_token, token_then}
use Rattle.iv_lex.specs.Longest.{IsLongestRun, IsToken}
use Rattle.iv_lex.specs.IsTokens.{AfterGap, IsGap, IsTokenOf, BeginsNoToken, IsTokensFrom, FindsTokens, FindsAllTokens}
use Rattle.iv_lex.proofs.Scanning.{no_more, no_token, one_token}
use Rattle.iv_lex.proofs.Longest.{good, bad, not_empty, same_longest}
use Rattle.iv_lex.proofs.Front.{token_within, token_kind}
use Rattle.iv_lex.proofs.Gaps.{gap_found, gap_within, gap_only}

pub dropped : (a b : ℕ) (text : List ℕ) → drop b (drop a text) ≡ drop (a + b) text
dropped a b text = grind (arith, common_steps)

left : (a : ℕ) (text : List ℕ) → a ≤ length text → length (drop a text) + a ≡ length text
left a text h = grind (arith, common_steps)

-- the gap from a place on
abbrev gap_at : List ℕ → ℕ → ℕ
gap_at text at = gap false (drop at text)

gap_here : (text : List ℕ) (at : ℕ) → at ≤ length text → IsGap text at (at + gap_at text at)
gap_here text at h = record {
  rising = omega arith;
  within = omega (arith, gap_within (drop at text) false, left at text h);
  gap = subst (λ z. AfterGap (drop at text) z) (dropped at (gap_at text at) text) (gap_found (drop at text));
}

-- a gap is as long as it can be
gap_is : (text : List ℕ) (at end : ℕ) → IsGap text at end → end ≡ at + gap_at text at
gap_is text at end g =
    let e : drop end text ≡ drop (at + gap_at text at) text = gap_only (drop at text) (drop end text) g.gap ∙ dropped at (gap_at text at) text in
    let n : at ≤ length text = omega (arith, g.rising, g.within) in
    let m : at + gap_at text at ≤ length text = omega (arith, gap_within (drop at text) false, left at text n) in
    omega (arith, ap length e, left end text g.within, left (at + gap_at text at) text m)

taken : (n : ℕ) (bs : List ℕ) → n ≤ length bs → length (take n bs) ≡ n
taken n bs h = grind (arith, common_steps)

-- a token is found at its place
token_there : (bs front : List ℕ) (k : TokenKind) (o : Front) → token_at bs ≡ o → IsLongestRun bs front → IsToken front k → o ≡ Some (k, length front)
token_there bs front k None e l t = absurd (bad bs front k e l t)
token_there bs front k (Some p) e l t =
    let g = good bs p e in
    let f : take p.1 bs ≡ front = same_longest bs (take p.1 bs) front g.0 l in
    let n : p.1 ≡ length front = sym (taken p.1 bs (token_within bs p e)) ∙ ap length f in
    let j : p.0 ≡ k = token_kind front p.0 k (subst (λ z. IsToken z p.0) f g.1) t in
    ap (λ i. Some (i, p.1)) j ∙ ap (λ m. Some (k, m)) n

-- nothing is found where no token begins
none_there : (bs : List ℕ) (o : Front) → token_at bs ≡ o → BeginsNoToken bs → o ≡ None
none_there bs None e h = refl
none_there bs (Some p) e h = let g = good bs p e in absurd (h (take p.1 bs) p.0 g.0 g.1)

not_empty_taken : (bs : List ℕ) (n : ℕ) (k : TokenKind) → IsToken (take n bs) k → 0 < n
not_empty_taken bs zero k t = absurd (not_empty k t)
not_empty_taken bs (suc n) k t = omega arith

-- the token that is found is in the text
token_found : (text : List ℕ) (at : ℕ) (p : TokenKind × ℕ) → at ≤ length text → token_at (drop at text) ≡ Some p
    → IsTokenOf text (record { kind = p.0; start = at; end = at + p.1 })
token_found text at p h e =
    let g = good (drop at text) p e in
    let n : p.1 ≡ at + p.1 - at = omega arith in
    record {
      within = omega (arith, left at text h, token_within (drop at text) p e);
      longest = subst (λ m. IsLongestRun (drop at text) (take m (drop at text))) n g.0;
      token = subst (λ m. IsToken (take m (drop at text)) p.0) n g.1;
    }

-- the tokens from a place on, where a gap ends
abbrev Found : List ℕ → ℕ → Lexed → Type 0
Found text at l = IsTokensFrom text at l.tokens l.fault

found_after : (text : List ℕ) (at g : ℕ) (o : Front) (next : ℕ → Lexed) → at ≤ length text → g ≡ gap_at text at → g < length (drop at text)
    → token_at (drop (at + g) text) ≡ o → ((p : TokenKind × ℕ) → o ≡ Some p → Found text (at + g + p.1) (next p.1)) → Found text at (token_then (at + g) o next)
found_after text at g None next h e l t f = (
  subst (λ n. IsGap text at (at + n)) (sym e) (gap_here text at h),
  omega (arith, left at text h),
  λ front k r s. bad (drop (at + g) text) front k t r s,
)
found_after text at g (Some p) next h e l t f = (
  subst (λ n. IsGap text at (at + n)) (sym e) (gap_here text at h),
  token_found text (at + g) p (omega (arith, left at text h)) t,
  f p refl,
)

-- only a gap is left
all_gap : (text : List ℕ) (at : ℕ) → at ≤ length text → length (drop at text) ≤ gap_at text at → IsGap text at (length text)
all_gap text at h l =
    subst (λ n. IsGap text at n) (omega (arith, l, left at text h, gap_within (drop at text) false)) (gap_here text at h)

found_by : (n at g : ℕ) (text : List ℕ) (x : Bool) → at ≤ length text → g ≡ gap_at text at → nat_le (length (drop at text)) g ≡ x
    → ((p : TokenKind × ℕ) → token_at (drop g (drop at text)) ≡ Some p → Found text (at + g + p.1) (tokens_from n (at + g + p.1) (drop (g + p.1) (drop at text))))
    → Found text at (if x then no_tokens None else token_then (at + g) (token_at (drop g (drop at text))) (λ m. tokens_from n (at + g + m) (drop (g + m) (drop at text))))
found_by n at g text true h e l f = all_gap text at h (omega (arith, e, leb-true _ _ l))
found_by n at g text false h e l f =
    found_after text at g (token_at (drop g (drop at text))) (λ m. tokens_from n (at + g + m) (drop (g + m) (drop at text))) h e (leb-false _ _ l) (ap token_at (sym (dropped at g text))) f

onward : (at g m : ℕ) (text : List ℕ) → drop (g + m) (drop at text) ≡ drop (at + g + m) text
onward at g m text = dropped at (g + m) text ∙ ap (λ k. drop k text) (omega arith)

found_from : (n at : ℕ) (text : List ℕ) → at ≤ length text → length (drop at text) ≤ n → Found text at (tokens_from n at (drop at text))
unfolding tokens_from
found_from zero at text h l = all_gap text at h (omega (arith, l))
found_from (suc n) at text h l =
    let g : ℕ = gap_at text at in
    found_by n at g text (nat_le (length (drop at text)) g) h refl refl
    (λ p e. let b : length (drop g (drop at text)) + (at + g) ≡ length text =
    omega (arith, left at text h, left g (drop at text) (gap_within (drop at text) false)) in
    let w : p.1 ≤ length (drop g (drop at text)) = token_within (drop g (drop at text)) p e in
    let r : 0 < p.1 = not_empty_taken (drop g (drop at text)) p.1 p.0 (good (drop g (drop at text)) p e).1 in
    let i : at + g + p.1 ≤ length text = omega arith in
    subst (λ z. Found text (at + g + p.1) (tokens_from n (at + g + p.1) z)) (sym (onward at g p.1 text))
    (found_from n (at + g + p.1) text i (omega (arith, left (at + g + p.1) text i, left at text h))))

pub tokens_found : FindsTokens
tokens_found text = found_from (length text) 0 text (omega arith) (omega arith)

-- the tokens from a place on are those that are found
abbrev lexed : List Token → Option ℕ → Lexed
lexed ts f = record { tokens = ts; fault = f }

same_step : (n at g m : ℕ) (text : List ℕ) (t : Token) → at + g ≡ t.start → at + g + m ≡ t.end
    → with_token (record { kind = t.kind; start = at + g; end = at + g + m }) (tokens_from n (at + g + m) (drop (g + m) (drop at text)))
    ≡ with_token t (tokens_from n t.end (drop t.end text))
same_step n at g m text t e f =
    ap (λ z. with_token (record { kind = t.kind; start = at + g; end = at + g + m }) (tokens_from n (at + g + m) z)) (onward at g m text)
    ∙ ap (λ a. with_token (record { kind = t.kind; start = a; end = at + g + m }) (tokens_from n (at + g + m) (drop (at + g + m) text))) e
    ∙ ap (λ b. with_token (record { kind = t.kind; start = t.start; end = b }) (tokens_from n b (drop b text))) f

only : (ts : List Token) (n at : ℕ) (text : List ℕ) (f : Option ℕ) → at ≤ length text → length (drop at text) ≤ n → IsTokensFrom text at ts f → lexed ts f ≡ tokens_from n at (drop at text)
only [] n at text None h l g =
    sym (no_more n at (drop at text) (omega (arith, gap_is text at (length text) g, left at text h)))
only [] n at text (Some f) h l (g, w, b) =
    let e : f ≡ at + gap_at text at = gap_is text at f g in
    let t : token_at (drop (gap_at text at) (drop at text)) ≡ None =
    ap token_at (dropped at (gap_at text at) text ∙ ap (λ k. drop k text) (sym e)) ∙ none_there (drop f text) (token_at (drop f text)) refl b in
    let s : gap_at text at < length (drop at text) = omega (arith, e, w, left at text h) in
    ap (λ k. no_tokens (Some k)) e ∙ sym (no_token n at (drop at text) (omega (arith, l, s)) s t)
only (t ∷ ts) n at text f h l (g, s, r) =
    let d : ℕ = gap_at text at in
    let m : ℕ = length (slice text t.start t.end) in
    let e : t.start ≡ at + d = gap_is text at t.start g in
    let o : token_at (drop t.start text) ≡ Some (t.kind, m) =
    token_there (drop t.start text) (slice text t.start t.end) t.kind (token_at (drop t.start text)) refl s.longest s.token in
    let p : token_at (drop d (drop at text)) ≡ Some (t.kind, m) = ap token_at (dropped at d text ∙ ap (λ k. drop k text) (sym e)) ∙ o in
    let j : 0 < t.end - t.start = not_empty_taken (drop t.start text) (t.end - t.start) t.kind s.token in
    let k : m ≡ t.end - t.start = taken (t.end - t.start) (drop t.start text) (omega (arith, s.within, g.within, left t.start text g.within)) in
    let b : d < length (drop at text) = omega (arith, e, j, s.within, left at text h) in
    let q : lexed ts f ≡ tokens_from (n - 1) t.end (drop t.end text) =
    only ts (n - 1) t.end text f s.within (omega (arith, e, j, l, left at text h, left t.end text s.within)) r in
    ap (with_token t) q ∙ sym (same_step (n - 1) at d m text t (sym e) (omega (arith, e, k, j))) ∙ sym (one_token n at (drop at text) t.kind m (omega (arith, l, b)) b p)

pub no_other_tokens : FindsAllTokens
no_other_tokens text ts f h =
    let e : lexed ts f ≡ tokens_of text = only ts (length text) 0 text f (omega arith) (omega arith) h in
    (ap (λ x. x.tokens) e, ap (λ x. x.fault) e)
