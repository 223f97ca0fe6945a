-- Words at the front of characters, without places, and what joins them.
use Rattle.std.proofs.Common.{◌≡◌, ℕ, zero, suc, ◌+◌, ◌-◌, ◌≤◌, ◌<◌, false, Option, Some, None, unwrap_or, List, [], ◌∷◌, ◌++◌, length, drop, take, sym, ◌∙◌, ap, subst, arith, length-append, length-drop}
use Rattle.std.proofs.Math.Seq.{drop-append-add, drop-append_seam}
use Rattle.std.proofs.lemmas.List.{drop-append-le, take-append-le}
use Rattle.std.proofs.lemmas.Grind.{common_steps}
use Rattle.iv_lex.specs.declared.kind.TokenKind.{TokenKind}
use Rattle.iv_lex.specs.Tokens.{gap, token_at}
use Rattle.iv_lex.specs.Words.{Word, upper_case, single_quotes, word_by}
use Rattle.iv_lex.proofs.Longest.{good, not_empty, pair_same}
use Rattle.iv_lex.specs.Longest.{IsToken}
use Rattle.iv_template.proofs.Local.{apart_space, apart_mark, gap_inside, gap_up_to, token_inside}

-- the characters without the first and the last
abbrev pub inner : List ℕ → List ℕ
inner bs = take (length bs - 2) (drop 1 bs)

-- the word that characters are, which are a token of this kind
abbrev pub word_from : TokenKind → List ℕ → Word
word_from k bs = word_by k (Some (upper_case bs)) (Some (single_quotes (inner bs)))

-- what is left after white space and comments
abbrev pub past_gap : List ℕ → List ℕ
past_gap bs = drop (gap false bs) bs

-- The words at the front of characters, and what is left where no token begins.
pub data Lexes : List ℕ → List Word → Option (List ℕ) → Type 0 where
  ended : (bs : List ℕ) (ws : List Word) (s : Option (List ℕ)) → ws ≡ [] → s ≡ None → length bs ≤ gap false bs → Lexes bs ws s
  stopped : (bs : List ℕ) (ws : List Word) (s : Option (List ℕ)) → ws ≡ [] → s ≡ Some (past_gap bs) → gap false bs < length bs
      → token_at (past_gap bs) ≡ None → Lexes bs ws s
  more : (bs : List ℕ) (ws : List Word) (s : Option (List ℕ)) (t : TokenKind × ℕ) (vs : List Word) → ws ≡ word_from t.0 (take t.1 (past_gap bs)) ∷ vs
      → gap false bs < length bs → token_at (past_gap bs) ≡ Some t → Lexes (drop (gap false bs + t.1) bs) vs s → Lexes bs ws s

taken_some : (bs : List ℕ) (n : ℕ) (k : TokenKind) → IsToken (take n bs) k → 0 < n
taken_some bs zero k t = absurd (not_empty k t)
taken_some bs (suc n) k t = omega arith

pub token_some : (bs : List ℕ) (t : TokenKind × ℕ) → token_at bs ≡ Some t → 0 < t.1
token_some bs t e = taken_some bs t.1 t.0 (good bs t e).1

list_same : (a b : List ℕ) → ◌≡◌ {A = Option (List ℕ)} (Some a) (Some b) → a ≡ b
list_same a b h = ap (λ o. unwrap_or o a) h

-- what is left is a part of the characters
pub left_within : (bs r : List ℕ) (ws : List Word) (s : Option (List ℕ)) → Lexes bs ws s → s ≡ Some r → length r ≤ length bs
left_within bs r ws s (ended _ _ _ w e l) h = absurd (let f : None ≡ Some r = sym e ∙ h in cc)
left_within bs r ws s (stopped _ _ _ w e l t) h =
    let f : past_gap bs ≡ r = list_same (past_gap bs) r (sym e ∙ h) in
    omega (arith, ap length f, length-drop (gap false bs) bs)
left_within bs r ws s (more _ _ _ t vs w l e n) h =
    omega (arith, left_within (drop (gap false bs + t.1) bs) r vs s n h, length-drop (gap false bs + t.1) bs)

-- characters lex in one way
pub same_words : (bs : List ℕ) (ws vs : List Word) (s r : Option (List ℕ)) → Lexes bs ws s → Lexes bs vs r → (ws ≡ vs) × (s ≡ r)
same_words bs ws vs s r (ended _ _ _ w e l) (ended _ _ _ v f m) = (w ∙ sym v, e ∙ sym f)
same_words bs ws vs s r (ended _ _ _ w e l) (stopped _ _ _ v f m t) = absurd (omega (arith, l, m))
same_words bs ws vs s r (ended _ _ _ w e l) (more _ _ _ t us v m f n) = absurd (omega (arith, l, m))
same_words bs ws vs s r (stopped _ _ _ w e l t) (ended _ _ _ v f m) = absurd (omega (arith, l, m))
same_words bs ws vs s r (stopped _ _ _ w e l t) (stopped _ _ _ v f m u) = (w ∙ sym v, e ∙ sym f)
same_words bs ws vs s r (stopped _ _ _ w e l t) (more _ _ _ u us v m f n) = absurd (let h : None ≡ Some u = sym t ∙ f in cc)
same_words bs ws vs s r (more _ _ _ t us w l e n) (ended _ _ _ v f m) = absurd (omega (arith, l, m))
same_words bs ws vs s r (more _ _ _ t us w l e n) (stopped _ _ _ v f m u) = absurd (let h : None ≡ Some t = sym u ∙ e in cc)
same_words bs ws vs s r (more _ _ _ t us w l e n) (more _ _ _ u xs v m f o) =
    let h : t ≡ u = pair_same t u (sym e ∙ f) in
    let i = same_words (drop (gap false bs + t.1) bs) us xs s r n (subst (λ z. Lexes (drop (gap false bs + z) bs) xs r) (ap (λ z. z.1) (sym h)) o) in
    (w ∙ ap (λ z. word_from z.0 (take z.1 (past_gap bs)) ∷ us) h ∙ ap (λ z. word_from u.0 (take u.1 (past_gap bs)) ∷ z) i.0 ∙ sym v, i.1)

-- what stands before characters and is passed over
pub skipped : (ds bs : List ℕ) (ws : List Word) (s : Option (List ℕ)) → gap false (ds ++ bs) ≡ length ds + gap false bs → Lexes bs ws s → Lexes (ds ++ bs) ws s
skipped ds bs ws s g (ended _ _ _ w e l) = ended (ds ++ bs) ws s w e (omega (arith, g, l, length-append ds bs))
skipped ds bs ws s g (stopped _ _ _ w e l t) =
    let d : past_gap (ds ++ bs) ≡ past_gap bs = ap (λ n. drop n (ds ++ bs)) g ∙ drop-append-add ds bs (gap false bs) in
    stopped (ds ++ bs) ws s w (e ∙ ap Some (sym d)) (omega (arith, g, l, length-append ds bs)) (ap token_at d ∙ t)
skipped ds bs ws s g (more _ _ _ t vs w l e n) =
    let d : past_gap (ds ++ bs) ≡ past_gap bs = ap (λ n. drop n (ds ++ bs)) g ∙ drop-append-add ds bs (gap false bs) in
    let f : gap false (ds ++ bs) + t.1 ≡ length ds + (gap false bs + t.1) = omega (arith, g) in
    let h : drop (gap false (ds ++ bs) + t.1) (ds ++ bs) ≡ drop (gap false bs + t.1) bs = ap (λ n. drop n (ds ++ bs)) f ∙ drop-append-add ds bs (gap false bs + t.1) in
    more (ds ++ bs) ws s t vs (w ∙ ap (λ z. word_from t.0 (take t.1 z) ∷ vs) (sym d)) (omega (arith, g, l, length-append ds bs)) (ap token_at d ∙ e)
    (subst (λ z. Lexes z vs s) (sym h) n)

length_seam : (ds : List ℕ) (x : ℕ) (rest : List ℕ) → length (ds ++ x ∷ rest) ≡ length ds + suc (length rest)
length_seam ds x rest = length-append ds (x ∷ rest)

past_append : (n : ℕ) (ds cs : List ℕ) → n ≤ length ds → drop n (ds ++ cs) ≡ drop n ds ++ cs
past_append n ds cs h = drop-append-le n ds cs h

-- Where a question mark stands at which no token begins, a space and other characters may stand: the
-- words before it are the same.
pub joined : (bs : List ℕ) (ws : List Word) (s : Option (List ℕ)) → Lexes bs ws s → (ds rest other : List ℕ) (vs : List Word) (r : Option (List ℕ)) → bs ≡ ds ++ 63 ∷ rest
    → s ≡ Some (63 ∷ rest) → Lexes (32 ∷ other) vs r → Lexes (ds ++ 32 ∷ other) (ws ++ vs) r
joined bs ws s (ended _ _ _ w e l) ds rest other vs r b h j = absurd (let f : None ≡ Some (63 ∷ rest) = sym e ∙ h in cc)
joined bs ws s (stopped _ _ _ w e l t) ds rest other vs r b h j =
    let f : past_gap bs ≡ 63 ∷ rest = list_same (past_gap bs) (63 ∷ rest) (sym e ∙ h) in
    let n : gap false bs ≡ length ds = omega (arith, ap length f, length-drop (gap false bs) bs, ap length b, length_seam ds 63 rest, l) in
    let g : gap false (ds ++ 63 ∷ rest) ≡ length ds = ap (gap false) (sym b) ∙ n in
    subst (λ z. Lexes (ds ++ 32 ∷ other) (z ++ vs) r) (sym w) (skipped ds (32 ∷ other) vs r (gap_up_to false ds rest other g) j)
joined bs ws s (more _ _ _ t us w l e n) ds rest other vs r b h j =
    let g : ℕ = gap false bs in
    let p : 0 < t.1 = token_some (past_gap bs) t e in
    let q : length (63 ∷ rest) ≤ length (drop (g + t.1) bs) = left_within (drop (g + t.1) bs) (63 ∷ rest) us s n h in
    let i : g + t.1 ≤ length ds = omega (arith, p, q, length-drop (g + t.1) bs, ap length b, length_seam ds 63 rest) in
    let k : g < length ds = omega (arith, i, p) in
    let a : gap false (ds ++ 63 ∷ rest) ≡ g = ap (gap false) (sym b) in
    let c : gap false (ds ++ 32 ∷ other) ≡ g =
    gap_inside false ds 63 32 rest other apart_mark apart_space (subst (λ z. z < length ds) (sym a) k) ∙ a in
    let d : past_gap bs ≡ drop g ds ++ 63 ∷ rest = ap (drop g) b ∙ past_append g ds (63 ∷ rest) (omega (arith, k)) in
    let f : past_gap (ds ++ 32 ∷ other) ≡ drop g ds ++ 32 ∷ other = ap (λ z. drop z (ds ++ 32 ∷ other)) c ∙ past_append g ds (32 ∷ other) (omega (arith, k)) in
    let m : t.1 ≤ length (drop g ds) = omega (arith, i, length-drop g ds) in
    let u : token_at (past_gap (ds ++ 32 ∷ other)) ≡ Some t =
    ap token_at f ∙ token_inside (drop g ds) 63 32 rest other t apart_mark apart_space (omega (arith, m, p)) (ap token_at (sym d) ∙ e) m in
    let v : take t.1 (past_gap bs) ≡ take t.1 (past_gap (ds ++ 32 ∷ other)) =
    ap (take t.1) d ∙ take-append-le t.1 (drop g ds) (63 ∷ rest) m ∙ sym (take-append-le t.1 (drop g ds) (32 ∷ other) m) ∙ ap (take t.1) (sym f) in
    let x : drop (g + t.1) bs ≡ drop (g + t.1) ds ++ 63 ∷ rest = ap (drop (g + t.1)) b ∙ past_append (g + t.1) ds (63 ∷ rest) i in
    let y : drop (gap false (ds ++ 32 ∷ other) + t.1) (ds ++ 32 ∷ other) ≡ drop (g + t.1) ds ++ 32 ∷ other =
    ap (λ z. drop (z + t.1) (ds ++ 32 ∷ other)) c ∙ past_append (g + t.1) ds (32 ∷ other) i in
    more (ds ++ 32 ∷ other) (ws ++ vs) r t (us ++ vs)
    (ap (λ z. z ++ vs) w ∙ ap (λ z. word_from t.0 z ∷ (us ++ vs)) v)
    (omega (arith, c, k, length_seam ds 32 other)) u
    (subst (λ z. Lexes z (us ++ vs) r) (sym y) (joined (drop (g + t.1) bs) us s n (drop (g + t.1) ds) rest other vs r x h j))

-- a space before characters
pub after_space : (bs : List ℕ) (ws : List Word) (s : Option (List ℕ)) → Lexes bs ws s → Lexes (32 ∷ bs) ws s
after_space bs ws s h = skipped (32 ∷ []) bs ws s (omega arith) h

-- a token before a space
pub one_word : (ds other : List ℕ) (t : TokenKind × ℕ) (ws : List Word) (s : Option (List ℕ)) → gap false (ds ++ 32 ∷ other) ≡ 0 → token_at (ds ++ 32 ∷ other) ≡ Some t
    → t.1 ≡ length ds → Lexes (32 ∷ other) ws s → Lexes (ds ++ 32 ∷ other) (word_from t.0 ds ∷ ws) s
one_word ds other t ws s g e n h =
    let d : past_gap (ds ++ 32 ∷ other) ≡ ds ++ 32 ∷ other = ap (λ z. drop z (ds ++ 32 ∷ other)) g in
    let f : gap false (ds ++ 32 ∷ other) + t.1 ≡ length ds = omega (arith, g, n) in
    let i : take t.1 (past_gap (ds ++ 32 ∷ other)) ≡ ds = ap (λ z. take z (past_gap (ds ++ 32 ∷ other))) n ∙ ap (take (length ds)) d ∙ grind (arith, common_steps) in
    more (ds ++ 32 ∷ other) (word_from t.0 ds ∷ ws) s t ws (ap (λ z. word_from t.0 z ∷ ws) (sym i)) (omega (arith, g, length_seam ds 32 other)) (ap token_at d ∙ e)
    (subst (λ z. Lexes z ws s) (sym (ap (λ z. drop z (ds ++ 32 ∷ other)) f ∙ drop-append_seam ds (32 ∷ other))) h)
