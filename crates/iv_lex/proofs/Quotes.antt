-- A text with a quote in place of each two.
use Rattle.std.proofs.Common.{◌≡◌, ℕ, zero, suc, ◌<◌, ◌≤◌, Bool, true, false, ◌&&◌, List, [], ◌∷◌, ◌++◌, length, drop, take, refl, sym, ◌∙◌, ap, subst, arith, nat_eq, inl, inr, length-drop}
use Rattle.std.specs.Prelude.{if◌then◌else◌}
use Rattle.std.specs.Str.Pattern.{LacksTextAt, FindsText}
use Rattle.std.specs.Str.Replace.{ReplacesMatches}
use Rattle.std.proofs.lemmas.Bool.{and_parts, eqb-true}
use denote.Ref.{Bor}
use Rattle.iv_lex.specs.Words.{single_quotes}

abbrev quotes : List ℕ
quotes = 39 ∷ 39 ∷ []

-- where there are no two quotes nothing changes
one_more : (b c : ℕ) (bs : List ℕ) (x : Bool) → (nat_eq b 39 && nat_eq c 39) ≡ x → LacksTextAt quotes (b ∷ c ∷ bs) 0
    → single_quotes (b ∷ c ∷ bs) ≡ b ∷ single_quotes (c ∷ bs)
one_more b c bs true e h =
    let two = and_parts (nat_eq b 39) (nat_eq c 39) e in
    absurd (h bs (ap (λ z. z ∷ c ∷ bs) (eqb-true b 39 two.0) ∙ ap (λ z. 39 ∷ z ∷ bs) (eqb-true c 39 two.1)))
one_more b c bs false e h = ap (λ x. if x then 39 ∷ single_quotes bs else b ∷ single_quotes (c ∷ bs)) e

unchanged : (s : List ℕ) → ((i : ℕ) → i ≤ length s → LacksTextAt quotes s i) → single_quotes s ≡ s
unchanged [] h = refl
unchanged (b ∷ []) h = refl
unchanged (b ∷ c ∷ bs) h =
    one_more b c bs (nat_eq b 39 && nat_eq c 39) refl (h 0 (omega arith))
    ∙ ap (λ z. b ∷ z) (unchanged (c ∷ bs) (λ i l. h (suc i) (omega (arith, l))))

-- up to the first two quotes
up_to_first : (a : ℕ) (s rest : List ℕ) → ((i : ℕ) → i < a → LacksTextAt quotes s i) → drop a s ≡ 39 ∷ 39 ∷ rest
    → single_quotes s ≡ take a s ++ 39 ∷ single_quotes rest
up_to_first zero s rest h e = ap single_quotes e
up_to_first (suc a) [] rest h e = absurd (cc)
up_to_first (suc a) (b ∷ []) rest h e = absurd (omega (arith, ap length e, length-drop {A = ℕ} a []))
up_to_first (suc a) (b ∷ c ∷ bs) rest h e =
    one_more b c bs (nat_eq b 39 && nat_eq c 39) refl (h 0 (omega arith))
    ∙ ap (λ z. b ∷ z) (up_to_first a (c ∷ bs) rest (λ i l. h (suc i) (omega (arith, l))) e)

-- what `replace` makes of a text, with one quote in place of two
pub replaced : (n : ℕ) (p : Bor (List ℕ)) (s out : List ℕ) → p.now ≡ quotes
    → ReplacesMatches (λ t. FindsText t.now) (λ t u. u.now ≡ t.now) (39 ∷ []) n p s out → out ≡ single_quotes s
replaced zero p s out q (f, e) =
    e ∙ sym (unchanged s (subst (λ t. (i : ℕ) → i ≤ length s → LacksTextAt t s i) q f))
replaced (suc n) p s out q (a, b, r, rest, (lacks, has), k, inl (l, on), e) =
    let f : drop a s ≡ 39 ∷ 39 ∷ drop b s = has.split ∙ ap (λ t. t ++ drop b s) q in
    let g : single_quotes s ≡ take a s ++ 39 ∷ single_quotes (drop b s) =
    up_to_first a s (drop b s) (λ i m. subst (λ t. LacksTextAt t s i) q (lacks i m)) f in
    e ∙ ap (λ z. take a s ++ 39 ∷ z) (replaced n r (drop b s) rest (k ∙ q) on) ∙ sym g
replaced (suc n) p s out q (a, b, r, rest, (lacks, has), k, inr (same, on), e) =
    absurd (omega (arith, same, has.ends, ap length q))
