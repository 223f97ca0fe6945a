-- What `replace` makes of a text, with two quotes in place of one.
use Rattle.std.proofs.Common.{◌≡◌, ℕ, zero, suc, ◌<◌, ◌≤◌, Bool, true, false, List, [], ◌∷◌, ◌++◌, length, drop, take, refl, sym, ◌∙◌, ap, subst, arith, nat_eq, inl, inr}
use Rattle.std.specs.Prelude.{if◌then◌else◌, flat_map}
use Rattle.std.specs.Str.Pattern.{LacksTextAt, FindsText}
use Rattle.std.specs.Str.Replace.{ReplacesMatches}
use Rattle.std.proofs.lemmas.Bool.{eqb-true}
use denote.Ref.{Bor}
use Rattle.iv_template.specs.Literals.{quote_doubled}

abbrev quote : List ℕ
quote = 39 ∷ []

-- a character that is no quote
one_more : (b : ℕ) (bs : List ℕ) (x : Bool) → nat_eq b 39 ≡ x → LacksTextAt quote (b ∷ bs) 0 → flat_map quote_doubled (b ∷ bs) ≡ b ∷ flat_map quote_doubled bs
one_more b bs true e h = absurd (h bs (ap (λ z. z ∷ bs) (eqb-true b 39 e)))
one_more b bs false e h = ap (λ x. (if x then 39 ∷ 39 ∷ [] else b ∷ []) ++ flat_map quote_doubled bs) e

unchanged : (s : List ℕ) → ((i : ℕ) → i ≤ length s → LacksTextAt quote s i) → flat_map quote_doubled s ≡ s
unchanged [] h = refl
unchanged (b ∷ bs) h = one_more b bs (nat_eq b 39) refl (h 0 (omega arith)) ∙ ap (λ z. b ∷ z) (unchanged bs (λ i l. h (suc i) (omega (arith, l))))

-- up to the first quote
up_to_first : (a : ℕ) (s rest : List ℕ) → ((i : ℕ) → i < a → LacksTextAt quote s i) → drop a s ≡ 39 ∷ rest
    → flat_map quote_doubled s ≡ take a s ++ 39 ∷ 39 ∷ flat_map quote_doubled rest
up_to_first zero s rest h e = ap (flat_map quote_doubled) e
up_to_first (suc a) [] rest h e = absurd (cc)
up_to_first (suc a) (b ∷ bs) rest h e =
    one_more b bs (nat_eq b 39) refl (h 0 (omega arith)) ∙ ap (λ z. b ∷ z) (up_to_first a bs rest (λ i l. h (suc i) (omega (arith, l))) e)

pub replaced : (n : ℕ) (p : Bor (List ℕ)) (s out : List ℕ) → p.now ≡ quote
    → ReplacesMatches (λ t. FindsText t.now) (λ t u. u.now ≡ t.now) (39 ∷ 39 ∷ []) n p s out → out ≡ flat_map quote_doubled s
replaced zero p s out q (f, e) =
    e ∙ sym (unchanged s (subst (λ t. (i : ℕ) → i ≤ length s → LacksTextAt t s i) q f))
replaced (suc n) p s out q (a, b, r, rest, (lacks, has), k, inl (l, on), e) =
    let f : drop a s ≡ 39 ∷ drop b s = has.split ∙ ap (λ t. t ++ drop b s) q in
    let g : flat_map quote_doubled s ≡ take a s ++ 39 ∷ 39 ∷ flat_map quote_doubled (drop b s) =
    up_to_first a s (drop b s) (λ i m. subst (λ t. LacksTextAt t s i) q (lacks i m)) f in
    e ∙ ap (λ z. take a s ++ 39 ∷ 39 ∷ z) (replaced n r (drop b s) rest (k ∙ q) on) ∙ sym g
replaced (suc n) p s out q (a, b, r, rest, (lacks, has), k, inr (same, on), e) =
    absurd (omega (arith, same, has.ends, ap length q))
