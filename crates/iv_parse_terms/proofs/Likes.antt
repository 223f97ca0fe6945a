-- Words that are the same up to the furthest one, and with it, are read alike.
use Rattle.std.specs.Prelude.{◌≡◌, ℕ, zero, suc, ◌+◌, ◌<◌, ◌≤◌, max, Bool, true, false, if◌then◌else◌, Option, Some, None, IfSome, is_some, option_map, option_and_then, Result, Ok, Err, List, [], ◌∷◌, length, take, drop, slice_get, refl}
use Rattle.std.proofs.Common.{sym, ◌∙◌, ap, subst, arith}
use Rattle.std.proofs.lemmas.Bool.{false≢true}
use Rattle.std.specs.Result.{IsErr}
use Rattle.iv_lex.specs.declared.kind.TokenKind.{TokenKind}
use Rattle.iv_lex.specs.Words.{Word, name, number, quoted, plain}
use Rattle.iv_parse_terms.specs.After.{after, after_name, after_number, after_quoted, if_some}
use Rattle.iv_parse_terms.specs.Reading.{At, Other, Like, word_is, name_in, number_in, quoted_in, looked, passed, after_both, FoundUnless, Peeks, Tries, TriesPart}

abbrev first_or : Word → List Word → Word
first_or d [] = d
first_or d (w ∷ ws) = w

-- ---- lists with the same front

shorter : (m n : ℕ) (xs ys : List Word) → m ≤ n → take n xs ≡ take n ys → take m xs ≡ take m ys
shorter zero n xs ys l e = refl
shorter (suc m) zero xs ys l e = absurd (omega (arith, l))
shorter (suc m) (suc n) [] [] l e = refl
shorter (suc m) (suc n) [] (y ∷ ys) l e = absurd (cc)
shorter (suc m) (suc n) (x ∷ xs) [] l e = absurd (cc)
shorter (suc m) (suc n) (x ∷ xs) (y ∷ ys) l e =
    let first = ap (first_or x) e in
    let rest = shorter m n xs ys (omega (arith, l)) (ap (drop 1) e) in
    cc

same_at : (p : ℕ) (xs ys : List Word) → take (suc p) xs ≡ take (suc p) ys → slice_get xs p ≡ slice_get ys p
same_at zero [] [] e = refl
same_at zero [] (y ∷ ys) e = absurd (cc)
same_at zero (x ∷ xs) [] e = absurd (cc)
same_at zero (x ∷ xs) (y ∷ ys) e = ap (λ w. Some w) (ap (first_or x) e)
same_at (suc p) [] [] e = refl
same_at (suc p) [] (y ∷ ys) e = absurd (cc)
same_at (suc p) (x ∷ xs) [] e = absurd (cc)
same_at (suc p) (x ∷ xs) (y ∷ ys) e = same_at p xs ys (ap (drop 1) e)

-- ---- what a rule of one word finds at a place

after_by : (k : TokenKind) (p : ℕ) (ws : List Word) → after k (drop p ws) ≡ (if word_is k (slice_get ws p) then Some (drop (suc p) ws) else None)
after_by k zero [] = refl
after_by k zero (w ∷ ws) = refl
after_by k (suc p) [] = refl
after_by k (suc p) (w ∷ ws) = after_by k p ws

-- the word itself, and what follows
abbrev one : {A : Type 0} → (Word → Option A) → List Word → Option (A × List Word)
one f [] = None
one f (w ∷ ws) = option_map (λ a. (a, ws)) (f w)

one_by : {A : Type 0} (f : Word → Option A) (p : ℕ) (ws : List Word) → one f (drop p ws) ≡ option_map (λ a. (a, drop (suc p) ws)) (option_and_then f (slice_get ws p))
one_by f zero [] = refl
one_by f zero (w ∷ ws) = refl
one_by f (suc p) [] = refl
one_by f (suc p) (w ∷ ws) = one_by f p ws

pub one_name : (ws : List Word) → after_name ws ≡ one name_in ws
one_name [] = refl
one_name (name n ∷ ws) = refl
one_name (number n ∷ ws) = refl
one_name (quoted n ∷ ws) = refl
one_name (plain n ∷ ws) = refl

pub one_number : (ws : List Word) → after_number ws ≡ one number_in ws
one_number [] = refl
one_number (name n ∷ ws) = refl
one_number (number n ∷ ws) = refl
one_number (quoted n ∷ ws) = refl
one_number (plain n ∷ ws) = refl

pub one_quoted : (ws : List Word) → after_quoted ws ≡ one quoted_in ws
one_quoted [] = refl
one_quoted (name n ∷ ws) = refl
one_quoted (number n ∷ ws) = refl
one_quoted (quoted n ∷ ws) = refl
one_quoted (plain n ∷ ws) = refl

-- ---- cursors

at_looked : (c : At) (o : Other) → Like (looked c) o → Like c o
at_looked c o l = record {
  own = l.own;
  same = shorter (suc c.furthest) (suc (max c.furthest c.place)) o.words o.all (omega arith) l.same;
  within = l.within;
}

at_passed : (c : At) (o : Other) → Like (passed c) o → Like c o
at_passed c o l = record { own = l.own; same = l.same; within = let w = l.within in omega (arith, w) }

word_alike : (c : At) (o : Other) → Like (looked c) o → slice_get o.words c.place ≡ slice_get c.words c.place
word_alike c o l =
    same_at c.place o.words o.all (shorter (suc c.place) (suc (max c.furthest c.place)) o.words o.all (omega arith) l.same)
    ∙ ap (λ (z : List Word). slice_get z c.place) (sym l.own)

pub accepted : (c : At) (k : TokenKind) → word_is k (slice_get c.words c.place) ≡ true → Tries (after k) c true (passed (looked c))
accepted c k h o l =
    let before = at_passed (looked c) o l in
    let one : c.place + 1 ≡ suc c.place = omega arith in (
      at_looked c o before,
      after_by k c.place o.words
          ∙ (ap (λ b. if b then Some (drop (suc c.place) o.words) else None) (ap (word_is k) (word_alike c o before) ∙ h)
          ∙ ap (λ n. Some (drop n o.words)) (sym one)),
    )

pub missed : (c : At) (k : TokenKind) → word_is k (slice_get c.words c.place) ≡ false → Tries (after k) c false (looked c)
missed c k h o l = (
  at_looked c o l,
  (
    after_by k c.place o.words
        ∙ ap (λ b. if b then Some (drop (suc c.place) o.words) else None) (ap (word_is k) (word_alike c o l) ∙ h),
    refl,
  ),
)

pub one_found : {A : Type 0} (rule : List Word → Option (A × List Word)) (f : Word → Option A) → ((ws : List Word) → rule ws ≡ one f ws)
    → (c : At) (a : A) → Some a ≡ option_and_then f (slice_get c.words c.place) → TriesPart rule c (Some a) (passed (looked c))
one_found rule f is c a h o l =
    let before = at_passed (looked c) o l in
    let one_more : c.place + 1 ≡ suc c.place = omega arith in (
      at_looked c o before,
      is (drop c.place o.words) ∙ (one_by f c.place o.words
          ∙ (ap (λ r. option_map (λ x. (x, drop (suc c.place) o.words)) r) (ap (option_and_then f) (word_alike c o before) ∙ sym h)
          ∙ ap (λ n. Some (a, drop n o.words)) (sym one_more))),
    )

pub one_missed : {A : Type 0} (rule : List Word → Option (A × List Word)) (f : Word → Option A) → ((ws : List Word) → rule ws ≡ one f ws)
    → (c : At) → None ≡ option_and_then f (slice_get c.words c.place) → TriesPart rule c None (looked c)
one_missed rule f is c h o l = (
  at_looked c o l,
  (
    is (drop c.place o.words) ∙ (one_by f c.place o.words
        ∙ ap (λ r. option_map (λ x. (x, drop (suc c.place) o.words)) r) (ap (option_and_then f) (word_alike c o l) ∙ sym h)),
    refl,
  ),
)

-- a place with a word is none past the end
pub within : (k : TokenKind) (ws : List Word) (p : ℕ) → word_is k (slice_get ws p) ≡ true → p < length ws
within k [] p h = absurd (cc)
within k (w ∷ ws) zero h = omega arith
within k (w ∷ ws) (suc p) h = let e = within k ws p h in omega (arith, e)

pub within_some : {A : Type 0} (f : Word → Option A) (a : A) (ws : List Word) (p : ℕ) → Some a ≡ option_and_then f (slice_get ws p) → p < length ws
within_some f a [] p h = absurd (cc)
within_some f a (w ∷ ws) zero h = omega arith
within_some f a (w ∷ ws) (suc p) h = let e = within_some f a ws p h in omega (arith, e)

-- ---- by the calls of a cursor: it looks at a word, then passes it or stays

abbrev word_here : (Option Word → Bool) → At → Bool
word_here f c = f (slice_get c.words c.place)

pub accepted_by : (c l n : At) (k : TokenKind) (b : Bool) → l ≡ looked c → b ≡ word_is k (slice_get l.words l.place) → b ≡ true → n ≡ passed l
    → Tries (after k) c true n
accepted_by c l n k b looks found is passes =
    subst (λ x. Tries (after k) c true x) (sym (passes ∙ ap passed looks))
    (accepted c k (ap (word_here (word_is k)) (sym looks) ∙ (sym found ∙ is)))

pub missed_by : (c l n : At) (k : TokenKind) (b : Bool) → l ≡ looked c → b ≡ word_is k (slice_get l.words l.place) → b ≡ false → n ≡ l
    → Tries (after k) c false n
missed_by c l n k b looks found is stays =
    subst (λ x. Tries (after k) c false x) (sym (stays ∙ looks))
    (missed c k (ap (word_here (word_is k)) (sym looks) ∙ (sym found ∙ is)))

is_some_by : (b : Bool) (rest : List Word) → is_some (if b then Some rest else None) ≡ b
is_some_by true rest = refl
is_some_by false rest = refl

peeked : (c : At) (k : TokenKind) (b : Bool) → word_is k (slice_get c.words c.place) ≡ b → Peeks (after k) c b (looked c)
peeked c k b h o l = (
  at_looked c o l,
  refl,
  ap is_some (after_by k c.place o.words) ∙ (is_some_by (word_is k (slice_get o.words c.place)) (drop (suc c.place) o.words) ∙ (ap (word_is k) (word_alike c o l) ∙ h)),
)

pub peeked_by : (c l n : At) (k : TokenKind) (b d : Bool) → l ≡ looked c → b ≡ word_is k (slice_get l.words l.place) → b ≡ d → n ≡ l
    → Peeks (after k) c d n
peeked_by c l n k b d looks found is stays =
    subst (λ x. Peeks (after k) c d x) (sym (stays ∙ looks))
    (peeked c k d (ap (word_here (word_is k)) (sym looks) ∙ (sym found ∙ is)))

pub one_found_by : {A : Type 0} (rule : List Word → Option (A × List Word)) (f : Word → Option A) → ((ws : List Word) → rule ws ≡ one f ws)
    → (c l n : At) (a : A) → l ≡ looked c → Some a ≡ option_and_then f (slice_get l.words l.place) → n ≡ passed l → TriesPart rule c (Some a) n
one_found_by rule f is c l n a looks found passes =
    subst (λ x. TriesPart rule c (Some a) x) (sym (passes ∙ ap passed looks))
    (one_found rule f is c a (found ∙ ap (λ (x : At). option_and_then f (slice_get x.words x.place)) looks))

pub one_missed_by : {A : Type 0} (rule : List Word → Option (A × List Word)) (f : Word → Option A) → ((ws : List Word) → rule ws ≡ one f ws)
    → (c l n : At) → l ≡ looked c → None ≡ option_and_then f (slice_get l.words l.place) → n ≡ l → TriesPart rule c None n
one_missed_by rule f is c l n looks found stays =
    subst (λ x. TriesPart rule c None x) (sym (stays ∙ looks))
    (one_missed rule f is c (found ∙ ap (λ (x : At). option_and_then f (slice_get x.words x.place)) looks))

-- what was found is settled: past the word, or not
pub settled_by : {A : Type 0} (rule : List Word → Option (A × List Word)) (f : Word → Option A) → ((ws : List Word) → rule ws ≡ one f ws)
    → (c l n : At) (o : Option A) → l ≡ looked c → o ≡ option_and_then f (slice_get l.words l.place) → n ≡ if_some o (λ _. passed l) l → TriesPart rule c o n
settled_by rule f is c l n None looks found moves = one_missed_by rule f is c l n looks found moves
settled_by rule f is c l n (Some a) looks found moves = one_found_by rule f is c l n a looks found moves

pub settles_within : {A : Type 0} (f : Word → Option A) (ws : List Word) (p most : ℕ) (o : Option A) → o ≡ option_and_then f (slice_get ws p) → length ws ≤ most
    → IfSome o (λ _. p < most)
settles_within f ws p most None h few = tt
settles_within f ws p most (Some a) h few = let i = within_some f a ws p h in omega (arith, i, few)

-- nothing is said where memory was refused
pub refused : {A E : Type 0} (r : Result (Option A) E) (found : Option (A × List Word)) (ws rest : List Word) → IsErr r → FoundUnless found ws r rest
refused (Ok o) found ws rest h = absurd (false≢true h)
refused (Err e) found ws rest h = tt

by_both : (c a b : At) (k j : TokenKind) → Tries (after k) c true a → Tries (after j) a false b
    → Tries (after_both k j) c false (record { words = b.words; place = c.place; furthest = b.furthest })
by_both c a b k j first second o l =
    let wide : Other = record { words = o.words; all = o.all; most = b.place } in
    let s = second wide (record { own = l.own; same = l.same; within = omega arith }) in
    let f = first wide s.0 in (
      record { own = f.0.own; same = f.0.same; within = l.within },
      (ap (λ (r : Option (List Word)). if_some r (after j) None) f.1 ∙ s.1.0, refl),
    )

pub one_looked_by : (c l : At) (o : Other) → l ≡ looked c → Like l o → Like c o
one_looked_by c l o e h = at_looked c o (subst (λ x. Like x o) e h)

-- two words, of which the second is another: back at the first
pub back : (c a b n : At) (k j : TokenKind) (p : ℕ) → p ≡ c.place → Tries (after k) c true a → Tries (after j) a false b
    → n ≡ record { words = b.words; place = p; furthest = b.furthest } → Tries (after_both k j) c false n
back c a b n k j p e first second stays =
    subst (λ x. Tries (after_both k j) c false x) (sym (stays ∙ ap (λ q. record { words = b.words; place = q; furthest = b.furthest }) e)) (by_both c a b k j first second)
