-- What is read at a place among words, whatever follows the words that were looked at.
use Rattle.std.specs.Prelude.{◌≡◌, ◌≤◌, ℕ, suc, ◌+◌, max, Bool, true, false, Option, Some, None, is_some, List, take, drop, Result, Ok, Err}
use Rattle.iv_lex.specs.declared.kind.TokenKind.{TokenKind}
use Rattle.iv_lex.specs.Words.{Word, name, number, quoted, plain}
use Rattle.iv_parse_terms.specs.After.{is_word, after, if_some}
use Rattle.iv_parse_terms.specs.declared.stop.Stop.{Stop}
use Rattle.iv_parse_terms.specs.declared.stop.Stop.TheVariants.{NoMatch, TooDeep, NoMemory}

-- words, a place among them, and the place of the furthest word that was looked at
pub record At : Type 0 where
  pub words : List Word
  pub place : ℕ
  pub furthest : ℕ

-- other words, the words that they are compared with, and a bound of places
pub record Other : Type 0 where
  pub words : List Word
  pub all : List Word
  pub most : ℕ

-- The other words are the same up to the furthest one and with it, or end there as well; and the place is within the bound.
pub record Like (c : At) (o : Other) : Type 0 where
  pub own : c.words ≡ o.all
  pub same : take (suc c.furthest) o.words ≡ take (suc c.furthest) o.all
  pub within : c.place ≤ o.most

-- the words from the place on
abbrev pub ahead : At → Other → List Word
ahead c o = drop c.place o.words

-- What a rule found, with the result seen as what the rule is about, and the words after it. Nothing is said where memory was refused.
abbrev pub GivesAs : {A B : Type 0} → (B → A) → Option (A × List Word) → Result B Stop → List Word → Type 0
GivesAs seen found (Ok b) rest = found ≡ Some (seen b, rest)
GivesAs seen found (Err NoMatch) rest = found ≡ None
GivesAs seen found (Err TooDeep) rest = found ≡ None
GivesAs seen found (Err NoMemory) rest = Unit {0}

-- The rule finds this at the old place, and goes on to the new one, in these words and in all others that are like them up to the
-- furthest word. A bound of the new place is one of the old place too: the place only rises.
abbrev pub ReadsAs : {A B : Type 0} → (B → A) → (List Word → Option (A × List Word)) → At → Result B Stop → At → Type 0
ReadsAs seen rule old result new =
    (o : Other) → Like new o → Like old o × GivesAs seen (rule (ahead old o)) result (ahead new o)

-- so too, where the result is what the rule is about
abbrev pub Reads : {A : Type 0} → (List Word → Option (A × List Word)) → At → Result A Stop → At → Type 0
Reads rule = ReadsAs (λ a. a) rule

-- what is made without a further word, whatever follows
abbrev pub MakesAs : {A B : Type 0} → (B → A) → (List Word → Option (A × List Word)) → Result B Stop → Type 0
MakesAs seen rule result = (ws : List Word) → GivesAs seen (rule ws) result ws

abbrev pub Found : Option (List Word) → List Word → Bool → List Word → Type 0
Found found ws true rest = found ≡ Some rest
Found found ws false rest = (found ≡ None) × (rest ≡ ws)

-- these words stood there, or they did not and the place stays
abbrev pub Tries : (List Word → Option (List Word)) → At → Bool → At → Type 0
Tries rule old result new =
    (o : Other) → Like new o → Like old o × Found (rule (ahead old o)) (ahead old o) result (ahead new o)

abbrev pub FoundAll : Option (List Word) → Result (Unit {0}) Stop → List Word → Type 0
FoundAll found (Ok u) rest = found ≡ Some rest
FoundAll found (Err e) rest = found ≡ None

-- these words stood there, or it stops
abbrev pub Expects : (List Word → Option (List Word)) → At → Result (Unit {0}) Stop → At → Type 0
Expects rule old result new = (o : Other) → Like new o → Like old o × FoundAll (rule (ahead old o)) result (ahead new o)

abbrev pub FoundAfter : {A : Type 0} → Option (List Word) → A → Result A Stop → List Word → Type 0
FoundAfter found value (Ok a) rest = (a ≡ value) × (found ≡ Some rest)
FoundAfter found value (Err e) rest = found ≡ None

-- the value, after which these words stood, or it stops
abbrev pub Follows : {A : Type 0} → (List Word → Option (List Word)) → A → At → Result A Stop → At → Type 0
Follows rule value old result new = (o : Other) → Like new o → Like old o × FoundAfter (rule (ahead old o)) value result (ahead new o)

-- whether these words stand there; the place stays
abbrev pub Peeks : (List Word → Option (List Word)) → At → Bool → At → Type 0
Peeks rule old result new =
    (o : Other) → Like new o → Like old o × (ahead new o ≡ ahead old o) × (is_some (rule (ahead old o)) ≡ result)

-- the words after these two
abbrev pub after_both : TokenKind → TokenKind → List Word → Option (List Word)
after_both k j ws = if_some (after k ws) (after j) None

abbrev pub FoundPart : {A : Type 0} → Option (A × List Word) → List Word → Option A → List Word → Type 0
FoundPart found ws (Some a) rest = found ≡ Some (a, rest)
FoundPart found ws None rest = (found ≡ None) × (rest ≡ ws)

-- the part stood there, or it did not and the place stays
abbrev pub TriesPart : {A : Type 0} → (List Word → Option (A × List Word)) → At → Option A → At → Type 0
TriesPart rule old result new =
    (o : Other) → Like new o → Like old o × FoundPart (rule (ahead old o)) (ahead old o) result (ahead new o)

abbrev pub FoundUnless : {A E : Type 0} → Option (A × List Word) → List Word → Result (Option A) E → List Word → Type 0
FoundUnless found ws (Ok o) rest = FoundPart found ws o rest
FoundUnless found ws (Err e) rest = Unit {0}

-- so too, unless memory was refused
abbrev pub TriesUnlessMemory : {A E : Type 0} → (List Word → Option (A × List Word)) → At → Result (Option A) E → At → Type 0
TriesUnlessMemory rule old result new =
    (o : Other) → Like new o → Like old o × FoundUnless (rule (ahead old o)) (ahead old o) result (ahead new o)

-- whether this symbol or reserved word is there
abbrev pub word_is : TokenKind → Option Word → Bool
word_is k None = false
word_is k (Some w) = is_word k w

abbrev pub name_in : Word → Option (List ℕ)
name_in (name n) = Some n
name_in (number n) = None
name_in (quoted t) = None
name_in (plain k) = None

abbrev pub quoted_in : Word → Option (List ℕ)
quoted_in (quoted t) = Some t
quoted_in (name n) = None
quoted_in (number n) = None
quoted_in (plain k) = None

abbrev pub number_in : Word → Option ℕ
number_in (number n) = Some n
number_in (name n) = None
number_in (quoted t) = None
number_in (plain k) = None

-- the word at the place was looked at
abbrev pub looked : At → At
looked c = record { words = c.words; place = c.place; furthest = max c.furthest c.place }

-- the word at the place was read
abbrev pub passed : At → At
passed c = record { words = c.words; place = c.place + 1; furthest = c.furthest }
