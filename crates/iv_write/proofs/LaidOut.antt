-- Words with spaces and line ends between them lex to the words.
use Rattle.std.proofs.Common.{inl, inr, ◌≡◌, ◌⊎◌, ℕ, suc, ◌+◌, Bool, true, false, Option, Some, None, List, [], ◌∷◌, ◌++◌, refl, sym, ap, subst, arith, nat_eq}
use Rattle.std.specs.Prelude.{if◌then◌else◌, slice_index, IsUtf8}
use Rattle.std.specs.List.{list_all}
use Rattle.std.proofs.lemmas.Bool.{and_parts}
use Rattle.std.proofs.lemmas.Bool.Decides.{nat_tests}
use Rattle.iv_lex.specs.declared.kind.TokenKind.{TokenKind}
use Rattle.iv_lex.specs.declared.kind.TokenKind.TheVariants as kind
use Rattle.iv_lex.specs.Tokens.{is_space, is_digit, is_word_byte, opens_comment, gap_by}
use Rattle.iv_lex.specs.Tokens as tokens
use Rattle.iv_lex.specs.Words.{Word, name, number, quoted, plain}
use Rattle.iv_template.specs.Templates.{words_of, fault_of}
use Rattle.iv_template.proofs.Local.{IsApart}
use Rattle.iv_template.proofs.Lexing.{Lexes, ended, skipped}
use Rattle.iv_template.proofs.Found.{whole_text}
use Rattle.iv_write.specs.declared.layout.Class.{Class}
use Rattle.iv_write.specs.declared.layout.Class.TheVariants as class
use Rattle.iv_write.specs.declared.layout.Layout.{Layout}
use Rattle.iv_write.specs.Spelling.{word_text, IsWritten, AreWritten}
use Rattle.iv_write.specs.Layouts.{class_of, word_class, is_among_elements, is_block, comma_gap, caller_gap, statement_gap, gap_after, gap, ending, after, start, text_from, text_of}
use Rattle.iv_write.proofs.Lexed.{Clear, open_lexes, period_lexes, semicolon_lexes, clear_lexes}

-- ---- white space

abbrev Spaces : List ℕ → Type 0
Spaces ds = list_all is_space ds ≡ true

spaces_lex : (ds bs : List ℕ) (ws : List Word) (s : Option (List ℕ)) → Spaces ds → Lexes bs ws s → Lexes (ds ++ bs) ws s
spaces_lex [] bs ws s h l = l
spaces_lex (d ∷ ds) bs ws s h l =
    let two = and_parts (is_space d) (list_all is_space ds) h in
    let g : tokens.gap false (d ∷ (ds ++ bs)) ≡ suc (tokens.gap false (ds ++ bs)) =
    ap (λ z. gap_by (if z then Some false else (if opens_comment d (slice_index (ds ++ bs) 0) then Some true else None)) (λ k. tokens.gap k (ds ++ bs))) two.0 in
    skipped (d ∷ []) (ds ++ bs) ws s (omega (arith, g)) (spaces_lex ds bs ws s two.1 l)

if_spaces : (b : Bool) (x y : List ℕ) → Spaces x → Spaces y → Spaces (if b then x else y)
if_spaces true x y h i = h
if_spaces false x y h i = i

comma_spaces : (l : Layout) (d : Class) → Spaces (comma_gap l d)
comma_spaces l class.Open = if_spaces (is_among_elements l) _ _ refl (if_spaces (nat_eq l.depth 0) _ _ refl refl)
comma_spaces l _ = if_spaces (is_among_elements l) _ _ refl refl

caller_spaces : (d : Class) → Spaces (caller_gap d)
caller_spaces class.Open = refl
caller_spaces _ = refl

statement_spaces : (d : Class) → Spaces (statement_gap d)
statement_spaces class.End = refl
statement_spaces _ = refl

after_spaces : (l : Layout) (c d : Class) → Spaces (gap_after l c d)
after_spaces l class.Open d = if_spaces (is_among_elements l) _ _ refl refl
after_spaces l class.Comma d = comma_spaces l d
after_spaces l class.Semicolon d = if_spaces (is_block l.place) (statement_gap d) [] (statement_spaces d) refl
after_spaces l class.Caller d = caller_spaces d
after_spaces l _ d = refl

gap_spaces : (l : Layout) (d : Class) → Spaces (gap l d)
gap_spaces l class.Comma = refl
gap_spaces l class.Semicolon = refl
gap_spaces l class.Period = refl
gap_spaces l class.Close = if_spaces (is_among_elements l) _ _ refl refl
gap_spaces l d = after_spaces l l.last d

ending_spaces : (c : Class) → Spaces (ending c)
ending_spaces class.Semicolon = refl
ending_spaces _ = refl

space_apart : (x : ℕ) → is_space x ≡ true → IsApart x
space_apart x h = record {
  no_word = grind (arith, nat_tests);
  no_digit = grind (arith, nat_tests);
  no_quote = grind (arith, nat_tests);
  no_minus = grind (arith, nat_tests);
  no_greater = grind (arith, nat_tests);
  no_equals = grind (arith, nat_tests);
}

-- ---- where no space stands before a word, it is a symbol, or comes after one

abbrev IsSome : List ℕ → Type 0
IsSome [] = ⊥
IsSome (x ∷ xs) = Unit {0}

-- a symbol that ends what stands before it
is_symbol : Class → Bool
is_symbol class.Open = true
is_symbol class.Close = true
is_symbol class.Comma = true
is_symbol class.Semicolon = true
is_symbol class.Period = true
is_symbol _ = false

-- a symbol that anything may follow
is_tight : Class → Bool
is_tight class.Nothing = true
is_tight class.Open = true
is_tight class.Semicolon = true
is_tight class.Period = true
is_tight _ = false

no : {A : Type 0} → true ≡ false → A
no h = absurd (let e : true ≡ false = h in cc)

no_symbol : {A : Type 0} → false ≡ true → A
no_symbol h = absurd (let e : false ≡ true = h in cc)

if_some : (b : Bool) (x y : List ℕ) → IsSome x → IsSome y → IsSome (if b then x else y)
if_some true x y h i = h
if_some false x y h i = i

comma_some : (l : Layout) (d : Class) → is_symbol d ≡ false → IsSome (comma_gap l d)
unfolding is_symbol
comma_some l class.Open h = no h
comma_some l _ h = if_some (is_among_elements l) _ _ (tt {0}) (tt {0})

caller_some : (d : Class) → is_symbol d ≡ false → IsSome (caller_gap d)
unfolding is_symbol
caller_some class.Open h = no h
caller_some _ h = tt {0}

spaced : (l : Layout) (c d : Class) → is_tight c ≡ false → is_symbol d ≡ false → IsSome (gap_after l c d)
unfolding is_tight
spaced l class.Nothing d t s = no t
spaced l class.Open d t s = no t
spaced l class.Semicolon d t s = no t
spaced l class.Period d t s = no t
spaced l class.Comma d t s = comma_some l d s
spaced l class.Caller d t s = caller_some d s
spaced l _ d t s = tt {0}

gap_is_after : (l : Layout) (d : Class) → is_symbol d ≡ false → gap l d ≡ gap_after l l.last d
unfolding is_symbol
gap_is_after l class.Comma h = no h
gap_is_after l class.Semicolon h = no h
gap_is_after l class.Period h = no h
gap_is_after l class.Close h = no h
gap_is_after l _ h = refl

apart_symbol : (x : ℕ) → is_word_byte x ≡ false → is_digit x ≡ false → nat_eq x 39 ≡ false → nat_eq x 45 ≡ false → nat_eq x 62 ≡ false → nat_eq x 61 ≡ false → IsApart x
apart_symbol x a b c d e f = record { no_word = a; no_digit = b; no_quote = c; no_minus = d; no_greater = e; no_equals = f }

starts_kind : (k : TokenKind) (t : List ℕ) → is_symbol (class_of k) ≡ true → Clear (word_text (plain k) ++ t)
unfolding is_symbol
starts_kind kind.LeftParenthesis t h = apart_symbol 40 refl refl refl refl refl refl
starts_kind kind.RightParenthesis t h = apart_symbol 41 refl refl refl refl refl refl
starts_kind kind.Comma t h = apart_symbol 44 refl refl refl refl refl refl
starts_kind kind.Semicolon t h = apart_symbol 59 refl refl refl refl refl refl
starts_kind kind.Period t h = apart_symbol 46 refl refl refl refl refl refl
starts_kind _ t h = no_symbol h

starts : (v : Word) (t : List ℕ) → is_symbol (word_class v) ≡ true → Clear (word_text v ++ t)
unfolding is_symbol
starts (plain k) t h = starts_kind k t h
starts (name n) t h = no_symbol h
starts (number n) t h = no_symbol h
starts (quoted q) t h = no_symbol h

clear_after : (g t : List ℕ) → Spaces g → IsSome g ⊎ Clear t → Clear (g ++ t)
clear_after [] t h (inl x) = absurd x
clear_after [] t h (inr c) = c
clear_after (x ∷ g) t h o = space_apart x (and_parts (is_space x) (list_all is_space g) h).0

some_or_clear : (l : Layout) (c : Class) (v : Word) (t : List ℕ) (b : Bool) → is_symbol (word_class v) ≡ b → is_tight c ≡ false
    → IsSome (gap (after l c) (word_class v)) ⊎ Clear (word_text v ++ t)
some_or_clear l c v t true s h = inr (starts v t s)
some_or_clear l c v t false s h =
    inl (subst IsSome (sym (gap_is_after (after l c) (word_class v) s)) (spaced (after l c) c (word_class v) h s))

-- what follows a word that isn't tight
clear_from : (l : Layout) (c : Class) (vs : List Word) → is_tight c ≡ false → Clear (text_from (after l c) vs)
clear_from l c [] h = tt {0}
clear_from l c (v ∷ vs) h =
    let d : Class = word_class v in
    let t : List ℕ = ending d ++ text_from (after (after l c) d) vs in
    clear_after (gap (after l c) d) (word_text v ++ t) (gap_spaces (after l c) d) (some_or_clear l c v t (is_symbol d) refl h)

-- ---- the words

abbrev Fits : Class → List ℕ → Type 0
Fits class.Nothing rest = Unit {0}
Fits class.Open rest = Unit {0}
Fits class.Semicolon rest = Unit {0}
Fits class.Period rest = Unit {0}
Fits _ rest = Clear rest

fits : (l : Layout) (c : Class) (vs : List Word) → Fits c (ending c ++ text_from (after l c) vs)
unfolding is_tight
fits l class.Nothing vs = tt {0}
fits l class.Open vs = tt {0}
fits l class.Semicolon vs = tt {0}
fits l class.Period vs = tt {0}
fits l c vs = clear_from l c vs refl

plain_fits : (k : TokenKind) (rest : List ℕ) (ws : List Word) (s : Option (List ℕ)) → IsWritten (plain k) → Fits (class_of k) rest → Lexes rest ws s
    → Lexes (word_text (plain k) ++ rest) (plain k ∷ ws) s
plain_fits kind.LeftParenthesis rest ws s h f l = open_lexes rest ws s l
plain_fits kind.Period rest ws s h f l = period_lexes rest ws s l
plain_fits kind.Semicolon rest ws s h f l = semicolon_lexes rest ws s l
plain_fits k rest ws s h f l = clear_lexes (plain k) rest ws s h f l

fits_lexes : (w : Word) (rest : List ℕ) (ws : List Word) (s : Option (List ℕ)) → IsWritten w → Fits (word_class w) rest → Lexes rest ws s
    → Lexes (word_text w ++ rest) (w ∷ ws) s
fits_lexes (plain k) rest ws s h f l = plain_fits k rest ws s h f l
fits_lexes (name n) rest ws s h f l = clear_lexes (name n) rest ws s h f l
fits_lexes (number n) rest ws s h f l = clear_lexes (number n) rest ws s h f l
fits_lexes (quoted t) rest ws s h f l = clear_lexes (quoted t) rest ws s h f l

pub words_lex : (l : Layout) (ws : List Word) → AreWritten ws → Lexes (text_from l ws) ws None
words_lex l [] h = ended [] [] None refl refl (omega arith)
words_lex l (w ∷ ws) (h, i) =
    let c : Class = word_class w in
    let rest : List ℕ = text_from (after l c) ws in
    spaces_lex (gap l c) (word_text w ++ (ending c ++ rest)) (w ∷ ws) None (gap_spaces l c)
    (fits_lexes w (ending c ++ rest) ws None h (fits l c ws)
    (spaces_lex (ending c) rest ws None (ending_spaces c) (words_lex (after l c) ws i)))

-- the text of words that can be written has these words and no fault
pub written_words : (text : List ℕ) (ws : List Word) → IsUtf8 text → text ≡ text_of ws → AreWritten ws → (words_of text ≡ ws) × (fault_of text ≡ None)
written_words text ws u e h = whole_text text ws u (subst (λ z. Lexes z ws None) (sym e) (words_lex start ws h))
