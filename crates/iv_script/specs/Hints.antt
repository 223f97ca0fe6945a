-- What is known of the wrong word of a script beside what might have stood there. The rows are in src/hint.rt.
use Rattle.std.specs.Prelude.{ℕ, Bool, ◌&&◌, ◌||◌, if◌then◌else◌, List, [], ◌∷◌, codes, map, length, take, drop, Option, Some, None, is_none, not, slice_get}
use Rattle.std.specs.List.{list_any}
use Rattle.std.specs.Str.{str_eq_ignore_ascii_case}
use Rattle.iv_lex.specs.declared.kind.TokenKind.TheVariants as kind
use Rattle.iv_lex.specs.declared.token.Token.{Token}
use Rattle.iv_lex.specs.contracts.kind.TokenKindPartialEq.TheImpl.{ghosts as equality}
use Rattle.iv_lex.specs.Told.{or_else}
use Rattle.iv_lex.specs.Tokens.{is_digit, is_letter}
use Rattle.iv_lex.specs.Words.{slice}
use Rattle.iv_parse_terms.specs.WantedKinds.{wanted_kinds}
use Rattle.iv_parse.specs.declared.parser.SyntaxFault.{SyntaxFault}
use Rattle.iv_script.specs.declared.hint.TheConstants.{STATEMENTS, JOINS, CLAUSES, CALLS, WORDS, NO_TYPES, NO_TOKENS}

-- the characters of a token, where there is one
abbrev pub token_text : List ℕ → Option Token → List ℕ
token_text text None = []
token_text text (Some t) = slice text t.start t.end

-- ---- words

-- whether a word is the one of a pattern, whatever the case of its letters; every word is the one of the pattern *
abbrev pub fits : List ℕ → List ℕ → Bool
fits pattern word = str_eq_ignore_ascii_case (codes "*") pattern || str_eq_ignore_ascii_case word pattern

-- whether two words are those of two patterns
abbrev pub fit : List ℕ × List ℕ → List ℕ → List ℕ → Bool
fit patterns before word = fits patterns.0 before && fits patterns.1 word

-- what the first row says whose patterns are those of the word before and of the word
abbrev pub hint_among : List ((List ℕ × List ℕ) × List ℕ) → List ℕ → List ℕ → List ℕ
hint_among [] before word = []
hint_among ((patterns, says) ∷ rest) before word = if fit patterns before word then says else hint_among rest before word

abbrev pub statements : List ((List ℕ × List ℕ) × List ℕ)
statements = map (λ row. ((row.0.0.now, row.0.1.now), row.1.now)) STATEMENTS

abbrev pub joins : List ((List ℕ × List ℕ) × List ℕ)
joins = map (λ row. ((row.0.0.now, row.0.1.now), row.1.now)) JOINS

abbrev pub clauses : List ((List ℕ × List ℕ) × List ℕ)
clauses = map (λ row. ((row.0.0.now, row.0.1.now), row.1.now)) CLAUSES

abbrev pub calls : List ((List ℕ × List ℕ) × List ℕ)
calls = map (λ row. ((row.0.0.now, row.0.1.now), row.1.now)) CALLS

abbrev pub words : List ((List ℕ × List ℕ) × List ℕ)
words = map (λ row. ((row.0.0.now, row.0.1.now), row.1.now)) WORDS

abbrev pub no_types : List ((List ℕ × List ℕ) × List ℕ)
no_types = map (λ row. ((row.0.0.now, row.0.1.now), row.1.now)) NO_TYPES

-- whether a type might have stood in the place of the fault
abbrev pub wants_type : SyntaxFault → Bool
wants_type f = list_any (λ k. equality.eq k kind.Integer) (wanted_kinds f.wanted)

unfoldable pub type_hint : List ℕ → List ℕ → List ℕ
type_hint before word = hint_among no_types before word

unfoldable pub statement_hint : List ℕ → List ℕ → List ℕ
statement_hint before word = hint_among statements before word

unfoldable pub join_hint : List ℕ → List ℕ → List ℕ
join_hint before word = hint_among joins before word

unfoldable pub clause_hint : List ℕ → List ℕ → List ℕ
clause_hint before word = hint_among clauses before word

unfoldable pub call_hint : List ℕ → List ℕ → List ℕ
call_hint before word = hint_among calls before word

unfoldable pub other_hint : List ℕ → List ℕ → List ℕ
other_hint before word = hint_among words before word

-- what the first of the tables says
abbrev pub left_out_hint : List ℕ → List ℕ → List ℕ
left_out_hint before word =
    or_else (statement_hint before word)
    (or_else (or_else (join_hint before word) (clause_hint before word)) (or_else (call_hint before word) (other_hint before word)))

abbrev pub word_hint : List ℕ → SyntaxFault → List ℕ
word_hint text f =
    if wants_type f then type_hint (token_text text f.before) (token_text text f.token)
    else left_out_hint (token_text text f.before) (token_text text f.token)

-- ---- where no token begins

abbrev pub begins_with : List ℕ → List ℕ → Bool
begins_with bytes front = str_eq_ignore_ascii_case (take (length front) bytes) front

-- what the first row says that the bytes begin with
abbrev pub front_hint : List (List ℕ × List ℕ) → List ℕ → List ℕ → List ℕ
front_hint [] bytes other = other
front_hint ((front, says) ∷ rest) bytes other = if begins_with bytes front then says else front_hint rest bytes other

-- why no token begins with a character
abbrev pub first_hint : Option ℕ → List ℕ
first_hint None = []
first_hint (Some byte) =
    if is_digit byte then codes "a number above 9223372036854775807"
    else (if is_letter byte then codes "a word of more than 128 characters" else codes "no word begins with this character")

abbrev pub no_tokens : List (List ℕ × List ℕ)
no_tokens = map (λ row. (row.0.now, row.1.now)) NO_TOKENS

unfoldable pub no_token_hint : List ℕ → List ℕ → List ℕ
no_token_hint bytes other = front_hint no_tokens bytes other

abbrev pub lexical_hint : List ℕ → List ℕ
lexical_hint bytes = no_token_hint bytes (first_hint (slice_get bytes 0))

-- ---- of a fault

-- whether the word of a fault is a place where no token begins, before the text's end
abbrev pub is_lexical : SyntaxFault → Bool
is_lexical f = is_none f.token && not f.is_cut

abbrev pub known_hint : List ℕ → SyntaxFault → List ℕ
known_hint text f =
    if f.too_deep then codes "deeper than 64 levels"
    else (if is_lexical f then lexical_hint (drop f.word text) else word_hint text f)

-- What is known of the wrong word; no text where nothing is.
unfoldable pub fault_hint : List ℕ → SyntaxFault → List ℕ
fault_hint text f = known_hint text f
