-- The lines that tell where the fault of a script is: the place of the wrong word, what might have stood there or what else is known of
-- it, and the line around it.
use Rattle.std.specs.Prelude.{ℕ, zero, suc, ◌-◌, ◌==◌, ◌||◌, Bool, true, false, if◌then◌else◌, List, [], ◌∷◌, ◌++◌, chars, codes, decimal, drop, length, min, take, Option, Some, None, nat_lt, unwrap_or}
use Rattle.std.specs.List.{flat_map}
use Rattle.unicode_width.specs.Width.{str_width}
use Rattle.iv_lex.specs.declared.kind.TokenKind.{TokenKind}
use Rattle.iv_lex.specs.declared.token.Token.{Token}
use Rattle.iv_lex.specs.Told.{kind_text, or_else}
use Rattle.iv_lex.specs.Words.{characters}
use Rattle.iv_parse_terms.specs.WantedKinds.{wanted_kinds}
use Rattle.iv_parse.specs.declared.parser.SyntaxFault.{SyntaxFault}
use Rattle.iv_script.specs.declared.caret.TheConstants.{MOST_AROUND, SPACES}
use Rattle.iv_script.specs.declared.place.Place.{Place}
use Rattle.iv_script.specs.declared.place.TheConstants.{MOST_WORDS}
use Rattle.iv_script.specs.Hints.{fault_hint, token_text}
use Rattle.iv_script.specs.Places.{is_continuation, place_at, words_of}

-- ---- what is wrong

-- the wrong word, or its first characters; or the end of the text
abbrev pub wrong_word : List ℕ → Option Token → List ℕ
wrong_word text None = codes "the end of the text"
wrong_word text (Some t) = words_of MOST_WORDS (token_text text (Some t))

abbrev pub further_kind : TokenKind → List ℕ
further_kind k = codes " or " ++ kind_text k

-- what might have stood there
abbrev pub wanted_text : List TokenKind → List ℕ
wanted_text [] = []
wanted_text (k ∷ ks) = codes "; wanted " ++ (kind_text k ++ flat_map further_kind ks)

-- what is known of the word, or else the word and what might have stood there
abbrev pub told_text : List ℕ → SyntaxFault → List ℕ
told_text text f = or_else (fault_hint text f) (wrong_word text f.token ++ wanted_text (wanted_kinds f.wanted))

abbrev pub place_text : Place → List ℕ
place_text p = codes "  line " ++ (decimal p.line ++ (codes ", column " ++ (decimal p.column ++ codes ": ")))

-- ---- the line around the word

-- what comes after the last end of a line
abbrev pub last_line : List ℕ → List ℕ → List ℕ
last_line line [] = line
last_line line (byte ∷ bytes) = last_line (if byte == 10 then bytes else line) bytes

-- how many characters are left to pass after a byte; none where it is behind them
abbrev pub left_after : ℕ → ℕ → Option ℕ
left_after left byte = if is_continuation byte then Some left else elim left [ zero ↦ None | suc less ↦ Some less ]

-- the bytes behind so many characters
abbrev pub behind : ℕ → List ℕ → List ℕ
behind left [] = []
behind left (byte ∷ bytes) = elim (left_after left byte) [ Some less ↦ behind less bytes | None ↦ byte ∷ bytes ]

-- what is shown of the line before a byte: its last characters
abbrev pub front_bytes : List ℕ → ℕ → List ℕ
front_bytes text at = behind ((place_at text at).column - 1 - MOST_AROUND) (last_line (take at text) (take at text))

abbrev pub front : List ℕ → ℕ → List ℕ
front text at = unwrap_or (characters text (length (take at text) - length (front_bytes text at)) (length (take at text))) []

-- what is shown of it from the byte on
abbrev pub back : List ℕ → ℕ → List ℕ
back text at = words_of MOST_AROUND (drop at text)

-- a control character is shown as a space
abbrev pub shown : ℕ → List ℕ
shown byte = (if nat_lt byte 32 || (byte == 127) then 32 else byte) ∷ []

-- so many spaces, of those that there are in src/caret.rt
abbrev pub spaces : ℕ → List ℕ
spaces n = take (min n (length SPACES.now)) SPACES.now

-- the line around a byte, and below it a caret under the byte
abbrev pub caret_text : List ℕ → List ℕ → List ℕ
caret_text before after =
    codes "    " ++ (flat_map shown before ++ (flat_map shown after ++ (codes "\n    " ++ (spaces (str_width false (chars before)) ++ codes "^\n"))))

-- Nothing is shown of a line without characters.
abbrev pub caret_below : List ℕ → List ℕ
caret_below [] = []
caret_below (byte ∷ bytes) = caret_text [] (byte ∷ bytes)

abbrev pub caret_around : List ℕ → List ℕ → List ℕ
caret_around [] after = caret_below after
caret_around (byte ∷ bytes) after = caret_text (byte ∷ bytes) after

abbrev pub around_text : List ℕ → ℕ → List ℕ
around_text text at = caret_around (front text at) (back text at)

-- ---- the lines

abbrev pub fault_text : List ℕ → SyntaxFault → List ℕ
fault_text text f = place_text (place_at text f.word) ++ (told_text text f ++ (codes "\n" ++ around_text text f.word))

-- The lines that tell where the fault of a text is, where they are asked for.
abbrev pub place_lines : Bool → List ℕ → Option SyntaxFault → List ℕ
place_lines true text (Some f) = fault_text text f
place_lines _ text _ = []
