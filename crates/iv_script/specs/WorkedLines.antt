-- Worked lines that tell a place, written by hand.
use Rattle.std.specs.Prelude.{◌≡◌, ℕ, true, false, List, [], ◌∷◌, ◌++◌, codes, Option, Some, None, replicate}
use Rattle.iv_script.specs.declared.place.Place.{Place}
use Rattle.iv_lex.specs.declared.kind.TokenKind.TheVariants as kind
use Rattle.iv_parse.specs.declared.parser.SyntaxFault.{SyntaxFault}
use Rattle.iv_script.specs.FaultLines.{back, front, place_lines, place_text, wanted_text}
use Rattle.iv_script.specs.Hints.{left_out_hint, lexical_hint, type_hint}
use Rattle.iv_script.specs.Places.{place_at, words_at}

abbrev pub place : ℕ → ℕ → Place
place line column = record { line = line; column = column }

-- a text between quotes with a letter of two bytes, then ` X`
abbrev pub accented : List ℕ
accented = 39 ∷ 195 ∷ 169 ∷ 39 ∷ 32 ∷ 88 ∷ []

pub record WorkedPlaces : Type 0 where
  pub at_the_beginning : place_text (place_at (codes "COMIT;") 0) ≡ codes "  line 1, column 1: "
  pub in_the_second_line : place_text (place_at (codes "COMMIT;\n COMIT;\nCOMMIT;") 9) ≡ codes "  line 2, column 2: "
  pub after_an_empty_line : place_text (place_at (codes "\n\nCOMIT;") 2) ≡ codes "  line 3, column 1: "
  pub a_column_is_a_character : place_at accented 5 ≡ place 1 5
  pub least_second_byte : place_at (195 ∷ 128 ∷ 65 ∷ []) 2 ≡ place 1 2
  pub greatest_second_byte : place_at (195 ∷ 191 ∷ 65 ∷ []) 2 ≡ place 1 2
  pub words_have_whole_characters : words_at accented 0 ≡ accented
  pub a_tab_is_of_the_words : words_at (65 ∷ 9 ∷ 66 ∷ 13 ∷ 10 ∷ []) 0 ≡ 65 ∷ 9 ∷ 66 ∷ []
  pub no_words : words_at (0 ∷ []) 0 ≡ []
  pub sixty_characters : words_at (replicate 61 97) 0 ≡ replicate 60 97
  pub sixty_characters_of_two_bytes : words_at (195 ∷ 169 ∷ replicate 60 97) 0 ≡ 195 ∷ 169 ∷ replicate 59 97
  pub at_the_end : place_at (codes "A\n") 2 ≡ place 2 1
  pub beyond_the_end : place_at (codes "AB") 9 ≡ place 1 3
  pub no_fault : place_lines true (codes "COMMIT;") None ≡ []
  pub not_asked : (f : SyntaxFault) → place_lines false (codes "COMIT;") (Some f) ≡ []

-- what is shown of a line, and what is told of a word
pub record WorkedFaults : Type 0 where
  pub of_the_line_alone : front (codes "COMMIT;\nSELECT a FORM t;") 17 ≡ codes "SELECT a "
  pub up_to_the_end_of_the_line : back (codes "SELECT a FORM t;\nCOMMIT;") 9 ≡ codes "FORM t;"
  pub the_last_forty : front (120 ∷ replicate 40 97 ++ codes "b") 41 ≡ replicate 40 97
  pub the_first_forty : back (replicate 41 97) 0 ≡ replicate 40 97
  pub one_wanted : wanted_text (kind.From ∷ []) ≡ codes "; wanted FROM"
  pub three_wanted : wanted_text (kind.Comma ∷ kind.Name ∷ kind.Number 0 ∷ []) ≡ codes "; wanted , or a name or a number"
  pub none_wanted : wanted_text [] ≡ []
  pub join_before : left_out_hint (codes "join") (codes "sale") ≡ codes "JOIN isn't in this language"
  pub like : left_out_hint (codes "title") (codes "LIKE") ≡ codes "LIKE isn't in this language"
  pub begin_first : left_out_hint [] (codes "Begin") ≡ codes "a transaction begins with START TRANSACTION"
  pub begin_later : left_out_hint (codes "TABLE") (codes "BEGIN") ≡ []
  pub no_hint : left_out_hint (codes "title") (codes "FORM") ≡ []
  pub type_date : type_hint (codes "day") (codes "date") ≡ codes "DATE isn't in this language; there are INTEGER and VARCHAR"
  pub not_equal : lexical_hint (codes "!= 8") ≡ codes "!= is written <>"
  pub open_text : lexical_hint (codes "'x") ≡ codes "a text without its closing quote"
  pub too_large : lexical_hint (codes "9223372036854775808") ≡ codes "a number above 9223372036854775807"
  pub no_character : lexical_hint (codes "#") ≡ codes "no word begins with this character"
