-- Templates: texts in which a question mark stands where a literal may stand.
use Rattle.std.specs.Prelude.{◌≡◌, ℕ, suc, Option, Some, None, List, [], ◌∷◌, ◌++◌, map, length, pos, negsuc, nat_lt, if◌then◌else◌}
use Rattle.iv_value.specs.declared.value.Value.{Value}
use Rattle.iv_value.specs.declared.value.Value.TheVariants as value
use Rattle.iv_lex.specs.declared.kind.TokenKind.TheVariants as kind
use Rattle.iv_syntax.specs.declared.limits.TheConstants.{GREATEST_INTEGER}
use Rattle.iv_lex.specs.Tokens.{tokens_of}
use Rattle.iv_lex.specs.Words.{Word, number, quoted, plain, words}

-- the tokens of a text without their places: names, numbers by their values, texts by their characters,
-- symbols and reserved words. All that the grammar sees of a text is its words.
abbrev pub words_of : List ℕ → List Word
words_of text = words text (tokens_of text).tokens

-- the first place of a text at which no token begins
abbrev pub fault_of : List ℕ → Option ℕ
fault_of text = (tokens_of text).fault

-- what a template is made of
pub data Part : Type 0 where
  word : Word → Part
  hole : Part

-- These are the parts of a template: its words, and a hole for each question mark that is in no text and
-- no comment, where a token would begin.
pub data IsTemplate : List ℕ → List Part → Type 0 where
  ends : (text : List ℕ) (parts : List Part) → fault_of text ≡ None → parts ≡ map word (words_of text)
      → IsTemplate text parts
  goes_on : (text front rest : List ℕ) (parts others : List Part)
      → text ≡ front ++ 63 ∷ rest → fault_of text ≡ Some (length front) → IsTemplate rest others
      → parts ≡ map word (words_of text) ++ hole ∷ others → IsTemplate text parts

-- The least integer has no literal, since its digits alone are too large a number: it is the expression
-- (- 9223372036854775807 - 1).
abbrev pub least : List Word
least =
    plain kind.LeftParenthesis ∷ plain kind.Minus ∷ number GREATEST_INTEGER ∷ plain kind.Minus ∷ number 1
    ∷ plain kind.RightParenthesis ∷ []

-- the words of the literal that is this value: one, or of a negative integer four, so that no template is read otherwise by a value's sign
abbrev pub literal : Value → List Word
literal value.Null = plain kind.Null ∷ []
literal (value.Int (pos n)) = number n ∷ []
literal (value.Int (negsuc n)) =
    if nat_lt n GREATEST_INTEGER
    then plain kind.LeftParenthesis ∷ plain kind.Minus ∷ number (suc n) ∷ plain kind.RightParenthesis ∷ [] else least
literal (value.Text t) = quoted t ∷ []

-- the words of a template with the literals of these values in place of its holes
abbrev pub filled : List Part → List Value → List Word
filled [] vs = []
filled (word w ∷ ps) vs = w ∷ filled ps vs
filled (hole ∷ ps) [] = filled ps []
filled (hole ∷ ps) (v ∷ vs) = literal v ++ filled ps vs

-- how many holes there are
abbrev pub holes : List Part → ℕ
holes [] = 0
holes (word w ∷ ps) = holes ps
holes (hole ∷ ps) = suc (holes ps)

-- The text is the template with the values in place of its holes, one for each: it has no fault, and its
-- words are those of the template with the literals in place of the holes.
pub record Fills (template : List ℕ) (values : List Value) (text : List ℕ) : Type 0 where
  pub parts : List Part
  pub of_template : IsTemplate template parts
  pub one_each : holes parts ≡ length values
  pub no_fault : fault_of text ≡ None
  pub words : words_of text ≡ filled parts values
