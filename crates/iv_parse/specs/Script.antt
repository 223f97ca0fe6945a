-- Scripts: the longest run of whole statements, and the fault where it ends too soon.
use Rattle.std.specs.Prelude.{◌≡◌, ◌≤◌, ◌-◌, ℕ, zero, suc, Bool, ◌&&◌, Option, Some, None, is_none, unwrap_or, List, [], ◌∷◌, ◌++◌, length, take, drop, slice_get}
use Rattle.iv_lex.specs.declared.kind.TokenKind.TheVariants as kind
use Rattle.iv_lex.specs.declared.token.Token.{Token}
use Rattle.iv_lex.specs.Words.{Word, plain, words}
use Rattle.iv_lex.specs.Tokens.{tokens_of}
use Rattle.iv_parse.specs.declared.parser.SyntaxFault.{SyntaxFault}
use Rattle.iv_parse.specs.Types.{Statement}
use Rattle.iv_parse.specs.Statements.{Reads}

-- the words are these statements, each with its semicolon
abbrev pub AreStatements : List Word → List Statement → Type 0
AreStatements ws [] = ws ≡ []
AreStatements ws (s ∷ ss) =
    (front : List Word) × (back : List Word) × Reads front s × AreStatements back ss × (ws ≡ front ++ plain kind.Semicolon ∷ back)

-- the words begin with a statement and its semicolon
abbrev pub BeginsStatement : List Word → Type 0
BeginsStatement ws = (s : Statement) × (front : List Word) × (rest : List Word) × Reads front s × (ws ≡ front ++ plain kind.Semicolon ∷ rest)

-- the place of the first token that is left, or else of the lexical fault
abbrev pub first_place : List Token → Option ℕ → Option ℕ
first_place [] fault = fault
first_place (t ∷ ts) fault = Some t.start

-- The script is these statements, and then tokens that begin with no further one; its fault is where those begin, or else at
-- the lexical fault.
pub record IsScript (text : List ℕ) (statements : List Statement) (fault : Option ℕ) : Type 0 where
  pub run : List Token
  pub left : List Token
  pub tokens : (tokens_of text).tokens ≡ run ++ left
  pub whole : AreStatements (words text run) statements
  pub longest : ¬ (BeginsStatement (words text left))
  pub place : fault ≡ first_place left (tokens_of text).fault

-- ---- where a script ends too soon

-- No statement begins with these words up to so many and with the one after them, whatever follows; where there are no more words,
-- none is these words.
abbrev pub NoneBegins : List Word → ℕ → Type 0
NoneBegins ws count = (others : List Word) → take (suc count) others ≡ take (suc count) ws → ¬ (BeginsStatement others)

-- These tokens are statements up to a place, and then none begins with the tokens up to the word and with it. Both count tokens.
pub record IsEnd (text : List ℕ) (tokens : List Token) (statements : List Statement) (place word : ℕ) : Type 0 where
  pub run : List Token
  pub whole : tokens ≡ run ++ drop place tokens
  pub are : AreStatements (words text run) statements
  pub order : place ≤ word
  pub none : NoneBegins (words text (drop place tokens)) (word - place)

-- the token before so many of these and one more; none before the first
abbrev pub token_before : List Token → ℕ → Option Token
token_before ts zero = None
token_before ts (suc n) = slice_get ts n

-- whether the text ends where a word is wanted: no token is left, and no lexical fault
abbrev pub ends_there : Option Token → Option ℕ → Bool
ends_there token fault = is_none token && is_none fault

-- The fault of a script: the statements before it, the place where the tokens after them begin, the place of the first word that
-- can't stand where it does, the token there and the one before it. Where no token is left that place is the lexical fault, or else
-- the end of the text.
pub record IsFault (text : List ℕ) (statements : List Statement) (f : SyntaxFault) : Type 0 where
  pub run : List Token
  pub left : List Token
  pub count : ℕ
  pub tokens : (tokens_of text).tokens ≡ run ++ left
  pub whole : AreStatements (words text run) statements
  pub at_is : Some f.at ≡ first_place left (tokens_of text).fault
  pub word_is : f.word ≡ unwrap_or (first_place (drop count left) (tokens_of text).fault) (length text)
  pub token_is : f.token ≡ slice_get (drop count left) 0
  pub before_is : f.before ≡ token_before left count
  pub cut_is : f.is_cut ≡ ends_there f.token (tokens_of text).fault
  pub none : NoneBegins (words text left) count
