-- Parts that come several times, or may be left out, as they are found at the front of words.
use Rattle.std.specs.Prelude.{ℕ, zero, suc, Option, Some, None, List, [], ◌∷◌, length}
use Rattle.iv_lex.specs.declared.kind.TokenKind.{TokenKind}
use Rattle.iv_lex.specs.declared.kind.TokenKind.TheVariants as kind
use Rattle.iv_lex.specs.Words.{Word}
use Rattle.iv_parse_terms.specs.After.{after, if_some, then_read}

abbrev pub give : {A : Type 0} → A → List Word → Option (A × List Word)
give a ws = Some (a, ws)

-- what is made of a part
abbrev pub read_as : {A B : Type 0} → (A → B) → (List Word → Option (A × List Word)) → List Word → Option (B × List Word)
read_as make part ws = then_read (part ws) (λ a. give (make a))

-- the part after this word, where the word is written
unfoldable pub read_optional : {A : Type 0} → TokenKind → (List Word → Option (A × List Word)) → List Word → Option (Option A × List Word)
read_optional k part ws = if_some (after k ws) (read_as Some part) (Some (None, ws))

module _ {A : Type 0} where
  abbrev pub with_first : A → List A → List Word → Option (List A × List Word)
  with_first a bs ws = Some (a ∷ bs, ws)

  -- the further parts at the front, of which there are at most so many
  abbrev pub read_more : (List Word → Option (A × List Word)) → ℕ → List Word → Option (List A × List Word)
  read_more part zero ws = if_some (after kind.Comma ws) (λ rest. None) (Some ([], ws))
  read_more part (suc n) ws =
      if_some (after kind.Comma ws)
      (λ rest. then_read (part rest) (λ a others. then_read (read_more part n others) (with_first a)))
      (Some ([], ws))

  -- the series at the front; there are fewer commas than words
  unfoldable pub read_series : (List Word → Option (A × List Word)) → List Word → Option (List A × List Word)
  read_series part ws = then_read (part ws) (λ a rest. then_read (read_more part (length rest) rest) (with_first a))

  abbrev pub close : A → List Word → Option (A × List Word)
  close a ws = if_some (after kind.RightParenthesis ws) (λ rest. Some (a, rest)) None

  -- the part at the front and the parenthesis that closes
  abbrev pub read_closed : (List Word → Option (A × List Word)) → List Word → Option (A × List Word)
  read_closed part ws = then_read (part ws) close

  unfoldable pub read_enclosed : (List Word → Option (A × List Word)) → List Word → Option (A × List Word)
  read_enclosed part ws = if_some (after kind.LeftParenthesis ws) (read_closed part) None

  -- the parts at the front, of which there are at most so many, up to where none begins
  abbrev pub read_sequence : (List Word → Option (Option A × List Word)) → ℕ → List Word → Option (List A × List Word)
  read_sequence part zero ws = then_read (part ws) (λ o rest. if_some o (λ a. None) (Some ([], ws)))
  read_sequence part (suc n) ws =
      then_read (part ws) (λ o rest. if_some o (λ a. then_read (read_sequence part n rest) (with_first a)) (Some ([], ws)))

  -- the parts at the front, up to where none begins
  unfoldable pub read_all : (List Word → Option (Option A × List Word)) → List Word → Option (List A × List Word)
  read_all part ws = read_sequence part (length ws) ws

module _ {A B : Type 0} where
  -- two parts in either order, each of which may be left out
  abbrev pub read_either_order : (List Word → Option (Option A × List Word)) → (List Word → Option (Option B × List Word)) → List Word → Option ((Option A × Option B) × List Word)
  read_either_order first second ws =
      then_read (first ws) (λ a rest. then_read (second rest) (λ b more.
      if_some a (λ x. Some ((Some x, b), more)) (then_read (first more) (λ c left. Some ((c, b), left)))))

-- the words after a word that may be left out
abbrev pub skip : TokenKind → List Word → List Word
skip k ws = if_some (after k ws) (λ rest. rest) ws
