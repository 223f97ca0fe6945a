-- The word of a token at a place is the word at that place.
use Rattle.std.specs.Prelude.{◌≡◌, ℕ, Option, option_map, List, slice_get}
use Rattle.std.proofs.Common.{sym, ◌∙◌, ap}
use Rattle.std.proofs.lemmas.Option.{slice_get-map}
use Rattle.iv_lex.specs.declared.token.Token.{Token}
use Rattle.iv_lex.specs.Words.{Word, word_of, words}

pub found_at : {A : Type 0} (f : Option Word → A) (text : List ℕ) (ts : List Token) (p : ℕ) (o : Option Token) → o ≡ slice_get ts p
    → f (option_map (word_of text) o) ≡ f (slice_get (words text ts) p)
found_at f text ts p o e = ap f (ap (option_map (word_of text)) e ∙ sym (slice_get-map (word_of text) ts p))
