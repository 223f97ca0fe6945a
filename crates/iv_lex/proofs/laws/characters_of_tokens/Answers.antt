use Rattle.iv_lex.proofs.Characters.{tokens_have_characters}
use Rattle.iv_lex.proofs.laws.characters_of_tokens.Goals as goal

pub returns : goal.returns
returns c = tokens_have_characters
