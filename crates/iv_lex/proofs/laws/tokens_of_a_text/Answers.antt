use Rattle.iv_lex.proofs.Sequence.{tokens_found, no_other_tokens}
use Rattle.iv_lex.proofs.laws.tokens_of_a_text.Goals as goal

pub returns-clause-found : goal.returns-clause-found
returns-clause-found c = tokens_found

pub returns-clause-no_others : goal.returns-clause-no_others
returns-clause-no_others c = no_other_tokens
