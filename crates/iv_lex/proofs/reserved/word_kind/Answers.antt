use Rattle.iv_lex.specs.Reserved.{word_kind}
use Rattle.iv_lex.proofs.reserved.word_kind.Goals as goal

pub returns : goal.returns
unfolding word_kind
returns c = c.word_among.ensures
