use Rattle.std.proofs.Common.{sym, ◌∙◌}
use Rattle.iv_lex.specs.Words.{folded_text, unquoted_text}
use Rattle.iv_parse_terms.proofs.Fronts.{word_is}
use Rattle.iv_parse_terms.proofs.word.token_is.Goals as goal

pub returns : goal.returns
returns c = λ text.
    c.eq.ensures ∙ sym (word_is c.args.kind c.args.token.now.kind (folded_text text c.args.token.now) (unquoted_text text c.args.token.now) c.requires)
