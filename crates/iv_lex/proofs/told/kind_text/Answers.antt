use Rattle.std.proofs.Common.{ap, ◌∙◌}
use Rattle.iv_lex.specs.Reserved.{reserved_words}
use Rattle.iv_lex.specs.Told.{kind_text, or_else, symbols, text_among}
use Rattle.iv_lex.proofs.told.kind_text.Goals as goal

pub returns : goal.returns
unfolding kind_text
returns c =
    c.or_else.ensures ∙ (ap (λ t. or_else t c.text_among-2.result.now) c.text_among.ensures
    ∙ ap (λ t. or_else (text_among symbols c.args.kind) t) c.text_among-2.ensures)
