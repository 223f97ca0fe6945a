use Rattle.std.specs.Prelude.{Some, None, option_and_then, option_copied}
use Rattle.std.proofs.Common.{sym, ◌∙◌, ap}
use Rattle.iv_parse_terms.specs.Reading.{number_in}
use Rattle.iv_parse_terms.proofs.Sources.{found_at}
use Rattle.iv_parse_terms.proofs.cursor.Cursor.number_here.Goals as goal

pub returns-in-Some-clause-found : goal.returns-in-Some-clause-found
returns-in-Some-clause-found c =
    rw (← c.self.view_is)
    (c.number_of.ensures c.self.inside.text.now ∙ found_at (option_and_then number_in) c.self.inside.text.now c.self.inside.tokens.now c.self.inside.place (Some c.in-Some.token.now) (ap option_copied (sym c.in-Some.is) ∙ c.token_at.ensures.token))

pub returns-in-None-clause-found : goal.returns-in-None-clause-found
returns-in-None-clause-found c =
    rw (← c.self.view_is)
    (found_at (option_and_then number_in) c.self.inside.text.now c.self.inside.tokens.now c.self.inside.place None (ap option_copied (sym c.in-None.is) ∙ c.token_at.ensures.token))
