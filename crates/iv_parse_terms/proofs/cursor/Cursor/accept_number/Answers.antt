use Rattle.std.proofs.Common.{sym, subst}
use Rattle.iv_parse_terms.specs.After.{after_number}
use Rattle.iv_parse_terms.specs.Reading.{number_in, TriesPart}
use Rattle.iv_parse_terms.proofs.Likes.{settled_by, settles_within, one_number}
use Rattle.iv_parse_terms.proofs.cursor.Cursor.accept_number.Goals as goal

pub settle-requires : goal.settle-requires
settle-requires c = settles_within number_in c.look.new.self.words c.look.new.self.place _ c.number_here-found.result c.number_here-found.ensures.found c.number_here-found.ensures.few

pub returns : goal.returns
returns c =
    subst (λ x. TriesPart after_number c.args.self.now x c.settle.new.self) (sym c.settle.ensures.found)
    (settled_by after_number number_in one_number c.args.self.now c.look.new.self c.settle.new.self c.number_here-found.result c.look.ensures c.number_here-found.ensures.found c.settle.ensures.cursor)
