use Rattle.std.proofs.Common.{sym, subst}
use Rattle.iv_parse_terms.specs.After.{after_name}
use Rattle.iv_parse_terms.specs.Reading.{name_in, TriesPart}
use Rattle.iv_parse_terms.proofs.Likes.{one_looked_by, refused, settled_by, settles_within, one_name}
use Rattle.iv_parse_terms.proofs.cursor.Cursor.accept_name.Goals as goal

pub returns-in_err-found : goal.returns-in_err-found
returns-in_err-found c = λ o l. (one_looked_by c.args.self.now c.look.new.self o c.look.ensures l, refused c.from_residual.result _ _ _ c.from_residual.ensures.0)

pub settle-requires : goal.settle-requires
settle-requires c = settles_within name_in c.look.new.self.words c.look.new.self.place _ c.in_ok-found.found c.in_ok-found.ensures.found c.in_ok-found.ensures.few

pub returns : goal.returns
returns c =
    subst (λ x. TriesPart after_name c.args.self.now x c.settle.new.self) (sym c.settle.ensures.found)
    (settled_by after_name name_in one_name c.args.self.now c.look.new.self c.settle.new.self c.in_ok-found.found c.look.ensures c.in_ok-found.ensures.found c.settle.ensures.cursor)
