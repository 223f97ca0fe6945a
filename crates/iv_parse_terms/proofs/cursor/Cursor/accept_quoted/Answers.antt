use Rattle.std.proofs.Common.{sym, subst}
use Rattle.iv_parse_terms.specs.After.{after_quoted}
use Rattle.iv_parse_terms.specs.Reading.{quoted_in, TriesPart}
use Rattle.iv_parse_terms.proofs.Likes.{one_looked_by, refused, settled_by, settles_within, one_quoted}
use Rattle.iv_parse_terms.proofs.cursor.Cursor.accept_quoted.Goals as goal

pub returns-in_err-found : goal.returns-in_err-found
returns-in_err-found c = λ o l. (one_looked_by c.args.self.now c.look.new.self o c.look.ensures l, refused c.from_residual.result _ _ _ c.from_residual.ensures.0)

pub settle-requires : goal.settle-requires
settle-requires c = settles_within quoted_in c.look.new.self.words c.look.new.self.place _ c.in_ok-found.found c.in_ok-found.ensures.found c.in_ok-found.ensures.few

pub returns : goal.returns
returns c =
    subst (λ x. TriesPart after_quoted c.args.self.now x c.settle.new.self) (sym c.settle.ensures.found)
    (settled_by after_quoted quoted_in one_quoted c.args.self.now c.look.new.self c.settle.new.self c.in_ok-found.found c.look.ensures c.in_ok-found.ensures.found c.settle.ensures.cursor)
