use Rattle.std.proofs.Common.{sym, ◌∙◌, arith}
use Rattle.iv_parse_terms.proofs.Likes.{accepted_by, missed_by, within}
use Rattle.iv_parse_terms.proofs.cursor.Cursor.accept_in_place.Goals as goal

pub pass-requires : goal.pass-requires
pass-requires c =
    let inside = within c.args.kind c.look.new.self.words c.look.new.self.place (sym c.is_here.ensures.found ∙ c.if-is_here.true) in
    omega (arith, inside, c.is_here.ensures.few)

pub returns-then-is_here : goal.returns-then-is_here
returns-then-is_here c =
    accepted_by c.args.self.now c.look.new.self c.pass.new.self c.args.kind c.is_here.result c.look.ensures c.is_here.ensures.found c.if-is_here.true c.pass.ensures

pub returns : goal.returns
returns c =
    missed_by c.args.self.now c.look.new.self c.miss.new.self c.args.kind c.is_here.result c.look.ensures c.is_here.ensures.found c.if-is_here.false c.miss.ensures
