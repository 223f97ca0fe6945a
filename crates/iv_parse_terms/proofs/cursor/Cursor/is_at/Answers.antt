use Rattle.std.proofs.Common.{refl}
use Rattle.iv_parse_terms.proofs.Likes.{peeked_by}
use Rattle.iv_parse_terms.proofs.cursor.Cursor.is_at.Goals as goal

pub returns-then-is_here : goal.returns-then-is_here
returns-then-is_here c =
    peeked_by c.args.self.now c.look.new.self c.look.new.self c.args.kind c.is_here.result _ c.look.ensures c.is_here.ensures.found c.if-is_here.true refl

pub returns : goal.returns
returns c =
    peeked_by c.args.self.now c.look.new.self c.miss.new.self c.args.kind c.is_here.result _ c.look.ensures c.is_here.ensures.found c.if-is_here.false c.miss.ensures
