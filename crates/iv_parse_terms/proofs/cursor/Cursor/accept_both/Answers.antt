use Rattle.iv_parse_terms.proofs.Likes.{back}
use Rattle.iv_parse_terms.proofs.cursor.Cursor.accept_both.Goals as goal

pub returns : goal.returns
returns c =
    back c.args.self.now c.accept.new.self c.accept-2.new.self c.go_back.new.self c.args.first c.args.second c.place-place.result c.place-place.ensures
    (c.if-not-accept.ensures) (c.if-accept.ensures) c.go_back.ensures
