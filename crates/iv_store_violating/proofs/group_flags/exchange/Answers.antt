use Rattle.std.proofs.Common.{◌≡◌, ◌<◌, length, get_or, sym, subst, ◌∙◌, arith}
use Rattle.iv_store_violating.proofs.Exchanges.{exchanged, exchanged_positions, read_zero}
use Rattle.iv_store_violating.proofs.group_flags.exchange.Goals as goal

pub returns-clause-paired : goal.returns-clause-paired
returns-clause-paired c =
    let i_in : c.args.i < length c.args.order.now.items = subst (λ n. c.args.i < n) c.args.order.now.ok.0 c.requires.first in
    let j_in : c.args.j < length c.args.order.now.items = subst (λ n. c.args.j < n) c.args.order.now.ok.0 c.requires.second in
    exchanged c.args.order.now.items c.args.position.now.items c.args.flagged c.args.i c.args.j c.index-one.result.now c.index-other.result.now c.requires.paired i_in j_in
    (read_zero c.args.order.now.items c.args.i c.index-one.result.now i_in c.index-one.ensures)
    (read_zero c.args.order.now.items c.args.j c.index-other.result.now j_in c.index-other.ensures)

pub returns-clause-positions : goal.returns-clause-positions
returns-clause-positions c =
    let i_in : c.args.i < length c.args.order.now.items = subst (λ n. c.args.i < n) c.args.order.now.ok.0 c.requires.first in
    let j_in : c.args.j < length c.args.order.now.items = subst (λ n. c.args.j < n) c.args.order.now.ok.0 c.requires.second in
    exchanged_positions c.args.order.now.items c.args.position.now.items c.args.flagged c.args.i c.args.j c.index-one.result.now c.index-other.result.now c.requires.paired i_in j_in
    (read_zero c.args.order.now.items c.args.i c.index-one.result.now i_in c.index-one.ensures)
    (read_zero c.args.order.now.items c.args.j c.index-other.result.now j_in c.index-other.ensures)
