use Rattle.iv_numbers.proofs.RowsFound.{found_behind, found_before, rising_back, rising_front}
use Rattle.iv_numbers.proofs.held_rows.find.Goals as goal

pub search-requires : goal.search-requires
search-requires c = rising_back c.args.front.now c.args.back.now c.requires.rising

pub search-requires-2 : goal.search-requires-2
search-requires-2 c = rising_front c.args.front.now c.args.back.now c.requires.rising

pub returns-then-is_behind : goal.returns-then-is_behind
returns-then-is_behind c =
    let here = c.is_behind.ensures.behind c.if-is_behind.true in
    rw c.further.ensures (found_behind c.args.front.now c.args.back.now c.args.row c.search.result c.search.ensures.stands c.requires.rising here.0 here.1)

pub returns : goal.returns
returns c = found_before c.args.front.now c.args.back.now c.args.row c.search-2.result c.search-2.ensures.stands c.requires.rising (c.is_behind.ensures.before c.if-is_behind.false)
