use Rattle.std.proofs.Common.{◌+◌, arith, refl}
use Rattle.iv_numbers.specs.declared.gap_layout.GapLayout.{GapLayout}
use Rattle.iv_numbers.proofs.PartsLemmas.{last_inserted}
use Rattle.iv_numbers.proofs.gap_layout.insert_last.Goals as goal

pub returns-clause-held : goal.returns-clause-held
returns-clause-held c =
    let p : GapLayout = c.args.parts in
    let w = c.requires.within in
    let free = c.requires.free in let back = w.back in
    last_inserted c.args.places.now p (record { start = p.start; gap_start = p.gap_start; gap_end = p.gap_end; end = p.end + 1 }) c.args.row w
    (record { front = w.front; gap = w.gap; back = omega arith; within = omega arith }) refl refl refl refl
