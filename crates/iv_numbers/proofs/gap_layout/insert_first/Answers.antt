use Rattle.std.proofs.Common.{◌-◌, arith, refl}
use Rattle.iv_numbers.specs.declared.gap_layout.GapLayout.{GapLayout}
use Rattle.iv_numbers.proofs.PartsLemmas.{first_inserted}
use Rattle.iv_numbers.proofs.gap_layout.insert_first.Goals as goal

pub returns-clause-held : goal.returns-clause-held
returns-clause-held c =
    let p : GapLayout = c.args.parts in
    let w = c.requires.within in
    let free = c.requires.free in let front = w.front in
    first_inserted c.args.places.now p (record { start = p.start - 1; gap_start = p.gap_start; gap_end = p.gap_end; end = p.end }) c.args.row w
    (record { front = omega arith; gap = w.gap; back = w.back; within = w.within }) (omega arith) refl refl refl
