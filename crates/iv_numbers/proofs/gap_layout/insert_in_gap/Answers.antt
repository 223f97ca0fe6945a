use Rattle.std.proofs.Common.{◌+◌, arith, refl}
use Rattle.iv_numbers.specs.declared.gap_layout.GapLayout.{GapLayout}
use Rattle.iv_numbers.proofs.PartsLemmas.{inserted_in_gap}
use Rattle.iv_numbers.proofs.gap_layout.insert_in_gap.Goals as goal

pub returns-clause-held : goal.returns-clause-held
returns-clause-held c =
    let p : GapLayout = c.args.parts in
    let w = c.requires.within in
    let free = c.requires.gap in let front = w.front in
    inserted_in_gap c.args.places.now p (record { start = p.start; gap_start = p.gap_start + 1; gap_end = p.gap_end; end = p.end }) c.args.row w
    (record { front = omega arith; gap = omega arith; back = w.back; within = w.within }) refl refl refl refl
