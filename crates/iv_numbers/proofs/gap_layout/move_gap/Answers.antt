use Rattle.std.proofs.Common.{◌+◌, ◌-◌, arith, refl}
use Rattle.iv_numbers.specs.declared.gap_layout.GapLayout.{GapLayout}
use Rattle.iv_numbers.proofs.PartsLemmas.{gap_moved_down, gap_moved_up}
use Rattle.iv_numbers.proofs.gap_layout.move_gap.Goals as goal

pub returns-then-gap_start-parts-clause-held : goal.returns-then-gap_start-parts-clause-held
returns-then-gap_start-parts-clause-held c =
    let p : GapLayout = c.args.parts in
    let w = c.requires.within in
    let front = w.front in let gap = w.gap in let back = w.back in let within = w.within in let at_in = c.requires.at in
    let len = c.copy_within.ensures.len in
    let q : GapLayout = record { start = p.start; gap_start = p.start + c.args.at; gap_end = p.start + c.args.at + (p.gap_end - p.gap_start); end = p.end } in
    let less = c.if-gap_start-parts.true in
    gap_moved_down c.args.places.now c.copy_within.new.self p q c.args.at w
    (record { front = omega arith; gap = omega arith; back = omega arith; within = omega arith }) (omega arith) refl refl refl refl
    c.copy_within.ensures.by_index.0 c.copy_within.ensures.by_index.1 c.copy_within.ensures.by_index.2

pub returns-else-gap_start-parts-clause-held : goal.returns-else-gap_start-parts-clause-held
returns-else-gap_start-parts-clause-held c =
    let p : GapLayout = c.args.parts in
    let w = c.requires.within in
    let front = w.front in let gap = w.gap in let back = w.back in let within = w.within in let at_in = c.requires.at in
    let len = c.copy_within-else-gap_start-parts.ensures.len in
    let q : GapLayout = record { start = p.start; gap_start = p.start + c.args.at; gap_end = p.start + c.args.at + (p.gap_end - p.gap_start); end = p.end } in
    let more = c.if-gap_start-parts.false in
    gap_moved_up c.args.places.now c.copy_within-else-gap_start-parts.new.self p q c.args.at w
    (record { front = omega arith; gap = omega arith; back = omega arith; within = omega arith }) (omega arith) at_in refl refl refl refl
    c.copy_within-else-gap_start-parts.ensures.by_index.0 c.copy_within-else-gap_start-parts.ensures.by_index.1 c.copy_within-else-gap_start-parts.ensures.by_index.2
