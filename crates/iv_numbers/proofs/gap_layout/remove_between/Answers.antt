use Rattle.std.proofs.Common.{ℕ, ◌+◌, List, remove, arith, refl, ap, ◌∙◌}
use Rattle.iv_numbers.specs.declared.gap_layout.GapLayout.{GapLayout}
use Rattle.iv_numbers.proofs.PartsLemmas.{removed_at_gap}
use Rattle.iv_numbers.proofs.gap_layout.remove_between.Goals as goal

pub returns-clause-held : goal.returns-clause-held
returns-clause-held c =
    let p : GapLayout = c.move_gap-moved.result in
    let old = c.requires.within in let f = old.front in let g = old.gap in let b = old.back in let at_in = c.requires.at in
    let m = c.move_gap-moved.ensures in
    let w = m.within in let front = w.front in let gap = w.gap in let back = w.back in
    let start = m.start in let gap_start = m.gap_start in let wide = m.gap in let end = m.end in
    removed_at_gap c.move_gap-moved.new.places p (record { start = p.start; gap_start = p.gap_start; gap_end = p.gap_end + 1; end = p.end }) c.args.at w
    (record { front = front; gap = omega arith; back = omega arith; within = w.within }) (omega arith) (omega arith) refl refl refl refl
    ∙ ap (λ (xs : List ℕ). remove xs c.args.at) m.held
