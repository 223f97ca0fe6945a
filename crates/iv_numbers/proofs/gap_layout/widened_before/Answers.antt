use Rattle.std.proofs.Common.{◌≡◌, ℕ, ◌+◌, ◌-◌, ◌/◌, ◌≤◌, get_or, arith, refl, ap, ◌∙◌}
use Rattle.iv_numbers.specs.declared.gap_layout.GapLayout.{GapLayout}
use Rattle.iv_numbers.proofs.PartsLemmas.{parts_moved}
use Rattle.iv_numbers.proofs.gap_layout.widened_before.Goals as goal

pub returns-clause-held : goal.returns-clause-held
returns-clause-held c =
    let p : GapLayout = c.args.parts in
    let xs = c.args.places.now in
    let w = c.requires.within in
    let front = w.front in let gap = w.gap in let back = w.back in let within = w.within in
    let len = c.copy_within.ensures.len in
    let start : ℕ = p.start / 2 in
    let most : start ≤ p.start = omega arith in
    let q : GapLayout = record { start = start; gap_start = start + (p.gap_start - p.start); gap_end = p.gap_end; end = p.end } in
    parts_moved xs c.copy_within.new.self p q w (record { front = omega arith; gap = omega arith; back = back; within = omega arith }) (omega arith) refl
    (λ k lt. c.copy_within.ensures.by_index.0 (start + k) 0 (omega arith) (omega arith) ∙ ap (λ (x : ℕ). get_or xs x 0) (let e : p.start + (start + k - start) ≡ p.start + k = omega arith in e))
    (λ k lt. c.copy_within.ensures.by_index.2 (p.gap_end + k) 0 (omega arith))
