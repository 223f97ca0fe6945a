use Rattle.std.proofs.Common.{◌≡◌, ℕ, ◌+◌, ◌-◌, ◌/◌, ◌≤◌, length, get_or, arith, refl, ap, ◌∙◌}
use Rattle.iv_numbers.specs.declared.gap_layout.GapLayout.{GapLayout}
use Rattle.iv_numbers.proofs.PartsLemmas.{parts_moved}
use Rattle.iv_numbers.proofs.gap_layout.widened_behind.Goals as goal

pub returns-clause-held : goal.returns-clause-held
returns-clause-held c =
    let p : GapLayout = c.args.parts in
    let xs = c.args.places.now in
    let w = c.requires.within in
    let front = w.front in let gap = w.gap in let back = w.back in let within = w.within in
    let len = c.copy_within.ensures.len in
    let free : ℕ = length xs - p.end in
    let step : ℕ = free - free / 2 in
    let most : step ≤ free = omega arith in
    let q : GapLayout = record { start = p.start; gap_start = p.gap_start; gap_end = p.gap_end + step; end = p.end + step } in
    parts_moved xs c.copy_within.new.self p q w (record { front = front; gap = omega arith; back = omega arith; within = omega arith }) refl (omega arith)
    (λ k lt. c.copy_within.ensures.by_index.1 (p.start + k) 0 (omega arith))
    (λ k lt. c.copy_within.ensures.by_index.0 (q.gap_end + k) 0 (omega arith) (omega arith) ∙ ap (λ (x : ℕ). get_or xs x 0) (let e : p.gap_end + (q.gap_end + k - q.gap_end) ≡ p.gap_end + k = omega arith in e))
