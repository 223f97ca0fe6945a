use Rattle.std.proofs.Common.{◌≡◌, ℕ, ◌+◌, ◌-◌, remove, arith, refl, ap, sym, ◌∙◌}
use Rattle.iv_numbers.specs.declared.gap_layout.GapLayout.{GapLayout}
use Rattle.iv_numbers.specs.GapLayout.{held, size}
use Rattle.iv_numbers.proofs.PartsLemmas.{first_removed, last_removed}
use Rattle.iv_numbers.proofs.gap_layout.remove_at.Goals as goal

pub returns-then-parts-clause-held : goal.returns-then-parts-clause-held
returns-then-parts-clause-held c =
    let p : GapLayout = c.args.parts in
    let w = c.requires.within in
    let front = w.front in
    let first : c.args.at ≡ 0 = c.if-at-eq0.true in
    let some = c.if-parts.true in
    first_removed c.args.places.now p (record { start = p.start + 1; gap_start = p.gap_start; gap_end = p.gap_end; end = p.end }) w
    (record { front = omega arith; gap = w.gap; back = w.back; within = w.within }) some refl refl refl refl
    ∙ ap (λ (at : ℕ). remove (held c.args.places.now p) at) (sym first)

pub returns-then-parts-2-clause-held : goal.returns-then-parts-2-clause-held
returns-then-parts-2-clause-held c =
    let p : GapLayout = c.args.parts in
    let w = c.requires.within in
    let back = w.back in let within = w.within in
    let some = c.if-parts-2.true in
    let last : c.args.at + 1 ≡ size p = c.if-at-size.true ∙ c.size.ensures in
    last_removed c.args.places.now p (record { start = p.start; gap_start = p.gap_start; gap_end = p.gap_end; end = p.end - 1 }) c.args.at w
    (record { front = w.front; gap = w.gap; back = omega arith; within = omega arith }) some last refl refl refl (omega arith)
