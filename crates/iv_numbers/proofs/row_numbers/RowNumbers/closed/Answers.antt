use Rattle.std.specs.Prelude.{slice_range}
use Rattle.std.proofs.Common.{◌≡◌, ℕ, List, length, arith, refl, ap, sym, ◌∙◌, subst}
use Rattle.iv_numbers.specs.declared.gap_layout.GapLayout.{GapLayout}
use Rattle.iv_numbers.specs.Rows.{IsRising}
use Rattle.iv_numbers.specs.GapLayout.{held}
use Rattle.iv_numbers.proofs.PartsLemmas.{closed_held}
use Rattle.iv_numbers.proofs.RowsKept.{whole_after}
use Rattle.iv_numbers.proofs.row_numbers.RowNumbers.closed.Goals as goal

pub returns : goal.returns
returns c =
    let old : List ℕ = c.self.inside.places.items in
    let new : List ℕ = c.move_gap-self-inside.new.places in
    let live : GapLayout = c.move_gap-self-inside.result in
    let k = c.self.invariant.within in let f = k.front in let g = k.gap in let b = k.back in
    let m = c.move_gap-self-inside.ensures in let w = m.within in let front = w.front in let gap = w.gap in let back = w.back in
    let start = m.start in let gap_start = m.gap_start in let wide = m.gap in let end = m.end in let count = c.size.ensures in
    let lent : c.as_mut_slice.result.now ≡ old = c.as_mut_slice.ensures.value in
    let len : length new ≡ length old = c.move_gap-self-inside.auto.places ∙ ap length lent in
    let whole = whole_after new old c.self.inside.places.len (len ∙ sym c.self.inside.places.ok.0) in
    let held_is : held new live ≡ held old c.self.inside.live = m.held ∙ ap (λ (xs : List ℕ). held xs c.self.inside.live) lent in
    let rows_are : held old c.self.inside.live ≡ c.args.self.now.rows = ap (λ v. v.rows) c.self.view_is in
    let shut : live.gap_end ≡ live.end = omega arith in
    let value : slice_range c.as_slice.result.now live.start live.gap_start ≡ c.args.self.now.rows =
    ap (λ (xs : List ℕ). slice_range xs live.start live.gap_start) (c.as_slice.ensures.value ∙ whole) ∙ sym (closed_held new live shut) ∙ held_is ∙ rows_are in (
      (refl, (λ _. tt), ap (λ (xs : List ℕ). record { rows = held xs live; room = c.self.inside.room }) whole ∙ ap (λ (rs : List ℕ). record { rows = rs; room = c.self.inside.room }) held_is ∙ c.self.view_is),
      record { stays = tt; value = value; rising = subst IsRising (sym (value ∙ sym rows_are)) c.self.invariant.rising },
    )
