use Rattle.std.proofs.Common.{◌≡◌, ℕ, ◌+◌, List, length, remove, ap, sym, ◌∙◌, subst}
use Rattle.iv_numbers.specs.Kept.{IsKept}
use Rattle.iv_numbers.specs.Rows.{without_row}
use Rattle.iv_numbers.specs.GapLayout.{held}
use Rattle.iv_numbers.proofs.RowsKept.{whole_after, kept_removed}
use Rattle.iv_numbers.proofs.row_numbers.RowNumbers.remove.Goals as goal

pub invariant_of-self : goal.invariant_of-self
invariant_of-self c =
    let old : List ℕ = c.self.inside.places.items in
    let new : List ℕ = c.remove_at-self-inside.new.places in
    let row = c.args.row in
    let at = c.place_of-at.result in
    let rows_are : held old c.self.inside.live ≡ c.args.self.now.rows = ap (λ v. v.rows) c.self.view_is in
    let lent : c.as_mut_slice.result.now ≡ old = c.as_mut_slice.ensures.value in
    let len : length new ≡ length old = c.remove_at-self-inside.auto.places ∙ ap length lent in
    let whole = whole_after new old c.self.inside.places.len (len ∙ sym c.self.inside.places.ok.0) in
    let held_is : held new c.remove_at-self-inside.result ≡ remove (held old c.self.inside.live) at =
    c.remove_at-self-inside.ensures.held ∙ ap (λ (xs : List ℕ). remove (held xs c.self.inside.live) at) lent in
    let without_is : remove (held old c.self.inside.live) at ≡ without_row row (held old c.self.inside.live) =
    subst (λ (rs : List ℕ). remove rs at ≡ without_row row rs) (sym rows_are) c.place_of-at.ensures.removed in
    subst (λ (xs : List ℕ). IsKept xs c.remove_at-self-inside.result (c.self.inside.room + 1)) (sym whole)
    (kept_removed old new c.self.inside.live c.remove_at-self-inside.result c.self.inside.room at row c.self.invariant len c.remove_at-self-inside.ensures.within
    c.remove_at-self-inside.ensures.size held_is without_is)
