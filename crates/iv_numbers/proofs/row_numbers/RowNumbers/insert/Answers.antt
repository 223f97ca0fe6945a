use Rattle.std.proofs.Common.{◌≡◌, ℕ, ◌<◌, List, length, insert, false, ap, sym, ◌∙◌, subst}
use Rattle.iv_numbers.specs.Kept.{IsKept}
use Rattle.iv_numbers.specs.Rows.{has_row, with_row}
use Rattle.iv_numbers.specs.GapLayout.{held}
use Rattle.iv_numbers.proofs.RowsKept.{whole_after, kept_inserted}
use Rattle.iv_numbers.proofs.row_numbers.RowNumbers.insert.Goals as goal

pub invariant_of-self : goal.invariant_of-self
invariant_of-self c =
    let old : List ℕ = c.self.inside.places.items in
    let new : List ℕ = c.insert_at-self-inside.new.places in
    let row = c.args.row in
    let at = c.args.at in
    let rows_are : held old c.self.inside.live ≡ c.args.self.now.rows = ap (λ v. v.rows) c.self.view_is in
    let room_is : c.self.inside.room ≡ c.args.self.now.room = ap (λ v. v.room) c.self.view_is in
    let lent : c.as_mut_slice.result.now ≡ old = c.as_mut_slice.ensures.value in
    let len : length new ≡ length old = c.insert_at-self-inside.auto.places ∙ ap length lent in
    let whole = whole_after new old c.self.inside.places.len (len ∙ sym c.self.inside.places.ok.0) in
    let held_is : held new c.insert_at-self-inside.result ≡ insert (held old c.self.inside.live) at row =
    c.insert_at-self-inside.ensures.held ∙ ap (λ (xs : List ℕ). insert (held xs c.self.inside.live) at row) lent in
    let with_is : insert (held old c.self.inside.live) at row ≡ with_row row (held old c.self.inside.live) =
    subst (λ (rs : List ℕ). insert rs at row ≡ with_row row rs) (sym rows_are) c.requires.inserted in
    let absent : has_row row (held old c.self.inside.live) ≡ false = subst (λ (rs : List ℕ). has_row row rs ≡ false) (sym rows_are) c.requires.absent in
    let less : c.args.room < c.self.inside.room = subst (λ (n : ℕ). c.args.room < n) (sym room_is) c.requires.room in
    subst (λ (xs : List ℕ). IsKept xs c.insert_at-self-inside.result c.args.room) (sym whole)
    (kept_inserted old new c.self.inside.live c.insert_at-self-inside.result c.self.inside.room c.args.room at row c.self.invariant len c.insert_at-self-inside.ensures.within
    c.insert_at-self-inside.ensures.size held_is with_is absent less)
