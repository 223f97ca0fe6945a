use Rattle.std.proofs.Common.{◌≡◌, ◌∙◌, ◌<◌, ◌≤◌, ◌∷◌, [], Some, IfSome, length, arith, sym, ap, subst}
use Rattle.std.specs.Prelude.{slice_get}
use Rattle.std.specs.Option.{option_copied}
use Rattle.iv_expr.specs.Scopes.{Rises}
use Rattle.iv_machine.specs.Databases.{rows_after}
use Rattle.iv_store_rows.specs.declared.marked_point.MarkedPoint.{MarkedPoint}
use Rattle.iv_store_rows.specs.Histories.{History, history_of, noted_at, rows_before}
use Rattle.iv_store_rows.proofs.Marks.{indexed, noted_is}
use Rattle.iv_store_rows.proofs.Histories.{if_made, if_rises, if_some, never_none}
use Rattle.iv_store_rows.proofs.versions.Versions.last_change.Goals as goal

pub returns-then-index-mark-clause-made : goal.returns-then-index-mark-clause-made
returns-then-index-mark-clause-made c =
    let s = c.self.inside in
    subst (λ (h : History). IfSome (option_copied c.last.result) (λ change. rows_after (rows_before change h.rows) (change ∷ []) ≡ h.rows)) c.self.view_is
    (if_made (history_of s.slots.slots s.next s.journal s.marks.items) (option_copied c.last.result) c.self.invariant.sound c.last.ensures)

pub returns-then-index-mark-clause-before : goal.returns-then-index-mark-clause-before
returns-then-index-mark-clause-before c =
    let s = c.self.inside in
    subst (λ (h : History). IfSome (option_copied c.last.result) (λ change. Rises 0 (rows_before change h.rows))) c.self.view_is
    (if_rises (history_of s.slots.slots s.next s.journal s.marks.items) (option_copied c.last.result) c.self.invariant.sound c.last.ensures)

pub returns-then-index-mark-clause-above : goal.returns-then-index-mark-clause-above
returns-then-index-mark-clause-above c =
    let s = c.self.inside in
    let m : MarkedPoint = c.index.result.now in
    let there : c.args.place < length s.marks.items = subst (λ (h : History). c.args.place < length h.marks) (sym c.self.view_is) c.requires in
    let at : slice_get s.marks.items c.args.place ≡ Some m = indexed s.marks.items c.args.place m there ∙ ap (λ (x : MarkedPoint). Some x) (sym c.index.ensures) in
    let above : m.noted < length s.journal = omega (arith, c.if-index-mark.true, c.mark.ensures) in
    if_some c.last.result
    (subst (λ (h : History). noted_at h.marks c.args.place < length h.journal) c.self.view_is
    (subst (λ n. n < length s.journal) (sym (noted_is s.marks.items c.args.place m at)) above))

pub returns-then-index-mark-clause-none : goal.returns-then-index-mark-clause-none
returns-then-index-mark-clause-none c =
    let s = c.self.inside in
    let any : 0 < length s.journal = omega (arith, c.if-index-mark.true, c.mark.ensures) in
    λ e. absurd (never_none s.journal any (sym c.last.ensures ∙ ap option_copied e))

pub returns-else-index-mark-clause-none : goal.returns-else-index-mark-clause-none
returns-else-index-mark-clause-none c =
    let s = c.self.inside in
    let m : MarkedPoint = c.index.result.now in
    let there : c.args.place < length s.marks.items = subst (λ (h : History). c.args.place < length h.marks) (sym c.self.view_is) c.requires in
    let at : slice_get s.marks.items c.args.place ≡ Some m = indexed s.marks.items c.args.place m there ∙ ap (λ (x : MarkedPoint). Some x) (sym c.index.ensures) in
    let all : length s.journal ≤ m.noted = omega (arith, c.if-index-mark.false, c.mark.ensures) in
    λ _. subst (λ (h : History). length h.journal ≤ noted_at h.marks c.args.place) c.self.view_is
    (subst (λ n. length s.journal ≤ n) (sym (noted_is s.marks.items c.args.place m at)) all)
