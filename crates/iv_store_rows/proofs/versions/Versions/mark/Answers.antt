use Rattle.std.proofs.Common.{List, sym, ap, subst}
use Rattle.iv_store_rows.specs.declared.marked_point.MarkedPoint.{MarkedPoint}
use Rattle.iv_store_rows.specs.Histories.{Kept}
use Rattle.iv_store_rows.proofs.Keeping.{kept_marked}
use Rattle.iv_store_rows.proofs.versions.Versions.mark.Goals as goal

pub invariant_of-self-2 : goal.invariant_of-self-2
invariant_of-self-2 c =
    let s = c.self.inside in
    subst (λ (l : List MarkedPoint). Kept s.slots.slots s.slots.numbers s.next s.journal l) (sym {A = List MarkedPoint} c.in_ok-push.ensures.items)
    (kept_marked s.slots.slots s.slots.numbers s.next s.journal s.marks.items (record { noted = c.mark.result; next = s.next })
    (ap (λ n. record { noted = n; next = s.next }) c.mark.ensures) c.self.invariant)
