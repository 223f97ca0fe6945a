use Rattle.std.proofs.Common.{List, length, subst, sym}
use Rattle.iv_store_faults.specs.Types.{StoredRow}
use Rattle.iv_store_following.specs.Following.{Followed}
use Rattle.iv_store_following.specs.Turns.{AllStay}
use Rattle.iv_store_faults.specs.Watching.{IsShownBy}
use Rattle.iv_store_faults.proofs.Shows.{on_err, shown_after, shown_still}
use Rattle.iv_store_faults.proofs.faults.Faults.moved.Goals as goal

pub returns-clause-ok : goal.returns-clause-ok
returns-clause-ok c = λ rows holds shows.
    shown_after c.self.inside.constraints.items c.args.change.now 7 c.args.groups.now c.moved.new.groups c.self.inside.violating c.moved.new.violating rows c.self.invariant.named c.recall_counted_keys.ensures
    (subst (λ cs. Followed cs c.args.change.now 7 c.args.groups.now c.moved.new.groups c.self.inside.violating c.moved.new.violating) c.as_slice-2.ensures.value c.in_ok-moved.ensures.ok)
    holds (subst (λ w. IsShownBy rows w c.args.groups.now) (sym c.self.view_is) shows)

pub returns-in_err-moved-clause-err : goal.returns-in_err-moved-clause-err
returns-in_err-moved-clause-err c =
    on_err _ c.from_residual.result (λ (rows : List StoredRow) shows.
    shown_still c.self.inside.constraints.items (length c.self.inside.constraints.items) c.args.groups.now c.moved.new.groups c.self.inside.violating c.moved.new.violating rows c.self.invariant.named
    (subst (λ cs. AllStay cs (length cs) c.args.groups.now c.moved.new.groups c.self.inside.violating c.moved.new.violating) c.as_slice-2.ensures.value c.in_err-moved.ensures.err)
    (subst (λ w. IsShownBy rows w c.args.groups.now) (sym c.self.view_is) shows))
