use Rattle.std.proofs.Common.{[], ◌∷◌, subst, sym}
use Rattle.iv_machine.specs.Databases.{rows_after}
use Rattle.iv_laws_kept.specs.Moves.{taken_back}
use Rattle.iv_store_following.specs.Following.{Followed}
use Rattle.iv_store_faults.specs.Watching.{IsShownBy}
use Rattle.iv_store_faults.proofs.Shows.{shown_back}
use Rattle.iv_store_faults.proofs.faults.Faults.moved_back.Goals as goal

pub returns-clause-back : goal.returns-clause-back
returns-clause-back c = λ rows holds shows.
    shown_back c.self.inside.constraints.items c.args.change.now 6 c.args.groups.now c.moved_back.new.groups c.self.inside.violating c.moved_back.new.violating rows c.self.invariant.named c.recall_counted_keys.ensures
    (subst (λ cs. Followed cs (taken_back c.args.change.now) 6 c.args.groups.now c.moved_back.new.groups c.self.inside.violating c.moved_back.new.violating) c.as_slice-2.ensures.value c.moved_back.ensures)
    holds (subst (λ w. IsShownBy (rows_after rows (c.args.change.now ∷ [])) w c.args.groups.now) (sym c.self.view_is) shows)
