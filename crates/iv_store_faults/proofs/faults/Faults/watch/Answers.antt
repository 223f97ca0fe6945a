use Rattle.std.proofs.Common.{◌<◌, ◌≤◌, ◌+◌, ◌++◌, ℕ, List, length, sym, ap, subst, ◌∙◌}
use Rattle.iv_store_groups.specs.Groups.{groups_of}
use Rattle.iv_laws_kept.specs.Kept.{AllNamed, Show}
use Rattle.iv_laws_kept.specs.GroupFlags.{violating_of}
use Rattle.iv_store_violating.specs.Shown.{shown}
use Rattle.iv_store_faults.specs.Types.{Constraint}
use Rattle.iv_store_faults.specs.Watching.{AreWatched, IsShownBy, Watching}
use Rattle.iv_store_faults.proofs.Taken.{shown_more, watched_more}
use Rattle.iv_store_faults.proofs.faults.Faults.watch.Goals as goal

pub returns-clause-shown : goal.returns-clause-shown
returns-clause-shown c = λ rows s shows none.
    let olds = c.self.inside.constraints.items in
    let seen = c.self.view_is in
    subst (λ (cs : List Constraint). IsShownBy rows (record { constraints = cs; violating = c.take_up.new.violating }) c.args.groups.now) (sym c.in_ok-take_up.ensures.ok)
    (shown_more olds c.args.more.now c.args.groups.now c.self.inside.violating c.take_up.new.violating rows c.self.invariant.named
    (subst (λ (w : Watching). AllNamed (w.constraints ++ c.args.more.now)) (sym seen) c.requires.named) c.recall_keys.ensures c.self.invariant.violating_count c.take_up.ensures.stay
    (subst (λ w. IsShownBy rows w c.args.groups.now) (sym seen) s)
    (subst (λ (w : Watching). Show rows (w.constraints ++ c.args.more.now) (shown c.args.groups.now.groups)) (sym seen) shows) none)

pub returns-clause-watched : goal.returns-clause-watched
returns-clause-watched c = λ watched.
    let olds = c.self.inside.constraints.items in
    let ok = c.in_ok-take_up.ensures.ok in
    let counted = c.take_up.ensures.taken_up.violating_count in
    subst (λ (cs : List Constraint). AreWatched (record { constraints = cs; violating = c.take_up.new.violating }) c.args.groups.now) (sym ok)
    (watched_more olds c.args.more.now c.args.groups.now c.self.inside.violating c.take_up.new.violating c.self.invariant.violating_count (counted ∙ ap length ok)
    (subst (λ (w : Watching). length w.constraints + length c.args.more.now ≤ length c.args.groups.now.groups) (sym c.self.view_is) c.requires.known) c.take_up.ensures.stay
    (subst (λ (cs : List Constraint). (id : ℕ) → length olds ≤ id → id < length cs → length (groups_of c.args.groups.now.groups id) ≤ length (violating_of c.take_up.new.violating id)) ok c.in_ok-take_up.ensures.places)
    (subst (λ w. AreWatched w c.args.groups.now) (sym c.self.view_is) watched))
