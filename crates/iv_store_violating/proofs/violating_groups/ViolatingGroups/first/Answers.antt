use Rattle.std.proofs.Common.{◌<◌, length, Some, None, sym, ap, ◌∙◌, arith}
use Rattle.iv_machine.specs.Databases.{first, is_chosen}
use Rattle.iv_laws_kept.specs.Kept.{kept}
use Rattle.iv_store_violating.specs.Shown.{shown}
use Rattle.iv_store_violating.proofs.KeptFaults.{first_is_in, first_kept, violated_known}
use Rattle.iv_store_violating.proofs.violating_groups.ViolatingGroups.first.Goals as goal

pub first_of-requires-clause-small : goal.first_of-requires-clause-small
first_of-requires-clause-small c =
    let l : c.in-Some.id < length c.args.self.now = violated_known c.args.self.now (is_chosen c.as_slice.result.now c.args.which) c.violated.result.now c.violated.ensures.members c.in-Some.id
    (first_is_in _ c.in-Some.id (sym c.in-Some.ensures)) in
    omega (arith, l, c.requires.few)

pub returns-in-Some : goal.returns-in-Some
returns-in-Some c = λ constraints few are.
    c.first_of.ensures constraints few are
    ∙ sym (first_kept constraints (shown c.args.groups.now.groups) c.args.self.now few are (is_chosen c.as_slice.result.now c.args.which) c.violated.result.now c.violated.ensures.members (Some c.in-Some.id) c.in-Some.ensures)
    ∙ ap (λ modes. first (kept constraints (shown c.args.groups.now.groups) (is_chosen modes c.args.which))) c.as_slice.ensures

pub returns-in-None : goal.returns-in-None
returns-in-None c = λ constraints few are.
    sym (first_kept constraints (shown c.args.groups.now.groups) c.args.self.now few are (is_chosen c.as_slice.result.now c.args.which) c.violated.result.now c.violated.ensures.members None c.in-None.ensures)
    ∙ ap (λ modes. first (kept constraints (shown c.args.groups.now.groups) (is_chosen modes c.args.which))) c.as_slice.ensures
