use Rattle.std.proofs.Common.{◌≡◌, ◌<◌, ◌++◌, length, filter, flat_map, sym, ap, ◌∙◌, arith}
use Rattle.iv_machine.specs.Databases.{is_chosen}
use Rattle.iv_laws_kept.specs.Kept.{kept}
use Rattle.iv_laws_kept.specs.Numbers.{has, in_rising_order}
use Rattle.iv_store_violating.specs.Answers.{faults_kept}
use Rattle.iv_store_violating.specs.Shown.{shown}
use Rattle.iv_store_violating.proofs.KeptFaults.{kept_are, violated_known}
use Rattle.iv_store_violating.proofs.violating_groups.ViolatingGroups.list.Goals as goal

pub push_among-requires-clause-small : goal.push_among-requires-clause-small
push_among-requires-clause-small c = λ id e.
    let ids : c.as_slice-2.result.now ≡ in_rising_order (filter (is_chosen c.as_slice.result.now c.args.which) c.violated.result.now) =
    c.as_slice-2.ensures.value ∙ c.sort_once.ensures ∙ ap in_rising_order c.in_ok-ids.ensures in
    let l : id < length c.args.self.now = violated_known c.args.self.now (is_chosen c.as_slice.result.now c.args.which) c.violated.result.now c.violated.ensures.members id (ap (has id) (sym ids) ∙ e) in
    omega (arith, l, c.requires.few)

pub returns : goal.returns
returns c = λ constraints few are.
    let ids : c.as_slice-2.result.now ≡ in_rising_order (filter (is_chosen c.as_slice.result.now c.args.which) c.violated.result.now) =
    c.as_slice-2.ensures.value ∙ c.sort_once.ensures ∙ ap in_rising_order c.in_ok-ids.ensures in
    c.in_ok-push_among.ensures constraints few are
    ∙ ap (λ xs. xs ++ flat_map (faults_kept constraints (shown c.args.groups.now.groups)) c.as_slice-2.result.now) c.new-faults.ensures.items
    ∙ ap (flat_map (faults_kept constraints (shown c.args.groups.now.groups))) ids
    ∙ sym (kept_are constraints (shown c.args.groups.now.groups) c.args.self.now few are (is_chosen c.as_slice.result.now c.args.which) c.violated.result.now c.violated.ensures.members)
    ∙ ap (λ modes. kept constraints (shown c.args.groups.now.groups) (is_chosen modes c.args.which)) c.as_slice.ensures
