use Rattle.std.proofs.Common.{◌∙◌, sym, ap, if◌then◌else◌, Some, None, false, ℕ, ◌+◌, List, drop, length, slice_get}
use Rattle.std.specs.Bool.{◌==◌}
use Rattle.std.specs.Option.{option_or}
use Rattle.iv_value.specs.Values.{all_same}
use Rattle.iv_store_groups.specs.Groups.{groups_of, rows_of}
use Rattle.iv_exec_actions.specs.AffectedForeignKey.{first_taking}
use Rattle.iv_exec_actions.proofs.Taking.{first_at}
use Rattle.iv_exec_actions.proofs.FirstChanges.{noted_first, noted_before}
use Rattle.iv_exec_actions.proofs.affected.note.Goals as goal

pub returns-in_ok-add-clause-noted : goal.returns-in_ok-add-clause-noted
returns-in_ok-add-clause-noted c k =
    let place = c.args.place in
    let taken = c.in-Some.taken in
    let old = c.args.firsts.now.groups in
    let changes = c.args.changes.now in
    let later = first_taking c.args.key.now k (place + 1) (drop (place + 1) changes) in
    ap (λ gs. option_or (slice_get (rows_of (groups_of gs 0) k) 0) later) c.in_ok-add.ensures.ok
    ∙ noted_first old taken k place later c.requires.known (sym (c.if-is_empty.ensures ∙ ap (λ (rows : List ℕ). length rows == 0) c.holders.ensures.value))
    ∙ ap (λ o. option_or (slice_get (rows_of (groups_of old 0) k) 0) (if elim o [ Some t ↦ all_same t k | None ↦ false ] then Some place else later))
    (sym c.in-Some.is ∙ c.key_taken.ensures)
    ∙ ap (option_or (slice_get (rows_of (groups_of old 0) k) 0)) (sym (first_at c.args.key.now k changes place c.index-changes-place.result c.requires.within c.index-changes-place.is))

pub returns-else-is_empty-clause-noted : goal.returns-else-is_empty-clause-noted
returns-else-is_empty-clause-noted c k =
    let place = c.args.place in
    let taken = c.in-Some.taken in
    let old = c.args.firsts.now.groups in
    let changes = c.args.changes.now in
    let later = first_taking c.args.key.now k (place + 1) (drop (place + 1) changes) in
    noted_before (groups_of old 0) taken k place later (sym (c.if-is_empty.ensures ∙ ap (λ (rows : List ℕ). length rows == 0) c.holders.ensures.value))
    ∙ ap (λ o. option_or (slice_get (rows_of (groups_of old 0) k) 0) (if elim o [ Some t ↦ all_same t k | None ↦ false ] then Some place else later))
    (sym c.in-Some.is ∙ c.key_taken.ensures)
    ∙ ap (option_or (slice_get (rows_of (groups_of old 0) k) 0)) (sym (first_at c.args.key.now k changes place c.index-changes-place.result c.requires.within c.index-changes-place.is))
