use Rattle.std.specs.Prelude.{slice_get, Some}
use Rattle.std.specs.BTreeMap.{Updates}
use Rattle.std.specs.Ordering.{nat_cmp}
use Rattle.std.proofs.Common.{◌≡◌, ℕ, ◌+◌, true, false, List, length, set, ap, sym, ◌∙◌, subst}
use Rattle.iv_store_groups.specs.Linked.{Noted, is_open, map_end, slot_of}
use Rattle.iv_store_groups.proofs.LinkedLemmas.{noted_in_map, noted_in_slot, on_err, same_end}
use Rattle.iv_store_groups.proofs.hash_index.note.Goals as goal

pub returns-then-is_open-clause-ok : goal.returns-then-is_open-clause-ok
returns-then-is_open-clause-ok c =
    let slots : List ℕ = c.args.slots.now.items in
    let hashes : List ℕ = c.args.hashes.now in
    let h : ℕ = c.args.hash in
    let end : c.end_of-end.result ≡ length hashes + 1 = c.end_of-end.ensures in
    let place : c.slot_of-slot.result ≡ slot_of h (length slots) = c.slot_of-slot.ensures ∙ ap (slot_of h) (c.len.ensures ∙ c.args.slots.now.ok.0) in
    let is : is_open hashes h (map_end c.args.others.now h) (slice_get slots (slot_of h (length slots))) ≡ true =
    subst (λ (k : ℕ). is_open hashes h (map_end c.args.others.now h) (slice_get slots k) ≡ true) place
    (subst (λ (xs : List ℕ). is_open hashes h (map_end c.args.others.now h) (slice_get xs c.slot_of-slot.result) ≡ true) c.as_slice.ensures.value
    (sym c.is_open.ensures ∙ c.if-is_open.true)) in
    subst (λ (n : ℕ). Noted slots c.args.others.now hashes h (set slots c.slot_of-slot.result n) c.args.others.now) (sym end)
    (subst (λ (k : ℕ). Noted slots c.args.others.now hashes h (set slots k (length hashes + 1)) c.args.others.now) (sym place)
    (noted_in_slot slots c.args.others.now hashes h c.requires.few c.requires.filed is))

pub returns-in_err-insert-clause-others : goal.returns-in_err-insert-clause-others
returns-in_err-insert-clause-others c = on_err c.from_residual.result (same_end c.insert.new.self c.args.others.now c.in_err-insert.ensures.err)

pub returns-clause-ok : goal.returns-clause-ok
returns-clause-ok c =
    let slots : List ℕ = c.args.slots.now.items in
    let hashes : List ℕ = c.args.hashes.now in
    let h : ℕ = c.args.hash in
    let end : c.end_of-end.result ≡ length hashes + 1 = c.end_of-end.ensures in
    let place : c.slot_of-slot.result ≡ slot_of h (length slots) = c.slot_of-slot.ensures ∙ ap (slot_of h) (c.len.ensures ∙ c.args.slots.now.ok.0) in
    let closed : is_open hashes h (map_end c.args.others.now h) (slice_get slots (slot_of h (length slots))) ≡ false =
    subst (λ (k : ℕ). is_open hashes h (map_end c.args.others.now h) (slice_get slots k) ≡ false) place
    (subst (λ (xs : List ℕ). is_open hashes h (map_end c.args.others.now h) (slice_get xs c.slot_of-slot.result) ≡ false) c.as_slice.ensures.value
    (sym c.is_open.ensures ∙ c.if-is_open.false)) in
    noted_in_map slots c.args.others.now c.insert.new.self hashes h c.requires.few c.requires.filed closed
    (subst (λ (n : ℕ). Updates nat_cmp c.args.others.now c.insert.new.self h (Some n)) end c.in_ok-insert.ensures.updates)
