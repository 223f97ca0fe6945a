use Rattle.std.specs.Prelude.{slice_get}
use Rattle.std.proofs.Common.{◌≡◌, ◌≢◌, ℕ, suc, ◌+◌, true, false, List, Some, get_or, length, ap, sym, ◌∙◌, subst, arith}
use Rattle.iv_store_groups.specs.Linked.{has_at, slot_of}
use Rattle.iv_store_groups.proofs.UnlinkedLemmas.{ended_in_map, ended_in_slot, in_map, stands, stands_not}
use Rattle.iv_store_groups.proofs.hash_index.set_end.Goals as goal

pub returns-then-stands_in : goal.returns-then-stands_in
returns-then-stands_in c =
    let slots : List ℕ = c.args.slots.now.items in
    let hashes : List ℕ = c.args.hashes.now in
    let slot : ℕ = slot_of (get_or hashes c.args.place 0) (length slots) in
    let at : c.slot_of-slot.result ≡ slot = c.slot_of-slot.ensures ∙ ap (slot_of (get_or hashes c.args.place 0)) (c.len.ensures ∙ c.args.slots.now.ok.0) in
    let is : has_at slots slot (c.args.place + 1) ≡ true =
    subst (λ (k : ℕ). has_at slots k (c.args.place + 1) ≡ true) at
    (subst (λ (xs : List ℕ). has_at xs c.slot_of-slot.result (c.args.place + 1) ≡ true) c.as_slice.ensures.value (sym c.stands_in.ensures ∙ c.if-stands_in.true)) in
    let s : c.args.place + 1 ≡ suc c.args.place = omega arith in
    let there : slice_get slots slot ≡ Some (suc c.args.place) = stands slots slot (c.args.place + 1) is ∙ ap (λ (n : ℕ). Some n) s in
    rw (at, c.slot_end.ensures)
    (ended_in_slot slots c.args.others.now hashes c.args.place c.args.end c.requires.few c.requires.filed c.requires.within c.requires.last c.requires.down c.requires.same there)

pub set_in_map-requires : goal.set_in_map-requires
set_in_map-requires c =
    let slots : List ℕ = c.args.slots.now.items in
    let hashes : List ℕ = c.args.hashes.now in
    let slot : ℕ = slot_of (get_or hashes c.args.place 0) (length slots) in
    let at : c.slot_of-slot.result ≡ slot = c.slot_of-slot.ensures ∙ ap (slot_of (get_or hashes c.args.place 0)) (c.len.ensures ∙ c.args.slots.now.ok.0) in
    let isnt : has_at slots slot (c.args.place + 1) ≡ false =
    subst (λ (k : ℕ). has_at slots k (c.args.place + 1) ≡ false) at
    (subst (λ (xs : List ℕ). has_at xs c.slot_of-slot.result (c.args.place + 1) ≡ false) c.as_slice.ensures.value (sym c.stands_in.ensures ∙ c.if-stands_in.false)) in
    let s : c.args.place + 1 ≡ suc c.args.place = omega arith in
    let elsewhere : slice_get slots slot ≢ Some (suc c.args.place) =
    subst (λ (n : ℕ). slice_get slots slot ≢ Some n) s (stands_not slots slot (c.args.place + 1) isnt) in
    omega (arith, in_map slots c.args.others.now hashes c.args.place c.args.end c.requires.few c.requires.filed c.requires.within c.requires.last c.requires.down c.requires.same elsewhere)

pub returns : goal.returns
returns c =
    let slots : List ℕ = c.args.slots.now.items in
    let hashes : List ℕ = c.args.hashes.now in
    let slot : ℕ = slot_of (get_or hashes c.args.place 0) (length slots) in
    let at : c.slot_of-slot.result ≡ slot = c.slot_of-slot.ensures ∙ ap (slot_of (get_or hashes c.args.place 0)) (c.len.ensures ∙ c.args.slots.now.ok.0) in
    let isnt : has_at slots slot (c.args.place + 1) ≡ false =
    subst (λ (k : ℕ). has_at slots k (c.args.place + 1) ≡ false) at
    (subst (λ (xs : List ℕ). has_at xs c.slot_of-slot.result (c.args.place + 1) ≡ false) c.as_slice.ensures.value (sym c.stands_in.ensures ∙ c.if-stands_in.false)) in
    let s : c.args.place + 1 ≡ suc c.args.place = omega arith in
    let elsewhere : slice_get slots slot ≢ Some (suc c.args.place) =
    subst (λ (n : ℕ). slice_get slots slot ≢ Some n) s (stands_not slots slot (c.args.place + 1) isnt) in
    ended_in_map slots c.args.others.now hashes c.args.place c.args.end c.requires.few c.requires.filed c.requires.within c.requires.last c.requires.down c.requires.same elsewhere
    c.set_in_map.new.others c.set_in_map.ensures.here c.set_in_map.ensures.rest
