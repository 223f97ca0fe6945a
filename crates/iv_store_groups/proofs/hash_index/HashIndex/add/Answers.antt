use Rattle.std.proofs.Common.{◌≡◌, ◌≤◌, ◌++◌, ◌∷◌, [], ℕ, List, length, ap, sym, ◌∙◌, subst}
use Rattle.iv_store_groups.specs.Linked.{EndsAt, NoneFrom, Noted, last_end}
use Rattle.iv_store_groups.proofs.LinkedLemmas.{IsLinked-push, linked_like, only_end}
use Rattle.iv_store_groups.proofs.hash_index.HashIndex.add.Goals as goal

pub invariant_of-self-in_err-note : goal.invariant_of-self-in_err-note
invariant_of-self-in_err-note c =
    let x = c.self.inside in
    rw (c.reserve.ensures.items, c.reserve-2.ensures.items)
    (linked_like x.slots.items c.note.new.slots.items x.others c.note.new.others x.befores.items x.hashes.items c.self.invariant
    c.in_err-note.ensures.slots c.in_err-note.ensures.others)

pub invariant_of-self-2 : goal.invariant_of-self-2
invariant_of-self-2 c =
    let x = c.self.inside in
    let h : ℕ = c.args.hash in
    let slots : List ℕ = x.slots.items in
    let hashes : List ℕ = x.hashes.items in
    let befores : List ℕ = x.befores.items in
    let noted : Noted slots x.others hashes h c.note.new.slots.items c.note.new.others =
    subst (λ (xs : List ℕ). Noted slots x.others xs h c.note.new.slots.items c.note.new.others)
    (c.as_slice.ensures.value ∙ c.reserve-2.ensures.items) c.in_ok-note.ensures.ok in
    let before : c.args.before ≡ last_end slots x.others hashes h =
    only_end slots x.others befores hashes h c.args.before c.self.invariant
    (subst (λ (xs : List ℕ). c.args.before ≤ length xs) (sym c.self.view_is) c.requires.within)
    (subst (λ (xs : List ℕ). EndsAt xs h c.args.before) (sym c.self.view_is) c.requires.found)
    (subst (λ (xs : List ℕ). NoneFrom xs h c.args.before (length xs)) (sym c.self.view_is) c.requires.none) in
    let befores_are : c.push_reserved.new.self.items ≡ befores ++ last_end slots x.others hashes h ∷ [] =
    c.push_reserved.ensures.items
    ∙ ap (λ (xs : List ℕ). xs ++ c.args.before ∷ []) c.reserve.ensures.items ∙ ap (λ (n : ℕ). befores ++ n ∷ []) before in
    let hashes_are : c.push_reserved-2.new.self.items ≡ hashes ++ h ∷ [] =
    c.push_reserved-2.ensures.items
    ∙ ap (λ (xs : List ℕ). xs ++ h ∷ []) c.reserve-2.ensures.items in
    rw (befores_are, hashes_are) (IsLinked-push slots c.note.new.slots.items x.others c.note.new.others befores hashes h c.self.invariant noted)
