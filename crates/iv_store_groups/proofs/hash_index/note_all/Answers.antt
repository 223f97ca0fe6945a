use Rattle.std.proofs.Common.{◌≡◌, ℕ, suc, ◌+◌, ◌<◌, List, [], ◌∷◌, ◌++◌, take, length, get_or, arith, ap, sym, ◌∙◌, subst}
use Rattle.std.proofs.Math.Seq.{take-suc}
use Rattle.iv_store_groups.specs.Linked.{HasEnds, IsLinked, last_end}
use Rattle.iv_store_groups.proofs.LinkedLemmas.{IsLinked-push, linked_begin}
use Rattle.iv_store_groups.proofs.hash_index.note_all.Goals as goal

pub loop-place-init : goal.loop-place-init
loop-place-init c = record {
  within = omega arith;
  ends = record { befores = []; linked = linked_begin c.args.slots.now.items c.args.others.now c.requires.free c.requires.empty };
}

pub loop-place-preserved : goal.loop-place-preserved
loop-place-preserved c =
    let hashes : List ℕ = c.args.hashes.now in
    let place : ℕ = c.loop-place.place in
    let h : ℕ = get_or hashes place 0 in
    let slots : List ℕ = c.loop-place.slots.items in
    let done : HasEnds slots c.loop-place.others (take place hashes) = c.loop-place.invariant.ends in
    let more : place < length hashes = omega (arith, c.loop-place-test.true) in
    let s : place + 1 ≡ suc place = omega arith in
    let grown : take (place + 1) hashes ≡ take place hashes ++ h ∷ [] = ap (λ (n : ℕ). take n hashes) s ∙ take-suc hashes place 0 more in
    record {
      within = omega arith;
      ends = record {
        befores = done.befores ++ last_end slots c.loop-place.others (take place hashes) h ∷ [];
        linked = subst (λ (xs : List ℕ). IsLinked c.note.new.slots.items c.note.new.others (done.befores ++ last_end slots c.loop-place.others (take place hashes) h ∷ []) xs) (sym grown)
            (IsLinked-push slots c.note.new.slots.items c.loop-place.others c.note.new.others done.befores (take place hashes) h done.linked c.in_ok-note.ensures.ok);
      };
    }
