use Rattle.std.proofs.Common.{◌≡◌, ℕ, suc, ◌+◌, ◌-◌, List, get_or, length, ap, ◌∙◌, subst, arith}
use Rattle.std.proofs.lemmas.List.{get_or_read}
use Rattle.iv_store_groups.specs.Linked.{IsReached}
use Rattle.iv_store_groups.proofs.UnlinkedLemmas.{taken_over}
use Rattle.iv_store_groups.proofs.hash_index.take_over.Goals as goal

pub returns-clause-linked : goal.returns-clause-linked
returns-clause-linked c =
    let befores : List ℕ = c.args.befores.now.items in
    let hashes : List ℕ = c.args.hashes.now.items in
    let next : ℕ = c.reach-next.result in
    let last : c.len-last.result ≡ length hashes = c.len-last.ensures ∙ c.args.hashes.now.ok.0 in
    let at : IsReached (length hashes - 1) c.args.place befores hashes next =
    subst (λ (n : ℕ). IsReached (n - 1) c.args.place befores hashes next) last
    (subst (λ (xs : List ℕ). IsReached (c.len-last.result - 1) c.args.place befores xs next) c.as_slice-2.ensures.value
    (subst (λ (xs : List ℕ). IsReached (c.len-last.result - 1) c.args.place xs c.as_slice-2.result.now next) c.as_slice.ensures.value c.reach-next.ensures)) in
    let link : c.index.result.now ≡ get_or befores next 0 = get_or_read befores next c.index.result.now (omega (arith, at.within, c.requires.parted.count)) c.index.ensures 0 in
    let hash : c.index-2.result.now ≡ get_or hashes (length hashes - 1) 0 =
    get_or_read hashes (c.len-last.result - 1) c.index-2.result.now (omega (arith, last, c.requires.within)) c.index-2.ensures 0
    ∙ ap (λ (n : ℕ). get_or hashes (n - 1) 0) last in
    let s : c.end_of.result ≡ suc c.args.place = omega (arith, c.end_of.ensures) in
    rw (link, hash, s) (taken_over c.args.slots.now c.args.others.now befores hashes c.args.place next c.requires.parted (omega (arith, c.requires.within)) at)
