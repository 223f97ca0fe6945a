use Rattle.std.proofs.Common.{◌≡◌, ℕ, ◌-◌, List, length, take, ap, ◌∙◌, arith}
use Rattle.iv_store_groups.proofs.UnlinkedLemmas.{cut_last}
use Rattle.iv_store_groups.proofs.hash_index.cut.Goals as goal

pub returns-clause-linked : goal.returns-clause-linked
returns-clause-linked c =
    let befores : List ℕ = c.args.befores.now.items in
    let hashes : List ℕ = c.args.hashes.now.items in
    let m : ℕ = length hashes - 1 in
    let befores_are : c.pop.new.self.items ≡ take m befores =
    c.pop.ensures.rest ∙ ap (λ (n : ℕ). take (n - 1) befores) (c.args.befores.now.ok.0 ∙ c.requires.parted.count) in
    let hashes_are : c.pop-2.new.self.items ≡ take m hashes = c.pop-2.ensures.rest ∙ ap (λ (n : ℕ). take (n - 1) hashes) c.args.hashes.now.ok.0 in
    rw (befores_are, hashes_are) (cut_last c.args.slots.now c.args.others.now befores hashes m (omega (arith, c.requires.some)) c.requires.parted)
