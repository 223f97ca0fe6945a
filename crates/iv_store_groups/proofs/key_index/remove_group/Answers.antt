use Rattle.std.proofs.Common.{◌≡◌, ℕ, ◌-◌, List, length, take, set, ap, sym, ◌∙◌, subst, arith}
use Rattle.std.proofs.lemmas.List.{get_or_default}
use Rattle.iv_store_groups.specs.Groups.{GroupOf, IsIndexed, no_group, without_group}
use Rattle.iv_store_groups.proofs.GivingLemmas.{indexed_given_back}
use Rattle.iv_store_groups.proofs.key_index.remove_group.Goals as goal

pub returns-clause-indexed : goal.returns-clause-indexed
returns-clause-indexed c =
    let gs : List GroupOf = c.args.groups.now.items in
    let items_are : c.swap_remove-group.new.self.items ≡ without_group gs c.args.place =
    c.swap_remove-group.ensures.items
    ∙ ap (λ (g : GroupOf). take (length gs - 1) (set gs c.args.place g)) (get_or_default gs (length gs - 1) c.swap_remove-group.result no_group (omega (arith, c.requires.within))) in
    let indexed : IsIndexed c.remove.new.self c.swap_remove-group.new.self.items =
    subst (IsIndexed c.remove.new.self) (sym items_are) (indexed_given_back c.args.hashes.now c.remove.new.self gs c.args.place c.requires.indexed c.requires.within c.remove.ensures) in
    subst (λ (hs : List ℕ). IsIndexed hs c.give_room_back-2.new.list.items) (sym c.give_room_back.ensures)
    (subst (λ (all : List GroupOf). IsIndexed c.remove.new.self all) (sym c.give_room_back-2.ensures) indexed)
