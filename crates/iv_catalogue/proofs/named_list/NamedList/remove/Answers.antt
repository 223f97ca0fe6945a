use Rattle.std.proofs.Common.{◌∙◌, ap, sym, remove}
use Rattle.iv_catalogue.proofs.NamedLists.{remove_map}
use Rattle.iv_catalogue.proofs.named_list.NamedList.remove.Goals as goal

pub invariant_of-self : goal.invariant_of-self
invariant_of-self g c =
    rw (c.remove.ensures.items) (c.remove-2.ensures ∙ ap (λ names. remove names c.args.place) c.self.invariant
    ∙ sym (remove_map g.T.Named.named c.self.inside.items.items c.args.place))
