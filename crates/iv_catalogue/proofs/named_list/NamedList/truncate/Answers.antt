use Rattle.std.proofs.Common.{◌∙◌, ap, take}
use Rattle.std.proofs.lemmas.List.{take-map}
use Rattle.iv_catalogue.proofs.named_list.NamedList.truncate.Goals as goal

pub invariant_of-self : goal.invariant_of-self
invariant_of-self g c =
    rw (c.truncate.ensures.items) (c.truncate-2.ensures ∙ ap (take c.args.count) c.self.invariant ∙ take-map g.T.Named.named c.args.count c.self.inside.items.items)
