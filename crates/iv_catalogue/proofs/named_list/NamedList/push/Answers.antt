use Rattle.std.proofs.Common.{◌∙◌, sym}
use Rattle.std.specs.Str.{bytes_eq}
use Rattle.iv_catalogue.proofs.NamedLists.{any_map}
use Rattle.iv_catalogue.proofs.named_list.NamedList.push.Goals as goal

pub push-requires : goal.push-requires
push-requires g c =
    rw (c.name.ensures, c.self.invariant)
    (sym (any_map (bytes_eq (g.T.Named.named c.args.item)) g.T.Named.named c.self.inside.items.items)
    ∙ rw (c.self.view_is) c.requires)
