use Rattle.std.proofs.Common.{◌∙◌, sym, ap, position}
use Rattle.std.specs.Str.{bytes_eq}
use Rattle.iv_catalogue.proofs.NamedLists.{place_within, position_map}
use Rattle.iv_catalogue.proofs.named_list.NamedList.place_of.Goals as goal

pub returns-clause-place : goal.returns-clause-place
returns-clause-place g c =
    rw (← c.self.view_is) (c.place_of.ensures ∙ ap (position (bytes_eq c.args.name.now)) c.self.invariant
    ∙ sym (position_map (bytes_eq c.args.name.now) g.T.Named.named c.self.inside.items.items))

pub returns-clause-within : goal.returns-clause-within
returns-clause-within g c =
    place_within (λ item. bytes_eq c.args.name.now (g.T.Named.named item)) c.args.self.now c.place_of.result (returns-clause-place g c)
