use Rattle.std.proofs.Common.{◌∙◌, ap, map, string_bytes}
use Rattle.indexmap.specs.IndexMap.{keys}
use Rattle.iv_catalogue.proofs.NamedLists.{remove_map}
use Rattle.iv_catalogue.proofs.name_index.NameIndex.remove.Goals as goal

pub returns : goal.returns
returns c =
    rw (← c.self.view_is, c.shift_remove_index.ensures.entries)
    (ap (map string_bytes) (remove_map (λ e. e.0) c.self.inside.names.entries c.args.place)
    ∙ remove_map string_bytes (keys c.self.inside.names) c.args.place)
