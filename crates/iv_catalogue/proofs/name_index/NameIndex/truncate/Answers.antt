use Rattle.std.proofs.Common.{◌∙◌, sym, ap, map, string_bytes}
use Rattle.std.proofs.lemmas.List.{take-map}
use Rattle.indexmap.specs.IndexMap.{keys}
use Rattle.iv_catalogue.proofs.name_index.NameIndex.truncate.Goals as goal

pub returns : goal.returns
returns c =
    rw (← c.self.view_is, c.truncate.ensures.entries)
    (ap (map string_bytes) (sym (take-map (λ e. e.0) c.args.count c.self.inside.names.entries))
    ∙ sym (take-map string_bytes c.args.count (keys c.self.inside.names)))
