use Rattle.std.proofs.Common.{◌∙◌, string_bytes}
use Rattle.std.specs.Str.{bytes_eq}
use Rattle.indexmap.specs.IndexMap.{keys}
use Rattle.iv_catalogue.proofs.NamedLists.{position_map}
use Rattle.iv_catalogue.proofs.name_index.NameIndex.place_of.Goals as goal

pub returns : goal.returns
returns c = rw (← c.self.view_is) (c.get_index_of.ensures.index ∙ position_map (bytes_eq c.args.name.now) string_bytes (keys c.self.inside.names))
