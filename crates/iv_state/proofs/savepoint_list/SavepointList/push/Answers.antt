use Rattle.std.proofs.Common.{◌≡◌, ◌∙◌, ◌∷◌, ◌++◌, [], None, ap, map, string_bytes}
use Rattle.std.proofs.lemmas.List.{map-append}
use Rattle.indexmap.proofs.CallerLemmas.{insert_entry-new}
use Rattle.iv_state.specs.Saved.{Savepoints, saved_of}
use Rattle.iv_state.specs.Saving.{last_named}
use Rattle.iv_state.proofs.ByName.{no_key, same_name}
use Rattle.iv_state.proofs.savepoint_list.SavepointList.push.Goals as goal

pub returns : goal.returns
returns c =
    let old = c.self.inside.modes in
    let absent : last_named (string_bytes c.args.name) (map saved_of old.entries) ≡ None =
    ap (λ (s : Savepoints). last_named (string_bytes c.args.name) s.saves) c.self.view_is ∙ c.requires.absent in
    ap (map saved_of) (c.in-Ok.ensures.entries ∙ insert_entry-new same_name old c.args.name c.args.modes (no_key c.args.name old.entries absent))
    ∙ map-append saved_of old.entries ((c.args.name, c.args.modes) ∷ [])
    ∙ ap (λ (s : Savepoints). s.saves ++ saved_of (c.args.name, c.args.modes) ∷ []) c.self.view_is
