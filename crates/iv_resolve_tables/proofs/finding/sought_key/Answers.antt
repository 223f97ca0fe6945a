use Rattle.std.proofs.Common.{◌∙◌, ℕ, List, sym, ap, filter_map, find}
use Rattle.iv_catalogue.specs.Catalogues.{constraint_places}
use Rattle.iv_catalogue.specs.declared.catalogue.Column.{Column}
use Rattle.iv_resolution.specs.Scopes.{named_columns}
use Rattle.iv_resolve_tables.specs.Keys.{is_sought, key_at}
use Rattle.iv_resolve_tables.specs.Seen.{own_seen}
use Rattle.iv_resolve_tables.specs.declared.own.Own.{Own}
use Rattle.iv_resolve_tables.proofs.KeysOfTable.{keys_by_place}
use Rattle.iv_resolve_tables.proofs.finding.sought_key.Goals as goal

pub returns-in-Stored : goal.returns-in-Stored
returns-in-Stored c =
    c.key_of_places.ensures
    ∙ ap (λ (columns : List Column). find (is_sought c.args.sought.now) (filter_map (key_at (named_columns columns) c.args.catalogue.now.constraints) c.constraints_of-places.result.now)) c.as_slice.ensures
    ∙ ap (λ (places : List ℕ). find (is_sought c.args.sought.now) (filter_map (key_at (named_columns c.in-Stored.table.now.columns) c.args.catalogue.now.constraints) places))
    (c.constraints_of-places.ensures ∙ ap (constraint_places c.args.catalogue.now) c.new.ensures)
    ∙ ap (find (is_sought c.args.sought.now)) (keys_by_place (named_columns c.in-Stored.table.now.columns) c.in-Stored.place c.args.catalogue.now.constraints)
    ∙ sym (ap (λ (own : Own). find (is_sought c.args.sought.now) (own_seen c.args.catalogue.now own).keys) c.in-Stored.is)
