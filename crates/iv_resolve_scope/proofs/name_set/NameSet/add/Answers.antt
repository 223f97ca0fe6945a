use Rattle.std.proofs.Common.{◌∙◌, sym, string_bytes, not, ap}
use Rattle.std.specs.Str.{bytes_eq}
use Rattle.iv_catalogue.proofs.KeptNames.{found_among, added, absent}
use Rattle.iv_resolve_scope.proofs.name_set.NameSet.add.Goals as goal

pub returns-then-contains_key-clause-new : goal.returns-then-contains_key-clause-new
returns-then-contains_key-clause-new c =
    rw (← c.self.view_is) (ap not (sym c.if-contains_key.true ∙ c.contains_key.ensures ∙ found_among string_bytes (bytes_eq c.args.name.now) c.self.inside.places))

pub returns-clause-new : goal.returns-clause-new
returns-clause-new c =
    rw (← c.self.view_is) (ap not (sym c.if-contains_key.false ∙ c.contains_key.ensures ∙ found_among string_bytes (bytes_eq c.args.name.now) c.self.inside.places))

pub returns-clause-names : goal.returns-clause-names
returns-clause-names c =
    rw (← c.self.view_is) (added string_bytes _ c.self.inside.places c.insert.new.self c.in_ok-owned.owned _ c.args.name.now
    c.in_ok-insert.ensures.entries
    (absent c.self.inside.places c.in_ok-owned.owned c.args.name.now c.in_ok-owned.ensures.ok
    (sym c.if-contains_key.false ∙ c.contains_key.ensures ∙ found_among string_bytes (bytes_eq c.args.name.now) c.self.inside.places))
    c.in_ok-owned.ensures.ok)
