use Rattle.std.proofs.Common.{◌≡◌, string_bytes, false, subst, sym}
use Rattle.iv_catalogue.specs.Names.{is_among}
use Rattle.iv_catalogue.proofs.KeptNames.{added, absent}
use Rattle.iv_catalogue.proofs.name_index.NameIndex.push.Goals as goal

pub returns-clause-ok : goal.returns-clause-ok
returns-clause-ok c =
    rw (← c.self.view_is) (added string_bytes _ c.self.inside.names c.insert.new.self c.in_ok-owned.owned _ c.args.name.now
    c.in_ok-insert.ensures.entries
    (absent c.self.inside.names c.in_ok-owned.owned c.args.name.now c.in_ok-owned.ensures.ok
    (sym (subst (λ names. is_among names c.args.name.now ≡ false) (sym c.self.view_is) c.requires)))
    c.in_ok-owned.ensures.ok)
