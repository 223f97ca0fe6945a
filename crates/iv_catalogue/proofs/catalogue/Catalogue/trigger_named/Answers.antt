use Rattle.std.proofs.Common.{sym, ap, option_map}
use Rattle.std.specs.Str.{bytes_eq}
use Rattle.iv_catalogue.proofs.TriggerNumbers.{found, found_none}
use Rattle.iv_catalogue.proofs.catalogue.Catalogue.trigger_named.Goals as goal

pub returns-in-Some : goal.returns-in-Some
returns-in-Some c =
    rw (← c.self.view_is, c.number_at.ensures, c.as_slice.ensures)
    (ap (option_map (λ t. t.id)) (found (λ t. bytes_eq c.args.name.now t.name) c.self.inside.triggers c.in-Some.place (sym c.in-Some.ensures.place)))

pub returns-in-None : goal.returns-in-None
returns-in-None c =
    rw (← c.self.view_is)
    (sym (ap (option_map (λ t. t.id)) (found_none (λ t. bytes_eq c.args.name.now t.name) c.self.inside.triggers (sym c.in-None.ensures.place))))
