-- A trigger of a name is found if there is one.
use Rattle.std.proofs.Common.{◌≡◌, Bool, true, false, List, [], ◌∷◌, refl, is_some, option_map, find}
use Rattle.std.specs.List.{list_any}
use Rattle.iv_catalogue.specs.declared.plan.Trigger.{Trigger}

found_next : (p : Trigger → Bool) (t : Trigger) (ts : List Trigger) (b : Bool) → p t ≡ b
    → is_some (option_map (λ x. x.id) (find p ts)) ≡ list_any p ts → is_some (option_map (λ x. x.id) (find p (t ∷ ts))) ≡ list_any p (t ∷ ts)
found_next p t ts true e h = rw e refl
found_next p t ts false e h = rw e h

pub trigger_found : (p : Trigger → Bool) (ts : List Trigger) → is_some (option_map (λ x. x.id) (find p ts)) ≡ list_any p ts
trigger_found p [] = refl
trigger_found p (t ∷ ts) = found_next p t ts (p t) refl (trigger_found p ts)
