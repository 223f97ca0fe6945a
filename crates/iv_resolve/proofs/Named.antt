-- The trigger of a name.
use Rattle.std.proofs.Common.{◌≡◌, refl, Option, Some, None, option_map, unwrap_or}
use Rattle.iv_catalogue.specs.declared.plan.Trigger.{Trigger}

pub number_of : (o : Option Trigger) → elim o [ Some t ↦ t.id | None ↦ 0 ] ≡ unwrap_or (option_map (λ t. t.id) o) 0
number_of (Some t) = refl
number_of None = refl
