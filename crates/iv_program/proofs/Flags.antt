-- What a flag's text says.
use Rattle.std.proofs.Common.{◌≡◌, Bool, true, false, Option, Some, None, codes, refl, sym, unwrap_or, ap}
use Rattle.std.specs.Option.{option_map_or}
use Rattle.std.specs.Str.Parse.{ParsesBool}
use Rattle.std.proofs.lemmas.Slice.Eq.{bytes_eq-Decides}
use Rattle.clap.specs.Words.{ReadsOne, Text}
use Rattle.iv_program.specs.CommandLine.{is_given}

not_given : (t : Text) (b : Bool) → is_given t ≡ b → (t ≡ codes "true" → ⊥) → false ≡ b
not_given t true e other = absurd (other ((bytes_eq-Decides t (codes "true")).0 e))
not_given t false e other = refl

-- what `get_one` reads of a flag is whether it is given
pub flag_read : (E : Type 0) (o : Option Text) (v : Option Bool) → (o ≡ None → v ≡ None)
    → ((t : Text) → o ≡ Some t → ReadsOne {E = E} ParsesBool t v)
    → unwrap_or v false ≡ option_map_or is_given o false
flag_read E None v none value = ap (λ (x : Option Bool). unwrap_or x false) (none refl)
flag_read E (Some t) v none value = by v (value t refl) where
  by : (v : Option Bool) → ReadsOne {E = E} ParsesBool t v → unwrap_or v false ≡ is_given t
  by None h = not_given t (is_given t) refl h.1.0
  by (Some true) h = sym (ap is_given h)
  by (Some false) h = sym (ap is_given h)
