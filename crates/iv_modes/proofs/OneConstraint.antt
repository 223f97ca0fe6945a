-- A table with one constraint more.
use Rattle.std.proofs.Common.{◌≡◌, ℕ, false, List, [], ◌∷◌, ◌||◌, ◌∙◌, map, sym, ap}
use Rattle.std.specs.List.{list_any}
use Rattle.std.specs.Str.{bytes_eq}
use Rattle.iv_catalogue.specs.Names.{has_repeated}
use Rattle.iv_catalogue.specs.declared.constraint.Constraint.{Constraint}
use Rattle.iv_catalogue.proofs.NamedLists.{any_map}

-- one name that is not in use repeats nothing
pub unused_is_new : (ks : List Constraint) (name : List ℕ) → list_any (λ k. bytes_eq name k.name) ks ≡ false → has_repeated (map (λ k. k.name) ks) (name ∷ []) ≡ false
unfolding has_repeated
unused_is_new ks name h = ap (λ b. b || false) (sym (any_map (bytes_eq name) (λ (k : Constraint). k.name) ks) ∙ h)
