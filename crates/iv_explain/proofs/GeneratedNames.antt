-- The name that is generated for a constraint, as JSON, is its parts one after another.
use Rattle.std.proofs.Common.{◌≡◌, ◌∙◌, ℕ, List, [], ◌∷◌, ◌++◌, codes, decimal, ap, sym, append_assoc}
use Rattle.std.specs.List.{flat_map}
use Rattle.std.proofs.lemmas.Grind.{flat_map-append}
use Rattle.iv_catalogue.specs.Names.{generated_name}
use Rattle.iv_text.specs.Json.{escaped, json_text}
use Rattle.iv_explain.specs.JsonNames.{generated_parts}

pub parts_are : (table : List ℕ) (place : ℕ) → generated_parts table place ≡ json_text (generated_name table place)
unfolding json_text generated_name
parts_are table place =
    let c : List ℕ = codes "_C" in
    let d : List ℕ = decimal place in
    let q : List ℕ = 34 ∷ [] in
    sym (
    ap (λ (l : List ℕ). 34 ∷ (l ++ q)) (flat_map-append escaped table (c ++ d))
    ∙ ap (λ (l : List ℕ). 34 ∷ l) (append_assoc (flat_map escaped table) (flat_map escaped (c ++ d)) q)
    ∙ ap (λ (l : List ℕ). 34 ∷ (flat_map escaped table ++ (l ++ q))) (flat_map-append escaped c d)
    ∙ ap (λ (l : List ℕ). 34 ∷ (flat_map escaped table ++ l)) (append_assoc (flat_map escaped c) (flat_map escaped d) q))
