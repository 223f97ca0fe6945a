-- A place of a filled text, hole by hole, and a template whose holes are blanked one by one.
use Rattle.std.proofs.Common.{◌≡◌, ℕ, zero, suc, ◌+◌, ◌-◌, ◌<◌, ◌≤◌, Option, None, unwrap_or, List, [], ◌∷◌, ◌++◌, length, take, drop, refl, sym, ◌∙◌, ap, arith, append_assoc, length-append}
use Rattle.std.specs.Prelude.{min, if◌then◌else◌}
use Rattle.std.proofs.Math.Seq.{drop-append-add, take-append_seam}
use Rattle.std.proofs.lemmas.Bool.{lt-ltb, le-ltb}
use Rattle.iv_value.specs.declared.value.Value.{Value}
use Rattle.iv_template.specs.Holes.{IsHole}
use Rattle.iv_template.specs.Literals.{literal_text}
use Rattle.iv_template.specs.Templates.{fault_of}
use Rattle.iv_template.specs.Places.{behind_hole, blank_by, blanked, fill_by, filled_length, filled_text, place_by, template_place}

-- what is behind the hole that was found
pub behind_is : (text front rest : List ℕ) → IsHole text front rest → behind_hole text ≡ rest
behind_is text front rest h =
    ap (λ (o : Option ℕ). drop (suc (unwrap_or o 0)) text) h.here
    ∙ ap (drop (suc (length front))) h.whole
    ∙ (let e : suc (length front) ≡ length front + 1 = omega arith in ap (λ k. drop k (front ++ 63 ∷ rest)) e)
    ∙ drop-append-add front (63 ∷ rest) 1

-- a place behind what is written for the hole
pub place_behind : (text front rest : List ℕ) (v : Value) (vs : List Value) (at : ℕ) → IsHole text front rest → filled_length (length front) v ≤ at
    → template_place text (v ∷ vs) at ≡ suc (length front) + template_place rest vs (at - filled_length (length front) v)
place_behind text front rest v vs at h l =
    ap (λ (o : Option ℕ). place_by o v at (template_place (behind_hole text) vs)) h.here
    ∙ ap (λ b. if b then min at (length front) else suc (length front) + template_place (behind_hole text) vs (at - filled_length (length front) v)) (le-ltb at (filled_length (length front) v) l)
    ∙ ap (λ t. suc (length front) + template_place t vs (at - filled_length (length front) v)) (behind_is text front rest h)

-- one before it, or in it
pub place_before : (text front rest : List ℕ) (v : Value) (vs : List Value) (at : ℕ) → IsHole text front rest → at < filled_length (length front) v
    → template_place text (v ∷ vs) at ≡ min at (length front)
place_before text front rest v vs at h l =
    ap (λ (o : Option ℕ). place_by o v at (template_place (behind_hole text) vs)) h.here
    ∙ ap (λ b. if b then min at (length front) else suc (length front) + template_place (behind_hole text) vs (at - filled_length (length front) v)) (lt-ltb at (filled_length (length front) v) l)

-- one of a text without a hole
pub place_without : (text : List ℕ) (vs : List Value) (at : ℕ) → fault_of text ≡ None → template_place text vs at ≡ at
place_without text [] at f = refl
place_without text (v ∷ vs) at f = ap (λ (o : Option ℕ). place_by o v at (template_place (behind_hole text) vs)) f

-- the first hole is blanked, and then those behind it
pub blanked_more : (text front rest : List ℕ) (n : ℕ) → IsHole text front rest → blanked text (suc n) ≡ (front ++ 32 ∷ []) ++ blanked rest n
blanked_more text front rest n h =
    ap (λ (o : Option ℕ). blank_by text o (blanked (behind_hole text) n)) h.here
    ∙ ap (λ t. t ++ 32 ∷ blanked (behind_hole text) n) (ap (take (length front)) h.whole ∙ take-append_seam front (63 ∷ rest))
    ∙ ap (λ t. front ++ 32 ∷ blanked t n) (behind_is text front rest h)
    ∙ sym (append_assoc front (32 ∷ []) (blanked rest n))

-- a text without a hole stays
pub blanked_without : (text : List ℕ) (n : ℕ) → fault_of text ≡ None → blanked text n ≡ text
blanked_without text zero f = refl
blanked_without text (suc n) f = ap (λ (o : Option ℕ). blank_by text o (blanked (behind_hole text) n)) f

-- the first hole is filled, and then those behind it
pub filled_more : (text front rest : List ℕ) (v : Value) (vs : List Value) → IsHole text front rest
    → filled_text text (v ∷ vs) ≡ (front ++ 32 ∷ (literal_text v ++ 32 ∷ [])) ++ filled_text rest vs
filled_more text front rest v vs h =
    ap (λ (o : Option ℕ). fill_by text o v (filled_text (behind_hole text) vs)) h.here
    ∙ ap (λ t. t ++ 32 ∷ (literal_text v ++ 32 ∷ filled_text (behind_hole text) vs)) (ap (take (length front)) h.whole ∙ take-append_seam front (63 ∷ rest))
    ∙ ap (λ t. front ++ 32 ∷ (literal_text v ++ 32 ∷ filled_text t vs)) (behind_is text front rest h)
    ∙ ap (λ t. front ++ 32 ∷ t) (sym (append_assoc (literal_text v) (32 ∷ []) (filled_text rest vs)))
    ∙ sym (append_assoc front (32 ∷ (literal_text v ++ 32 ∷ [])) (filled_text rest vs))

-- ---- the loop of template_place

one_more : (rest front after : List ℕ) → IsHole rest front after → length rest ≡ length front + 1 + length after
one_more rest front after h = omega (arith, ap length h.whole, length-append front (63 ∷ after))

-- the place is one behind the hole
pub place_goes_on : (template rest front after : List ℕ) (v : Value) (vs : List Value) (passed at place : ℕ) → length template ≡ passed + length rest → IsHole rest front after
    → filled_length (length front) v ≤ at → (length template - length rest) + template_place rest (v ∷ vs) at ≡ place
    → (length template - length after) + template_place after vs (at - filled_length (length front) v) ≡ place
place_goes_on template rest front after v vs passed at place w h l i =
    let e : template_place rest (v ∷ vs) at ≡ suc (length front) + template_place after vs (at - filled_length (length front) v) = place_behind rest front after v vs at h l in
    let n : length rest ≡ length front + 1 + length after = one_more rest front after h in
    omega (arith, w, n, e, i)

-- it is no greater
pub place_falls : (template rest front after : List ℕ) (v : Value) (passed at place : ℕ) → length template ≡ passed + length rest → IsHole rest front after
    → filled_length (length front) v ≤ at → (length template - length rest) + at ≤ place
    → (length template - length after) + (at - filled_length (length front) v) ≤ place
place_falls template rest front after v passed at place w h l i =
    let n : length rest ≡ length front + 1 + length after = one_more rest front after h in
    let m : length (32 ∷ (literal_text v ++ 32 ∷ [])) ≡ suc (length (literal_text v ++ 32 ∷ [])) = refl in
    omega (arith, w, n, l, m, i)
