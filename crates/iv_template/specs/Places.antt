-- The characters of a filled text, where a place of it is in its template, and the template without its question marks.
use Rattle.std.specs.Prelude.{◌≡◌, Bool, true, false, slice_index, ℕ, zero, suc, ◌+◌, ◌-◌, Option, Some, None, List, [], ◌∷◌, ◌++◌, length, take, drop, min, nat_lt, if◌then◌else◌, unwrap_or}
use Rattle.iv_value.specs.declared.value.Value.{Value}
use Rattle.iv_template.specs.Literals.{literal_text}
use Rattle.iv_template.specs.Templates.{fault_of}

-- how many bytes a filled text has for what comes before a hole, which is so long, and for the hole: its literal with a space on each side
abbrev pub filled_length : ℕ → Value → ℕ
filled_length front v = front + length (32 ∷ (literal_text v ++ 32 ∷ []))

-- what follows the first hole of a text
abbrev pub behind_hole : List ℕ → List ℕ
behind_hole text = drop (suc (unwrap_or (fault_of text) 0)) text

-- A place before the first hole is the same in both. One in what is written for the hole is the hole's. One behind it is looked for behind
-- the hole.
abbrev pub place_by : Option ℕ → Value → ℕ → (ℕ → ℕ) → ℕ
place_by None v at behind = at
place_by (Some hole) v at behind =
    if nat_lt at (filled_length hole v) then min at hole else suc hole + behind (at - filled_length hole v)

-- the place in a template of a place in the text that is the template filled with these values
abbrev pub template_place : List ℕ → List Value → ℕ → ℕ
template_place template [] at = at
template_place template (v ∷ vs) at = place_by (fault_of template) v at (template_place (behind_hole template) vs)

-- a space in place of the first hole, and this behind it
abbrev pub blank_by : List ℕ → Option ℕ → List ℕ → List ℕ
blank_by text None behind = text
blank_by text (Some hole) behind = take hole text ++ 32 ∷ behind

-- A template with a space in place of each of its first question marks: its other bytes have the places that they have in the template.
abbrev pub blanked : List ℕ → ℕ → List ℕ
blanked template zero = template
blanked template (suc n) = blank_by template (fault_of template) (blanked (behind_hole template) n)

-- what is written for the first hole, and this behind it
abbrev pub fill_by : List ℕ → Option ℕ → Value → List ℕ → List ℕ
fill_by text None v behind = text
fill_by text (Some hole) v behind = take hole text ++ 32 ∷ (literal_text v ++ 32 ∷ behind)

-- the characters of a template that is filled: the literal of each value in place of its hole, with a space on each side
abbrev pub filled_text : List ℕ → List Value → List ℕ
filled_text template [] = template
filled_text template (v ∷ vs) = fill_by template (fault_of template) v (filled_text (behind_hole template) vs)

-- a place of a filled text at which a byte of the template stands, and none that is written for a hole
abbrev pub own_by : Option ℕ → Value → ℕ → (ℕ → Bool) → Bool
own_by None v at behind = true
own_by (Some hole) v at behind =
    if nat_lt at hole then true else (if nat_lt at (filled_length hole v) then false else behind (at - filled_length hole v))

abbrev pub is_own : List ℕ → List Value → ℕ → Bool
is_own template [] at = true
is_own template (v ∷ vs) at = own_by (fault_of template) v at (is_own (behind_hole template) vs)

-- At such a place a filled text has the byte that the template has at the place that is told.
abbrev pub OwnBytesStay : Type 0
OwnBytesStay =
    (template : List ℕ) (values : List Value) (at : ℕ) → is_own template values at ≡ true
    → slice_index (filled_text template values) at ≡ slice_index template (template_place template values at)
