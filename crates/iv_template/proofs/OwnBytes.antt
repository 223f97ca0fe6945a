-- A byte of the template that stands in the filled text.
use Rattle.std.proofs.Common.{◌≡◌, ℕ, suc, ◌+◌, ◌-◌, ◌<◌, ◌≤◌, Bool, true, false, Option, Some, None, unwrap_or, List, [], ◌∷◌, ◌++◌, length, take, drop, get_or, refl, sym, ◌∙◌, ap, arith, append_assoc, length-append}
use Rattle.std.specs.Prelude.{min, nat_lt, if◌then◌else◌}
use Rattle.std.proofs.lemmas.Bool.{lt-ltb, ltb-true, ltb-false}
use Rattle.std.proofs.lemmas.List.{take-append-drop, get_or_append_left, get_or-append-add, get_or-drop, length-take}
use Rattle.iv_value.specs.declared.value.Value.{Value}
use Rattle.iv_template.specs.Literals.{literal_text}
use Rattle.iv_template.specs.Templates.{fault_of}
use Rattle.iv_template.specs.Places.{behind_hole, fill_by, filled_length, filled_text, is_own, own_by, place_by, template_place}
use Rattle.iv_template.proofs.Found.{fault_within}

-- what is written for a hole
abbrev written : Value → List ℕ
written v = 32 ∷ (literal_text v ++ 32 ∷ [])

front_long : (text : List ℕ) (hole : ℕ) → hole < length text → length (take hole text) ≡ hole
front_long text hole h = omega (arith, h, length-take hole text)

-- a place before a hole is the same in a text and in one that begins with the same characters
before : (text more : List ℕ) (hole at : ℕ) → hole < length text → at < hole → get_or (take hole text ++ more) at 0 ≡ get_or text at 0
before text more hole at w l =
    let n : at < length (take hole text) = omega (arith, front_long text hole w, l) in
    get_or_append_left (take hole text) more 0 at n
    ∙ sym (get_or_append_left (take hole text) (drop hole text) 0 at n)
    ∙ ap (λ t. get_or t at 0) (take-append-drop hole text)

-- a place behind what is written for the hole
behind_written : (text more : List ℕ) (hole at : ℕ) (v : Value) → hole < length text → filled_length hole v ≤ at
    → get_or (take hole text ++ 32 ∷ (literal_text v ++ 32 ∷ more)) at 0 ≡ get_or more (at - filled_length hole v) 0
behind_written text more hole at v w l =
    let front : List ℕ = take hole text ++ written v in
    let n : length front ≡ filled_length hole v = length-append (take hole text) (written v) ∙ ap (λ k. k + length (written v)) (front_long text hole w) in
    let e : at ≡ length front + (at - filled_length hole v) = omega (arith, n, l) in
    let split : take hole text ++ 32 ∷ (literal_text v ++ 32 ∷ more) ≡ front ++ more =
    ap (λ t. take hole text ++ 32 ∷ t) (sym (append_assoc (literal_text v) (32 ∷ []) more)) ∙ sym (append_assoc (take hole text) (written v) more) in
    ap (λ t. get_or t at 0) split ∙ ap (λ k. get_or (front ++ more) k 0) e ∙ get_or-append-add front more (at - filled_length hole v) 0

abbrev Same : List ℕ → List Value → Value → Option ℕ → ℕ → Type 0
Same text vs v o at =
    own_by o v at (is_own (behind_hole text) vs) ≡ true
    → get_or (fill_by text o v (filled_text (behind_hole text) vs)) at 0 ≡ get_or text (place_by o v at (template_place (behind_hole text) vs)) 0

at_hole : (text : List ℕ) (vs : List Value) (v : Value) (hole at : ℕ) (a b : Bool) → hole < length text → behind_hole text ≡ drop (suc hole) text
    → nat_lt at hole ≡ a → nat_lt at (filled_length hole v) ≡ b
    → ((n : ℕ) → is_own (behind_hole text) vs n ≡ true → get_or (filled_text (behind_hole text) vs) n 0 ≡ get_or (behind_hole text) (template_place (behind_hole text) vs n) 0)
    → Same text vs v (Some hole) at
at_hole text vs v hole at true b w d ea eb ih own =
    let l : at < hole = ltb-true at hole ea in
    let t : nat_lt at (filled_length hole v) ≡ true = lt-ltb at (filled_length hole v) (omega (arith, l)) in
    let m : min at hole ≡ at = omega (arith, l) in
    before text (32 ∷ (literal_text v ++ 32 ∷ filled_text (behind_hole text) vs)) hole at w l
    ∙ ap (λ k. get_or text k 0) (sym (ap (λ c. if c then min at hole else suc hole + template_place (behind_hole text) vs (at - filled_length hole v)) t ∙ m))
at_hole text vs v hole at false true w d ea eb ih own =
    absurd (let e : false ≡ true =
    sym (ap (λ c. if c then true else (if nat_lt at (filled_length hole v) then false else is_own (behind_hole text) vs (at - filled_length hole v))) ea
    ∙ ap (λ c. if c then false else is_own (behind_hole text) vs (at - filled_length hole v)) eb) ∙ own in cc)
at_hole text vs v hole at false false w d ea eb ih own =
    let n : ℕ = at - filled_length hole v in
    let l : filled_length hole v ≤ at = ltb-false at (filled_length hole v) eb in
    let mine : is_own (behind_hole text) vs n ≡ true =
    sym (ap (λ c. if c then true else (if nat_lt at (filled_length hole v) then false else is_own (behind_hole text) vs n)) ea
    ∙ ap (λ c. if c then false else is_own (behind_hole text) vs n) eb) ∙ own in
    behind_written text (filled_text (behind_hole text) vs) hole at v w l
    ∙ ih n mine
    ∙ ap (λ t. get_or t (template_place (behind_hole text) vs n) 0) d
    ∙ get_or-drop (suc hole) text (template_place (behind_hole text) vs n) 0
    ∙ ap (λ k. get_or text k 0) (sym (ap (λ c. if c then min at hole else suc hole + template_place (behind_hole text) vs n) eb))

by_fault : (text : List ℕ) (vs : List Value) (v : Value) (at : ℕ) (o : Option ℕ) → fault_of text ≡ o
    → ((n : ℕ) → is_own (behind_hole text) vs n ≡ true → get_or (filled_text (behind_hole text) vs) n 0 ≡ get_or (behind_hole text) (template_place (behind_hole text) vs n) 0)
    → Same text vs v o at
by_fault text vs v at None e ih own = refl
by_fault text vs v at (Some hole) e ih own =
    at_hole text vs v hole at (nat_lt at hole) (nat_lt at (filled_length hole v)) (fault_within text hole e)
    (ap (λ (o : Option ℕ). drop (suc (unwrap_or o 0)) text) e) refl refl ih own

pub own_bytes : (text : List ℕ) (values : List Value) (at : ℕ) → is_own text values at ≡ true
    → get_or (filled_text text values) at 0 ≡ get_or text (template_place text values at) 0
own_bytes text [] at own = refl
own_bytes text (v ∷ vs) at own = by_fault text vs v at (fault_of text) refl (own_bytes (behind_hole text) vs) own
