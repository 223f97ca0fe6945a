-- The second primary key among the constraints that are left, if it is known whether one stands before them.
use Rattle.std.proofs.Common.{◌≡◌, refl, ap, ◌∙◌, sym, ℕ, ◌+◌, Bool, true, false, ◌&&◌, ◌||◌, cond, List, [], ◌∷◌, filter, Some, None, slice_get}
use Rattle.std.specs.List.{enumerate_from}
use Rattle.iv_resolution.specs.Constraints.{WrittenConstraint}
use Rattle.iv_resolution.specs.Tables.{is_primary_rule}
use Rattle.iv_resolve_reasons.specs.SchemaFaults.{primary_keys}

-- the primary keys if the first constraint is one, or isn't
keys_with : (place : ℕ) (k : WrittenConstraint) (rest : List WrittenConstraint) (b : Bool) → is_primary_rule k.rule ≡ b
    → primary_keys place (k ∷ rest) ≡ cond b ((place, k) ∷ primary_keys (place + 1) rest) (primary_keys (place + 1) rest)
unfolding primary_keys
keys_with place k rest b h =
    ap (λ c. cond c ((place, k) ∷ filter (λ (p : ℕ × WrittenConstraint). is_primary_rule p.1.rule) (enumerate_from (place + 1) rest)) (filter (λ (p : ℕ × WrittenConstraint). is_primary_rule p.1.rule) (enumerate_from (place + 1) rest))) h

passed : (place : ℕ) (k : WrittenConstraint) (more : List (ℕ × WrittenConstraint)) (before b : Bool) → (before && b) ≡ false
    → slice_get (cond b ((place, k) ∷ more) more) (cond before 0 1) ≡ slice_get more (cond (before || b) 0 1)
passed place k more true true h = cc
passed place k more true false h = refl
passed place k more false true h = refl
passed place k more false false h = refl

pub second_passed : (place : ℕ) (k : WrittenConstraint) (left rest : List WrittenConstraint) (before b : Bool) → k ∷ rest ≡ left → b ≡ is_primary_rule k.rule → (before && b) ≡ false
    → slice_get (primary_keys place left) (cond before 0 1) ≡ slice_get (primary_keys (place + 1) rest) (cond (before || b) 0 1)
second_passed place k left rest before b h e g =
    ap (λ (ks : List WrittenConstraint). slice_get (primary_keys place ks) (cond before 0 1)) (sym h)
    ∙ ap (λ (ks : List (ℕ × WrittenConstraint)). slice_get ks (cond before 0 1)) (keys_with place k rest b (sym e)) ∙ passed place k (primary_keys (place + 1) rest) before b g

at_hand : (place : ℕ) (k : WrittenConstraint) (more : List (ℕ × WrittenConstraint)) (before b : Bool) → (before && b) ≡ true
    → slice_get (cond b ((place, k) ∷ more) more) (cond before 0 1) ≡ Some (place, k)
at_hand place k more true true h = refl
at_hand place k more true false h = cc
at_hand place k more false b h = cc

pub second_found : (place : ℕ) (k : WrittenConstraint) (left rest : List WrittenConstraint) (before b : Bool) → k ∷ rest ≡ left → b ≡ is_primary_rule k.rule → (before && b) ≡ true
    → slice_get (primary_keys place left) (cond before 0 1) ≡ Some (place, k)
second_found place k left rest before b h e g =
    ap (λ (ks : List WrittenConstraint). slice_get (primary_keys place ks) (cond before 0 1)) (sym h)
    ∙ ap (λ (ks : List (ℕ × WrittenConstraint)). slice_get ks (cond before 0 1)) (keys_with place k rest b (sym e)) ∙ at_hand place k (primary_keys (place + 1) rest) before b g

pub second_end : (place n : ℕ) (left : List WrittenConstraint) → [] ≡ left → slice_get (primary_keys place left) n ≡ None
unfolding primary_keys
second_end place n left h = ap (λ (ks : List WrittenConstraint). slice_get (primary_keys place ks) n) (sym h)

pub both_true : (a b : Bool) → a ≡ true → b ≡ true → (a && b) ≡ true
both_true a b h g = ap (λ x. x && b) h ∙ g

pub first_false : (a b : Bool) → a ≡ false → (a && b) ≡ false
first_false a b h = ap (λ x. x && b) h

pub second_false : (a b : Bool) → b ≡ false → (a && b) ≡ false
second_false true b h = h
second_false false b h = refl
