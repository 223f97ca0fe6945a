-- Lists that are drawn from others: of each element one thing or none, in their order.
use Rattle.std.proofs.Common.{◌≡◌, refl, Bool, true, false, if◌then◌else◌, List, [], ◌∷◌, map, filter, filter_map, Option, Some, None, Result, Ok, sym, ap, subst}
use Rattle.std.specs.List.{cons_option}
use Rattle.iv_laws_levels.specs.Types.{Value, Cond}
use Rattle.iv_expr.specs.Evaluation.{and_then}
use Rattle.iv_expr.specs.Scopes.{Scope, within}
use Rattle.iv_catalogue.specs.declared.cause.Cause.{Cause}
use Rattle.iv_machine.specs.Context.{each}
use Rattle.iv_machine.specs.Proposals.{holds, element_where_true, where_true}
use Rattle.iv_laws_levels.proofs.Chains.{ok_same, step_of}

-- the second list is of some of the first, in their order, each related to its own
pub data Drawn {A B : Type 0} (R : A → B → Type 0) : List A → List B → Type 0 where
  nothing : Drawn R [] []
  passed : {xs : List A} {ys : List B} → (x : A) → Drawn R xs ys → Drawn R (x ∷ xs) ys
  taken : {xs : List A} {ys : List B} → (x : A) (y : B) → R x y → Drawn R xs ys → Drawn R (x ∷ xs) (y ∷ ys)

-- some of a list
abbrev pub Among : {A : Type 0} → List A → List A → Type 0
Among xs ys = Drawn ◌≡◌ xs ys

pub among_filter : {A : Type 0} (p : A → Bool) (xs : List A) → Among xs (filter p xs)
among_filter p [] = nothing
among_filter p (x ∷ xs) =
    elim (p x) as (λ b. Among (x ∷ xs) (if b then x ∷ filter p xs else filter p xs)) [
      | true ↦ taken x x refl (among_filter p xs)
      | false ↦ passed x (among_filter p xs)
    ]

-- the first element is related to what the second list's rest is drawn from
taken_over : {A B : Type 0} (R : A → B → Type 0) (x y : A) (more others : List A) → x ≡ y → ((zs : List B) → Drawn R others zs → Drawn R more zs)
    → (zs : List B) → Drawn R (y ∷ others) zs → Drawn R (x ∷ more) zs
taken_over R x y more others e ih zs (passed y' rest) = passed x (ih zs rest)
taken_over R x y more others e ih zs (taken {ys = left} y' z r rest) = taken x z (subst (λ v. R v z) (sym e) r) (ih left rest)

pub drawn_among : {A B : Type 0} (R : A → B → Type 0) (xs ys : List A) (zs : List B) → Among xs ys → Drawn R ys zs → Drawn R xs zs
drawn_among R xs ys zs nothing d = d
drawn_among R xs ys zs (passed {xs = more} x a) d = passed x (drawn_among R more ys zs a d)
drawn_among R xs ys zs (taken {xs = more} {ys = others} x y e a) d = taken_over R x y more others e (λ left rest. drawn_among R more others left a rest) zs d

pub drawn_each : {A B E : Type 0} (R : A → B → Type 0) (f : A → Result B E) → ((x : A) (y : B) → f x ≡ Ok y → R x y)
    → (xs : List A) (ys : List B) → each f xs ≡ Ok ys → Drawn R xs ys
drawn_each R f h [] ys e = subst (Drawn R []) (ok_same [] ys e) nothing
drawn_each R f h (x ∷ xs) ys e =
    let one = step_of (f x) _ ys e in
    let more = step_of (each f xs) _ ys one.2 in
    subst (Drawn R (x ∷ xs)) (ok_same (one.0 ∷ more.0) ys more.2) (taken x one.0 (h x one.0 one.1) (drawn_each R f h xs more.0 more.1))

pub drawn_map : {A B : Type 0} (R : A → B → Type 0) (f : A → B) → ((x : A) → R x (f x)) → (xs : List A) → Drawn R xs (map f xs)
drawn_map R f h [] = nothing
drawn_map R f h (x ∷ xs) = taken x (f x) (h x) (drawn_map R f h xs)

drawn_option : {A B : Type 0} (R : A → B → Type 0) (x : A) (xs : List A) (ys : List B) (o : Option B) → ((y : B) → o ≡ Some y → R x y)
    → Drawn R xs ys → Drawn R (x ∷ xs) (cons_option o ys)
drawn_option R x xs ys None h d = passed x d
drawn_option R x xs ys (Some y) h d = taken x y (h y refl) d

pub drawn_filter_map : {A B : Type 0} (R : A → B → Type 0) (f : A → Option B) → ((x : A) (y : B) → f x ≡ Some y → R x y)
    → (xs : List A) → Drawn R xs (filter_map f xs)
drawn_filter_map R f h [] = nothing
drawn_filter_map R f h (x ∷ xs) = drawn_option R x xs (filter_map f xs) (f x) (h x) (drawn_filter_map R f h xs)

-- the elements where a condition is true are some of all
module _ {A : Type 0} (row_of : A → List Value) (s : Scope) (c : Cond) where
  abbrev paired : A → Result (A × Bool) Cause
  paired x = and_then (holds (within s (row_of x)) c) (λ b. Ok (x, b))

  paired_is : (x : A) (p : A × Bool) → paired x ≡ Ok p → x ≡ p.0
  paired_is x p e = let one = step_of (holds (within s (row_of x)) c) _ p e in ap (λ q. q.0) (ok_same (x, one.0) p one.2)

  among_kept : (xs : List A) (pairs : List (A × Bool)) → each paired xs ≡ Ok pairs → Among xs (filter_map element_where_true pairs)
  among_kept [] pairs e = subst (λ ps. Among [] (filter_map element_where_true ps)) (ok_same [] pairs e) nothing
  among_kept (x ∷ xs) pairs e =
      let one = step_of (paired x) _ pairs e in
      let more = step_of (each paired xs) _ pairs one.2 in
      let rest = among_kept xs more.0 more.1 in
      subst (λ ps. Among (x ∷ xs) (filter_map element_where_true ps)) (ok_same (one.0 ∷ more.0) pairs more.2)
      (elim one.0.1 as (λ b. Among (x ∷ xs) (cons_option (if b then Some one.0.0 else None) (filter_map element_where_true more.0))) [
        | true ↦ taken x one.0.0 (paired_is x one.0 one.1) rest
        | false ↦ passed x rest
      ])

  pub among_where_true : (xs ys : List A) → where_true row_of s c xs ≡ Ok ys → Among xs ys
  among_where_true xs ys e =
      let pairs = step_of (each paired xs) _ ys e in
      subst (Among xs) (ok_same (filter_map element_where_true pairs.0) ys pairs.2) (among_kept xs pairs.0 pairs.1)
