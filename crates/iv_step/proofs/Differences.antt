-- What came and what went.
use Rattle.std.proofs.Common.{◌≡◌, ℕ, Bool, true, false, ◌&&◌, ◌||◌, ◌==◌, not, if◌then◌else◌, List, [], ◌∷◌, filter, refl, sym, ap, ◌∙◌}
use Rattle.std.specs.List.{list_any}
use Rattle.std.proofs.lemmas.Bool.{and_parts, eqb-true}
use Rattle.iv_catalogue.specs.declared.cause.Fault.{Fault}
use Rattle.iv_step.specs.Pending.{DifferencesLead, has_fault, is_same, without}

-- one constraint and one row are one fault
pub same_is : (f g : Fault) → is_same f g ≡ true → g ≡ f
same_is f g h =
    let parts = and_parts (g.constraint == f.constraint) (g.row == f.row) h in
    ap (λ (k : ℕ). record { constraint = k; row = g.row }) (eqb-true g.constraint f.constraint parts.0)
    ∙ ap (λ (k : ℕ). record { constraint = f.constraint; row = k }) (eqb-true g.row f.row parts.1)

none : (b : Bool) → (b && false) ≡ false
none true = refl
none false = refl

-- with one fault more in front
abbrev kept : List Fault → List Fault → Fault → List Fault
kept xs ys x = if not (has_fault ys x) then x ∷ without xs ys else without xs ys

has_here : (xs ys : List Fault) (x f : Fault) → x ≡ f → is_same f x ≡ true → has_fault (without xs ys) f ≡ (has_fault xs f && not (has_fault ys f))
    → has_fault (kept xs ys x) f ≡ not (has_fault ys f)
has_here xs ys x f is e more =
    elim (has_fault ys x) as (λ b. has_fault ys x ≡ b → has_fault (if not b then x ∷ without xs ys else without xs ys) f ≡ not (has_fault ys f)) [
      | true ↦ λ h. more ∙ hidden (sym (ap (has_fault ys) is) ∙ h)
      | false ↦ λ h. ap (λ b. b || has_fault (without xs ys) f) e ∙ sym (ap not (sym (ap (has_fault ys) is) ∙ h))
    ] refl
  where
    hidden : has_fault ys f ≡ true → (has_fault xs f && not (has_fault ys f)) ≡ not (has_fault ys f)
    hidden h = ap (λ b. has_fault xs f && not b) h ∙ none (has_fault xs f) ∙ sym (ap not h)

has_further : (xs ys : List Fault) (x f : Fault) → is_same f x ≡ false → has_fault (without xs ys) f ≡ (has_fault xs f && not (has_fault ys f))
    → has_fault (kept xs ys x) f ≡ (has_fault xs f && not (has_fault ys f))
has_further xs ys x f e more =
    elim (has_fault ys x) as (λ b. has_fault (if not b then x ∷ without xs ys else without xs ys) f ≡ (has_fault xs f && not (has_fault ys f))) [
      | true ↦ more
      | false ↦ ap (λ b. b || has_fault (without xs ys) f) e ∙ more
    ]

-- a list without others has what it had and they don't have
pub has_without : (xs ys : List Fault) (f : Fault) → has_fault (without xs ys) f ≡ (has_fault xs f && not (has_fault ys f))
has_without [] ys f = refl
has_without (x ∷ xs) ys f =
    elim (is_same f x) as (λ b. is_same f x ≡ b → has_fault (kept xs ys x) f ≡ ((b || has_fault xs f) && not (has_fault ys f))) [
      | true ↦ λ e. has_here xs ys x f (same_is f x e) e (has_without xs ys f)
      | false ↦ λ e. has_further xs ys x f e (has_without xs ys f)
    ] refl

cases : (old new : Bool) → new ≡ ((old && not (old && not new)) || (new && not old))
cases true true = refl
cases true false = refl
cases false true = refl
cases false false = refl

pub lead : DifferencesLead
lead old new f =
    cases (has_fault old f) (has_fault new f)
    ∙ ap (λ b. (has_fault old f && not b) || (has_fault new f && not (has_fault old f))) (sym (has_without old new f))
    ∙ ap (λ b. (has_fault old f && not (has_fault (without old new) f)) || b) (sym (has_without new old f))
