-- What a chain of steps that was accepted says of each step.
use Rattle.std.proofs.Common.{◌≡◌, refl, ℕ, suc, List, [], ◌∷◌, length, Result, Ok, Err, sym, ap, ◌∙◌}
use Rattle.iv_expr.specs.Evaluation.{and_then}
use Rattle.iv_catalogue.specs.declared.cause.Cause.{Cause}
use Rattle.iv_laws_levels.specs.Types.{Fault, Database}
use Rattle.iv_catalogue.specs.declared.cause.Refusal.{Refusal}
use Rattle.iv_machine.specs.Context.{Failure, over, unless_first, while_running, with_count, inside_trigger, each}

pub not_ok : {A E : Type 0} (e : E) (a : A) → ◌≡◌ {A = Result A E} (Err e) (Ok a) → ⊥
not_ok e a h = cc

pub ok_same : {A E : Type 0} (a b : A) → ◌≡◌ {A = Result A E} (Ok a) (Ok b) → a ≡ b
ok_same a b h = cc

-- a chain that was accepted: its first step was, and so was what follows
pub step_of : {A B E : Type 0} (r : Result A E) (f : A → Result B E) (y : B) → and_then r f ≡ Ok y → (x : A) × (r ≡ Ok x) × (f x ≡ Ok y)
step_of (Ok x) f y e = (x, refl, e)
step_of (Err z) f y e = absurd (not_ok z y e)

pub ok_inside : {A : Type 0} (trigger : ℕ) (r : Result A Failure) (y : A) → inside_trigger trigger r ≡ Ok y → r ≡ Ok y
ok_inside trigger (Ok x) y e = e
ok_inside trigger (Err f) y e = absurd (not_ok _ y e)

pub ok_over : {A : Type 0} (db : Database) (r : Result A Cause) (y : A) → over db r ≡ Ok y → r ≡ Ok y
ok_over db (Ok x) y e = ap Ok (ok_same x y e)
ok_over db (Err f) y e = absurd (not_ok _ y e)

pub ok_running : {A : Type 0} (trigger : ℕ) (r : Result A Cause) (y : A) → while_running trigger r ≡ Ok y → r ≡ Ok y
ok_running trigger (Ok x) y e = ap Ok (ok_same x y e)
ok_running trigger (Err f) y e = absurd (not_ok _ y e)

pub ok_with_count : {A : Type 0} (db : Database) (r : Result A Refusal) (y : A) → with_count db r ≡ Ok y → r ≡ Ok y
ok_with_count db (Ok x) y e = ap Ok (ok_same x y e)
ok_with_count db (Err f) y e = absurd (not_ok _ y e)

-- what no first fault refused has none
pub none_first : {A : Type 0} (db : Database) (cause : Fault → Cause) (faults : List Fault) (r : Result A Failure) (y : A)
    → unless_first db cause faults r ≡ Ok y → (faults ≡ []) × (r ≡ Ok y)
none_first db cause [] r y e = (refl, e)
none_first db cause (f ∷ fs) r y e = absurd (not_ok _ y e)

pub length_each : {A B E : Type 0} (f : A → Result B E) (xs : List A) (ys : List B) → each f xs ≡ Ok ys → length ys ≡ length xs
length_each f [] ys e = ap length (sym (ok_same [] ys e))
length_each f (x ∷ xs) ys e =
    let one = step_of (f x) _ ys e in
    let more = step_of (each f xs) _ ys one.2 in
    ap length (sym (ok_same (one.0 ∷ more.0) ys more.2)) ∙ ap suc (length_each f xs more.0 more.1)
