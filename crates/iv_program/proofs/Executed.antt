-- Statements, executed one after another.
use Rattle.std.proofs.Common.{◌≡◌, ◌+◌, ℕ, Bool, true, false, List, [], ◌∷◌, ◌∙◌, Result, MatchBool, refl, sym, ap, subst, arith}
use Rattle.iv_syntax.specs.declared.statement.Statement.{Statement}
use Rattle.iv_syntax.specs.declared.statement.Statement.TheVariants.{Rollback}
use Rattle.iv_catalogue.specs.declared.cause.Refusal.{Refusal}
use Rattle.iv_catalogue.specs.Refusals.{is_memory}
use Rattle.iv_machine.specs.declared.answer.Answer.{Answer}
use Rattle.iv_machine.specs.Machine.{State, MemoryRefused}
use Rattle.iv_step.specs.Step.{Executes, run, step, takes_no_memory}
use Rattle.iv_program.specs.Executing.{Leaves, refused_count, refused_of, rolled_back}

-- what the statements that are left leave, all of them leave, and so many more were refused
abbrev pub Onward : State → State → List Statement → List Statement → ℕ → Type 0
Onward old now all rest refused = (new : State) (more : ℕ) → Leaves now rest new more → Leaves old all new (refused + more)

pub onward_start : (s : State) (all : List Statement) (refused : ℕ) → refused ≡ 0 → Onward s s all all refused
onward_start s all refused none = λ new more left.
    let e : more ≡ refused + more = omega (arith, none) in
    subst (Leaves s all new) e left

-- the answer and the next state are the machine's
abbrev pub IsStep : State → Statement → State → ℕ → Type 0
IsStep old st new refused = (new ≡ (step old st).state) × (refused ≡ refused_of (step old st).answer)

pub onward_more : (old now between : State) (all left rest : List Statement) (st : Statement) (refused first : ℕ)
    → Onward old now all left refused → left ≡ st ∷ rest → IsStep now st between first → Onward old between all rest (refused + first)
onward_more old now between all left rest st refused first onward e does = λ new more left_over.
    let count : first + more ≡ refused_of (step now st).answer + refused_count (run (step now st).state rest).0 =
    ap (λ k. k + more) does.1 ∙ ap (λ k. refused_of (step now st).answer + k) (left_over.1 ∙ ap (λ s. refused_count (run s rest).0) does.0) in
    let state : new ≡ (run (step now st).state rest).1 = left_over.0 ∙ ap (λ s. (run s rest).1) does.0 in
    let whole : Leaves now left new (first + more) = subst (λ (l : List Statement). Leaves now l new (first + more)) (sym e) (state, count) in
    let sum : refused + (first + more) ≡ refused + first + more = omega arith in
    subst (Leaves old all new) sum (onward new (first + more) whole)

pub onward_end : (old now : State) (all rest : List Statement) (refused : ℕ) → Onward old now all rest refused → rest ≡ [] → Leaves old all now refused
onward_end old now all rest refused onward e =
    let none : refused + 0 ≡ refused = omega arith in
    subst (Leaves old all now) none (onward now 0 (subst (λ (l : List Statement). Leaves now l now 0) (sym e) (refl, refl)))

-- a statement that wasn't refused for want of memory
pub is_step : (old new : State) (st : Statement) (r : Result Answer Refusal) (refused : ℕ) → Executes old st r new → is_memory r ≡ false
    → refused ≡ refused_of r → IsStep old st new refused
is_step old new st r refused e sure count =
    let both : (r ≡ (step old st).answer) × (new ≡ (step old st).state) =
    subst (λ (b : Bool). MatchBool b (MemoryRefused old st r new) ((r ≡ (step old st).answer) × (new ≡ (step old st).state))) sure e in
    (both.1, count ∙ ap refused_of both.0)

-- ROLLBACK is never refused
pub executes_rollback : (old new : State) (r : Result Answer Refusal) → Executes old Rollback r new
    → (takes_no_memory old Rollback ≡ true → is_memory r ≡ false) → new ≡ rolled_back old
executes_rollback old new r e sure =
    (subst (λ (b : Bool). MatchBool b (MemoryRefused old Rollback r new) ((r ≡ (step old Rollback).answer) × (new ≡ (step old Rollback).state))) (sure refl) e).1
