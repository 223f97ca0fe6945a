-- How many keys are looked up over several steps.
use Rattle.std.proofs.Common.{◌≡◌, ℕ, ◌+◌, ◌-◌, ◌*◌, ◌≤◌, Bool, List, length, is_some, MatchBool, ap, subst, ◌∙◌, arith}
use Rattle.std.proofs.Math.Nat.{add-mul, mul-add, mul-le-mul_right}
use Rattle.iv_catalogue.specs.declared.constraint.Constraint.{Constraint}
use Rattle.iv_catalogue.proofs.TriggerNumbers.{length_filter}
use Rattle.iv_machine.specs.ReferentialActions.{foreign_key}
use Rattle.iv_store.specs.Stores.{StoreState, most_lookups}
use Rattle.iv_exec_context.proofs.Answers.{unless_memory}
use Rattle.iv_laws_rows.specs.Changing.{with_database}
use Rattle.iv_store.specs.Lookups.{LooksUp, foreign_keys}

pub none_looked : (s : StoreState) (n : ℕ) → LooksUp s n s n
none_looked s n = record { more = omega arith; looked_up = omega arith }

fewer : (constraints : List Constraint) → foreign_keys constraints ≤ length constraints
fewer constraints = length_filter (λ (c : Constraint). is_some (foreign_key c.rule)) constraints

-- after so many changes were made, and what follows them was found
pub looked_on : (a b c : StoreState) (changes : ℕ) (constraints : List Constraint) (n m k : ℕ) → constraints ≡ a.constraints
    → b.base.count ≡ a.base.count + changes → c ≡ b
    → m ≤ n + most_lookups * length a.constraints * changes → k ≤ m + foreign_keys constraints * changes → LooksUp a n c k
looked_on a b c changes constraints n m k same count kept h g =
    let few : foreign_keys constraints ≤ length a.constraints = subst (λ l. foreign_keys constraints ≤ length l) same (fewer constraints) in
    let times : foreign_keys constraints * changes ≤ length a.constraints * changes = mul-le-mul_right changes few in
    let eight : 8 * length a.constraints ≡ 7 * length a.constraints + length a.constraints = omega arith in
    let split : 8 * length a.constraints * changes ≡ 7 * length a.constraints * changes + length a.constraints * changes =
    ap (λ x. x * changes) eight ∙ add-mul (7 * length a.constraints) (length a.constraints) changes in
    let made : c.base.count ≡ a.base.count + changes = ap (λ s. s.base.count) kept ∙ count in
    let number : changes ≡ c.base.count - a.base.count = omega (arith, made) in
    record { more = omega (arith, made); looked_up = subst (λ x. k ≤ n + 8 * length a.constraints * x) number (omega (arith, h, g, times, split)) }

-- from a first store to a second, and from there to a third
pub looked_up_both : (a b c : StoreState) (n m k : ℕ) → b ≡ with_database a b.base → LooksUp a n b m → LooksUp b m c k → LooksUp a n c k
looked_up_both a b c n m k kept h g =
    let same : length b.constraints ≡ length a.constraints = ap (λ s. length s.constraints) kept in
    let whole : c.base.count - a.base.count ≡ (b.base.count - a.base.count) + (c.base.count - b.base.count) = omega (arith, h.more, g.more) in
    let split : 8 * length a.constraints * (c.base.count - a.base.count) ≡ 8 * length a.constraints * (b.base.count - a.base.count) + 8 * length a.constraints * (c.base.count - b.base.count) =
    ap (λ x. 8 * length a.constraints * x) whole ∙ mul-add (8 * length a.constraints) (b.base.count - a.base.count) (c.base.count - b.base.count) in
    let second : k ≤ m + 8 * length a.constraints * (c.base.count - b.base.count) = subst (λ x. k ≤ m + 8 * x * (c.base.count - b.base.count)) same g.looked_up in
    record { more = omega (arith, h.more, g.more); looked_up = omega (arith, h.looked_up, second, split) }

pub looked_refused : (memory : Bool) (a b c : StoreState) (n m k : ℕ) → b ≡ with_database a b.base → LooksUp a n b m
    → MatchBool memory (Unit {0}) (LooksUp b m c k) → MatchBool memory (Unit {0}) (LooksUp a n c k)
looked_refused memory a b c n m k kept h g = unless_memory memory (LooksUp b m c k) (LooksUp a n c k) (looked_up_both a b c n m k kept h) g

pub kept_both : (a b c : StoreState) → b ≡ with_database a b.base → c ≡ with_database b c.base → c ≡ with_database a c.base
kept_both a b c e f = f ∙ ap (λ s. with_database s c.base) e
