-- What `next_wave` answers, if its parts answer what they promise.
use Rattle.std.proofs.Common.{◌≡◌, ℕ, ◌+◌, ◌*◌, ◌≤◌, List, [], ◌∷◌, length, map, filter, Bool, true, false, if◌then◌else◌, is_some, Option, Some, None, Result, sym, ap, subst, ◌∙◌, arith}
use Rattle.std.specs.List.{cons_option}
use Rattle.std.proofs.Math.Nat.{mul-le-mul_right}
use Rattle.iv_expr.specs.declared.row.Change.{Change}
use Rattle.iv_expr.specs.Changes.{Wave}
use Rattle.iv_catalogue.specs.Catalogues.{Schema}
use Rattle.iv_catalogue.specs.declared.cause.Refusal.{Refusal}
use Rattle.iv_catalogue.specs.declared.constraint.Constraint.{Constraint}
use Rattle.iv_catalogue.specs.declared.constraint.ForeignKey.{ForeignKey}
use Rattle.iv_machine.specs.declared.database.Database.{Database}
use Rattle.iv_machine.specs.Context.{Context}
use Rattle.iv_machine.specs.ReferentialActions.{Reference, foreign_key, references, following_wave}
use Rattle.iv_store.specs.Lookups.{foreign_keys}
use Rattle.iv_store.specs.Stores.{StoreState, RisingNumbers}
use Rattle.iv_laws_levels.proofs.Members.{In, of_filter}
use Rattle.iv_laws_kept.specs.FollowingWaves.{is_among, LedTo}
use Rattle.iv_laws_kept.proofs.Followed.{waves_follow_row_by_row}
use Rattle.iv_exec_actions.specs.AffectedForeignKey.{AffectedForeignKey, under_wave, acts_in, affected_where, affected_from}
use Rattle.iv_exec_actions.specs.Finding.{found}
use Rattle.iv_exec_actions.specs.Following.{answer_among}
use Rattle.iv_exec_actions.specs.Answers.{AnswersWave}
use Rattle.iv_exec_actions.proofs.Matching.{affected_is, answer_is}
use Rattle.iv_exec_actions.proofs.Found.{idle, finds_rows}

-- what follows, by the context's own catalogue
answer_follows : (context : Context) (before : Database) (s : StoreState) (changes : List Change) (xs : List AffectedForeignKey) (numbers : List ℕ)
    → xs ≡ affected_from changes 0 context.schema.constraints → RisingNumbers 0 numbers
    → ((number : ℕ) → is_among numbers number ≡ is_among (found s xs changes) number)
    → s.constraints ≡ context.schema.constraints → LedTo before changes s.base
    → answer_among context.schema xs changes s.base numbers ≡ following_wave context before s.base
answer_follows context before s changes xs numbers are up all same led =
    ap (λ l. answer_among context.schema l changes s.base numbers) under
    ∙ answer_is changes context.schema ks s.base numbers
    ∙ sym (waves_follow_row_by_row context before changes s.base (acts_in changes) numbers led (idle changes)
    (finds_rows changes s ks here numbers (λ n. all n ∙ ap (λ l. is_among (found s l changes) n) under) up))
  where
    ks : List Reference
    ks = filter (acts_in changes) (references context.schema.constraints)

    under : xs ≡ map (under_wave changes) ks
    under = are ∙ affected_is changes 0 context.schema.constraints

    here : (k : Reference) → In k ks → In k (references s.constraints)
    here k i = subst (λ l. In k (references l)) (sym same) (of_filter (acts_in changes) k (references context.schema.constraints) i).0

pub answered : (catalogue : Schema) (s s2 : StoreState) (changes : List Change) (xs : List AffectedForeignKey) (numbers : List ℕ) (answer : Result Wave Refusal)
    → s2 ≡ s → xs ≡ affected_from changes 0 catalogue.constraints → RisingNumbers 0 numbers
    → ((number : ℕ) → is_among numbers number ≡ is_among (found s xs changes) number)
    → AnswersWave answer (answer_among catalogue xs changes s2.base numbers)
    → (before : Database) (context : Context) → context.schema ≡ catalogue → s.constraints ≡ catalogue.constraints → LedTo before changes s.base
    → AnswersWave answer (following_wave context before s.base)
answered catalogue s s2 changes xs numbers answer kept are up all tells before context e same led =
    subst (AnswersWave answer)
    ((λ i. answer_among (sym e i) xs changes (kept i).base numbers)
    ∙ answer_follows context before s changes xs numbers (are ∙ ap (λ c. affected_from changes 0 c.constraints) (sym e)) up all
    (same ∙ ap (λ c. c.constraints) (sym e)) led) tells

-- ---- look-ups

-- of the foreign keys, some do something
few : (changes : List Change) (id : ℕ) (constraints : List Constraint) → length (affected_from changes id constraints) ≤ foreign_keys constraints
few changes id [] = omega arith
few changes id (c ∷ constraints) = by_key (foreign_key c.rule) (few changes (id + 1) constraints)
  where
    left : List AffectedForeignKey
    left = affected_from changes (id + 1) constraints

    others : List Constraint
    others = filter (λ (k : Constraint). is_some (foreign_key k.rule)) constraints

    by_test : (b : Bool) (x : AffectedForeignKey) → length left ≤ length others → length (cons_option (if b then Some x else None) left) ≤ length (c ∷ others)
    by_test true x h = omega (arith, h)
    by_test false x h = omega (arith, h)

    by_key : (o : Option ForeignKey) → length left ≤ length others
        → length (cons_option (affected_where changes (elim o [ Some fk ↦ Some (record { id = id; table = c.table; key = fk }) | None ↦ None ])) left) ≤ length (if is_some o then c ∷ others else others)
    by_key None h = h
    by_key (Some fk) h = by_test (acts_in changes (record { id = id; table = c.table; key = fk })) (under_wave changes (record { id = id; table = c.table; key = fk })) h

pub looked_at_most : (xs : List AffectedForeignKey) (changes others : List Change) (constraints : List Constraint) (new old : ℕ)
    → xs ≡ affected_from changes 0 constraints → changes ≡ others
    → new ≤ old + length xs * length changes → new ≤ old + foreign_keys constraints * length others
looked_at_most xs changes others constraints new old are same h =
    let less : length xs ≤ foreign_keys constraints = subst (λ l. length l ≤ foreign_keys constraints) (sym are) (few changes 0 constraints) in
    let times : length xs * length others ≤ foreign_keys constraints * length others = mul-le-mul_right (length others) less in
    let here : new ≤ old + length xs * length others = subst (λ l. new ≤ old + length xs * length l) same h in
    omega (arith, times, here)
