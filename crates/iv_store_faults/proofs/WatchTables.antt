-- The constraints of each table, with one more.
use Rattle.std.proofs.Common.{◌≡◌, refl, ℕ, zero, suc, ◌+◌, ◌<◌, ◌≤◌, Bool, true, false, ◌&&◌, ◌||◌, not, List, [], ◌∷◌, ◌++◌, length, slice_get, get_or, take, Some, None, sym, ap, subst, ◌∙◌, arith, append_assoc, length-append}
use mathlib.Core.Bool.{and-true, and-false, or-false}
use Rattle.std.specs.Bool.{◌==◌}
use Rattle.std.proofs.lemmas.Bool.{eqb-true, eq-eqb, ne_eqb, true≢false}
use Rattle.std.proofs.lemmas.List.Folds.{list_any-append}
use Rattle.std.proofs.lemmas.Option.{slice_get_past}
use Rattle.std.proofs.lemmas.List.{length-take-le, take_all, take_more}
use Rattle.iv_laws_kept.specs.Numbers.{has}
use Rattle.iv_store_violating.specs.Flagging.{NoRepeats}
use Rattle.iv_store_faults.specs.Types.{Constraint, Rule}
use Rattle.iv_store_faults.specs.Types.rule
use Rattle.iv_store_faults.specs.declared.table_constraints.TableConstraints.{TableConstraints}
use Rattle.iv_store_following.specs.Steps.{is_reference}
use Rattle.iv_store_following.specs.Following.{AreMet, meets}
use Rattle.iv_store_faults.specs.Watch.{AreTabled, numbers_at, with_constraint, with_key, with_reference}

-- ---- lists of numbers

-- whether the constraint of a number is so
abbrev at : (Constraint → Bool) → List Constraint → ℕ → Bool
at p constraints k = elim (slice_get constraints k) [ Some c ↦ p c | None ↦ false ]

zero_suc : (k : ℕ) → (0 == suc k) ≡ false
zero_suc k = ne_eqb 0 (suc k) (λ h. omega (arith, h))

suc_zero : (k : ℕ) → (suc k == 0) ≡ false
suc_zero k = ne_eqb (suc k) 0 (λ h. omega (arith, h))

suc_suc : (n k : ℕ) → (suc n == suc k) ≡ (n == k)
suc_suc n k = by (n == k) refl
  where
    by : (b : Bool) → (n == k) ≡ b → (suc n == suc k) ≡ (n == k)
    by true e = eq-eqb (suc n) (suc k) (ap suc (eqb-true n k e)) ∙ sym e
    by false e = ne_eqb (suc n) (suc k) (λ h. true≢false (sym (eq-eqb n k (omega (arith, h))) ∙ e)) ∙ sym e

at_more : (p : Constraint → Bool) (olds : List Constraint) (c : Constraint) (k : ℕ) → at p (olds ++ c ∷ []) k ≡ (at p olds k || (p c && (length olds == k)))
at_more p [] c zero = sym (and-true (p c))
at_more p [] c (suc k) = sym (ap (λ b. p c && b) (zero_suc k) ∙ and-false (p c))
at_more p (d ∷ olds) c zero = sym (ap (λ b. p d || (p c && b)) (suc_zero (length olds)) ∙ ap (λ b. p d || b) (and-false (p c)) ∙ or-false (p d))
at_more p (d ∷ olds) c (suc k) = at_more p olds c k ∙ ap (λ b. at p olds k || (p c && b)) (sym (suc_suc (length olds) k))

-- with a number more if this says so
abbrev noted : Bool → ℕ → List ℕ → List ℕ
noted true id numbers = numbers ++ id ∷ []
noted false id numbers = numbers

has_more : (numbers : List ℕ) (id k : ℕ) → has k (numbers ++ id ∷ []) ≡ (has k numbers || (id == k))
has_more numbers id k = list_any-append (λ m. m == k) numbers (id ∷ []) ∙ ap (λ b. has k numbers || b) (or-false (id == k))

are_more : (b : Bool) (p : Constraint → Bool) (olds : List Constraint) (c : Constraint) (numbers : List ℕ) → ((k : ℕ) → has k numbers ≡ at p olds k) → p c ≡ b
    → (k : ℕ) → has k (noted b (length olds) numbers) ≡ at p (olds ++ c ∷ []) k
are_more true p olds c numbers h e k =
    has_more numbers (length olds) k ∙ ap (λ a. a || (length olds == k)) (h k) ∙ ap (λ a. at p olds k || (a && (length olds == k))) (sym e) ∙ sym (at_more p olds c k)
are_more false p olds c numbers h e k =
    h k ∙ sym (or-false (at p olds k)) ∙ ap (λ a. at p olds k || (a && (length olds == k))) (sym e) ∙ sym (at_more p olds c k)

-- no number of the list is that of the next constraint
absent : (p : Constraint → Bool) (olds : List Constraint) (numbers : List ℕ) → ((k : ℕ) → has k numbers ≡ at p olds k) → has (length olds) numbers ≡ false
absent p olds numbers h = h (length olds) ∙ ap (λ o. elim o [ Some c ↦ p c | None ↦ false ]) (slice_get_past olds (length olds) (omega arith))

swapped : (m n : ℕ) → (m == n) ≡ false → (n == m) ≡ false
swapped m n e = by (n == m) refl
  where
    by : (b : Bool) → (n == m) ≡ b → (n == m) ≡ false
    by false f = f
    by true f = absurd (true≢false (sym (eq-eqb m n (sym (eqb-true n m f))) ∙ e))

first_false : (a b : Bool) → (a || b) ≡ false → a ≡ false
first_false false b e = refl
first_false true b e = absurd (true≢false e)

second_false : (a b : Bool) → (a || b) ≡ false → b ≡ false
second_false false b e = e
second_false true b e = absurd (true≢false e)

once_behind : (numbers : List ℕ) (id : ℕ) → NoRepeats numbers → has id numbers ≡ false → NoRepeats (numbers ++ id ∷ [])
once_behind [] id once new = (refl, tt)
once_behind (m ∷ numbers) id once new = (
  has_more numbers id m ∙ ap (λ b. b || (id == m)) once.0 ∙ swapped m id (first_false (m == id) (has id numbers) new),
  once_behind numbers id once.1 (second_false (m == id) (has id numbers) new),
)

once_more : (b : Bool) (numbers : List ℕ) (id : ℕ) → NoRepeats numbers → has id numbers ≡ false → NoRepeats (noted b id numbers)
once_more true numbers id once new = once_behind numbers id once new
once_more false numbers id once new = once

few_more : (a b : Bool) (ks fs : List ℕ) (olds : List Constraint) (c : Constraint) → (a && b) ≡ false → length ks + length fs ≤ length olds
    → length (noted a (length olds) ks) + length (noted b (length olds) fs) ≤ length (olds ++ c ∷ [])
few_more true true ks fs olds c e h = absurd (true≢false e)
few_more true false ks fs olds c e h = omega (arith, h, length-append ks (length olds ∷ []), length-append olds (c ∷ []))
few_more false true ks fs olds c e h = omega (arith, h, length-append fs (length olds ∷ []), length-append olds (c ∷ []))
few_more false false ks fs olds c e h = omega (arith, h, length-append olds (c ∷ []))

-- ---- the constraints that a table's rows meet

module _ (olds : List Constraint) (c : Constraint) (t : ℕ) where
  met : (a b : Bool) (ks fs : List ℕ) → (a && b) ≡ false → ((t == c.table) && not (is_reference c.rule)) ≡ a → meets c.rule c.table t ≡ b
      → AreMet olds t ks fs → AreMet (olds ++ c ∷ []) t (noted a (length olds) ks) (noted b (length olds) fs)
  met a b ks fs one e f m = record {
    keys_are = are_more a (λ d. (t == d.table) && not (is_reference d.rule)) olds c ks m.keys_are e;
    foreign_keys_are = are_more b (λ d. meets d.rule d.table t) olds c fs m.foreign_keys_are f;
    keys_once = once_more a ks (length olds) m.keys_once (absent (λ d. (t == d.table) && not (is_reference d.rule)) olds ks m.keys_are);
    foreign_keys_once = once_more b fs (length olds) m.foreign_keys_once (absent (λ d. meets d.rule d.table t) olds fs m.foreign_keys_are);
    few = few_more a b ks fs olds c one m.few;
  }

  abbrev Meet : TableConstraints → Type 0
  Meet x = AreMet (olds ++ c ∷ []) t x.keys x.foreign_keys

  of_key : (b : Bool) (x : TableConstraints) → AreMet (olds ++ c ∷ []) t (noted b (length olds) x.keys) x.foreign_keys → Meet (with_key b (length olds) x)
  of_key true x m = m
  of_key false x m = m

  of_reference : (b : Bool) (x : TableConstraints) → AreMet (olds ++ c ∷ []) t x.keys (noted b (length olds) x.foreign_keys) → Meet (with_reference b (length olds) x)
  of_reference true x m = m
  of_reference false x m = m

  no_reference : (x : TableConstraints) → is_reference c.rule ≡ false → meets c.rule c.table t ≡ false → AreMet olds t x.keys x.foreign_keys → Meet (with_key (t == c.table) (length olds) x)
  no_reference x e f m =
      of_key (t == c.table) x
      (met (t == c.table) false x.keys x.foreign_keys (and-false (t == c.table)) (ap (λ b. (t == c.table) && not b) e ∙ and-true (t == c.table)) f m)

  met_more : (r : Rule) → c.rule ≡ r → (x : TableConstraints) → AreMet olds t x.keys x.foreign_keys → Meet (with_constraint r c.table (length olds) t x)
  met_more (rule.NotNull column) e x m = no_reference x (ap is_reference e) (ap (λ r. meets r c.table t) e) m
  met_more (rule.Check condition) e x m = no_reference x (ap is_reference e) (ap (λ r. meets r c.table t) e) m
  met_more (rule.Unique nulls columns) e x m = no_reference x (ap is_reference e) (ap (λ r. meets r c.table t) e) m
  met_more (rule.PrimaryKey columns) e x m = no_reference x (ap is_reference e) (ap (λ r. meets r c.table t) e) m
  met_more (rule.ForeignKey fk) e x m =
      of_reference ((t == c.table) || (t == fk.referenced)) x
      (met false ((t == c.table) || (t == fk.referenced)) x.keys x.foreign_keys refl
      (ap (λ r. (t == c.table) && not (is_reference r)) e ∙ and-false (t == c.table)) (ap (λ r. meets r c.table t) e) m)

pub tabled_more : (olds : List Constraint) (c : Constraint) (tables new : List TableConstraints) → AreTabled olds tables
    → ((t : ℕ) → numbers_at new t ≡ with_constraint c.rule c.table (length olds) t (numbers_at tables t)) → AreTabled (olds ++ c ∷ []) new
tabled_more olds c tables new m e t =
    subst (λ (x : TableConstraints). AreMet (olds ++ c ∷ []) t x.keys x.foreign_keys) (sym (e t)) (met_more olds c t c.rule refl (numbers_at tables t) (m t))

-- a step of a loop over more of them
pub tabled_next : (olds more : List Constraint) (place id : ℕ) (c : Constraint) (tables new : List TableConstraints) → place < length more → c ≡ get_or more place c → id ≡ length olds + place
    → AreTabled (olds ++ take place more) tables
    → ((t : ℕ) → numbers_at new t ≡ with_constraint c.rule c.table id t (numbers_at tables t)) → AreTabled (olds ++ take (place + 1) more) new
tabled_next olds more place id c tables new inside here number m e =
    let long : id ≡ length (olds ++ take place more) = omega (arith, number, length-append olds (take place more), length-take-le place more (omega (arith, inside))) in
    subst (λ xs. AreTabled xs new)
    (append_assoc olds (take place more) (c ∷ []) ∙ ap (λ d. olds ++ (take place more ++ d ∷ [])) here ∙ ap (λ xs. olds ++ xs) (sym (take_more more place c inside)))
    (tabled_more (olds ++ take place more) c tables new m (λ t. e t ∙ ap (λ n. with_constraint c.rule c.table n t (numbers_at tables t)) long))

-- the end of the loop
pub tabled_all : (olds more : List Constraint) (place : ℕ) (tables : List TableConstraints) → length more ≤ place → AreTabled (olds ++ take place more) tables → AreTabled (olds ++ more) tables
tabled_all olds more place tables h m = subst (λ xs. AreTabled (olds ++ xs) tables) (take_all place more h) m
