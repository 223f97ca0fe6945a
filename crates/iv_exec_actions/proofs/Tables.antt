-- The tables of changes.
use Rattle.std.proofs.Common.{◌≡◌, refl, ℕ, ◌+◌, ◌<◌, Bool, true, false, ◌&&◌, ◌||◌, if◌then◌else◌, List, [], ◌∷◌, ◌++◌, length, get_or, drop, is_some, None, sym, ap, ◌∙◌}
use Rattle.std.proofs.Math.Bool.{or_assoc}
use mathlib.Core.Bool.{or-false, and-false}
use Rattle.std.specs.Bool.{◌==◌}
use Rattle.std.specs.List.{list_any}
use Rattle.std.proofs.lemmas.Bool.{eqb-true, or_parts}
use Rattle.iv_expr.specs.declared.row.Change.{Change}
use Rattle.iv_catalogue.specs.declared.constraint.ForeignKey.{ForeignKey}
use Rattle.iv_laws_kept.specs.FollowingWaves.{is_among}
use Rattle.iv_account.specs.Accounts.{acts}
use Rattle.iv_exec_actions.specs.AffectedForeignKey.{taken_from, action_for, acts_on}
use Rattle.iv_exec_actions.proofs.Numbers.{any_of_both}
use Rattle.iv_exec_actions.proofs.Taking.{left_from}

pub added : (tables : List ℕ) (table t : ℕ) → is_among (tables ++ table ∷ []) t ≡ (is_among tables t || (table == t))
added tables table t = any_of_both (λ n. n == t) tables (table ∷ []) ∙ ap (λ b. is_among tables t || b) (or-false (table == t))

pub there_already : (tables : List ℕ) (table t : ℕ) → is_among tables table ≡ true → is_among tables t ≡ (is_among tables t || (table == t))
there_already tables table t e =
    elim (table == t) as (λ b. (table == t) ≡ b → is_among tables t ≡ (is_among tables t || b)) [
      | true ↦ λ f. let here = ap (is_among tables) (sym (eqb-true table t f)) ∙ e in here ∙ sym (ap (λ b. b || true) here)
      | false ↦ λ f. sym (or-false (is_among tables t))
    ] refl

pub next_table : (before after : List ℕ) (changes : List Change) (i : ℕ) (c : Change) (t : ℕ) → i < length changes → c ≡ get_or changes i c
    → is_among after t ≡ (is_among before t || (c.table == t))
    → (is_among after t || list_any (λ x. x.table == t) (drop (i + 1) changes)) ≡ (is_among before t || list_any (λ x. x.table == t) (drop i changes))
next_table before after changes i c t h is e =
    ap (λ b. b || list_any (λ x. x.table == t) (drop (i + 1) changes)) e
    ∙ or_assoc (is_among before t) (c.table == t) (list_any (λ x. x.table == t) (drop (i + 1) changes))
    ∙ ap (λ l. is_among before t || list_any (λ x. x.table == t) l) (sym (left_from changes i c h is))

-- no change of another table takes a key away
pub none_acts : (fk : ForeignKey) (changes : List Change) → list_any (λ c. c.table == fk.referenced) changes ≡ false → list_any (acts_on fk) changes ≡ false
none_acts fk [] e = refl
none_acts fk (c ∷ changes) e =
    let parts = or_parts (c.table == fk.referenced) (list_any (λ x. x.table == fk.referenced) changes) e in
    ap (λ b. (acts (action_for fk c) && is_some (if b then taken_from fk c.old c.new else None)) || list_any (acts_on fk) changes) parts.0
    ∙ ap (λ b. b || list_any (acts_on fk) changes) (and-false (acts (action_for fk c)))
    ∙ none_acts fk changes parts.1
