-- If no foreign key does anything, nothing follows.
use Rattle.std.proofs.Common.{◌≡◌, refl, ℕ, true, length, List, [], ◌∷◌, filter_map, Option, Some, None, Result, Ok, ap, ◌∙◌, arith}
use Rattle.std.specs.Bool.{◌==◌}
use Rattle.std.proofs.lemmas.Bool.{eqb-true}
use Rattle.std.specs.List.{cons_option}
use Rattle.std.specs.Option.{option_map}
use Rattle.iv_expr.specs.declared.row.StoredRow.{StoredRow}
use Rattle.iv_expr.specs.declared.row.Change.{Change}
use Rattle.iv_expr.specs.Changes.{Wave, wave_of}
use Rattle.iv_catalogue.specs.Catalogues.{Schema}
use Rattle.iv_catalogue.specs.declared.cause.Fault.{Fault}
use Rattle.iv_catalogue.specs.declared.cause.Cause.TheVariants.{Restrict, ActionConflict}
use Rattle.iv_machine.specs.declared.database.Database.{Database}
use Rattle.iv_machine.specs.declared.effect.Effect.{Effect}
use Rattle.iv_machine.specs.Context.{Failure, fails}
use Rattle.iv_machine.specs.Databases.{row_at, fault_at}
use Rattle.iv_machine.specs.ReferentialActions.{change_by}
use Rattle.iv_laws_levels.specs.Holders.{row_before}
use Rattle.iv_laws_kept.specs.FollowingWaves.{first_conflict, earlier, least}
use Rattle.iv_exec_actions.specs.Following.{restricted_fault, effects_among, restricted_at, effects_at, conflict_at, change_at, answer_among}

pub none_there : {A : Type 0} (xs : List A) → (length xs == 0) ≡ true → xs ≡ []
none_there [] e = refl
none_there {A} (x ∷ xs) e = let none : length (x ∷ xs) ≡ 0 = eqb-true (length (x ∷ xs)) 0 e in absurd (omega (arith, none))

pub none_least : (fault : ℕ → Option Fault) → ((number : ℕ) → fault number ≡ None) → (numbers : List ℕ) → least fault numbers ≡ None
none_least fault none [] = refl
none_least fault none (n ∷ numbers) = ap (λ o. earlier o (least fault numbers)) (none n) ∙ none_least fault none numbers

none_made : (f : ℕ → Option Change) → ((number : ℕ) → f number ≡ None) → (numbers : List ℕ) → filter_map f numbers ≡ []
none_made f none [] = refl
none_made f none (n ∷ numbers) = ap (λ o. cons_option o (filter_map f numbers)) (none n) ∙ none_made f none numbers

module _ (schema : Schema) (changes : List Change) (later : Database) where
  not_restricted : (number : ℕ) → restricted_at [] changes later.rows number ≡ None
  not_restricted number = by (row_before (wave_of changes) later.rows number)
    where
      by : (o : Option StoredRow) → ◌≡◌ {A = Option Fault} (elim o [ Some row ↦ restricted_fault [] row | None ↦ None ]) None
      by None = refl
      by (Some row) = refl

  no_effects : (after : StoredRow) → effects_at schema [] changes later.rows after ≡ []
  no_effects after = by (row_before (wave_of changes) later.rows after.number)
    where
      by : (o : Option StoredRow) → ◌≡◌ {A = List (ℕ × Effect)} (elim o [ Some before ↦ effects_among schema [] before after | None ↦ [] ]) []
      by None = refl
      by (Some before) = refl

  no_conflict : (number : ℕ) → conflict_at schema [] changes later.rows number ≡ None
  no_conflict number = by (row_at later.rows number)
    where
      by : (o : Option StoredRow)
          → ◌≡◌ {A = Option Fault}
          (elim o [ Some after ↦ option_map (λ id. fault_at id after) (first_conflict (effects_at schema [] changes later.rows after)) | None ↦ None ]) None
      by None = refl
      by (Some after) = ap (λ es. option_map (λ id. fault_at id after) (first_conflict es)) (no_effects after)

  no_change : (number : ℕ) → change_at schema [] changes later.rows number ≡ None
  no_change number = by (row_at later.rows number)
    where
      by : (o : Option StoredRow)
          → ◌≡◌ {A = Option Change} (elim o [ Some after ↦ change_by after (effects_at schema [] changes later.rows after) | None ↦ None ]) None
      by None = refl
      by (Some after) = ap (change_by after) (no_effects after)

  pub nothing_follows : (numbers : List ℕ) → answer_among schema [] changes later numbers ≡ Ok (wave_of [])
  nothing_follows numbers = λ i.
      elim (none_least (restricted_at [] changes later.rows) not_restricted numbers i) as (λ _. Result Wave Failure) [
        | Some fault ↦ fails later (Restrict fault)
        | None ↦
            elim (none_least (conflict_at schema [] changes later.rows) no_conflict numbers i) as (λ _. Result Wave Failure) [
              | Some fault ↦ fails later (ActionConflict fault)
              | None ↦ Ok (wave_of (none_made (change_at schema [] changes later.rows) no_change numbers i))
            ]
      ]
