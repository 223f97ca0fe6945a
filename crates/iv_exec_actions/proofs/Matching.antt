-- What the foreign keys do that were made for a wave is what the definitions say of it.
use Rattle.std.proofs.Common.{◌≡◌, refl, ℕ, ◌+◌, Bool, true, false, ◌&&◌, if◌then◌else◌, List, [], ◌∷◌, ◌++◌, map, filter, filter_map, flat_map, find, Option, Some, None, Result, Ok, sym, ap, ◌∙◌}
use Rattle.std.specs.Bool.{◌==◌}
use Rattle.std.specs.List.{list_any, cons_option, enumerate_from}
use Rattle.std.specs.Option.{option_map}
use Rattle.iv_value.specs.declared.value.Value.{Value}
use Rattle.iv_expr.specs.declared.row.StoredRow.{StoredRow}
use Rattle.iv_expr.specs.declared.row.Change.{Change}
use Rattle.iv_expr.specs.Changes.{Wave, wave_of}
use Rattle.iv_catalogue.specs.Catalogues.{Schema}
use Rattle.iv_catalogue.specs.declared.cause.Fault.{Fault}
use Rattle.iv_catalogue.specs.declared.cause.Cause.TheVariants.{Restrict, ActionConflict}
use Rattle.iv_catalogue.specs.declared.constraint.Constraint.{Constraint}
use Rattle.iv_catalogue.specs.declared.constraint.ForeignKey.{ForeignKey}
use Rattle.iv_machine.specs.declared.database.Database.{Database}
use Rattle.iv_machine.specs.declared.effect.Effect.{Effect}
use Rattle.iv_machine.specs.Context.{Failure, fails}
use Rattle.iv_key.specs.Keys.{key_of, none_null}
use Rattle.iv_machine.specs.Databases.{row_at, fault_at}
use Rattle.iv_machine.specs.ReferentialActions.{Reference, reference, Loss, LostKeys, lost_reference, action_on, is_restrict, effects_of_loss, keeps_reference, change_by, sets_values, referencing_columns}
use Rattle.iv_laws_levels.specs.Holders.{loss_of_new, loses_key, keys_lost_by, row_before}
use Rattle.iv_laws_kept.specs.FollowingWaves as laws
use Rattle.iv_exec_actions.specs.AffectedForeignKey.{AffectedForeignKey, under_wave, acts_in, affected_where, affected_from, change_losing, action_for}
use Rattle.iv_exec_actions.specs.Following.{restricts, restricted_fault, effects_for, effects_by, effects_among, restricted_at, effects_at, conflict_at, change_at, sets_at, columns_where, columns_at, answer_among}

-- ---- one foreign key

-- how a key was lost that this change took away
abbrev pub loss_by : ForeignKey → Option Change → Option Loss
loss_by fk o = option_map (λ c. loss_of_new fk c.new) o

pub reference_lost : (changes : List Change) (k : Reference) (row : StoredRow)
    → lost_reference (keys_lost_by (wave_of changes)) k.key row ≡ loss_by k.key (change_losing (under_wave changes k) row)
reference_lost changes k row = by (none_null (key_of k.key.columns row.values))
  where
    key : List Value
    key = key_of k.key.columns row.values

    by : (b : Bool)
        → (if b then keys_lost_by (wave_of changes) k.key key else None)
        ≡ loss_by k.key (if b then find (loses_key k.key key) changes else None)
    by true = refl
    by false = refl

restricts_is : (changes : List Change) (row : StoredRow) (k : Reference)
    → restricts row (under_wave changes k) ≡ laws.protects (keys_lost_by (wave_of changes)) row k
restricts_is changes row k =
    ap (λ b. (row.table == k.table) && b)
    (by (change_losing (under_wave changes k) row)
    ∙ ap (λ o. elim o [ Some loss ↦ is_restrict (action_on k.key loss) | None ↦ false ]) (sym (reference_lost changes k row)))
  where
    by : (o : Option Change)
        → ◌≡◌ {A = Bool} (elim o [ Some c ↦ is_restrict (action_for k.key c) | None ↦ false ])
        (elim (loss_by k.key o) [ Some loss ↦ is_restrict (action_on k.key loss) | None ↦ false ])
    by None = refl
    by (Some c) = refl

effects_by_is : (schema : Schema) (changes : List Change) (before : StoredRow) (k : Reference)
    → effects_by schema before (under_wave changes k)
    ≡ map (λ effect. (k.id, effect)) (effects_of_loss schema k (lost_reference (keys_lost_by (wave_of changes)) k.key before))
effects_by_is schema changes before k =
    ap (map (λ effect. (k.id, effect)))
    (by (change_losing (under_wave changes k) before) ∙ ap (effects_of_loss schema k) (sym (reference_lost changes k before)))
  where
    by : (o : Option Change)
        → ◌≡◌ {A = List Effect} (elim o [ Some c ↦ effects_for schema (under_wave changes k) c | None ↦ [] ]) (effects_of_loss schema k (loss_by k.key o))
    by None = refl
    by (Some c) = refl

-- ---- all foreign keys

module _ (changes : List Change) where
  abbrev lost : LostKeys
  lost = keys_lost_by (wave_of changes)

  abbrev under : List Reference → List AffectedForeignKey
  under ks = map (under_wave changes) ks

  pub affected_is : (id : ℕ) (constraints : List Constraint)
      → affected_from changes id constraints ≡ under (filter (acts_in changes) (filter_map reference (enumerate_from id constraints)))
  affected_is id [] = refl
  affected_is id (c ∷ constraints) = by (reference (id, c)) (affected_is (id + 1) constraints)
    where
      more : List Reference
      more = filter_map reference (enumerate_from (id + 1) constraints)

      by : (o : Option Reference) → affected_from changes (id + 1) constraints ≡ under (filter (acts_in changes) more)
          → cons_option (affected_where changes o) (affected_from changes (id + 1) constraints) ≡ under (filter (acts_in changes) (cons_option o more))
      by None rest = rest
      by (Some k) rest =
          elim (acts_in changes k) as (λ b.
          cons_option (if b then Some (under_wave changes k) else None) (affected_from changes (id + 1) constraints)
          ≡ under (if b then k ∷ filter (acts_in changes) more else filter (acts_in changes) more)) [
            | true ↦ ap (λ l. under_wave changes k ∷ l) rest
            | false ↦ rest
          ]

  restricted_is : (ks : List Reference) (row : StoredRow)
      → restricted_fault (under ks) row ≡ option_map (λ k. fault_at k.id row) (find (laws.protects lost row) ks)
  restricted_is [] row = refl
  restricted_is (k ∷ ks) row =
      ap (λ b. option_map (λ x. fault_at x.reference.id row) (if b then Some (under_wave changes k) else find (restricts row) (under ks)))
      (restricts_is changes row k)
      ∙ by (laws.protects lost row k) (restricted_is ks row)
    where
      by : (b : Bool) → restricted_fault (under ks) row ≡ option_map (λ j. fault_at j.id row) (find (laws.protects lost row) ks)
          → option_map (λ x. fault_at x.reference.id row) (if b then Some (under_wave changes k) else find (restricts row) (under ks))
          ≡ option_map (λ j. fault_at j.id row) (if b then Some k else find (laws.protects lost row) ks)
      by true rest = refl
      by false rest = rest

  effects_are : (schema : Schema) (ks : List Reference) (before after : StoredRow)
      → effects_among schema (under ks) before after ≡ laws.effects_of schema ks lost before after
  effects_are schema [] before after = refl
  effects_are schema (k ∷ ks) before after = by (keeps_reference before after k) (effects_are schema ks before after)
    where
      by : (b : Bool) → effects_among schema (under ks) before after ≡ laws.effects_of schema ks lost before after
          → flat_map (effects_by schema before)
          (if b then under_wave changes k ∷ filter (λ x. keeps_reference before after x.reference) (under ks) else filter (λ x. keeps_reference before after x.reference) (under ks))
          ≡ flat_map (λ j. map (λ effect. (j.id, effect)) (effects_of_loss schema j (lost_reference lost j.key before)))
          (if b then k ∷ filter (keeps_reference before after) ks else filter (keeps_reference before after) ks)
      by true rest = λ i. effects_by_is schema changes before k i ++ rest i
      by false rest = rest

  -- ---- by row number

  restricted_at_is : (ks : List Reference) (later : List StoredRow) (number : ℕ)
      → restricted_at (under ks) changes later number ≡ laws.restricted_at ks lost changes later number
  restricted_at_is ks later number = by (row_before (wave_of changes) later number)
    where
      by : (o : Option StoredRow)
          → ◌≡◌ {A = Option Fault} (elim o [ Some row ↦ restricted_fault (under ks) row | None ↦ None ])
          (elim o [ Some row ↦ option_map (λ k. fault_at k.id row) (find (laws.protects lost row) ks) | None ↦ None ])
      by None = refl
      by (Some row) = restricted_is ks row

  pub effects_at_is : (schema : Schema) (ks : List Reference) (later : List StoredRow) (after : StoredRow)
      → effects_at schema (under ks) changes later after ≡ laws.effects_at schema ks lost changes later after
  effects_at_is schema ks later after = by (row_before (wave_of changes) later after.number)
    where
      by : (o : Option StoredRow)
          → ◌≡◌ {A = List (ℕ × Effect)} (elim o [ Some before ↦ effects_among schema (under ks) before after | None ↦ [] ])
          (elim o [ Some before ↦ laws.effects_of schema ks lost before after | None ↦ [] ])
      by None = refl
      by (Some before) = effects_are schema ks before after

  conflict_at_is : (schema : Schema) (ks : List Reference) (later : List StoredRow) (number : ℕ)
      → conflict_at schema (under ks) changes later number ≡ laws.conflict_at schema ks lost changes later number
  conflict_at_is schema ks later number = by (row_at later number)
    where
      by : (o : Option StoredRow)
          → ◌≡◌ {A = Option Fault}
          (elim o [ Some after ↦ option_map (λ id. fault_at id after) (laws.first_conflict (effects_at schema (under ks) changes later after)) | None ↦ None ])
          (elim o [ Some after ↦ option_map (λ id. fault_at id after) (laws.first_conflict (laws.effects_at schema ks lost changes later after)) | None ↦ None ])
      by None = refl
      by (Some after) = ap (λ es. option_map (λ id. fault_at id after) (laws.first_conflict es)) (effects_at_is schema ks later after)

  change_at_is : (schema : Schema) (ks : List Reference) (later : List StoredRow) (number : ℕ)
      → change_at schema (under ks) changes later number ≡ laws.change_at schema ks lost changes later number
  change_at_is schema ks later number = by (row_at later number)
    where
      by : (o : Option StoredRow)
          → ◌≡◌ {A = Option Change}
          (elim o [ Some after ↦ change_by after (effects_at schema (under ks) changes later after) | None ↦ None ])
          (elim o [ Some after ↦ change_by after (laws.effects_at schema ks lost changes later after) | None ↦ None ])
      by None = refl
      by (Some after) = ap (change_by after) (effects_at_is schema ks later after)

  sets_at_is : (schema : Schema) (ks : List Reference) (later : List StoredRow) (id number : ℕ)
      → sets_at schema (under ks) changes later id number ≡ laws.sets_at schema ks lost changes later id number
  sets_at_is schema ks later id number = by (row_at later number)
    where
      by : (o : Option StoredRow)
          → ◌≡◌ {A = Bool}
          (elim o [ Some after ↦ sets_values id (effects_at schema (under ks) changes later after) | None ↦ false ])
          (elim o [ Some after ↦ sets_values id (laws.effects_at schema ks lost changes later after) | None ↦ false ])
      by None = refl
      by (Some after) = ap (sets_values id) (effects_at_is schema ks later after)

  columns_under : (sets : ℕ → Bool) (ks : List Reference) → columns_where sets (under ks) ≡ flat_map referencing_columns (filter (λ k. sets k.id) ks)
  columns_under sets [] = refl
  columns_under sets (k ∷ ks) = by (sets k.id) (columns_under sets ks)
    where
      by : (b : Bool) → columns_where sets (under ks) ≡ flat_map referencing_columns (filter (λ j. sets j.id) ks)
          → flat_map (λ x. referencing_columns x.reference)
          (if b then under_wave changes k ∷ filter (λ x. sets x.reference.id) (under ks) else filter (λ x. sets x.reference.id) (under ks))
          ≡ flat_map referencing_columns (if b then k ∷ filter (λ j. sets j.id) ks else filter (λ j. sets j.id) ks)
      by true rest = ap (λ l. referencing_columns k ++ l) rest
      by false rest = rest

  columns_at_is : (schema : Schema) (ks : List Reference) (later : List StoredRow) (numbers : List ℕ)
      → columns_at schema (under ks) changes later numbers ≡ laws.columns_at schema ks lost changes later numbers
  columns_at_is schema ks later numbers =
      ap (λ (sets : ℕ → Bool). columns_where sets (under ks)) (λ i id. list_any (λ n. sets_at_is schema ks later id n i) numbers)
      ∙ columns_under (λ id. list_any (laws.sets_at schema ks lost changes later id) numbers) ks

  -- What follows among rows is the same.
  pub answer_is : (schema : Schema) (ks : List Reference) (later : Database) (numbers : List ℕ)
      → answer_among schema (under ks) changes later numbers ≡ laws.answer_at schema ks lost changes later numbers
  answer_is schema ks later numbers = λ i.
      elim (laws.least (λ n. restricted_at_is ks later.rows n i) numbers) as (λ _. Result Wave Failure) [
        | Some fault ↦ fails later (Restrict fault)
        | None ↦
            elim (laws.least (λ n. conflict_at_is schema ks later.rows n i) numbers) as (λ _. Result Wave Failure) [
              | Some fault ↦ fails later (ActionConflict fault)
              | None ↦ Ok (record {
                changes = filter_map (λ n. change_at_is schema ks later.rows n i) numbers;
                columns = columns_at_is schema ks later.rows numbers i;
              })
            ]
      ]
