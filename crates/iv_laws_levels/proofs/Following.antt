-- What follows a wave, from only the database after it and the wave.
use Rattle.std.proofs.Common.{◌≡◌, refl, ℕ, Bool, true, false, ◌&&◌, if◌then◌else◌, List, [], ◌∷◌, ◌++◌, map, filter, filter_map, flat_map, Option, Some, None, is_some, Ok, sym, ap, ◌∙◌}
use Rattle.std.specs.Bool.{◌==◌}
use Rattle.std.specs.List.{list_any}
use Rattle.std.proofs.lemmas.Bool.{or_parts}
use Rattle.iv_value.specs.Values.{all_same}
use Rattle.iv_laws_levels.specs.Types.{StoredRow, Constraint, ForeignKey, Database, Effect}
use Rattle.iv_laws_levels.specs.Types.cause.{Restrict, ActionConflict}
use Rattle.iv_expr.specs.Changes.{Wave, RisingChanges}
use Rattle.iv_catalogue.specs.Catalogues.{Schema}
use Rattle.iv_key.specs.Keys.{key_of, none_null}
use Rattle.iv_machine.specs.Databases.{row_at, fault_at, database_after}
use Rattle.iv_machine.specs.Context.{Context, unless_first}
use Rattle.iv_machine.specs.ReferentialActions.{Reference, references, LostKeys, lost_keys, lost_reference, is_restricted, restricted_rows, effects_of_loss, keeps_reference, effects_on, change_by, sets_values, referencing_columns, columns_set_next, next_wave, has_conflict, conflicts, following_wave}
use Rattle.iv_laws_levels.specs.RisingRows.{InOrder}
use Rattle.iv_laws_levels.specs.FittingWaves.{Current}
use Rattle.iv_laws_levels.specs.Holders.{keys_lost_by, restricted_by, refers_to_lost, lost_holders, effects_by, conflicts_by, columns_set_by, next_wave_by, wave_following}
use Rattle.iv_laws_levels.proofs.AppliedRows.{rows_after_in_order}
use Rattle.iv_laws_levels.proofs.FittingWaves.{Present, present_itself, rising_distinct}
use Rattle.iv_laws_levels.proofs.Keys.{and_first, and_second, all_same_is}
use Rattle.iv_laws_levels.proofs.Filters.{any_of_filter}
use Rattle.iv_laws_levels.proofs.Holders.{table_rows_before, rows_before, same_table}
use Rattle.iv_laws_levels.proofs.LosingWaves.{filter_map_part, lost_by_wave}

-- ---- a row that refers to no lost key

abbrev refers_by : LostKeys → StoredRow → Reference → Bool
refers_by lost r k = (k.table == r.table) && is_some (lost_reference lost k.key r)

abbrev effects_from : Schema → LostKeys → StoredRow → Reference → List (ℕ × Effect)
effects_from schema lost before k = map (λ effect. (k.id, effect)) (effects_of_loss schema k (lost_reference lost k.key before))

none_of : {A : Type 0} (o : Option A) → is_some o ≡ false → o ≡ None
none_of None e = refl
none_of (Some x) e = cc

-- rows with the same key refer to the same lost one
same_reference : (lost : LostKeys) (fk : ForeignKey) (before after : StoredRow) → all_same (key_of fk.columns before.values) (key_of fk.columns after.values) ≡ true
    → lost_reference lost fk before ≡ lost_reference lost fk after
same_reference lost fk before after e =
    ap (λ key. if none_null key then lost fk key else None) (all_same_is (key_of fk.columns before.values) (key_of fk.columns after.values) e)

no_effects_from : (schema : Schema) (lost : LostKeys) (before after : StoredRow) (ks : List Reference) → after.table ≡ before.table
    → list_any (refers_by lost after) ks ≡ false → flat_map (effects_from schema lost before) (filter (keeps_reference before after) ks) ≡ []
no_effects_from schema lost before after [] table e = refl
no_effects_from schema lost before after (k ∷ ks) table e =
    by_kept (keeps_reference before after k) refl (no_effects_from schema lost before after ks table parts.1)
  where
    parts : (refers_by lost after k ≡ false) × (list_any (refers_by lost after) ks ≡ false)
    parts = or_parts (refers_by lost after k) (list_any (refers_by lost after) ks) e

    rest : List (ℕ × Effect)
    rest = flat_map (effects_from schema lost before) (filter (keeps_reference before after) ks)

    nothing : keeps_reference before after k ≡ true → lost_reference lost k.key before ≡ None
    nothing f =
        let here = and_first (k.table == before.table) (all_same (key_of k.key.columns before.values) (key_of k.key.columns after.values)) f in
        let same = and_second (k.table == before.table) (all_same (key_of k.key.columns before.values) (key_of k.key.columns after.values)) f in
        let there : (k.table == after.table) ≡ true = ap (λ t. k.table == t) table ∙ here in
        same_reference lost k.key before after same
        ∙ none_of (lost_reference lost k.key after) (sym (ap (λ b. b && is_some (lost_reference lost k.key after)) there) ∙ parts.0)

    by_kept : (b : Bool) → keeps_reference before after k ≡ b → rest ≡ []
        → flat_map (effects_from schema lost before) (if b then k ∷ filter (keeps_reference before after) ks else filter (keeps_reference before after) ks) ≡ []
    by_kept true f none = ap (λ o. map (λ effect. (k.id, effect)) (effects_of_loss schema k o) ++ rest) (nothing f) ∙ none
    by_kept false f none = none

module _ (db : Database) (wave : Wave) (h : InOrder db.rows) (rising : RisingChanges wave.changes) (c : Current db.rows wave.changes) where
  abbrev later : List StoredRow
  later = (database_after db wave).rows

  lost_same : lost_keys db.rows later ≡ keys_lost_by wave
  lost_same = λ i fk key. lost_by_wave db wave fk key h rising c i

  effects_same : (schema : Schema) (after : StoredRow)
      → effects_on schema (lost_keys db.rows later) (row_at db.rows after.number) after ≡ effects_by wave schema later after
  effects_same schema after = λ i. effects_on schema (lost_same i) (rows_before db wave after.number c i) after

  no_effects : (schema : Schema) (after : StoredRow) → row_at later after.number ≡ Some after
      → refers_to_lost schema.constraints (keys_lost_by wave) after ≡ false → effects_by wave schema later after ≡ []
  no_effects schema after there e =
      ap (λ o. effects_on schema (keys_lost_by wave) o after) (sym (rows_before db wave after.number c)) ∙ by_earlier (row_at db.rows after.number) refl
    where
      by_earlier : (o : Option StoredRow) → row_at db.rows after.number ≡ o → effects_on schema (keys_lost_by wave) o after ≡ []
      by_earlier None f = refl
      by_earlier (Some before) f =
          no_effects_from schema (keys_lost_by wave) before after (references schema.constraints)
          (same_table db wave.changes after.number before after (rising_distinct wave.changes rising) c f there) e

  all_present : Present later later
  all_present = present_itself later (rows_after_in_order db.rows wave.changes)

  -- ---- RESTRICT

  pub restricted_follow : (constraints : List Constraint) → restricted_rows (lost_keys db.rows later) constraints db.rows ≡ restricted_by wave constraints later
  restricted_follow constraints =
      ap (λ lost. restricted_rows lost constraints db.rows) lost_same
      ∙ ap (λ f. flat_map f (references constraints)) (λ i k. map (fault_at k.id)
      (table_rows_before db wave.changes k.table (is_restricted (keys_lost_by wave) k.key) h (rising_distinct wave.changes rising) c i))

  -- ---- conflicts

  filter_part : (q p : StoredRow → Bool) (some : List StoredRow) → Present later some
      → ((r : StoredRow) → row_at later r.number ≡ Some r → p r ≡ false → q r ≡ false) → filter q some ≡ filter q (filter p some)
  filter_part q p [] present none = refl
  filter_part q p (r ∷ some) present none =
      elim (p r) as (λ b. p r ≡ b → filter q (r ∷ some) ≡ filter q (if b then r ∷ filter p some else filter p some)) [
        | true ↦ λ _. ap (λ l. if q r then r ∷ l else l) (filter_part q p some present.1 none)
        | false ↦ λ e. ap (λ b. if b then r ∷ filter q some else filter q some) (none r present.0 e) ∙ filter_part q p some present.1 none
      ] refl

  conflicts_at : (schema : Schema) (k : Reference)
      → filter (λ after. has_conflict k.id (effects_on schema (lost_keys db.rows later) (row_at db.rows after.number) after)) later
      ≡ filter (λ after. has_conflict k.id (effects_by wave schema later after)) (lost_holders wave schema later)
  conflicts_at schema k =
      ap (λ (f : StoredRow → List (ℕ × Effect)). filter (λ after. has_conflict k.id (f after)) later) (λ i after. effects_same schema after i)
      ∙ filter_part (λ after. has_conflict k.id (effects_by wave schema later after)) (refers_to_lost schema.constraints (keys_lost_by wave)) later all_present
      (λ r there e. ap (has_conflict k.id) (no_effects schema r there e))

  pub conflicts_follow : (schema : Schema) → conflicts schema (lost_keys db.rows later) db.rows later ≡ conflicts_by wave schema later
  conflicts_follow schema =
      ap (λ f. flat_map f (references schema.constraints)) (λ i k. map (fault_at k.id) (conflicts_at schema k i))

  -- ---- the next wave

  changes_same : (schema : Schema) → (next_wave schema (lost_keys db.rows later) db.rows later).changes ≡ (next_wave_by wave schema later).changes
  changes_same schema =
      ap (λ (f : StoredRow → List (ℕ × Effect)). filter_map (λ after. change_by after (f after)) later) (λ i after. effects_same schema after i)
      ∙ filter_map_part (λ after. change_by after (effects_by wave schema later after)) (refers_to_lost schema.constraints (keys_lost_by wave)) later later all_present
      (λ r there e. ap (change_by r) (no_effects schema r there e))

  -- a foreign key sets values of some row, by the rows that refer to a lost key
  sets_same : (schema : Schema) (k : Reference)
      → list_any (λ after. sets_values k.id (effects_on schema (lost_keys db.rows later) (row_at db.rows after.number) after)) later
      ≡ list_any (λ after. sets_values k.id (effects_by wave schema later after)) (lost_holders wave schema later)
  sets_same schema k =
      ap (λ (f : StoredRow → List (ℕ × Effect)). list_any (λ after. sets_values k.id (f after)) later) (λ i after. effects_same schema after i)
      ∙ any_of_filter (λ after. sets_values k.id (effects_by wave schema later after)) later
      ∙ ap (list_any (λ _. true)) (filter_part (λ after. sets_values k.id (effects_by wave schema later after)) (refers_to_lost schema.constraints (keys_lost_by wave)) later all_present
      (λ r there e. ap (sets_values k.id) (no_effects schema r there e)))
      ∙ sym (any_of_filter (λ after. sets_values k.id (effects_by wave schema later after)) (lost_holders wave schema later))

  columns_same : (schema : Schema) → columns_set_next schema (lost_keys db.rows later) db.rows later ≡ columns_set_by wave schema later
  columns_same schema =
      ap (λ (q : Reference → Bool). flat_map referencing_columns (filter q (references schema.constraints))) (λ i k. sets_same schema k i)

  pub next_wave_follows : (schema : Schema) → next_wave schema (lost_keys db.rows later) db.rows later ≡ next_wave_by wave schema later
  next_wave_follows schema = λ i. record { changes = changes_same schema i; columns = columns_same schema i }

  pub wave_follows : (context : Context) → following_wave context db (database_after db wave) ≡ wave_following context wave (database_after db wave)
  wave_follows context =
      λ i. unless_first (database_after db wave) Restrict (restricted_follow context.schema.constraints i)
      (unless_first (database_after db wave) ActionConflict (conflicts_follow context.schema i) (Ok (next_wave_follows context.schema i)))

pub restricted_rows_follow : (db : Database) (wave : Wave) (constraints : List Constraint) → InOrder db.rows → RisingChanges wave.changes → Current db.rows wave.changes
    → restricted_rows (lost_keys db.rows (database_after db wave).rows) constraints db.rows ≡ restricted_by wave constraints (database_after db wave).rows
restricted_rows_follow db wave constraints h rising c = restricted_follow db wave h rising c constraints

pub all_conflicts_follow : (db : Database) (wave : Wave) (schema : Schema) → InOrder db.rows → RisingChanges wave.changes → Current db.rows wave.changes
    → conflicts schema (lost_keys db.rows (database_after db wave).rows) db.rows (database_after db wave).rows ≡ conflicts_by wave schema (database_after db wave).rows
all_conflicts_follow db wave schema h rising c = conflicts_follow db wave h rising c schema

pub next_waves_follow : (db : Database) (wave : Wave) (schema : Schema) → InOrder db.rows → RisingChanges wave.changes → Current db.rows wave.changes
    → next_wave schema (lost_keys db.rows (database_after db wave).rows) db.rows (database_after db wave).rows ≡ next_wave_by wave schema (database_after db wave).rows
next_waves_follow db wave schema h rising c = next_wave_follows db wave h rising c schema

pub waves_follow : (context : Context) (db : Database) (wave : Wave) → InOrder db.rows → RisingChanges wave.changes → Current db.rows wave.changes
    → following_wave context db (database_after db wave) ≡ wave_following context wave (database_after db wave)
waves_follow context db wave h rising c = wave_follows db wave h rising c context
