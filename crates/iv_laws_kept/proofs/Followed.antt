-- What follows a wave, row by row.
use Rattle.std.proofs.Common.{◌≡◌, refl, ℕ, Bool, true, false, if◌then◌else◌, List, [], ◌∷◌, ◌++◌, filter, filter_map, map, Option, Some, None, Result, Ok, sym, ap, subst, ◌∙◌}
use Rattle.std.specs.Bool.{◌==◌}
use Rattle.std.specs.List.{list_any, find, flat_map, cons_option}
use Rattle.std.specs.Option.{option_map}
use Rattle.std.proofs.lemmas.Bool.{true≢false}
use Rattle.iv_expr.specs.declared.row.StoredRow.{StoredRow}
use Rattle.iv_expr.specs.declared.row.Change.{Change}
use Rattle.iv_expr.specs.Changes.{Wave, wave_of}
use Rattle.iv_catalogue.specs.Catalogues.{Schema}
use Rattle.iv_catalogue.specs.declared.cause.Cause.{Cause}
use Rattle.iv_catalogue.specs.declared.cause.Cause.TheVariants.{Restrict, ActionConflict}
use Rattle.iv_catalogue.specs.declared.cause.Fault.{Fault}
use Rattle.iv_machine.specs.declared.database.Database.{Database}
use Rattle.iv_machine.specs.declared.effect.Effect.{Effect}
use Rattle.iv_machine.specs.Databases.{row_at, fault_at, first, has_change, database_after}
use Rattle.iv_machine.specs.Context.{Context, Failure, fails, unless_first}
use Rattle.iv_machine.specs.ReferentialActions.{Reference, references, LostKeys, lost_keys, is_restricted, restricted_rows, keeps_reference, effects_on, change_by, sets_values, referencing_columns, next_wave, has_conflict, conflicts, following_wave}
use Rattle.iv_laws_levels.specs.RisingRows.{InOrder}
use Rattle.iv_laws_levels.specs.Holders.{row_before, keys_lost_by}
use Rattle.iv_laws_levels.proofs.AppliedRows.{news, row_at_rows_after, rows_after_in_order}
use Rattle.iv_laws_levels.proofs.Filters.{filter_both, any_of_filter}
use Rattle.iv_laws_levels.proofs.Holders.{rows_before}
use Rattle.iv_laws_levels.proofs.LosingWaves.{lost_by_wave}
use Rattle.iv_laws_kept.specs.FollowingWaves.{protects, restricted_at, effects_of, effects_at, first_conflict, conflict_at, change_at, sets_at, columns_at, least, answer_at, is_among, EachReference, IsIdle, IsIdleElsewhere, LedTo, FindsRows}
use Rattle.iv_laws_kept.proofs.PickedRows.{picked, made_of_picked, filter_of_picked}
use Rattle.iv_laws_kept.proofs.FirstPairs.{RisingReferences, references_rise, rising_filter, pairs, pair_of, first_of_picked}
use Rattle.iv_laws_kept.proofs.Conflicts.{AllOf, first_conflict_is}
use Rattle.iv_laws_kept.proofs.Idle.{each_of_all, idle_elsewhere, not_protected, pairs_of_acting, effects_with, effects_of_acting, no_effects}
use Rattle.iv_laws_kept.proofs.SetColumns.{none_of_all, any_of_numbers, filter_acting, has_id, are_apart, sets_none, each_reference}

-- ---- lists

unless_first_is : (db : Database) (cause : Fault → Cause) (faults : List Fault) (result : Result Wave Failure)
    → unless_first db cause faults result ≡ (elim (first faults) [ Some fault ↦ fails db (cause fault) | None ↦ result ])
unless_first_is db cause [] result = refl
unless_first_is db cause (fault ∷ faults) result = refl

flat_map_filter : {A B : Type 0} (f : A → List B) (p : A → Bool) (xs : List A) → flat_map f (filter p xs) ≡ flat_map (λ x. if p x then f x else []) xs
flat_map_filter f p [] = refl
flat_map_filter {A} {B} f p (x ∷ xs) = where_passes (p x) (flat_map_filter f p xs)
  where
    rest : List B
    rest = flat_map (λ y. if p y then f y else []) xs

    where_passes : (b : Bool) → flat_map f (filter p xs) ≡ rest → flat_map f (if b then x ∷ filter p xs else filter p xs) ≡ (if b then f x else []) ++ rest
    where_passes true e = ap (λ l. f x ++ l) e
    where_passes false e = e

made_of_numbers : {B : Type 0} (f : StoredRow → Option B) (at : ℕ → Option StoredRow) (numbers : List ℕ)
    → filter_map f (picked at numbers) ≡ filter_map (λ n. elim (at n) [ Some r ↦ f r | None ↦ None ]) numbers
made_of_numbers f at [] = refl
made_of_numbers {B} f at (n ∷ numbers) = where_row (at n) (made_of_numbers f at numbers)
  where
    rest : List B
    rest = filter_map (λ m. elim (at m) [ Some r ↦ f r | None ↦ None ]) numbers

    where_row : (o : Option StoredRow) → filter_map f (picked at numbers) ≡ rest
        → filter_map f (cons_option o (picked at numbers)) ≡ cons_option (elim o [ Some r ↦ f r | None ↦ None ]) rest
    where_row None e = e
    where_row (Some r) e = ap (cons_option (f r)) e

-- ---- conflicts of one row

all_of_one : (n : ℕ) (es : List Effect) → AllOf n (map (λ effect. (n, effect)) es)
all_of_one n [] = tt
all_of_one n (e ∷ es) = (refl, all_of_one n es)

with_row : (r : StoredRow) (o : Option Reference) → option_map (λ k. fault_at k.id r) o ≡ option_map (λ id. fault_at id r) (option_map (λ k. k.id) o)
with_row r None = refl
with_row r (Some k) = refl

conflict_of_row : (schema : Schema) (lost : LostKeys) (acts : Reference → Bool) (ks : List Reference) (before after : StoredRow)
    → RisingReferences 0 ks → ((k : Reference) → acts k ≡ false → IsIdle lost k)
    → option_map (λ k. k.id) (find (λ k. has_conflict k.id (effects_of schema (filter acts ks) lost before after)) ks)
    ≡ first_conflict (effects_of schema (filter acts ks) lost before after)
conflict_of_row schema lost acts ks before after rise idle =
    ap (λ es. option_map (λ k. k.id) (find (λ k. has_conflict k.id es) ks)) same
    ∙ first_conflict_is g own ks rise
    ∙ ap first_conflict (sym same)
  where
    g : Reference → List (ℕ × Effect)
    g k = if keeps_reference before after k then effects_with schema lost before k else []

    same : effects_of schema (filter acts ks) lost before after ≡ flat_map g ks
    same = sym (effects_of_acting schema lost acts ks before after idle) ∙ flat_map_filter (effects_with schema lost before) (keeps_reference before after) ks

    own : (k : Reference) → AllOf k.id (g k)
    own k = elim (keeps_reference before after k) as (λ b. AllOf k.id (if b then effects_with schema lost before k else [])) [ true ↦ all_of_one k.id _ | false ↦ tt ]

no_conflict : (ks : List Reference) → option_map (λ k. k.id) (find (λ k. has_conflict k.id []) ks) ≡ None
no_conflict [] = refl
no_conflict (k ∷ ks) = no_conflict ks

-- ---- what follows

module _ (context : Context) (before : Database) (changes : List Change) (later : Database) (acts : Reference → Bool) (numbers : List ℕ)
    (led : LedTo before changes later) (idle : (k : Reference) → acts k ≡ false → IsIdle (keys_lost_by (wave_of changes)) k)
    (finds : FindsRows (filter acts (references context.schema.constraints)) changes later.rows numbers) where
  abbrev all : List Reference
  all = references context.schema.constraints

  abbrev lost : LostKeys
  lost = keys_lost_by (wave_of changes)

  abbrev row_earlier : ℕ → Option StoredRow
  row_earlier n = row_before (wave_of changes) later.rows n

  abbrev effects_on_row : StoredRow → List (ℕ × Effect)
  effects_on_row after = effects_at context.schema (filter acts all) lost changes later.rows after

  later_rows : (database_after before (wave_of changes)).rows ≡ later.rows
  later_rows = ap (λ d. d.rows) led.leads

  lost_same : lost_keys before.rows later.rows ≡ lost
  lost_same =
      ap (lost_keys before.rows) (sym later_rows)
      ∙ (λ i fk key. lost_by_wave before (wave_of changes) fk key led.in_order led.rising led.current i)

  at_before : (n : ℕ) → row_at before.rows n ≡ row_earlier n
  at_before n = rows_before before (wave_of changes) n led.current ∙ ap (λ rows. row_before (wave_of changes) rows n) later_rows

  later_in_order : InOrder later.rows
  later_in_order = subst InOrder later_rows (rows_after_in_order before.rows changes)

  each : EachReference (IsIdleElsewhere lost later.rows numbers) all
  each = each_of_all acts all (λ k e. idle_elsewhere lost later.rows numbers k (idle k e)) finds.referring

  outside : (n : ℕ) → is_among numbers n ≡ false → has_change changes n ≡ false
  outside n apart = where_changed (has_change changes n) refl
    where
      where_changed : (b : Bool) → has_change changes n ≡ b → b ≡ false
      where_changed true e = absurd (true≢false (sym (finds.changed n e) ∙ apart))
      where_changed false e = refl

  -- a row that isn't found is the same before and after
  same_row : (n : ℕ) → is_among numbers n ≡ false → row_at later.rows n ≡ row_at before.rows n
  same_row n apart =
      ap (λ rows. row_at rows n) (sym later_rows)
      ∙ row_at_rows_after before.rows changes n
      ∙ ap (λ b. if b then row_at (news changes) n else row_at before.rows n) (outside n apart)

  -- RESTRICT

  pairs_of_picked : (ks : List Reference) → EachReference (IsIdleElsewhere lost later.rows numbers) ks
      → pairs (protects lost) ks before.rows ≡ pairs (protects lost) ks (picked row_earlier numbers)
  pairs_of_picked [] h = refl
  pairs_of_picked (k ∷ ks) h = λ i.
      map (fault_at k.id) (filter_of_picked (λ r. protects lost r k) before.rows row_earlier numbers led.in_order at_before finds.rising
      (λ r e apart. not_protected lost later.rows numbers k r h.0 (same_row r.number apart ∙ e) apart) i)
      ++ pairs_of_picked ks h.1 i

  rows_restricted : restricted_rows (lost_keys before.rows later.rows) context.schema.constraints before.rows
      ≡ pairs (protects lost) (filter acts all) (picked row_earlier numbers)
  rows_restricted =
      ap (λ l. restricted_rows l context.schema.constraints before.rows) lost_same
      ∙ ap (λ f. flat_map f all) (λ i k. map (fault_at k.id) (filter_both (is_restricted lost k.key) (λ r. r.table == k.table) before.rows i))
      ∙ pairs_of_picked all each
      ∙ pairs_of_acting lost acts all (picked row_earlier numbers) idle

  first_restricted : first (restricted_rows (lost_keys before.rows later.rows) context.schema.constraints before.rows)
      ≡ least (restricted_at (filter acts all) lost changes later.rows) numbers
  first_restricted =
      ap first rows_restricted
      ∙ first_of_picked (protects lost) (filter acts all) row_earlier numbers (rising_filter acts 0 all (references_rise context.schema.constraints))

  -- effects

  effects_here : (after : StoredRow)
      → effects_on context.schema (lost_keys before.rows later.rows) (row_at before.rows after.number) after ≡ effects_on_row after
  effects_here after = (λ i. effects_on context.schema (lost_same i) (at_before after.number i) after) ∙ where_row (row_earlier after.number)
    where
      where_row : (o : Option StoredRow)
          → effects_on context.schema lost o after ≡ (elim o [ Some r ↦ effects_of context.schema (filter acts all) lost r after | None ↦ [] ])
      where_row None = refl
      where_row (Some r) = effects_of_acting context.schema lost acts all r after idle

  none_elsewhere : (after : StoredRow) → row_at later.rows after.number ≡ Some after → is_among numbers after.number ≡ false → effects_on_row after ≡ []
  none_elsewhere after there apart =
      ap (λ o. elim o [ Some r ↦ effects_of context.schema (filter acts all) lost r after | None ↦ [] ])
      (sym (at_before after.number) ∙ sym (same_row after.number apart) ∙ there)
      ∙ no_effects context.schema lost later.rows numbers (filter acts all) after finds.referring there apart

  -- conflicts

  rows_in_conflict : conflicts context.schema (lost_keys before.rows later.rows) before.rows later.rows
      ≡ pairs (λ r k. has_conflict k.id (effects_on_row r)) all (picked (row_at later.rows) numbers)
  rows_in_conflict =
      ap (λ (f : StoredRow → List (ℕ × Effect)). flat_map (λ k. map (fault_at k.id) (filter (λ after. has_conflict k.id (f after)) later.rows)) all)
      (λ i after. effects_here after i)
      ∙ ap (λ f. flat_map f all) (λ i k. map (fault_at k.id)
      (filter_of_picked (λ r. has_conflict k.id (effects_on_row r)) later.rows (row_at later.rows) numbers later_in_order (λ n. refl) finds.rising
      (λ r there apart. ap (has_conflict k.id) (none_elsewhere r there apart)) i))

  conflict_of : (after : StoredRow) → pair_of (λ r k. has_conflict k.id (effects_on_row r)) all after
      ≡ option_map (λ id. fault_at id after) (first_conflict (effects_on_row after))
  conflict_of after =
      with_row after (find (λ k. has_conflict k.id (effects_on_row after)) all)
      ∙ ap (option_map (λ id. fault_at id after)) (where_row (row_earlier after.number))
    where
      where_row : (o : Option StoredRow)
          → option_map (λ k. k.id) (find (λ k. has_conflict k.id (elim o [ Some r ↦ effects_of context.schema (filter acts all) lost r after | None ↦ [] ])) all)
          ≡ first_conflict (elim o [ Some r ↦ effects_of context.schema (filter acts all) lost r after | None ↦ [] ])
      where_row None = no_conflict all
      where_row (Some r) = conflict_of_row context.schema lost acts all r after (references_rise context.schema.constraints) idle

  conflict_at_is : (n : ℕ)
      → (elim (row_at later.rows n) [ Some r ↦ pair_of (λ r k. has_conflict k.id (effects_on_row r)) all r | None ↦ None ])
      ≡ conflict_at context.schema (filter acts all) lost changes later.rows n
  conflict_at_is n = where_row (row_at later.rows n)
    where
      where_row : (o : Option StoredRow)
          → ◌≡◌ {A = Option Fault} (elim o [ Some r ↦ pair_of (λ r k. has_conflict k.id (effects_on_row r)) all r | None ↦ None ])
          (elim o [ Some after ↦ option_map (λ id. fault_at id after) (first_conflict (effects_on_row after)) | None ↦ None ])
      where_row None = refl
      where_row (Some r) = conflict_of r

  first_in_conflict : first (conflicts context.schema (lost_keys before.rows later.rows) before.rows later.rows)
      ≡ least (conflict_at context.schema (filter acts all) lost changes later.rows) numbers
  first_in_conflict =
      ap first rows_in_conflict
      ∙ first_of_picked (λ r k. has_conflict k.id (effects_on_row r)) all (row_at later.rows) numbers (references_rise context.schema.constraints)
      ∙ ap (λ (f : ℕ → Option Fault). least f numbers) (λ i n. conflict_at_is n i)

  -- the next wave

  changes_are : (next_wave context.schema (lost_keys before.rows later.rows) before.rows later.rows).changes
      ≡ filter_map (change_at context.schema (filter acts all) lost changes later.rows) numbers
  changes_are =
      ap (λ (f : StoredRow → List (ℕ × Effect)). filter_map (λ after. change_by after (f after)) later.rows) (λ i after. effects_here after i)
      ∙ made_of_picked (λ after. change_by after (effects_on_row after)) later.rows (row_at later.rows) numbers later_in_order (λ n. refl) finds.rising
      (λ r there apart. ap (change_by r) (none_elsewhere r there apart))
      ∙ made_of_numbers (λ after. change_by after (effects_on_row after)) (row_at later.rows) numbers

  -- a foreign key sets values of some row of these numbers
  abbrev sets : Reference → Bool
  sets k = list_any (sets_at context.schema (filter acts all) lost changes later.rows k.id) numbers

  sets_same : (k : Reference)
      → list_any (λ after. sets_values k.id (effects_on context.schema (lost_keys before.rows later.rows) (row_at before.rows after.number) after)) later.rows
      ≡ sets k
  sets_same k =
      ap (λ (f : StoredRow → List (ℕ × Effect)). list_any (λ after. sets_values k.id (f after)) later.rows) (λ i after. effects_here after i)
      ∙ any_of_filter (λ after. sets_values k.id (effects_on_row after)) later.rows
      ∙ ap (list_any (λ _. true))
      (filter_of_picked (λ after. sets_values k.id (effects_on_row after)) later.rows (row_at later.rows) numbers later_in_order (λ n. refl) finds.rising
      (λ r there apart. ap (sets_values k.id) (none_elsewhere r there apart)))
      ∙ sym (any_of_filter (λ after. sets_values k.id (effects_on_row after)) (picked (row_at later.rows) numbers))
      ∙ any_of_numbers (λ after. sets_values k.id (effects_on_row after)) (row_at later.rows) numbers

  -- an idle foreign key sets none
  idle_sets_none : (k : Reference) → has_id (filter acts all) k.id ≡ false → sets k ≡ false
  idle_sets_none k apart = none_of_all (sets_at context.schema (filter acts all) lost changes later.rows k.id) numbers (λ n. where_row (row_at later.rows n))
    where
      where_before : (after : StoredRow) (o : Option StoredRow)
          → sets_values k.id (elim o [ Some r ↦ effects_of context.schema (filter acts all) lost r after | None ↦ [] ]) ≡ false
      where_before after None = refl
      where_before after (Some r) = sets_none context.schema (filter acts all) lost r after k.id apart

      where_row : (o : Option StoredRow) → ◌≡◌ {A = Bool} (elim o [ Some after ↦ sets_values k.id (effects_on_row after) | None ↦ false ]) false
      where_row None = refl
      where_row (Some after) = where_before after (row_earlier after.number)

  columns_are : (next_wave context.schema (lost_keys before.rows later.rows) before.rows later.rows).columns
      ≡ columns_at context.schema (filter acts all) lost changes later.rows numbers
  columns_are =
      ap (λ (q : Reference → Bool). flat_map referencing_columns (filter q all)) (λ i k. sets_same k i)
      ∙ ap (flat_map referencing_columns)
      (filter_acting sets acts all
      (each_reference all (λ k apart e. idle_sets_none k (apart e)) (are_apart acts 0 all (references_rise context.schema.constraints))))

  -- the next wave by row number
  abbrev next_at : Wave
  next_at = record {
    changes = filter_map (change_at context.schema (filter acts all) lost changes later.rows) numbers;
    columns = columns_at context.schema (filter acts all) lost changes later.rows numbers;
  }

  next_is : next_wave context.schema (lost_keys before.rows later.rows) before.rows later.rows ≡ next_at
  next_is = λ i. record { changes = changes_are i; columns = columns_are i }

  pub waves_follow_row_by_row : following_wave context before later
      ≡ answer_at context.schema (filter acts (references context.schema.constraints)) (keys_lost_by (wave_of changes)) changes later numbers
  waves_follow_row_by_row =
      unless_first_is later Restrict (restricted_rows (lost_keys before.rows later.rows) context.schema.constraints before.rows) after_restrict
      ∙ (λ i. elim (first_restricted i) [ Some fault ↦ fails later (Restrict fault) | None ↦ conflicts_told i ])
    where
      after_restrict : Result Wave Failure
      after_restrict =
          unless_first later ActionConflict (conflicts context.schema (lost_keys before.rows later.rows) before.rows later.rows)
          (Ok (next_wave context.schema (lost_keys before.rows later.rows) before.rows later.rows))

      conflicts_told : after_restrict ≡ (elim (least (conflict_at context.schema (filter acts all) lost changes later.rows) numbers) [
        | Some fault ↦ fails later (ActionConflict fault)
        | None ↦ Ok next_at
      ])
      conflicts_told =
          unless_first_is later ActionConflict (conflicts context.schema (lost_keys before.rows later.rows) before.rows later.rows)
          (Ok (next_wave context.schema (lost_keys before.rows later.rows) before.rows later.rows))
          ∙ (λ i. elim (first_in_conflict i) [ Some fault ↦ fails later (ActionConflict fault) | None ↦ Ok (next_is i) ])
