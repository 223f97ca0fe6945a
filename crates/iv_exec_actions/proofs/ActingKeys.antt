-- The foreign keys that act on rows after a wave are those that an account tells of.
use Rattle.std.proofs.Common.{◌≡◌, refl, ℕ, Bool, true, false, if◌then◌else◌, List, [], ◌∷◌, ◌++◌, map, filter, flat_map, Option, Some, None, sym, ap, ◌∙◌}
use Rattle.std.specs.Bool.{◌==◌}
use Rattle.iv_expr.specs.declared.row.StoredRow.{StoredRow}
use Rattle.iv_expr.specs.declared.row.Change.{Change}
use Rattle.iv_expr.specs.Changes.{wave_of}
use Rattle.iv_syntax.specs.declared.table.ReferentialAction.TheVariants as action
use Rattle.iv_catalogue.specs.Catalogues.{Schema}
use Rattle.iv_key.specs.Keys.{key_of}
use Rattle.iv_machine.specs.declared.database.Database.{Database}
use Rattle.iv_machine.specs.Databases.{row_at}
use Rattle.iv_machine.specs.ReferentialActions.{Reference, references, Loss, LostKeys, lost_keys, lost_reference, action_on, keeps_reference}
use Rattle.iv_account.specs.declared.entry.RowAction.{RowAction}
use Rattle.iv_account.specs.Accounts.{acts, action_for_loss, actions_at as actions_between}
use Rattle.iv_laws_levels.specs.Holders.{row_before, keys_lost_by}
use Rattle.iv_laws_levels.proofs.Holders.{rows_before}
use Rattle.iv_laws_levels.proofs.LosingWaves.{lost_by_wave}
use Rattle.iv_laws_kept.specs.FollowingWaves.{LedTo}
use Rattle.iv_laws_kept.proofs.Idle.{lost_key}
use Rattle.iv_exec_actions.specs.AffectedForeignKey.{AffectedForeignKey, under_wave, acts_in, affected_from, change_losing}
use Rattle.iv_exec_actions.specs.ByTable.{on_table, at_places}
use Rattle.iv_exec_actions.specs.RowActions.{actions_for, actions_by, actions_among, actions_at, actions_on_all}
use Rattle.iv_exec_actions.proofs.Matching.{loss_by, reference_lost, affected_is}
use Rattle.iv_exec_actions.proofs.Found.{idle}
use Rattle.iv_exec_actions.proofs.Grouping.{filter_within, kept_apart}

-- ---- those on a row's table

pub actions_at_places : (xs : List AffectedForeignKey) (places : List ℕ) (table : ℕ) (before after : StoredRow) → table ≡ before.table
    → at_places xs places ≡ on_table table xs → actions_among (at_places xs places) before after ≡ actions_among xs before after
actions_at_places xs places table before after is at =
    ap (λ l. actions_among l before after) (at ∙ ap (λ t. on_table t xs) is)
    ∙ ap (flat_map (actions_by before))
    (filter_within (λ x. keeps_reference before after x.reference) (λ x. x.reference.table == before.table) (kept_apart before after) xs)

-- ---- one foreign key

actions_by_is : (changes : List Change) (before : StoredRow) (k : Reference)
    → actions_by before (under_wave changes k) ≡ action_for_loss k before.number (lost_reference (keys_lost_by (wave_of changes)) k.key before)
actions_by_is changes before k =
    by (change_losing (under_wave changes k) before) ∙ ap (action_for_loss k before.number) (sym (reference_lost changes k before))
  where
    by : (o : Option Change)
        → ◌≡◌ {A = List RowAction} (elim o [ Some c ↦ actions_for (under_wave changes k) before.number c | None ↦ [] ]) (action_for_loss k before.number (loss_by k.key o))
    by None = refl
    by (Some c) = refl

-- one that has NO ACTION doesn't act
does_nothing : (k : Reference) (row : ℕ) (o : Option Loss) → ((loss : Loss) → o ≡ Some loss → action_on k.key loss ≡ action.NoAction) → action_for_loss k row o ≡ []
does_nothing k row None h = refl
does_nothing k row (Some loss) h =
    ap (λ a. if acts a then record { constraint = k.id; action = a; table = k.table; row = row } ∷ [] else []) (h loss refl)

-- ---- all foreign keys

module _ (changes : List Change) where
  abbrev lost : LostKeys
  lost = keys_lost_by (wave_of changes)

  abbrev under : List Reference → List AffectedForeignKey
  under ks = map (under_wave changes) ks

  abbrev actions_of : StoredRow → Reference → List RowAction
  actions_of before k = action_for_loss k before.number (lost_reference lost k.key before)

  abbrev kept : StoredRow → StoredRow → List Reference → List Reference
  kept before after ks = filter (keeps_reference before after) ks

  actions_are : (ks : List Reference) (before after : StoredRow) → actions_among (under ks) before after ≡ flat_map (actions_of before) (kept before after ks)
  actions_are [] before after = refl
  actions_are (k ∷ ks) before after = by (keeps_reference before after k) (actions_are ks before after)
    where
      by : (b : Bool) → actions_among (under ks) before after ≡ flat_map (actions_of before) (kept before after ks)
          → flat_map (actions_by before)
          (if b then under_wave changes k ∷ filter (λ x. keeps_reference before after x.reference) (under ks) else filter (λ x. keeps_reference before after x.reference) (under ks))
          ≡ flat_map (actions_of before) (if b then k ∷ kept before after ks else kept before after ks)
      by true rest = λ i. actions_by_is changes before k i ++ rest i
      by false rest = rest

  -- those that do nothing are left out
  of_acting : (ks : List Reference) (before after : StoredRow)
      → flat_map (actions_of before) (kept before after (filter (acts_in changes) ks)) ≡ flat_map (actions_of before) (kept before after ks)
  of_acting [] before after = refl
  of_acting (k ∷ ks) before after = where_acts (acts_in changes k) refl (of_acting ks before after)
    where
      acting : List Reference
      acting = kept before after (filter (acts_in changes) ks)

      all : List Reference
      all = kept before after ks

      both : (b : Bool) → flat_map (actions_of before) acting ≡ flat_map (actions_of before) all
          → flat_map (actions_of before) (if b then k ∷ acting else acting) ≡ flat_map (actions_of before) (if b then k ∷ all else all)
      both true rest = ap (λ l. actions_of before k ++ l) rest
      both false rest = rest

      one : acts_in changes k ≡ false → (b : Bool) → flat_map (actions_of before) acting ≡ flat_map (actions_of before) all
          → flat_map (actions_of before) acting ≡ flat_map (actions_of before) (if b then k ∷ all else all)
      one e true rest =
          rest
          ∙ ap (λ l. l ++ flat_map (actions_of before) all)
          (sym (does_nothing k before.number (lost_reference lost k.key before) (λ loss f. idle changes k e (key_of k.key.columns before.values) loss (lost_key lost k before loss f))))
      one e false rest = rest

      where_acts : (b : Bool) → acts_in changes k ≡ b → flat_map (actions_of before) acting ≡ flat_map (actions_of before) all
          → flat_map (actions_of before) (kept before after (if b then k ∷ filter (acts_in changes) ks else filter (acts_in changes) ks))
          ≡ flat_map (actions_of before) (kept before after (k ∷ ks))
      where_acts true e rest = both (keeps_reference before after k) rest
      where_acts false e rest = one e (keeps_reference before after k) rest

  -- on the row of a number, from the rows before the wave and after it
  at_number : (schema : Schema) (ks : List Reference) (before later : List StoredRow) (number : ℕ)
      → ks ≡ references schema.constraints → row_at before number ≡ row_before (wave_of changes) later number → lost_keys before later ≡ lost
      → actions_at (under (filter (acts_in changes) ks)) changes later number ≡ actions_between schema before later number
  at_number schema ks before later number are row keys =
      by (row_before (wave_of changes) later number) (row_at later number)
      ∙ (λ i. elim (sym row i) [
        | Some b ↦ elim (row_at later number) [
          | Some a ↦ flat_map (λ k. action_for_loss k b.number (lost_reference (sym keys i) k.key b)) (kept b a (are i))
          | None ↦ []
        ]
        | None ↦ []
      ])
    where
      by : (o p : Option StoredRow)
          → ◌≡◌ {A = List RowAction} (elim o [ Some b ↦ elim p [ Some a ↦ actions_among (under (filter (acts_in changes) ks)) b a | None ↦ [] ] | None ↦ [] ])
          (elim o [ Some b ↦ elim p [ Some a ↦ flat_map (actions_of b) (kept b a ks) | None ↦ [] ] | None ↦ [] ])
      by None p = refl
      by (Some b) None = refl
      by (Some b) (Some a) = actions_are (filter (acts_in changes) ks) b a ∙ of_acting ks b a

-- ---- a wave that led from a database to a later one

pub row_then_is : (before later : Database) (changes : List Change) (number : ℕ) → LedTo before changes later
    → row_at before.rows number ≡ row_before (wave_of changes) later.rows number
row_then_is before later changes number led =
    rows_before before (wave_of changes) number led.current ∙ ap (λ (db : Database). row_before (wave_of changes) db.rows number) led.leads

pub lost_keys_are : (before later : Database) (changes : List Change) → LedTo before changes later → lost_keys before.rows later.rows ≡ keys_lost_by (wave_of changes)
lost_keys_are before later changes led =
    ap (λ (db : Database). lost_keys before.rows db.rows) (sym led.leads)
    ∙ (λ i fk key. lost_by_wave before (wave_of changes) fk key led.in_order led.rising led.current i)

pub acting_on_all : (schema : Schema) (before later : Database) (changes next : List Change) (xs : List AffectedForeignKey)
    → xs ≡ affected_from changes 0 schema.constraints → LedTo before changes later
    → actions_on_all xs changes later.rows next ≡ flat_map (λ c. actions_between schema before.rows later.rows c.row) next
acting_on_all schema before later changes next xs are led =
    ap (λ l. actions_on_all l changes later.rows next) (are ∙ affected_is changes 0 schema.constraints)
    ∙ (λ i. flat_map (λ c. at_number changes schema (references schema.constraints) before.rows later.rows c.row refl
    (row_then_is before later changes c.row led) (lost_keys_are before later changes led) i) next)
