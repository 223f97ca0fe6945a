-- What follows a wave fits: CASCADE copies a key between columns of one kind, NULL fits each, and so do defaults.
use Rattle.std.proofs.Common.{◌≡◌, ℕ, Bool, true, false, ◌&&◌, if◌then◌else◌, ◌==◌, List, [], ◌∷◌, ◌∙◌, inl, inr, Option, Some, None, is_some, Ok, refl, sym, ap, subst, map, length, filter, filter_map, flat_map, zip, slice_get, option_map, arith}
use Rattle.std.specs.List.{list_any, list_all, enumerate_from}
use Rattle.std.proofs.lemmas.Bool.{eqb-true, and_from, and_parts}
use Rattle.std.proofs.lemmas.List.Folds.{list_all-append}
use Rattle.iv_laws_rows.specs.Types.{Value, StoredRow, Change, Table, Database}
use Rattle.iv_value.specs.declared.value.Value.TheVariants.{Null}
use Rattle.iv_value.specs.declared.value.Kind.{Kind}
use Rattle.iv_value.specs.declared.value.Kind.TheVariants as kind
use Rattle.iv_value.specs.Values.{fit_of, all_same}
use Rattle.iv_expr.specs.Changes.{Wave}
use Rattle.iv_expr.specs.Scopes.{table_rows}
use Rattle.iv_syntax.specs.declared.table.ReferentialAction.{ReferentialAction}
use Rattle.iv_syntax.specs.declared.table.ReferentialAction.TheVariants as action
use Rattle.iv_catalogue.specs.Catalogues.{Schema}
use Rattle.iv_catalogue.specs.declared.catalogue.Column.{Column}
use Rattle.iv_catalogue.specs.declared.constraint.Constraint.{Constraint}
use Rattle.iv_catalogue.specs.declared.constraint.ForeignKey.{ForeignKey}
use Rattle.iv_catalogue.specs.declared.constraint.Rule.{Rule}
use Rattle.iv_catalogue.specs.declared.constraint.Rule.TheVariants as rule
use Rattle.iv_machine.specs.declared.effect.Effect.{Effect}
use Rattle.iv_key.specs.Keys.{value_at, key_of, none_null, holds_key}
use Rattle.iv_machine.specs.Databases.{row_at, database_after}
use Rattle.iv_machine.specs.Context.{Context}
use Rattle.iv_machine.specs.Proposals.{with_columns, defaults_of}
use Rattle.iv_machine.specs.ReferentialActions.{foreign_key, Reference, reference, references, Loss, deleted, updated, loss_of_row, lost_keys, lost_reference, action_on, cascade, effects_of_action, effects_of_loss, keeps_reference, effects, effects_on, columns_set, have_deletion, values_after, change_by, following_wave}
use Rattle.iv_store.specs.Stores.{is_fit, fits_table}
use Rattle.iv_laws_fitting.specs.PlanShapes.{kinds_of, table_kinds, is_there}
use Rattle.iv_laws_fitting.specs.ConstraintShapes.{same_kind, pair_suits, pairs_suit, rule_suits, constraint_suits, SchemaSuits}
use Rattle.iv_laws_fitting.proofs.Pointwise.{map_at}
use Rattle.iv_laws_levels.specs.RisingRows.{InOrder}
use Rattle.iv_laws_levels.proofs.RowNumbers.{some_none, some_same}
use Rattle.iv_laws_levels.proofs.AppliedRows.{rows_after_in_order}
use Rattle.iv_laws_levels.proofs.NumberedRows.{parts_of as numbers_of}
use Rattle.iv_laws_levels.proofs.Readying.{followed_is}
use Rattle.iv_laws_levels.proofs.Members.{In, of_filter, of_filter_map, of_flat_map, of_map, of_first, all_in, in_rows, rows_in}
use Rattle.iv_laws_rows.specs.RowFits.{side_fits, change_fits, changes_fit, wave_fits, row_fits, rows_fit}
use Rattle.iv_laws_rows.specs.Laws.{FollowingWavesFit}
use Rattle.iv_laws_rows.proofs.FittingValues.{table_fits, column_in, column_fits, pair_fits, fits_there, with_fits, value_at_fits, null_fits, defaults_fit}
use Rattle.iv_laws_rows.proofs.FittingChanges.{rows_after_fit}
use Rattle.iv_laws_rows.proofs.MoreMembers.{enumerated_in}
use Rattle.iv_laws_rows.proofs.StayingTables.{TablesStay, tables_stay_applied}

-- the kinds of a table, if there is one
abbrev pub kinds_in : Option Table → List Kind
kinds_in o = elim o [ Some t ↦ kinds_of t | None ↦ [] ]

-- ---- keys

kind_in : (o : Option Table) (place : ℕ) → slice_get (kinds_in o) place ≡ option_map (λ (c : Column). c.kind) (column_in o place)
kind_in None place = refl
kind_in (Some t) place = map_at (λ (c : Column). c.kind) t.columns place

one_kind : (x y : Kind) → same_kind (Some x) (Some y) ≡ true → x ≡ y
one_kind kind.Integer kind.Integer h = refl
one_kind (kind.Varchar m) (kind.Varchar n) h = ap (λ k. kind.Varchar k) (eqb-true m n h)
one_kind kind.Integer (kind.Varchar n) h = cc
one_kind (kind.Varchar m) kind.Integer h = cc

-- and_from columns that are there, of one kind
pub record Paired (o other : Option Table) (place place' : ℕ) : Type 0 where
  pub mine : Column
  pub theirs : Column
  pub mine_there : column_in o place ≡ Some mine
  pub theirs_there : column_in other place' ≡ Some theirs
  pub same : mine.kind ≡ theirs.kind

paired : (o other : Option Table) (place place' : ℕ) → pair_suits (kinds_in o) (kinds_in other) (place, place') ≡ true → Paired o other place place'
paired o other place place' h =
    by (column_in o place) (column_in other place') refl refl
    ((λ i. same_kind (sym (kind_in o place) i) (sym (kind_in other place') i)) ∙ h)
  where
    by : (a b : Option Column) → column_in o place ≡ a → column_in other place' ≡ b
        → same_kind (option_map (λ (c : Column). c.kind) (column_in o place)) (option_map (λ (c : Column). c.kind) (column_in other place')) ≡ true
        → Paired o other place place'
    by None b e f g =
        let x = sym (ap (λ (z : Option Column). same_kind (option_map (λ (c : Column). c.kind) z) (option_map (λ (c : Column). c.kind) (column_in other place'))) e) ∙ g in cc
    by (Some c) None e f g =
        let x = sym (λ i. same_kind (option_map (λ (z : Column). z.kind) (e i)) (option_map (λ (z : Column). z.kind) (f i))) ∙ g in none_same c.kind x
      where
        none_same : (k : Kind) → same_kind (Some k) None ≡ true → Paired o other place place'
        none_same kind.Integer q = cc
        none_same (kind.Varchar n) q = cc
    by (Some c) (Some d) e f g = record {
      mine = c;
      theirs = d;
      mine_there = e;
      theirs_there = f;
      same = one_kind c.kind d.kind (sym (λ i. same_kind (option_map (λ (z : Column). z.kind) (e i)) (option_map (λ (z : Column). z.kind) (f i))) ∙ g);
    }

-- the pairs of a foreign key, one after another
abbrev pub KeysPair : Option Table → Option Table → List ℕ → List ℕ → Type 0
KeysPair o other [] key = Unit {0}
KeysPair o other (c ∷ columns) [] = ⊥
KeysPair o other (c ∷ columns) (d ∷ key) = Paired o other c d × KeysPair o other columns key

keys_pair : (o other : Option Table) (columns key : List ℕ) → length columns ≡ length key
    → list_all (pair_suits (kinds_in o) (kinds_in other)) (zip columns key) ≡ true → KeysPair o other columns key
keys_pair o other [] key l h = tt
keys_pair o other (c ∷ columns) [] l h = cc
keys_pair o other (c ∷ columns) (d ∷ key) l h =
    let parts = and_parts (pair_suits (kinds_in o) (kinds_in other) (c, d)) (list_all (pair_suits (kinds_in o) (kinds_in other)) (zip columns key)) h in
    let shorter : length columns ≡ length key = omega (arith, l) in
    (paired o other c d parts.0, keys_pair o other columns key shorter parts.1)

some_there : (o : Option Table) (place : ℕ) (c : Column) → column_in o place ≡ Some c → is_some (column_in o place) ≡ true
some_there o place c e = ap (λ (z : Option Column). is_some z) e

-- a key of a row that fits, copied
copied_fits : (o other : Option Table) (values : List Value) (columns key : List ℕ) → table_fits other values ≡ true → KeysPair o other columns key
    → list_all (pair_fits o) (zip columns (key_of key values)) ≡ true
copied_fits o other values [] key h p = refl
copied_fits o other values (c ∷ columns) [] h p = absurd p
copied_fits o other values (c ∷ columns) (d ∷ key) h p =
    let pair = p.0 in
    let own = value_at_fits other values d h (some_there other d pair.theirs pair.theirs_there) in
    and_from _ _
    (ap (λ (z : Option Column). column_fits z (value_at values d)) pair.mine_there
    ∙ ap (λ (k : Kind). is_fit (fit_of (value_at values d) k)) pair.same
    ∙ ap (λ (z : Option Column). column_fits z (value_at values d)) (sym pair.theirs_there) ∙ own)
    (copied_fits o other values columns key h p.1)

-- each column of a foreign key set to a value that fits it
set_all_fits : (o other : Option Table) (f : ℕ → Value) (columns key : List ℕ) → ((place : ℕ) → is_some (column_in o place) ≡ true → pair_fits o (place, f place) ≡ true)
    → KeysPair o other columns key → list_all (pair_fits o) (map (λ column. (column, f column)) columns) ≡ true
set_all_fits o other f [] key h p = refl
set_all_fits o other f (c ∷ columns) [] h p = absurd p
set_all_fits o other f (c ∷ columns) (d ∷ key) h p =
    and_from _ _ (h c (some_there o c p.0.mine p.0.mine_there)) (set_all_fits o other f columns key h p.1)

-- ---- foreign keys of a schema that suits

pub record KeyFits (schema : Schema) (k : Reference) : Type 0 where
  pub there : is_there schema.tables k.table ≡ true
  pub pairs : KeysPair (slice_get schema.tables k.table) (slice_get schema.tables k.key.referenced) k.key.columns k.key.key

key_fits : (schema : Schema) (k : Reference) → SchemaSuits schema → In k (references schema.constraints) → KeyFits schema k
key_fits schema k s i =
    let found = of_filter_map reference k (enumerate_from 0 schema.constraints) i in
    let c = found.element.1 in
    let suits = all_in (constraint_suits schema.tables) c schema.constraints s.constraints (enumerated_in 0 schema.constraints found.element found.is_in) in
    let parts = and_parts (is_there schema.tables c.table) (rule_suits schema.tables (table_kinds schema.tables c.table) c.rule) suits in
    by c c.rule refl found.element.0 (found.holds) parts.0 parts.1
  where
    by : (c : Constraint) (r : Rule) → c.rule ≡ r → (id : ℕ)
        → elim (foreign_key c.rule) as (λ o. Option Reference) [ Some fk ↦ Some (record { id = id; table = c.table; key = fk }) | None ↦ None ] ≡ Some k
        → is_there schema.tables c.table ≡ true → rule_suits schema.tables (table_kinds schema.tables c.table) c.rule ≡ true → KeyFits schema k
    by c r e id h there suits = of_rule r (sym (ap made e) ∙ h) (sym (ap (rule_suits schema.tables (table_kinds schema.tables c.table)) e) ∙ suits)
      where
        made : Rule → Option Reference
        made x = elim (foreign_key x) as (λ o. Option Reference) [ Some fk ↦ Some (record { id = id; table = c.table; key = fk }) | None ↦ None ]

        of_key : (fk : ForeignKey) → record { id = id; table = c.table; key = fk } ≡ k
            → (is_there schema.tables fk.referenced && pairs_suit (table_kinds schema.tables c.table) (table_kinds schema.tables fk.referenced) fk) ≡ true
            → KeyFits schema k
        of_key fk is suit =
            let p = and_parts (is_there schema.tables fk.referenced) (pairs_suit (table_kinds schema.tables c.table) (table_kinds schema.tables fk.referenced) fk) suit in
            let q = and_parts (length fk.columns == length fk.key) (list_all (pair_suits (table_kinds schema.tables c.table) (table_kinds schema.tables fk.referenced)) (zip fk.columns fk.key)) p.1 in
            subst (KeyFits schema) is
            (record {
              there = there;
              pairs = keys_pair (slice_get schema.tables c.table) (slice_get schema.tables fk.referenced) fk.columns fk.key (eqb-true (length fk.columns) (length fk.key) q.0) q.1;
            })

        of_rule : (x : Rule) → made x ≡ Some k → rule_suits schema.tables (table_kinds schema.tables c.table) x ≡ true → KeyFits schema k
        of_rule (rule.ForeignKey fk) g suit = of_key fk (some_same _ k g) suit
        of_rule (rule.NotNull column) g suit = absurd (some_none k (sym g))
        of_rule (rule.Unique nulls columns) g suit = absurd (some_none k (sym g))
        of_rule (rule.PrimaryKey columns) g suit = absurd (some_none k (sym g))
        of_rule (rule.Check condition) g suit = absurd (some_none k (sym g))

-- ---- lost keys

-- the row whose new key took the place of one that was lost
updated_key : (schema : Schema) (db later : List StoredRow) (fk : ForeignKey) (before : StoredRow) (key : List Value)
    → InOrder db → TablesStay db later → rows_fit schema.tables later ≡ true
    → lost_reference (lost_keys db later) fk before ≡ Some (updated key)
    → (values : List Value) × (key ≡ key_of fk.key values) × (fits_table schema.tables fk.referenced values ≡ true)
updated_key schema db later fk before key order stay fits e =
    let found = of_filter_map (loss_of_row later fk) (updated key) _ (of_first (updated key) _ (where_lost (none_null (key_of fk.columns before.values)) e)) in
    let held = of_filter (λ r. holds_key fk.key (key_of fk.columns before.values) r.values) found.element (table_rows db fk.referenced) found.is_in in
    let own = of_filter (λ r. r.table == fk.referenced) found.element db held.0 in
    by found.element own.0 (eqb-true found.element.table fk.referenced own.1) (row_at later found.element.number) refl found.holds
  where
    where_lost : (b : Bool) → (if b then lost_keys db later fk (key_of fk.columns before.values) else None) ≡ Some (updated key)
        → lost_keys db later fk (key_of fk.columns before.values) ≡ Some (updated key)
    where_lost true h = h
    where_lost false h = absurd (some_none (updated key) (sym h))

    by : (r : StoredRow) → In r db → r.table ≡ fk.referenced → (o : Option StoredRow) → row_at later r.number ≡ o
        → elim o as (λ x. Option Loss) [
          | None ↦ Some deleted
          | Some after ↦ if all_same (key_of fk.key after.values) (key_of fk.key r.values) then None else Some (updated (key_of fk.key after.values))
        ] ≡ Some (updated key)
        → (values : List Value) × (key ≡ key_of fk.key values) × (fits_table schema.tables fk.referenced values ≡ true)
    by r i t None f h = absurd (no_key (some_same deleted (updated key) h))
      where
        no_key : deleted ≡ updated key → ⊥
        no_key x = cc
    by r i t (Some a) f h = changed (all_same (key_of fk.key a.values) (key_of fk.key r.values)) h
      where
        same_key : (one other : List Value) → updated one ≡ updated other → one ≡ other
        same_key one other x = cc

        changed : (b : Bool) → (if b then None else Some (updated (key_of fk.key a.values))) ≡ Some (updated key)
            → (values : List Value) × (key ≡ key_of fk.key values) × (fits_table schema.tables fk.referenced values ≡ true)
        changed true g = absurd (some_none (updated key) (sym g))
        changed false g =
            let placed = stay r.number r a (rows_in db r order i) f ∙ t in
            let fit = all_in (row_fits schema.tables) a later fits (in_rows later r.number a f) in (
              a.values,
              sym (same_key (key_of fk.key a.values) key (some_same _ (updated key) g)),
              ap (λ n. fits_table schema.tables n a.values) (sym placed) ∙ fit,
            )

-- ---- effects

-- the columns that an effect sets take values that fit
abbrev pub EffectFits : Option Table → Effect → Type 0
EffectFits o e = list_all (pair_fits o) (columns_set e) ≡ true

abbrev pub EffectsFit : Option Table → List Effect → Type 0
EffectsFit o [] = Unit {0}
EffectsFit o (e ∷ es) = EffectFits o e × EffectsFit o es

effects_of_loss_fit : (schema : Schema) (db later : List StoredRow) (k : Reference) (before : StoredRow)
    → SchemaSuits schema → KeyFits schema k → InOrder db → TablesStay db later → rows_fit schema.tables later ≡ true
    → (o : Option Loss) → lost_reference (lost_keys db later) k.key before ≡ o → EffectsFit (slice_get schema.tables k.table) (effects_of_loss schema k o)
effects_of_loss_fit schema db later k before s fits order stay rows None e = tt
effects_of_loss_fit schema db later k before s fits order stay rows (Some loss) e = by_action (action_on k.key loss)
  where
    mine : Option Table
    mine = slice_get schema.tables k.table

    theirs : Option Table
    theirs = slice_get schema.tables k.key.referenced

    by_loss : (x : Loss) → lost_reference (lost_keys db later) k.key before ≡ Some x → EffectsFit (slice_get schema.tables k.table) (cascade k.key x ∷ [])
    by_loss deleted f = (refl, tt)
    by_loss (updated key) f =
        let row = updated_key schema db later k.key before key order stay rows f in (
          ap (λ (l : List Value). list_all (pair_fits (slice_get schema.tables k.table)) (zip k.key.columns l)) row.1
              ∙ copied_fits (slice_get schema.tables k.table) (slice_get schema.tables k.key.referenced) row.0 k.key.columns k.key.key row.2 fits.pairs,
          tt,
        )

    by_action : (a : ReferentialAction) → EffectsFit (slice_get schema.tables k.table) (effects_of_action schema k loss a)
    by_action action.NoAction = tt
    by_action action.Restrict = tt
    by_action action.Cascade = by_loss loss e
    by_action action.SetNull = (
      set_all_fits (slice_get schema.tables k.table) (slice_get schema.tables k.key.referenced) (λ place. Null) k.key.columns k.key.key
          (null_fits (slice_get schema.tables k.table)) fits.pairs,
      tt,
    )
    by_action action.SetDefault = (
      set_all_fits (slice_get schema.tables k.table) (slice_get schema.tables k.key.referenced) (value_at (defaults_of schema k.table)) k.key.columns k.key.key
          (λ place there. value_at_fits (slice_get schema.tables k.table) (defaults_of schema k.table) place (defaults_fit schema k.table s.tables fits.there) there) fits.pairs,
      tt,
    )

effect_in : (o : Option Table) (es : List Effect) (e : Effect) → EffectsFit o es → In e es → EffectFits o e
effect_in o [] e h i = absurd i
effect_in o (x ∷ es) e h (inl is) = ap (λ (y : Effect). list_all (pair_fits o) (columns_set y)) is ∙ h.0
effect_in o (x ∷ es) e h (inr i) = effect_in o es e h.1 i

all_columns_set : (o : Option Table) (es : List (ℕ × Effect)) → ((e : ℕ × Effect) → In e es → EffectFits o e.1)
    → list_all (pair_fits o) (flat_map (λ e. columns_set e.1) es) ≡ true
all_columns_set o [] h = refl
all_columns_set o (e ∷ es) h =
    list_all-append (pair_fits o) (columns_set e.1) (flat_map (λ x. columns_set x.1) es)
    ∙ and_from _ _ (h e (inl refl)) (all_columns_set o es (λ x i. h x (inr i)))

-- what foreign keys do to a row
effects_fit : (schema : Schema) (db later : List StoredRow) (before after : StoredRow)
    → SchemaSuits schema → InOrder db → TablesStay db later → rows_fit schema.tables later ≡ true → before.table ≡ after.table
    → (e : ℕ × Effect) → In e (effects schema (lost_keys db later) before after) → EffectFits (slice_get schema.tables after.table) e.1
effects_fit schema db later before after s order stay rows same e i =
    let by_key : Reference → List (ℕ × Effect) = λ k. map (λ effect. (k.id, effect)) (effects_of_loss schema k (lost_reference (lost_keys db later) k.key before)) in
    let found = of_flat_map by_key e (filter (keeps_reference before after) (references schema.constraints)) i in
    let k = found.element in
    let kept = of_filter (keeps_reference before after) k (references schema.constraints) found.is_in in
    let own = and_parts (k.table == before.table) (all_same (key_of k.key.columns before.values) (key_of k.key.columns after.values)) kept.1 in
    let placed = eqb-true k.table before.table own.0 ∙ same in
    let made = of_map (λ (x : Effect). (k.id, x)) e (effects_of_loss schema k (lost_reference (lost_keys db later) k.key before)) found.holds in
    let all = effects_of_loss_fit schema db later k before s (key_fits schema k s kept.0) order stay rows (lost_reference (lost_keys db later) k.key before) refl in
    let one = effect_in (slice_get schema.tables k.table) (effects_of_loss schema k (lost_reference (lost_keys db later) k.key before)) made.element all made.is_in in
    subst (λ n. EffectFits (slice_get schema.tables n) e.1) placed
    (ap (λ (y : ℕ × Effect). list_all (pair_fits (slice_get schema.tables k.table)) (columns_set y.1)) made.holds ∙ one)

-- ---- the next wave

values_after_fit : (tables : List Table) (r : StoredRow) (es : List (ℕ × Effect)) → row_fits tables r ≡ true
    → ((e : ℕ × Effect) → In e es → EffectFits (slice_get tables r.table) e.1) → side_fits tables r.table (values_after r.values es) ≡ true
values_after_fit tables r es h g = by (have_deletion es)
  where
    by : (b : Bool) → side_fits tables r.table (if b then None else Some (with_columns r.values (flat_map (λ e. columns_set e.1) es))) ≡ true
    by true = refl
    by false = with_fits (slice_get tables r.table) r.values (flat_map (λ e. columns_set e.1) es) h (all_columns_set (slice_get tables r.table) es g)

change_by_fits : (tables : List Table) (r : StoredRow) (es : List (ℕ × Effect)) (c : Change) → row_fits tables r ≡ true
    → ((e : ℕ × Effect) → In e es → EffectFits (slice_get tables r.table) e.1) → change_by r es ≡ Some c → change_fits tables c ≡ true
change_by_fits tables r [] c h g e = absurd (some_none c (sym e))
change_by_fits tables r (x ∷ es) c h g e =
    ap (change_fits tables) (sym (some_same _ c e))
    ∙ and_from _ _ (fits_there tables r.table r.values h) (and_from _ _ h (values_after_fit tables r (x ∷ es) h g))

next_changes_fit : (schema : Schema) (db later : List StoredRow) → SchemaSuits schema → InOrder db → InOrder later → TablesStay db later → rows_fit schema.tables later ≡ true
    → (some : List StoredRow) → ((r : StoredRow) → In r some → In r later)
    → changes_fit schema.tables (filter_map (λ after. change_by after (effects_on schema (lost_keys db later) (row_at db after.number) after)) some) ≡ true
next_changes_fit schema db later s order sorted stay rows [] i = refl
next_changes_fit schema db later s order sorted stay rows (r ∷ some) i =
    by (change_by r (effects_on schema (lost_keys db later) (row_at db r.number) r)) refl
    (next_changes_fit schema db later s order sorted stay rows some (λ x j. i x (inr j)))
  where
    rest : List Change
    rest = filter_map (λ after. change_by after (effects_on schema (lost_keys db later) (row_at db after.number) after)) some

    fit : row_fits schema.tables r ≡ true
    fit = all_in (row_fits schema.tables) r later rows (i r (inl refl))

    by_before : (o : Option StoredRow) → row_at db r.number ≡ o → (e : ℕ × Effect) → In e (effects_on schema (lost_keys db later) o r)
        → EffectFits (slice_get schema.tables r.table) e.1
    by_before None f e j = absurd j
    by_before (Some before) f e j =
        effects_fit schema db later before r s order stay rows (sym (stay r.number before r f (rows_in later r sorted (i r (inl refl))))) e j

    by : (o : Option Change) → change_by r (effects_on schema (lost_keys db later) (row_at db r.number) r) ≡ o
        → changes_fit schema.tables (filter_map (λ after. change_by after (effects_on schema (lost_keys db later) (row_at db after.number) after)) some) ≡ true
        → changes_fit schema.tables (Rattle.std.specs.List.cons_option o (filter_map (λ after. change_by after (effects_on schema (lost_keys db later) (row_at db after.number) after)) some)) ≡ true
    by None f more = more
    by (Some c) f more =
        and_from _ _
        (change_by_fits schema.tables r (effects_on schema (lost_keys db later) (row_at db r.number) r) c fit (by_before (row_at db r.number) refl) f) more

-- the wave that follows from one database to a later one, if rows stay of their tables
pub followed_fits : (context : Context) (db later : Database) (next : Wave) → SchemaSuits context.schema
    → InOrder db.rows → InOrder later.rows → TablesStay db.rows later.rows → rows_fit context.schema.tables later.rows ≡ true
    → following_wave context db later ≡ Ok next → wave_fits context.schema.tables next ≡ true
followed_fits context db later next s order sorted stay rows e =
    ap (wave_fits context.schema.tables) (sym (followed_is context db later next e).1)
    ∙ next_changes_fit context.schema db.rows later.rows s order sorted stay rows later.rows (λ r i. i)

pub following_waves_fit : FollowingWavesFit
following_waves_fit context db wave next s numbered fits h g e =
    followed_fits context db (database_after db wave) next s (numbers_of 0 db.rows db.next numbered).order (rows_after_in_order db.rows wave.changes)
    (tables_stay_applied db wave fits.current) (rows_after_fit context.schema.tables db wave h g) e
