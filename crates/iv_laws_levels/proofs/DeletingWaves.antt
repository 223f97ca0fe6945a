-- What follows a wave of deletions: the deletions of the rows that refer by CASCADE to its rows.
use Rattle.std.proofs.Common.{◌≡◌, refl, ℕ, Bool, true, false, ◌&&◌, not, if◌then◌else◌, List, [], ◌∷◌, filter, Option, Some, None, sym, ap, subst, ◌∙◌, inl, inr}
use Rattle.std.specs.Bool.{◌==◌}
use Rattle.std.specs.List.{cons_option}
use Rattle.iv_laws_levels.specs.Types.{Value, StoredRow, Change, ReferentialAction, ForeignKey, Database, Effect}
use Rattle.iv_laws_levels.specs.Types.referential_action as action
use Rattle.iv_value.specs.Values.{all_same}
use Rattle.iv_expr.specs.Scopes.{table_rows}
use Rattle.iv_catalogue.specs.Catalogues.{Schema}
use Rattle.iv_key.specs.Keys.{key_of, none_null, holds_key}
use Rattle.iv_machine.specs.Databases.{row_at, has_change}
use Rattle.iv_machine.specs.declared.effect.Effect.TheVariants.{DeleteRow}
use Rattle.iv_machine.specs.ReferentialActions.{Reference, Loss, deleted, updated, loss_of_row, lost_keys, lost_reference, action_on, effects_of_action, effects_of_loss}
use Rattle.iv_laws_levels.specs.Reorderings.{after_changes}
use Rattle.iv_laws_levels.specs.FittingWaves.{Numbered}
use Rattle.iv_laws_levels.specs.Closures.{is_cascade, sets_columns, cascades_by}
use Rattle.std.proofs.lemmas.Bool.{and_from}
use Rattle.iv_laws_levels.proofs.RowNumbers.{some_none, some_same}
use Rattle.iv_laws_levels.proofs.AppliedRows.{row_of, news, row_at_rows_after}
use Rattle.iv_laws_levels.proofs.BeforeRows.{AllAlike}
use Rattle.iv_laws_levels.proofs.NumberedRows.{parts_of}
use Rattle.iv_laws_levels.proofs.Keys.{false_true, and_first, and_second, all_same_itself}
use Rattle.iv_laws_levels.proofs.Locality.{held_swap}
use Rattle.iv_laws_levels.proofs.Members.{In, in_filter, of_filter, in_filter_map, of_filter_map, of_first, first_is, in_rows, rows_in}

-- ---- a wave of deletions

abbrev pub Deletions : List Change → Type 0
Deletions [] = Unit {0}
Deletions (c ∷ wave) = (c.new ≡ None) × Deletions wave

pub deletions_alike : (wave other : List Change) → AllAlike wave other → Deletions wave → Deletions other
deletions_alike [] [] h d = tt
deletions_alike [] (c ∷ other) h d = absurd h
deletions_alike (c ∷ wave) [] h d = absurd h
deletions_alike (c ∷ wave) (x ∷ other) h d = (h.0.deletion d.0, deletions_alike wave other h.1 d.1)

no_news : (wave : List Change) → Deletions wave → news wave ≡ []
no_news [] d = refl
no_news (c ∷ wave) d = ap (λ o. cons_option (row_of c o) (news wave)) d.0 ∙ no_news wave d.1

pub row_at_deleted : (db : Database) (wave : List Change) (n : ℕ) → Deletions wave → row_at (after_changes db wave).rows n ≡ (if has_change wave n then None else row_at db.rows n)
row_at_deleted db wave n d =
    row_at_rows_after db.rows wave n ∙ ap (λ l. if has_change wave n then row_at l n else row_at db.rows n) (no_news wave d)

-- a row that is there after it was there before, and the wave didn't have it
pub still_there : (db : Database) (wave : List Change) (n : ℕ) (r : StoredRow) → Deletions wave → row_at (after_changes db wave).rows n ≡ Some r
    → (has_change wave n ≡ false) × (row_at db.rows n ≡ Some r)
still_there db wave n r d e = by_wave (has_change wave n) refl (sym (row_at_deleted db wave n d) ∙ e)
  where
    by_wave : (b : Bool) → has_change wave n ≡ b → (if b then None else row_at db.rows n) ≡ Some r → (has_change wave n ≡ false) × (row_at db.rows n ≡ Some r)
    by_wave true f g = absurd (some_none r (sym g))
    by_wave false f g = (f, g)

-- a row that is there no more was in the wave
pub was_taken : (db : Database) (wave : List Change) (n : ℕ) (r : StoredRow) → Deletions wave → row_at db.rows n ≡ Some r → row_at (after_changes db wave).rows n ≡ None
    → has_change wave n ≡ true
was_taken db wave n r d there e = by_wave (has_change wave n) refl (sym (row_at_deleted db wave n d) ∙ e)
  where
    by_wave : (b : Bool) → has_change wave n ≡ b → (if b then None else row_at db.rows n) ≡ None → has_change wave n ≡ true
    by_wave true f g = f
    by_wave false f g = absurd (some_none r (sym there ∙ g))

-- ---- the keys that it lost

abbrev lost_as : ForeignKey → StoredRow → Option StoredRow → Option Loss
lost_as fk r o = elim o [
  | None ↦ Some deleted
  | Some after ↦ if all_same (key_of fk.key after.values) (key_of fk.key r.values) then None else Some (updated (key_of fk.key after.values))
]

lost_outside : (fk : ForeignKey) (r : StoredRow) → lost_as fk r (Some r) ≡ None
lost_outside fk r = ap (λ b. if b then None else Some (updated (key_of fk.key r.values))) (all_same_itself (key_of fk.key r.values))

-- a row of the wave lost its key by deletion
lost_inside : (db : Database) (wave : List Change) (fk : ForeignKey) (r : StoredRow) → Deletions wave → has_change wave r.number ≡ true
    → loss_of_row (after_changes db wave).rows fk r ≡ Some deleted
lost_inside db wave fk r d e =
    ap (lost_as fk r) (row_at_deleted db wave r.number d ∙ ap (λ b. if b then None else row_at db.rows r.number) e)

-- and no other row lost its key
lost_is : (db : Database) (wave : List Change) (fk : ForeignKey) (r : StoredRow) (loss : Loss) → Deletions wave → row_at db.rows r.number ≡ Some r
    → loss_of_row (after_changes db wave).rows fk r ≡ Some loss → (has_change wave r.number ≡ true) × (loss ≡ deleted)
lost_is db wave fk r loss d there e = by_wave (has_change wave r.number) refl (sym (ap (lost_as fk r) (row_at_deleted db wave r.number d)) ∙ e)
  where
    by_wave : (b : Bool) → has_change wave r.number ≡ b → lost_as fk r (if b then None else row_at db.rows r.number) ≡ Some loss
        → (has_change wave r.number ≡ true) × (loss ≡ deleted)
    by_wave true f g = (f, sym (some_same deleted loss g))
    by_wave false f g = absurd (some_none loss (sym g ∙ ap (lost_as fk r) there ∙ lost_outside fk r))

-- a row of a wave that held a referenced key
pub record Holder (db : Database) (wave : List Change) (fk : ForeignKey) (key : List Value) : Type 0 where
  pub row : StoredRow
  pub there : row_at db.rows row.number ≡ Some row
  pub inside : has_change wave row.number ≡ true
  pub of_table : (row.table == fk.referenced) ≡ true
  pub holds : holds_key fk.key key row.values ≡ true

lost_held : (db : Database) (wave : List Change) (fk : ForeignKey) (key : List Value) (loss : Loss) → Numbered db → Deletions wave
    → lost_keys db.rows (after_changes db wave).rows fk key ≡ Some loss → Holder db wave fk key × (loss ≡ deleted)
lost_held db wave fk key loss h d e =
    let found = of_filter_map (loss_of_row (after_changes db wave).rows fk) loss (filter (λ r. holds_key fk.key key r.values) (table_rows db.rows fk.referenced))
    (of_first loss _ e) in
    let held = of_filter (λ r. holds_key fk.key key r.values) found.element (table_rows db.rows fk.referenced) found.is_in in
    let placed = of_filter (λ r. r.table == fk.referenced) found.element db.rows held.0 in
    let there = rows_in db.rows found.element (parts_of 0 db.rows db.next h).order placed.0 in
    let is = lost_is db wave fk found.element loss d there found.holds in
    (record { row = found.element; there = there; inside = is.0; of_table = placed.1; holds = held.1 }, is.1)

held_lost : (db : Database) (wave : List Change) (fk : ForeignKey) (key : List Value) → Numbered db → Deletions wave → Holder db wave fk key
    → lost_keys db.rows (after_changes db wave).rows fk key ≡ Some deleted
held_lost db wave fk key h d held =
    let placed = in_filter (λ r. r.table == fk.referenced) held.row db.rows (in_rows db.rows held.row.number held.row held.there) held.of_table in
    let holding = in_filter (λ r. holds_key fk.key key r.values) held.row (table_rows db.rows fk.referenced) placed held.holds in
    let some = first_is deleted _ (in_filter_map (loss_of_row (after_changes db wave).rows fk) held.row deleted
    (filter (λ r. holds_key fk.key key r.values) (table_rows db.rows fk.referenced)) holding (lost_inside db wave fk held.row d held.inside)) in
    some.1 ∙ ap Some (lost_held db wave fk key some.0 h d some.1).1

-- ---- what foreign keys do then

by_action : (c : Schema) (k : Reference) (a : ReferentialAction) (x : Effect) → not (sets_columns a) ≡ true → In x (effects_of_action c k deleted a)
    → (x ≡ DeleteRow) × (is_cascade a ≡ true)
by_action c k action.NoAction x only i = absurd i
by_action c k action.Restrict x only i = absurd i
by_action c k action.Cascade x only (inl is) = (is, refl)
by_action c k action.Cascade x only (inr i) = absurd i
by_action c k action.SetNull x only i = absurd (false_true only)
by_action c k action.SetDefault x only i = absurd (false_true only)

by_cascade : (c : Schema) (k : Reference) (a : ReferentialAction) → is_cascade a ≡ true → effects_of_action c k deleted a ≡ DeleteRow ∷ []
by_cascade c k action.NoAction e = absurd (false_true e)
by_cascade c k action.Restrict e = absurd (false_true e)
by_cascade c k action.Cascade e = refl
by_cascade c k action.SetNull e = absurd (false_true e)
by_cascade c k action.SetDefault e = absurd (false_true e)

-- a row is deleted since it refers by CASCADE to a row of the wave
abbrev DeletedBy : Database → List Change → ForeignKey → StoredRow → Effect → Type 0
DeletedBy db wave fk r x = (x ≡ DeleteRow) × (is_cascade fk.on_delete ≡ true) × Holder db wave fk (key_of fk.columns r.values)

-- what a foreign key does to a row
abbrev pub reference_effects : Database → List Change → Schema → StoredRow → Reference → List Effect
reference_effects db wave c r k = effects_of_loss c k (lost_reference (lost_keys db.rows (after_changes db wave).rows) k.key r)

-- a row to which a foreign key does something is deleted, since it refers by CASCADE to a row of the wave
pub reference_deletes : (db : Database) (wave : List Change) (c : Schema) (k : Reference) (r : StoredRow) (x : Effect) → Numbered db → Deletions wave
    → not (sets_columns k.key.on_delete) ≡ true → In x (reference_effects db wave c r k) → DeletedBy db wave k.key r x
reference_deletes db wave c k r x h d only i = by_given (none_null (key_of k.key.columns r.values)) i
  where
    lost : Option Loss
    lost = lost_keys db.rows (after_changes db wave).rows k.key (key_of k.key.columns r.values)

    by_lost : (o : Option Loss) → lost ≡ o → In x (effects_of_loss c k o) → DeletedBy db wave k.key r x
    by_lost None f j = absurd j
    by_lost (Some loss) f j =
        let held = lost_held db wave k.key (key_of k.key.columns r.values) loss h d f in
        let is = by_action c k k.key.on_delete x only (subst (λ l. In x (effects_of_action c k l (action_on k.key l))) held.1 j) in
        (is.0, is.1, held.0)

    by_given : (b : Bool) → In x (effects_of_loss c k (if b then lost else None)) → DeletedBy db wave k.key r x
    by_given true j = by_lost lost refl j
    by_given false j = absurd j

-- a row that refers by CASCADE to a row of the wave is deleted
reference_cascades : (db : Database) (wave : List Change) (c : Schema) (k : Reference) (r : StoredRow) → Numbered db → Deletions wave
    → is_cascade k.key.on_delete ≡ true → Holder db wave k.key (key_of k.key.columns r.values) → none_null (key_of k.key.columns r.values) ≡ true
    → reference_effects db wave c r k ≡ DeleteRow ∷ []
reference_cascades db wave c k r h d cascades held given =
    ap (λ b. effects_of_loss c k (if b then lost_keys db.rows (after_changes db wave).rows k.key (key_of k.key.columns r.values) else None)) given
    ∙ ap (effects_of_loss c k) (held_lost db wave k.key (key_of k.key.columns r.values) h d held)
    ∙ by_cascade c k k.key.on_delete cascades

-- ---- whom a row refers to

pub refers_to_holder : (db : Database) (wave : List Change) (fk : ForeignKey) (r : StoredRow) (held : Holder db wave fk (key_of fk.columns r.values))
    → is_cascade fk.on_delete ≡ true → cascades_by fk r held.row ≡ true
refers_to_holder db wave fk r held cascades =
    and_from (is_cascade fk.on_delete) ((held.row.table == fk.referenced) && holds_key fk.columns (key_of fk.key held.row.values) r.values) cascades
    (and_from (held.row.table == fk.referenced) (holds_key fk.columns (key_of fk.key held.row.values) r.values) held.of_table
    (held_swap (key_of fk.columns r.values) (key_of fk.key held.row.values) ∙ held.holds))

-- a row that refers by CASCADE to this row of the wave is deleted
pub follower_deleted : (db : Database) (wave : List Change) (c : Schema) (k : Reference) (r other : StoredRow) → Numbered db → Deletions wave
    → row_at db.rows other.number ≡ Some other → has_change wave other.number ≡ true → cascades_by k.key r other ≡ true
    → reference_effects db wave c r k ≡ DeleteRow ∷ []
follower_deleted db wave c k r other h d there inside e =
    let fk = k.key in
    let rest = and_second (is_cascade fk.on_delete) ((other.table == fk.referenced) && holds_key fk.columns (key_of fk.key other.values) r.values) e in
    let held = and_second (other.table == fk.referenced) (holds_key fk.columns (key_of fk.key other.values) r.values) rest in
    reference_cascades db wave c k r h d
    (and_first (is_cascade fk.on_delete) ((other.table == fk.referenced) && holds_key fk.columns (key_of fk.key other.values) r.values) e)
    (record {
      row = other;
      there = there;
      inside = inside;
      of_table = and_first (other.table == fk.referenced) (holds_key fk.columns (key_of fk.key other.values) r.values) rest;
      holds = held_swap (key_of fk.key other.values) (key_of fk.columns r.values) ∙ held;
    })
    (and_first (none_null (key_of fk.columns r.values)) (all_same (key_of fk.columns r.values) (key_of fk.key other.values)) held)
