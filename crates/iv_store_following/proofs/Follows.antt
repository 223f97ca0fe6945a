-- A change of a row, followed by all constraints.
use Rattle.std.proofs.Common.{◌≡◌, refl, ℕ, zero, suc, ◌<◌, Bool, true, false, ◌&&◌, ◌||◌, not, List, [], ◌∷◌, length, map, slice_get, Option, Some, None, sym, ap, subst, ◌∙◌, arith}
use Rattle.std.proofs.Math.Bool.{and-false}
use Rattle.std.proofs.lemmas.Bool.{true≢false}
use Rattle.std.specs.Bool.{◌==◌}
use Rattle.iv_store_following.specs.Types.{Value, Rule, Change, Constraint, ForeignKey}
use Rattle.iv_store_following.specs.Types.rule
use Rattle.iv_store_following.specs.declared.reference.KeyReference.{KeyReference}
use Rattle.iv_store.specs.Stores.{unique_columns}
use Rattle.iv_laws_levels.proofs.RowNumbers.{some_none, some_same}
use Rattle.iv_laws_levels.proofs.Keys.{false_true}
use Rattle.iv_store_groups.specs.Groups.{GroupOf, Contents, groups_of}
use Rattle.iv_store_violating.specs.Shown.{shown, shown_group, shown_of}
use Rattle.iv_store_violating.proofs.Shown.{groups_shown}
use Rattle.iv_laws_kept.specs.Kept.{kept_key, Group, rows_in, is_referenced, AllNamed}
use Rattle.iv_key.specs.Keys.{key_of}
use Rattle.iv_value.specs.Values.{all_same}
use Rattle.iv_laws_kept.specs.GroupFlags.{GroupFlags, violating_of, referenced_side}
use Rattle.iv_laws_kept.specs.Moves.{moved, side_under, rows_moved, Follow}
use Rattle.iv_laws_kept.specs.Numbers.{has}
use Rattle.iv_laws_kept.proofs.Naming.{Named, named_of}
use Rattle.iv_laws_kept.proofs.OtherKeys.{still_referenced}
use Rattle.iv_store_following.specs.KeyGroups.{Flagged}
use Rattle.iv_store_following.specs.BorrowedChange.{IsPresent}
use Rattle.iv_store_following.specs.Steps.{IsReady, IsWatched, RowMoved, is_reference}
use Rattle.iv_store_following.specs.References.{AreReferences, IsReference, reference_at}
use Rattle.iv_store_following.specs.Turns.{KeyTurn, ReferenceTurn, Turned}
use Rattle.iv_store_following.specs.Following.{AreMet, Followed, meets}
use Rattle.iv_store_following.proofs.Steps.{violating_stay}
use Rattle.iv_store_following.proofs.Whole.{parts_make_the_whole}

-- ---- constraints that the change doesn't concern

-- a constraint on another table keeps its rows
idle : (c : Constraint) (change : Change) (groups : List Group) → (change.table == c.table) ≡ false → RowMoved change c groups groups
idle c change groups other key = λ i. moved (sym (no_side change.old) i) (sym (no_side change.new) i) change.row (rows_in groups key)
  where
    no_side : (side : Option (List Value)) → side_under c key change side ≡ false
    no_side None = refl
    no_side (Some values) = ap (λ b. b && elim (kept_key c.rule values) [ Some k ↦ all_same k key | None ↦ false ]) other

-- a foreign key that refers to another table finds the same keys
other_table : (fk : ForeignKey) (change : Change) (key : List Value) (side : Option (List Value)) → (change.table == fk.referenced) ≡ false → referenced_side fk key change side ≡ false
other_table fk change key None e = refl
other_table fk change key (Some values) e = ap (λ b. b && all_same (key_of fk.key values) key) e

reference_rule : (k : Rule) (fk : ForeignKey) → k ≡ rule.ForeignKey fk → is_reference k ≡ true
reference_rule k fk e = ap is_reference e

not_unique : (k : Rule) (columns : List ℕ) → unique_columns k ≡ Some columns → is_reference k ≡ false
not_unique (rule.NotNull column) columns e = refl
not_unique (rule.Check condition) columns e = refl
not_unique (rule.Unique nulls own) columns e = refl
not_unique (rule.PrimaryKey own) columns e = refl
not_unique (rule.ForeignKey fk) columns e = absurd (some_none columns (sym e))

no_meeting : (k : Rule) (own table : ℕ) → is_reference k ≡ false → meets k own table ≡ false
no_meeting (rule.NotNull column) own table e = refl
no_meeting (rule.Check condition) own table e = refl
no_meeting (rule.Unique nulls columns) own table e = refl
no_meeting (rule.PrimaryKey columns) own table e = refl
no_meeting (rule.ForeignKey fk) own table e = absurd (true≢false e)

-- the foreign key of a rule that is one
fk_of : (k : Rule) → is_reference k ≡ true → (fk : ForeignKey) × (k ≡ rule.ForeignKey fk)
fk_of (rule.NotNull column) e = absurd (false_true e)
fk_of (rule.Check condition) e = absurd (false_true e)
fk_of (rule.Unique nulls columns) e = absurd (false_true e)
fk_of (rule.PrimaryKey columns) e = absurd (false_true e)
fk_of (rule.ForeignKey fk) e = (fk, refl)

same_foreign_key : (a b : ForeignKey) → rule.ForeignKey a ≡ rule.ForeignKey b → a ≡ b
same_foreign_key a b e = ap (λ k. elim k [ rule.ForeignKey fk ↦ fk | _ ↦ a ]) e

first_of : (a b : Bool) → (a || b) ≡ false → a ≡ false
first_of true b e = absurd (true≢false e)
first_of false b e = refl

second_of : (a b : Bool) → (a || b) ≡ false → b ≡ false
second_of true b e = absurd (true≢false e)
second_of false b e = e

-- a foreign key that isn't met is on another table
not_met : (k : Rule) (own table : ℕ) → is_reference k ≡ true → meets k own table ≡ false → (table == own) ≡ false
not_met (rule.NotNull column) own table e h = absurd (false_true e)
not_met (rule.Check condition) own table e h = absurd (false_true e)
not_met (rule.Unique nulls columns) own table e h = absurd (false_true e)
not_met (rule.PrimaryKey columns) own table e h = absurd (false_true e)
not_met (rule.ForeignKey fk) own table e h = first_of (table == own) (table == fk.referenced) h

-- ---- which constraints are met

module _ (constraints : List Constraint) (table : ℕ) (keys foreign_keys : List ℕ) (met : AreMet constraints table keys foreign_keys) (k : ℕ) (c : Constraint) (at : slice_get constraints k ≡ Some c) where
  key_is : has k keys ≡ ((table == c.table) && not (is_reference c.rule))
  key_is = met.keys_are k ∙ ap (λ o. elim o [ Some c ↦ (table == c.table) && not (is_reference c.rule) | None ↦ false ]) at

  foreign_key_is : has k foreign_keys ≡ meets c.rule c.table table
  foreign_key_is = met.foreign_keys_are k ∙ ap (λ o. elim o [ Some c ↦ meets c.rule c.table table | None ↦ false ]) at

  pub no_key : is_reference c.rule ≡ true → has k keys ≡ false
  no_key e = key_is ∙ ap (λ b. (table == c.table) && not b) e ∙ and-false (table == c.table)

  pub no_foreign_key : is_reference c.rule ≡ false → has k foreign_keys ≡ false
  no_foreign_key e = foreign_key_is ∙ no_meeting c.rule c.table table e

-- a constraint on the table is among the one or the other
pub met_either : (constraints : List Constraint) (table : ℕ) (keys foreign_keys : List ℕ) → AreMet constraints table keys foreign_keys → (k : ℕ) (c : Constraint) → slice_get constraints k ≡ Some c
    → (table == c.table) ≡ true → has k keys ≡ false → has k foreign_keys ≡ true
met_either constraints table keys foreign_keys met k c at t missing =
    foreign_key_is constraints table keys foreign_keys met k c at
    ∙ on_table c.rule (sym (sym missing ∙ key_is constraints table keys foreign_keys met k c at ∙ ap (λ b. b && not (is_reference c.rule)) t))
  where
    on_table : (k : Rule) → not (is_reference k) ≡ false → meets k c.table table ≡ true
    on_table (rule.NotNull column) e = absurd (true≢false e)
    on_table (rule.Check condition) e = absurd (true≢false e)
    on_table (rule.Unique nulls columns) e = absurd (true≢false e)
    on_table (rule.PrimaryKey columns) e = absurd (true≢false e)
    on_table (rule.ForeignKey fk) e = ap (λ b. b || (table == fk.referenced)) t

-- the key that a reference names is no foreign key, and is there
pub named_there : (constraints : List Constraint) (c : Constraint) (r : KeyReference) (id : ℕ) → AllNamed constraints → slice_get constraints id ≡ Some c → IsReference constraints c r
    → (d : Constraint) × (slice_get constraints r.named ≡ Some d) × (is_reference d.rule ≡ false)
named_there constraints c r id all at is =
    let n : Named constraints r.key = named_of constraints id c r.key all at is.rule_is in
    let same : n.key.id ≡ r.named = ap (λ k. k.id) (some_same n.key (record { id = r.named; columns = r.named_columns }) (sym n.found ∙ is.named)) in
    (n.constraint, ap (slice_get constraints) (sym same) ∙ n.at, not_unique n.constraint.rule n.key.columns n.columns)

-- a number that is met is that of a constraint
pub met_within : (constraints : List Constraint) (k : ℕ) (p : Constraint → Bool) → elim (slice_get constraints k) [ Some c ↦ p c | None ↦ false ] ≡ true → k < length constraints
met_within constraints k p e = within constraints k (slice_get constraints k) refl e
  where
    there : (cs : List Constraint) (n : ℕ) (c : Constraint) → slice_get cs n ≡ Some c → n < length cs
    there [] n c h = absurd (some_none c (sym h))
    there (x ∷ cs) zero c h = omega arith
    there (x ∷ cs) (suc n) c h = omega (arith, there cs n c h)

    within : (cs : List Constraint) (n : ℕ) (o : Option Constraint) → slice_get cs n ≡ o → elim o [ Some c ↦ p c | None ↦ false ] ≡ true → n < length cs
    within cs n None h f = absurd (false_true f)
    within cs n (Some c) h f = there cs n c h

-- what the parts of foreign keys ask of the keys that they name
pub named_apart : (constraints : List Constraint) (references : List (Option KeyReference)) (table : ℕ) (keys foreign_keys : List ℕ) (groups : List (List GroupOf)) (violating : GroupFlags)
    → AreMet constraints table keys foreign_keys → AreReferences constraints references → AllNamed constraints → ((k : ℕ) → k < length constraints → IsWatched k groups violating)
    → (k : ℕ) (r : KeyReference) → reference_at references k ≡ Some r → (r.named < length groups) × (has r.named foreign_keys ≡ false)
named_apart constraints references table keys foreign_keys groups violating met are all watched k r e =
    let told = are.are k r e in
    let named = named_there constraints told.0 r k all told.1 told.2 in (
      (watched r.named (met_within constraints r.named (λ _. true) (ap (λ o. elim o [ Some c ↦ true | None ↦ false ]) named.1))).in_groups,
      no_foreign_key constraints table keys foreign_keys met r.named named.0 named.1 named.2,
    )

-- the changed row is where each constraint keeps its old side
pub is_present : (constraints : List Constraint) (change : Change) (groups : List (List GroupOf))
    → ((k : ℕ) (c : Constraint) → slice_get constraints k ≡ Some c → IsReady change c (groups_of groups k)) → IsPresent constraints (shown groups) change
is_present constraints change groups ready id c key at e =
    ap (λ g. has change.row (rows_in g key)) (groups_shown groups id) ∙ (ready id c at).present key e

-- ---- from the parts to the whole

module _ (constraints : List Constraint) (references : List (Option KeyReference)) (change : Change) (keys foreign_keys : List ℕ)
    (met : AreMet constraints change.table keys foreign_keys) (are : AreReferences constraints references) (all : AllNamed constraints)
    (start mid now : Contents) (violating between later : GroupFlags)
    (present : IsPresent constraints (shown start.groups) change)
    (first : Turned (KeyTurn constraints change) 2 keys [] start mid violating between)
    (second : Turned (ReferenceTurn constraints references change mid.groups) 6 foreign_keys [] mid now between later) where
  -- the rows of a constraint
  rows_at : (k : ℕ) (c : Constraint) → slice_get constraints k ≡ Some c → RowMoved change c (shown_of start.groups k) (shown_of now.groups k)
  rows_at k c at = by_kind (is_reference c.rule) refl
    where
      key_part : is_reference c.rule ≡ false → (b : Bool) → (change.table == c.table) ≡ b → RowMoved change c (shown_of start.groups k) (shown_of now.groups k)
      key_part e true t =
          let here : has k keys ≡ true = key_is constraints change.table keys foreign_keys met k c at ∙ (λ i. t i && not (e i)) in
          subst (λ g. RowMoved change c (shown_of start.groups k) (map shown_group g)) (sym (second.others k (no_foreign_key constraints change.table keys foreign_keys met k c at e)).0)
          (first.done k here refl c at e).rows
      key_part e false t =
          let none : has k keys ≡ false = key_is constraints change.table keys foreign_keys met k c at ∙ ap (λ b. b && not (is_reference c.rule)) t in
          subst (λ g. RowMoved change c (shown_of start.groups k) (map shown_group g))
          (sym ((second.others k (no_foreign_key constraints change.table keys foreign_keys met k c at e)).0 ∙ (first.others k none).0)) (idle c change (shown_of start.groups k) t)

      reference_part : is_reference c.rule ≡ true → (b : Bool) → has k foreign_keys ≡ b → RowMoved change c (shown_of start.groups k) (shown_of now.groups k)
      reference_part e true h =
          let fk = fk_of c.rule e in
          let r = are.all k c fk.0 at fk.1 in
          subst (λ g. RowMoved change c (map shown_group g) (shown_of now.groups k)) (first.others k (no_key constraints change.table keys foreign_keys met k c at e)).0
          (second.done k h refl c r.0 at r.1).rows
      reference_part e false h =
          subst (λ g. RowMoved change c (shown_of start.groups k) (map shown_group g))
          (sym ((second.others k h).0 ∙ (first.others k (no_key constraints change.table keys foreign_keys met k c at e)).0))
          (idle c change (shown_of start.groups k) (not_met c.rule c.table change.table e (sym (foreign_key_is constraints change.table keys foreign_keys met k c at) ∙ h)))

      by_kind : (b : Bool) → is_reference c.rule ≡ b → RowMoved change c (shown_of start.groups k) (shown_of now.groups k)
      by_kind false e = key_part e (change.table == c.table) refl
      by_kind true e = reference_part e (has k foreign_keys) refl

  follow : Follow constraints change (shown start.groups) (shown now.groups)
  follow id c key at =
      ap (λ g. rows_in g key) (groups_shown now.groups id) ∙ rows_at id c at key ∙ ap (λ g. rows_moved c key change (rows_in g key)) (sym (groups_shown start.groups id))

  -- the flags of a constraint that is no foreign key
  key_violating : (id : ℕ) (c : Constraint) (referenced : List Value → Bool) → slice_get constraints id ≡ Some c → is_reference c.rule ≡ false
      → Flagged referenced c.rule (shown_of start.groups id) (violating_of violating id) → Flagged referenced c.rule (shown_of now.groups id) (violating_of later id)
  key_violating id c referenced at e right = by_place (has id keys) refl
    where
      after : (groups_of now.groups id ≡ groups_of mid.groups id) × (violating_of later id ≡ violating_of between id)
      after = second.others id (no_foreign_key constraints change.table keys foreign_keys met id c at e)

      at_end : Flagged referenced c.rule (shown_of mid.groups id) (violating_of between id) → Flagged referenced c.rule (shown_of now.groups id) (violating_of later id)
      at_end h =
          subst (λ g. Flagged referenced c.rule (map shown_group g) (violating_of later id)) (sym after.0)
          (subst (λ m. Flagged referenced c.rule (shown_of mid.groups id) m) (sym after.1) h)

      by_place : (b : Bool) → has id keys ≡ b → Flagged referenced c.rule (shown_of now.groups id) (violating_of later id)
      by_place true h = at_end ((first.done id h refl c at e).flagged referenced right)
      by_place false h =
          let same = first.others id h in
          at_end (subst (λ g. Flagged referenced c.rule (map shown_group g) (violating_of between id)) (sym same.0)
          (subst (λ m. Flagged referenced c.rule (shown_of start.groups id) m) (sym same.1) right))

  -- the flags of a foreign key
  reference_violating : (id : ℕ) (c : Constraint) (fk : ForeignKey) → slice_get constraints id ≡ Some c → c.rule ≡ rule.ForeignKey fk
      → Flagged (is_referenced constraints (shown start.groups) fk) c.rule (shown_of start.groups id) (violating_of violating id)
      → Flagged (is_referenced constraints (shown now.groups) fk) c.rule (shown_of now.groups id) (violating_of later id)
  reference_violating id c fk at is right = by_place (has id foreign_keys) refl
    where
      e : is_reference c.rule ≡ true
      e = reference_rule c.rule fk is

      before : (groups_of mid.groups id ≡ groups_of start.groups id) × (violating_of between id ≡ violating_of violating id)
      before = first.others id (no_key constraints change.table keys foreign_keys met id c at e)

      by_place : (b : Bool) → has id foreign_keys ≡ b → Flagged (is_referenced constraints (shown now.groups) fk) c.rule (shown_of now.groups id) (violating_of later id)
      by_place true h =
          let found = are.all id c fk at is in
          let r = found.0 in
          let told = are.are id r found.1 in
          let own : told.0 ≡ c = some_same told.0 c (sym told.1 ∙ at) in
          let ref : IsReference constraints c r = subst (λ d. IsReference constraints d r) own told.2 in
          let named = named_there constraints c r id all at ref in
          let fk_is : r.key ≡ fk = same_foreign_key r.key fk (sym ref.rule_is ∙ is) in
          let stays = (second.others r.named (no_foreign_key constraints change.table keys foreign_keys met r.named named.0 named.1 named.2)).0 in
          subst (λ x. Flagged (is_referenced constraints (shown now.groups) x) c.rule (shown_of now.groups id) (violating_of later id)) fk_is
          ((second.done id h refl c r at found.1).flagged constraints id (shown start.groups) (shown now.groups) all at ref
          (groups_shown now.groups r.named ∙ ap (map shown_group) stays) present follow
          (subst (λ g. Flagged (is_referenced constraints (shown start.groups) r.key) c.rule (map shown_group g) (violating_of between id)) (sym before.0)
          (subst (λ m. Flagged (is_referenced constraints (shown start.groups) r.key) c.rule (shown_of start.groups id) m) (sym before.1)
          (subst (λ x. Flagged (is_referenced constraints (shown start.groups) x) c.rule (shown_of start.groups id) (violating_of violating id)) (sym fk_is) right))))
      by_place false h =
          let same = second.others id h in
          let apart = not_met_fk (sym (foreign_key_is constraints change.table keys foreign_keys met id c at) ∙ h) in
          violating_stay (is_referenced constraints (shown start.groups) fk) (is_referenced constraints (shown now.groups) fk) c.rule (shown_of start.groups id) (shown_of now.groups id) (violating_of later id)
          (ap (map shown_group) (same.0 ∙ before.0))
          (λ other given. still_referenced constraints change (shown start.groups) (shown now.groups) fk other (named_of constraints id c fk all at is) follow given
          (other_table fk change other change.old apart) (other_table fk change other change.new apart))
          (subst (λ m. Flagged (is_referenced constraints (shown start.groups) fk) c.rule (shown_of start.groups id) m) (sym (same.1 ∙ before.1)) right)
        where
          not_met_fk : meets c.rule c.table change.table ≡ false → (change.table == fk.referenced) ≡ false
          not_met_fk h = second_of (change.table == c.table) (change.table == fk.referenced) (ap (λ k. meets k c.table change.table) (sym is) ∙ h)

  pub whole : Followed constraints change 6 start now violating later
  whole = record {
    count = second.count ∙ first.count;
    violating_count = second.violating_count ∙ first.violating_count;
    follow = follow;
    flagged =
        parts_make_the_whole constraints (shown start.groups) (shown now.groups) violating later
        (λ id c referenced at e right. subst (λ g. Flagged referenced c.rule g (violating_of later id)) (sym (groups_shown now.groups id))
        (key_violating id c referenced at e (subst (λ g. Flagged referenced c.rule g (violating_of violating id)) (groups_shown start.groups id) right)))
        (λ id c fk at is right. subst (λ g. Flagged (is_referenced constraints (shown now.groups) fk) c.rule g (violating_of later id)) (sym (groups_shown now.groups id))
        (reference_violating id c fk at is (subst (λ g. Flagged (is_referenced constraints (shown start.groups) fk) c.rule g (violating_of violating id)) (groups_shown start.groups id) right)));
    watched = λ k w. second.watched k (first.watched k w);
    sizes = λ k key. omega (arith, first.sizes k key, second.sizes k key);
    grows = omega (arith, first.grows, second.grows);
    looked_up = omega (arith, first.looked_up, second.looked_up, met.few);
  }
