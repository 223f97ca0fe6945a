-- A foreign key's part of a change.
use Rattle.std.specs.Prelude.{◌≡◌, ℕ, Bool, true, if◌then◌else◌, ◌==◌, not, List, [], ◌∷◌, map, slice_get, Option, Some, None}
use Rattle.iv_key.specs.Keys.{key_of}
use Rattle.iv_store_following.specs.Types.{Value, Change, Constraint, ForeignKey}
use Rattle.iv_store_following.specs.Types.rule
use Rattle.iv_store_following.specs.declared.reference.KeyReference.{KeyReference}
use Rattle.iv_laws_kept.specs.Kept.{Group, Groups, groups_of, named_key, is_empty, is_referenced, rows_in, AllNamed}
use Rattle.iv_laws_kept.specs.Moves.{Follow}
use Rattle.iv_store_following.specs.BorrowedChange.{IsPresent}
use Rattle.iv_store_following.specs.KeyGroups.{Flagged}
use Rattle.iv_store_following.specs.Steps.{RowMoved}

-- the referencing column that is paired with a referenced one
abbrev pub paired : List ℕ → List ℕ → ℕ → ℕ
paired [] columns column = 0
paired (k ∷ key) [] column = 0
paired (k ∷ key) (c ∷ columns) column = if k == column then c else paired key columns column

-- the referencing columns that are paired with these
abbrev pub paired_with : ForeignKey → List ℕ → List ℕ
paired_with fk others = map (paired fk.key fk.columns) others

-- The reference of a foreign key tells which key it names, and the pairs of columns.
pub record IsReference (constraints : List Constraint) (c : Constraint) (r : KeyReference) : Type 0 where
  pub rule_is : c.rule ≡ rule.ForeignKey r.key
  pub named : named_key constraints r.key ≡ Some (record { id = r.named; columns = r.named_columns })
  pub columns : r.columns ≡ paired_with r.key r.named_columns
  pub back : r.back ≡ paired_with r.key r.key.key

-- the reference of a constraint, if it is a foreign key
abbrev pub reference_at : List (Option KeyReference) → ℕ → Option KeyReference
reference_at references place = elim (slice_get references place) [ Some r ↦ r | None ↦ None ]

-- The references are those of the constraints' foreign keys, each at its constraint's place.
pub record AreReferences (constraints : List Constraint) (references : List (Option KeyReference)) : Type 0 where
  pub are : (place : ℕ) (r : KeyReference) → reference_at references place ≡ Some r → (c : Constraint) × (slice_get constraints place ≡ Some c) × IsReference constraints c r
  pub all : (place : ℕ) (c : Constraint) (fk : ForeignKey) → slice_get constraints place ≡ Some c → c.rule ≡ rule.ForeignKey fk → (r : KeyReference) × (reference_at references place ≡ Some r)

-- Whether the key of a referencing row is referenced, by the groups of the named key: of all constraints that name that key.
abbrev pub TellsReferenced : KeyReference → List Value → List Group → Bool → Type 0
TellsReferenced r row parents referenced =
    (constraints : List Constraint) (id : ℕ) (c : Constraint) (groups : Groups)
    → AllNamed constraints → slice_get constraints id ≡ Some c → IsReference constraints c r → groups_of groups r.named ≡ parents
    → is_referenced constraints groups r.key (key_of r.key.columns row) ≡ referenced

-- Whether rows are kept under the key of the old side of a change, in the columns of the named key.
abbrev pub TellsOld : KeyReference → Change → List Group → Bool → Type 0
TellsOld r change parents referenced =
    (values : List Value) → change.old ≡ Some values → (change.table == r.key.referenced) ≡ true → referenced ≡ not (is_empty (rows_in parents (key_of r.named_columns values)))

-- Of all constraints and all groups that follow the change, those of the named key among them: if flags were right by the keys that were
-- referenced before, they are right by those that are referenced after.
abbrev pub KeysAreReferred : KeyReference → Change → List Group → Constraint → List Group → List Bool → List Bool → Type 0
KeysAreReferred r change parents c children violating later =
    (constraints : List Constraint) (id : ℕ) (groups after : Groups)
    → AllNamed constraints → slice_get constraints id ≡ Some c → IsReference constraints c r
    → groups_of after r.named ≡ parents → IsPresent constraints groups change → Follow constraints change groups after
    → Flagged (is_referenced constraints groups r.key) c.rule children violating
    → Flagged (is_referenced constraints after r.key) c.rule children later

-- Of the same constraints and groups: if flags are right by the keys that are referenced after the change, they stay so when the row has
-- moved.
abbrev pub ChildIsFlagged : KeyReference → Change → List Group → Constraint → List Group → List Bool → List Group → List Bool → Type 0
ChildIsFlagged r change parents c children violating new later =
    (constraints : List Constraint) (id : ℕ) (after : Groups)
    → AllNamed constraints → slice_get constraints id ≡ Some c → IsReference constraints c r → groups_of after r.named ≡ parents
    → Flagged (is_referenced constraints after r.key) c.rule children violating
    → Flagged (is_referenced constraints after r.key) c.rule new later

-- Both together.
abbrev pub ReferenceIsFlagged : KeyReference → Change → List Group → Constraint → List Group → List Bool → List Group → List Bool → Type 0
ReferenceIsFlagged r change parents c children violating new later =
    (constraints : List Constraint) (id : ℕ) (groups after : Groups)
    → AllNamed constraints → slice_get constraints id ≡ Some c → IsReference constraints c r
    → groups_of after r.named ≡ parents → IsPresent constraints groups change → Follow constraints change groups after
    → Flagged (is_referenced constraints groups r.key) c.rule children violating
    → Flagged (is_referenced constraints after r.key) c.rule new later

-- the row has moved in the groups of a foreign key, and the flags followed
pub record ReferenceMoved (r : KeyReference) (change : Change) (parents : List Group) (c : Constraint) (groups : List Group) (violating : List Bool) (after : List Group) (later : List Bool) : Type 0 where
  pub rows : RowMoved change c groups after
  pub flagged : ReferenceIsFlagged r change parents c groups violating after later
