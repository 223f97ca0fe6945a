-- Constraints that are taken up.
use Rattle.std.specs.Prelude.{◌≡◌, ℕ, Bool, true, false, ◌||◌, ◌==◌, List, [], ◌∷◌, ◌++◌, get_or, Option, Some, None}
use Rattle.iv_store_faults.specs.Types.{Rule, Constraint, ForeignKey}
use Rattle.iv_store_faults.specs.Types.rule
use Rattle.iv_laws_kept.specs.Kept.{KeyConstraint, named_key}
use Rattle.iv_store_faults.specs.declared.table_constraints.TableConstraints.{TableConstraints}
use Rattle.iv_store_faults.specs.declared.naming.NamedKey.{NamedKey}
use Rattle.iv_store_faults.specs.declared.naming.ReferenceParts.{ReferenceParts}
use Rattle.iv_store_following.specs.declared.reference.KeyReference.{KeyReference}
use Rattle.iv_store_following.specs.Following.{AreMet}
use Rattle.iv_store_following.specs.References.{paired_with}

-- ---- the constraints of each table

-- a table of no constraint
abbrev pub no_numbers : TableConstraints
no_numbers = record { keys = []; foreign_keys = [] }

-- the numbers for this table
abbrev pub numbers_at : List TableConstraints → ℕ → TableConstraints
numbers_at tables table = get_or tables table no_numbers

abbrev pub keys_of : List TableConstraints → ℕ → List ℕ
keys_of tables table = (numbers_at tables table).keys

abbrev pub foreign_keys_of : List TableConstraints → ℕ → List ℕ
foreign_keys_of tables table = (numbers_at tables table).foreign_keys

-- For each table, the numbers are those of the constraints that its rows meet. A table that has no place in the list meets none.
abbrev pub AreTabled : List Constraint → List TableConstraints → Type 0
AreTabled constraints tables = (t : ℕ) → AreMet constraints t (keys_of tables t) (foreign_keys_of tables t)

-- with the number of a constraint more, if it is on the table and is no foreign key
abbrev pub with_key : Bool → ℕ → TableConstraints → TableConstraints
with_key true id x = record { keys = x.keys ++ id ∷ []; foreign_keys = x.foreign_keys }
with_key false id x = x

-- with the number of a foreign key more, if it is on the table or refers to it
abbrev pub with_reference : Bool → ℕ → TableConstraints → TableConstraints
with_reference true id x = record { keys = x.keys; foreign_keys = x.foreign_keys ++ id ∷ [] }
with_reference false id x = x

-- the numbers for a table, with that of a constraint more, by its rule and its own table
abbrev pub with_constraint : Rule → ℕ → ℕ → ℕ → TableConstraints → TableConstraints
with_constraint (rule.ForeignKey fk) own id table x = with_reference ((table == own) || (table == fk.referenced)) id x
with_constraint _ own id table x = with_key (table == own) id x

-- ---- references

abbrev pub as_key : NamedKey → KeyConstraint
as_key k = record { id = k.id; columns = k.columns }

-- the reference of a foreign key to a key that it names
abbrev pub reference_to : ForeignKey → KeyConstraint → KeyReference
reference_to fk k = record {
  key = fk;
  named = k.id;
  named_columns = k.columns;
  columns = paired_with fk k.columns;
  back = paired_with fk fk.key;
}

abbrev pub as_reference : ReferenceParts → KeyReference
as_reference r = record { key = r.key; named = r.named; named_columns = r.named_columns; columns = r.columns; back = r.back }

-- A reference is that of a foreign key, to the key that it names among the constraints.
pub record IsReferenceTo (constraints : List Constraint) (fk : ForeignKey) (r : KeyReference) : Type 0 where
  pub key : KeyConstraint
  pub found : named_key constraints fk ≡ Some key
  pub is : r ≡ reference_to fk key

-- a foreign key finds the key that it names
abbrev pub FindsKey : List Constraint → Rule → Type 0
FindsKey constraints k = (fk : ForeignKey) → k ≡ rule.ForeignKey fk → (key : KeyConstraint) × (named_key constraints fk ≡ Some key)

-- There is a reference if the rule is a foreign key, and it is that one's.
abbrev pub IsReferenceOf : List Constraint → Rule → Option KeyReference → Type 0
IsReferenceOf constraints (rule.ForeignKey fk) (Some r) = IsReferenceTo constraints fk r
IsReferenceOf constraints (rule.ForeignKey fk) None = ⊥
IsReferenceOf constraints _ (Some r) = ⊥
IsReferenceOf constraints _ None = Unit {0}

-- the references of some of the constraints, one after the other
abbrev pub AreReferencesOf : List Constraint → List Constraint → List (Option KeyReference) → Type 0
AreReferencesOf constraints [] [] = Unit {0}
AreReferencesOf constraints (c ∷ cs) (r ∷ rs) = IsReferenceOf constraints c.rule r × AreReferencesOf constraints cs rs
AreReferencesOf constraints [] (r ∷ rs) = ⊥
AreReferencesOf constraints (c ∷ cs) [] = ⊥
