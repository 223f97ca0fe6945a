-- A foreign key's part of a change.
use Rattle.std.proofs.Common.{◌≡◌, refl, ℕ, Bool, true, false, not, if◌then◌else◌, List, Option, Some, None, sym, ap, subst, ◌∙◌}
use Rattle.std.proofs.lemmas.Bool.{true≢false}
use Rattle.std.specs.Bool.{◌==◌}
use Rattle.std.specs.List.{slice_get}
use Rattle.iv_store_following.specs.Types.{Value, Rule, Change, Constraint, ForeignKey}
use Rattle.iv_store_following.specs.Types.rule
use Rattle.iv_store_following.specs.declared.reference.KeyReference.{KeyReference}
use Rattle.iv_value.specs.Values.{all_same}
use Rattle.iv_key.specs.Keys.{key_of, none_null}
use Rattle.iv_laws_levels.proofs.RowNumbers.{some_none, some_same}
use Rattle.iv_laws_levels.proofs.Keys.{false_true, all_same_is, all_same_swap}
use Rattle.iv_laws_kept.specs.Kept.{null_key, null_key_where, is_free, kept_key, Group, Groups, groups_of, rows_in, rows_under, is_empty, is_referenced, AllNamed}
use Rattle.iv_laws_kept.specs.Moves.{Follow}
use Rattle.iv_laws_kept.specs.GroupFlags.{referenced_side}
use Rattle.iv_laws_kept.proofs.Naming.{Named, named_of}
use Rattle.iv_laws_kept.proofs.RowByRow.{not_empty}
use Rattle.iv_store_following.specs.KeyGroups.{Flagged}
use Rattle.iv_store_following.specs.BorrowedChange.{IsPresent, is_key, is_one_key, referenced_key, side_key}
use Rattle.iv_store_groups.specs.Groups.{GroupOf}
use Rattle.iv_store_violating.specs.Shown.{shown_of}
use Rattle.iv_store_following.specs.Steps.{RowMoved}
use Rattle.iv_store_following.specs.References.{ChildIsFlagged, IsReference, KeysAreReferred, ReferenceMoved, TellsOld}
use Rattle.iv_store_following.proofs.Referenced.{row_is_referenced, new_is_referenced, half_way, half_way_is, half_way_at, from_half_way, key_parts, named_side}
use Rattle.iv_store_following.proofs.SideKeys.{none_referenced, other_referenced}

-- a key without nulls that a foreign key keeps a side under is that of its columns
pub side_parts : (c : Constraint) (fk : ForeignKey) (table : ℕ) (side : Option (List Value)) (key : List Value) → c.rule ≡ rule.ForeignKey fk → side_key c table side ≡ Some key → none_null key ≡ true
    → (values : List Value) × (side ≡ Some values) × (key ≡ key_of fk.columns values)
side_parts c fk table None key is e given = absurd (some_none key (sym e))
side_parts c fk table (Some values) key is e given =
    elim (table == c.table) as (λ b. (if b then kept_key c.rule values else None) ≡ Some key → (other : List Value) × (Some values ≡ Some other) × (key ≡ key_of fk.columns other)) [
      | true ↦ λ h. (values, refl, by_nulls (ap (λ k. kept_key k values) (sym is) ∙ h))
      | false ↦ λ h. absurd (some_none key (sym h))
    ] e
  where
    not_null_key : (b : Bool) → null_key_where b ≡ Some key → ⊥
    not_null_key true h = true≢false (sym given ∙ ap none_null (sym (some_same null_key key h)))
    not_null_key false h = some_none key (sym h)

    by_nulls : kept_key (rule.ForeignKey fk) values ≡ Some key → key ≡ key_of fk.columns values
    by_nulls h =
        elim (none_null (key_of fk.columns values)) as (λ b. (if b then Some (key_of fk.columns values) else null_key_where (not (is_free fk.matching (key_of fk.columns values)))) ≡ Some key → key ≡ key_of fk.columns values) [
          | true ↦ λ q. sym (some_same (key_of fk.columns values) key q)
          | false ↦ λ q. absurd (not_null_key (not (is_free fk.matching (key_of fk.columns values))) q)
        ] h

-- another key than that of a side isn't what the side has as a referenced key
not_side : (fk : ForeignKey) (change : Change) (side : Option (List Value)) (other : List Value) → none_null other ≡ true → is_key (referenced_key fk change.table side) other ≡ false
    → referenced_side fk other change side ≡ false
not_side fk change side other given = by_key (referenced_key fk change.table side) refl
  where
    by_key : (o : Option (List Value)) → referenced_key fk change.table side ≡ o → is_key o other ≡ false → referenced_side fk other change side ≡ false
    by_key None e differs = none_referenced fk change side other e given
    by_key (Some key) e differs = other_referenced fk change side key other e (all_same_swap other key ∙ differs)

module _ (r : KeyReference) (change : Change) (constraints : List Constraint) (id : ℕ) (c : Constraint) (groups after : Groups)
    (all : AllNamed constraints) (at : slice_get constraints id ≡ Some c) (is : IsReference constraints c r) (follow : Follow constraints change groups after) where
  named_key_of : Named constraints r.key
  named_key_of = named_of constraints id c r.key all at is.rule_is

  abbrev before : List Value → Bool
  before = is_referenced constraints groups r.key

  abbrev later : List Value → Bool
  later = is_referenced constraints after r.key

  abbrev half : List Value → Bool
  half = half_way before later r.key change

  key_is : named_key_of.key ≡ record { id = r.named; columns = r.named_columns }
  key_is = some_same named_key_of.key (record { id = r.named; columns = r.named_columns }) (sym named_key_of.found ∙ is.named)

  -- the key of the old side, as its look-up told
  pub old_told : (parents : List Group) (told : Bool) → groups_of after r.named ≡ parents → TellsOld r change parents told
      → (key : List Value) → referenced_key r.key change.table change.old ≡ Some key → half key ≡ told
  old_told parents told there tells key e =
      let parts = key_parts r.key change.table change.old key e in
      half_way_at before later r.key change key e ∙ ap later parts.4 ∙ row_is_referenced constraints r.key named_key_of after parts.0
      ∙ (λ i. not (is_empty (rows_in (groups_of after ((key_is i).id)) (key_of ((key_is i).columns) parts.0))))
      ∙ (λ i. not (is_empty (rows_in (there i) (key_of r.named_columns parts.0))))
      ∙ sym (tells parts.0 parts.1 parts.2)

  pub half_stays : (other : List Value) → none_null other ≡ true → is_key (referenced_key r.key change.table change.old) other ≡ false → half other ≡ before other
  half_stays other given differs = half_way_is before later r.key change other (not_side r.key change change.old other given differs)

  -- the key of the new side is there after the change
  pub new_told : (key : List Value) → referenced_key r.key change.table change.new ≡ Some key → later key ≡ true
  new_told key e =
      let parts = key_parts r.key change.table change.new key e in
      ap later parts.4 ∙ new_is_referenced constraints r.key named_key_of change groups after parts.0 follow parts.1 parts.2 parts.3

  pub later_stays : (other : List Value) → none_null other ≡ true → is_key (referenced_key r.key change.table change.new) other ≡ false → later other ≡ half other
  later_stays other given differs = from_half_way constraints change groups after r.key other named_key_of follow given (not_side r.key change change.new other given differs)

  -- if both sides have one key, each key is referenced as before
  pub one_stays : IsPresent constraints groups change → is_one_key (referenced_key r.key change.table change.old) (referenced_key r.key change.table change.new) ≡ true
      → (other : List Value) → none_null other ≡ true → later other ≡ before other
  one_stays present one other given = by_keys (referenced_key r.key change.table change.old) (referenced_key r.key change.table change.new) refl refl one
    where
      old_there : (key : List Value) → referenced_key r.key change.table change.old ≡ Some key → before key ≡ true
      old_there key e =
          let parts = key_parts r.key change.table change.old key e in
          ap before parts.4 ∙ row_is_referenced constraints r.key named_key_of groups parts.0
          ∙ ap not (not_empty change.row (rows_under groups named_key_of.key.id (key_of named_key_of.key.columns parts.0))
          (present named_key_of.key.id named_key_of.constraint (key_of named_key_of.key.columns parts.0) named_key_of.at
          (ap (side_key named_key_of.constraint change.table) parts.1 ∙ named_side constraints r.key named_key_of change.table parts.0 parts.2 parts.3)))

      still : is_key (referenced_key r.key change.table change.old) other ≡ false → is_key (referenced_key r.key change.table change.new) other ≡ false → later other ≡ before other
      still a b = later_stays other given b ∙ half_stays other given a

      by_keys : (o p : Option (List Value)) → referenced_key r.key change.table change.old ≡ o → referenced_key r.key change.table change.new ≡ p → is_one_key o p ≡ true → later other ≡ before other
      by_keys None None e f q = still (ap (λ k. is_key k other) e) (ap (λ k. is_key k other) f)
      by_keys None (Some b) e f q = absurd (false_true q)
      by_keys (Some a) None e f q = absurd (false_true q)
      by_keys (Some a) (Some b) e f q = by_test (all_same a other) refl
        where
          b_too : all_same b other ≡ all_same a other
          b_too = ap (λ k. all_same k other) (sym (all_same_is a b q))

          by_test : (t : Bool) → all_same a other ≡ t → later other ≡ before other
          by_test true g =
              ap later (sym (all_same_is b other (b_too ∙ g))) ∙ new_told b f ∙ sym (ap before (sym (all_same_is a other g)) ∙ old_there a e)
          by_test false g = still (ap (λ k. is_key k other) e ∙ g) (ap (λ k. is_key k other) f ∙ b_too ∙ g)

-- ---- the groups in code

-- flags of groups that are the same
pub flagged_like : (referenced : List Value → Bool) (k : Rule) (gs new : List (List GroupOf)) (id : ℕ) (violating : List Bool) → new ≡ gs → Flagged referenced k (shown_of gs id) violating → Flagged referenced k (shown_of new id) violating
flagged_like referenced k gs new id violating e right = subst (λ g. Flagged referenced k (shown_of g id) violating) (sym e) right

-- the keys of both sides, and then the row
pub both_moved : (r : KeyReference) (change : Change) (c : Constraint) (gs mid new : List (List GroupOf)) (id : ℕ) (violating between later : List Bool) → mid ≡ gs
    → KeysAreReferred r change (shown_of gs r.named) c (shown_of gs id) violating between → RowMoved change c (shown_of mid id) (shown_of new id)
    → ChildIsFlagged r change (shown_of mid r.named) c (shown_of mid id) between (shown_of new id) later
    → ReferenceMoved r change (shown_of gs r.named) c (shown_of gs id) violating (shown_of new id) later
both_moved r change c gs mid new id violating between later e referred moved child = record {
  rows = subst (λ g. RowMoved change c (shown_of g id) (shown_of new id)) e moved;
  flagged = λ constraints place groups after all at is there present follow right.
      subst (λ g. ChildIsFlagged r change (shown_of g r.named) c (shown_of g id) between (shown_of new id) later) e child
      constraints place after all at is there (referred constraints place groups after all at is there present follow right);
}
