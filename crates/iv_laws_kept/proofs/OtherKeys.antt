-- Keys that a change doesn't concern.
use Rattle.std.proofs.Common.{◌≡◌, refl, ℕ, Bool, true, false, ◌&&◌, ◌||◌, not, List, length, slice_get, Option, Some, None, sym, ap, ◌∙◌}
use Rattle.std.specs.Bool.{◌==◌, nat_lt}
use Rattle.std.proofs.lemmas.Bool.{true≢false, or_parts, not-false}
use Rattle.iv_laws_kept.specs.Types.{Value, StoredRow, Change, Constraint, Rule, ForeignKey}
use Rattle.iv_laws_kept.specs.Types.rule
use Rattle.iv_key.specs.Keys.{none_null}
use Rattle.iv_store.specs.Stores.{unique_columns}
use Rattle.iv_laws_kept.specs.Kept.{Groups, rows_under, AllNamed, is_kept_under, in_order_of, can_be_key, is_empty, is_free, is_referenced, violates_alone, break_rule, violate}
use Rattle.iv_laws_kept.specs.Moves.{side_under, moved, rows_moved, Follow}
use Rattle.iv_laws_kept.specs.GroupFlags.{referenced_side, is_referenced_by, concerns_key}
use Rattle.iv_laws_levels.proofs.Keys.{and_first, and_second}
use Rattle.iv_laws_kept.proofs.Naming.{Named, named_of}
use Rattle.iv_laws_kept.proofs.RowByRow.{same_key, names_columns}

-- rows under a key that neither side is kept under
same_rows_under : (c : Constraint) (key : List Value) (change : Change) (numbers : List ℕ)
    → side_under c key change change.old ≡ false → side_under c key change change.new ≡ false → rows_moved c key change numbers ≡ numbers
same_rows_under c key change numbers old new = λ i. moved (old i) (new i) change.row numbers

-- if a side isn't what the key refers to, the named key keeps it under another key
not_kept_there : (fk : ForeignKey) (constraints : List Constraint) (named : Named constraints fk) (key : List Value) (change : Change) (side : Option (List Value))
    → none_null key ≡ true → can_be_key fk.key key ≡ true → referenced_side fk key change side ≡ false
    → side_under named.constraint (in_order_of named.key.columns fk.key key) change side ≡ false
not_kept_there fk constraints named key change None given can e = refl
not_kept_there fk constraints named key change (Some values) given can e =
    ap (λ b. b && is_kept_under named.constraint (in_order_of named.key.columns fk.key key) row) (sym can)
    ∙ sym (same_key fk named.key.columns named.constraint key row named.columns
    (and_first (named.constraint.table == fk.referenced) (names_columns fk (unique_columns named.constraint.rule)) named.named)
    (ap (names_columns fk) (sym named.columns) ∙ and_second (named.constraint.table == fk.referenced) (names_columns fk (unique_columns named.constraint.rule)) named.named)
    given)
    ∙ e
  where
    row : StoredRow
    row = record { table = change.table; number = change.row; values = values }

-- a key that neither side is what it refers to is referenced as before
pub still_referenced : (constraints : List Constraint) (change : Change) (groups after : Groups) (fk : ForeignKey) (key : List Value)
    → Named constraints fk → Follow constraints change groups after → none_null key ≡ true
    → referenced_side fk key change change.old ≡ false → referenced_side fk key change change.new ≡ false
    → is_referenced constraints after fk key ≡ is_referenced constraints groups fk key
still_referenced constraints change groups after fk key named follow given old new = said after ∙ by_can (can_be_key fk.key key) refl ∙ sym (said groups)
  where
    other : List Value
    other = in_order_of named.key.columns fk.key key

    said : (g : Groups) → is_referenced constraints g fk key ≡ (can_be_key fk.key key && not (is_empty (rows_under g named.key.id other)))
    said g = ap (λ o. elim o [
      | Some k ↦ can_be_key fk.key key && not (is_empty (rows_under g k.id (in_order_of k.columns fk.key key)))
      | None ↦ false
    ]) named.found

    by_can : (b : Bool) → can_be_key fk.key key ≡ b
        → (can_be_key fk.key key && not (is_empty (rows_under after named.key.id other))) ≡ (can_be_key fk.key key && not (is_empty (rows_under groups named.key.id other)))
    by_can true e = ap (λ numbers. can_be_key fk.key key && not (is_empty numbers)) (follow named.key.id named.constraint other named.at
        ∙ same_rows_under named.constraint other change (rows_under groups named.key.id other)
        (not_kept_there fk constraints named key change change.old given e old) (not_kept_there fk constraints named key change change.new given e new))
    by_can false e = (λ i. e i && not (is_empty (rows_under after named.key.id other))) ∙ (λ i. sym e i && not (is_empty (rows_under groups named.key.id other)))

-- a key under which no row of a foreign key violates it by itself

-- Rows that are as empty and as many as before, under a key that neither side is what it refers to.
pub status_stays : (constraints : List Constraint) (change : Change) (groups after : Groups) (id : ℕ) (c : Constraint) (key : List Value) (numbers later : List ℕ)
    → AllNamed constraints → Follow constraints change groups after → slice_get constraints id ≡ Some c → is_referenced_by c.rule key change ≡ false
    → is_empty later ≡ is_empty numbers → nat_lt 1 (length later) ≡ nat_lt 1 (length numbers)
    → violate constraints after c.rule key later ≡ violate constraints groups c.rule key numbers
status_stays constraints change groups after id c key numbers later all follow at e empty more = by_rule c.rule refl e
  where
    joined : (k : Rule) → (violates_alone k key ≡ false → break_rule constraints after k key later ≡ break_rule constraints groups k key numbers)
        → violate constraints after k key later ≡ violate constraints groups k key numbers
    joined k h = (λ i. not (empty i) && (violates_alone k key || break_rule constraints after k key later)) ∙ ap (λ b. not (is_empty numbers) && b) (by_alone (violates_alone k key) h)
      where
        by_alone : (b : Bool) → (b ≡ false → break_rule constraints after k key later ≡ break_rule constraints groups k key numbers)
            → (b || break_rule constraints after k key later) ≡ (b || break_rule constraints groups k key numbers)
        by_alone true h = refl
        by_alone false h = h refl

    by_rule : (k : Rule) → c.rule ≡ k → is_referenced_by k key change ≡ false → violate constraints after k key later ≡ violate constraints groups k key numbers
    by_rule (rule.NotNull column) is e = joined (rule.NotNull column) (λ _. refl)
    by_rule (rule.Check condition) is e = joined (rule.Check condition) (λ _. refl)
    by_rule (rule.Unique nulls columns) is e = joined (rule.Unique nulls columns) (λ _. more)
    by_rule (rule.PrimaryKey columns) is e = joined (rule.PrimaryKey columns) (λ _. more)
    by_rule (rule.ForeignKey fk) is e =
        let parts = or_parts (referenced_side fk key change change.old) (referenced_side fk key change change.new) e in
        joined (rule.ForeignKey fk) (λ alone. ap (λ b. not (is_free fk.matching key || b))
        (still_referenced constraints change groups after fk key (named_of constraints id c fk all at is) follow (not-false (none_null key) alone) parts.0 parts.1))

pub other_keys_stay : (constraints : List Constraint) (change : Change) (groups after : Groups) (id : ℕ) (c : Constraint) (key : List Value)
    → AllNamed constraints → Follow constraints change groups after → slice_get constraints id ≡ Some c → concerns_key c key change ≡ false
    → violate constraints after c.rule key (rows_under after id key) ≡ violate constraints groups c.rule key (rows_under groups id key)
other_keys_stay constraints change groups after id c key all follow at e =
    let parts = or_parts (side_under c key change change.old || side_under c key change change.new) (is_referenced_by c.rule key change) e in
    let sides = or_parts (side_under c key change change.old) (side_under c key change change.new) parts.0 in
    let same : rows_under after id key ≡ rows_under groups id key = follow id c key at ∙ same_rows_under c key change (rows_under groups id key) sides.0 sides.1 in
    status_stays constraints change groups after id c key (rows_under groups id key) (rows_under after id key) all follow at parts.1 (ap is_empty same) (ap (λ numbers. nat_lt 1 (length numbers)) same)
