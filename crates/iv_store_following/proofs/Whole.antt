-- From the parts of the constraints to the whole of a change.
use Rattle.std.proofs.Common.{◌≡◌, refl, ℕ, Bool, false, ◌&&◌, ◌||◌, not, List, [], ◌∷◌, map, slice_get, Some, sym, ap, ◌∙◌}
use Rattle.iv_store_following.specs.Types.{Value, Rule, Constraint, ForeignKey}
use Rattle.iv_store_following.specs.Types.rule
use Rattle.iv_key.specs.Keys.{none_null}
use Rattle.iv_laws_kept.specs.Kept.{Group, Groups, groups_of, is_referenced, is_violating, violate, violates_alone, break_rule}
use Rattle.iv_laws_kept.specs.GroupFlags.{GroupFlags, violating_of, AreFlagged}
use Rattle.iv_store_violating.specs.Flagging.{flag}
use Rattle.iv_store_following.specs.KeyGroups.{group_violates, Flagged}
use Rattle.iv_store_following.specs.Steps.{is_reference}
use Rattle.iv_store_following.proofs.Steps.{some_rows}

-- which keys are referenced, as a rule asks it
abbrev pub referenced_by : List Constraint → Groups → Rule → List Value → Bool
referenced_by constraints groups (rule.NotNull column) key = false
referenced_by constraints groups (rule.Check condition) key = false
referenced_by constraints groups (rule.Unique nulls columns) key = false
referenced_by constraints groups (rule.PrimaryKey columns) key = false
referenced_by constraints groups (rule.ForeignKey fk) key = is_referenced constraints groups fk key

-- the two ways to say that a group violates
pub same_violating : (constraints : List Constraint) (groups : Groups) (c : Constraint) (k : Rule) (g : Group) → c.rule ≡ k
    → is_violating constraints groups c g ≡ group_violates (referenced_by constraints groups k) k g
same_violating constraints groups c k g is = ap (λ r. violate constraints groups r g.key g.rows) is ∙ by_rule k
  where
    by_rule : (k : Rule) → violate constraints groups k g.key g.rows ≡ group_violates (referenced_by constraints groups k) k g
    by_rule (rule.NotNull column) = ap (λ b. b && (not (none_null g.key) || false)) (sym (some_rows g.rows))
    by_rule (rule.Check condition) = ap (λ b. b && (not (none_null g.key) || false)) (sym (some_rows g.rows))
    by_rule (rule.Unique nulls columns) = ap (λ b. b && (violates_alone (rule.Unique nulls columns) g.key || break_rule constraints groups (rule.Unique nulls columns) g.key g.rows)) (sym (some_rows g.rows))
    by_rule (rule.PrimaryKey columns) = ap (λ b. b && (not (none_null g.key) || break_rule constraints groups (rule.PrimaryKey columns) g.key g.rows)) (sym (some_rows g.rows))
    by_rule (rule.ForeignKey fk) = ap (λ b. b && (not (none_null g.key) || break_rule constraints groups (rule.ForeignKey fk) g.key g.rows)) (sym (some_rows g.rows))

same_all : (constraints : List Constraint) (groups : Groups) (c : Constraint) (k : Rule) → c.rule ≡ k → (own : List Group)
    → map (is_violating constraints groups c) own ≡ map (group_violates (referenced_by constraints groups k) k) own
same_all constraints groups c k is [] = refl
same_all constraints groups c k is (g ∷ own) = λ i. same_violating constraints groups c k g is i ∷ same_all constraints groups c k is own i

-- the flags of a constraint, said in the two ways
to_flagged : (constraints : List Constraint) (groups : Groups) (c : Constraint) (k : Rule) (own : List Group) (violating : List Bool) → c.rule ≡ k
    → ((place : ℕ) → flag violating place ≡ flag (map (is_violating constraints groups c) own) place) → Flagged (referenced_by constraints groups k) c.rule own violating
to_flagged constraints groups c k own violating is h place =
    h place ∙ ap (λ xs. flag xs place) (same_all constraints groups c k is own) ∙ ap (λ r. flag (map (group_violates (referenced_by constraints groups k) r) own) place) (sym is)

from_flagged : (constraints : List Constraint) (groups : Groups) (c : Constraint) (k : Rule) (own : List Group) (violating : List Bool) → c.rule ≡ k
    → Flagged (referenced_by constraints groups k) c.rule own violating → (place : ℕ) → flag violating place ≡ flag (map (is_violating constraints groups c) own) place
from_flagged constraints groups c k own violating is h place =
    h place ∙ ap (λ r. flag (map (group_violates (referenced_by constraints groups k) r) own) place) is ∙ ap (λ xs. flag xs place) (sym (same_all constraints groups c k is own))

pub parts_make_the_whole : (constraints : List Constraint) (groups after : Groups) (violating later : GroupFlags)
    → ((id : ℕ) (c : Constraint) (referenced : List Value → Bool) → slice_get constraints id ≡ Some c → is_reference c.rule ≡ false
    → Flagged referenced c.rule (groups_of groups id) (violating_of violating id) → Flagged referenced c.rule (groups_of after id) (violating_of later id))
    → ((id : ℕ) (c : Constraint) (fk : ForeignKey) → slice_get constraints id ≡ Some c → c.rule ≡ rule.ForeignKey fk
    → Flagged (is_referenced constraints groups fk) c.rule (groups_of groups id) (violating_of violating id)
    → Flagged (is_referenced constraints after fk) c.rule (groups_of after id) (violating_of later id))
    → AreFlagged constraints groups violating → AreFlagged constraints after later
parts_make_the_whole constraints groups after violating later keys references right id c place at = by_rule c.rule refl
  where
    said : Type 0
    said = flag (violating_of later id) place ≡ flag (map (is_violating constraints after c) (groups_of after id)) place

    key_part : (k : Rule) → c.rule ≡ k → is_reference k ≡ false → ((key : List Value) → referenced_by constraints groups k key ≡ referenced_by constraints after k key) → flag (violating_of later id) place ≡ flag (map (is_violating constraints after c) (groups_of after id)) place
    key_part k is e same =
        from_flagged constraints after c k (groups_of after id) (violating_of later id) is
        (keys id c (referenced_by constraints after k) at (ap is_reference is ∙ e)
        (λ q. to_flagged constraints groups c k (groups_of groups id) (violating_of violating id) is (λ p. right id c p at) q
        ∙ ap (λ r. flag (map (group_violates r c.rule) (groups_of groups id)) q) (λ i key. same key i)))
        place

    by_rule : (k : Rule) → c.rule ≡ k → flag (violating_of later id) place ≡ flag (map (is_violating constraints after c) (groups_of after id)) place
    by_rule (rule.NotNull column) is = key_part (rule.NotNull column) is refl (λ key. refl)
    by_rule (rule.Check condition) is = key_part (rule.Check condition) is refl (λ key. refl)
    by_rule (rule.Unique nulls columns) is = key_part (rule.Unique nulls columns) is refl (λ key. refl)
    by_rule (rule.PrimaryKey columns) is = key_part (rule.PrimaryKey columns) is refl (λ key. refl)
    by_rule (rule.ForeignKey fk) is =
        from_flagged constraints after c (rule.ForeignKey fk) (groups_of after id) (violating_of later id) is
        (references id c fk at is (to_flagged constraints groups c (rule.ForeignKey fk) (groups_of groups id) (violating_of violating id) is (λ p. right id c p at))) place
