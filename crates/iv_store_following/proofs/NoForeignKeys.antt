-- Constraints that aren't foreign keys.
use Rattle.std.proofs.Common.{◌≡◌, refl, Bool, false, List, [], ◌∷◌, map, ap, ◌∙◌}
use Rattle.std.proofs.lemmas.Bool.{true≢false}
use Rattle.iv_store_following.specs.Types.{Value, Rule, ForeignKey}
use Rattle.iv_store_following.specs.Types.rule
use Rattle.iv_laws_kept.specs.Kept.{Group}
use Rattle.iv_store_violating.specs.Flagging.{flag}
use Rattle.iv_store_following.specs.KeyGroups.{group_violates, Flagged}
use Rattle.iv_store_following.specs.Steps.{is_reference}

-- it doesn't matter to them which keys are referenced
same_without : (some others : List Value → Bool) (k : Rule) (g : Group) → is_reference k ≡ false → group_violates some k g ≡ group_violates others k g
same_without some others (rule.NotNull column) g e = refl
same_without some others (rule.Check condition) g e = refl
same_without some others (rule.Unique nulls columns) g e = refl
same_without some others (rule.PrimaryKey columns) g e = refl
same_without some others (rule.ForeignKey fk) g e = absurd (true≢false e)

pub flagged_without : (some others : List Value → Bool) (k : Rule) (groups : List Group) (violating : List Bool) → is_reference k ≡ false → Flagged some k groups violating → Flagged others k groups violating
flagged_without some others k groups violating e right place = right place ∙ ap (λ xs. flag xs place) (all groups)
  where
    all : (groups : List Group) → map (group_violates some k) groups ≡ map (group_violates others k) groups
    all [] = refl
    all (g ∷ groups) = λ i. same_without some others k g e i ∷ all groups i

pub not_reference : (k : Rule) → ((fk : ForeignKey) → k ≡ rule.ForeignKey fk → ⊥) → is_reference k ≡ false
not_reference (rule.NotNull column) h = refl
not_reference (rule.Check condition) h = refl
not_reference (rule.Unique nulls columns) h = refl
not_reference (rule.PrimaryKey columns) h = refl
not_reference (rule.ForeignKey fk) h = absurd (h fk refl)
