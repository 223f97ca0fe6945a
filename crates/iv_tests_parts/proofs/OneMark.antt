-- One mark, on the first group of the first constraint.
use Rattle.std.proofs.Common.{◌≡◌, ◌≢◌, ℕ, zero, suc, ◌<◌, true, false, if◌then◌else◌, List, [], ◌∷◌, length, sym, ap, ◌∙◌, arith}
use Rattle.std.proofs.lemmas.Bool.{true≢false}
use Rattle.std.proofs.lemmas.List.{get_or-set_other}
use Rattle.iv_value.specs.declared.value.Value.{Value}
use Rattle.iv_value.specs.Values.{all_same}
use Rattle.iv_numbers.specs.Rows.{Rows, added}
use Rattle.iv_store_groups.specs.Groups.{GroupOf, held_at, with_groups, with_held, with_row_under}
use Rattle.iv_store_groups.specs.Groups as index
use Rattle.iv_laws_kept.specs.Kept.{Groups, groups_of}
use Rattle.iv_laws_kept.specs.GroupFlags.{GroupFlags, violating_of}
use Rattle.iv_store_violating.specs.Flagging.{flag, with_flag}
use Rattle.iv_store_violating.specs.Answers.{HaveGroups}
use Rattle.iv_store_violating.specs.Shown.{shown}
use Rattle.iv_store_violating.proofs.Shown.{count_shown}

some_held : (own : List GroupOf) (key : List Value) (held : Rows) → 0 < length (with_held own key held)
some_held [] key held = omega arith
some_held (g ∷ own) key held =
    elim (all_same g.key key) as (λ b. 0 < length (if b then record { key = g.key; held = held } ∷ own else g ∷ with_held own key held)) [ true ↦ omega arith | false ↦ omega arith ]

-- a row more makes a group
pub some_group : (old new : List (List GroupOf)) (key : List Value) (row : ℕ) → 0 < length old → new ≡ with_groups old 0 (with_row_under key row (index.groups_of old 0))
    → 0 < length (groups_of (shown new) 0)
some_group [] new key row l e = absurd (omega (arith, l))
some_group (own ∷ old) new key row l e =
    let some : 0 < length (with_row_under key row own) = some_held own key (added row (held_at own key)) in
    let same : length (groups_of (shown new) 0) ≡ length (with_row_under key row own) = count_shown new 0 ∙ ap (λ groups. length (index.groups_of groups 0)) e in
    omega (arith, some, same)

-- the mark has a group
pub has_group : (old new : GroupFlags) (groups : Groups) → ((id place : ℕ) → flag (violating_of old id) place ≡ false) → violating_of new 0 ≡ with_flag (violating_of old 0) 0 true
    → ((id : ℕ) → id ≢ 0 → violating_of new id ≡ violating_of old id) → 0 < length (groups_of groups 0) → HaveGroups new groups
has_group old new groups none own others some zero zero e = some
has_group old new groups none own others some zero (suc place) e =
    absurd (true≢false (sym e ∙ ap (λ marks. flag marks (suc place)) own ∙ get_or-set_other (violating_of old 0) 0 (suc place) true false (λ f. omega (arith, f)) ∙ none 0 (suc place)))
has_group old new groups none own others some (suc id) place e =
    absurd (true≢false (sym e ∙ ap (λ marks. flag marks place) (others (suc id) (λ f. omega (arith, f))) ∙ none (suc id) place))
