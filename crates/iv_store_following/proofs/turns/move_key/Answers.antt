use Rattle.std.proofs.Common.{◌≡◌, refl, false, sym, ap, subst, ◌∙◌}
use Rattle.std.specs.Option.{option_copied}
use Rattle.iv_laws_levels.proofs.RowNumbers.{some_none, some_same}
use Rattle.iv_laws_kept.specs.GroupFlags.{violating_of}
use Rattle.iv_store_violating.specs.Shown.{shown_of}
use Rattle.iv_store_following.specs.Types.{Constraint}
use Rattle.iv_store_following.specs.Steps.{KeyMoved, is_reference}
use Rattle.iv_store_following.proofs.NoForeignKeys.{flagged_without}
use Rattle.iv_store_following.proofs.turns.move_key.Goals as goal

pub returns-in-Some-clause-moved : goal.returns-in-Some-clause-moved
returns-in-Some-clause-moved c = λ d at key.
    let x = c.in-Some.constraint.now in
    let is : x ≡ d = some_same x d (sym (ap option_copied c.in-Some.is) ∙ c.constraint_at.ensures ∙ at) in
    let no : is_reference x.rule ≡ false = ap (λ (e : Constraint). is_reference e.rule) is ∙ key in
    subst (λ (e : Constraint). KeyMoved c.args.change.now e (shown_of c.args.groups.now.groups c.args.id) (violating_of c.args.violating.now c.args.id)
    (shown_of c.move_row.new.groups.groups c.args.id) (violating_of c.move_row.new.violating c.args.id)) is
    (record {
      rows = c.move_row.ensures.moved;
      flagged = λ referenced right.
          flagged_without (λ _. false) referenced x.rule (shown_of c.move_row.new.groups.groups c.args.id) (violating_of c.move_row.new.violating c.args.id) no
          (c.move_row.ensures.flagged (λ _. false) (λ _ _ _ _. refl)
          (flagged_without referenced (λ _. false) x.rule (shown_of c.args.groups.now.groups c.args.id) (violating_of c.args.violating.now c.args.id) no right));
    })

pub returns-in_default-clause-moved : goal.returns-in_default-clause-moved
returns-in_default-clause-moved c = λ d at key. absurd (some_none d (sym (sym (ap option_copied c.in_default.is) ∙ c.constraint_at.ensures ∙ at)))
