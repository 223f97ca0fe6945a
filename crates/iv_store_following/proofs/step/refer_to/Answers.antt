use Rattle.std.proofs.Common.{length, refl, sym, ap, ◌∙◌}
use Rattle.std.specs.Prelude.{option_map}
use Rattle.iv_store_groups.specs.declared.indexes.FoundGroup.{FoundGroup}
use Rattle.iv_laws_levels.proofs.Keys.{all_same_swap}
use Rattle.iv_laws_kept.specs.GroupFlags.{violating_of, rows_at}
use Rattle.iv_store_violating.specs.Shown.{shown_of}
use Rattle.iv_store_following.specs.KeyGroups.{violate_by}
use Rattle.iv_store_following.proofs.Steps.{refer_none, refer_one}
use Rattle.iv_store_following.proofs.Watched.{place_flagged, places_of, shown_same}
use Rattle.iv_store_following.proofs.step.refer_to.Goals as goal

pub set-requires-clause-place : goal.set-requires-clause-place
set-requires-clause-place c = place_flagged c.args.groups.now.groups c.args.violating.now c.args.id c.args.key.now c.in-Some.found.place c.requires.watched (sym c.in-Some.ensures.place)

pub returns-in-Some-clause-flagged : goal.returns-in-Some-clause-flagged
returns-in-Some-clause-flagged c = λ before after same others right.
    refer_one before after c.args.rule.now (shown_of c.args.groups.now.groups c.args.id) (shown_of c.find.new.groups.groups c.args.id) (violating_of c.args.violating.now c.args.id) (violating_of c.set.new.self c.args.id)
    c.args.key.now c.in-Some.found.place (rows_at (shown_of c.find.new.groups.groups c.args.id) c.in-Some.found.place) c.violate.result
    (shown_same c.args.groups.now.groups c.find.new.groups.groups c.args.id c.find.ensures.kept) c.find.ensures.once (sym c.in-Some.ensures.place)
    (places_of c.args.groups.now.groups c.args.violating.now c.args.id c.requires.watched)
    (λ other given differs. others other given (all_same_swap c.args.key.now other ∙ differs)) refl
    (c.violate.ensures after (λ _. same) ∙ ap (violate_by after c.args.rule.now c.args.key.now) (c.in-Some.ensures.count
    ∙ ap (λ groups. length (rows_at groups c.in-Some.found.place)) (sym (shown_same c.args.groups.now.groups c.find.new.groups.groups c.args.id c.find.ensures.kept)))) c.set.ensures.own right

pub returns-in_default-clause-flagged : goal.returns-in_default-clause-flagged
returns-in_default-clause-flagged c = λ before after same others right.
    refer_none before after c.args.rule.now (shown_of c.args.groups.now.groups c.args.id) (shown_of c.find.new.groups.groups c.args.id) (violating_of c.args.violating.now c.args.id)
    c.args.key.now (shown_same c.args.groups.now.groups c.find.new.groups.groups c.args.id c.find.ensures.kept) (sym c.find.ensures.place ∙ ap (option_map (λ (g : FoundGroup). g.place)) c.in_default.is)
    (λ other given differs. others other given (all_same_swap c.args.key.now other ∙ differs)) right
