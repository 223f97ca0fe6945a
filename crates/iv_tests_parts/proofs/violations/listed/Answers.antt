use Rattle.std.proofs.Common.{ap, ◌∙◌, arith}
use Rattle.iv_laws_kept.specs.GroupFlags.{violating_of}
use Rattle.iv_store_violating.specs.Flagging.{flag}
use Rattle.iv_tests_parts.proofs.OneMark.{has_group, some_group}
use Rattle.iv_tests_parts.proofs.TakenBack.{expected}
use Rattle.iv_tests_parts.proofs.violations.listed.Goals as goal

pub list-requires-clause-within : goal.list-requires-clause-within
list-requires-clause-within g c =
    has_group _ _ _
    (λ id place. c.cover_places.ensures.flags id place ∙ ap (λ own. flag own place) (c.cover-2.ensures.violating id) ∙ ap (λ marks. flag (violating_of marks id) place) c.requires.no_mark)
    c.set.ensures.own c.set.ensures.others
    (some_group _ _ _ _ (omega (arith, expected _ _ c.expect.ensures c.cover.ensures.ok)) (expected _ _ c.expect-2.ensures c.add.ensures.ok))
