use Rattle.std.proofs.Common.{◌∙◌, ◌+◌, sym, ap, drop, find, option_map}
use Rattle.std.specs.Option.{option_or}
use Rattle.iv_resolution.specs.Constraints.{written_constraints, written_keys}
use Rattle.iv_resolve_scope.specs.Seen.{columns_seen}
use Rattle.iv_resolve_tables.specs.Keys.{is_sought, key_seen}
use Rattle.iv_resolve_tables.proofs.KeysOfTable.{element_step}
use Rattle.iv_resolve_tables.proofs.finding.key_of_elements.Goals as goal

pub returns-in-Some : goal.returns-in-Some
returns-in-Some c =
    sym (c.loop-element.invariant
    ∙ element_step (is_sought c.args.sought.now) (columns_seen c.args.columns.now) c.args.elements.now c.loop-element.element-index c.element-item.result c.loop-element-test.true c.element-item.is
    ∙ ap (λ o. option_or o (find (is_sought c.args.sought.now) (written_keys (columns_seen c.args.columns.now) (written_constraints (drop (c.loop-element.element-index + 1) c.args.elements.now)))))
    (sym c.key_of_element.ensures ∙ ap (option_map key_seen) c.in-Some.is))

pub loop-element-preserved : goal.loop-element-preserved
loop-element-preserved c =
    c.loop-element.invariant
    ∙ element_step (is_sought c.args.sought.now) (columns_seen c.args.columns.now) c.args.elements.now c.loop-element.element-index c.element-item.result c.loop-element-test.true c.element-item.is
    ∙ ap (λ o. option_or o (find (is_sought c.args.sought.now) (written_keys (columns_seen c.args.columns.now) (written_constraints (drop (c.loop-element.element-index + 1) c.args.elements.now)))))
    (sym c.key_of_element.ensures ∙ ap (option_map key_seen) c.in_default.is)
