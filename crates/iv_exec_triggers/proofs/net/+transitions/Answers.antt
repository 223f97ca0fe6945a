use Rattle.std.proofs.Common.{◌∙◌, ◌/◌, length, take, drop, ap, subst, filter_map, arith}
use Rattle.std.proofs.lemmas.List.{take_rest, take-append-drop}
use Rattle.iv_expr.specs.Changes.{Wave, wave_of}
use Rattle.iv_exec_triggers.specs.Merging.{kept, merged}
use Rattle.iv_exec_triggers.proofs.Merges.{if_ok}
use Rattle.iv_exec_triggers.proofs.Nets.{AreNet, nets_of_none, nets_of_one, nets_of_both}
use Rattle.iv_exec_triggers.proofs.net.+transitions.Goals as goal

pub returns-in-empty : goal.returns-in-empty
returns-in-empty t c = nets_of_none c.args.waves.now (omega arith) _ c.new.ensures

pub returns-in-len1 : goal.returns-in-len1
returns-in-len1 t c =
    if_ok _ _ c.left_of.result
    (λ (net : Wave) e. nets_of_one c.args.waves.now c.wave-item.result (omega arith) c.in-len1.len_below c.wave-item.is net (e ∙ ap (λ l. wave_of (filter_map kept l)) c.changes.ensures.list))
    c.left_of.ensures

pub returns-in_ok-newer-in_default : goal.returns-in_ok-newer-in_default
returns-in_ok-newer-in_default t c =
    let half = length c.args.waves.now / 2 in
    let newer : AreNet (drop half c.args.waves.now) c.in_ok-newer-in_default.newer =
    subst (λ l. AreNet l c.in_ok-newer-in_default.newer) (take_rest c.args.waves.now half) c.in_ok-newer-in_default.ensures in
    if_ok _ _ c.merge.result
    (λ (net : Wave) e.
    nets_of_both c.args.waves.now (take half c.args.waves.now) (drop half c.args.waves.now) c.in_ok-older-in_default.older c.in_ok-newer-in_default.newer
    (take-append-drop half c.args.waves.now) c.in_ok-older-in_default.ensures newer net
    (e ∙ (λ i. wave_of (merged (c.changes-in_default.ensures.list i) (c.changes-in_default-2.ensures.list i)))))
    c.merge.ensures
