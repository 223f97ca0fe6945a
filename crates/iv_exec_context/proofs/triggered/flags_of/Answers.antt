use Rattle.std.proofs.Common.{◌∙◌, ◌||◌, false, ap}
use Rattle.std.proofs.lemmas.List.{get_or-replicate}
use mathlib.Core.Bool.{or-false}
use Rattle.iv_exec_context.specs.Triggered.{has_trigger}
use Rattle.iv_exec_context.proofs.triggered.flags_of.Goals as goal

pub returns : goal.returns
returns c table small =
    let has = has_trigger c.args.triggers.now table in
    c.flag_all.ensures table small ∙ ap (λ b. has || b) (get_or-replicate 64 table false false small) ∙ or-false has
