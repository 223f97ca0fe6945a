use Rattle.std.proofs.Common.{◌∙◌, ap}
use Rattle.iv_value.specs.Values.{all_same}
use Rattle.iv_laws_kept.specs.Kept.{rows_in}
use Rattle.iv_laws_kept.specs.Numbers.{with_number}
use Rattle.iv_store_violating.specs.Shown.{shown_of}
use Rattle.iv_store_following.specs.BorrowedChange.{come}
use Rattle.iv_store_following.proofs.Steps.{rows_change, rows_in_more}
use Rattle.iv_store_faults.proofs.filling.enter.Goals as goal

pub returns-clause-rows : goal.returns-clause-rows
returns-clause-rows c = λ other.
    rows_change (with_number c.args.number) (shown_of c.make_room.new.groups.groups c.args.id) (shown_of c.put.new.groups.groups c.args.id) c.args.key.now c.put.result.place other
    c.put.ensures.place c.put.ensures.rows
    ∙ ap (come (all_same c.args.key.now other) c.args.number)
    (ap (λ own. rows_in own other) c.in_ok-make_room.ensures.ok ∙ rows_in_more c.args.key.now other (shown_of c.args.groups.now.groups c.args.id))
