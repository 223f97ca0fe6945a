use Rattle.std.proofs.Common.{◌≡◌, ◌++◌, ◌||◌, ℕ, false, drop, filter_map, get_or}
use Rattle.std.specs.List.{list_any}
use Rattle.iv_expr.specs.Changes.{last_row}
use Rattle.iv_store.specs.Stores.{RisingNumbers}
use Rattle.iv_exec_actions.specs.Following.{change_at, sets_at}
use Rattle.iv_exec_actions.proofs.next.next_changes.Given as goal

abbrev pub invariant-loop-number : goal.invariant-loop-number
invariant-loop-number g l =
    let later = (g.K.ReferencingRows.view l.store).base.rows in
    record {
      above : RisingNumbers (last_row l.next.changes) (drop l.number-index l.numbers);
      so_far : l.next.changes ++ filter_map (change_at l.catalogue l.affected_keys l.changes later) (drop l.number-index l.numbers)
          ≡ filter_map (change_at l.catalogue l.affected_keys l.changes later) l.numbers;
      flagged : (id : ℕ)
          → (list_any (sets_at l.catalogue l.affected_keys l.changes later id) (drop l.number-index l.numbers) || get_or l.flags.items id false)
          ≡ (list_any (sets_at l.catalogue l.affected_keys l.changes later id) l.numbers || get_or l.initial.flags.items id false);
    }
