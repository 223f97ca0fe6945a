use Rattle.std.proofs.Common.{◌≡◌, List, IfOk, subst}
use Rattle.iv_store_index.specs.Types.{StoredRow}
use Rattle.iv_store_index.specs.Kept.{Store}
use Rattle.iv_machine.specs.Databases.{is_chosen, scan}
use Rattle.iv_store_faults.specs.Watching.{IsShownBy}
use Rattle.iv_store.specs.Stores.{store_faults}
use Rattle.iv_store_index.proofs.Keeping.{if_at}
use Rattle.iv_store_index.proofs.store.IndexStoreKeeper.list_faults.Goals as goal

pub returns : goal.returns
returns c =
    let s = c.self.inside in
    subst (λ (v : Store). IfOk c.list.result (λ faults. faults.items ≡ store_faults v.state c.args.modes.now.modes c.args.which)) c.self.view_is
    (if_at c.list.result (λ (rows : List StoredRow). IsShownBy rows s.faults s.groups) (λ faults rows. faults.items ≡ scan rows s.faults.constraints (is_chosen c.args.modes.now.modes c.args.which)) s.versions.rows
    c.self.invariant.0.shown c.list.ensures)
