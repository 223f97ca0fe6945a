use Rattle.iv_store_violating.proofs.Flags.{has_at}
use Rattle.iv_store_violating.proofs.rows.push_rows.Goals as goal

pub rows_of-requires : goal.rows_of-requires
rows_of-requires c = c.requires _ (has_at c.args.places.now c.loop-place.place-index c.loop-place-test.true)
