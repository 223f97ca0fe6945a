use Rattle.std.proofs.Common.{refl, ◌++◌, flat_map, sym, ap, ◌∙◌}
use Rattle.iv_machine.specs.Databases.{first}
use Rattle.iv_laws_kept.specs.Kept.{groups_of}
use Rattle.iv_laws_kept.specs.GroupFlags.{rows_at}
use Rattle.iv_laws_kept.specs.Numbers.{in_rising_order}
use Rattle.iv_store_violating.specs.Answers.{lesser}
use Rattle.iv_store_violating.specs.Shown.{shown}
use Rattle.iv_store_violating.proofs.Flags.{has_at}
use Rattle.iv_store_violating.proofs.Least.{first_before, least_step}
use Rattle.iv_store_violating.proofs.rows.first_row.Goals as goal

pub rows_of-requires : goal.rows_of-requires
rows_of-requires c = c.requires _ (has_at c.args.places.now c.loop-place.place-index c.loop-place-test.true)

pub loop-place-preserved : goal.loop-place-preserved
loop-place-preserved c =
    least_step (λ xs. first (in_rising_order (flat_map (rows_at (groups_of (shown c.args.groups.now.groups) c.args.constraint)) xs)))
    c.args.places.now c.loop-place.place-index _ (first c.rows_of.result) c.loop-place.least c.lesser-least.result _
    c.loop-place-test.true refl
    (λ rest. ap (λ rows. first (in_rising_order (rows ++ flat_map (rows_at (groups_of (shown c.args.groups.now.groups) c.args.constraint)) rest))) (sym c.rows_of.ensures.value)
    ∙ first_before c.rows_of.result (flat_map (rows_at (groups_of (shown c.args.groups.now.groups) c.args.constraint)) rest) c.rows_of.ensures.rising)
    (c.lesser-least.ensures ∙ ap (lesser c.loop-place.least) c.first_of.ensures) c.loop-place.invariant
