use Rattle.std.proofs.Common.{sym, subst}
use Rattle.iv_laws_levels.specs.FittingWaves.{Chain}
use Rattle.iv_machine.specs.Levels.{level_columns}
use Rattle.iv_machine.specs.Waves.{net_wave}
use Rattle.iv_laws_rows.proofs.NetRows.{net_changes_fit}
use Rattle.iv_exec_level.proofs.Levels.{parts_fit}
use Rattle.iv_exec_level.proofs.start.settle_waves.Goals as goal

pub returns-clause-parts : goal.returns-clause-parts
returns-clause-parts g c =
    let old = (g.K.ReferencingRows.view c.args.store.now).base in
    let last = (g.K.ReferencingRows.view c.settle.new.store).base in
    let waves = c.as_slice.result.now in
    let chain = subst (λ l. Chain old l last) (sym c.as_slice.ensures.value) c.in_ok-waves.ensures.chain in
    parts_fit c.args.context.now c.args.statement.now c.args.context.now.schema.tables (level_columns c.args.statement.now waves) (net_wave old.rows last.rows waves) c.in_ok-level_changes.field-0
    (net_changes_fit c.args.context.now.schema.tables old last waves chain c.requires.store.rows c.in_ok-waves.ensures.store.fits.rows)
    (c.in_ok-level_changes.ensures old last chain)
