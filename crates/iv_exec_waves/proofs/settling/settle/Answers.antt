use Rattle.std.proofs.Common.{◌≡◌, ◌<◌, ◌-◌, ◌∙◌, refl, ap, sym, length, arith}
use Rattle.iv_catalogue.specs.Refusals.{is_memory_cause}
use Rattle.iv_machine.specs.Databases.{size}
use Rattle.iv_machine.specs.Waves.{AppliedWave, settled_waves}
use Rattle.iv_laws_levels.proofs.FittingWaves.{settled_fits}
use Rattle.iv_exec_waves.proofs.Looking.{none_looked}
use Rattle.iv_exec_waves.proofs.Rounds.{after_waves, first_round, more_than_none, next_round, next_wave_is, none_before, none_left, round_progress, round_so_far, settled_nothing, settled_refused}
use Rattle.iv_exec_waves.proofs.Running.{left_by_both, left_by_refused}
use Rattle.iv_exec_waves.proofs.ToldOn.{told_on, told_unless}
use Rattle.iv_exec_waves.proofs.WavesTold.{no_wave_told, refused_wave_told, round_told}
use Rattle.iv_exec_waves.specs.Steps.{wave_with}
use Rattle.iv_exec_waves.proofs.settling.settle.Goals as goal

pub loop-store-init : goal.loop-store-init
loop-store-init g c =
    let s = g.K.ReferencingRows.view c.args.store.now in
    let all = settled_waves c.args.context.now s.base c.args.budget.now (wave_with c.args.columns.items c.args.changes.items) in
    record {
      so_far = ap (λ done. after_waves done all) c.new-waves.ensures.items ∙ none_before all;
      told = refl;
      progress = first_round c.args.context.now s c.args.changes.items c.requires.store c.next_row.ensures.rising c.requires.fit c.requires.proposed;
      left = record { kept = refl; looked_up = none_looked s (g.K.ReferencingRows.lookups c.args.store.now); fits = c.requires.store };
    }

pub overflow_sub-budget : goal.overflow_sub-budget
overflow_sub-budget g c =
    let s = g.K.ReferencingRows.view c.loop-store.store in
    let one : AppliedWave = record { wave = c.in_ok-applied.applied.wave; next = c.in_ok-applied.applied.next } in
    let round = next_round c.args.context.now s c.loop-store.budget (wave_with c.loop-store.columns.items c.loop-store.changes.items) one c.loop-store.invariant.progress c.in_ok-applied.ensures.answer in
    omega (arith, round.fits, ap length c.changes.ensures.list)

pub loop-store-smaller : goal.loop-store-smaller
loop-store-smaller g c =
    let s = g.K.ReferencingRows.view c.loop-store.store in
    let one : AppliedWave = record { wave = c.in_ok-applied.applied.wave; next = c.in_ok-applied.applied.next } in
    let round = next_round c.args.context.now s c.loop-store.budget (wave_with c.loop-store.columns.items c.loop-store.changes.items) one c.loop-store.invariant.progress c.in_ok-applied.ensures.answer in
    let test = c.loop-store-test.ensures in
    let long = c.loop-store.changes.ok.0 in
    let more : 0 < length c.loop-store.changes.items = more_than_none _ _ test long in
    omega (arith, round.fits, round.same, more, ap length c.changes.ensures.list)

pub loop-store-preserved : goal.loop-store-preserved
loop-store-preserved g c =
    let s = g.K.ReferencingRows.view c.loop-store.store in
    let later = g.K.ReferencingRows.view c.one_wave.new.store in
    let one : AppliedWave = record { wave = c.in_ok-applied.applied.wave; next = c.in_ok-applied.applied.next } in
    let wave = wave_with c.loop-store.columns.items c.loop-store.changes.items in
    let less : c.loop-store.budget - length c.changes.result.now ≡ c.loop-store.budget - size one.wave = ap (λ l. c.loop-store.budget - length l) c.changes.ensures.list in
    let test = c.loop-store-test.ensures in
    let long = c.loop-store.changes.ok.0 in
    let more : 0 < length c.loop-store.changes.items = more_than_none _ _ test long in
    record {
      so_far = round_so_far c.args.context.now s later c.loop-store.budget (c.loop-store.budget - length c.changes.result.now) wave (wave_with c.into_parts-next_changes.result.1.items c.into_parts-next_changes.result.0.items)
          c.loop-store.waves.items c.add.new.waves.items _ one more c.loop-store.invariant.so_far c.in_ok-applied.ensures.answer c.in_ok-applied.ensures.applied less
          (next_wave_is one.next c.into_parts-next_changes.result.1.items c.into_parts-next_changes.result.0.items c.into_parts-next_changes.ensures.changes c.into_parts-next_changes.ensures.columns) c.in_ok-add.ensures;
      told = round_told c.args.context.now s.base later.base c.loop-store.budget (c.loop-store.budget - length c.changes.result.now) wave (wave_with c.into_parts-next_changes.result.1.items c.into_parts-next_changes.result.0.items)
          one c.loop-store.account c.one_wave.new.account _ more c.loop-store.invariant.told c.in_ok-applied.ensures.answer c.in_ok-applied.ensures.told c.in_ok-applied.ensures.applied less
          (next_wave_is one.next c.into_parts-next_changes.result.1.items c.into_parts-next_changes.result.0.items c.into_parts-next_changes.ensures.changes c.into_parts-next_changes.ensures.columns);
      progress = round_progress c.args.context.now s later c.loop-store.budget wave c.into_parts-next_changes.result.0.items one c.loop-store.invariant.progress
          c.in_ok-applied.ensures.answer c.in_ok-applied.ensures.applied c.in_ok-applied.ensures.store.kept c.into_parts-next_changes.ensures.changes;
      left = left_by_both _ tt c.in_ok-applied.applied tt (g.K.ReferencingRows.view c.args.store.now) s later (g.K.ReferencingRows.lookups c.args.store.now) (g.K.ReferencingRows.lookups c.loop-store.store)
          (g.K.ReferencingRows.lookups c.one_wave.new.store) c.loop-store.invariant.left c.in_ok-applied.ensures.store;
    }

pub returns-in_err-applied-clause-answer : goal.returns-in_err-applied-clause-answer
returns-in_err-applied-clause-answer g c =
    let s = g.K.ReferencingRows.view c.loop-store.store in
    let test = c.loop-store-test.ensures in
    let long = c.loop-store.changes.ok.0 in
    let more : 0 < length c.loop-store.changes.items = more_than_none _ _ test long in
    told_on _ _ c.from_residual.result c.in_err-applied.field-0.0 _ c.from_residual.ensures.1
    (settled_refused c.args.context.now s.base c.loop-store.budget (wave_with c.loop-store.columns.items c.loop-store.changes.items) c.loop-store.waves.items _ c.in_err-applied.field-0.0 _ more c.loop-store.invariant.so_far c.in_err-applied.ensures.answer)

pub returns-in_err-applied-clause-store : goal.returns-in_err-applied-clause-store
returns-in_err-applied-clause-store g c =
    left_by_refused _ tt c.from_residual.result c.in_err-applied.field-0.0 (g.K.ReferencingRows.view c.args.store.now) (g.K.ReferencingRows.view c.loop-store.store) (g.K.ReferencingRows.view c.one_wave.new.store)
    (g.K.ReferencingRows.lookups c.args.store.now) (g.K.ReferencingRows.lookups c.loop-store.store) (g.K.ReferencingRows.lookups c.one_wave.new.store) c.from_residual.ensures.1
    c.loop-store.invariant.left c.in_err-applied.ensures.store

pub returns-in_err-applied-clause-told : goal.returns-in_err-applied-clause-told
returns-in_err-applied-clause-told g c =
    let s = g.K.ReferencingRows.view c.loop-store.store in
    let test = c.loop-store-test.ensures in
    let long = c.loop-store.changes.ok.0 in
    let more : 0 < length c.loop-store.changes.items = more_than_none _ _ test long in
    told_unless c.from_residual.result c.in_err-applied.field-0.0 _ c.from_residual.ensures.1
    (refused_wave_told c.args.context.now s.base c.loop-store.budget (wave_with c.loop-store.columns.items c.loop-store.changes.items) (is_memory_cause c.in_err-applied.field-0.0.cause) _
    c.loop-store.account c.one_wave.new.account _ more c.loop-store.invariant.told c.in_err-applied.ensures.answer c.in_err-applied.ensures.told)

pub returns-clause-told : goal.returns-clause-told
returns-clause-told g c =
    let s = g.K.ReferencingRows.view c.loop-store.store in
    let test = c.loop-store-test.ensures in
    no_wave_told c.args.context.now s.base c.loop-store.budget (wave_with c.loop-store.columns.items c.loop-store.changes.items) c.loop-store.account (none_left _ _ test c.loop-store.changes.ok.0)
    ∙ c.loop-store.invariant.told

pub returns-clause-answer : goal.returns-clause-answer
returns-clause-answer g c =
    let s = g.K.ReferencingRows.view c.loop-store.store in
    let test = c.loop-store-test.ensures in
    sym c.loop-store.invariant.so_far ∙ settled_nothing c.args.context.now s.base c.loop-store.budget (wave_with c.loop-store.columns.items c.loop-store.changes.items) c.loop-store.waves.items (none_left _ _ test c.loop-store.changes.ok.0)

pub returns-clause-chain : goal.returns-clause-chain
returns-clause-chain g c =
    let old = g.K.ReferencingRows.view c.args.store.now in
    let s = g.K.ReferencingRows.view c.loop-store.store in
    let first = first_round c.args.context.now old c.args.changes.items c.requires.store c.next_row.ensures.rising c.requires.fit c.requires.proposed in
    let test = c.loop-store-test.ensures in
    let so_far = sym c.loop-store.invariant.so_far ∙ settled_nothing c.args.context.now s.base c.loop-store.budget (wave_with c.loop-store.columns.items c.loop-store.changes.items) c.loop-store.waves.items (none_left _ _ test c.loop-store.changes.ok.0) in
    settled_fits c.args.context.now old.base c.args.budget.now (wave_with c.args.columns.items c.args.changes.items) _ so_far first.numbered first.ready
