-- All waves of a statement fit, and so do the rows after the last.
use Rattle.std.proofs.Common.{◌≡◌, true, refl}
use Rattle.std.proofs.lemmas.Bool.{and_from}
use Rattle.std.specs.List.{list_all}
use Rattle.iv_expr.specs.Changes.{Wave}
use Rattle.iv_laws_rows.specs.Types.{Database}
use Rattle.iv_machine.specs.Databases.{database_after}
use Rattle.iv_machine.specs.Context.{Context}
use Rattle.iv_machine.specs.Waves.{SettledWaves}
use Rattle.iv_laws_levels.specs.FittingWaves.{Numbered, Chain}
use Rattle.iv_laws_levels.proofs.Settling.{every_settled}
use Rattle.iv_laws_levels.proofs.NumberedRows.{numbered_applied}
use Rattle.iv_laws_levels.proofs.Readying.{Ready, proposed_ready, followed_ready, changes_of_proposed}
use Rattle.iv_laws_levels.proofs.FittingWaves.{applied_fits, rising_positive}
use Rattle.iv_laws_rows.specs.RowFits.{wave_fits, rows_fit}
use Rattle.iv_laws_rows.specs.Laws.{SettledWavesFit}
use Rattle.iv_laws_rows.specs.Starting.{Starts, ProposalsStart, NextWavesStart, StartedWavesFit}
use Rattle.iv_laws_rows.proofs.FittingChanges.{applied_waves_fit, rows_after_fit}
use Rattle.iv_laws_rows.proofs.FittingProposals.{proposals_fit}
use Rattle.iv_laws_rows.proofs.FollowingRows.{following_waves_fit}

-- what is proposed, or follows, is ready to start
pub ready_starts : (context : Context) (db : Database) (wave : Wave) → Numbered db → Ready db.rows wave.changes
    → rows_fit context.schema.tables db.rows ≡ true → wave_fits context.schema.tables wave ≡ true → Starts context db wave
ready_starts context db wave numbered ready h g = record {
  numbered = numbered;
  rows = h;
  changes = g;
  applied = λ budget out e. applied_fits context db budget wave out numbered ready e;
}

pub proposals_start : ProposalsStart
proposals_start context d frame db wave suit numbered h fits e =
    ready_starts context db wave numbered (proposed_ready context db frame d wave e) h
    (proposals_fit context db frame d wave.changes suit h fits (changes_of_proposed context db frame d wave e))

pub next_waves_start : NextWavesStart
next_waves_start context db budget wave out next suits start is_applied is_followed =
    let fits = start.applied budget out is_applied in
    let applied = applied_waves_fit context db budget wave out start.changes is_applied in
    ready_starts context (database_after db out) next (numbered_applied db out.changes start.numbered (rising_positive out.changes fits.rising))
    (followed_ready context db (database_after db out) next is_followed) (rows_after_fit context.schema.tables db out start.rows applied)
    (following_waves_fit context db out next suits start.numbered fits start.rows applied is_followed)

-- a chain of waves that fit, to rows that fit
abbrev pub AllFit : Context → Database → SettledWaves → Type 0
AllFit context db s = Chain db s.waves s.last × (rows_fit context.schema.tables s.last.rows ≡ true) × (list_all (wave_fits context.schema.tables) s.waves ≡ true)

pub started_waves_fit : StartedWavesFit
started_waves_fit context db budget wave s suits start e =
    every_settled context (λ db' budget' wave' s'. Starts context db' wave' → AllFit context db' s')
    (λ db' budget' wave' none begin. ((begin.numbered, refl), begin.rows, refl))
    (λ db' budget' wave' one others is_applied is_followed more begin.
    let rest = more (next_waves_start context db' budget' wave' one.wave one.next suits begin is_applied is_followed) in (
      (begin.numbered, begin.applied budget' one.wave is_applied, rest.0),
      rest.1,
      and_from _ _ (applied_waves_fit context db' budget' wave' one.wave begin.changes is_applied) rest.2,
    ))
    db budget wave s e start

pub settled_waves_fit : SettledWavesFit
settled_waves_fit context d frame db budget wave s suits numbered h g is_proposed e =
    let all = started_waves_fit context db budget wave s suits (ready_starts context db wave numbered (proposed_ready context db frame d wave is_proposed) h g) e in
    (all.1, all.2)
