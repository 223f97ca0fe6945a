use Rattle.std.proofs.Common.{◌+◌, ◌*◌, ◌≤◌, ◌∙◌, List, [], ◌∷◌, length, ap, sym, subst}
use Rattle.iv_expr.specs.declared.row.Change.{Change}
use Rattle.iv_expr.specs.Changes.{wave_of}
use Rattle.iv_catalogue.specs.Catalogues.{Schema}
use Rattle.iv_catalogue.specs.Refusals.{is_memory_cause}
use Rattle.iv_machine.specs.declared.database.Database.{Database}
use Rattle.iv_machine.specs.Databases.{database_after}
use Rattle.iv_store.specs.Stores.{most_lookups}
use Rattle.iv_account.specs.declared.entry.Entry.TheVariants.{Changed}
use Rattle.iv_account.specs.Telling.{and_told}
use Rattle.iv_laws_rows.specs.Changing.{StoreFits}
use Rattle.iv_exec_context.proofs.Answers.{unless_memory}
use Rattle.iv_exec_waves.proofs.Followed.{followed_ok, followed_refused, led}
use Rattle.iv_exec_waves.proofs.Looking.{looked_on}
use Rattle.iv_exec_waves.proofs.Running.{fits_after_wave, kept_by_a_look, left_by_look}
use Rattle.iv_exec_waves.proofs.ToldOn.{told_on, told_unless}
use Rattle.iv_exec_waves.proofs.WavesTold.{wave_applied_told}
use Rattle.iv_exec_waves.proofs.settling.follow.Goals as goal

pub returns-clause-answer : goal.returns-clause-answer
returns-clause-answer g c =
    let old = g.K.ReferencingRows.view c.args.store.now in
    let later = g.K.ReferencingRows.view c.apply_all.new.store in
    let is = c.in_ok-apply_all.ensures.applied ∙ ap (λ l. database_after old.base (wave_of l)) c.changes.ensures.list in
    let constraints = ap (λ s. s.constraints) c.in_ok-apply_all.ensures.kept ∙ c.requires.store.constraints ∙ ap (λ s. s.constraints) (sym c.catalogue.ensures) in
    followed_ok c.args.context.now old.base later.base c.args.wave c.in_ok-next.next is
    (c.in_ok-next.ensures.followed old.base c.args.context.now (sym c.catalogue.ensures) constraints (led old.tables old.base later.base c.args.wave.changes c.requires.applicable is))

pub returns-in_err-next-clause-answer : goal.returns-in_err-next-clause-answer
returns-in_err-next-clause-answer g c =
    let old = g.K.ReferencingRows.view c.args.store.now in
    let later = g.K.ReferencingRows.view c.apply_all.new.store in
    let is = c.in_ok-apply_all.ensures.applied ∙ ap (λ l. database_after old.base (wave_of l)) c.changes.ensures.list in
    let constraints = ap (λ s. s.constraints) c.in_ok-apply_all.ensures.kept ∙ c.requires.store.constraints ∙ ap (λ s. s.constraints) (sym c.catalogue.ensures) in
    told_on _ _ c.from_residual-in_err-next.result c.in_err-next.field-0.0 _ c.from_residual-in_err-next.ensures.1
    (followed_refused c.args.context.now old.base later.base c.args.wave c.in_err-next.field-0.0 (g.K.ReferencingRows.view c.next_wave_told.new.store).base.count is
    (ap (λ s. s.base.count) c.in_err-next.ensures.kept)
    (c.in_err-next.ensures.followed old.base c.args.context.now (sym c.catalogue.ensures) constraints (led old.tables old.base later.base c.args.wave.changes c.requires.applicable is)))

pub returns-clause-store : goal.returns-clause-store
returns-clause-store g c =
    let old = g.K.ReferencingRows.view c.args.store.now in
    let later = g.K.ReferencingRows.view c.apply_all.new.store in
    let last = g.K.ReferencingRows.view c.next_wave_told.new.store in
    let is = c.in_ok-apply_all.ensures.applied ∙ ap (λ l. database_after old.base (wave_of l)) c.changes.ensures.list in
    let constraints = ap (λ (s : Schema). s.constraints) c.catalogue.ensures ∙ sym c.requires.store.constraints in
    record {
      kept = kept_by_a_look old later last c.in_ok-apply_all.ensures.kept c.in_ok-next.ensures.kept;
      looked_up = looked_on old later last (length c.args.wave.changes) c.catalogue.result.now.constraints
          (g.K.ReferencingRows.lookups c.args.store.now) (g.K.ReferencingRows.lookups c.apply_all.new.store) (g.K.ReferencingRows.lookups c.next_wave_told.new.store) constraints
          (ap (λ (db : Database). db.count) c.in_ok-apply_all.ensures.applied ∙ ap (λ (l : List Change). old.base.count + length l) c.changes.ensures.list) c.in_ok-next.ensures.kept
          (subst (λ (l : List Change). g.K.ReferencingRows.lookups c.apply_all.new.store ≤ g.K.ReferencingRows.lookups c.args.store.now + most_lookups * length old.constraints * length l) c.changes.ensures.list c.in_ok-apply_all.ensures.looked_up)
          c.in_ok-next.ensures.looked_up;
      fits = subst (StoreFits c.args.context.now.schema) (sym c.in_ok-next.ensures.kept)
          (fits_after_wave c.args.context.now.schema old later c.args.wave c.requires.store c.requires.applicable.fit is c.in_ok-apply_all.ensures.kept);
    }

pub returns-in_err-next-clause-store : goal.returns-in_err-next-clause-store
returns-in_err-next-clause-store g c =
    let old = g.K.ReferencingRows.view c.args.store.now in
    let later = g.K.ReferencingRows.view c.apply_all.new.store in
    let last = g.K.ReferencingRows.view c.next_wave_told.new.store in
    let constraints = ap (λ (s : Schema). s.constraints) c.catalogue.ensures ∙ sym c.requires.store.constraints in
    left_by_look c.args.context.now.schema c.from_residual-in_err-next.result c.in_err-next.field-0.0 old later last _ _ c.from_residual-in_err-next.ensures.1
    c.in_ok-apply_all.ensures.kept c.in_err-next.ensures.kept
    (looked_on old later last (length c.args.wave.changes) c.catalogue.result.now.constraints
    (g.K.ReferencingRows.lookups c.args.store.now) (g.K.ReferencingRows.lookups c.apply_all.new.store) (g.K.ReferencingRows.lookups c.next_wave_told.new.store) constraints
    (ap (λ (db : Database). db.count) c.in_ok-apply_all.ensures.applied ∙ ap (λ (l : List Change). old.base.count + length l) c.changes.ensures.list) c.in_err-next.ensures.kept
    (subst (λ (l : List Change). g.K.ReferencingRows.lookups c.apply_all.new.store ≤ g.K.ReferencingRows.lookups c.args.store.now + most_lookups * length old.constraints * length l) c.changes.ensures.list c.in_ok-apply_all.ensures.looked_up)
    c.in_err-next.ensures.looked_up)

pub returns-clause-told : goal.returns-clause-told
returns-clause-told g c =
    let old = g.K.ReferencingRows.view c.args.store.now in
    let later = g.K.ReferencingRows.view c.apply_all.new.store in
    let is = c.in_ok-apply_all.ensures.applied ∙ ap (λ l. database_after old.base (wave_of l)) c.changes.ensures.list in
    let constraints = ap (λ s. s.constraints) c.in_ok-apply_all.ensures.kept ∙ c.requires.store.constraints ∙ ap (λ s. s.constraints) (sym c.catalogue.ensures) in
    wave_applied_told c.args.context.now old.base later.base c.args.wave c.args.account.now c.changed.new.self c.next_wave_told.new.account is
    (c.in_ok-changed.ensures.told ∙ ap (λ (l : List Change). and_told c.args.account.now (Changed l ∷ [])) c.changes-2.ensures.list)
    (c.in_ok-next.ensures.told old.base c.args.context.now (sym c.catalogue.ensures) constraints (led old.tables old.base later.base c.args.wave.changes c.requires.applicable is))

pub returns-in_err-next-clause-told : goal.returns-in_err-next-clause-told
returns-in_err-next-clause-told g c =
    let old = g.K.ReferencingRows.view c.args.store.now in
    let later = g.K.ReferencingRows.view c.apply_all.new.store in
    let is = c.in_ok-apply_all.ensures.applied ∙ ap (λ l. database_after old.base (wave_of l)) c.changes.ensures.list in
    let constraints = ap (λ s. s.constraints) c.in_ok-apply_all.ensures.kept ∙ c.requires.store.constraints ∙ ap (λ s. s.constraints) (sym c.catalogue.ensures) in
    let e = c.in_err-next.field-0.0 in
    told_unless c.from_residual-in_err-next.result e _ c.from_residual-in_err-next.ensures.1
    (unless_memory (is_memory_cause e.cause) _ _
    (wave_applied_told c.args.context.now old.base later.base c.args.wave c.args.account.now c.changed.new.self c.next_wave_told.new.account is
    (c.in_ok-changed.ensures.told ∙ ap (λ (l : List Change). and_told c.args.account.now (Changed l ∷ [])) c.changes-2.ensures.list))
    (c.in_err-next.ensures.told old.base c.args.context.now (sym c.catalogue.ensures) constraints (led old.tables old.base later.base c.args.wave.changes c.requires.applicable is)))
