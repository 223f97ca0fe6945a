-- The effects that are made for a wave are those by which an account tells how foreign keys disagree.
use Rattle.std.proofs.Common.{◌≡◌, refl, ℕ, List, [], filter, Option, Some, None, sym, ap, ◌∙◌}
use Rattle.iv_expr.specs.declared.row.StoredRow.{StoredRow}
use Rattle.iv_expr.specs.declared.row.Change.{Change}
use Rattle.iv_expr.specs.Changes.{wave_of}
use Rattle.iv_catalogue.specs.Catalogues.{Schema}
use Rattle.iv_catalogue.specs.declared.cause.Fault.{Fault}
use Rattle.iv_machine.specs.declared.database.Database.{Database}
use Rattle.iv_machine.specs.declared.effect.Effect.{Effect}
use Rattle.iv_machine.specs.Databases.{row_at}
use Rattle.iv_machine.specs.ReferentialActions.{Reference, references, LostKeys, lost_keys, effects_on}
use Rattle.iv_account.specs.declared.entry.Disagreement.{Disagreement}
use Rattle.iv_account.specs.Accounts.{disagreement_at}
use Rattle.iv_account.specs.Disagreements.{disagreement}
use Rattle.iv_laws_levels.specs.Holders.{row_before, keys_lost_by}
use Rattle.iv_laws_kept.specs.FollowingWaves.{effects_of, LedTo}
use Rattle.iv_laws_kept.proofs.Idle.{effects_of_acting}
use Rattle.iv_exec_actions.specs.AffectedForeignKey.{AffectedForeignKey, acts_in, affected_from}
use Rattle.iv_exec_actions.specs.Following.{disagreement_by, effects_at}
use Rattle.iv_exec_actions.proofs.ActingKeys.{lost_keys_are, row_then_is}
use Rattle.iv_exec_actions.proofs.Found.{idle}
use Rattle.iv_exec_actions.proofs.Matching.{affected_is, effects_at_is}

module _ (schema : Schema) (before later : Database) (changes : List Change) (xs : List AffectedForeignKey)
    (are : xs ≡ affected_from changes 0 schema.constraints) (led : LedTo before changes later) where
  abbrev all : List Reference
  all = references schema.constraints

  abbrev lost : LostKeys
  lost = keys_lost_by (wave_of changes)

  -- foreign keys that do nothing have no effect
  of_acting : (after : StoredRow) (o : Option StoredRow)
      → ◌≡◌ {A = List (ℕ × Effect)} (elim o [ Some b ↦ effects_of schema (filter (acts_in changes) all) lost b after | None ↦ [] ])
      (effects_on schema lost o after)
  of_acting after None = refl
  of_acting after (Some b) = sym (effects_of_acting schema lost (acts_in changes) all b after (idle changes))

  effects_are : (after : StoredRow)
      → effects_at schema xs changes later.rows after ≡ effects_on schema (lost_keys before.rows later.rows) (row_at before.rows after.number) after
  effects_are after =
      ap (λ l. effects_at schema l changes later.rows after) (are ∙ affected_is changes 0 schema.constraints)
      ∙ effects_at_is changes schema (filter (acts_in changes) all) later.rows after
      ∙ of_acting after (row_before (wave_of changes) later.rows after.number)
      ∙ (λ i. effects_on schema (sym (lost_keys_are before later changes led) i) (sym (row_then_is before later changes after.number led) i) after)

  pub disagreement_is : (fault : Fault) → disagreement_by schema xs changes later.rows fault ≡ disagreement_at schema before.rows later.rows fault
  disagreement_is fault = by (row_at later.rows fault.row)
    where
      by : (o : Option StoredRow)
          → ◌≡◌ {A = Option Disagreement}
          (elim o [ Some after ↦ disagreement fault.constraint (effects_at schema xs changes later.rows after) | None ↦ None ])
          (elim o [
            | Some after ↦ disagreement fault.constraint (effects_on schema (lost_keys before.rows later.rows) (row_at before.rows after.number) after)
            | None ↦ None
          ])
      by None = refl
      by (Some after) = ap (disagreement fault.constraint) (effects_are after)
