-- Foreign keys whose referenced keys a wave took away.
use Rattle.std.specs.Prelude.{ℕ, ◌+◌, Bool, ◌&&◌, if◌then◌else◌, ◌==◌, List, [], ◌∷◌, find, Option, Some, None, is_some}
use Rattle.std.specs.List.{list_any, cons_option}
use Rattle.iv_value.specs.declared.value.Value.{Value}
use Rattle.iv_expr.specs.declared.row.StoredRow.{StoredRow}
use Rattle.iv_expr.specs.declared.row.Change.{Change}
use Rattle.iv_expr.specs.Changes.{wave_of}
use Rattle.iv_syntax.specs.declared.table.ReferentialAction.{ReferentialAction}
use Rattle.iv_catalogue.specs.declared.constraint.Constraint.{Constraint}
use Rattle.iv_catalogue.specs.declared.constraint.ForeignKey.{ForeignKey}
use Rattle.iv_key.specs.Keys.{key_of, none_null}
use Rattle.iv_machine.specs.ReferentialActions.{Reference, reference, LostKeys, action_on}
use Rattle.iv_laws_levels.specs.Holders.{leaves_key, loses_key, loss_of_new, keys_lost_by}
use Rattle.iv_account.specs.Accounts.{acts}

-- ---- what a change takes away

abbrev pub taken_from : ForeignKey → Option (List Value) → Option (List Value) → Option (List Value)
taken_from fk None new = None
taken_from fk (Some old) new = if none_null (key_of fk.key old) && leaves_key fk old new then Some (key_of fk.key old) else None

-- the referenced key that a change takes away, if it takes one
abbrev pub key_taken : ForeignKey → Change → Option (List Value)
key_taken fk c = if c.table == fk.referenced then taken_from fk c.old c.new else None

-- The place of the first of these changes that takes a key away, if the first of them has this place.
abbrev pub first_taking : ForeignKey → List Value → ℕ → List Change → Option ℕ
first_taking fk key place [] = None
first_taking fk key place (c ∷ changes) = if loses_key fk key c then Some place else first_taking fk key (place + 1) changes

-- ---- actions

-- the action of a foreign key for a key that this change took away
abbrev pub action_for : ForeignKey → Change → ReferentialAction
action_for fk c = action_on fk (loss_of_new fk c.new)

-- a change takes a key away, for which the foreign key does something
abbrev pub acts_on : ForeignKey → Change → Bool
acts_on fk c = acts (action_for fk c) && is_some (key_taken fk c)

-- ---- foreign keys

-- A foreign key, with the changes of a wave.
pub record AffectedForeignKey : Type 0 where
  pub reference : Reference
  pub changes : List Change

-- one of the changes takes a key away for which the foreign key does something
abbrev pub acts_in : List Change → Reference → Bool
acts_in changes k = list_any (acts_on k.key) changes

abbrev pub under_wave : List Change → Reference → AffectedForeignKey
under_wave changes k = record { reference = k; changes = changes }

abbrev pub affected_where : List Change → Option Reference → Option AffectedForeignKey
affected_where changes None = None
affected_where changes (Some k) = if acts_in changes k then Some (under_wave changes k) else None

-- The foreign keys that do something, among constraints of which the first has this number.
abbrev pub affected_from : List Change → ℕ → List Constraint → List AffectedForeignKey
affected_from changes id [] = []
affected_from changes id (c ∷ constraints) = cons_option (affected_where changes (reference (id, c))) (affected_from changes (id + 1) constraints)

-- the keys that the wave took away
abbrev pub lost_by : AffectedForeignKey → LostKeys
lost_by x = keys_lost_by (wave_of x.changes)

-- the first change that takes a key away
abbrev pub change_taking : AffectedForeignKey → List Value → Option Change
change_taking x key = find (loses_key x.reference.key key) x.changes

-- the first change that takes away the key which a row refers to
abbrev pub change_losing : AffectedForeignKey → StoredRow → Option Change
change_losing x row =
    if none_null (key_of x.reference.key.columns row.values) then change_taking x (key_of x.reference.key.columns row.values) else None
