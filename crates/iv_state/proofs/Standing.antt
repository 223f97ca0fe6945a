-- The savepoints that stand, as an account tells them.
use Rattle.std.proofs.Common.{◌≡◌, ◌∙◌, ℕ, Bool, true, false, Option, Some, None, List, [], ◌∷◌, ◌++◌, length, map, String, string_bytes, arith, refl, ap, sym, subst}
use Rattle.std.specs.Map.{keys_of}
use Rattle.iv_modes.specs.ModeMaps.{ModeMap}
use Rattle.iv_machine.specs.Databases.{no_rows}
use Rattle.iv_machine.specs.Machine.{NamedSavepoint, Savepoint}
use Rattle.iv_account.specs.declared.entry.Entry.{Entry}
use Rattle.iv_account.specs.declared.entry.Entry.TheVariants.{Standing}
use Rattle.iv_account.specs.Sessions.{names_of, savepoint_told, standing_told}
use Rattle.iv_state.specs.Types.{Database}
use Rattle.iv_state.specs.Saved.{Saved, saved_names, saved_of, unnamed}
use Rattle.iv_state.specs.Saving.{last_named}
use Rattle.iv_state.specs.Kept.{IsCalm, IsOpen, Kept, Parts, StandsAs, later, savepoint_at, savepoints_of, state_of}
use Rattle.iv_state.proofs.Releasing.{found, not_found}
use Rattle.iv_state.proofs.Saves.{later_length}

-- the keys of the map of savepoints are their names
pub keys_named : {Y : Type 0} (es : List (String Y × Option ModeMap)) → map string_bytes (keys_of es) ≡ saved_names (map saved_of es)
keys_named [] = refl
keys_named (e ∷ es) = ap (λ (l : List (List ℕ)). string_bytes e.0 ∷ l) (keys_named es)

-- ---- names

-- the last of the savepoints of a state is the earliest
names_more : (saves : List Savepoint) (x : Savepoint) → names_of (saves ++ x ∷ []) ≡ x.name ∷ names_of saves
names_more [] x = refl
names_more (y ∷ saves) x = ap (λ (l : List (List ℕ)). l ++ y.name ∷ []) (names_more saves x)

names_in_order : (initial : ModeMap) (ss : List Saved) (dbs : List Database) → length ss ≡ length dbs → names_of (savepoints_of initial ss dbs) ≡ saved_names ss
names_in_order initial [] dbs e = refl
names_in_order initial (s ∷ ss) [] e = absurd (omega (arith, e))
names_in_order initial (s ∷ ss) (db ∷ dbs) e =
    names_more (savepoints_of initial ss dbs) (savepoint_at initial s db)
    ∙ ap (λ (l : List (List ℕ)). s.name ∷ l) (names_in_order initial ss dbs (omega (arith, e)))

names_are : (h : Parts) → Kept h → names_of (state_of h).savepoints ≡ saved_names h.saves
names_are h k = by h.active k.stands where
  by : (b : Bool) → StandsAs b h → names_of (state_of h).savepoints ≡ saved_names h.saves
  by true o = names_in_order h.initial h.saves (later h.store.marks) (sym (later_length h.store.marks (length h.saves) o.marks))
  by false calm =
      ap (λ (l : List Saved). names_of (savepoints_of h.initial l (later h.store.marks))) calm.saves ∙ sym (ap saved_names calm.saves)

-- ---- what is told of a name

-- nothing, if a savepoint has it
pub there_untold : (h : Parts) (name : List ℕ) (p : ℕ) → Kept h → last_named name h.saves ≡ Some p → savepoint_told (state_of h) name ≡ []
there_untold h name p k at = by h.active k.stands where
  by : (b : Bool) → StandsAs b h → savepoint_told (state_of h) name ≡ []
  by true o = ap (standing_told (state_of h).savepoints) (found h name p unnamed no_rows o at)
  by false calm = let none : None ≡ Some p = sym (ap (last_named name) calm.saves) ∙ at in cc

-- and otherwise the names of all
pub missing_told : (h : Parts) (name : List ℕ) → Kept h → last_named name h.saves ≡ None → savepoint_told (state_of h) name ≡ Standing (saved_names h.saves) ∷ []
missing_told h name k at =
    ap (standing_told (state_of h).savepoints) (not_found h name at) ∙ ap (λ (names : List (List ℕ)). Standing names ∷ []) (names_are h k)
