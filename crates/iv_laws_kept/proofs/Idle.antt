-- What foreign keys with NO ACTION do: nothing.
use Rattle.std.proofs.Common.{◌≡◌, refl, ℕ, Bool, true, false, ◌&&◌, if◌then◌else◌, List, [], ◌∷◌, ◌++◌, filter, map, Option, Some, None, sym, ap, ◌∙◌}
use Rattle.std.specs.Bool.{◌==◌}
use Rattle.std.specs.List.{flat_map}
use Rattle.std.proofs.lemmas.Bool.{eqb-true, eq-eqb}
use Rattle.iv_value.specs.Values.{all_same}
use Rattle.iv_expr.specs.declared.row.StoredRow.{StoredRow}
use Rattle.iv_syntax.specs.declared.table.ReferentialAction.TheVariants as action
use Rattle.iv_catalogue.specs.Catalogues.{Schema}
use Rattle.iv_machine.specs.declared.effect.Effect.{Effect}
use Rattle.iv_key.specs.Keys.{key_of, none_null}
use Rattle.iv_machine.specs.Databases.{row_at, fault_at}
use Rattle.iv_machine.specs.ReferentialActions.{Reference, Loss, LostKeys, lost_reference, action_on, is_restrict, effects_of_action, effects_of_loss, keeps_reference}
use Rattle.iv_laws_levels.proofs.Keys.{and_first}
use Rattle.iv_laws_levels.proofs.RowNumbers.{some_none}
use Rattle.iv_laws_kept.specs.FollowingWaves.{protects, effects_of, is_among, EachReference, IsIdle, IsIdleElsewhere}
use Rattle.iv_laws_kept.proofs.FirstPairs.{pairs}

-- each of all, from each that passes and each that doesn't
pub each_of_all : {P : Reference → Type 0} (p : Reference → Bool) (ks : List Reference) → ((k : Reference) → p k ≡ false → P k) → EachReference P (filter p ks) → EachReference P ks
each_of_all p [] others h = tt
each_of_all {P} p (k ∷ ks) others h = where_passes (p k) refl (λ more. each_of_all p ks others more) h
  where
    where_passes : (b : Bool) → p k ≡ b → (EachReference P (filter p ks) → EachReference P ks)
        → EachReference P (if b then k ∷ filter p ks else filter p ks) → P k × EachReference P ks
    where_passes true e rest more = (more.0, rest more.1)
    where_passes false e rest more = (others k e, rest more)

-- a key that a row refers to was lost
pub lost_key : (lost : LostKeys) (k : Reference) (row : StoredRow) (loss : Loss) → lost_reference lost k.key row ≡ Some loss
    → lost k.key (key_of k.key.columns row.values) ≡ Some loss
lost_key lost k row loss e = where_full (none_null (key_of k.key.columns row.values)) e
  where
    where_full : (b : Bool) → (if b then lost k.key (key_of k.key.columns row.values) else None) ≡ Some loss → lost k.key (key_of k.key.columns row.values) ≡ Some loss
    where_full true f = f
    where_full false f = absurd (some_none loss (sym f))

pub idle_elsewhere : (lost : LostKeys) (later : List StoredRow) (numbers : List ℕ) (k : Reference) → IsIdle lost k → IsIdleElsewhere lost later numbers k
idle_elsewhere lost later numbers k h row loss there table apart e =
    h (key_of k.key.columns row.values) loss (lost_key lost k row loss e)

-- ---- RESTRICT

restricts_nothing : (k : Reference) (o : Option Loss) → ((loss : Loss) → o ≡ Some loss → action_on k.key loss ≡ action.NoAction)
    → (elim o [ Some loss ↦ is_restrict (action_on k.key loss) | None ↦ false ]) ≡ false
restricts_nothing k None h = refl
restricts_nothing k (Some loss) h = ap is_restrict (h loss refl)

protects_none : (lost : LostKeys) (row : StoredRow) (k : Reference)
    → ((loss : Loss) → (row.table == k.table) ≡ true → lost_reference lost k.key row ≡ Some loss → action_on k.key loss ≡ action.NoAction)
    → protects lost row k ≡ false
protects_none lost row k h = where_here (row.table == k.table) refl
  where
    where_here : (b : Bool) → (row.table == k.table) ≡ b
        → (b && elim (lost_reference lost k.key row) [ Some loss ↦ is_restrict (action_on k.key loss) | None ↦ false ]) ≡ false
    where_here true e = restricts_nothing k (lost_reference lost k.key row) (λ loss f. h loss e f)
    where_here false e = refl

-- a row that isn't found isn't protected
pub not_protected : (lost : LostKeys) (later : List StoredRow) (numbers : List ℕ) (k : Reference) (row : StoredRow) → IsIdleElsewhere lost later numbers k
    → row_at later row.number ≡ Some row → is_among numbers row.number ≡ false → protects lost row k ≡ false
not_protected lost later numbers k row h there apart = protects_none lost row k (λ loss table e. h row loss there table apart e)

no_row : (p : StoredRow → Bool) (rows : List StoredRow) → ((r : StoredRow) → p r ≡ false) → filter p rows ≡ []
no_row p [] h = refl
no_row p (r ∷ rows) h = ap (λ b. if b then r ∷ filter p rows else filter p rows) (h r) ∙ no_row p rows h

-- an idle foreign key protects no row
pub pairs_of_acting : (lost : LostKeys) (acts : Reference → Bool) (ks : List Reference) (rows : List StoredRow) → ((k : Reference) → acts k ≡ false → IsIdle lost k)
    → pairs (protects lost) ks rows ≡ pairs (protects lost) (filter acts ks) rows
pairs_of_acting lost acts [] rows idle = refl
pairs_of_acting lost acts (k ∷ ks) rows idle = where_acts (acts k) refl (pairs_of_acting lost acts ks rows idle)
  where
    where_acts : (b : Bool) → acts k ≡ b → pairs (protects lost) ks rows ≡ pairs (protects lost) (filter acts ks) rows
        → pairs (protects lost) (k ∷ ks) rows ≡ pairs (protects lost) (if b then k ∷ filter acts ks else filter acts ks) rows
    where_acts true e rest = ap (λ l. map (fault_at k.id) (filter (λ r. protects lost r k) rows) ++ l) rest
    where_acts false e rest =
        ap (λ l. map (fault_at k.id) l ++ pairs (protects lost) ks rows)
        (no_row (λ r. protects lost r k) rows (λ r. protects_none lost r k (λ loss table f. idle k e (key_of k.key.columns r.values) loss (lost_key lost k r loss f))))
        ∙ rest

-- ---- effects

-- what a foreign key does to a row
abbrev pub effects_with : Schema → LostKeys → StoredRow → Reference → List (ℕ × Effect)
effects_with schema lost before k = map (λ effect. (k.id, effect)) (effects_of_loss schema k (lost_reference lost k.key before))

does_nothing : (schema : Schema) (k : Reference) (o : Option Loss) → ((loss : Loss) → o ≡ Some loss → action_on k.key loss ≡ action.NoAction)
    → effects_of_loss schema k o ≡ []
does_nothing schema k None h = refl
does_nothing schema k (Some loss) h = ap (effects_of_action schema k loss) (h loss refl)

-- an idle foreign key has no effect
pub effects_of_acting : (schema : Schema) (lost : LostKeys) (acts : Reference → Bool) (ks : List Reference) (before after : StoredRow) → ((k : Reference) → acts k ≡ false → IsIdle lost k)
    → effects_of schema ks lost before after ≡ effects_of schema (filter acts ks) lost before after
effects_of_acting schema lost acts [] before after idle = refl
effects_of_acting schema lost acts (k ∷ ks) before after idle = where_acts (acts k) refl (effects_of_acting schema lost acts ks before after idle)
  where
    some : List Reference → List Reference
    some l = filter (keeps_reference before after) l

    followed : List Reference → List (ℕ × Effect)
    followed l = flat_map (effects_with schema lost before) l

    both : (kept : Bool) → followed (some ks) ≡ followed (some (filter acts ks))
        → followed (if kept then k ∷ some ks else some ks) ≡ followed (if kept then k ∷ some (filter acts ks) else some (filter acts ks))
    both true rest = ap (λ l. effects_with schema lost before k ++ l) rest
    both false rest = rest

    one : acts k ≡ false → (kept : Bool) → followed (some ks) ≡ followed (some (filter acts ks))
        → followed (if kept then k ∷ some ks else some ks) ≡ followed (some (filter acts ks))
    one e true rest =
        ap (λ l. map (λ effect. (k.id, effect)) l ++ followed (some ks))
        (does_nothing schema k (lost_reference lost k.key before) (λ loss f. idle k e (key_of k.key.columns before.values) loss (lost_key lost k before loss f)))
        ∙ rest
    one e false rest = rest

    where_acts : (b : Bool) → acts k ≡ b → followed (some ks) ≡ followed (some (filter acts ks))
        → followed (some (k ∷ ks)) ≡ followed (some (if b then k ∷ filter acts ks else filter acts ks))
    where_acts true e rest = both (keeps_reference before after k) rest
    where_acts false e rest = one e (keeps_reference before after k) rest

turned : (a b : ℕ) → (a == b) ≡ true → (b == a) ≡ true
turned a b e = eq-eqb b a (sym (eqb-true a b e))

-- nothing is done to a row that isn't found
pub no_effects : (schema : Schema) (lost : LostKeys) (later : List StoredRow) (numbers : List ℕ) (ks : List Reference) (row : StoredRow)
    → EachReference (IsIdleElsewhere lost later numbers) ks → row_at later row.number ≡ Some row → is_among numbers row.number ≡ false
    → effects_of schema ks lost row row ≡ []
no_effects schema lost later numbers [] row h there apart = refl
no_effects schema lost later numbers (k ∷ ks) row h there apart =
    where_kept (keeps_reference row row k) refl (no_effects schema lost later numbers ks row h.1 there apart)
  where
    some : List Reference
    some = filter (keeps_reference row row) ks

    where_kept : (b : Bool) → keeps_reference row row k ≡ b → flat_map (effects_with schema lost row) some ≡ []
        → flat_map (effects_with schema lost row) (if b then k ∷ some else some) ≡ []
    where_kept false e rest = rest
    where_kept true e rest =
        let table : (row.table == k.table) ≡ true =
        turned k.table row.table (and_first (k.table == row.table) (all_same (key_of k.key.columns row.values) (key_of k.key.columns row.values)) e) in
        ap (λ l. map (λ effect. (k.id, effect)) l ++ flat_map (effects_with schema lost row) some)
        (does_nothing schema k (lost_reference lost k.key row) (λ loss f. h.0 row loss there table apart f))
        ∙ rest
