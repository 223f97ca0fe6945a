-- When no row needs a look: no foreign key has RESTRICT, or there is only one foreign key.
use Rattle.std.specs.Prelude.{⊤, nat_lt, ◌&&◌, ◌||◌, ◌==◌, find}
use Rattle.std.specs.List.{cons_option, list_any}
use Rattle.std.specs.Option.{option_map}
use Rattle.std.proofs.Common.{◌≡◌, ℕ, ◌+◌, ◌≤◌, refl, Bool, true, false, cond, length, List, [], ◌∷◌, ◌++◌, map, flat_map, Option, Some, None, is_some, arith, rules, ap, sym, ◌∙◌}
use Rattle.std.proofs.Math.Bool.{and-false}
use Rattle.iv_expr.specs.declared.row.StoredRow.{StoredRow}
use Rattle.iv_expr.specs.declared.row.Change.{Change}
use Rattle.iv_expr.specs.Changes.{wave_of}
use Rattle.iv_catalogue.specs.Catalogues.{Schema}
use Rattle.iv_catalogue.specs.declared.cause.Fault.{Fault}
use Rattle.iv_catalogue.specs.declared.constraint.Constraint.{Constraint}
use Rattle.iv_catalogue.specs.declared.constraint.ForeignKey.{ForeignKey}
use Rattle.iv_machine.specs.declared.effect.Effect.{Effect}
use Rattle.iv_machine.specs.Databases.{row_at, fault_at}
use Rattle.iv_machine.specs.ReferentialActions.{action_on, disagree, foreign_key, have_deletion, is_restrict, keeps_reference}
use Rattle.iv_laws_levels.specs.Holders.{loss_of_new, row_before}
use Rattle.iv_laws_kept.specs.FollowingWaves.{clashes, first_conflict, least}
use Rattle.iv_exec_actions.specs.AffectedForeignKey.{AffectedForeignKey, action_for, affected_from, affected_where, change_losing}
use Rattle.iv_exec_actions.specs.Following.{conflict_at, effects_among, effects_at, effects_by, effects_for, may_restrict, restricted_at, restricted_fault, restricts}
use Rattle.iv_exec_actions.proofs.Nothing.{none_least}

-- ---- no foreign key has RESTRICT

or_left : (a b : Bool) → (a || b) ≡ false → a ≡ false
or_left true b e = e
or_left false b e = refl

or_right : (a b : Bool) → (a || b) ≡ false → b ≡ false
or_right true b e = absurd cc
or_right false b e = e

no_restrict : (fk : ForeignKey) → (is_restrict fk.on_delete || is_restrict fk.on_update) ≡ false → (new : Option (List _)) → is_restrict (action_on fk (loss_of_new fk new)) ≡ false
no_restrict fk e None = or_left (is_restrict fk.on_delete) (is_restrict fk.on_update) e
no_restrict fk e (Some new) = or_right (is_restrict fk.on_delete) (is_restrict fk.on_update) e

not_restricting : (row : StoredRow) (x : AffectedForeignKey) → may_restrict x ≡ false → restricts row x ≡ false
not_restricting row x e = ap (λ b. (row.table == x.reference.table) && b) (by (change_losing x row)) ∙ and-false (row.table == x.reference.table)
  where
    by : (o : Option Change) → ◌≡◌ {A = Bool} (elim o [ Some c ↦ is_restrict (action_for x.reference.key c) | None ↦ false ]) false
    by None = refl
    by (Some c) = no_restrict x.reference.key e c.new

none_restricting : (row : StoredRow) (xs : List AffectedForeignKey) → list_any may_restrict xs ≡ false → find (restricts row) xs ≡ None
none_restricting row [] e = refl
none_restricting row (x ∷ xs) e =
    ap (λ b. cond b (Some x) (find (restricts row) xs)) (not_restricting row x (or_left (may_restrict x) (list_any may_restrict xs) e))
    ∙ none_restricting row xs (or_right (may_restrict x) (list_any may_restrict xs) e)

pub none_restricted : (xs : List AffectedForeignKey) (changes : List Change) (later : List StoredRow) (numbers : List ℕ) → list_any may_restrict xs ≡ false
    → least (restricted_at xs changes later) numbers ≡ None
none_restricted xs changes later numbers e = none_least (restricted_at xs changes later) (λ number. by (row_before (wave_of changes) later number)) numbers
  where
    by : (o : Option StoredRow) → ◌≡◌ {A = Option Fault} (elim o [ Some row ↦ restricted_fault xs row | None ↦ None ]) None
    by None = refl
    by (Some row) = ap (λ o. option_map (λ x. fault_at x.reference.id row) o) (none_restricting row xs e)

-- ---- one foreign key alone

-- the effects are all of one foreign key
abbrev AreOf : ℕ → List (ℕ × Effect) → Type 0
AreOf id [] = ⊤
AreOf id (e ∷ es) = (e.0 ≡ id) × AreOf id es

of_map : (id : ℕ) (effects : List Effect) → AreOf id (map (λ effect. (id, effect)) effects)
of_map id [] = tt
of_map id (effect ∷ effects) = (refl, of_map id effects)

of_append : (id : ℕ) (es others : List (ℕ × Effect)) → AreOf id es → AreOf id others → AreOf id (es ++ others)
of_append id [] others a b = b
of_append id (e ∷ es) others a b = (a.0, of_append id es others a.1 b)

not_below : (a b : ℕ) → a ≡ b → nat_lt a b ≡ false
not_below a b e = search rules

no_clash : (id : ℕ) (es : List (ℕ × Effect)) (own : ℕ × Effect) → AreOf id es → own.0 ≡ id → clashes es own ≡ false
no_clash id [] own a e = refl
no_clash id (earlier ∷ es) own a e =
    ap (λ b. (b && disagree earlier.1 own.1) || clashes es own) (not_below earlier.0 own.0 (a.0 ∙ sym e)) ∙ no_clash id es own a.1 e

no_find : (id : ℕ) (all es : List (ℕ × Effect)) → AreOf id all → AreOf id es → find (clashes all) es ≡ None
no_find id all [] a b = refl
no_find id all (e ∷ es) a b = ap (λ t. cond t (Some e) (find (clashes all) es)) (no_clash id all e a b.0) ∙ no_find id all es a b.1

none_first : (id : ℕ) (es : List (ℕ × Effect)) → AreOf id es → first_conflict es ≡ None
none_first id es a = ap (λ o. cond (have_deletion es) None (option_map (λ e. e.0) o)) (no_find id es es a a) ∙ both (have_deletion es)
  where
    both : (b : Bool) → ◌≡◌ {A = Option ℕ} (cond b None None) None
    both true = refl
    both false = refl

of_one : (schema : Schema) (x : AffectedForeignKey) (before after : StoredRow) → AreOf x.reference.id (effects_among schema (x ∷ []) before after)
of_one schema x before after = by (keeps_reference before after x.reference)
  where
    by_effects : (o : Option Change) → AreOf x.reference.id (map (λ effect. (x.reference.id, effect)) (elim o [ Some c ↦ effects_for schema x c | None ↦ [] ]))
    by_effects None = tt
    by_effects (Some c) = of_map x.reference.id (effects_for schema x c)

    by : (b : Bool) → AreOf x.reference.id (flat_map (effects_by schema before) (cond b (x ∷ []) []))
    by true = of_append x.reference.id (effects_by schema before x) [] (by_effects (change_losing x before)) tt
    by false = tt

few_effects : (schema : Schema) (xs : List AffectedForeignKey) (before after : StoredRow) → length xs ≤ 1 → (id : ℕ) × AreOf id (effects_among schema xs before after)
few_effects schema [] before after l = (0, tt)
few_effects schema (x ∷ []) before after l = (x.reference.id, of_one schema x before after)
few_effects schema (x ∷ y ∷ xs) before after l = absurd (omega arith)

none_at : (schema : Schema) (xs : List AffectedForeignKey) (changes : List Change) (later : List StoredRow) (after : StoredRow) → length xs ≤ 1
    → first_conflict (effects_at schema xs changes later after) ≡ None
none_at schema xs changes later after l = by (row_before (wave_of changes) later after.number)
  where
    by : (o : Option StoredRow)
        → ◌≡◌ {A = Option ℕ} (first_conflict (elim o [ Some before ↦ effects_among schema xs before after | None ↦ [] ])) None
    by None = refl
    by (Some before) = let of = few_effects schema xs before after l in none_first of.0 (effects_among schema xs before after) of.1

pub none_disagreeing : (schema : Schema) (xs : List AffectedForeignKey) (changes : List Change) (later : List StoredRow) (numbers : List ℕ) → length xs ≤ 1
    → least (conflict_at schema xs changes later) numbers ≡ None
none_disagreeing schema xs changes later numbers l = none_least (conflict_at schema xs changes later) (λ number. by (row_at later number)) numbers
  where
    by : (o : Option StoredRow)
        → ◌≡◌ {A = Option Fault}
        (elim o [ Some after ↦ option_map (λ id. fault_at id after) (first_conflict (effects_at schema xs changes later after)) | None ↦ None ]) None
    by None = refl
    by (Some after) = ap (λ o. option_map (λ id. fault_at id after) o) (none_at schema xs changes later after l)

-- ---- there is no foreign key

none_there : (o : Option ForeignKey) → is_some o ≡ false → o ≡ None
none_there None e = refl
none_there (Some fk) e = absurd cc

pub none_affected : (changes : List Change) (id : ℕ) (constraints : List Constraint) → list_any (λ c. is_some (foreign_key c.rule)) constraints ≡ false
    → affected_from changes id constraints ≡ []
none_affected changes id [] e = refl
none_affected changes id (c ∷ constraints) e =
    ap (λ (o : Option ForeignKey). cons_option (affected_where changes (elim o [ Some fk ↦ Some (record { id = id; table = c.table; key = fk }) | None ↦ None ])) (affected_from changes (id + 1) constraints))
    (none_there (foreign_key c.rule) (or_left (is_some (foreign_key c.rule)) (list_any (λ x. is_some (foreign_key x.rule)) constraints) e))
    ∙ none_affected changes (id + 1) constraints (or_right (is_some (foreign_key c.rule)) (list_any (λ x. is_some (foreign_key x.rule)) constraints) e)
