-- What is left of a store over several parts of a data statement.
use Rattle.std.proofs.Common.{◌≡◌, ℕ, true, Result, Ok, Err, IsErrAnd, ap, sym, subst, ◌∙◌}
use Rattle.iv_expr.specs.Changes.{Wave}
use Rattle.iv_catalogue.specs.Catalogues.{Schema}
use Rattle.iv_catalogue.specs.Refusals.{is_memory_cause}
use Rattle.iv_catalogue.specs.declared.cause.Refusal.{Refusal}
use Rattle.iv_machine.specs.Databases.{database_after}
use Rattle.iv_store.specs.Lookups.{LooksUp}
use Rattle.iv_store.specs.Stores.{StoreState}
use Rattle.iv_laws_rows.specs.RowFits.{changes_fit}
use Rattle.iv_laws_rows.specs.Changing.{StoreFits, with_database}
use Rattle.iv_laws_rows.proofs.FittingChanges.{rows_after_fit}
use Rattle.iv_exec_context.proofs.Answers.{anyway}
use Rattle.iv_exec_waves.proofs.Looking.{kept_both, looked_refused, looked_up_both}
use Rattle.iv_exec_waves.proofs.ToldOn.{told_unless}
use Rattle.iv_exec_waves.specs.Running.{LeavesStore}

-- a part, and then another
pub left_by_both : {A B C : Type 0} (schema : Schema) (x : A) (y : B) (z : C) (a b c : StoreState) (n m k : ℕ)
    → LeavesStore schema (Ok x) a n b m → LeavesStore schema (Ok y) b m c k → LeavesStore schema (Ok z) a n c k
left_by_both schema x y z a b c n m k h g = record {
  kept = kept_both a b c h.kept g.kept;
  looked_up = looked_up_both a b c n m k h.kept h.looked_up g.looked_up;
  fits = g.fits;
}

-- a part, and then another that is refused, if the refusal is told on
pub left_by_refused : {A B C : Type 0} (schema : Schema) (x : A) (r : Result C Refusal) (e : Refusal) (a b c : StoreState) (n m k : ℕ) → IsErrAnd r (λ y. y ≡ e)
    → LeavesStore schema (Ok x) a n b m → LeavesStore {A = B} schema (Err e) b m c k → LeavesStore schema r a n c k
left_by_refused schema x (Ok z) e a b c n m k told h g = absurd told
left_by_refused {C = C} schema x (Err y) e a b c n m k told h g = record {
  kept = kept_both a b c h.kept g.kept;
  looked_up = told_unless {A = C} (Err y) e (LooksUp a n c k) told (looked_refused (is_memory_cause e.cause) a b c n m k h.kept h.looked_up g.looked_up);
  fits = tt;
}

-- a look that changes nothing
pub kept_by_a_look : (old b c : StoreState) → b ≡ with_database old b.base → c ≡ b → c ≡ with_database old c.base
kept_by_a_look old b c kept same = subst (λ (s : StoreState). s ≡ with_database old s.base) (sym same) kept

-- a refusal after such a look, which is told on
pub left_by_look : {C : Type 0} (schema : Schema) (r : Result C Refusal) (e : Refusal) (old b c : StoreState) (n k : ℕ) → IsErrAnd r (λ y. y ≡ e)
    → b ≡ with_database old b.base → c ≡ b → LooksUp old n c k → LeavesStore schema r old n c k
left_by_look schema (Ok z) e old b c n k told kept same h = absurd told
left_by_look {C = C} schema (Err y) e old b c n k told kept same h = record {
  kept = kept_by_a_look old b c kept same;
  looked_up = told_unless {A = C} (Err y) e (LooksUp old n c k) told (anyway (is_memory_cause e.cause) (LooksUp old n c k) h);
  fits = tt;
}

-- the rows still fit after a wave
pub fits_after_wave : (schema : Schema) (s later : StoreState) (wave : Wave) → StoreFits schema s → changes_fit s.tables wave.changes ≡ true
    → later.base ≡ database_after s.base wave → later ≡ with_database s later.base → StoreFits schema later
fits_after_wave schema s later wave h fit is kept =
    let suits = subst (λ tables. changes_fit tables wave.changes ≡ true) h.tables fit in
    let rows = rows_after_fit schema.tables s.base wave h.rows suits in
    subst (StoreFits schema) (sym (kept ∙ ap (with_database s) is))
    (record { tables = h.tables; constraints = h.constraints; suits = h.suits; rows = rows })
