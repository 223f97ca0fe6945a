-- The key that a foreign key names.
use Rattle.std.proofs.Common.{◌≡◌, refl, ℕ, zero, suc, ◌+◌, Bool, true, false, ◌||◌, if◌then◌else◌, List, [], ◌∷◌, filter_map, slice_get, Option, Some, None, sym, ap, ◌∙◌, arith}
use Rattle.std.specs.Bool.{◌==◌}
use Rattle.std.specs.List.{list_any, list_all, cons_option, enumerate_from}
use Rattle.iv_laws_kept.specs.Types.{Constraint, ForeignKey}
use Rattle.iv_laws_kept.specs.Types.rule
use Rattle.iv_machine.specs.Databases.{first}
use Rattle.iv_store.specs.Stores.{unique_columns, are_same_columns, is_named_key, has_key}
use Rattle.iv_machine.specs.ReferentialActions.{foreign_key}
use Rattle.iv_laws_kept.specs.Kept.{KeyConstraint, named_by, named_key, AllNamed}
use Rattle.iv_laws_levels.proofs.Keys.{false_true, and_first, and_second}
use Rattle.iv_laws_levels.proofs.RowNumbers.{some_none, some_same}

-- The key that a foreign key names, as a constraint.
pub record Named (constraints : List Constraint) (fk : ForeignKey) : Type 0 where
  pub key : KeyConstraint
  pub constraint : Constraint
  pub found : named_key constraints fk ≡ Some key
  pub at : slice_get constraints key.id ≡ Some constraint
  pub columns : unique_columns constraint.rule ≡ Some key.columns
  pub named : is_named_key fk constraint ≡ true

-- the key that a foreign key names, from a place on
record NamedFrom (start : ℕ) (constraints : List Constraint) (fk : ForeignKey) : Type 0 where
  key : KeyConstraint
  constraint : Constraint
  place : ℕ
  found : first (filter_map (named_by fk) (enumerate_from start constraints)) ≡ Some key
  number : key.id ≡ start + place
  at : slice_get constraints place ≡ Some constraint
  columns : unique_columns constraint.rule ≡ Some key.columns
  named : is_named_key fk constraint ≡ true

-- a constraint that is named has columns
columns_of_named : (fk : ForeignKey) (c : Constraint) → is_named_key fk c ≡ true → (columns : List ℕ) × (unique_columns c.rule ≡ Some columns)
columns_of_named fk c e = by_columns (unique_columns c.rule) refl (and_second (c.table == fk.referenced) (elim (unique_columns c.rule) [ Some columns ↦ are_same_columns columns fk.key | None ↦ false ]) e)
  where
    by_columns : (o : Option (List ℕ)) → unique_columns c.rule ≡ o → elim o [ Some columns ↦ are_same_columns columns fk.key | None ↦ false ] ≡ true
        → (columns : List ℕ) × (unique_columns c.rule ≡ Some columns)
    by_columns None f h = absurd (false_true h)
    by_columns (Some columns) f h = (columns, f)

named_here : (fk : ForeignKey) (id : ℕ) (c : Constraint) (columns : List ℕ) → unique_columns c.rule ≡ Some columns → is_named_key fk c ≡ true
    → named_by fk (id, c) ≡ Some (record { id = id; columns = columns })
named_here fk id c columns e f =
    ap (λ o. elim o [ Some columns ↦ if is_named_key fk c then Some (record { id = id; columns = columns }) else None | None ↦ None ]) e
    ∙ ap (λ b. if b then Some (record { id = id; columns = columns }) else None) f

not_here : (fk : ForeignKey) (id : ℕ) (c : Constraint) → is_named_key fk c ≡ false → named_by fk (id, c) ≡ None
not_here fk id c e =
    ap (λ b. elim (unique_columns c.rule) [ Some columns ↦ if b then Some (record { id = id; columns = columns }) else None | None ↦ None ]) e
    ∙ nothing (unique_columns c.rule)
  where
    nothing : (o : Option (List ℕ)) → ◌≡◌ {A = Option KeyConstraint} (elim o [ Some columns ↦ if false then Some (record { id = id; columns = columns }) else None | None ↦ None ]) None
    nothing None = refl
    nothing (Some columns) = refl

named_from : (start : ℕ) (constraints : List Constraint) (fk : ForeignKey) → list_any (is_named_key fk) constraints ≡ true → NamedFrom start constraints fk
named_from start [] fk e = absurd (false_true e)
named_from start (c ∷ constraints) fk e =
    elim (is_named_key fk c) as (λ b. is_named_key fk c ≡ b → (b || list_any (is_named_key fk) constraints) ≡ true → NamedFrom start (c ∷ constraints) fk) [
      | true ↦ λ f _.
          let columns = columns_of_named fk c f in
          record {
            key = record { id = start; columns = columns.0 };
            constraint = c;
            place = 0;
            found = ap (λ o. first (cons_option o (filter_map (named_by fk) (enumerate_from (start + 1) constraints)))) (named_here fk start c columns.0 columns.1 f);
            number = omega arith;
            at = refl;
            columns = columns.1;
            named = f;
          }
      | false ↦ λ f h.
          let more = named_from (start + 1) constraints fk h in
          record {
            key = more.key;
            constraint = more.constraint;
            place = suc more.place;
            found = ap (λ o. first (cons_option o (filter_map (named_by fk) (enumerate_from (start + 1) constraints)))) (not_here fk start c f) ∙ more.found;
            number = omega (arith, more.number);
            at = more.at;
            columns = more.columns;
            named = more.named;
          }
    ] refl e

pub in_all : {A : Type 0} (p : A → Bool) (xs : List A) (i : ℕ) (x : A) → list_all p xs ≡ true → slice_get xs i ≡ Some x → p x ≡ true
in_all p [] i x e h = absurd (some_none x (sym h))
in_all p (y ∷ xs) zero x e h = ap p (sym (some_same y x h)) ∙ and_first (p y) (list_all p xs) e
in_all p (y ∷ xs) (suc i) x e h = in_all p xs i x (and_second (p y) (list_all p xs) e) h

pub named_of : (constraints : List Constraint) (id : ℕ) (c : Constraint) (fk : ForeignKey) → AllNamed constraints → slice_get constraints id ≡ Some c
    → c.rule ≡ rule.ForeignKey fk → Named constraints fk
named_of constraints id c fk all at is =
    let from = named_from 0 constraints fk (ap (λ r. has_key constraints (foreign_key r)) (sym is) ∙ in_all (λ d. has_key constraints (foreign_key d.rule)) constraints id c all at) in
    let number : from.key.id ≡ from.place = omega (arith, from.number) in
    record {
      key = from.key;
      constraint = from.constraint;
      found = from.found;
      at = ap (slice_get constraints) number ∙ from.at;
      columns = from.columns;
      named = from.named;
    }
