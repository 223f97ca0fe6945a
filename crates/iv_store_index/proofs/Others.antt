-- Groups of other constraints than those that are watched.
use Rattle.std.proofs.Common.{◌≡◌, refl, ℕ, ◌<◌, ◌≤◌, Bool, false, ◌&&◌, ◌||◌, not, List, [], ◌∷◌, ◌++◌, length, map, slice_get, Some, None, sym, ap, subst, ◌∙◌, arith, ⊎_elim}
use Rattle.std.proofs.lemmas.Bool.{cases_lt}
use Rattle.std.proofs.lemmas.Option.{slice_get_within}
use Rattle.iv_store_index.specs.Types.{StoredRow, Constraint}
use Rattle.iv_catalogue.specs.declared.constraint.Rule.{Rule}
use Rattle.iv_catalogue.specs.declared.constraint.Rule.TheVariants as rule
use Rattle.iv_catalogue.specs.Catalogues.{AllOn}
use Rattle.iv_key.specs.Keys.{none_null}
use Rattle.iv_store_groups.specs.Groups.{Contents, GroupOf, groups_of}
use Rattle.iv_laws_levels.specs.RisingRows.{Every}
use Rattle.iv_store_violating.specs.Flagging.{flag}
use Rattle.iv_store_violating.specs.Shown.{shown, shown_group}
use Rattle.iv_store_violating.proofs.Shown.{groups_shown}
use Rattle.iv_laws_kept.specs.Kept.{AllNamed, Group, Groups, Show, can_be_key, in_order_of, is_empty, is_free, is_kept_under, is_referenced, is_violating, rows_in, rows_under, violate}
use Rattle.iv_laws_kept.specs.Kept as kept
use Rattle.iv_laws_kept.specs.GroupFlags.{violating_of}
use Rattle.iv_laws_kept.proofs.Naming.{Named, named_of}
use Rattle.iv_store_faults.proofs.Taken.{among_first, among_more}
use Rattle.iv_store_faults.specs.Watching.{AreWatched, IsShownBy, Watching}
use Rattle.iv_store_index.proofs.Tables.{none_kept, of_tables, own_table}

-- the groups of the first constraints, so many of them, are the same
abbrev pub AreSame : ℕ → List (List GroupOf) → List (List GroupOf) → Type 0
AreSame count groups after = (k : ℕ) → k < count → groups_of after k ≡ groups_of groups k

same_shown : (count : ℕ) (groups after : List (List GroupOf)) → AreSame count groups after → (k : ℕ) → k < count → kept.groups_of (shown after) k ≡ kept.groups_of (shown groups) k
same_shown count groups after same k less = groups_shown after k ∙ ap (map shown_group) (same k less) ∙ sym (groups_shown groups k)

-- a group violates as before
same_violating : (constraints : List Constraint) (groups after : Groups) (id : ℕ) (c : Constraint) (g : Group) → AllNamed constraints → slice_get constraints id ≡ Some c
    → ((k : ℕ) → k < length constraints → kept.groups_of after k ≡ kept.groups_of groups k)
    → is_violating constraints after c g ≡ is_violating constraints groups c g
same_violating constraints groups after id c g all at same = by_rule c.rule refl
  where
    by_rule : (k : Rule) → c.rule ≡ k → violate constraints after c.rule g.key g.rows ≡ violate constraints groups c.rule g.key g.rows
    by_rule (rule.NotNull column) e = (λ i. violate constraints after (e i) g.key g.rows) ∙ (λ i. violate constraints groups (sym e i) g.key g.rows)
    by_rule (rule.Check condition) e = (λ i. violate constraints after (e i) g.key g.rows) ∙ (λ i. violate constraints groups (sym e i) g.key g.rows)
    by_rule (rule.Unique nulls columns) e = (λ i. violate constraints after (e i) g.key g.rows) ∙ (λ i. violate constraints groups (sym e i) g.key g.rows)
    by_rule (rule.PrimaryKey columns) e = (λ i. violate constraints after (e i) g.key g.rows) ∙ (λ i. violate constraints groups (sym e i) g.key g.rows)
    by_rule (rule.ForeignKey fk) e =
        let n : Named constraints fk = named_of constraints id c fk all at e in
        let less : n.key.id < length constraints = slice_get_within constraints n.key.id n.constraint n.at in
        let referenced : is_referenced constraints after fk g.key ≡ is_referenced constraints groups fk g.key =
        ap (λ o. elim o [
          | Some k ↦ can_be_key fk.key g.key && not (is_empty (rows_under after k.id (in_order_of k.columns fk.key g.key)))
          | None ↦ false
        ]) n.found
        ∙ ap (λ own. can_be_key fk.key g.key && not (is_empty (rows_in own (in_order_of n.key.columns fk.key g.key)))) (same n.key.id less)
        ∙ sym (ap (λ o. elim o [
          | Some k ↦ can_be_key fk.key g.key && not (is_empty (rows_under groups k.id (in_order_of k.columns fk.key g.key)))
          | None ↦ false
        ]) n.found) in
        (λ i. violate constraints after (e i) g.key g.rows)
        ∙ (λ i. not (is_empty g.rows) && (not (none_null g.key) || not (is_free fk.matching g.key || referenced i)))
        ∙ (λ i. violate constraints groups (sym e i) g.key g.rows)

same_flags : (p q : Group → Bool) (own : List Group) → ((g : Group) → p g ≡ q g) → map p own ≡ map q own
same_flags p q [] h = refl
same_flags p q (g ∷ own) h = λ i. h g i ∷ same_flags p q own h i

-- What is shown stays if the groups of the watched constraints do.
pub shown_same : (rows : List StoredRow) (w : Watching) (start now : Contents) → AllNamed w.constraints → AreSame (length w.constraints) start.groups now.groups → IsShownBy rows w start → IsShownBy rows w now
shown_same rows w start now all same s = record {
  in_order = s.in_order;
  shows = λ id c key at. ap (λ own. rows_in own key) (own id c at) ∙ s.shows id c key at;
  flagged = λ id c place at.
      s.flagged id c place at
      ∙ ap (λ xs. flag xs place) (same_flags (is_violating w.constraints (shown start.groups) c) (is_violating w.constraints (shown now.groups) c) (kept.groups_of (shown start.groups) id)
      (λ g. sym (same_violating w.constraints (shown start.groups) (shown now.groups) id c g all at everywhere)))
      ∙ ap (λ gs. flag (map (is_violating w.constraints (shown now.groups) c) gs) place) (sym (own id c at));
}
  where
    everywhere : (k : ℕ) → k < length w.constraints → kept.groups_of (shown now.groups) k ≡ kept.groups_of (shown start.groups) k
    everywhere = same_shown (length w.constraints) start.groups now.groups same

    own : (id : ℕ) (c : Constraint) → slice_get w.constraints id ≡ Some c → kept.groups_of (shown now.groups) id ≡ kept.groups_of (shown start.groups) id
    own id c at = everywhere id (slice_get_within w.constraints id c at)

pub watched_same : (w : Watching) (start now : Contents) → length start.groups ≤ length now.groups → AreSame (length w.constraints) start.groups now.groups → AreWatched w start → AreWatched w now
watched_same w start now more same s k less = record {
  in_groups = let within : k < length start.groups = (s k less).in_groups in omega (arith, within, more);
  in_violating = (s k less).in_violating;
  places = subst (λ g. length g ≤ length (violating_of w.violating k)) (sym (same k less)) (s k less).places;
}

-- ---- new constraints of a table of no row

pub shown_with_table : (rows : List StoredRow) (olds more : List Constraint) (tables : ℕ) (groups : List (List GroupOf)) → Show rows olds (shown groups) → AllOn tables more → Every (of_tables tables) rows
    → ((k : ℕ) → length olds ≤ k → k < length (olds ++ more) → groups_of groups k ≡ []) → Show rows (olds ++ more) (shown groups)
shown_with_table rows olds more tables groups show on every empty id c key at =
    ⊎_elim
    (λ (less : id < length olds). show id c key (among_first olds more id c less at))
    (λ (from : length olds ≤ id).
    let new = among_more olds more id c from at in
    ap (λ own. rows_in own key) (groups_shown groups id ∙ ap (map shown_group) (empty id from (slice_get_within (olds ++ more) id c at)))
    ∙ sym (none_kept tables c key rows (own_table tables more new.0 c on new.1) every))
    (cases_lt id (length olds))
