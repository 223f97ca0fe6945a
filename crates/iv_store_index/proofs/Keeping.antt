-- What is kept if constraints are added, and if marks come and go.
use Rattle.std.proofs.Common.{◌≡◌, refl, ℕ, zero, suc, ◌+◌, ◌<◌, ◌≤◌, Bool, true, false, Option, Some, None, Result, Ok, Err, IfOk, List, [], ◌∷◌, ◌++◌, length, map, take, drop, remove, find, filter, option_map, if◌then◌else◌, slice_get, arith, sym, ap, subst, ◌∙◌, ⊎_elim}
use Rattle.std.specs.Prelude.{◌≢◌}
use Rattle.std.specs.List.{list_all}
use Rattle.std.proofs.lemmas.List.{length-append}
use Rattle.iv_store_index.specs.Types.{StoredRow, Change, Constraint}
use Rattle.iv_store_index.specs.Kept.{HasSizes, HasTables, IsKept, OfTables}
use Rattle.iv_catalogue.specs.Catalogues.{AllOn}
use Rattle.iv_store_groups.specs.Groups.{Contents, GroupOf, groups_of, with_groups}
use Rattle.iv_laws_levels.proofs.RowNumbers.{some_none, some_same}
use Rattle.iv_laws_levels.specs.RisingRows.{Every}
use Rattle.iv_laws_kept.specs.Kept.{AllNamed, Show}
use Rattle.iv_machine.specs.declared.database.Database.{Database}
use Rattle.iv_machine.specs.Databases.{violates}
use Rattle.iv_machine.specs.ReferentialActions.{foreign_key}
use Rattle.iv_store_violating.specs.Shown.{shown}
use Rattle.iv_store_rows.specs.declared.marked_point.MarkedPoint.{MarkedPoint}
use Rattle.iv_store_rows.specs.Histories.{History, Marked, at_mark, database_at, marked_databases, marked_of, noted_at, rows_before_all, saved_of}
use Rattle.iv_store_rows.proofs.Histories.{there}
use Rattle.iv_store_rows.proofs.Marks.{drop_all}
use Rattle.iv_store_rows.proofs.Marks as rows
use Rattle.iv_store.specs.Stores.{has_key}
use Rattle.iv_store_faults.specs.Watching.{AreWatched, IsShownBy, NoneViolates, Watching}
use Rattle.iv_store_following.proofs.GroupsShown.{others_after}
use Rattle.iv_store_groups.proofs.GroupsLaws.{constraints_stay}
use Rattle.iv_store_faults.proofs.WatchAppended.{named_append}
use Rattle.iv_store_index.proofs.Marks.{marked_at, removed_at}
use Rattle.iv_store_index.proofs.Others.{AreSame, shown_same, shown_with_table, watched_same}
use Rattle.iv_store_index.proofs.Sizes.{sizes_now}
use Rattle.iv_store_index.proofs.Tables.{every_at, none_violates, of_tables, of_taken}

-- ---- no mark

no_mark : (marks : List MarkedPoint) (place : ℕ) (m : MarkedPoint) → marks ≡ [] → slice_get marks place ≡ Some m → ⊥
no_mark marks place m e at = none place (ap (λ l. slice_get l place) (sym e) ∙ at)
  where
    none : (place : ℕ) → slice_get {X = MarkedPoint} [] place ≡ Some m → ⊥
    none zero h = some_none m (sym h)
    none (suc place) h = some_none m (sym h)

pub kept_unmarked : (h : History) (w : Watching) (groups : Contents) → h.marks ≡ [] → IsShownBy h.rows w groups → AreWatched w groups → AllNamed w.constraints → IsKept h w groups
kept_unmarked h w groups none shown watched named = record {
  shown = shown;
  watched = watched;
  named = named;
  sizes = λ place m n at from to. absurd (no_mark h.marks place m none at);
}

-- Only groups of constraints that aren't watched are others.
pub kept_others : (h : History) (w : Watching) (start now : Contents) → h.marks ≡ [] → length start.groups ≤ length now.groups → AreSame (length w.constraints) start.groups now.groups
    → IsKept h w start → IsKept h w now
kept_others h w start now none more same k =
    kept_unmarked h w now none (shown_same h.rows w start now k.named same k.shown) (watched_same w start now more same k.watched) k.named

-- groups of one constraint behind the watched ones
pub same_but : (count place : ℕ) (start now : List (List GroupOf)) → count ≤ place → ((k : ℕ) → k ≢ place → groups_of now k ≡ groups_of start k) → AreSame count start now
same_but count place start now behind others k less = others k (λ e. omega (arith, behind, less, e))

pub same_cleared : (count place : ℕ) (start now : List (List GroupOf)) → count ≤ place → place < length start → now ≡ with_groups start place [] → AreSame count start now
same_cleared count place start now behind within is k less = ap (λ gs. groups_of gs k) is ∙ others_after start place [] k within (λ e. omega (arith, behind, less, e))

pub same_twice : (count : ℕ) (start mid now : List (List GroupOf)) → AreSame count start mid → AreSame count mid now → AreSame count start now
same_twice count start mid now first second k less = second k less ∙ first k less

-- ---- no row violates

none_found : (p : StoredRow → Bool) (rows : List StoredRow) → None ≡ option_map (λ r. r.number) (find p rows) → ◌≡◌ {A = List StoredRow} (filter p rows) []
none_found p [] e = refl
none_found p (r ∷ rows) e =
    elim (p r) as (λ b. None ≡ option_map (λ (r : StoredRow). r.number) (if b then Some r else find p rows) → ◌≡◌ {A = List StoredRow} (if b then r ∷ filter p rows else filter p rows) []) [
      | true ↦ λ h. absurd (some_none r.number (sym h))
      | false ↦ λ h. none_found p rows h
    ] e

pub none_violates_it : (rows : List StoredRow) (c : Constraint) (more : List Constraint) → more ≡ c ∷ [] → None ≡ option_map (λ r. r.number) (find (violates rows c) rows) → NoneViolates rows more
none_violates_it rows c more e none k d at = by k (ap (λ l. slice_get l k) (sym e) ∙ at)
  where
    by : (k : ℕ) → slice_get (c ∷ []) k ≡ Some d → ◌≡◌ {A = List StoredRow} (filter (violates rows d) rows) []
    by zero h = subst (λ x. ◌≡◌ {A = List StoredRow} (filter (violates rows x) rows) []) (some_same c d h) (none_found (violates rows c) rows none)
    by (suc zero) h = absurd (some_none d (sym h))
    by (suc (suc k)) h = absurd (some_none d (sym h))

-- ---- marks

pub kept_marked : (h new : History) (w : Watching) (groups : Contents) → new ≡ record { rows = h.rows; next = h.next; journal = h.journal; marks = h.marks ++ saved_of h ∷ [] } → IsKept h w groups → IsKept new w groups
kept_marked h new w groups is k =
    subst (λ (x : History). IsKept x w groups) (sym is)
    (record {
      shown = k.shown;
      watched = k.watched;
      named = k.named;
      sizes = λ place m n at from to.
          ⊎_elim
          (λ (old : slice_get h.marks place ≡ Some m). k.sizes place m n old from to)
          (λ (now : saved_of h ≡ m).
          let noted : length h.journal ≡ m.noted = ap (λ (x : MarkedPoint). x.noted) now in
          subst (λ (l : List Change). HasSizes w.constraints groups.groups (rows_before_all l h.rows)) (sym (drop_all n h.journal (omega (arith, noted, from)))) (sizes_now h.rows w.constraints groups.groups k.shown.shows))
          (marked_at place h.marks (saved_of h) m at);
    })

pub kept_forgotten : (h new : History) (place : ℕ) (w : Watching) (groups : Contents) → new ≡ record { rows = h.rows; next = h.next; journal = h.journal; marks = remove h.marks place } → IsKept h w groups → IsKept new w groups
kept_forgotten h new place w groups is k =
    subst (λ (x : History). IsKept x w groups) (sym is)
    (record {
      shown = k.shown;
      watched = k.watched;
      named = k.named;
      sizes = λ other m n at from to. let old = removed_at place other h.marks m at in k.sizes old.0 m n old.1 from to;
    })

pub kept_settled : (h new : History) (w : Watching) (groups : Contents) → new ≡ record { rows = h.rows; next = h.next; journal = []; marks = [] } → IsKept h w groups → IsKept new w groups
kept_settled h new w groups is k =
    subst (λ (x : History). IsKept x w groups) (sym is)
    (kept_unmarked (record { rows = h.rows; next = h.next; journal = []; marks = [] }) w groups refl k.shown k.watched k.named)

-- ---- tables

pub tables_same : (tables : ℕ) (h new : History) → new.rows ≡ h.rows → new.journal ≡ h.journal → HasTables tables h → HasTables tables new
tables_same tables h new rows journal t = record {
  rows = subst (λ (l : List StoredRow). Every (of_tables tables) l) (sym rows) t.rows;
  journal = subst (λ (l : List Change). OfTables tables l) (sym journal) t.journal;
}

abbrev pub or_base : Database → Option Database → Database
or_base base o = elim o [ Some db ↦ db | None ↦ base ]

pub tables_back : (tables place : ℕ) (h new : History) → place < length h.marks → marked_of new ≡ at_mark (marked_of h) place → new.journal ≡ take (noted_at h.marks place) h.journal → HasTables tables h
    → HasTables tables new
tables_back tables place h new less at journal t =
    let m = there h.marks place less in
    let rows_are : new.rows ≡ rows_before_all (drop m.0.noted h.journal) h.rows = ap (λ (x : Marked). x.base.rows) at
    ∙ ap (λ (o : Option Database). (or_base (marked_of h).base o).rows) (rows.marked_at h.journal h.rows h.marks place m.0 m.1) in
    record {
      rows = subst (λ (l : List StoredRow). Every (of_tables tables) l) (sym rows_are) (every_at tables m.0.noted h.journal h.rows t.journal t.rows);
      journal = subst (λ (l : List Change). OfTables tables l) (sym journal) (of_taken tables (noted_at h.marks place) h.journal t.journal);
    }

-- ---- what callers know of a store

no_marks : (marks : List MarkedPoint) (f : MarkedPoint → Database) → map f marks ≡ [] → marks ≡ []
no_marks [] f e = refl
no_marks (m ∷ marks) f e = cc

pub unmarked : (h : History) → marked_databases h ≡ [] → h.marks ≡ []
unmarked h e = no_marks h.marks (database_at h.journal h.rows) e

pub named_with : (olds more : List Constraint) → AllNamed olds → list_all (λ c. has_key (olds ++ more) (foreign_key c.rule)) more ≡ true → AllNamed (olds ++ more)
named_with = named_append

pub if_at : {A E X : Type 0} (r : Result A E) (P : X → Type 0) (Q : A → X → Type 0) (x : X) → P x → IfOk r (λ a. (y : X) → P y → Q a y) → IfOk r (λ a. Q a x)
if_at (Ok a) P Q x p h = h x p
if_at (Err e) P Q x p h = h

-- ---- a table more

-- What is kept once constraints of a table of no row are taken up, or if an allocation fails for it.
pub kept_cleared : (h : History) (w : Watching) (start mid now : Contents) (first : ℕ) → h.marks ≡ [] → first ≡ length w.constraints → length start.groups ≤ length mid.groups
    → ((k : ℕ) → groups_of mid.groups k ≡ groups_of start.groups k) → ((k : ℕ) → k < first → groups_of now.groups k ≡ groups_of mid.groups k) → length now.groups ≡ length mid.groups
    → IsKept h w start → IsKept h w now
kept_cleared h w start mid now first none is more covered cleared count k =
    kept_others h w start now none (omega (arith, more, count)) (λ p less. cleared p (omega (arith, less, is)) ∙ covered p) k

pub kept_with_table : (h : History) (w later : Watching) (now : Contents) (more : List Constraint) (tables first end : ℕ) → h.marks ≡ [] → HasTables tables h → AllOn tables more → AllNamed (w.constraints ++ more)
    → first ≡ length w.constraints → end ≡ first + length more → ((k : ℕ) → first ≤ k → k < end → groups_of now.groups k ≡ [])
    → later.constraints ≡ w.constraints ++ more
    → ((rows : List StoredRow) → IsShownBy rows w now → Show rows (w.constraints ++ more) (shown now.groups) → NoneViolates rows more → IsShownBy rows later now)
    → (AreWatched w now → AreWatched later now) → IsKept h w now → IsKept h later now
kept_with_table h w later now more tables first end none t on named is last cleared added shows watches k =
    kept_unmarked h later now none
    (shows h.rows k.shown
    (shown_with_table h.rows w.constraints more tables now.groups k.shown.shows on t.rows
    (λ p low less. cleared p (omega (arith, low, is)) (omega (arith, less, is, last, length-append w.constraints more))))
    (none_violates tables more h.rows on t.rows))
    (watches k.watched) (subst (λ cs. AllNamed cs) (sym added) named)

-- the groups of a constraint that are taken away leave as many constraints
pub length_set : (groups : List (List GroupOf)) (id : ℕ) → length (with_groups groups id []) ≡ length groups
length_set groups id = constraints_stay groups id []
