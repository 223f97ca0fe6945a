-- What is kept through a change, a step back and the arrival at a mark.
use Rattle.std.proofs.Common.{◌≡◌, refl, ℕ, suc, ◌+◌, ◌-◌, ◌*◌, ◌<◌, ◌≤◌, ◌⊎◌, if◌then◌else◌, Option, Some, None, IfSome, List, [], ◌∷◌, ◌++◌, length, take, drop, slice_get, arith, sym, ap, subst, ◌∙◌, ⊎_elim}
use Rattle.std.proofs.lemmas.Bool.{eq-eqb, cases_lt}
use Rattle.std.proofs.lemmas.Option.{slice_get_within}
use Rattle.iv_store_index.specs.Types.{Value, StoredRow, Change}
use Rattle.iv_store_index.specs.Kept.{HasSizes, IsKept}
use Rattle.iv_expr.specs.Scopes.{Rises}
use Rattle.iv_machine.specs.declared.database.Database.{Database}
use Rattle.iv_machine.specs.Databases.{row_at, rows_after}
use Rattle.iv_machine.specs.Waves.{values_at}
use Rattle.iv_laws_levels.specs.FittingWaves.{old_row}
use Rattle.iv_laws_levels.proofs.AppliedRows.{row_of, rows_after_in_order}
use Rattle.iv_laws_levels.proofs.RowNumbers.{number_of_row_at}
use Rattle.iv_store_groups.specs.Groups.{Contents, groups_of}
use Rattle.iv_store_groups.specs.Laws.{size_of}
use Rattle.iv_store_violating.specs.Shown.{shown}
use Rattle.iv_store_rows.specs.declared.marked_point.MarkedPoint.{MarkedPoint}
use Rattle.iv_store_rows.specs.Histories.{History, Marked, at_mark, history_after, last_change, marked_databases, marked_of, noted_at, rows_before, rows_before_all, rows_before_last, stepped_back}
use Rattle.iv_store_rows.proofs.Histories.{marked_length, same_at_mark, there}
use Rattle.iv_store_rows.proofs.Marks.{drop_all, noted_is, take_all, take_taken}
use Rattle.iv_store_rows.proofs.Marks as rows
use Rattle.iv_store_rows.proofs.Rows.{row_after_set}
use Rattle.iv_laws_kept.specs.Kept.{AllNamed, Show}
use Rattle.iv_laws_kept.specs.Moves.{Holds, taken_back}
use Rattle.iv_laws_kept.proofs.Moves.{row_after}
use Rattle.iv_store_following.specs.BorrowedChange.{IsPresent}
use Rattle.iv_store_faults.specs.Watching.{AreWatched, HasRoomBack, IsShownBy, Watching}
use Rattle.iv_store_faults.proofs.Filled.{in_order}
use Rattle.iv_store_faults.proofs.Rooming.{room_suffices}
use Rattle.iv_store_faults.proofs.Shows.{shown_rows_are_present}
use Rattle.iv_store_index.proofs.Marks.{before_fewer, before_more, fewer, taken_at}
use Rattle.iv_store_index.proofs.Sizes.{sizes_now, sizes_stay}

-- no key holds fewer rows without an allocation
abbrev pub SizesGrow : Contents → Contents → Type 0
SizesGrow start now = (k : ℕ) (key : List Value) → size_of (groups_of start.groups k) key ≤ size_of (groups_of now.groups k) key

-- ---- rows that hold what a change says

-- the row that a change finds
pub held_old : (rows : List StoredRow) (c : Change) → values_at rows c.row ≡ c.old → IfSome (row_at rows c.row) (λ row. row.table ≡ c.table) → row_at rows c.row ≡ old_row c
held_old rows c current own = by (row_at rows c.row) refl current own
  where
    row_with : Option (List Value) → Option StoredRow
    row_with o = elim o [ Some values ↦ Some (record { table = c.table; number = c.row; values = values }) | None ↦ None ]

    by : (o : Option StoredRow) → row_at rows c.row ≡ o → elim o [ Some r ↦ Some r.values | None ↦ None ] ≡ c.old → IfSome o (λ row. row.table ≡ c.table) → row_at rows c.row ≡ old_row c
    by None e was t = e ∙ ap row_with was
    by (Some r) e was t =
        let number : r.number ≡ c.row = number_of_row_at rows c.row r e in
        e ∙ ap (λ n. Some (record { table = r.table; number = n; values = r.values })) number
        ∙ ap (λ n. Some (record { table = n; number = c.row; values = r.values })) t
        ∙ ap row_with was

-- the rows after a change hold what the change back says
pub held_after : (rows : List StoredRow) (c : Change) → Holds (rows_after rows (c ∷ [])) (taken_back c)
held_after rows c = (
  rows_after_in_order rows (c ∷ []),
  row_after rows c c.row ∙ ap (λ b. if b then row_of c c.new else row_at rows c.row) (eq-eqb c.row c.row refl),
)

-- the rows before it hold what it says
pub held_before : (rows : List StoredRow) (c : Change) → Rises 0 (rows_before c rows) → Holds (rows_before c rows) c
held_before rows c h = (in_order 0 (rows_before c rows) h, row_after_set c.table c.row c.old rows)

-- ---- what is kept

-- The rows stay.
pub kept_stays : (h : History) (w later : Watching) (start now : Contents) → IsKept h w start → IsShownBy h.rows later now → AreWatched later now → later.constraints ≡ w.constraints
    → SizesGrow start now → IsKept h later now
kept_stays h w later start now k shown watched same grow = record {
  shown = shown;
  watched = watched;
  named = subst (λ cs. AllNamed cs) (sym same) k.named;
  sizes = λ place m n at from to.
      subst (λ cs. HasSizes cs now.groups (rows_before_all (drop n h.journal) h.rows)) (sym same)
      (sizes_stay (rows_before_all (drop n h.journal) h.rows) w.constraints start.groups now.groups grow (k.sizes place m n at from to));
}

-- No mark stands any more, and groups without rows are given back: no key has to hold more rows than it has.
pub kept_given_back : (h new : History) (w later : Watching) (start now : Contents) → IsKept h w start → new ≡ record h { journal = []; marks = [] }
    → ((rows : List StoredRow) → IsShownBy rows w start → IsShownBy rows later now) → AreWatched later now → later.constraints ≡ w.constraints → IsKept new later now
kept_given_back h new w later start now k is shown watched same = subst (λ (x : History). IsKept x later now) (sym is) (record {
  shown = shown h.rows k.shown;
  watched = watched;
  named = subst (λ cs. AllNamed cs) (sym same) k.named;
  sizes = λ place m n at from to. absurd cc;
})

-- A change is made.
pub kept_after : (h new : History) (c : Change) (w later : Watching) (start now : Contents) → IsKept h w start → new ≡ history_after h c → rows_before c new.rows ≡ h.rows
    → IsShownBy new.rows later now → AreWatched later now → later.constraints ≡ w.constraints → SizesGrow start now → IsKept new later now
kept_after h new c w later start now k is back shown watched same grow = record {
  shown = shown;
  watched = watched;
  named = subst (λ cs. AllNamed cs) (sym same) k.named;
  sizes = λ place m n at from to.
      subst (λ (l : List Change). HasSizes later.constraints now.groups (rows_before_all (drop n l) new.rows)) (sym (ap (λ (x : History). x.journal) is))
      (either place m n (ap (λ (x : History). slice_get x.marks place) (sym is) ∙ at) from (cases_lt (length h.journal) n));
}
  where
    longer : (j : List Change) → length (j ++ c ∷ []) ≤ suc (length j)
    longer [] = omega arith
    longer (x ∷ j) = omega (arith, longer j)

    either : (place : ℕ) (m : MarkedPoint) (n : ℕ) → slice_get h.marks place ≡ Some m → m.noted ≤ n → (length h.journal < n) ⊎ (n ≤ length h.journal)
        → HasSizes later.constraints now.groups (rows_before_all (drop n (h.journal ++ c ∷ [])) new.rows)
    either place m n at from cases =
        ⊎_elim
        (λ (over : length h.journal < n).
        subst (λ (l : List Change). HasSizes later.constraints now.groups (rows_before_all l new.rows)) (sym (drop_all n (h.journal ++ c ∷ []) (omega (arith, over, longer h.journal))))
        (sizes_now new.rows later.constraints now.groups shown.shows))
        (λ (to : n ≤ length h.journal).
        subst (λ (rows : List StoredRow). HasSizes later.constraints now.groups rows) (sym (before_more n h.journal c new.rows to ∙ ap (rows_before_all (drop n h.journal)) back))
        (subst (λ cs. HasSizes cs now.groups (rows_before_all (drop n h.journal) h.rows)) (sym same)
        (sizes_stay (rows_before_all (drop n h.journal) h.rows) w.constraints start.groups now.groups grow (k.sizes place m n at from to))))
        cases

-- ---- a step back

-- the mark of a place that is there
mark_of : (h : History) (place : ℕ) → place < length h.marks → (m : MarkedPoint) × (slice_get h.marks place ≡ Some m) × (noted_at h.marks place ≡ m.noted)
mark_of h place less = let m = there h.marks place less in (m.0, m.1, noted_is h.marks place m.0 m.1)

-- the keys hold the rows from before the last change
pub sizes_before : (h : History) (c : Change) (place : ℕ) (w : Watching) (groups : Contents) → IsKept h w groups → place < length h.marks → noted_at h.marks place < length h.journal
    → last_change h.journal ≡ Some c → HasSizes w.constraints groups.groups (rows_before c h.rows)
sizes_before h c place w groups k less above last =
    let m = mark_of h place less in
    let left : List Change = take (length h.journal - 1) h.journal in
    let any : 0 < length h.journal = omega (arith, above) in
    let one = fewer h.journal any in
    subst (λ (rows : List StoredRow). HasSizes w.constraints groups.groups rows)
    (sym (before_fewer (length left) h.journal h.rows any (omega arith))
    ∙ ap (λ (l : List Change). rows_before_all l (rows_before_last h.journal h.rows)) (drop_all (length left) left (omega arith))
    ∙ ap (λ o. elim o [ Some c ↦ rows_before c h.rows | None ↦ h.rows ]) last)
    (k.sizes place m.0 (length left) m.1 (omega (arith, one, m.2, above)) (omega (arith, one)))

-- the change back finds its row, and room under the keys of its old side
pub present_back : (h : History) (c : Change) (w : Watching) (groups : Contents) → IsKept h w groups → rows_after (rows_before c h.rows) (c ∷ []) ≡ h.rows
    → IsPresent w.constraints (shown groups.groups) (taken_back c)
present_back h c w groups k made =
    shown_rows_are_present h.rows w.constraints groups.groups (taken_back c) k.shown.shows
    (subst (λ (rows : List StoredRow). Holds rows (taken_back c)) made (held_after (rows_before c h.rows) c))

pub room_back : (h : History) (c : Change) (place : ℕ) (w : Watching) (groups : Contents) → IsKept h w groups → place < length h.marks → noted_at h.marks place < length h.journal
    → last_change h.journal ≡ Some c → rows_after (rows_before c h.rows) (c ∷ []) ≡ h.rows → Rises 0 (rows_before c h.rows) → HasRoomBack w.constraints groups.groups c
room_back h c place w groups k less above last made rises =
    room_suffices (rows_before c h.rows) w.constraints groups.groups c (held_before h.rows c rises)
    (subst (λ (rows : List StoredRow). Show rows w.constraints (shown groups.groups)) (sym made) k.shown.shows)
    (sizes_before h c place w groups k less above last)

pub kept_back : (h : History) (c : Change) (place : ℕ) (w later : Watching) (start now : Contents) → IsKept h w start → 0 < length h.journal → last_change h.journal ≡ Some c
    → IsShownBy (rows_before c h.rows) later now → AreWatched later now → later.constraints ≡ w.constraints → SizesGrow start now → IsKept (stepped_back h place) later now
kept_back h c place w later start now k any last shown watched same grow = record {
  shown = subst (λ (o : Option Change). IsShownBy (elim o [ Some c ↦ rows_before c h.rows | None ↦ h.rows ]) later now) (sym last) shown;
  watched = watched;
  named = subst (λ cs. AllNamed cs) (sym same) k.named;
  sizes = λ mark m n at from to.
      let one = fewer h.journal any in
      subst (λ (rows : List StoredRow). HasSizes later.constraints now.groups rows) (sym (before_fewer n h.journal h.rows any to))
      (subst (λ cs. HasSizes cs now.groups (rows_before_all (drop n h.journal) h.rows)) (sym same)
      (sizes_stay (rows_before_all (drop n h.journal) h.rows) w.constraints start.groups now.groups grow
      (k.sizes mark m n (taken_at (place + 1) mark h.marks m at) from (omega (arith, one, to)))));
}

-- ---- at a mark

-- What holds on the way back from the start to the mark of a place.
pub record GoingBack (place : ℕ) (start : History) (from : Watching) (groups : Contents) (h : History) (w : Watching) (now : Contents) : Type 0 where
  pub there : place < length h.marks
  pub kept : IsKept h w now
  pub constraints : w.constraints ≡ from.constraints
  pub at : at_mark (marked_of h) place ≡ at_mark (marked_of start) place
  pub journal : take (noted_at h.marks place) h.journal ≡ take (noted_at start.marks place) start.journal
  pub marks : take (place + 1) h.marks ≡ take (place + 1) start.marks
  pub shorter : length h.journal ≤ length start.journal
  pub grows : groups.looked_up ≤ now.looked_up
  pub looked_up : now.looked_up ≤ groups.looked_up + 7 * length from.constraints * (length start.journal - length h.journal)

pub going_back : (place : ℕ) (start : History) (from : Watching) (groups : Contents) → place < length start.marks → IsKept start from groups → GoingBack place start from groups start from groups
going_back place start from groups less k = record {
  there = less;
  kept = k;
  constraints = refl;
  at = refl;
  journal = refl;
  marks = refl;
  shorter = omega arith;
  grows = omega arith;
  looked_up = omega arith;
}

-- one more look for each change that is undone
more_looked : (most some a b c x y z : ℕ) → some ≡ most → c + 1 ≡ b → b ≤ a → y ≤ x + most * (a - b) → z ≤ y + some * (b - c) → z ≤ x + most * (a - c)
more_looked most some a b c x y z same one le first second =
    let product : most * ((a - b) + 1) ≡ most * (a - b) + most = omega arith in
    let left : (a - b) + 1 ≡ a - c = omega (arith, one, le) in
    let last : some * (b - c) ≡ most = ap (λ k. k * (b - c)) same ∙ ap (λ k. most * k) (step one) ∙ single most in
    let whole : most * (a - c) ≡ most * (a - b) + most = ap (λ k. most * k) (sym left) ∙ product in
    omega (arith, first, second, last, whole)
  where
    step : c + 1 ≡ b → b - c ≡ 1
    step e = omega (arith, e)

    single : (k : ℕ) → k * 1 ≡ k
    single k = omega arith

pub went_back : (place : ℕ) (start : History) (from : Watching) (groups : Contents) (h new : History) (w later : Watching) (now next : Contents)
    → GoingBack place start from groups h w now → new ≡ stepped_back h place → marked_databases new ≡ take (place + 1) (marked_databases h) → noted_at h.marks place < length h.journal
    → IsKept new later next → later.constraints ≡ w.constraints → now.looked_up ≤ next.looked_up → next.looked_up ≤ now.looked_up + 7 * length w.constraints * (length h.journal - length new.journal)
    → GoingBack place start from groups new later next
went_back place start from groups h new w later now next g is marked above k same grow looked_up =
    let any : 0 < length h.journal = omega (arith, above) in
    let one : length new.journal + 1 ≡ length h.journal = ap (λ (x : History). length x.journal + 1) is ∙ fewer h.journal any in
    let own : slice_get new.marks place ≡ slice_get h.marks place = ap (λ (x : History). slice_get x.marks place) is ∙ rows.taken_at place (place + 1) h.marks (omega arith) in
    let noted : noted_at new.marks place ≡ noted_at h.marks place = ap (λ o. elim o [ Some m ↦ m.noted | None ↦ 0 ]) own in
    let m = mark_of h place g.there in
    record {
      there = slice_get_within new.marks place m.0 (own ∙ m.1);
      kept = k;
      constraints = same ∙ g.constraints;
      at = same_at_mark (marked_of new) (marked_of h) place
          (ap (take (place + 1)) marked ∙ take_taken (place + 1) (place + 1) (marked_databases h) (omega arith))
          (subst (λ n. place < n) (sym (marked_length h)) g.there)
          ∙ g.at;
      journal = ap (λ n. take n new.journal) noted ∙ ap (λ (x : History). take (noted_at h.marks place) x.journal) is
          ∙ take_taken (noted_at h.marks place) (length h.journal - 1) h.journal (omega (arith, above)) ∙ g.journal;
      marks = ap (λ (x : History). take (place + 1) x.marks) is ∙ take_taken (place + 1) (place + 1) h.marks (omega arith) ∙ g.marks;
      shorter = omega (arith, one, g.shorter);
      grows = omega (arith, grow, g.grows);
      looked_up = more_looked (7 * length from.constraints) (7 * length w.constraints) (length start.journal) (length h.journal) (length new.journal) groups.looked_up now.looked_up next.looked_up
          (ap (λ cs. 7 * length cs) g.constraints) one g.shorter g.looked_up looked_up;
    }

abbrev or_base : Database → Option Database → Database
or_base base o = elim o [ Some db ↦ db | None ↦ base ]

-- nothing is noted since the mark any more
pub arrived : (place : ℕ) (h new : History) (w : Watching) (groups : Contents) → place < length h.marks → length h.journal ≤ noted_at h.marks place
    → marked_of new ≡ at_mark (marked_of h) place → new.journal ≡ take (noted_at h.marks place) h.journal → new.marks ≡ take (place + 1) h.marks → IsKept h w groups → IsKept new w groups
arrived place h new w groups less all at journal marks k =
    let m = mark_of h place less in
    let same : new.journal ≡ h.journal = journal ∙ take_all (noted_at h.marks place) h.journal all in
    let rows_are : new.rows ≡ h.rows = ap (λ (x : Marked). x.base.rows) at
    ∙ ap (λ (o : Option Database). (or_base (marked_of h).base o).rows) (rows.marked_at h.journal h.rows h.marks place m.0 m.1)
    ∙ ap (λ (l : List Change). rows_before_all l h.rows) (drop_all m.0.noted h.journal (subst (λ n. length h.journal ≤ n) m.2 all)) in
    record {
      shown = subst (λ (rows : List StoredRow). IsShownBy rows w groups) (sym rows_are) k.shown;
      watched = k.watched;
      named = k.named;
      sizes = λ mark s n found from to.
          subst (λ (rows : List StoredRow). HasSizes w.constraints groups.groups (rows_before_all (drop n new.journal) rows)) (sym rows_are)
          (subst (λ (l : List Change). HasSizes w.constraints groups.groups (rows_before_all (drop n l) h.rows)) (sym same)
          (k.sizes mark s n (taken_at (place + 1) mark h.marks s (ap (λ l. slice_get l mark) (sym marks) ∙ found)) from (subst (λ (l : List Change). n ≤ length l) same to)));
    }
