-- A DELETE takes away the least set of rows that it has to.
use Rattle.std.proofs.Common.{◌≡◌, refl, ℕ, true, ◌&&◌, not, if◌then◌else◌, List, [], ◌∷◌, map, flat_map, filter, Option, Some, None, Ok, sym, ap, subst, ◌∙◌, inl, inr}
use Rattle.std.specs.Bool.{◌==◌}
use Rattle.std.proofs.lemmas.Bool.{true≢false, and_from}
use Rattle.iv_laws_levels.specs.Types.{StoredRow, Change, Cond, Database, Effect}
use Rattle.iv_laws_levels.specs.Types.data_statement.{Delete}
use Rattle.iv_value.specs.Values.{all_same}
use Rattle.iv_expr.specs.Changes.{Wave, wave_of}
use Rattle.iv_expr.specs.Scopes.{Frame, scope_of, table_rows}
use Rattle.iv_catalogue.specs.Catalogues.{Schema}
use Rattle.iv_machine.specs.declared.effect.Effect.TheVariants.{DeleteRow}
use Rattle.iv_key.specs.Keys.{key_of}
use Rattle.iv_machine.specs.Databases.{row_at, has_change, database_after}
use Rattle.iv_machine.specs.Context.{Context}
use Rattle.iv_machine.specs.Proposals.{matching_rows, deletion, proposed_changes, with_columns}
use Rattle.iv_machine.specs.ReferentialActions.{Reference, references, lost_keys, keeps_reference, effects_on, is_deletion, columns_set, change_by, next_wave, following_wave}
use Rattle.iv_machine.specs.Waves.{wave_as_applied, AppliedWave, SettledWaves, settled_waves}
use Rattle.iv_laws_levels.specs.Reorderings.{after_changes}
use Rattle.iv_laws_levels.specs.FittingWaves.{Numbered}
use Rattle.iv_laws_levels.specs.Closures.{sets_columns, no_column_is_set, cascades_by, follows, Taken, candidate, referring, Deletes}
use Rattle.iv_laws_levels.proofs.Chains.{ok_same, step_of}
use Rattle.iv_laws_levels.proofs.Settling.{every_settled}
use Rattle.iv_laws_levels.proofs.Keys.{and_first, and_second, all_same_itself}
use Rattle.iv_laws_levels.proofs.RowNumbers.{some_none, some_same, number_of_row_at}
use Rattle.iv_laws_levels.proofs.Drawn.{Drawn}
use Rattle.iv_laws_levels.proofs.Readying.{OfRow, changes_of_proposed, followed_is, next_wave_drawn, delete_drawn, change_by_is}
use Rattle.iv_laws_levels.proofs.BeforeRows.{AllAlike, applied_alike, has_change_alike}
use Rattle.iv_laws_levels.proofs.FittingWaves.{numbered_drawn, drawn_fits, alike_fits, rising_positive}
use Rattle.iv_laws_levels.proofs.NumberedRows.{Positive, numbered_applied}
use Rattle.iv_laws_levels.proofs.AppliedRows.{rows_after_in_order}
use Rattle.iv_laws_levels.proofs.Members.{In, any_in, of_any, all_in, in_filter, of_filter, in_flat_map, of_flat_map, of_map, in_filter_map, of_filter_map, in_rows, rows_in, in_wave_of, wave_has}
use Rattle.iv_laws_levels.proofs.DeletingWaves.{Deletions, deletions_alike, still_there, was_taken, reference_effects, reference_deletes, refers_to_holder, follower_deleted}

-- ---- the next wave

-- a row of the wave to which a row refers
record Follower (db : Database) (wave : List Change) (c : Schema) (r : StoredRow) : Type 0 where
  other : StoredRow
  there : row_at db.rows other.number ≡ Some other
  inside : has_change wave other.number ≡ true
  refers : follows c.constraints r other ≡ true

-- what foreign keys do to a row that the wave leaves as it was
abbrev effects_then : Database → List Change → Schema → StoredRow → List (ℕ × Effect)
effects_then db wave c r = effects_on c (lost_keys db.rows (after_changes db wave).rows) (row_at db.rows r.number) r

abbrev reference_pairs : Database → List Change → Schema → StoredRow → Reference → List (ℕ × Effect)
reference_pairs db wave c r k = map (λ effect. (k.id, effect)) (reference_effects db wave c r k)

effects_are : (db : Database) (wave : List Change) (c : Schema) (r : StoredRow) → row_at db.rows r.number ≡ Some r
    → effects_then db wave c r ≡ flat_map (reference_pairs db wave c r) (filter (keeps_reference r r) (references c.constraints))
effects_are db wave c r e = ap (λ o. effects_on c (lost_keys db.rows (after_changes db wave).rows) o r) e

-- each effect on a row deletes it, and comes from a row of the wave to which it refers
effect_follows : (db : Database) (wave : List Change) (c : Schema) (r : StoredRow) → Numbered db → Deletions wave → no_column_is_set c.constraints ≡ true
    → row_at db.rows r.number ≡ Some r → (p : ℕ × Effect) → In p (effects_then db wave c r) → (p.1 ≡ DeleteRow) × Follower db wave c r
effect_follows db wave c r h d only there p i =
    let found = of_flat_map (reference_pairs db wave c r) p (filter (keeps_reference r r) (references c.constraints))
    (subst (In p) (effects_are db wave c r there) i) in
    let k = found.element in
    let kept = of_filter (keeps_reference r r) k (references c.constraints) found.is_in in
    let effect = of_map (λ x. (k.id, x)) p (reference_effects db wave c r k) found.holds in
    let is = reference_deletes db wave c k r effect.element h d (all_in (λ x. not (sets_columns x.key.on_delete)) k (references c.constraints) only kept.0) effect.is_in in
    let table = and_first (k.table == r.table) (all_same (key_of k.key.columns r.values) (key_of k.key.columns r.values)) kept.1 in (
      ap (λ q. q.1) effect.holds ∙ is.0,
      record {
        other = is.2.row;
        there = is.2.there;
        inside = is.2.inside;
        refers = any_in (λ x. (x.table == r.table) && cascades_by x.key r is.2.row) k (references c.constraints) kept.0
            (and_from (k.table == r.table) (cascades_by k.key r is.2.row) table (refers_to_holder db wave k.key r is.2 is.1));
      },
    )

-- a change by effects that all delete is a deletion
change_deletes : (r : StoredRow) (es : List (ℕ × Effect)) (x : Change) → ((p : ℕ × Effect) → In p es → p.1 ≡ DeleteRow) → change_by r es ≡ Some x
    → (x.new ≡ None) × ((p : ℕ × Effect) × In p es)
change_deletes r [] x all e = absurd (some_none x (sym e))
change_deletes r (p ∷ es) x all e = (
  sym (ap (λ y. y.new) (some_same _ x e))
      ∙ ap (λ b. if b then None else Some (with_columns r.values (flat_map (λ y. columns_set y.1) (p ∷ es))))
      (any_in (λ y. is_deletion y.1) p (p ∷ es) (inl refl) (ap is_deletion (all p (inl refl)))),
  (p, inl refl),
)

-- a change of the next wave deletes a row that refers to the wave
pub record Followed (db : Database) (wave : List Change) (c : Schema) (x : Change) : Type 0 where
  row : StoredRow
  there : row_at (after_changes db wave).rows row.number ≡ Some row
  number : x.row ≡ row.number
  deletes : x.new ≡ None
  follower : Follower db wave c row

-- the wave that follows
abbrev wave_then : Database → List Change → Schema → List Change
wave_then db wave c = (next_wave c (lost_keys db.rows (after_changes db wave).rows) db.rows (after_changes db wave).rows).changes

next_is : (db : Database) (wave : List Change) (c : Schema) (x : Change) → Numbered db → Deletions wave → no_column_is_set c.constraints ≡ true
    → In x (wave_then db wave c) → Followed db wave c x
next_is db wave c x h d only i =
    let found = of_filter_map (λ r. change_by r (effects_then db wave c r)) x (after_changes db wave).rows i in
    let there = rows_in (after_changes db wave).rows found.element (rows_after_in_order db.rows wave) found.is_in in
    let before = (still_there db wave found.element.number found.element d there).1 in
    let all = effect_follows db wave c found.element h d only before in
    let deletes = change_deletes found.element (effects_then db wave c found.element) x (λ p j. (all p j).0) found.holds in
    record {
      row = found.element;
      there = there;
      number = (change_by_is found.element (effects_then db wave c found.element) x found.holds).number;
      deletes = deletes.0;
      follower = (all deletes.1.0 deletes.1.1).1;
    }

deletions_from : (wave : List Change) → ((x : Change) → In x wave → x.new ≡ None) → Deletions wave
deletions_from [] h = tt
deletions_from (x ∷ wave) h = (h x (inl refl), deletions_from wave (λ y i. h y (inr i)))

change_some : (r : StoredRow) (es : List (ℕ × Effect)) (p : ℕ × Effect) → In p es → (x : Change) × (change_by r es ≡ Some x)
change_some r [] p i = absurd i
change_some r (q ∷ es) p i = (_, refl)

-- a row that refers to a row of the wave is in the next wave
next_has : (db : Database) (wave : List Change) (c : Schema) (r other : StoredRow) → Numbered db → Deletions wave
    → row_at (after_changes db wave).rows r.number ≡ Some r → row_at db.rows other.number ≡ Some other → has_change wave other.number ≡ true
    → follows c.constraints r other ≡ true → has_change (wave_then db wave c) r.number ≡ true
next_has db wave c r other h d there was inside refers =
    let found = of_any (λ x. (x.table == r.table) && cascades_by x.key r other) (references c.constraints) refers in
    let k = found.element in
    let kept = in_filter (keeps_reference r r) k (references c.constraints) found.is_in
    (and_from (k.table == r.table) (all_same (key_of k.key.columns r.values) (key_of k.key.columns r.values))
    (and_first (k.table == r.table) (cascades_by k.key r other) found.holds) (all_same_itself (key_of k.key.columns r.values))) in
    let deleted = follower_deleted db wave c k r other h d was inside (and_second (k.table == r.table) (cascades_by k.key r other) found.holds) in
    let pair : In {A = ℕ × Effect} (k.id, DeleteRow) (reference_pairs db wave c r k) =
    subst (λ l. In {A = ℕ × Effect} (k.id, DeleteRow) (map (λ effect. (k.id, effect)) l)) (sym deleted) (inl refl) in
    let effect = in_flat_map (reference_pairs db wave c r) (k.id, DeleteRow) k (filter (keeps_reference r r) (references c.constraints)) kept pair in
    let before = (still_there db wave r.number r d there).1 in
    let change = change_some r (effects_then db wave c r) (k.id, DeleteRow) (subst (In {A = ℕ × Effect} (k.id, DeleteRow)) (sym (effects_are db wave c r before)) effect) in
    wave_has (wave_then db wave c) change.0 r.number
    (in_filter_map (λ x. change_by x (effects_then db wave c x)) r change.0 (after_changes db wave).rows (in_rows (after_changes db wave).rows r.number r there) change.1)
    (change_by_is r (effects_then db wave c r) change.0 change.1).number

-- ---- what holds between two waves

module _ (c : Schema) (only : no_column_is_set c.constraints ≡ true) (start : Database) (candidates : Wave) where
  record Going (db : Database) (wave : List Change) : Type 0 where
    numbers : Numbered db
    drawn : Drawn OfRow db.rows wave
    deletes : Deletions wave
    kept : (r : StoredRow) → row_at db.rows r.number ≡ Some r → row_at start.rows r.number ≡ Some r
    gone_is_taken : (r : StoredRow) → row_at start.rows r.number ≡ Some r → row_at db.rows r.number ≡ None → Taken c.constraints start.rows candidates r
    wave_is_taken : (r : StoredRow) → row_at db.rows r.number ≡ Some r → has_change wave r.number ≡ true → Taken c.constraints start.rows candidates r
    closed : (r other : StoredRow) → row_at db.rows r.number ≡ Some r → row_at start.rows other.number ≡ Some other → row_at db.rows other.number ≡ None
        → follows c.constraints r other ≡ true → has_change wave r.number ≡ true
    begun : (r : StoredRow) → row_at db.rows r.number ≡ Some r → has_change candidates.changes r.number ≡ true → has_change wave r.number ≡ true

  going_at_first : Numbered start → Drawn OfRow start.rows candidates.changes → Deletions candidates.changes → Going start candidates.changes
  going_at_first h drawn deletes = record {
    numbers = h;
    drawn = drawn;
    deletes = deletes;
    kept = λ r e. e;
    gone_is_taken = λ r e f. absurd (some_none r (sym e ∙ f));
    wave_is_taken = λ r e f. candidate r e f;
    closed = λ r other e f g k. absurd (some_none other (sym f ∙ g));
    begun = λ r e f. f;
  }

  -- the row of a number is as at the start, if it is there
  as_at_first : (db : Database) (wave : List Change) (r found : StoredRow) → Going db wave → row_at start.rows r.number ≡ Some r → row_at db.rows r.number ≡ Some found
      → row_at db.rows r.number ≡ Some r
  as_at_first db wave r found g e f =
      let number = number_of_row_at db.rows r.number found f in
      let there = subst (λ n. row_at db.rows n ≡ Some found) (sym number) f in
      let same : found ≡ r = some_same found r (sym (g.kept found there) ∙ ap (row_at start.rows) number ∙ e) in
      f ∙ ap Some same

  module _ (db : Database) (wave out : List Change) (g : Going db wave) (alike : (n : ℕ) → has_change wave n ≡ has_change out n) (d : Deletions out) (p : Positive out) where
    abbrev later : Database
    later = after_changes db out

    abbrev next : List Change
    next = wave_then db out c

    -- a row that the wave took is taken
    step_gone : (r : StoredRow) → row_at start.rows r.number ≡ Some r → row_at later.rows r.number ≡ None → Taken c.constraints start.rows candidates r
    step_gone r e f = by_row (row_at db.rows r.number) refl
      where
        by_row : (o : Option StoredRow) → row_at db.rows r.number ≡ o → Taken c.constraints start.rows candidates r
        by_row None is = g.gone_is_taken r e is
        by_row (Some found) is =
            let there = as_at_first db wave r found g e is in
            g.wave_is_taken r there (alike r.number ∙ was_taken db out r.number r d there f)

    step_wave : (r : StoredRow) → row_at later.rows r.number ≡ Some r → has_change next r.number ≡ true → Taken c.constraints start.rows candidates r
    step_wave r e f =
        let change = in_wave_of next r.number f in
        let from = next_is db out c change.element g.numbers d only change.is_in in
        let number : from.row.number ≡ r.number = sym from.number ∙ change.holds in
        let same : from.row ≡ r = some_same from.row r (sym from.there ∙ ap (row_at later.rows) number ∙ e) in
        let other = from.follower in
        referring r other.other (g.kept r (still_there db out r.number r d e).1)
        (subst (λ x. follows c.constraints x other.other ≡ true) same other.refers)
        (g.wave_is_taken other.other other.there (alike other.other.number ∙ other.inside))

    step_closed : (r other : StoredRow) → row_at later.rows r.number ≡ Some r → row_at start.rows other.number ≡ Some other → row_at later.rows other.number ≡ None
        → follows c.constraints r other ≡ true → has_change next r.number ≡ true
    step_closed r other e was gone refers = by_row (row_at db.rows other.number) refl
      where
        by_row : (o : Option StoredRow) → row_at db.rows other.number ≡ o → has_change next r.number ≡ true
        by_row None is =
            let before = still_there db out r.number r d e in
            absurd (true≢false (sym (g.closed r other before.1 was is refers) ∙ alike r.number ∙ before.0))
        by_row (Some found) is =
            let there = as_at_first db wave other found g was is in
            next_has db out c r other g.numbers d e there (was_taken db out other.number other d there gone) refers

    going_on : Going later next
    going_on = record {
      numbers = numbered_applied db out g.numbers p;
      drawn = next_wave_drawn c (lost_keys db.rows later.rows) db.rows later.rows;
      deletes = deletions_from next (λ x i. (next_is db out c x g.numbers d only i).deletes);
      kept = λ r e. g.kept r (still_there db out r.number r d e).1;
      gone_is_taken = step_gone;
      wave_is_taken = step_wave;
      closed = step_closed;
      begun = λ r e f.
          let before = still_there db out r.number r d e in
          absurd (true≢false (sym (g.begun r before.1 f) ∙ alike r.number ∙ before.0));
    }

  -- ---- when nothing follows

  module _ (last : Database) (g : Going last []) where
    taken_was_there : (x : StoredRow) → Taken c.constraints start.rows candidates x → row_at start.rows x.number ≡ Some x
    taken_was_there x (candidate r e f) = e
    taken_was_there x (referring r other e f t) = e

    -- what can't be there is gone
    not_there : (n : ℕ) (o : Option StoredRow) → row_at last.rows n ≡ o → ((found : StoredRow) → row_at last.rows n ≡ Some found → ⊥) → row_at last.rows n ≡ None
    not_there n None is never = is
    not_there n (Some found) is never = absurd (never found is)

    taken_is_gone : (x : StoredRow) → Taken c.constraints start.rows candidates x → row_at last.rows x.number ≡ None
    taken_is_gone x (candidate r e f) =
        not_there r.number (row_at last.rows r.number) refl (λ found is. true≢false (sym (g.begun r (as_at_first last [] r found g e is) f)))
    taken_is_gone x (referring r other e f t) =
        let gone = taken_is_gone other t in
        not_there r.number (row_at last.rows r.number) refl (λ found is.
        true≢false (sym (g.closed r other (as_at_first last [] r found g e is) (taken_was_there other t) gone f)))

    gone_was_taken : (r : StoredRow) → row_at start.rows r.number ≡ Some r → row_at last.rows r.number ≡ None → Taken c.constraints start.rows candidates r
    gone_was_taken r e f = g.gone_is_taken r e f

    others_stay : (r : StoredRow) → row_at last.rows r.number ≡ Some r → row_at start.rows r.number ≡ Some r
    others_stay r e = g.kept r e

-- ---- the waves of a DELETE

settled_goes : (w : Context) (only : no_column_is_set w.schema.constraints ≡ true) (start : Database) (candidates : Wave)
    (db : Database) (budget : ℕ) (wave : Wave) (s : SettledWaves)
    → settled_waves w db budget wave ≡ Ok s → Going w.schema only start candidates db wave.changes
    → Going w.schema only start candidates s.last []
settled_goes w only start candidates db budget wave s e =
    every_settled w (λ db' budget' wave' s'. Going w.schema only start candidates db' wave'.changes → Going w.schema only start candidates s'.last [])
    (λ db' budget' wave' none g. subst (Going w.schema only start candidates db') none g)
    (λ db' budget' wave' one others is_applied is_followed more g. more (goes_on db' budget' wave' one is_applied is_followed g))
    db budget wave s e
  where
    goes_on : (db' : Database) (budget' : ℕ) (wave' : Wave) (one : AppliedWave) → wave_as_applied w db' budget' wave' ≡ Ok one.wave
        → following_wave w db' (database_after db' one.wave) ≡ Ok one.next → Going w.schema only start candidates db' wave'.changes
        → Going w.schema only start candidates (database_after db' one.wave) one.next.changes
    goes_on db' budget' wave' one is_applied is_followed g =
        let as_numbered = applied_alike w db' budget' wave' one.wave is_applied in
        let alike : AllAlike wave'.changes one.wave.changes =
        subst (λ l. AllAlike l one.wave.changes) (numbered_drawn db'.next db'.rows wave'.changes g.drawn) as_numbered in
        let fits = alike_fits db' (wave_of wave'.changes) one.wave alike (drawn_fits db' wave'.changes g.numbers g.drawn) in
        subst (λ x. Going w.schema only start candidates (database_after db' one.wave) x.changes) (followed_is w db' (database_after db' one.wave) one.next is_followed).1
        (going_on w.schema only start candidates db' wave'.changes one.wave.changes g (λ n. has_change_alike wave'.changes one.wave.changes n alike)
        (deletions_alike wave'.changes one.wave.changes alike g.deletes) (rising_positive one.wave.changes fits.rising))

deletions_map : (rows : List StoredRow) → Deletions (map deletion rows)
deletions_map [] = tt
deletions_map (r ∷ rows) = (refl, deletions_map rows)

delete_deletes : (w : Context) (db : Database) (f : Frame) (t : ℕ) (filter : Cond) (changes : List Change)
    → proposed_changes w db f (Delete t filter) ≡ Ok changes → Deletions changes
delete_deletes w db f t filter changes e =
    let found = step_of (matching_rows (scope_of f db.rows) filter (table_rows db.rows t)) _ changes e in
    subst Deletions (ok_same (map deletion found.0) changes found.2) (deletions_map found.0)

delete_goes : (w : Context) (t : ℕ) (filter : Cond) (f : Frame) (db : Database) (budget : ℕ) (wave : Wave) (s : SettledWaves)
    → (h : Deletes w t filter f db budget wave s) → Going w.schema h.1 db wave s.last []
delete_goes w t filter f db budget wave s h =
    let proposes = changes_of_proposed w db f (Delete t filter) wave h.2 in
    settled_goes w h.1 db wave db budget wave s h.3
    (going_at_first w.schema h.1 db wave h.0 (delete_drawn w db f t filter wave.changes proposes) (delete_deletes w db f t filter wave.changes proposes))

pub taken_rows_are_gone : (w : Context) (t : ℕ) (filter : Cond) (f : Frame) (db : Database) (budget : ℕ) (wave : Wave) (s : SettledWaves)
    → Deletes w t filter f db budget wave s → (r : StoredRow) → Taken w.schema.constraints db.rows wave r → row_at s.last.rows r.number ≡ None
taken_rows_are_gone w t filter f db budget wave s h r taken = taken_is_gone w.schema h.1 db wave s.last (delete_goes w t filter f db budget wave s h) r taken

pub gone_rows_are_taken : (w : Context) (t : ℕ) (filter : Cond) (f : Frame) (db : Database) (budget : ℕ) (wave : Wave) (s : SettledWaves)
    → Deletes w t filter f db budget wave s
    → (r : StoredRow) → row_at db.rows r.number ≡ Some r → row_at s.last.rows r.number ≡ None → Taken w.schema.constraints db.rows wave r
gone_rows_are_taken w t filter f db budget wave s h r there gone = gone_was_taken w.schema h.1 db wave s.last (delete_goes w t filter f db budget wave s h) r there gone

pub other_rows_stay : (w : Context) (t : ℕ) (filter : Cond) (f : Frame) (db : Database) (budget : ℕ) (wave : Wave) (s : SettledWaves)
    → Deletes w t filter f db budget wave s → (r : StoredRow) → row_at s.last.rows r.number ≡ Some r → row_at db.rows r.number ≡ Some r
other_rows_stay w t filter f db budget wave s h r there = others_stay w.schema h.1 db wave s.last (delete_goes w t filter f db budget wave s h) r there
