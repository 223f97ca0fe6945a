-- The net changes of a chain of waves, from those of its parts.
use Rattle.std.proofs.Common.{length, get_or, ◌≡◌, refl, ℕ, ◌<◌, ◌≤◌, Bool, true, false, ◌&&◌, ◌||◌, if◌then◌else◌, List, [], ◌∷◌, ◌++◌, map, filter, filter_map, Option, Some, None, is_none, sym, ap, subst, ◌∙◌, arith}
use Rattle.std.specs.Bool.{◌==◌}
use Rattle.std.specs.List.{cons_option}
use Rattle.std.specs.Option.{option_map, option_or}
use Rattle.std.proofs.lemmas.List.Folds.{find-append}
use Rattle.iv_value.specs.declared.value.Value.{Value}
use Rattle.iv_expr.specs.declared.row.StoredRow.{StoredRow}
use Rattle.iv_expr.specs.declared.row.Change.{Change}
use Rattle.iv_expr.specs.Changes.{Wave, wave_of, RisingChangesFrom, RisingChanges}
use Rattle.iv_machine.specs.declared.database.Database.{Database}
use Rattle.iv_machine.specs.Databases.{row_at, has_change}
use Rattle.iv_machine.specs.Waves.{in_waves, values_at, net_wave}
use Rattle.iv_laws_levels.specs.FittingWaves.{Current, Chain}
use Rattle.iv_laws_levels.specs.Reorderings.{after_changes}
use Rattle.iv_laws_levels.specs.RisingRows.{Every, Above, InOrder}
use Rattle.iv_laws_levels.proofs.RowNumbers.{row_at_filter_in_order, passing, number_of_row_at, in_order_filter}
use Rattle.iv_laws_levels.proofs.AppliedRows.{row_of}
use Rattle.iv_laws_levels.proofs.NumberedRows.{Below, parts_of}
use Rattle.iv_laws_levels.proofs.FittingWaves.{Present, present_itself}
use Rattle.iv_exec_triggers.specs.Merging.{kept, merged}
use Rattle.iv_exec_triggers.proofs.ChangesAt.{change_at, number_at, at_kept_here, at_kept_elsewhere, at_above, rising_kept, join, join_none, at_merged, rising_merged, same_changes}
use Rattle.iv_exec_triggers.proofs.Chained.{option_cases, in_wave_some, in_wave_none, after_some, current_at, Across, across, across_twice, either_wave, parted}

-- ---- what a net change is, by number

abbrev pub values_of : Option StoredRow → Option (List Value)
values_of o = elim o [ Some r ↦ Some r.values | None ↦ None ]

-- from the row of this number in the first database and in the last
abbrev pub transition : ℕ → Option StoredRow → Option StoredRow → Option Change
transition n (Some r) later = Some (record { table = r.table; row = n; old = Some r.values; new = values_of later })
transition n None (Some r) = Some (record { table = r.table; row = n; old = None; new = Some r.values })
transition n None None = None

-- These changes are the net ones: by rising number, and the transition of each row of the waves.
pub record IsNet (rows later : List StoredRow) (waves : List Wave) (changes : List Change) : Type 0 where
  pub rising : RisingChanges changes
  pub each : (n : ℕ) → change_at changes n ≡ (if in_waves waves n then transition n (row_at rows n) (row_at later n) else None)

only_net : (rows later : List StoredRow) (waves : List Wave) (xs ys : List Change) → IsNet rows later waves xs → IsNet rows later waves ys → xs ≡ ys
only_net rows later waves xs ys a b = same_changes 0 xs ys a.rising b.rising (λ n. a.each n ∙ sym (b.each n))

-- ---- of two parts

join_transitions : (n : ℕ) (r m l : Option StoredRow) → ((x y : StoredRow) → m ≡ Some x → l ≡ Some y → x.table ≡ y.table)
    → join (transition n r m) (transition n m l) ≡ transition n r l
join_transitions n None None l h = refl
join_transitions n None (Some x) None h = refl
join_transitions n None (Some x) (Some y) h = λ i. Some (record { table = h x y refl refl i; row = n; old = None; new = Some y.values })
join_transitions n (Some z) None None h = refl
join_transitions n (Some z) None (Some y) h = refl
join_transitions n (Some z) (Some x) None h = refl
join_transitions n (Some z) (Some x) (Some y) h = refl

net_twice : (db mid last : Database) (xs ys : List Wave) (older newer : List Change)
    → Across db mid xs → Across mid last ys → IsNet db.rows mid.rows xs older → IsNet mid.rows last.rows ys newer
    → IsNet db.rows last.rows (xs ++ ys) (merged older newer)
net_twice db mid last xs ys older newer a b p q = record {
  rising = rising_merged 0 older newer p.rising q.rising;
  each = λ n. at_merged older newer 0 0 n p.rising q.rising
      ∙ (λ i. join (p.each n i) (q.each n i))
      ∙ cases n (in_waves xs n) (in_waves ys n) refl refl
      ∙ ap (λ t. if t then transition n (row_at db.rows n) (row_at last.rows n) else None) (sym (either_wave xs ys n));
}
  where
    cases : (n : ℕ) (u v : Bool) → in_waves xs n ≡ u → in_waves ys n ≡ v
        → join (if u then transition n (row_at db.rows n) (row_at mid.rows n) else None) (if v then transition n (row_at mid.rows n) (row_at last.rows n) else None)
        ≡ (if u || v then transition n (row_at db.rows n) (row_at last.rows n) else None)
    cases n false false e f = refl
    cases n false true e f = ap (λ o. transition n o (row_at last.rows n)) (a.outside n e)
    cases n true false e f = join_none (transition n (row_at db.rows n) (row_at mid.rows n)) ∙ ap (transition n (row_at db.rows n)) (sym (b.outside n f))
    cases n true true e f = join_transitions n (row_at db.rows n) (row_at mid.rows n) (row_at last.rows n) (λ x y. b.tables n x y)

-- ---- of one wave

rising_left : (low : ℕ) (wave : List Change) → RisingChangesFrom low wave → RisingChangesFrom low (filter_map kept wave)
rising_left low [] r = tt
rising_left low (c ∷ wave) r = rising_kept low c (filter_map kept wave) r.0 (rising_left c.row wave r.1)

-- what is left of a change
abbrev left : Option Change → Option Change
left None = None
left (Some c) = kept c

at_left : (low : ℕ) (wave : List Change) (n : ℕ) → RisingChangesFrom low wave → change_at (filter_map kept wave) n ≡ left (change_at wave n)
at_left low [] n r = refl
at_left low (c ∷ wave) n r =
    elim (c.row == n) as (λ b. (c.row == n) ≡ b → change_at (cons_option (kept c) (filter_map kept wave)) n ≡ left (if b then Some c else change_at wave n)) [
      | true ↦ λ e. at_kept_here c (filter_map kept wave) n e
          (at_left c.row wave n r.1 ∙ ap left (at_above n c.row wave (let is = Rattle.std.proofs.lemmas.Bool.eqb-true c.row n e in omega (arith, is)) r.1))
      | false ↦ λ e. at_kept_elsewhere c (filter_map kept wave) n e ∙ at_left c.row wave n r.1
    ] refl

transition_of : (c : Change) (old new : Option (List Value)) → kept (record c { old = old; new = new }) ≡ transition c.row (row_of c old) (row_of c new)
transition_of c None None = refl
transition_of c None (Some v) = refl
transition_of c (Some u) None = refl
transition_of c (Some u) (Some v) = refl

net_of_changes : (db : Database) (wave : List Change) → RisingChanges wave → Current db.rows wave → IsNet db.rows (after_changes db wave).rows (wave_of wave ∷ []) (filter_map kept wave)
net_of_changes db wave r current = record {
  rising = rising_left 0 wave r;
  each = λ n. at_left 0 wave n r ∙ option_cases (change_at wave n)
      (left (change_at wave n) ≡ (if has_change wave n || false then transition n (row_at db.rows n) (row_at (after_changes db wave).rows n) else None))
      (λ e. ap left e ∙ ap (λ b. if b || false then transition n (row_at db.rows n) (row_at (after_changes db wave).rows n) else None) (sym (in_wave_none wave n e)))
      (λ c e. ap left e ∙ transition_of c c.old c.new
      ∙ sides n c e
      ∙ ap (λ b. if b || false then transition n (row_at db.rows n) (row_at (after_changes db wave).rows n) else None) (sym (in_wave_some wave n c e)));
}
  where
    sides : (n : ℕ) (c : Change) → change_at wave n ≡ Some c
        → transition c.row (row_of c c.old) (row_of c c.new) ≡ transition n (row_at db.rows n) (row_at (after_changes db wave).rows n)
    sides n c e =
        let before = sym (current_at db.rows wave n c current e) in
        let after = sym (after_some db wave n c r e) in
        λ i. transition (number_at wave n c e i) (before i) (after i)

-- ---- the definition

module _ (f : StoredRow → Change) (number : (r : StoredRow) → (f r).row ≡ r.number) where
  at_map : (rows : List StoredRow) (n : ℕ) → change_at (map f rows) n ≡ option_map f (row_at rows n)
  at_map [] n = refl
  at_map (r ∷ rows) n =
      ap (λ m. if m == n then Some (f r) else change_at (map f rows) n) (number r)
      ∙ elim (r.number == n) as (λ b. (if b then Some (f r) else change_at (map f rows) n) ≡ option_map f (if b then Some r else row_at rows n)) [ true ↦ refl | false ↦ at_map rows n ]

  rising_map : (low : ℕ) (rows : List StoredRow) → InOrder rows → Above low rows → RisingChangesFrom low (map f rows)
  rising_map low [] h a = tt
  rising_map low (r ∷ rows) h a = (omega (arith, number r, a.0), subst (λ m. RisingChangesFrom m (map f rows)) (sym (number r)) (rising_map r.number rows h.1 h.0))

module _ (f g : StoredRow → Change) (number : (r : StoredRow) → (f r).row ≡ r.number) (number_too : (r : StoredRow) → (g r).row ≡ r.number) where
  rising_both : (low next : ℕ) (rows others : List StoredRow) → InOrder rows → Above low rows → Below next rows → low < next
      → InOrder others → Every (λ r. next ≤ r.number) others → RisingChangesFrom low (map f rows ++ map g others)
  rising_both low next [] others h a b less k e = rising_map g number_too low others k (from others e)
    where
      from : (some : List StoredRow) → Every (λ r. next ≤ r.number) some → Above low some
      from [] e' = tt
      from (s ∷ some) e' = (omega (arith, e'.0, less), from some e'.1)
  rising_both low next (r ∷ rows) others h a b less k e =
      (omega (arith, number r, a.0), subst (λ m. RisingChangesFrom m (map f rows ++ map g others)) (sym (number r)) (rising_both r.number next rows others h.1 h.0 b.1 b.0 k e))

every_found : (P : StoredRow → Type 0) (p : StoredRow → Bool) (all some : List StoredRow) → Present all some
    → ((r : StoredRow) → row_at all r.number ≡ Some r → p r ≡ true → P r) → Every P (filter p some)
every_found P p all [] h k = tt
every_found P p all (r ∷ some) h k =
    elim (p r) as (λ b. p r ≡ b → Every P (if b then r ∷ filter p some else filter p some)) [
      | true ↦ λ e. (k r h.0 e, every_found P p all some h.1 k)
      | false ↦ λ e. every_found P p all some h.1 k
    ] refl

is_none_is : {A : Type 0} (o : Option A) → is_none o ≡ true → o ≡ None
is_none_is None e = refl
is_none_is (Some x) e = absurd (Rattle.std.proofs.lemmas.Bool.true≢false (sym e))

second_true : (a b : Bool) → (a && b) ≡ true → b ≡ true
second_true true b e = e
second_true false b e = absurd (Rattle.std.proofs.lemmas.Bool.true≢false (sym e))

module _ (rows later : List StoredRow) (waves : List Wave) where
  -- a row that was there, and one that is added
  abbrev went : StoredRow → Change
  went r = record { table = r.table; row = r.number; old = Some r.values; new = values_at later r.number }

  abbrev came : StoredRow → Change
  came r = record { table = r.table; row = r.number; old = None; new = Some r.values }

  abbrev is_changed : StoredRow → Bool
  is_changed r = in_waves waves r.number

  abbrev is_added : StoredRow → Bool
  is_added r = in_waves waves r.number && is_none (row_at rows r.number)

  old_part : (n : ℕ) (o : Option StoredRow) → row_at rows n ≡ o
      → option_map went (passing is_changed o) ≡ (if in_waves waves n then option_map (λ (r : StoredRow). record { table = r.table; row = n; old = Some r.values; new = values_at later n }) o else None)
  old_part n None e = elim (in_waves waves n) as (λ b. ◌≡◌ {A = Option Change} None (if b then None else None)) [ true ↦ refl | false ↦ refl ]
  old_part n (Some r) e =
      let is : r.number ≡ n = number_of_row_at rows n r e in
      elim (in_waves waves r.number) as (λ b. in_waves waves r.number ≡ b → option_map went (if b then Some r else None)
      ≡ (if in_waves waves n then Some (record { table = r.table; row = n; old = Some r.values; new = values_at later n }) else None)) [
        | true ↦ λ t. (λ i. Some (record { table = r.table; row = is i; old = Some r.values; new = values_at later (is i) }))
            ∙ ap (λ b. if b then Some (record { table = r.table; row = n; old = Some r.values; new = values_at later n }) else None) (sym (ap (in_waves waves) (sym is) ∙ t))
        | false ↦ λ t. ap (λ b. if b then Some (record { table = r.table; row = n; old = Some r.values; new = values_at later n }) else None) (sym (ap (in_waves waves) (sym is) ∙ t))
      ] refl

  new_part : (n : ℕ) (o : Option StoredRow) → row_at later n ≡ o
      → option_map came (passing is_added o) ≡ (if in_waves waves n && is_none (row_at rows n) then transition n None o else None)
  new_part n None e = elim (in_waves waves n && is_none (row_at rows n)) as (λ b. ◌≡◌ {A = Option Change} None (if b then None else None)) [ true ↦ refl | false ↦ refl ]
  new_part n (Some r) e =
      let is : r.number ≡ n = number_of_row_at later n r e in
      elim (is_added r) as (λ b. is_added r ≡ b → option_map came (if b then Some r else None)
      ≡ (if in_waves waves n && is_none (row_at rows n) then Some (record { table = r.table; row = n; old = None; new = Some r.values }) else None)) [
        | true ↦ λ t. (λ i. Some (record { table = r.table; row = is i; old = None; new = Some r.values }))
            ∙ ap (λ b. if b then Some (record { table = r.table; row = n; old = None; new = Some r.values }) else None) (sym (ap (λ m. in_waves waves m && is_none (row_at rows m)) (sym is) ∙ t))
        | false ↦ λ t. ap (λ b. if b then Some (record { table = r.table; row = n; old = None; new = Some r.values }) else None) (sym (ap (λ m. in_waves waves m && is_none (row_at rows m)) (sym is) ∙ t))
      ] refl

  both_parts : (n : ℕ) (u : Bool) (o l : Option StoredRow) → row_at later n ≡ l
      → option_or (if u then option_map (λ (r : StoredRow). record { table = r.table; row = n; old = Some r.values; new = values_at later n }) o else None) (if u && is_none o then transition n None l else None)
      ≡ (if u then transition n o l else None)
  both_parts n false o l e = refl
  both_parts n true None l e = refl
  both_parts n true (Some r) l e = ap (λ (x : Option StoredRow). Some (record { table = r.table; row = n; old = Some r.values; new = values_of x })) e

net_is : (db last : Database) (waves : List Wave) → Across db last waves → IsNet db.rows last.rows waves (net_wave db.rows last.rows waves).changes
net_is db last waves a =
    let here = parts_of 0 db.rows db.next a.numbered in
    let there = parts_of 0 last.rows last.next a.ends in
    let p = is_changed db.rows last.rows waves in
    let q = is_added db.rows last.rows waves in
    let f = went db.rows last.rows waves in
    let g = came db.rows last.rows waves in
    record {
      rising = rising_both f g (λ r. refl) (λ r. refl) 0 db.next (filter p db.rows) (filter q last.rows)
          (in_order_filter p db.rows here.order) (above_filter p 0 db.rows here.above) (every_filter p db.next db.rows here.below) here.next_above
          (in_order_filter q last.rows there.order)
          (every_found (λ r. db.next ≤ r.number) q last.rows last.rows (present_itself last.rows there.order)
          (λ r e t. a.added r.number r (is_none_is (row_at db.rows r.number) (second_true (in_waves waves r.number) (is_none (row_at db.rows r.number)) t)) e));
      each = λ n.
          find-append (λ c. c.row == n) (map f (filter p db.rows)) (map g (filter q last.rows))
          ∙ (λ i. option_or (at_map f (λ r. refl) (filter p db.rows) n i) (at_map g (λ r. refl) (filter q last.rows) n i))
          ∙ (λ i. option_or (option_map f (row_at_filter_in_order p db.rows n here.order i)) (option_map g (row_at_filter_in_order q last.rows n there.order i)))
          ∙ (λ i. option_or (old_part db.rows last.rows waves n (row_at db.rows n) refl i) (new_part db.rows last.rows waves n (row_at last.rows n) refl i))
          ∙ both_parts db.rows last.rows waves n (in_waves waves n) (row_at db.rows n) (row_at last.rows n) refl;
    }
  where
    above_filter : (p : StoredRow → Bool) (n : ℕ) (rows : List StoredRow) → Above n rows → Above n (filter p rows)
    above_filter p n [] h = tt
    above_filter p n (r ∷ rows) h =
        elim (p r) as (λ b. Above n (if b then r ∷ filter p rows else filter p rows)) [ true ↦ (h.0, above_filter p n rows h.1) | false ↦ above_filter p n rows h.1 ]

    every_filter : (p : StoredRow → Bool) (n : ℕ) (rows : List StoredRow) → Below n rows → Below n (filter p rows)
    every_filter p n [] h = tt
    every_filter p n (r ∷ rows) h =
        elim (p r) as (λ b. Below n (if b then r ∷ filter p rows else filter p rows)) [ true ↦ (h.0, every_filter p n rows h.1) | false ↦ every_filter p n rows h.1 ]

-- ---- the theorems

-- the net changes of these waves
abbrev net_changes : Database → Database → List Wave → List Change
net_changes db last waves = (net_wave db.rows last.rows waves).changes

-- nothing is the net change of no wave
net_of_none : (db last : Database) → Chain db [] last → net_changes db last [] ≡ []
net_of_none db last h = only_net db.rows last.rows [] (net_changes db last []) [] (net_is db last [] (across db last [] h)) (record { rising = tt; each = λ n. refl })

-- those of one wave are its changes, except those that leave nothing before and after
net_of_one : (db last : Database) (wave : Wave) → Chain db (wave ∷ []) last → net_changes db last (wave ∷ []) ≡ filter_map kept wave.changes
net_of_one db last wave h =
    let own = net_of_changes db wave.changes h.1.rising h.1.current in
    only_net db.rows last.rows (wave ∷ []) (net_changes db last (wave ∷ [])) (filter_map kept wave.changes) (net_is db last (wave ∷ []) (across db last (wave ∷ []) h))
    (subst (λ x. IsNet db.rows x.rows (wave ∷ []) (filter_map kept wave.changes)) h.2.1 (record { rising = own.rising; each = own.each }))

-- those of a chain in two parts are those of the parts, merged
net_of_both : (db mid last : Database) (xs ys : List Wave) → Chain db xs mid → Chain mid ys last
    → net_changes db last (xs ++ ys) ≡ merged (net_changes db mid xs) (net_changes mid last ys)
net_of_both db mid last xs ys h k =
    let a = across db mid xs h in
    let b = across mid last ys k in
    only_net db.rows last.rows (xs ++ ys) (net_changes db last (xs ++ ys)) (merged (net_changes db mid xs) (net_changes mid last ys))
    (net_is db last (xs ++ ys) (across_twice db mid last xs ys a b))
    (net_twice db mid last xs ys (net_changes db mid xs) (net_changes mid last ys) a b (net_is db mid xs a) (net_is mid last ys b))

-- ---- as the code makes them

-- these are the net changes of every chain that the waves are
abbrev pub AreNet : List Wave → Wave → Type 0
AreNet waves net = (db last : Database) → Chain db waves last → net ≡ net_wave db.rows last.rows waves

pub nets_of_none : (waves : List Wave) → length waves < 1 → (net : Wave) → net ≡ wave_of [] → AreNet waves net
nets_of_none [] less net is db last h = is ∙ ap wave_of (sym (net_of_none db last h))
nets_of_none (wave ∷ waves) less net is db last h = absurd (omega (arith, less))

pub nets_of_one : (waves : List Wave) (wave : Wave) → 0 < length waves → length waves < 2 → wave ≡ get_or waves 0 wave
    → (net : Wave) → net ≡ wave_of (filter_map kept wave.changes) → AreNet waves net
nets_of_one [] wave more less is net made db last h = absurd (omega (arith, more))
nets_of_one (x ∷ []) wave more less is net made db last h =
    made ∙ ap wave_of (ap (λ (w : Wave). filter_map kept w.changes) is ∙ sym (net_of_one db last x h))
nets_of_one (x ∷ y ∷ waves) wave more less is net made db last h = absurd (omega (arith, less))

pub nets_of_both : (waves xs ys : List Wave) (older newer : Wave) → xs ++ ys ≡ waves → AreNet xs older → AreNet ys newer
    → (net : Wave) → net ≡ wave_of (merged older.changes newer.changes) → AreNet waves net
nets_of_both waves xs ys older newer e a b net made db last h =
    let parts = parted db last xs ys (subst (λ l. Chain db l last) (sym e) h) in
    made ∙ ap wave_of ((λ i. merged ((a db parts.0 parts.1 i).changes) ((b parts.0 last parts.2 i).changes)) ∙ sym (net_of_both db parts.0 last xs ys parts.1 parts.2))
    ∙ ap (net_wave db.rows last.rows) e
