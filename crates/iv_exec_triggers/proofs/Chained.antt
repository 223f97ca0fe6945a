-- What a chain of waves does to the row of each number.
use Rattle.std.proofs.Common.{◌≡◌, refl, ℕ, ◌<◌, ◌≤◌, true, false, ◌||◌, if◌then◌else◌, List, [], ◌∷◌, ◌++◌, Option, Some, None, sym, ap, subst, ◌∙◌, arith}
use Rattle.std.specs.Bool.{◌==◌}
use Rattle.std.specs.List.{cons_option}
use Rattle.std.proofs.lemmas.Bool.{eqb-true, true≢false, or_parts}
use Rattle.iv_value.specs.declared.value.Value.{Value}
use Rattle.iv_expr.specs.declared.row.StoredRow.{StoredRow}
use Rattle.iv_expr.specs.declared.row.Change.{Change}
use Rattle.iv_expr.specs.Changes.{Wave, wave_of, RisingChangesFrom, RisingChanges}
use Rattle.iv_machine.specs.declared.database.Database.{Database}
use Rattle.iv_machine.specs.Databases.{row_at, has_change, next_after, database_after}
use Rattle.iv_machine.specs.Waves.{in_waves}
use Rattle.iv_laws_levels.specs.FittingWaves.{old_row, Current, NumbersFrom, Numbered, Chain}
use Rattle.iv_laws_levels.specs.Reorderings.{after_changes}
use Rattle.iv_laws_levels.proofs.RowNumbers.{some_none, some_same}
use Rattle.iv_laws_levels.proofs.AppliedRows.{row_of, news, side_here, side_elsewhere, no_side, row_at_rows_after}
use Rattle.iv_laws_levels.proofs.NumberedRows.{Below, parts_of}
use Rattle.iv_exec_triggers.proofs.ChangesAt.{change_at, change_some_none, number_at, at_head, at_other, at_above}

-- ---- one wave

-- what an option is
pub option_cases : {A : Type 0} (o : Option A) (P : Type 0) → (o ≡ None → P) → ((x : A) → o ≡ Some x → P) → P
option_cases None P none some = none refl
option_cases (Some x) P none some = some x refl

pub in_wave_some : (wave : List Change) (n : ℕ) (c : Change) → change_at wave n ≡ Some c → has_change wave n ≡ true
in_wave_some [] n c e = absurd (change_some_none c (sym e))
in_wave_some (d ∷ wave) n c e =
    elim (d.row == n) as (λ b. (if b then Some d else change_at wave n) ≡ Some c → (b || has_change wave n) ≡ true) [
      | true ↦ λ _. refl
      | false ↦ λ h. in_wave_some wave n c h
    ] e

pub in_wave_none : (wave : List Change) (n : ℕ) → change_at wave n ≡ None → has_change wave n ≡ false
in_wave_none [] n e = refl
in_wave_none (d ∷ wave) n e =
    elim (d.row == n) as (λ b. (if b then Some d else change_at wave n) ≡ None → (b || has_change wave n) ≡ false) [
      | true ↦ λ h. absurd (change_some_none d h)
      | false ↦ λ h. in_wave_none wave n h
    ] e

-- the row that a wave leaves at a number is that of its change
news_at : (low : ℕ) (wave : List Change) (n : ℕ) (c : Change) → RisingChangesFrom low wave → change_at wave n ≡ Some c → row_at (news wave) n ≡ row_of c c.new
news_at low [] n c r e = absurd (change_some_none c (sym e))
news_at low (d ∷ wave) n c r e =
    elim (d.row == n) as (λ b. (d.row == n) ≡ b → (if b then Some d else change_at wave n) ≡ Some c → row_at (cons_option (row_of d d.new) (news wave)) n ≡ row_of c c.new) [
      | true ↦ λ is h.
          let same : d ≡ c = Rattle.iv_exec_triggers.proofs.ChangesAt.change_some_same d c h in
          let gone : has_change wave n ≡ false = in_wave_none wave n (at_above n d.row wave (omega (arith, eqb-true d.row n is)) r.1) in
          side_here d d.new (news wave) n is (no_side (λ x. x.new) wave n gone) ∙ ap (λ x. row_of x x.new) same
      | false ↦ λ is h. side_elsewhere d d.new (news wave) n is ∙ news_at d.row wave n c r.1 h
    ] refl e

-- the row at a number after a wave that changes it
pub after_some : (db : Database) (wave : List Change) (n : ℕ) (c : Change) → RisingChanges wave → change_at wave n ≡ Some c → row_at (after_changes db wave).rows n ≡ row_of c c.new
after_some db wave n c r e =
    row_at_rows_after db.rows wave n ∙ ap (λ b. if b then row_at (news wave) n else row_at db.rows n) (in_wave_some wave n c e) ∙ news_at 0 wave n c r e

pub after_none : (db : Database) (wave : List Change) (n : ℕ) → change_at wave n ≡ None → row_at (after_changes db wave).rows n ≡ row_at db.rows n
after_none db wave n e = row_at_rows_after db.rows wave n ∙ ap (λ b. if b then row_at (news wave) n else row_at db.rows n) (in_wave_none wave n e)

pub current_at : (rows : List StoredRow) (wave : List Change) (n : ℕ) (c : Change) → Current rows wave → change_at wave n ≡ Some c → row_at rows n ≡ old_row c
current_at rows [] n c h e = absurd (change_some_none c (sym e))
current_at rows (d ∷ wave) n c h e =
    elim (d.row == n) as (λ b. (d.row == n) ≡ b → (if b then Some d else change_at wave n) ≡ Some c → row_at rows n ≡ old_row c) [
      | true ↦ λ is g. ap (row_at rows) (sym (eqb-true d.row n is)) ∙ h.0 ∙ ap old_row (Rattle.iv_exec_triggers.proofs.ChangesAt.change_some_same d c g)
      | false ↦ λ is g. current_at rows wave n c h.1 g
    ] refl e

from_on_at : (next : ℕ) (wave : List Change) (n : ℕ) (c : Change) → NumbersFrom next wave → change_at wave n ≡ Some c → c.old ≡ None → next ≤ n
from_on_at next [] n c h e none = absurd (change_some_none c (sym e))
from_on_at next (d ∷ wave) n c h e none =
    elim (d.row == n) as (λ b. (d.row == n) ≡ b → (if b then Some d else change_at wave n) ≡ Some c → next ≤ n) [
      | true ↦ λ is g.
          let same : d ≡ c = Rattle.iv_exec_triggers.proofs.ChangesAt.change_some_same d c g in
          let least : next ≤ d.row = h.0 (ap (λ x. x.old) same ∙ none) in
          omega (arith, least, eqb-true d.row n is)
      | false ↦ λ is g. from_on_at next wave n c h.1 g none
    ] refl e

next_after_least : (next : ℕ) (wave : List Change) → next ≤ next_after next wave
next_after_least next [] = omega arith
next_after_least next (c ∷ wave) = omega (arith, next_after_least next wave)

-- a row that is there has a number below the next one
number_below : (next n : ℕ) (rows : List StoredRow) (r : StoredRow) → Below next rows → row_at rows n ≡ Some r → n < next
number_below next n [] r h e = absurd (some_none r (sym e))
number_below next n (s ∷ rows) r h e =
    elim (s.number == n) as (λ b. (s.number == n) ≡ b → (if b then Some s else row_at rows n) ≡ Some r → n < next) [
      | true ↦ λ is g. omega (arith, eqb-true s.number n is, h.0)
      | false ↦ λ is g. number_below next n rows r h.1 g
    ] refl e

row_of_table : (c : Change) (side : Option (List Value)) (r : StoredRow) → row_of c side ≡ Some r → c.table ≡ r.table
row_of_table c None r e = absurd (some_none r (sym e))
row_of_table c (Some values) r e = ap (λ x. x.table) (some_same _ r e)

row_of_none : (c : Change) (side : Option (List Value)) → row_of c side ≡ None → side ≡ None
row_of_none c None e = refl
row_of_none c (Some values) e = absurd (some_none _ e)

-- ---- from a database to a later one

-- The rows outside the waves stay; rows that are added have numbers that none had; a row stays in its table.
pub record Across (db last : Database) (waves : List Wave) : Type 0 where
  pub numbered : Numbered db
  pub ends : Numbered last
  pub next : db.next ≤ last.next
  pub outside : (n : ℕ) → in_waves waves n ≡ false → row_at last.rows n ≡ row_at db.rows n
  pub added : (n : ℕ) (s : StoredRow) → row_at db.rows n ≡ None → row_at last.rows n ≡ Some s → db.next ≤ n
  pub tables : (n : ℕ) (r s : StoredRow) → row_at db.rows n ≡ Some r → row_at last.rows n ≡ Some s → r.table ≡ s.table

across_nothing : (db : Database) → Numbered db → Across db db []
across_nothing db h = record {
  numbered = h;
  ends = h;
  next = omega arith;
  outside = λ n e. refl;
  added = λ n s none some. absurd (some_none s (sym some ∙ none));
  tables = λ n r s e f. ap (λ x. x.table) (some_same r s (sym e ∙ f));
}

across_wave : (db : Database) (wave : List Change) → Numbered db → Numbered (after_changes db wave) → RisingChanges wave → Current db.rows wave → NumbersFrom db.next wave
    → Across db (after_changes db wave) (wave_of wave ∷ [])
across_wave db wave h k r current from = record {
  numbered = h;
  ends = k;
  next = next_after_least db.next wave;
  outside = λ n e. option_cases (change_at wave n) (row_at (after_changes db wave).rows n ≡ row_at db.rows n)
      (λ none. after_none db wave n none)
      (λ c some. absurd (true≢false (ap (λ b. b || false) (sym (in_wave_some wave n c some)) ∙ e)));
  added = λ n s none some. option_cases (change_at wave n) (db.next ≤ n)
      (λ out. absurd (some_none s (sym some ∙ after_none db wave n out ∙ none)))
      (λ c is. from_on_at db.next wave n c from is (row_of_none c c.old (sym (current_at db.rows wave n c current is) ∙ none)));
  tables = λ n x y e f. option_cases (change_at wave n) (x.table ≡ y.table)
      (λ out. ap (λ v. v.table) (some_same x y (sym e ∙ sym (after_none db wave n out) ∙ f)))
      (λ c is. sym (row_of_table c c.old x (sym (current_at db.rows wave n c current is) ∙ e)) ∙ row_of_table c c.new y (sym (after_some db wave n c r is) ∙ f));
}

-- the same of a wave with its columns
across_one : (db : Database) (wave : Wave) → Across db (database_after db wave) (wave_of wave.changes ∷ []) → Across db (database_after db wave) (wave ∷ [])
across_one db wave a = record {
  numbered = a.numbered;
  ends = a.ends;
  next = a.next;
  outside = a.outside;
  added = a.added;
  tables = a.tables;
}

in_waves_both : (xs ys : List Wave) (n : ℕ) → in_waves (xs ++ ys) n ≡ (in_waves xs n || in_waves ys n)
in_waves_both [] ys n = refl
in_waves_both (x ∷ xs) ys n =
    elim (has_change x.changes n) as (λ b. (b || in_waves (xs ++ ys) n) ≡ ((b || in_waves xs n) || in_waves ys n)) [ true ↦ refl | false ↦ in_waves_both xs ys n ]

pub either_wave : (xs ys : List Wave) (n : ℕ) → in_waves (xs ++ ys) n ≡ (in_waves xs n || in_waves ys n)
either_wave = in_waves_both

pub across_twice : (db mid last : Database) (xs ys : List Wave) → Across db mid xs → Across mid last ys → Across db last (xs ++ ys)
across_twice db mid last xs ys a b = record {
  numbered = a.numbered;
  ends = b.ends;
  next = omega (arith, a.next, b.next);
  outside = λ n e. let out = or_parts (in_waves xs n) (in_waves ys n) (sym (in_waves_both xs ys n) ∙ e) in b.outside n out.1 ∙ a.outside n out.0;
  added = λ n s none some. option_cases (row_at mid.rows n) (db.next ≤ n)
      (λ gone. omega (arith, a.next, b.added n s gone some))
      (λ r is. a.added n r none is);
  tables = λ n r s e f. option_cases (row_at mid.rows n) (r.table ≡ s.table)
      (λ gone. let below : n < db.next = number_below db.next n db.rows r (parts_of 0 db.rows db.next a.numbered).below e in
      absurd (omega (arith, below, a.next, b.added n s gone f)))
      (λ m is. a.tables n r m e is ∙ b.tables n m s is f);
}

-- ---- chains

chain_begins : (db last : Database) (waves : List Wave) → Chain db waves last → Numbered db
chain_begins db last [] h = h.0
chain_begins db last (wave ∷ waves) h = h.0

pub across : (db last : Database) (waves : List Wave) → Chain db waves last → Across db last waves
across db last [] h = subst (λ x. Across db x []) h.1 (across_nothing db h.0)
across db last (wave ∷ waves) h =
    across_twice db (database_after db wave) last (wave ∷ []) waves
    (across_one db wave (across_wave db wave.changes h.0 (chain_begins (database_after db wave) last waves h.2) h.1.rising h.1.current h.1.new))
    (across (database_after db wave) last waves h.2)

-- a chain of some waves and others, in two
pub parted : (db last : Database) (xs ys : List Wave) → Chain db (xs ++ ys) last → (mid : Database) × Chain db xs mid × Chain mid ys last
parted db last [] ys h = (db, (chain_begins db last ys h, refl), h)
parted db last (x ∷ xs) ys h =
    let rest = parted (database_after db x) last xs ys h.2 in
    (rest.0, (h.0, h.1, rest.1), rest.2)
