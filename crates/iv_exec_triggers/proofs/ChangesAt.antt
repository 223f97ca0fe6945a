-- Changes by their row numbers.
use Rattle.std.proofs.Common.{◌≡◌, refl, ℕ, ◌<◌, ◌≤◌, Bool, true, false, ◌&&◌, not, if◌then◌else◌, List, [], ◌∷◌, find, Option, Some, None, is_none, sym, ap, subst, ◌∙◌, arith}
use Rattle.std.specs.Bool.{nat_lt, ◌==◌}
use Rattle.std.specs.List.{cons_option}
use Rattle.std.proofs.lemmas.Bool.{eqb-true, eq-eqb, ne_eqb, ltb-true}
use Rattle.iv_expr.specs.declared.row.Change.{Change}
use Rattle.iv_expr.specs.Changes.{RisingChangesFrom}
use Rattle.iv_exec_triggers.specs.Merging.{kept, joined, merged_with, merged}

-- the change of the row of this number
abbrev pub change_at : List Change → ℕ → Option Change
change_at changes n = find (λ c. c.row == n) changes

-- ---- by number

pub change_some_none : (c : Change) → ◌≡◌ {A = Option Change} (Some c) None → ⊥
change_some_none c h = cc

pub change_some_same : (c d : Change) → ◌≡◌ {A = Option Change} (Some c) (Some d) → c ≡ d
change_some_same c d h = cc

pub at_head : (c : Change) (changes : List Change) (n : ℕ) → (c.row == n) ≡ true → change_at (c ∷ changes) n ≡ Some c
at_head c changes n e = rw e refl

pub at_other : (c : Change) (changes : List Change) (n : ℕ) → (c.row == n) ≡ false → change_at (c ∷ changes) n ≡ change_at changes n
at_other c changes n e = rw e refl

pub at_itself : (c : Change) (changes : List Change) → change_at (c ∷ changes) c.row ≡ Some c
at_itself c changes = at_head c changes c.row (eq-eqb c.row c.row refl)

-- the change at a number is of the row of that number
pub number_at : (changes : List Change) (n : ℕ) (c : Change) → change_at changes n ≡ Some c → c.row ≡ n
number_at [] n c e = absurd (change_some_none c (sym e))
number_at (d ∷ changes) n c e =
    elim (d.row == n) as (λ b. (d.row == n) ≡ b → (if b then Some d else change_at changes n) ≡ Some c → c.row ≡ n) [
      | true ↦ λ is h. ap (λ x. x.row) (sym (change_some_same d c h)) ∙ eqb-true d.row n is
      | false ↦ λ is h. number_at changes n c h
    ] refl e

-- ---- rising numbers

pub rising_lower : (low m : ℕ) (changes : List Change) → low ≤ m → RisingChangesFrom m changes → RisingChangesFrom low changes
rising_lower low m [] le r = tt
rising_lower low m (c ∷ changes) le r = (omega (arith, le, r.0), r.1)

pub at_above : (n low : ℕ) (changes : List Change) → n ≤ low → RisingChangesFrom low changes → change_at changes n ≡ None
at_above n low [] le r = refl
at_above n low (c ∷ changes) le r =
    at_other c changes n (ne_eqb c.row n (λ e. absurd (omega (arith, e, le, r.0)))) ∙ at_above n c.row changes (omega (arith, le, r.0)) r.1

least_is_absent : (c d : Change) (changes others : List Change) → c.row < d.row → RisingChangesFrom d.row others
    → change_at (c ∷ changes) c.row ≡ change_at (d ∷ others) c.row → ⊥
least_is_absent c d changes others less r e =
    change_some_none c (sym (at_itself c changes) ∙ e ∙ at_above c.row c.row (d ∷ others) (omega arith) (less, r))

-- two lists by rising number that have the same change at each number are the same
pub same_changes : (low : ℕ) (changes others : List Change) → RisingChangesFrom low changes → RisingChangesFrom low others
    → ((n : ℕ) → change_at changes n ≡ change_at others n) → changes ≡ others
same_changes low [] [] r s h = refl
same_changes low [] (d ∷ others) r s h = absurd (change_some_none d (sym (at_itself d others) ∙ sym (h d.row)))
same_changes low (c ∷ changes) [] r s h = absurd (change_some_none c (sym (at_itself c changes) ∙ h c.row))
same_changes low (c ∷ changes) (d ∷ others) r s h =
    elim (nat_lt c.row d.row) as (λ t. nat_lt c.row d.row ≡ t → c ∷ changes ≡ d ∷ others) [
      | true ↦ λ e. absurd (least_is_absent c d changes others (ltb-true _ _ e) s.1 (h c.row))
      | false ↦ λ e. elim (nat_lt d.row c.row) as (λ t. nat_lt d.row c.row ≡ t → c ∷ changes ≡ d ∷ others) [
        | true ↦ λ f. absurd (least_is_absent d c others changes (ltb-true _ _ f) r.1 (sym (h d.row)))
        | false ↦ λ f.
            let number : c.row ≡ d.row = grind (arith, e, f) in
            let first : c ≡ d = change_some_same c d (sym (at_itself c changes) ∙ h c.row ∙ ap (change_at (d ∷ others)) number ∙ at_itself d others) in
            let tails : changes ≡ others = same_changes c.row changes others r.1 (subst (λ m. RisingChangesFrom m others) (sym number) s.1)
            (λ n. elim (c.row == n) as (λ t. (c.row == n) ≡ t → change_at changes n ≡ change_at others n) [
              | true ↦ λ g. let is = eqb-true c.row n g in
                  at_above n c.row changes (omega (arith, is)) r.1 ∙ sym (at_above n d.row others (omega (arith, is, number)) s.1)
              | false ↦ λ g. sym (at_other c changes n g) ∙ h n ∙ at_other d others n (rw (← number) g)
            ] refl) in
            λ i. first i ∷ tails i
      ] refl
    ] refl

-- ---- changes that leave something

-- what is left at a number of an older and a newer change
abbrev pub join : Option Change → Option Change → Option Change
join None d = d
join (Some c) None = Some c
join (Some c) (Some d) = joined c d

pub join_none : (o : Option Change) → join o None ≡ o
join_none None = refl
join_none (Some c) = refl

-- whether it is left
abbrev pub is_left : Change → Bool
is_left c = not (is_none c.old && is_none c.new)

pub kept_left : (c : Change) (P : Option Change → Type 0) → (is_left c ≡ true → P (Some c)) → (is_left c ≡ false → P None) → P (kept c)
kept_left c P some none =
    elim (is_none c.old && is_none c.new) as (λ b. (is_none c.old && is_none c.new) ≡ b → P (if b then None else Some c)) [
      | true ↦ λ e. none (ap not e)
      | false ↦ λ e. some (ap not e)
    ] refl

-- the changes of a list that are left, at a number
pub at_kept : (c : Change) (changes : List Change) (n : ℕ) → change_at (cons_option (kept c) changes) n
    ≡ (if c.row == n then elim (kept c) [ Some d ↦ Some d | None ↦ change_at changes n ] else change_at changes n)
at_kept c changes n =
    kept_left c (λ o. change_at (cons_option o changes) n ≡ (if c.row == n then elim o [ Some d ↦ Some d | None ↦ change_at changes n ] else change_at changes n))
    (λ _. refl)
    (λ _. elim (c.row == n) as (λ b. change_at changes n ≡ (if b then change_at changes n else change_at changes n)) [ true ↦ refl | false ↦ refl ])

pub at_kept_here : (c : Change) (changes : List Change) (n : ℕ) → (c.row == n) ≡ true → change_at changes n ≡ None
    → change_at (cons_option (kept c) changes) n ≡ kept c
at_kept_here c changes n e none =
    at_kept c changes n ∙ ap (λ b. if b then elim (kept c) [ Some d ↦ Some d | None ↦ change_at changes n ] else change_at changes n) e
    ∙ ap (λ o. elim (kept c) [ Some d ↦ Some d | None ↦ o ]) none ∙ whole (kept c)
  where
    whole : (o : Option Change) → elim o [ Some d ↦ Some d | None ↦ None ] ≡ o
    whole None = refl
    whole (Some d) = refl

pub at_kept_elsewhere : (c : Change) (changes : List Change) (n : ℕ) → (c.row == n) ≡ false → change_at (cons_option (kept c) changes) n ≡ change_at changes n
at_kept_elsewhere c changes n e =
    at_kept c changes n ∙ ap (λ b. if b then elim (kept c) [ Some d ↦ Some d | None ↦ change_at changes n ] else change_at changes n) e

pub rising_kept : (low : ℕ) (c : Change) (changes : List Change) → low < c.row → RisingChangesFrom c.row changes → RisingChangesFrom low (cons_option (kept c) changes)
rising_kept low c changes less r =
    kept_left c (λ o. RisingChangesFrom low (cons_option o changes)) (λ _. (less, r)) (λ _. rising_lower low c.row changes (omega (arith, less)) r)

-- ---- merged changes

module _ (c : Change) (older : List Change) (rest : List Change → List Change) where
  at_with : ((others : List Change) (low n : ℕ) → RisingChangesFrom low others → change_at (rest others) n ≡ join (change_at older n) (change_at others n))
      → RisingChangesFrom c.row older → (newer : List Change) (low n : ℕ) → RisingChangesFrom low newer
      → change_at (merged_with c rest newer) n ≡ join (change_at (c ∷ older) n) (change_at newer n)
  at_with h r [] low n s =
      elim (c.row == n) as (λ b. (if b then Some c else change_at (rest []) n) ≡ join (if b then Some c else change_at older n) None) [
        | true ↦ refl
        | false ↦ h [] 0 n tt
      ]
  at_with h r (d ∷ newer) low n s =
      elim (nat_lt c.row d.row) as (λ t. nat_lt c.row d.row ≡ t
      → change_at (if t then c ∷ rest (d ∷ newer) else (if nat_lt d.row c.row then d ∷ merged_with c rest newer else cons_option (joined c d) (rest newer))) n
      ≡ join (change_at (c ∷ older) n) (change_at (d ∷ newer) n)) [
        | true ↦ λ e. first e
        | false ↦ λ e. elim (nat_lt d.row c.row) as (λ t. nat_lt d.row c.row ≡ t
            → change_at (if t then d ∷ merged_with c rest newer else cons_option (joined c d) (rest newer)) n
            ≡ join (change_at (c ∷ older) n) (change_at (d ∷ newer) n)) [
              | true ↦ λ f. second (at_with h r newer d.row n s.1) f
              | false ↦ λ f. third e f
            ] refl
      ] refl
    where
      first : nat_lt c.row d.row ≡ true → change_at (c ∷ rest (d ∷ newer)) n ≡ join (change_at (c ∷ older) n) (change_at (d ∷ newer) n)
      first e =
          let less : c.row < d.row = ltb-true _ _ e in
          elim (c.row == n) as (λ b. (c.row == n) ≡ b → (if b then Some c else change_at (rest (d ∷ newer)) n) ≡ join (if b then Some c else change_at older n) (change_at (d ∷ newer) n)) [
            | true ↦ λ g. let is = eqb-true c.row n g in ap (join (Some c)) (sym (at_above n c.row (d ∷ newer) (omega (arith, is)) (less, s.1)))
            | false ↦ λ g. h (d ∷ newer) low n s
          ] refl

      second : change_at (merged_with c rest newer) n ≡ join (change_at (c ∷ older) n) (change_at newer n)
          → nat_lt d.row c.row ≡ true → change_at (d ∷ merged_with c rest newer) n ≡ join (change_at (c ∷ older) n) (change_at (d ∷ newer) n)
      second ih e =
          let less : d.row < c.row = ltb-true _ _ e in
          elim (d.row == n) as (λ b. (d.row == n) ≡ b → (if b then Some d else change_at (merged_with c rest newer) n) ≡ join (change_at (c ∷ older) n) (if b then Some d else change_at newer n)) [
            | true ↦ λ g. let is = eqb-true d.row n g in ap (λ o. join o (Some d)) (sym (at_above n d.row (c ∷ older) (omega (arith, is)) (less, r)))
            | false ↦ λ g. ih
          ] refl

      third : nat_lt c.row d.row ≡ false → nat_lt d.row c.row ≡ false → change_at (cons_option (joined c d) (rest newer)) n ≡ join (change_at (c ∷ older) n) (change_at (d ∷ newer) n)
      third e f =
          let same : c.row ≡ d.row = grind (arith, e, f) in
          elim (c.row == n) as (λ b. (c.row == n) ≡ b → change_at (cons_option (joined c d) (rest newer)) n ≡ join (if b then Some c else change_at older n) (change_at (d ∷ newer) n)) [
            | true ↦ λ g. let is = eqb-true c.row n g in
                at_kept_here (record c { new = d.new }) (rest newer) n g
                (h newer d.row n s.1 ∙ ap (λ o. join o (change_at newer n)) (at_above n c.row older (omega (arith, is)) r) ∙ at_above n d.row newer (omega (arith, is, same)) s.1)
                ∙ ap (join (Some c)) (sym (at_head d newer n (rw (← same) g)))
            | false ↦ λ g. at_kept_elsewhere (record c { new = d.new }) (rest newer) n g ∙ h newer d.row n s.1
                ∙ ap (join (change_at older n)) (sym (at_other d newer n (rw (← same) g)))
          ] refl

  rising_with : ((low : ℕ) (others : List Change) → RisingChangesFrom low older → RisingChangesFrom low others → RisingChangesFrom low (rest others))
      → (low : ℕ) (newer : List Change) → low < c.row → RisingChangesFrom c.row older → RisingChangesFrom low newer → RisingChangesFrom low (merged_with c rest newer)
  rising_with h low [] less r s = (less, h c.row [] r tt)
  rising_with h low (d ∷ newer) less r s =
      elim (nat_lt c.row d.row) as (λ t. nat_lt c.row d.row ≡ t
      → RisingChangesFrom low (if t then c ∷ rest (d ∷ newer) else (if nat_lt d.row c.row then d ∷ merged_with c rest newer else cons_option (joined c d) (rest newer)))) [
        | true ↦ λ e. (less, h c.row (d ∷ newer) r (ltb-true _ _ e, s.1))
        | false ↦ λ e. elim (nat_lt d.row c.row) as (λ t. nat_lt d.row c.row ≡ t
            → RisingChangesFrom low (if t then d ∷ merged_with c rest newer else cons_option (joined c d) (rest newer))) [
              | true ↦ λ f. (s.0, rising_with h d.row newer (ltb-true _ _ f) r s.1)
              | false ↦ λ f. let same : c.row ≡ d.row = grind (arith, e, f) in
                  rising_kept low (record c { new = d.new }) (rest newer) less (h c.row newer r (subst (λ m. RisingChangesFrom m newer) (sym same) s.1))
            ] refl
      ] refl

-- what merged changes have at a number
pub at_merged : (older newer : List Change) (low high n : ℕ) → RisingChangesFrom low older → RisingChangesFrom high newer
    → change_at (merged older newer) n ≡ join (change_at older n) (change_at newer n)
at_merged [] newer low high n r s = refl
at_merged (c ∷ older) newer low high n r s =
    at_with c older (merged older) (λ others high' n' s'. at_merged older others c.row high' n' r.1 s') r.1 newer high n s

-- merged changes are by rising number
pub rising_merged : (low : ℕ) (older newer : List Change) → RisingChangesFrom low older → RisingChangesFrom low newer → RisingChangesFrom low (merged older newer)
rising_merged low [] newer r s = s
rising_merged low (c ∷ older) newer r s =
    rising_with c older (merged older) (λ low' others r' s'. rising_merged low' older others r' s') low newer r.0 r.1 s
