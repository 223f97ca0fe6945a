-- What is kept after constraints were taken up.
use Rattle.std.proofs.Common.{◌≡◌, refl, ℕ, zero, suc, ◌+◌, ◌<◌, ◌≤◌, Bool, true, false, ◌&&◌, ◌||◌, not, if◌then◌else◌, List, [], ◌∷◌, ◌++◌, length, map, filter, flat_map, slice_get, Some, None, sym, ap, ◌∙◌, arith, ⊎_elim}
use Rattle.std.proofs.lemmas.Bool.{true≢false, cases_lt, not-true}
use Rattle.std.proofs.lemmas.List.{length-append}
use Rattle.iv_store_faults.specs.Types.{StoredRow, Rule, Constraint}
use Rattle.iv_store_faults.specs.Types.rule
use Rattle.iv_laws_levels.proofs.Keys.{and_first, false_true}
use Rattle.iv_key.specs.Keys.{none_null}
use Rattle.iv_store.specs.Stores.{numbers_of}
use Rattle.iv_store_groups.specs.Groups.{Contents, groups_of}
use Rattle.iv_store_violating.specs.Shown.{shown}
use Rattle.iv_store_violating.specs.Flagging.{flag}
use Rattle.iv_laws_kept.specs.Kept.{Group, Groups, groups_of as own_groups}
use Rattle.iv_laws_kept.specs.Kept.{AllNamed, KeysOnce, Show, can_be_key, in_order_of, is_empty, is_free, is_referenced, is_violating, rows_under, violate}
use Rattle.iv_laws_kept.specs.GroupFlags.{GroupFlags, violating_of}
use Rattle.iv_laws_kept.specs.Numbers.{has}
use Rattle.iv_laws_kept.proofs.KeptIsScan.{kept_rows_are}
use Rattle.iv_laws_kept.proofs.Naming.{Named, named_of}
use Rattle.iv_laws_kept.proofs.RisingNumbers.{has_head, has_in_rising_order}
use Rattle.iv_store_faults.specs.Watching.{AreWatched, IsShownBy, ViolatingStay, NoneViolates, Watching}
use Rattle.iv_store_faults.proofs.Taking.{no_violating}
use Rattle.iv_store_faults.proofs.WatchAppended.{still_named}

-- ---- the appended list

-- a place among the first constraints
pub among_first : {A : Type 0} (olds more : List A) (k : ℕ) (x : A) → k < length olds → slice_get (olds ++ more) k ≡ Some x → slice_get olds k ≡ Some x
among_first [] more k x less e = absurd (none less)
  where
    none : k < 0 → ⊥
    none h = omega (arith, h)
among_first (y ∷ olds) more zero x less e = e
among_first (y ∷ olds) more (suc k) x less e = among_first olds more k x (omega (arith, less)) e

-- a place behind them
pub among_more : {A : Type 0} (olds more : List A) (k : ℕ) (x : A) → length olds ≤ k → slice_get (olds ++ more) k ≡ Some x → (n : ℕ) × (slice_get more n ≡ Some x)
among_more [] more k x less e = (k, e)
among_more (y ∷ olds) more zero x less e = absurd (none less)
  where
    none : suc (length olds) ≤ 0 → ⊥
    none h = omega (arith, h)
among_more (y ∷ olds) more (suc k) x less e = among_more olds more k x (omega (arith, less)) e

-- ---- groups violate as before

same_violating : (olds more : List Constraint) (groups : Groups) (id : ℕ) (c : Constraint) (g : Group) → AllNamed olds → slice_get olds id ≡ Some c
    → is_violating (olds ++ more) groups c g ≡ is_violating olds groups c g
same_violating olds more groups id c g all at =
    by_rule c.rule refl
  where
    by_rule : (k : Rule) → c.rule ≡ k → violate (olds ++ more) groups c.rule g.key g.rows ≡ violate olds groups c.rule g.key g.rows
    by_rule (rule.NotNull column) e = (λ i. violate (olds ++ more) groups (e i) g.key g.rows) ∙ (λ i. violate olds groups (sym e i) g.key g.rows)
    by_rule (rule.Check condition) e = (λ i. violate (olds ++ more) groups (e i) g.key g.rows) ∙ (λ i. violate olds groups (sym e i) g.key g.rows)
    by_rule (rule.Unique nulls columns) e = (λ i. violate (olds ++ more) groups (e i) g.key g.rows) ∙ (λ i. violate olds groups (sym e i) g.key g.rows)
    by_rule (rule.PrimaryKey columns) e = (λ i. violate (olds ++ more) groups (e i) g.key g.rows) ∙ (λ i. violate olds groups (sym e i) g.key g.rows)
    by_rule (rule.ForeignKey fk) e =
        let n : Named olds fk = named_of olds id c fk all at e in
        let later = still_named olds more fk n.key n.found in
        let same : is_referenced (olds ++ more) groups fk g.key ≡ is_referenced olds groups fk g.key =
        ap (λ o. elim o [
          | Some k ↦ can_be_key fk.key g.key && not (is_empty (rows_under groups k.id (in_order_of k.columns fk.key g.key)))
          | None ↦ false
        ]) (later ∙ sym n.found) in
        (λ i. violate (olds ++ more) groups (e i) g.key g.rows)
        ∙ (λ i. not (is_empty g.rows) && (not (none_null g.key) || not (is_free fk.matching g.key || same i)))
        ∙ (λ i. violate olds groups (sym e i) g.key g.rows)

same_flags : (p q : Group → Bool) (own : List Group) → ((g : Group) → p g ≡ q g) → map p own ≡ map q own
same_flags p q [] h = refl
same_flags p q (g ∷ own) h = λ i. h g i ∷ same_flags p q own h i

-- ---- where no row violates, no group does

none_flagged : (p : Group → Bool) (own : List Group) → ((g : Group) → p g ≡ true → is_empty g.rows ≡ false) → ((n : ℕ) → has n (flat_map (λ g. g.rows) (filter p own)) ≡ false)
    → (place : ℕ) → flag (map p own) place ≡ false
none_flagged p [] some none place = no_flag place
  where
    no_flag : (place : ℕ) → flag [] place ≡ false
    no_flag zero = refl
    no_flag (suc place) = refl
none_flagged p (g ∷ own) some none place = by_test (λ rest. none_flagged p own some rest) (p g) refl none place
  where
    by_place : (b : Bool) → b ≡ false → ((q : ℕ) → flag (map p own) q ≡ false) → (q : ℕ) → flag (b ∷ map p own) q ≡ false
    by_place b e rest zero = e
    by_place b e rest (suc q) = rest q

    first_row : (rows : List ℕ) → is_empty rows ≡ false → ((n : ℕ) → has n (rows ++ flat_map (λ h. h.rows) (filter p own)) ≡ false) → ⊥
    first_row [] e h = true≢false e
    first_row (n ∷ rows) e h = true≢false (sym (has_head n (rows ++ flat_map (λ h. h.rows) (filter p own))) ∙ h n)

    by_test : (((n : ℕ) → has n (flat_map (λ h. h.rows) (filter p own)) ≡ false) → (q : ℕ) → flag (map p own) q ≡ false)
        → (b : Bool) → p g ≡ b → ((n : ℕ) → has n (flat_map (λ h. h.rows) (if b then g ∷ filter p own else filter p own)) ≡ false) → (q : ℕ) → flag (p g ∷ map p own) q ≡ false
    by_test rest true e h q = absurd (first_row g.rows (some g e) h)
    by_test rest false e h q = by_place (p g) e (rest h) q

-- ---- what is kept

abbrev watching : List Constraint → GroupFlags → Watching
watching constraints violating = record { constraints = constraints; violating = violating }

pub shown_more : (olds more : List Constraint) (groups : Contents) (violating later : GroupFlags) (rows : List StoredRow) → AllNamed olds → AllNamed (olds ++ more) → KeysOnce (shown groups.groups)
    → length violating ≡ length olds → ViolatingStay violating later → IsShownBy rows (watching olds violating) groups → Show rows (olds ++ more) (shown groups.groups) → NoneViolates rows more
    → IsShownBy rows (watching (olds ++ more) later) groups
shown_more olds more groups violating later rows all named once count stay s shows none = record {
  in_order = s.in_order;
  shows = shows;
  flagged = λ id c place at. ⊎_elim
      (λ (less : id < length olds).
      let old = among_first olds more id c less at in
      stay.flags id place ∙ s.flagged id c place old
      ∙ ap (λ xs. flag xs place) (sym (same_flags (is_violating (olds ++ more) (shown groups.groups) c) (is_violating olds (shown groups.groups) c) (own_groups (shown groups.groups) id)
      (λ g. same_violating olds more (shown groups.groups) id c g all old))))
      (λ (from : length olds ≤ id).
      let new = among_more olds more id c from at in
      stay.flags id place ∙ ap (λ own. flag own place) (no_violating violating id (omega (arith, count, from))) ∙ nothing place
      ∙ sym (none_flagged (is_violating (olds ++ more) (shown groups.groups) c) (own_groups (shown groups.groups) id) (λ g e. has_rows c g e)
      (λ n. sym (has_in_rising_order n (flat_map (λ g. g.rows) (filter (is_violating (olds ++ more) (shown groups.groups) c) (own_groups (shown groups.groups) id))))
      ∙ ap (has n) (kept_rows_are rows (olds ++ more) (shown groups.groups) id c s.in_order named once shows at ∙ ap numbers_of (none new.0 c new.1))) place))
      (cases_lt id (length olds));
}
  where
    nothing : (place : ℕ) → flag [] place ≡ false
    nothing zero = refl
    nothing (suc place) = refl

    has_rows : (c : Constraint) (g : Group) → is_violating (olds ++ more) (shown groups.groups) c g ≡ true → is_empty g.rows ≡ false
    has_rows c g e = not-true (is_empty g.rows) (and_first (not (is_empty g.rows)) _ e)

pub shown_same : (olds : List Constraint) (groups : Contents) (violating later : GroupFlags) (rows : List StoredRow) → ViolatingStay violating later → IsShownBy rows (watching olds violating) groups → IsShownBy rows (watching olds later) groups
shown_same olds groups violating later rows stay s = record {
  in_order = s.in_order;
  shows = s.shows;
  flagged = λ id c place at. stay.flags id place ∙ s.flagged id c place at;
}

pub watched_more : (olds more : List Constraint) (groups : Contents) (violating later : GroupFlags) → length violating ≡ length olds → length later ≡ length (olds ++ more) → length olds + length more ≤ length groups.groups → ViolatingStay violating later
    → ((id : ℕ) → length olds ≤ id → id < length (olds ++ more) → length (groups_of groups.groups id) ≤ length (violating_of later id))
    → AreWatched (watching olds violating) groups → AreWatched (watching (olds ++ more) later) groups
watched_more olds more groups violating later count new_count known stay places w k less = ⊎_elim
    (λ (old : k < length olds). record {
      in_groups = (w k old).in_groups;
      in_violating = omega (arith, less, new_count);
      places = omega (arith, (w k old).places, stay.places k (omega (arith, old, count)));
    })
    (λ (from : length olds ≤ k). record {
      in_groups = omega (arith, less, length-append olds more, known);
      in_violating = omega (arith, less, new_count);
      places = places k from less;
    })
    (cases_lt k (length olds))

pub watched_same : (olds : List Constraint) (groups : Contents) (violating later : GroupFlags) → length violating ≡ length olds → ViolatingStay violating later → AreWatched (watching olds violating) groups → AreWatched (watching olds later) groups
watched_same olds groups violating later count stay w k less = record {
  in_groups = (w k less).in_groups;
  in_violating = omega (arith, (w k less).in_violating, stay.count);
  places = omega (arith, (w k less).places, stay.places k (w k less).in_violating);
}
