-- What a row more or less under a key does.
use Rattle.std.proofs.Common.{◌≡◌, refl, ℕ, zero, suc, ◌<◌, ◌≤◌, Bool, true, false, ◌&&◌, ◌||◌, not, if◌then◌else◌, List, [], ◌∷◌, length, map, find, set, option_map, Option, Some, None, sym, ap, subst, ◌∙◌, arith}
use Rattle.std.specs.Bool.{nat_lt, ◌==◌}
use Rattle.std.specs.List.{list_any}
use Rattle.std.proofs.lemmas.Bool.{true≢false, lt-ltb, or_parts, eqb-true, eq-eqb}
use Rattle.std.proofs.lemmas.List.{length-map, length-set, get_or-set_same, get_or-set_other}
use Rattle.iv_store_following.specs.Types.{Value, Rule}
use Rattle.iv_store_following.specs.Types.rule
use Rattle.iv_value.specs.Values.{all_same}
use Rattle.iv_key.specs.Keys.{none_null}
use Rattle.iv_laws_levels.proofs.RowNumbers.{some_none, some_same}
use Rattle.iv_laws_levels.proofs.Keys.{false_true, all_same_is}
use Rattle.iv_laws_kept.specs.Numbers.{has}
use Rattle.iv_laws_kept.specs.Kept.{Group, OneEach, is_empty, is_free, rows_in}
use Rattle.iv_laws_kept.specs.GroupFlags.{rows_at}
use Rattle.iv_store_violating.specs.Flagging.{flag, with_flag}
use Rattle.iv_store_following.specs.KeyGroups.{empty_group, with_group, place_of, with_rows, violate_by, group_violates, Flagged}
use Rattle.iv_store_following.proofs.Placed.{behind, within, rows_at_key, rows_at_set, rows_in_set, same_length, same_keys, flagged_set, flag_of}

-- the place is one of the flags
pub place_in : (groups : List Group) (violating : List Bool) (key : List Value) (place : ℕ) → place_of groups key ≡ Some place → length groups ≤ length violating → place < length violating
place_in groups violating key place e len = omega (arith, within groups key place e)

pub place_in_set : (groups new : List Group) (key : List Value) (place : ℕ) (rows : List ℕ) → place_of groups key ≡ Some place → new ≡ with_rows groups place rows → place < length new
place_in_set groups new key place rows e is = omega (arith, within groups key place e, ap length is, same_length groups place rows)

pub keys_stay : (groups new : List Group) (place : ℕ) (rows : List ℕ) → new ≡ with_rows groups place rows → map (λ g. g.key) new ≡ map (λ g. g.key) groups
keys_stay groups new place rows is = ap (map (λ g. g.key)) is ∙ same_keys groups place rows

-- the rows under each key, if those of one are changed
pub rows_change : (f : List ℕ → List ℕ) (groups new : List Group) (key : List Value) (place : ℕ) (other : List Value)
    → place_of groups key ≡ Some place → new ≡ with_rows groups place (f (rows_at groups place))
    → rows_in new other ≡ (if all_same key other then f (rows_in groups other) else rows_in groups other)
rows_change f groups new key place other e is =
    ap (λ g. rows_in g other) is ∙ rows_in_set groups key place (f (rows_at groups place)) other e
    ∙ elim (all_same key other) as (λ b. all_same key other ≡ b → (if b then f (rows_at groups place) else rows_in groups other) ≡ (if b then f (rows_in groups other) else rows_in groups other)) [
      | true ↦ λ h. ap f (rows_at_key groups key place e ∙ ap (rows_in groups) (all_same_is key other h))
      | false ↦ λ h. refl
    ] refl

-- a flag set anew
flag_set : (violating : List Bool) (place at : ℕ) (raised : Bool) → place < length violating → flag (with_flag violating place raised) at ≡ (if at == place then raised else flag violating at)
flag_set violating place at raised h =
    elim (at == place) as (λ b. (at == place) ≡ b → flag (with_flag violating place raised) at ≡ (if b then raised else flag violating at)) [
      | true ↦ λ e. ap (λ q. flag (with_flag violating place raised) q) (eqb-true at place e) ∙ get_or-set_same violating place raised false h
      | false ↦ λ e. get_or-set_other violating place at raised false (λ is. true≢false (sym (eq-eqb at place is) ∙ e))
    ] refl

-- flags that are those of one list stay so if both have a place set anew
violating_set : (violating flags : List Bool) (place : ℕ) (raised : Bool) → place < length violating → place < length flags → ((q : ℕ) → flag violating q ≡ flag flags q)
    → (q : ℕ) → flag (with_flag violating place raised) q ≡ flag (with_flag flags place raised) q
violating_set violating flags place raised h i same q =
    flag_set violating place q raised h ∙ ap (λ b. if q == place then raised else b) (same q) ∙ sym (flag_set flags place q raised i)

-- the flags, if the group of a key has other rows and its flag is set anew
pub violating_change : (referenced : List Value → Bool) (rule : Rule) (groups new : List Group) (violating later : List Bool) (key : List Value) (place : ℕ) (rows found : List ℕ) (raised : Bool)
    → place_of groups key ≡ Some place → new ≡ with_rows groups place rows → found ≡ rows_at new place → length groups ≤ length violating
    → raised ≡ violate_by referenced rule key (length found) → later ≡ with_flag violating place raised
    → Flagged referenced rule groups violating → Flagged referenced rule new later
violating_change referenced rule groups new violating later key place rows found raised e is at len m l h q =
    ap (λ xs. flag xs q) (l ∙ ap (with_flag violating place) (m ∙ ap (λ r. violate_by referenced rule key (length r)) (at ∙ ap (λ g. rows_at g place) is ∙ rows_at_set groups key place rows e)))
    ∙ violating_set violating (map (group_violates referenced rule) groups) place (violate_by referenced rule key (length rows)) (place_in groups violating key place e len)
    (omega (arith, within groups key place e, length-map groups (group_violates referenced rule))) h q
    ∙ ap (λ xs. flag xs q) (sym (flagged_set referenced rule groups key place rows e) ∙ ap (map (group_violates referenced rule)) (sym is))

pub places_stay : (groups new : List Group) (violating later : List Bool) (place : ℕ) (rows : List ℕ) (raised : Bool) → new ≡ with_rows groups place rows → later ≡ with_flag violating place raised
    → length groups ≤ length violating → length new ≤ length later
places_stay groups new violating later place rows raised is l h = omega (arith, h, ap length is, same_length groups place rows, ap length l, length-set violating place raised)

-- what the flag of a group with rows tells of whether its key is referenced
pub flag_tells : (referenced : List Value → Bool) (rule : Rule) (key : List Value) (count later : ℕ) (raised : Bool)
    → nat_lt 0 count ≡ true → raised ≡ violate_by referenced rule key count
    → violate_by (λ _. not raised) rule key later ≡ violate_by referenced rule key later
flag_tells referenced (rule.NotNull column) key count later raised some is = refl
flag_tells referenced (rule.Check condition) key count later raised some is = refl
flag_tells referenced (rule.Unique nulls columns) key count later raised some is = refl
flag_tells referenced (rule.PrimaryKey columns) key count later raised some is = refl
flag_tells referenced (rule.ForeignKey fk) key count later raised some is =
    ap (λ m. nat_lt 0 later && (not (none_null key) || not (is_free fk.matching key || not m))) (is ∙ ap (λ b. b && (not (none_null key) || not (is_free fk.matching key || referenced key))) some)
    ∙ cases (nat_lt 0 later) (none_null key) (is_free fk.matching key) (referenced key)
  where
    cases : (l n f r : Bool) → (l && (not n || not (f || not (true && (not n || not (f || r)))))) ≡ (l && (not n || not (f || r)))
    cases l false f r = refl
    cases l true true r = refl
    cases l true false true = refl
    cases l true false false = refl

-- what the flag of a group that is there tells
pub flag_at_tells : (referenced : List Value → Bool) (rule : Rule) (groups : List Group) (violating : List Bool) (key : List Value) (place row later : ℕ) (raised : Bool)
    → place_of groups key ≡ Some place → has row (rows_in groups key) ≡ true → raised ≡ flag violating place → Flagged referenced rule groups violating
    → violate_by (λ _. not raised) rule key later ≡ violate_by referenced rule key later
flag_at_tells referenced rule groups violating key place row later raised e there m h =
    flag_tells referenced rule key (length (rows_in groups key)) later raised (some (rows_in groups key) there) (m ∙ h place ∙ flag_of referenced rule groups key place e)
  where
    some : (rows : List ℕ) → has row rows ≡ true → nat_lt 0 (length rows) ≡ true
    some [] e = absurd (false_true e)
    some (r ∷ rows) e = lt-ltb 0 (suc (length rows)) (omega arith)

-- ---- a key that comes to be referenced, or no longer is

-- a group of a key that is referenced as before
same_group : (before after : List Value → Bool) (k : Rule) (g : Group) → (none_null g.key ≡ true → before g.key ≡ after g.key) → group_violates before k g ≡ group_violates after k g
same_group before after (rule.NotNull column) g e = refl
same_group before after (rule.Check condition) g e = refl
same_group before after (rule.Unique nulls columns) g e = refl
same_group before after (rule.PrimaryKey columns) g e = refl
same_group before after (rule.ForeignKey fk) g e = ap (λ b. nat_lt 0 (length g.rows) && b) (by_null (none_null g.key) e)
  where
    by_null : (b : Bool) → (b ≡ true → before g.key ≡ after g.key) → (not b || not (is_free fk.matching g.key || before g.key)) ≡ (not b || not (is_free fk.matching g.key || after g.key))
    by_null true e = ap (λ b. not (is_free fk.matching g.key || b)) (e refl)
    by_null false e = refl

-- no group has the key
none_here : (key : List Value) (groups : List Group) (before after : List Value → Bool) (k : Rule) → ((other : List Value) → none_null other ≡ true → all_same other key ≡ false → after other ≡ before other)
    → list_any (λ o. all_same o.key key) groups ≡ false → map (group_violates before k) groups ≡ map (group_violates after k) groups
none_here key [] before after k h e = refl
none_here key (g ∷ groups) before after k h e =
    let parts = or_parts (all_same g.key key) (list_any (λ o. all_same o.key key) groups) e in
    λ i. same_group before after k g (λ given. sym (h g.key given parts.0)) i ∷ none_here key groups before after k h parts.1 i

not_placed : (key : List Value) (groups : List Group) → place_of groups key ≡ None → list_any (λ o. all_same o.key key) groups ≡ false
not_placed key [] e = refl
not_placed key (g ∷ groups) e =
    elim (all_same g.key key) as (λ b. (if b then Some 0 else option_map (λ p. suc p) (place_of groups key)) ≡ None → (b || list_any (λ o. all_same o.key key) groups) ≡ false) [
      | true ↦ λ h. absurd (some_none 0 h)
      | false ↦ λ h. not_placed key groups (nothing (place_of groups key) h)
    ] e
  where
    nothing : (o : Option ℕ) → option_map (λ p. suc p) o ≡ None → o ≡ None
    nothing None h = refl
    nothing (Some p) h = absurd (some_none (suc p) h)

one_here : (key : List Value) (before after : List Value → Bool) (k : Rule) → ((other : List Value) → none_null other ≡ true → all_same other key ≡ false → after other ≡ before other)
    → (groups : List Group) (place : ℕ) → OneEach groups → place_of groups key ≡ Some place
    → map (group_violates after k) groups ≡ set (map (group_violates before k) groups) place (violate_by after k key (length (rows_at groups place)))
one_here key before after k h [] place one e = absurd (some_none place (sym e))
one_here key before after k h (g ∷ groups) place one e =
    elim (all_same g.key key) as (λ b. all_same g.key key ≡ b → (if b then Some 0 else option_map (λ p. suc p) (place_of groups key)) ≡ Some place
    → map (group_violates after k) (g ∷ groups) ≡ set (map (group_violates before k) (g ∷ groups)) place (violate_by after k key (length (rows_at (g ∷ groups) place)))) [
      | true ↦ λ f p.
          let is : g.key ≡ key = all_same_is g.key key f in
          let others : list_any (λ o. all_same o.key key) groups ≡ false = ap (λ x. list_any (λ o. all_same o.key x) groups) (sym is) ∙ one.0 in
          subst (λ n. map (group_violates after k) (g ∷ groups) ≡ set (map (group_violates before k) (g ∷ groups)) n (violate_by after k key (length (rows_at (g ∷ groups) n)))) (some_same 0 place p)
          (λ i. violate_by after k (is i) (length g.rows) ∷ sym (none_here key groups before after k h others) i)
      | false ↦ λ f p.
          let next = behind (place_of groups key) place p in
          subst (λ n. map (group_violates after k) (g ∷ groups) ≡ set (map (group_violates before k) (g ∷ groups)) n (violate_by after k key (length (rows_at (g ∷ groups) n)))) (sym next.2)
          (λ i. sym (same_group before after k g (λ given. sym (h g.key given f))) i ∷ one_here key before after k h groups next.0 one.1 next.1 i)
    ] refl e

-- the flags, if the key has a group
pub refer_one : (before after : List Value → Bool) (k : Rule) (groups new : List Group) (violating later : List Bool) (key : List Value) (place : ℕ) (found : List ℕ) (raised : Bool)
    → new ≡ groups → OneEach groups → place_of groups key ≡ Some place → length groups ≤ length violating → ((other : List Value) → none_null other ≡ true → all_same other key ≡ false → after other ≡ before other)
    → found ≡ rows_at new place → raised ≡ violate_by after k key (length found) → later ≡ with_flag violating place raised
    → Flagged before k groups violating → Flagged after k new later
refer_one before after k groups new violating later key place found raised same one e len h at m l right q =
    ap (λ xs. flag xs q) (l ∙ ap (with_flag violating place) (m ∙ ap (λ r. violate_by after k key (length r)) (at ∙ ap (λ g. rows_at g place) same)))
    ∙ violating_set violating (map (group_violates before k) groups) place (violate_by after k key (length (rows_at groups place))) (place_in groups violating key place e len)
    (omega (arith, within groups key place e, length-map groups (group_violates before k))) right q
    ∙ ap (λ xs. flag xs q) (sym (one_here key before after k h groups place one e) ∙ ap (map (group_violates after k)) (sym same))

-- if it has none
pub refer_none : (before after : List Value → Bool) (k : Rule) (groups new : List Group) (violating : List Bool) (key : List Value)
    → new ≡ groups → place_of groups key ≡ None → ((other : List Value) → none_null other ≡ true → all_same other key ≡ false → after other ≡ before other)
    → Flagged before k groups violating → Flagged after k new violating
refer_none before after k groups new violating key same e h right q =
    right q ∙ ap (λ xs. flag xs q) (none_here key groups before after k h (not_placed key groups e) ∙ ap (map (group_violates after k)) (sym same))

-- ---- a group more

-- a group of no row changes no rows and no flags
pub rows_in_more : (key other : List Value) (groups : List Group) → rows_in (with_group key groups) other ≡ rows_in groups other
rows_in_more key other [] = elim (all_same key other) as (λ b. elim (if b then Some (empty_group key) else None) [ Some g ↦ g.rows | None ↦ [] ] ≡ []) [ true ↦ refl | false ↦ refl ]
rows_in_more key other (g ∷ groups) =
    elim (all_same g.key key) as (λ b. rows_in (if b then g ∷ groups else g ∷ with_group key groups) other ≡ rows_in (g ∷ groups) other) [
      | true ↦ refl
      | false ↦ elim (all_same g.key other) as (λ b. elim (if b then Some g else find (λ o. all_same o.key other) (with_group key groups)) [ Some o ↦ o.rows | None ↦ [] ]
          ≡ elim (if b then Some g else find (λ o. all_same o.key other) groups) [ Some o ↦ o.rows | None ↦ [] ]) [ true ↦ refl | false ↦ rows_in_more key other groups ]
    ]

pub flags_more : (referenced : List Value → Bool) (k : Rule) (key : List Value) (groups : List Group) (place : ℕ)
    → flag (map (group_violates referenced k) (with_group key groups)) place ≡ flag (map (group_violates referenced k) groups) place
flags_more referenced k key [] zero = refl
flags_more referenced k key [] (suc place) = refl
flags_more referenced k key (g ∷ groups) place =
    elim (all_same g.key key) as (λ b. flag (map (group_violates referenced k) (if b then g ∷ groups else g ∷ with_group key groups)) place ≡ flag (map (group_violates referenced k) (g ∷ groups)) place) [
      | true ↦ refl
      | false ↦ by_place (flags_more referenced k key groups) place
    ]
  where
    by_place : ((p : ℕ) → flag (map (group_violates referenced k) (with_group key groups)) p ≡ flag (map (group_violates referenced k) groups) p)
        → (place : ℕ) → flag (map (group_violates referenced k) (g ∷ with_group key groups)) place ≡ flag (map (group_violates referenced k) (g ∷ groups)) place
    by_place more zero = refl
    by_place more (suc place) = more place

pub length_more : (key : List Value) (groups : List Group) → length (with_group key groups) ≤ suc (length groups)
length_more key [] = omega arith
length_more key (g ∷ groups) =
    elim (all_same g.key key) as (λ b. length (if b then g ∷ groups else g ∷ with_group key groups) ≤ suc (length (g ∷ groups))) [
      | true ↦ omega arith
      | false ↦ omega (arith, length_more key groups)
    ]

-- a group more, and perhaps a place more
pub flagged_more : (referenced : List Value → Bool) (k : Rule) (groups new : List Group) (violating later : List Bool) (key : List Value)
    → new ≡ with_group key groups → ((place : ℕ) → flag later place ≡ flag violating place) → Flagged referenced k groups violating → Flagged referenced k new later
flagged_more referenced k groups new violating later key is same right place =
    same place ∙ right place ∙ sym (flags_more referenced k key groups place) ∙ ap (λ g. flag (map (group_violates referenced k) g) place) (sym is)

-- keys that are referenced as before
pub violating_stay : (before after : List Value → Bool) (k : Rule) (groups new : List Group) (violating : List Bool) → new ≡ groups
    → ((other : List Value) → none_null other ≡ true → after other ≡ before other) → Flagged before k groups violating → Flagged after k new violating
violating_stay before after k groups new violating is h right place =
    right place ∙ ap (λ xs. flag xs place) (same groups ∙ ap (map (group_violates after k)) (sym is))
  where
    same : (groups : List Group) → map (group_violates before k) groups ≡ map (group_violates after k) groups
    same [] = refl
    same (g ∷ groups) = λ i. same_group before after k g (λ given. sym (h g.key given)) i ∷ same groups i

-- ---- what code reads of rows

pub some_rows : (rows : List ℕ) → nat_lt 0 (length rows) ≡ not (is_empty rows)
some_rows [] = refl
some_rows (r ∷ rows) = lt-ltb 0 (suc (length rows)) (omega arith)

pub no_rows : (groups : List Group) (key : List Value) → place_of groups key ≡ None → rows_in groups key ≡ []
no_rows [] key e = refl
no_rows (g ∷ groups) key e =
    elim (all_same g.key key) as (λ b. (if b then Some 0 else option_map (λ p. suc p) (place_of groups key)) ≡ None
    → ◌≡◌ {A = List ℕ} (elim (if b then Some g else find (λ o. all_same o.key key) groups) [ Some o ↦ o.rows | None ↦ [] ]) []) [
      | true ↦ λ h. absurd (some_none 0 h)
      | false ↦ λ h. no_rows groups key (nothing (place_of groups key) h)
    ] e
  where
    nothing : (o : Option ℕ) → option_map (λ p. suc p) o ≡ None → o ≡ None
    nothing None h = refl
    nothing (Some p) h = absurd (some_none (suc p) h)
