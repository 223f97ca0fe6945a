-- Two sets of names are equal if they have the same names.
use Rattle.std.proofs.Common.{◌≡◌, ℕ, Bool, true, false, ◌&&◌, ◌||◌, List, [], ◌∷◌, ◌∙◌, refl, sym, ap, map, not, cond, Option, drop, length, ◌≤◌, None, String, string_bytes}
use Rattle.std.proofs.Math.Bool.{or_assoc}
use mathlib.Core.Bool.{or-false}
use Rattle.std.proofs.lemmas.Bool.{and_from, or_left, or_right}
use Rattle.std.specs.List.{cons_option, list_any, list_all, AllByRecursion}
use Rattle.std.specs.List.Sorted.{IsStrictlySortedBy}
use Rattle.std.specs.declared.cmp.Ordering.TheVariants.{Less}
use Rattle.std.specs.Ordering.{is_eq, ordering_then, nat_cmp}
use Rattle.std.specs.Cmp.Lexicographic.{slice_cmp, pointwise, bytes_decides, pointwise_decides, lists_ties, texts_ties}
use Rattle.std.specs.BTreeMap.{is_at}
use Rattle.std.specs.BTreeSet.{BTreeSet, IsOrdered, Updates, contains, contains_text}
use Rattle.std.specs.Str.{bytes_eq}
use Rattle.std.specs.String.{string_cmp}
use Rattle.std.proofs.lemmas.Cmp.{nat_list_cmp_total}
use Rattle.std.proofs.lemmas.List.Elements.{filter_map-append}
use Rattle.std.proofs.lemmas.List.Folds.{list_any-append}
use Rattle.std.proofs.lemmas.Map.Lookups.{btree_set_from_contains, exact_bytes}
use Rattle.iv_syntax.specs.declared.table.ConstraintTime.{ConstraintTime}
use Rattle.iv_syntax.specs.declared.table.NullTreatment.{NullTreatment}
use Rattle.iv_catalogue.specs.Names.{is_among}
use Rattle.iv_catalogue.proofs.WrittenNames.{same_turned}
use Rattle.iv_resolution.specs.Constraints.{Key, WrittenConstraint, WrittenRule, not_null, unique, primary_key, check, foreign_key, is_deferrable, is_reliable, key_of_written, same_set, written_keys}
use Rattle.iv_resolution.specs.Scopes.{NamedColumn}
use Rattle.iv_resolve_scope.proofs.Places.{none_left}
use Rattle.iv_resolve_tables.specs.KeySets.{HasNames, Finds, Gains, GainsOf, some_reliable, set_cmp}

-- ---- the texts of a set

abbrev texts : {Y : Type 0} → List (String Y) → List (List ℕ)
texts ks = map string_bytes ks

same_order : {Y : Type 0} (xs ys : List (String Y)) → slice_cmp string_cmp xs ys ≡ slice_cmp (slice_cmp nat_cmp) (texts xs) (texts ys)
same_order [] [] = refl
same_order [] (y ∷ ys) = refl
same_order (x ∷ xs) [] = refl
same_order (x ∷ xs) (y ∷ ys) = ap (ordering_then (string_cmp x y)) (same_order xs ys)

same_member : {Y : Type 0} (name : List ℕ) (ks : List (String Y))
    → list_any (is_at (λ k. slice_cmp nat_cmp name (string_bytes k))) ks ≡ list_any (is_at (slice_cmp nat_cmp name)) (texts ks)
same_member name [] = refl
same_member name (k ∷ ks) = ap (λ b. is_eq (slice_cmp nat_cmp name (string_bytes k)) || b) (same_member name ks)

below : {Y : Type 0} (x : String Y) (ks : List (String Y))
    → AllByRecursion (λ y. string_cmp x y ≡ Less) ks → AllByRecursion (λ y. slice_cmp nat_cmp (string_bytes x) y ≡ Less) (texts ks)
below x [] h = h
below x (k ∷ ks) h = (h.0, below x ks h.1)

sorted_texts : {Y : Type 0} (ks : List (String Y)) → IsStrictlySortedBy string_cmp ks → IsStrictlySortedBy (slice_cmp nat_cmp) (texts ks)
unfolding IsStrictlySortedBy
sorted_texts [] h = h
sorted_texts (k ∷ ks) h = (below k ks h.0, sorted_texts ks h.1)

abbrev set_with : List (List ℕ) → BTreeSet (List ℕ)
set_with ks = record { keys = ks }

same_texts : {Y : Type 0} (s t : BTreeSet (String Y)) → IsOrdered string_cmp s → IsOrdered string_cmp t
    → ((name : List ℕ) → contains_text s name ≡ contains_text t name) → texts s.keys ≡ texts t.keys
same_texts s t a b h =
    btree_set_from_contains nat_list_cmp_total (set_with (texts s.keys)) (set_with (texts t.keys)) (sorted_texts s.keys a) (sorted_texts t.keys b)
    (λ name. sym (same_member name s.keys) ∙ h name ∙ same_member name t.keys) exact_bytes

-- ---- lists with the same names

and_first : (a b : Bool) → (a && b) ≡ true → a ≡ true
and_first true b h = refl
and_first false b h = cc

and_second : (a b : Bool) → (a && b) ≡ true → b ≡ true
and_second true b h = h
and_second false b h = cc

as_well : (a b : Bool) → (a ≡ true → b ≡ true) → (b ≡ true → a ≡ true) → a ≡ b
as_well true b g h = sym (g refl)
as_well false true g h = h refl
as_well false false g h = refl

all_within : (whole names : List (List ℕ)) → ((name : List ℕ) → is_among names name ≡ true → is_among whole name ≡ true) → list_all (is_among whole) names ≡ true
all_within whole [] h = refl
all_within whole (n ∷ names) h =
    and_from (is_among whole n) (list_all (is_among whole) names)
    (h n (or_left (bytes_eq n n) (is_among names n) ((bytes_decides n n).1 refl)))
    (all_within whole names (λ name g. h name (or_right (bytes_eq name n) (is_among names name) g)))

within_by : (whole names : List (List ℕ)) (n name : List ℕ) (b : Bool) → bytes_eq name n ≡ b → list_all (is_among whole) (n ∷ names) ≡ true
    → is_among (n ∷ names) name ≡ true → (is_among names name ≡ true → is_among whole name ≡ true) → is_among whole name ≡ true
within_by whole names n name true e h g rest = ap (is_among whole) ((bytes_decides name n).0 e) ∙ and_first (is_among whole n) (list_all (is_among whole) names) h
within_by whole names n name false e h g rest = rest (sym (ap (λ b. b || is_among names name) e) ∙ g)

one_within : (whole names : List (List ℕ)) (name : List ℕ) → list_all (is_among whole) names ≡ true → is_among names name ≡ true → is_among whole name ≡ true
one_within whole [] name h g = cc
one_within whole (n ∷ names) name h g =
    within_by whole names n name (bytes_eq name n) refl h g
    (one_within whole names name (and_second (is_among whole n) (list_all (is_among whole) names) h))

-- ---- both

same_from : {Y : Type 0} (s t : BTreeSet (String Y)) (a b : List (List ℕ)) → HasNames s a → HasNames t b
    → texts s.keys ≡ texts t.keys → same_set a b ≡ true
unfolding HasNames
same_from s t a b g h e =
    let alike : (name : List ℕ) → is_among a name ≡ is_among b name =
    λ name. sym (g.1 name) ∙ same_member name s.keys ∙ ap (list_any (is_at (slice_cmp nat_cmp name))) e ∙ sym (same_member name t.keys) ∙ h.1 name in
    and_from (list_all (is_among b) a) (list_all (is_among a) b)
    (all_within b a (λ name q. sym (alike name) ∙ q)) (all_within a b (λ name q. alike name ∙ q))

same_to : {Y : Type 0} (s t : BTreeSet (String Y)) (a b : List (List ℕ)) → HasNames s a → HasNames t b
    → same_set a b ≡ true → texts s.keys ≡ texts t.keys
unfolding HasNames
same_to s t a b g h e =
    same_texts s t g.0 h.0
    (λ name. g.1 name
    ∙ as_well (is_among a name) (is_among b name)
    (one_within b a name (and_first (list_all (is_among b) a) (list_all (is_among a) b) e))
    (one_within a b name (and_second (list_all (is_among b) a) (list_all (is_among a) b) e))
    ∙ sym (h.1 name))

tied : (xs ys : List (List ℕ)) → is_eq (slice_cmp (slice_cmp nat_cmp) xs ys) ≡ pointwise bytes_eq xs ys
tied xs ys = sym (lists_ties (slice_cmp nat_cmp) texts_ties xs ys)

-- equal sets are those of the same names
pub equal_sets : {Y : Type 0} (s t : BTreeSet (String Y)) (a b : List (List ℕ)) → HasNames s a → HasNames t b → is_eq (set_cmp s t) ≡ same_set a b
equal_sets s t a b g h =
    let decides = pointwise_decides bytes_decides (texts s.keys) (texts t.keys) in
    ap is_eq (same_order s.keys t.keys) ∙ tied (texts s.keys) (texts t.keys)
    ∙ as_well (pointwise bytes_eq (texts s.keys) (texts t.keys)) (same_set a b)
    (λ e. same_from s t a b g h (decides.0 e)) (λ e. decides.1 (same_to s t a b g h e))

-- a set that has all names up to the end of the list
pub all_names : {Y : Type 0} (set : BTreeSet (String Y)) (names : List (List ℕ)) (i : ℕ) → IsOrdered string_cmp set
    → ((name : List ℕ) → (contains_text set name || is_among (drop i names) name) ≡ is_among names name) → length names ≤ i → HasNames set names
unfolding HasNames
all_names set names i ordered h end =
    (ordered, λ name. sym (or-false (contains_text set name)) ∙ ap (λ l. contains_text set name || is_among l name) (sym (none_left names i end)) ∙ h name)

-- ---- a set gains a name, and sets gain a set

cond_or : (b more : Bool) → cond b true more ≡ (more || b)
cond_or true true = refl
cond_or true false = refl
cond_or false true = refl
cond_or false false = refl

pub gained_text : (old : Bool) (name other : List ℕ) → cond (bytes_eq name other) true old ≡ (old || bytes_eq other name)
gained_text old name other = cond_or (bytes_eq name other) old ∙ ap (λ b. old || b) (same_turned name other)

turned : (a b : Bool) → (a && b) ≡ (b && a)
turned true true = refl
turned true false = refl
turned false true = refl
turned false false = refl

pub gained_set : {Y : Type 0} (old new : BTreeSet (BTreeSet (String Y))) (set : BTreeSet (String Y)) (names : List (List ℕ))
    → HasNames set names → Updates set_cmp old new set true → Gains old new (λ others. same_set others names)
unfolding Gains
gained_set old new set names h u other others g =
    u.0 other
    ∙ ap (λ b. cond b true (contains set_cmp old other)) (equal_sets set other names others h g)
    ∙ cond_or (same_set names others) (contains set_cmp old other)
    ∙ ap (λ b. contains set_cmp old other || b) (turned (list_all (is_among others) names) (list_all (is_among names) others))

pub found_set : {Y : Type 0} (sets : BTreeSet (BTreeSet (String Y))) (set : BTreeSet (String Y)) (names : List (List ℕ)) (p : List (List ℕ) → Bool)
    → Finds sets p → HasNames set names → contains set_cmp sets set ≡ p names
unfolding Finds
found_set sets set names p h g = h set names g

-- ---- the keys of constraints

-- the first constraint's key, and those after it
next_reliable : (columns : List NamedColumn) (k : WrittenConstraint) (ks : List WrittenConstraint) (names : List (List ℕ))
    → some_reliable columns (k ∷ ks) names ≡ (some_reliable columns (k ∷ []) names || some_reliable columns ks names)
unfolding some_reliable
next_reliable columns k ks names =
    ap (list_any (is_reliable names)) (filter_map-append (λ c. key_of_written columns c.time c.rule) (k ∷ []) ks)
    ∙ list_any-append (is_reliable names) (written_keys columns (k ∷ [])) (written_keys columns ks)

abbrev pub constraint_of : Option (List ℕ) → WrittenRule → ConstraintTime → WrittenConstraint
constraint_of name rule time = record { name = name; rule = rule; time = time }

pub unique_alone : (columns : List NamedColumn) (name : Option (List ℕ)) (nulls : NullTreatment) (key : List (List ℕ)) (time : ConstraintTime) (names : List (List ℕ))
    → is_deferrable time ≡ false → some_reliable columns (constraint_of name (unique nulls key) time ∷ []) names ≡ same_set names key
unfolding some_reliable
unique_alone columns name nulls key time names h = ap (λ b. (not b && same_set names key) || false) h ∙ or-false (same_set names key)

pub primary_alone : (columns : List NamedColumn) (name : Option (List ℕ)) (key : List (List ℕ)) (time : ConstraintTime) (names : List (List ℕ))
    → is_deferrable time ≡ false → some_reliable columns (constraint_of name (primary_key key) time ∷ []) names ≡ same_set names key
unfolding some_reliable
primary_alone columns name key time names h = ap (λ b. (not b && same_set names key) || false) h ∙ or-false (same_set names key)

pub deferrable_alone : (columns : List NamedColumn) (name : Option (List ℕ)) (rule : WrittenRule) (time : ConstraintTime) (names : List (List ℕ))
    → is_deferrable time ≡ true → some_reliable columns (constraint_of name rule time ∷ []) names ≡ false
unfolding some_reliable
deferrable_alone columns name (not_null column) time names h = refl
deferrable_alone columns name (unique nulls key) time names h = ap (λ b. (not b && same_set names key) || false) h
deferrable_alone columns name (primary_key key) time names h = ap (λ b. (not b && same_set names key) || false) h
deferrable_alone columns name (check c) time names h = refl
deferrable_alone columns name (foreign_key key r) time names h = refl

-- a constraint that is no key
pub none_alone : (columns : List NamedColumn) (name : Option (List ℕ)) (rule : WrittenRule) (time : ConstraintTime) (names : List (List ℕ))
    → key_of_written columns time rule ≡ None → some_reliable columns (constraint_of name rule time ∷ []) names ≡ false
unfolding some_reliable
none_alone columns name rule time names h = ap (λ o. list_any (is_reliable names) (cons_option o [])) h

pub gains_first : {Y : Type 0} (old : BTreeSet (BTreeSet (String Y))) (p : List (List ℕ) → Bool) → GainsOf old old p p
unfolding GainsOf
gains_first old p set names h = refl

pub gains_next : {Y : Type 0} (old now new : BTreeSet (BTreeSet (String Y))) (columns : List NamedColumn) (p : List (List ℕ) → Bool)
    (k : WrittenConstraint) (ks rest : List WrittenConstraint) → k ∷ ks ≡ rest
    → GainsOf old now p (some_reliable columns rest) → Gains now new (some_reliable columns (k ∷ [])) → GainsOf old new p (some_reliable columns ks)
unfolding Gains GainsOf
gains_next old now new columns p k ks rest e h g set names s =
    ap (λ b. b || some_reliable columns ks names) (g set names s)
    ∙ or_assoc (contains set_cmp now set) (some_reliable columns (k ∷ []) names) (some_reliable columns ks names)
    ∙ ap (λ b. contains set_cmp now set || b) (sym (next_reliable columns k ks names) ∙ ap (λ l. some_reliable columns l names) e)
    ∙ h set names s

pub gains_all : {Y : Type 0} (old new : BTreeSet (BTreeSet (String Y))) (columns : List NamedColumn) (p : List (List ℕ) → Bool)
    (rest : List WrittenConstraint) → [] ≡ rest → GainsOf old new p (some_reliable columns rest) → Gains old new p
unfolding Gains GainsOf some_reliable
gains_all old new columns p rest e h set names s =
    sym (or-false (contains set_cmp new set))
    ∙ ap (λ l. contains set_cmp new set || list_any (is_reliable names) (written_keys columns l)) e
    ∙ h set names s

pub gains_none : {Y : Type 0} (sets : BTreeSet (BTreeSet (String Y))) (p : List (List ℕ) → Bool) → ((names : List (List ℕ)) → p names ≡ false) → Gains sets sets p
unfolding Gains
gains_none sets p h set names s = sym (or-false (contains set_cmp sets set)) ∙ ap (λ b. contains set_cmp sets set || b) (sym (h names))

-- sets that gain all from nothing
pub finds_gained : {Y : Type 0} (old new : BTreeSet (BTreeSet (String Y))) (p : List (List ℕ) → Bool) → old.keys ≡ [] → Gains old new p → Finds new p
unfolding Gains Finds
finds_gained old new p e g set names s = g set names s ∙ ap (λ ks. list_any (is_at (set_cmp set)) ks || p names) e

-- the same, of a table whose keys are those of the constraints
pub finds_keys : {Y : Type 0} (sets : BTreeSet (BTreeSet (String Y))) (columns : List NamedColumn) (ks : List WrittenConstraint) (keys : List Key)
    → keys ≡ written_keys columns ks → Finds sets (some_reliable columns ks) → Finds sets (λ names. list_any (is_reliable names) keys)
unfolding Finds some_reliable
finds_keys sets columns ks keys e h set names s = h set names s ∙ ap (list_any (is_reliable names)) (sym e)
