-- Savepoints whose names are distinct: the first one of a name is the last one.
use Rattle.std.proofs.Common.{◌≡◌, ℕ, suc, ◌+◌, Bool, true, false, cond, List, [], ◌∷◌, map, length, Option, Some, None, String, refl, sym, ap, ◌∙◌, nat_lt, position, string_bytes, arith}
use Rattle.std.specs.Map.{keys_of, lookup}
use Rattle.std.specs.List.{IsDistinct, AllByRecursion, position_or_len}
use Rattle.std.specs.Str.{bytes_eq}
use Rattle.std.proofs.lemmas.Bool.Decides.{nat_tests}
use Rattle.std.proofs.lemmas.Slice.Eq.{bytes_eq-Decides}
use Rattle.iv_modes.specs.ModeMaps.{ModeMap}
use Rattle.iv_state.specs.Saved.{saved_of}
use Rattle.iv_state.specs.Saving.{last_named}
use Rattle.iv_state.proofs.TakenOut.{last_in, last_named_is, next_last, none_first}

abbrev Entry : Type 0 → Type 0
Entry Y = String Y × Option ModeMap

-- the names of two keys are the same
abbrev pub same_name : {Y : Type 0} → String Y → String Y → Bool
same_name x y = bytes_eq (string_bytes x) (string_bytes y)

-- the key of an entry has the name
abbrev pub is_named : {Y : Type 0} → List ℕ → String Y → Bool
is_named name x = bytes_eq name (string_bytes x)

abbrev where_below : Bool → ℕ → Option ℕ
where_below b n = cond b (Some n) None

below_next : (n len : ℕ) (b : Bool) → nat_lt n len ≡ b → nat_lt (1 + n) (suc len) ≡ b
below_next n len true h = grind (arith, nat_tests)
below_next n len false h = grind (arith, nat_tests)

below_any : (len : ℕ) → nat_lt 0 (suc len) ≡ true
below_any len = grind (arith, nat_tests)

next_place : (n len : ℕ) → where_below (nat_lt (1 + n) (suc len)) (1 + n) ≡ next_last (where_below (nat_lt n len) n) false
next_place n len = ap (λ (b : Bool). where_below b (1 + n)) (below_next n len (nat_lt n len) refl) ∙ by (nat_lt n len) where
  next : 1 + n ≡ suc n
  next = omega arith

  by : (b : Bool) → where_below b (1 + n) ≡ next_last (where_below b n) false
  by true = ap (λ (m : ℕ). where_below true m) next
  by false = refl

-- none of the others has the name of the first
others : {Y : Type 0} (name : List ℕ) (x : String Y) (es : List (Entry Y)) → is_named name x ≡ true → AllByRecursion (λ y. same_name x y ≡ false) (keys_of es)
    → last_in name (map saved_of es) ≡ None
others name x [] is apart = refl
others name x (e ∷ es) is apart =
    let not_here : is_named name e.0 ≡ false = ap (λ (n : List ℕ). bytes_eq n (string_bytes e.0)) ((bytes_eq-Decides name (string_bytes x)).0 is) ∙ apart.0 in
    rw (others name x es is apart.1, not_here) refl

pub first_is_last : {Y : Type 0} (name : List ℕ) (es : List (Entry Y)) → IsDistinct same_name (keys_of es) → position (is_named name) (keys_of es) ≡ last_in name (map saved_of es)
unfolding IsDistinct
first_is_last name [] distinct = refl
first_is_last name (e ∷ es) distinct = by (is_named name e.0) refl (first_is_last name es distinct.1) where
  by : (b : Bool) → is_named name e.0 ≡ b → position (is_named name) (keys_of es) ≡ last_in name (map saved_of es)
      → position (is_named name) (keys_of (e ∷ es)) ≡ last_in name (map saved_of (e ∷ es))
  by true is rest = rw (is, others name e.0 es is distinct.0) (ap (λ (b : Bool). where_below b 0) (below_any (length (keys_of es))))
  by false is rest = rw (is) (next_place (position_or_len (is_named name) (keys_of es)) (length (keys_of es)) ∙ ap (λ (o : Option ℕ). next_last o false) rest)

-- the place of a name among the savepoints
pub place_is : {Y : Type 0} (name : List ℕ) (es : List (Entry Y)) → IsDistinct same_name (keys_of es) → position (is_named name) (keys_of es) ≡ last_named name (map saved_of es)
place_is name es distinct = first_is_last name es distinct ∙ sym (last_named_is name (map saved_of es))

-- a name that no savepoint has is no key
absent : {Y : Type 0} (name : String Y) (es : List (Entry Y)) → last_in (string_bytes name) (map saved_of es) ≡ None → lookup (same_name name) es ≡ None
absent name [] h = refl
absent name (e ∷ es) h =
    let f : (is_named (string_bytes name) e.0 ≡ false) × (last_in (string_bytes name) (map saved_of es) ≡ None) =
    none_first (last_in (string_bytes name) (map saved_of es)) (is_named (string_bytes name) e.0) h in
    rw (f.0) (absent name es f.1)

pub no_key : {Y : Type 0} (name : String Y) (es : List (Entry Y)) → last_named (string_bytes name) (map saved_of es) ≡ None → lookup (same_name name) es ≡ None
no_key name es h = absent name es (sym (last_named_is (string_bytes name) (map saved_of es)) ∙ h)
