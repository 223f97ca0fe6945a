-- The rows of a key are those among which a search by the key's values finds all.
use Rattle.std.proofs.Common.{◌≡◌, refl, ℕ, zero, suc, Bool, true, false, ◌&&◌, ◌||◌, not, if◌then◌else◌, List, [], ◌∷◌, filter, Option, Some, None, IfSome, ap, sym, ◌∙◌}
use Rattle.std.proofs.lemmas.Bool.{not-true}
use Rattle.std.specs.Bool.{◌==◌}
use Rattle.std.proofs.lemmas.Bool.Decides.{Decides-int_eq}
use Rattle.std.proofs.lemmas.Slice.Eq.{bytes_eq-Decides}
use Rattle.iv_store_index.specs.Types.{Value, StoredRow, Constraint}
use Rattle.iv_value.specs.declared.value.Value.TheVariants.{Null, Int, Text}
use Rattle.iv_catalogue.specs.declared.constraint.Rule.{Rule}
use Rattle.iv_catalogue.specs.declared.constraint.Rule.TheVariants as rule
use Rattle.iv_laws_kept.specs.Types.nulls.{Distinct, NotDistinct}
use Rattle.iv_value.specs.Values.{is_null, is_same, all_same}
use Rattle.iv_expr.specs.Scopes.{table_rows}
use Rattle.iv_expr.specs.Searches.{AreHolders, AreSharing, has_all}
use Rattle.iv_store_groups.specs.Groups.{GroupOf, groups_of, rows_of}
use Rattle.iv_key.specs.Keys.{key_of, none_null, value_at}
use Rattle.iv_laws_levels.proofs.Keys.{all_same_is}
use Rattle.iv_laws_kept.specs.Kept.{is_kept_under, kept_key, key_or, null_key_where, is_free, null_key, rows_under}
use Rattle.iv_store_violating.specs.Shown.{shown}
use Rattle.iv_store_violating.proofs.Shown.{rows_under_shown}
use Rattle.iv_store.specs.Stores.{numbers_of}
use Rattle.iv_store_index.specs.Keys.{columns_of_equal_nulls, key_columns}
use Rattle.iv_store_index.proofs.Children.{both_filters}

two : (a b : Bool) → (a && b) ≡ true → (a ≡ true) × (b ≡ true)
two true b h = (refl, h)
two false b h = cc

same_is : (a v : Value) → is_same a v ≡ true → a ≡ v
same_is a v h = first (all_same_is (a ∷ []) (v ∷ []) (ap (λ b. b && true) h))
  where
    first : ◌≡◌ {A = List Value} (a ∷ []) (v ∷ []) → a ≡ v
    first e = cc

-- a row that has all values has that of a column in which one is asked for
value_asked : (asked row : List Value) (c : ℕ) → has_all asked row ≡ true → is_null (value_at asked c) ≡ false → value_at row c ≡ value_at asked c
value_asked [] row c h n = cc
value_asked (a ∷ asked) [] zero h n = (let p = two (is_null a) (has_all asked []) h in absurd (both (is_null a) p.0 n))
  where
    both : (b : Bool) → b ≡ true → b ≡ false → ⊥
    both b x y = cc
value_asked (a ∷ asked) [] (suc c) h n = value_asked asked [] c (two (is_null a) (has_all asked []) h).1 n
value_asked (a ∷ asked) (v ∷ row) zero h n = sym (same_is a v (by (is_null a) n (two (is_null a || is_same a v) (has_all asked row) h).0))
  where
    by : (b : Bool) → b ≡ false → (b || is_same a v) ≡ true → is_same a v ≡ true
    by false e g = g
    by true e g = cc
value_asked (a ∷ asked) (v ∷ row) (suc c) h n = value_asked asked row c (two (is_null a || is_same a v) (has_all asked row) h).1 n

key_asked : (columns : List ℕ) (asked row : List Value) → has_all asked row ≡ true → none_null (key_of columns asked) ≡ true → key_of columns row ≡ key_of columns asked
key_asked [] asked row h n = refl
key_asked (c ∷ columns) asked row h n =
    let p = two (not (is_null (value_at asked c))) (none_null (key_of columns asked)) n in
    ap (λ (v : Value). v ∷ key_of columns row) (value_asked asked row c h (not-true (is_null (value_at asked c)) p.0))
    ∙ ap (λ (l : List Value). value_at asked c ∷ l) (key_asked columns asked row h p.1)

-- the row is kept under the key
abbrev pub is_under : Rule → List Value → List Value → Bool
is_under rule key row = elim (kept_key rule row) [ Some k ↦ all_same k key | None ↦ false ]

value_itself : (v : Value) → is_same v v ≡ true
value_itself Null = refl
value_itself (Int a) = (Decides-int_eq a a).1 refl
value_itself (Text a) = (bytes_eq-Decides a a).1 refl

itself : (key : List Value) → all_same key key ≡ true
itself [] = refl
itself (v ∷ key) = ap (λ b. b && all_same key key) (value_itself v) ∙ itself key

some_list : (a b : List ℕ) → ◌≡◌ {A = Option (List ℕ)} (Some a) (Some b) → a ≡ b
some_list a b e = cc

kept_own : (columns : List ℕ) (key row : List Value) (other : Option (List Value)) → key_of columns row ≡ key → none_null key ≡ true
    → elim (key_or (key_of columns row) other) as (λ o. Bool) [ Some k ↦ all_same k key | None ↦ false ] ≡ true
kept_own columns key row other e n =
    ap (λ (k : List Value). elim (key_or k other) as (λ o. Bool) [ Some x ↦ all_same x key | None ↦ false ]) e
    ∙ ap (λ b. elim (if b then Some key else other) as (λ o. Bool) [ Some x ↦ all_same x key | None ↦ false ]) n
    ∙ itself key

under_key : (r : Rule) (columns : List ℕ) (key row : List Value) → key_columns r ≡ Some columns → key_of columns row ≡ key → none_null key ≡ true → is_under r key row ≡ true
under_key (rule.Unique Distinct own) columns key row e k n = kept_own own key row None (ap (λ (c : List ℕ). key_of c row) (some_list own columns e) ∙ k) n
under_key (rule.Unique NotDistinct own) columns key row e k n =
    ap (λ (x : List Value). all_same x key) (ap (λ (c : List ℕ). key_of c row) (some_list own columns e) ∙ k) ∙ itself key
under_key (rule.PrimaryKey own) columns key row e k n = kept_own own key row (Some null_key) (ap (λ (c : List ℕ). key_of c row) (some_list own columns e) ∙ k) n
under_key (rule.ForeignKey fk) columns key row e k n =
    kept_own fk.columns key row (null_key_where (not (is_free fk.matching (key_of fk.columns row)))) (ap (λ (c : List ℕ). key_of c row) (some_list fk.columns columns e) ∙ k) n
under_key (rule.NotNull column) columns key row e k n = cc
under_key (rule.Check condition) columns key row e k n = cc

-- The rows of a key.
pub held_are : (rows : List StoredRow) (c : Constraint) (table id : ℕ) (groups : List (List GroupOf)) (columns : List ℕ) (asked key : List Value) (numbers : List ℕ)
    → c.table ≡ table → key_columns c.rule ≡ Some columns → key ≡ key_of columns asked → none_null key ≡ true → numbers ≡ rows_of (groups_of groups id) key
    → ((k : List Value) → rows_under (shown groups) id k ≡ numbers_of (filter (is_kept_under c k) rows)) → AreHolders asked (table_rows rows table) numbers
held_are rows c table id groups columns asked key numbers on of is n found show = (
  is_under c.rule key,
  found ∙ sym (rows_under_shown groups id key) ∙ show key
      ∙ sym (ap numbers_of (both_filters (λ r. r.table == c.table) (λ r. is_under c.rule key r.values) rows))
      ∙ ap (λ t. numbers_of (filter (λ (r : StoredRow). is_under c.rule key r.values) (table_rows rows t))) on,
  (λ row has. under_key c.rule columns key row of (key_asked columns asked row has (ap none_null (sym is) ∙ n) ∙ sym is) n),
)

-- ---- a row's values in the columns of a key, with their nulls

pub some_of : {a b : List ℕ} → a ≡ b → ◌≡◌ {A = Option (List ℕ)} (Some a) (Some b)
some_of e = ap (λ (c : List ℕ). Some c) e

under_equal : (r : Rule) (columns : List ℕ) (key row : List Value) → columns_of_equal_nulls r ≡ Some columns → key_of columns row ≡ key → is_under r key row ≡ true
under_equal (rule.Unique Distinct own) columns key row e k = cc
under_equal (rule.Unique NotDistinct own) columns key row e k =
    ap (λ (x : List Value). all_same x key) (ap (λ (c : List ℕ). key_of c row) (some_list own columns e) ∙ k) ∙ itself key
under_equal (rule.PrimaryKey own) columns key row e k = cc
under_equal (rule.ForeignKey fk) columns key row e k = cc
under_equal (rule.NotNull column) columns key row e k = cc
under_equal (rule.Check condition) columns key row e k = cc

-- The rows that share a row's values.
pub shared_are : (rows : List StoredRow) (c : Constraint) (table id : ℕ) (groups : List (List GroupOf)) (columns : List ℕ) (row key : List Value) (numbers : List ℕ)
    → c.table ≡ table → columns_of_equal_nulls c.rule ≡ Some columns → key ≡ key_of columns row → numbers ≡ rows_of (groups_of groups id) key
    → ((k : List Value) → rows_under (shown groups) id k ≡ numbers_of (filter (is_kept_under c k) rows)) → AreSharing columns row (table_rows rows table) numbers
shared_are rows c table id groups columns row key numbers on of is found show = (
  is_under c.rule key,
  found ∙ sym (rows_under_shown groups id key) ∙ show key
      ∙ sym (ap numbers_of (both_filters (λ r. r.table == c.table) (λ r. is_under c.rule key r.values) rows))
      ∙ ap (λ t. numbers_of (filter (λ (r : StoredRow). is_under c.rule key r.values) (table_rows rows t))) on,
  (λ other same. under_equal c.rule columns key other of (same ∙ sym is)),
)

pub if_some : {A X : Type 0} (r : Option A) (P : X → Type 0) (Q : A → X → Type 0) (x : X) → P x → IfSome r (λ a. (y : X) → P y → Q a y) → IfSome r (λ a. Q a x)
if_some (Some a) P Q x p h = h x p
if_some None P Q x p h = tt
