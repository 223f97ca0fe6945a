-- The elements of lists.
use Rattle.std.proofs.Common.{◌≡◌, refl, ℕ, Bool, true, false, ◌||◌, if◌then◌else◌, List, [], ◌∷◌, ◌++◌, map, filter, filter_map, flat_map, Option, Some, None, sym, ap, subst, ◌∙◌, ◌⊎◌, inl, inr, ⊎_elim}
use Rattle.std.specs.Bool.{◌==◌}
use Rattle.std.specs.List.{list_any, list_all, cons_option}
use Rattle.std.proofs.lemmas.Bool.{eqb-true, eq-eqb}
use Rattle.iv_laws_levels.specs.Types.{StoredRow, Change}
use Rattle.iv_machine.specs.Databases.{row_at, has_change, first}
use Rattle.iv_laws_levels.specs.RisingRows.{InOrder}
use Rattle.iv_laws_levels.proofs.RowNumbers.{some_none, some_same}
use Rattle.iv_laws_levels.proofs.FittingWaves.{Present, present_itself}
use Rattle.iv_laws_levels.proofs.Keys.{false_true, and_first, and_second}

-- an element of a list
abbrev pub In : {A : Type 0} → A → List A → Type 0
In x [] = ⊥
In x (y ∷ ys) = (x ≡ y) ⊎ In x ys

-- an element of a list with what is known of it
pub record Member {A : Type 0} (xs : List A) (P : A → Type 0) : Type 0 where
  pub element : A
  pub is_in : In element xs
  pub holds : P element

further : {A : Type 0} (x : A) (xs : List A) (P : A → Type 0) → Member xs P → Member (x ∷ xs) P
further x xs P found = record { element = found.element; is_in = inr found.is_in; holds = found.holds }

-- ---- tests

pub in_filter : {A : Type 0} (p : A → Bool) (x : A) (xs : List A) → In x xs → p x ≡ true → In x (filter p xs)
in_filter p x [] i e = i
in_filter p x (y ∷ ys) (inl is) e = subst (λ b. In x (if b then y ∷ filter p ys else filter p ys)) (sym (ap p (sym is) ∙ e)) (inl is)
in_filter p x (y ∷ ys) (inr i) e =
    elim (p y) as (λ b. In x (if b then y ∷ filter p ys else filter p ys)) [ true ↦ inr (in_filter p x ys i e) | false ↦ in_filter p x ys i e ]

pub of_filter : {A : Type 0} (p : A → Bool) (x : A) (xs : List A) → In x (filter p xs) → In x xs × (p x ≡ true)
of_filter p x [] i = absurd i
of_filter p x (y ∷ ys) i =
    elim (p y) as (λ b. p y ≡ b → In x (if b then y ∷ filter p ys else filter p ys) → In x (y ∷ ys) × (p x ≡ true)) [
      | true ↦ λ e j. ⊎_elim (λ is. (inl is, ap p is ∙ e)) (λ k. let rest = of_filter p x ys k in (inr rest.0, rest.1)) j
      | false ↦ λ e j. let rest = of_filter p x ys j in (inr rest.0, rest.1)
    ] refl i

pub any_in : {A : Type 0} (p : A → Bool) (x : A) (xs : List A) → In x xs → p x ≡ true → list_any p xs ≡ true
any_in p x [] i e = absurd i
any_in p x (y ∷ ys) (inl is) e = ap (λ b. b || list_any p ys) (ap p (sym is) ∙ e)
any_in p x (y ∷ ys) (inr i) e = elim (p y) as (λ b. (b || list_any p ys) ≡ true) [ true ↦ refl | false ↦ any_in p x ys i e ]

pub of_any : {A : Type 0} (p : A → Bool) (xs : List A) → list_any p xs ≡ true → Member xs (λ x. p x ≡ true)
of_any p [] e = absurd (false_true e)
of_any p (y ∷ ys) e =
    elim (p y) as (λ b. p y ≡ b → (b || list_any p ys) ≡ true → Member (y ∷ ys) (λ x. p x ≡ true)) [
      | true ↦ λ f _. record { element = y; is_in = inl refl; holds = f }
      | false ↦ λ _ g. further y ys (λ x. p x ≡ true) (of_any p ys g)
    ] refl e

pub all_in : {A : Type 0} (p : A → Bool) (x : A) (xs : List A) → list_all p xs ≡ true → In x xs → p x ≡ true
all_in p x [] e i = absurd i
all_in p x (y ∷ ys) e (inl is) = ap p is ∙ and_first (p y) (list_all p ys) e
all_in p x (y ∷ ys) e (inr i) = all_in p x ys (and_second (p y) (list_all p ys) e) i

-- ---- what is made of each

in_option : {B : Type 0} (y : B) (o : Option B) (ys : List B) → In y ys → In y (cons_option o ys)
in_option y None ys i = i
in_option y (Some z) ys i = inr i

pub in_filter_map : {A B : Type 0} (f : A → Option B) (x : A) (y : B) (xs : List A) → In x xs → f x ≡ Some y → In y (filter_map f xs)
in_filter_map f x y [] i e = absurd i
in_filter_map f x y (z ∷ zs) (inl is) e = subst (λ o. In y (cons_option o (filter_map f zs))) (sym (ap f (sym is) ∙ e)) (inl refl)
in_filter_map f x y (z ∷ zs) (inr i) e = in_option y (f z) (filter_map f zs) (in_filter_map f x y zs i e)

of_option : {A B : Type 0} (f : A → Option B) (y : B) (x : A) (xs : List A) (ys : List B) (o : Option B) → f x ≡ o
    → (In y ys → Member xs (λ z. f z ≡ Some y)) → In y (cons_option o ys) → Member (x ∷ xs) (λ z. f z ≡ Some y)
of_option f y x xs ys None e rest i = further x xs (λ z. f z ≡ Some y) (rest i)
of_option f y x xs ys (Some v) e rest (inl is) = record { element = x; is_in = inl refl; holds = e ∙ ap Some (sym is) }
of_option f y x xs ys (Some v) e rest (inr i) = further x xs (λ z. f z ≡ Some y) (rest i)

pub of_filter_map : {A B : Type 0} (f : A → Option B) (y : B) (xs : List A) → In y (filter_map f xs) → Member xs (λ x. f x ≡ Some y)
of_filter_map f y [] i = absurd i
of_filter_map f y (x ∷ xs) i = of_option f y x xs (filter_map f xs) (f x) refl (of_filter_map f y xs) i

pub of_first : {A : Type 0} (x : A) (xs : List A) → first xs ≡ Some x → In x xs
of_first x [] e = absurd (some_none x (sym e))
of_first x (y ∷ ys) e = inl (sym (some_same y x e))

pub first_is : {A : Type 0} (x : A) (xs : List A) → In x xs → (y : A) × (first xs ≡ Some y)
first_is x [] i = absurd i
first_is x (y ∷ ys) i = (y, refl)

-- ---- lists made of lists

in_left : {A : Type 0} (x : A) (xs ys : List A) → In x xs → In x (xs ++ ys)
in_left x [] ys i = absurd i
in_left x (z ∷ xs) ys (inl is) = inl is
in_left x (z ∷ xs) ys (inr i) = inr (in_left x xs ys i)

in_right : {A : Type 0} (x : A) (xs ys : List A) → In x ys → In x (xs ++ ys)
in_right x [] ys i = i
in_right x (z ∷ xs) ys i = inr (in_right x xs ys i)

in_either : {A : Type 0} (x : A) (xs ys : List A) → In x (xs ++ ys) → In x xs ⊎ In x ys
in_either x [] ys i = inr i
in_either x (z ∷ xs) ys (inl is) = inl (inl is)
in_either x (z ∷ xs) ys (inr i) = ⊎_elim (λ j. inl (inr j)) (λ j. inr j) (in_either x xs ys i)

pub in_flat_map : {A B : Type 0} (f : A → List B) (y : B) (x : A) (xs : List A) → In x xs → In y (f x) → In y (flat_map f xs)
in_flat_map f y x [] i j = absurd i
in_flat_map f y x (z ∷ xs) (inl is) j = in_left y (f z) (flat_map f xs) (subst (λ v. In y (f v)) is j)
in_flat_map f y x (z ∷ xs) (inr i) j = in_right y (f z) (flat_map f xs) (in_flat_map f y x xs i j)

pub of_flat_map : {A B : Type 0} (f : A → List B) (y : B) (xs : List A) → In y (flat_map f xs) → Member xs (λ x. In y (f x))
of_flat_map f y [] i = absurd i
of_flat_map f y (x ∷ xs) i =
    ⊎_elim (λ j. record { element = x; is_in = inl refl; holds = j })
    (λ j. further x xs (λ z. In y (f z)) (of_flat_map f y xs j)) (in_either y (f x) (flat_map f xs) i)

pub of_map : {A B : Type 0} (f : A → B) (y : B) (xs : List A) → In y (map f xs) → Member xs (λ x. y ≡ f x)
of_map f y [] i = absurd i
of_map f y (x ∷ xs) (inl is) = record { element = x; is_in = inl refl; holds = is }
of_map f y (x ∷ xs) (inr i) = further x xs (λ z. y ≡ f z) (of_map f y xs i)

-- ---- rows and changes by their numbers

pub in_rows : (rows : List StoredRow) (n : ℕ) (r : StoredRow) → row_at rows n ≡ Some r → In r rows
in_rows [] n r e = absurd (some_none r (sym e))
in_rows (s ∷ rows) n r e =
    elim (s.number == n) as (λ b. (if b then Some s else row_at rows n) ≡ Some r → In r (s ∷ rows)) [
      | true ↦ λ f. inl (sym (some_same s r f))
      | false ↦ λ f. inr (in_rows rows n r f)
    ] e

present_in : (rows some : List StoredRow) (r : StoredRow) → Present rows some → In r some → row_at rows r.number ≡ Some r
present_in rows [] r h i = absurd i
present_in rows (s ∷ some) r h (inl is) = ap (λ x. row_at rows x.number) is ∙ h.0 ∙ ap Some (sym is)
present_in rows (s ∷ some) r h (inr i) = present_in rows some r h.1 i

pub rows_in : (rows : List StoredRow) (r : StoredRow) → InOrder rows → In r rows → row_at rows r.number ≡ Some r
rows_in rows r h i = present_in rows rows r (present_itself rows h) i

pub in_wave_of : (wave : List Change) (n : ℕ) → has_change wave n ≡ true → Member wave (λ c. c.row ≡ n)
in_wave_of wave n e =
    let found = of_any (λ c. c.row == n) wave e in
    record { element = found.element; is_in = found.is_in; holds = eqb-true found.element.row n found.holds }

pub wave_has : (wave : List Change) (c : Change) (n : ℕ) → In c wave → c.row ≡ n → has_change wave n ≡ true
wave_has wave c n i e = any_in (λ x. x.row == n) c wave i (eq-eqb c.row n e)
