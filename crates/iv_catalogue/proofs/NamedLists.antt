-- Lists with names beside them.
use Rattle.std.proofs.Common.{◌≡◌, ℕ, Bool, false, List, [], ◌∷◌, ◌++◌, ◌∙◌, Option, Some, None, IfSome, map, take, drop, remove, position, length, refl, sym, ap, ◌||◌, suc, ◌<◌, ◌+◌, get_or, subst}
use Rattle.std.proofs.lemmas.Bool.{or_parts}
use Rattle.std.specs.List.{list_any, position_or_len}
use Rattle.std.proofs.lemmas.List.{take-map, drop-map, map-append, length-map, append_assoc, drop_more, map_more}
use Rattle.std.proofs.lemmas.List.Quantifiers.{position-Some}
use Rattle.iv_catalogue.specs.Names.{is_among, has_repeated}

place_map : {X Y : Type 0} (p : Y → Bool) (f : X → Y) (xs : List X) → position_or_len p (map f xs) ≡ position_or_len (λ x. p (f x)) xs
place_map p f [] = refl
place_map p f (x ∷ xs) = simp (place_map p f xs)

-- a test of what a function gives has the same place
pub position_map : {X Y : Type 0} (p : Y → Bool) (f : X → Y) (xs : List X) → position (λ x. p (f x)) xs ≡ position p (map f xs)
position_map p f xs = simp (place_map p f xs, length-map)

pub any_map : {X Y : Type 0} (p : Y → Bool) (f : X → Y) (xs : List X) → list_any (λ x. p (f x)) xs ≡ list_any p (map f xs)
any_map p f [] = refl
any_map p f (x ∷ xs) = ap (λ b. p (f x) || b) (any_map p f xs)

-- taking one out, before or after
pub remove_map : {X Y : Type 0} (f : X → Y) (xs : List X) (place : ℕ) → map f (remove xs place) ≡ remove (map f xs) place
remove_map f xs place =
    map-append f (take place xs) (drop (suc place) xs) ∙ ap (λ l. l ++ map f (drop (suc place) xs)) (sym (take-map f place xs))
    ∙ ap (λ l. take place (map f xs) ++ l) (sym (drop-map f (suc place) xs))

free_by : (earlier : List (List ℕ)) (name : List ℕ) (names : List (List ℕ)) → has_repeated earlier (name ∷ names) ≡ false
    → (is_among earlier name ≡ false) × (has_repeated (earlier ++ name ∷ []) names ≡ false)
unfolding has_repeated
free_by earlier name names h = or_parts _ _ h

-- the next name is free, and those after it are free of it too
pub next_free : {X : Type 0} (f : X → List ℕ) (earlier : List (List ℕ)) (xs : List X) (i : ℕ) (x : X) → i < length xs → x ≡ get_or xs i x
    → has_repeated earlier (map f (drop i xs)) ≡ false
    → (is_among earlier (f x) ≡ false) × (has_repeated (earlier ++ f x ∷ []) (map f (drop (i + 1) xs)) ≡ false)
next_free f earlier xs i x l e h =
    let split : map f (drop i xs) ≡ f x ∷ map f (drop (i + 1) xs) = ap (map f) (drop_more xs i x l) ∙ ap (λ y. f y ∷ map f (drop (i + 1) xs)) (sym e) in
    free_by earlier (f x) (map f (drop (i + 1) xs)) (subst (λ names. has_repeated earlier names ≡ false) split h)

-- the names so far, with the next one
pub next_names : {X : Type 0} (f : X → List ℕ) (before now : List (List ℕ)) (xs : List X) (i : ℕ) (x : X) → i < length xs → x ≡ get_or xs i x
    → now ≡ before ++ map f (take i xs) → now ++ f x ∷ [] ≡ before ++ map f (take (i + 1) xs)
next_names f before now xs i x l e h =
    ap (λ names. names ++ f x ∷ []) h ∙ append_assoc before (map f (take i xs)) (f x ∷ [])
    ∙ ap (λ names. before ++ names) (sym (map_more f xs i x l ∙ ap (λ y. map f (take i xs) ++ f y ∷ []) (sym e)))

-- a place that is found is one of the list
pub place_within : {X : Type 0} (p : X → Bool) (xs : List X) (r : Option ℕ) → r ≡ position p xs → IfSome r (λ place. place < length xs)
place_within p xs None e = tt
place_within p [] (Some place) e = cc
place_within p (x ∷ xs) (Some place) e = (position-Some p (x ∷ xs) place x (sym e)).0

-- no name, or one, repeats nothing
pub none_repeated : has_repeated [] [] ≡ false
unfolding has_repeated
none_repeated = refl

pub one_repeated : (name : List ℕ) → has_repeated [] (name ∷ []) ≡ false
unfolding has_repeated
one_repeated name = refl
