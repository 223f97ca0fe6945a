-- Steps in turn, each taken in one turn of a loop.
use Rattle.std.proofs.Common.{◌≡◌, ◌∙◌, ℕ, ◌+◌, ◌<◌, ◌≤◌, Result, Ok, Err, MatchBool, List, ◌∷◌, length, get_or, drop, map, ap, sym}
use Rattle.std.specs.List.{enumerate_from}
use Rattle.std.proofs.lemmas.List.{drop_all, drop_more}
use Rattle.iv_expr.specs.Evaluation.{and_then}
use Rattle.iv_catalogue.specs.Refusals.{is_memory_cause}
use Rattle.iv_catalogue.specs.declared.cause.Cause.{Cause}
use Rattle.iv_machine.specs.Context.{in_turn}
use Rattle.iv_exec_context.proofs.Answers.{unless_memory}

-- the next of a list, and what is left after it
pub next_left : {A : Type 0} (xs : List A) (i : ℕ) (x : A) → i < length xs → x ≡ get_or xs i x → drop i xs ≡ x ∷ drop (i + 1) xs
next_left xs i x h is = drop_more xs i x h ∙ ap (λ y. y ∷ drop (i + 1) xs) (sym is)

-- the same if what is seen of the next is lent
pub shown_left : {A : Type 0} (xs : List A) (i : ℕ) (x shown : A) → i < length xs → x ≡ get_or xs i x → shown ≡ x → drop i xs ≡ shown ∷ drop (i + 1) xs
shown_left xs i x shown h is e = next_left xs i x h is ∙ ap (λ y. y ∷ drop (i + 1) xs) (sym e)

-- the first step was done, and the others make what all make
went_on : {B : Type 0} (first said : Result B Cause) (left : B → Result B Cause) (more : B)
    → first ≡ Ok more → and_then first left ≡ said → left more ≡ said
went_on {B = B} first said left more e all = sym (ap (λ (r : Result B Cause). and_then r left) e) ∙ all

-- the first step was refused, and so are all
gave_up : {B : Type 0} (first said : Result B Cause) (left : B → Result B Cause) (cause : Cause)
    → and_then first left ≡ said → MatchBool (is_memory_cause cause) (Unit {0}) (first ≡ Err cause) → MatchBool (is_memory_cause cause) (Unit {0}) (said ≡ Err cause)
gave_up {B = B} first said left cause all refused =
    unless_memory (is_memory_cause cause) (first ≡ Err cause) (said ≡ Err cause) (λ e. sym all ∙ ap (λ (r : Result B Cause). and_then r left) e) refused

-- ---- each of a list

module _ {A B : Type 0} (f : A → B → Result B Cause) (xs : List A) (i : ℕ) (b : B) (said : Result B Cause) (all : in_turn f (drop i xs) b ≡ said) where
  pub turned_on : (x : A) (more : B) → drop i xs ≡ x ∷ drop (i + 1) xs → f x b ≡ Ok more → in_turn f (drop (i + 1) xs) more ≡ said
  turned_on x more next e = went_on (f x b) said (in_turn f (drop (i + 1) xs)) more e (sym (ap (λ (l : List A). in_turn f l b) next) ∙ all)

  pub turn_refused : (x : A) (cause : Cause) → drop i xs ≡ x ∷ drop (i + 1) xs
      → MatchBool (is_memory_cause cause) (Unit {0}) (f x b ≡ Err cause) → MatchBool (is_memory_cause cause) (Unit {0}) (said ≡ Err cause)
  turn_refused x cause next refused = gave_up (f x b) said (in_turn f (drop (i + 1) xs)) cause (sym (ap (λ (l : List A). in_turn f l b) next) ∙ all) refused

  pub all_turned : length xs ≤ i → said ≡ Ok b
  all_turned h = sym all ∙ ap (λ (l : List A). in_turn f l b) (drop_all i xs h)

-- ---- each of a list with its place

module _ {A B C : Type 0} (f : ℕ × C → B → Result B Cause) (g : A → C) (xs : List A) (i : ℕ) (b : B) (said : Result B Cause)
    (all : in_turn f (enumerate_from i (map g (drop i xs))) b ≡ said) where
  pub placed_on : (x : A) (more : B) → drop i xs ≡ x ∷ drop (i + 1) xs → f (i, g x) b ≡ Ok more → in_turn f (enumerate_from (i + 1) (map g (drop (i + 1) xs))) more ≡ said
  placed_on x more next e =
      went_on (f (i, g x) b) said (in_turn f (enumerate_from (i + 1) (map g (drop (i + 1) xs)))) more e
      (sym (ap (λ (l : List A). in_turn f (enumerate_from i (map g l)) b) next) ∙ all)

  pub place_refused : (x : A) (cause : Cause) → drop i xs ≡ x ∷ drop (i + 1) xs
      → MatchBool (is_memory_cause cause) (Unit {0}) (f (i, g x) b ≡ Err cause) → MatchBool (is_memory_cause cause) (Unit {0}) (said ≡ Err cause)
  place_refused x cause next refused =
      gave_up (f (i, g x) b) said (in_turn f (enumerate_from (i + 1) (map g (drop (i + 1) xs)))) cause
      (sym (ap (λ (l : List A). in_turn f (enumerate_from i (map g l)) b) next) ∙ all) refused

  pub all_in_place : length xs ≤ i → said ≡ Ok b
  all_in_place h = sym all ∙ ap (λ (l : List A). in_turn f (enumerate_from i (map g l)) b) (drop_all i xs h)
