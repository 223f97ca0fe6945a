-- What is made of each, one after another, is `each`.
use Rattle.std.proofs.Common.{◌≡◌, ◌∙◌, refl, Result, Ok, Err, List, [], ◌∷◌, ◌++◌, ap, sym, append_assoc, append-nil}
use Rattle.iv_expr.specs.Evaluation.{and_then}
use Rattle.iv_catalogue.specs.declared.cause.Cause.{Cause}
use Rattle.iv_machine.specs.Context.{each, in_turn}
use Rattle.iv_exec_proposals.specs.Steps.{added, all_added}

after : {B : Type 0} (done : List B) (y : B) (r : Result (List B) Cause)
    → and_then r (λ ys. Ok ((done ++ y ∷ []) ++ ys)) ≡ and_then (and_then r (λ ys. Ok (y ∷ ys))) (λ ys. Ok (done ++ ys))
after done y (Ok ys) = ap (λ l. Ok l) (append_assoc done (y ∷ []) ys)
after done y (Err e) = refl

one_more : {B : Type 0} (done : List B) (left : List B → Result (List B) Cause) (rest : Result (List B) Cause) (r : Result B Cause)
    → ((y : B) → left (done ++ y ∷ []) ≡ and_then rest (λ ys. Ok ((done ++ y ∷ []) ++ ys)))
    → and_then (and_then r (λ y. Ok (done ++ y ∷ []))) left ≡ and_then (and_then r (λ y. and_then rest (λ ys. Ok (y ∷ ys)))) (λ ys. Ok (done ++ ys))
one_more done left rest (Ok y) ih = ih y ∙ after done y rest
one_more done left rest (Err e) ih = refl

pub collected_from : {A B : Type 0} (f : A → Result B Cause) (xs : List A) (done : List B) → in_turn (added f) xs done ≡ and_then (each f xs) (λ ys. Ok (done ++ ys))
collected_from f [] done = ap (λ l. Ok l) (sym (append-nil done))
collected_from f (x ∷ xs) done = one_more done (in_turn (added f) xs) (each f xs) (f x) (λ y. collected_from f xs (done ++ y ∷ []))

same_list : {B : Type 0} (r : Result (List B) Cause) → and_then r (λ ys. Ok ([] ++ ys)) ≡ r
same_list (Ok ys) = refl
same_list (Err e) = refl

pub collected : {A B : Type 0} (f : A → Result B Cause) (xs : List A) → all_added f xs ≡ each f xs
collected f xs = collected_from f xs [] ∙ same_list (each f xs)

-- two functions that make the same
pub each_same : {A B : Type 0} (f g : A → Result B Cause) → ((x : A) → f x ≡ g x) → (xs : List A) → each f xs ≡ each g xs
each_same f g e [] = refl
each_same {B = B} f g e (x ∷ xs) =
    ap (λ (r : Result B Cause). and_then r (λ y. and_then (each f xs) (λ ys. Ok (y ∷ ys)))) (e x)
    ∙ ap (λ (r : Result (List B) Cause). and_then (g x) (λ y. and_then r (λ ys. Ok (y ∷ ys)))) (each_same f g e xs)
