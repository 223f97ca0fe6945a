-- Whether one of some truths is true, one truth after another.
use Rattle.std.proofs.Common.{◌≡◌, refl, Bool, true, false, ◌||◌, List, [], ◌∷◌, Result, Ok, Err, ap, ◌∙◌}
use Rattle.std.specs.List.{list_any}
use Rattle.iv_expr.specs.Types.{Truth, ExprFault}
use Rattle.iv_value.specs.Truths.{is_true, truth_of}
use Rattle.iv_expr.specs.Evaluation.{and_then, all_results, any_true}

-- whether one of the truths is true, or one was before
abbrev pub any_from : Bool → List (Result Truth ExprFault) → Result Truth ExprFault
any_from found [] = Ok (truth_of found)
any_from found (Ok t ∷ ts) = any_from (found || is_true t) ts
any_from found (Err e ∷ ts) = Err e

-- whether one of all these results is true
abbrev found_in : Bool → Result (List Truth) ExprFault → Result Truth ExprFault
found_in found r = and_then r (λ truths. Ok (truth_of (found || list_any is_true truths)))

or_false : (b : Bool) → b ≡ (b || false)
or_false true = refl
or_false false = refl

joined : (a b c : Bool) → ((a || b) || c) ≡ (a || (b || c))
joined true b c = refl
joined false b c = refl

one_more : (found : Bool) (t : Truth) (r : Result (List Truth) ExprFault) → found_in (found || is_true t) r ≡ found_in found (and_then r (λ truths. Ok (t ∷ truths)))
one_more found t (Ok truths) = ap (λ b. Ok (truth_of b)) (joined found (is_true t) (list_any is_true truths))
one_more found t (Err e) = refl

any_from_is : (found : Bool) (results : List (Result Truth ExprFault)) → any_from found results ≡ found_in found (all_results results)
any_from_is found [] = ap (λ b. Ok (truth_of b)) (or_false found)
any_from_is found (Ok t ∷ ts) = any_from_is (found || is_true t) ts ∙ one_more found t (all_results ts)
any_from_is found (Err e ∷ ts) = refl

pub any_is : (results : List (Result Truth ExprFault)) → any_from false results ≡ any_true results
any_is results = any_from_is false results
