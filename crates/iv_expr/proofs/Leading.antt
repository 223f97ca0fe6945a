-- The rows of a key lead to all rows at which a condition may be true.
use Rattle.std.proofs.Common.{◌≡◌, refl, ℕ, Bool, true, false, List, [], ◌∷◌, filter, Option, Some, None, IfSome, Result, Ok, ap, sym, subst, ◌∙◌}
use Rattle.iv_expr.specs.Types.{Value, Truth, Kind, Cond, StoredRow, ExprFault}
use Rattle.iv_expr.specs.Types.truth.{False, Unknown, True}
use Rattle.iv_expr.specs.Scopes.{Scope, Rises, within}
use Rattle.iv_expr.specs.Evaluation.{truth}
use Rattle.iv_expr.specs.Searches.{AllFit, AreHolders, AreTexts, IsNotTrue, NotTrueWhere, LeavesOut, has_all, numbers_of, rows_among}
use Rattle.iv_expr.specs.Asking.{AsksMore, HasTruth, IsNeverRefused, IsNeverTrue, at_other}
use Rattle.iv_expr.specs.Found.{AreThere, LeadsTo, LeadsToSome, searched}
use Rattle.iv_expr.proofs.Outside.{same_at_other}
use Rattle.iv_expr.proofs.Sought.{among_is}

not_both : (b : Bool) → b ≡ true → b ≡ false → ⊥
not_both b x y = cc

-- a truth that implies what isn't so isn't true
not_true : (r : Result Truth ExprFault) (b : Bool) (t : Truth) → r ≡ Ok t → (r ≡ Ok True → b ≡ true) → b ≡ false → IsNotTrue r
not_true r b True e f h = absurd (not_both b (f e) h)
not_true r b False e f h = (False, e, refl)
not_true r b Unknown e f h = (Unknown, e, refl)

not_true_where : (f : List Value → Result Truth ExprFault) (kinds : List Kind) (p : List Value → Bool) (rows : List StoredRow) → AllFit kinds rows
    → ((row : List Value) → AreTexts row → f row ≡ Ok True → p row ≡ true) → ((r : StoredRow) → AllFit kinds (r ∷ []) → HasTruth (f r.values)) → NotTrueWhere f (λ r. p r.values) rows
not_true_where f kinds p [] fit holds has = tt
not_true_where f kinds p (r ∷ rows) fit holds has =
    let known = has r (fit.0, tt) in
    ((λ no. not_true (f r.values) (p r.values) known.0 known.1 (holds r.values fit.0.1) no), not_true_where f kinds p rows fit.1 holds has)

-- the condition with another row in the range inside
abbrev pub seen : Scope → Cond → List Value → Result Truth ExprFault
seen s c row = truth (within s row) c

fit_has : (s inside : Scope) (kinds : List Kind) (c : Cond) → inside ≡ within s [] → IsNeverRefused inside (kinds ∷ []) c → (r : StoredRow) → AllFit kinds (r ∷ []) → HasTruth (seen s c r.values)
fit_has s inside kinds c e never r fit =
    subst (λ (x : Scope). HasTruth (truth (at_other x r.values) c)) e (never (at_other inside r.values) (same_at_other kinds inside r.values) (fit.0.0, tt))

asked_by : (s inside : Scope) (c : Cond) (nulls asked : List Value) → inside ≡ within s [] → ((row : List Value) → has_all nulls row ≡ true)
    → AsksMore (λ row. truth (at_other inside row) c) nulls asked → (row : List Value) → AreTexts row → seen s c row ≡ Ok True → has_all asked row ≡ true
asked_by s inside c nulls asked e nothing asks row texts is =
    asks row texts (ap (λ (x : Scope). truth (at_other x row) c) e ∙ is) (nothing row)

pub leads : (s inside : Scope) (rows : List StoredRow) (kinds : List Kind) (c : Cond) (nulls asked : List Value) (numbers : List ℕ) → inside ≡ within s [] → Rises 0 rows → AllFit kinds rows
    → IsNeverRefused inside (kinds ∷ []) c → ((row : List Value) → has_all nulls row ≡ true) → AsksMore (λ row. truth (at_other inside row) c) nulls asked
    → AreHolders asked rows numbers → LeadsTo (seen s c) rows numbers
leads s inside rows kinds c nulls asked numbers e rises fit never nothing asks held =
    let p : List Value → Bool = held.0 in
    let are : rows_among numbers rows ≡ filter (λ r. p r.values) rows =
    ap (λ (l : List ℕ). rows_among l rows) held.1 ∙ among_is 0 (λ r. p r.values) rows rises in (
      held.1 ∙ sym (ap numbers_of are),
      (
        (λ r. p r.values),
        are,
        not_true_where (seen s c) kinds p rows fit
            (λ row texts is. held.2 row (asked_by s inside c nulls asked e nothing asks row texts is)) (fit_has s inside kinds c e never),
      ),
    )

pub leads_some : (s inside : Scope) (rows : List StoredRow) (kinds : List Kind) (c : Cond) (nulls asked : List Value) (found : Option (List ℕ)) → inside ≡ within s [] → Rises 0 rows → AllFit kinds rows
    → IsNeverRefused inside (kinds ∷ []) c → ((row : List Value) → has_all nulls row ≡ true) → AsksMore (λ row. truth (at_other inside row) c) nulls asked
    → IfSome found (λ h. AreHolders asked rows h) → LeadsToSome (seen s c) rows found
leads_some s inside rows kinds c nulls asked None e rises fit never nothing asks held = tt
leads_some s inside rows kinds c nulls asked (Some h) e rises fit never nothing asks held =
    leads s inside rows kinds c nulls asked h e rises fit never nothing asks held

none_among : (rows : List StoredRow) → [] ≡ numbers_of (rows_among [] rows)
none_among [] = refl
none_among (r ∷ rows) = none_among rows

-- if no row makes the condition true, none is looked at
pub leads_nowhere : (s inside : Scope) (rows : List StoredRow) (kinds : List Kind) (c : Cond) → inside ≡ within s [] → AllFit kinds rows
    → IsNeverRefused inside (kinds ∷ []) c → IsNeverTrue (λ row. truth (at_other inside row) c) → LeadsTo (seen s c) rows []
leads_nowhere s inside rows kinds c e fit never nowhere = (
  none_among rows,
  (
    (λ r. false),
    refl,
    not_true_where (seen s c) kinds (λ row. false) rows fit
        (λ row texts is. absurd (nowhere row (ap (λ (x : Scope). truth (at_other x row) c) e ∙ is))) (fit_has s inside kinds c e never),
  ),
)

-- ---- what a search goes through

all_kept : (rows : List StoredRow) → rows ≡ filter (λ r. true) rows
all_kept [] = refl
all_kept (r ∷ rows) = ap (λ (l : List StoredRow). r ∷ l) (all_kept rows)

none_fails : (f : List Value → Result Truth ExprFault) (rows : List StoredRow) → NotTrueWhere f (λ r. true) rows
none_fails f [] = tt
none_fails f (r ∷ rows) = ((λ e. absurd (not_both true refl e)), none_fails f rows)

pub leaves_out : (f : List Value → Result Truth ExprFault) (rows : List StoredRow) (found : Option (List ℕ)) → LeadsToSome f rows found → LeavesOut f rows (searched found rows)
leaves_out f rows None h = ((λ r. true), all_kept rows, none_fails f rows)
leaves_out f rows (Some numbers) h = h.1

pub are_there : (f : List Value → Result Truth ExprFault) (rows : List StoredRow) (found : Option (List ℕ)) → LeadsToSome f rows found → AreThere found rows
are_there f rows None h = tt
are_there f rows (Some numbers) h = h.0
