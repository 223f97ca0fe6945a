-- What is found one row after another is the same if a search leaves rows out.
use Rattle.std.proofs.Common.{◌≡◌, refl, Bool, true, false, if◌then◌else◌, List, [], ◌∷◌, filter, Result, Ok, Err, ap, sym, ◌∙◌}
use Rattle.iv_value.specs.declared.value.Value.{Value}
use Rattle.iv_value.specs.declared.value.Truth.{Truth}
use Rattle.iv_value.specs.Truths.{is_true}
use Rattle.iv_expr.specs.declared.row.StoredRow.{StoredRow}
use Rattle.iv_expr.specs.declared.tree.Cond.{Cond}
use Rattle.iv_expr.specs.declared.tree.ExprFault.{ExprFault}
use Rattle.iv_expr.specs.Scopes.{Scope, within}
use Rattle.iv_expr.specs.Evaluation.{and_then, truth}
use Rattle.iv_expr.specs.Searches.{IsNotTrue, LeavesOut, NotTrueWhere}
use Rattle.iv_catalogue.specs.declared.cause.Cause.{Cause}
use Rattle.iv_machine.specs.Context.{in_turn}
use Rattle.iv_catalogue.specs.Refusals.{cause_of}
use Rattle.iv_machine.specs.Proposals.{holds}
use Rattle.iv_exec_proposals.specs.Steps.{where_holds}

-- a truth as an answer, or its fault as a cause
held : Result Truth ExprFault → Result Bool Cause
held r = elim r [ Ok t ↦ Ok (is_true t) | Err fault ↦ Err (cause_of fault) ]

not_held : (s : Scope) (c : Cond) (row : List Value) → IsNotTrue (truth (within s row) c) → holds (within s row) c ≡ Ok false
unfolding held
not_held s c row n = ap held n.1 ∙ ap (λ b. Ok b) n.2

-- the step at each row
abbrev pub step_at : {B : Type 0} → Scope → Cond → (StoredRow → B → B) → StoredRow → B → Result B Cause
step_at s c add r found = where_holds s c r.values (add r) found

passed : {B : Type 0} (s : Scope) (c : Cond) (add : StoredRow → B → B) (r : StoredRow) (b : B) → IsNotTrue (truth (within s r.values) c) → step_at s c add r b ≡ Ok b
passed {B = B} s c add r b n = ap (λ (h : Result Bool Cause). and_then h (λ x. Ok (if x then add r b else b))) (not_held s c r.values n)

same_after : {B : Type 0} (x : Result B Cause) (f g : B → Result B Cause) → ((b : B) → f b ≡ g b) → and_then x f ≡ and_then x g
same_after (Ok b) f g h = h b
same_after (Err e) f g h = refl

some_left_out : {B : Type 0} (s : Scope) (c : Cond) (add : StoredRow → B → B) (p : StoredRow → Bool) (rows : List StoredRow) → NotTrueWhere (λ row. truth (within s row) c) p rows
    → (b : B) → in_turn (step_at s c add) rows b ≡ in_turn (step_at s c add) (filter p rows) b
some_left_out s c add p [] h b = refl
some_left_out {B = B} s c add p (r ∷ rows) h b = by (p r) refl (some_left_out s c add p rows h.1)
  where
    by : (a : Bool) → p r ≡ a → ((x : B) → in_turn (step_at s c add) rows x ≡ in_turn (step_at s c add) (filter p rows) x)
        → in_turn (step_at s c add) (r ∷ rows) b ≡ in_turn (step_at s c add) (if a then r ∷ filter p rows else filter p rows) b
    by true e ih = same_after (step_at s c add r b) (in_turn (step_at s c add) rows) (in_turn (step_at s c add) (filter p rows)) ih
    by false e ih = ap (λ (x : Result B Cause). and_then x (in_turn (step_at s c add) rows)) (passed s c add r b (h.0 e)) ∙ ih b

-- What is found in the rows that a search goes through is what is found in all.
pub left_out : {B : Type 0} (s : Scope) (c : Cond) (add : StoredRow → B → B) (rows found : List StoredRow) → LeavesOut (λ row. truth (within s row) c) rows found
    → (b : B) → in_turn (step_at s c add) rows b ≡ in_turn (step_at s c add) found b
left_out s c add rows found h b =
    some_left_out s c add h.0 rows h.2 b ∙ ap (λ (l : List StoredRow). in_turn (step_at s c add) l b) (sym h.1)
