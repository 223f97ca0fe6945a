-- Small outcomes, as what a part of `execute` does.
use Rattle.std.proofs.Common.{◌≡◌, Bool, true, false, Option, None, Result, Ok, Err, refl, ap, sym, subst, ◌∙◌, MatchBool}
use Rattle.iv_catalogue.specs.declared.cause.Cause.{Cause}
use Rattle.iv_state.specs.Types.{Statement, Refusal, Answer, Plan}
use Rattle.iv_catalogue.specs.Refusals.{is_memory, is_memory_cause, out_of_memory, refusal_answer}
use Rattle.iv_machine.specs.Machine.{State, Outcome, accept, always, is_open, IsMemoryRefusal, changes_rows, no_work, outcome_unless, plan_outcome, refuse, transaction_cause}
use Rattle.iv_state.specs.Kept.{Seen}
use Rattle.iv_state.specs.Performing.{Did, Performs, PerformsPlan, Runs, plan_changes_rows}

pub refuse_performs : (s : State) (said : Outcome) (cause : Cause) (r : Result Answer Refusal) (x : Seen) → said ≡ refuse s cause → is_memory_cause cause ≡ false
    → r ≡ refusal_answer cause → x.state ≡ s → x.work ≡ no_work → Performs s said r x
refuse_performs s said cause r x e m f a w =
    let quiet : is_memory r ≡ false = ap is_memory f ∙ m in
    subst (λ (b : Bool). MatchBool b ((x.state ≡ s) × (r ≡ Err out_of_memory)) (Did said r x)) (sym quiet)
    (f ∙ sym (ap (λ (o : Outcome). o.answer) e), a ∙ sym (ap (λ (o : Outcome). o.state) e), w ∙ sym (ap (λ (o : Outcome). o.work) e))

pub accept_performs : (s : State) (said : Outcome) (t : State) (a : Answer) (x : Seen) → said ≡ accept t a → x.state ≡ t → x.work ≡ no_work → Performs s said (Ok a) x
accept_performs s said t a x e f w = (sym (ap (λ (o : Outcome). o.answer) e), f ∙ sym (ap (λ (o : Outcome). o.state) e), w ∙ sym (ap (λ (o : Outcome). o.work) e))

-- What takes the memory that it takes outside of every trigger does so as a statement.
pub runs_performed : (s : State) (st : Statement) (said : Outcome) (r : Result Answer Refusal) (x : Seen) → Performs s said r x → Runs s st said r x
runs_performed s st said r x p = by (is_memory r) p where
  by : (b : Bool) → MatchBool b ((x.state ≡ s) × (r ≡ Err out_of_memory)) (Did said r x)
      → MatchBool b ((x.state ≡ s) × IsMemoryRefusal (changes_rows st) s.schema r) (Did said r x)
  by true p = (p.0, (None, refl, p.1))
  by false p = p

-- the same of a plan
pub plan_performed : (s : State) (p : Plan) (r : Result Answer Refusal) (x : Seen) → Performs s (plan_outcome s p) r x → PerformsPlan s p r x
plan_performed s p r x h = by (is_memory r) h where
  by : (b : Bool) → MatchBool b ((x.state ≡ s) × (r ≡ Err out_of_memory)) (Did (plan_outcome s p) r x)
      → MatchBool b ((x.state ≡ s) × IsMemoryRefusal (plan_changes_rows p) s.schema r) (Did (plan_outcome s p) r x)
  by true h = (h.0, (None, refl, h.1))
  by false h = h

-- ---- what may always run

free : (b : Bool) → transaction_cause b always ≡ None
free true = refl
free false = refl

pub always_runs : (s : State) (said : Outcome) → outcome_unless s (transaction_cause (is_open s) always) said ≡ said
always_runs s said = ap (λ (cause : Option Cause). outcome_unless s cause said) (free (is_open s))
