-- One statement after another, each as the clauses of `execute` say it.
use Rattle.std.proofs.Common.{◌≡◌, ◌∙◌, Bool, List, [], ◌∷◌, ◌++◌, Result, refl, sym, subst, append-nil, append_assoc}
use Rattle.iv_session.specs.Types.{Statement, Refusal, Answer}
use Rattle.iv_state.specs.Kept.{Seen}
use Rattle.iv_step.proofs.Asked.{asked_stays}
use Rattle.iv_session.specs.Executed.{Executed}
use Rattle.iv_session.specs.RunningAll.{AllExecuted}

-- These were executed, and whatever the rest does, all do.
pub record Went (sure_back : Bool) (old now : Seen) (all rest : List Statement) (outcomes : List (Result Answer Refusal)) : Type 0 where
  pub onward : (later : Seen) (more : List (Result Answer Refusal)) → AllExecuted sure_back now rest more later → AllExecuted sure_back old all (outcomes ++ more) later
  pub asked : now.account.asked ≡ old.account.asked

pub went_none : (sure_back : Bool) (s : Seen) (all : List Statement) → Went sure_back s s all all []
went_none sure_back s all = record { onward = λ later more rest. rest; asked = refl }

pub went_more : (sure_back : Bool) (old now new : Seen) (all left rest : List Statement) (st : Statement) (outcomes : List (Result Answer Refusal)) (r : Result Answer Refusal)
    → Went sure_back old now all left outcomes → left ≡ st ∷ rest → Executed sure_back now st r new → Went sure_back old new all rest (outcomes ++ r ∷ [])
went_more sure_back old now new all left rest st outcomes r w e x = record {
  onward = λ later more h.
      subst (λ (l : List (Result Answer Refusal)). AllExecuted sure_back old all l later) (sym (append_assoc outcomes (r ∷ []) more))
      (w.onward later (r ∷ more) (subst (λ (l : List Statement). AllExecuted sure_back now l (r ∷ more) later) (sym e) (new, x, h)));
  asked = asked_stays now.account.asked now.state st r new.account x.told ∙ w.asked;
}

pub went_all : (sure_back : Bool) (old now : Seen) (all rest : List Statement) (outcomes : List (Result Answer Refusal))
    → Went sure_back old now all rest outcomes → rest ≡ [] → AllExecuted sure_back old all outcomes now
went_all sure_back old now all rest outcomes w e =
    subst (λ (l : List (Result Answer Refusal)). AllExecuted sure_back old all l now) (append-nil outcomes)
    (w.onward now [] (subst (λ (l : List Statement). AllExecuted sure_back now l [] now) (sym e) refl))
