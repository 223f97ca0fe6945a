-- What is told of a statement that does nothing, of COMMIT, and of ROLLBACK TO SAVEPOINT.
use Rattle.std.proofs.Common.{◌≡◌, ◌∙◌, ℕ, refl, Bool, true, false, not, if◌then◌else◌, inl, Option, Some, None, is_ok, List, [], Result, Ok, Err, MatchBool, ap, sym, subst}
use Rattle.iv_session.specs.Types.{Statement, Refusal}
use Rattle.iv_syntax.specs.declared.statement.Statement.TheVariants as statement
use Rattle.iv_catalogue.specs.Refusals.{is_memory_cause, out_of_memory}
use Rattle.iv_catalogue.specs.Catalogues.{Schema}
use Rattle.iv_catalogue.specs.declared.cause.Cause.{Cause}
use Rattle.iv_catalogue.specs.declared.cause.Cause.TheVariants.{Limit}
use Rattle.iv_catalogue.specs.declared.plan.Plan.{Plan}
use Rattle.iv_catalogue.specs.declared.plan.Plan.TheVariants as plan
use Rattle.iv_catalogue.specs.declared.plan.TransactionPlan.TheVariants as transaction
use Rattle.iv_machine.specs.Machine.{State, always, inside, is_open, occasion_of, transaction_cause}
use Rattle.iv_resolution.specs.Resolution.{refused_or_planned, resolution}
use Rattle.iv_resolution.specs.Writable.{is_writable}
use Rattle.iv_account.specs.declared.entry.Entry.{Entry}
use Rattle.iv_account.specs.Sessions.{commit_told, savepoint_told}
use Rattle.iv_account.specs.Telling.{Account, MayTell, and_told}
use Rattle.iv_account.proofs.Telling.{told_none}
use Rattle.iv_step.specs.Telling.{may_be_untold, resolution_told, statement_told}

-- nothing is told
pub untold : (b : Bool) (account : Account) (entries : List Entry) → entries ≡ [] → MayTell b account account entries
untold true account entries e = inl (sym (told_none account) ∙ ap (and_told account) (sym e))
untold false account entries e = sym (told_none account) ∙ ap (and_told account) (sym e)

-- of a statement that has no meaning
pub unresolved_untold : (s : State) (r : Refusal) (resolved : Result Plan Refusal) (old new : Account)
    → MatchBool (is_memory_cause r.cause) ((◌≡◌ {A = Result Plan Refusal} (Err r) (Err out_of_memory)) × (is_ok resolved ≡ true)) (Err r ≡ resolved) → new ≡ old
    → MatchBool (is_memory_cause r.cause) (Unit {0}) (MayTell (may_be_untold resolved) old new (resolution_told s resolved))
unresolved_untold s r resolved old new h same = by (is_memory_cause r.cause) h where
  by : (b : Bool) → MatchBool b ((◌≡◌ {A = Result Plan Refusal} (Err r) (Err out_of_memory)) × (is_ok resolved ≡ true)) (Err r ≡ resolved)
      → MatchBool b (Unit {0}) (MayTell (may_be_untold resolved) old new (resolution_told s resolved))
  by true h = tt
  by false h = subst (λ (x : Account). MayTell (may_be_untold resolved) old x (resolution_told s resolved)) (sym same)
      (untold (may_be_untold resolved) old (resolution_told s resolved) (ap (resolution_told s) (sym h)))

abbrev told_by : State → Statement → Option Cause → List Entry
told_by s st o = elim o [ Some cause ↦ [] | None ↦ resolution_told s (resolution s.schema st) ]

-- of one that is refused for the transaction
pub barred_untold : (s : State) (st : Statement) (cause : Cause) (b memory : Bool) (old new : Account) → Some cause ≡ transaction_cause (is_open s) (occasion_of st) → new ≡ old
    → MatchBool memory (Unit {0}) (MayTell b old new (statement_told s st))
barred_untold s st cause b true old new e same = tt
barred_untold s st cause b false old new e same =
    subst (λ (x : Account). MayTell b old x (statement_told s st)) (sym same) (untold b old (statement_told s st) (ap (told_by s st) (sym e)))

free : (b : Bool) → transaction_cause b always ≡ None
free true = refl
free false = refl

-- COMMIT is told what it means
pub commit_is_told : (s : State) (st : Statement) (memory : Bool) (old new : Account) → st ≡ statement.Commit → MayTell true old new (commit_told s)
    → MatchBool memory (Unit {0}) (MayTell (may_be_untold (resolution s.schema st)) old new (statement_told s st))
commit_is_told s st true old new e told = tt
commit_is_told s st false old new e told =
    subst (λ (x : Statement). MayTell (may_be_untold (resolution s.schema x)) old new (statement_told s x)) (sym e)
    (subst (λ (l : List Entry). MayTell true old new l) (sym (ap (told_by s statement.Commit) (free (is_open s)))) told)

-- a ROLLBACK TO SAVEPOINT that a text can have means itself
resolved_back : (schema : Schema) (name : List ℕ) → is_writable (statement.RollbackTo name) ≡ true
    → resolution schema (statement.RollbackTo name) ≡ Ok (plan.Transaction (transaction.RollbackTo name))
resolved_back schema name w =
    ap (λ (b : Bool). refused_or_planned (if not b then Some Limit else None) (plan.Transaction (transaction.RollbackTo name))) w

-- and is told what it means
pub rollback_to_is_told : (s : State) (st : Statement) (name : List ℕ) (memory : Bool) (old new : Account) → st ≡ statement.RollbackTo name → is_writable st ≡ true
    → transaction_cause (is_open s) (occasion_of st) ≡ None → MayTell true old new (savepoint_told s name)
    → MatchBool memory (Unit {0}) (MayTell (may_be_untold (resolution s.schema st)) old new (statement_told s st))
rollback_to_is_told s st name true old new e w runs told = tt
rollback_to_is_told s st name false old new e w runs told =
    let back : Statement = statement.RollbackTo name in
    let written : is_writable back ≡ true = subst (λ (x : Statement). is_writable x ≡ true) e w in
    let free : transaction_cause (is_open s) inside ≡ None = subst (λ (x : Statement). transaction_cause (is_open s) (occasion_of x) ≡ None) e runs in
    subst (λ (x : Statement). MayTell (may_be_untold (resolution s.schema x)) old new (statement_told s x)) (sym e)
    (subst (λ (o : Option Cause). MayTell (may_be_untold (resolution s.schema back)) old new (told_by s back o)) (sym free)
    (subst (λ (r : Result Plan Refusal). MayTell (may_be_untold r) old new (resolution_told s r)) (sym (resolved_back s.schema name written)) told))
