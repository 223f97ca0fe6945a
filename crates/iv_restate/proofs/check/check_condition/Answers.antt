use Rattle.std.proofs.Common.{◌≡◌, sym, subst, Result, Ok, Err, IfOk}
use Rattle.std.specs.declared.alloc.AllocError.{AllocError}
use Rattle.iv_parse_terms.specs.Conditions.{ConditionFormed, condition}
use Rattle.iv_resolution.specs.Scopes.{named_columns}
use Rattle.iv_restate.specs.Types.{Condition}
use Rattle.iv_restate.specs.Trees.{no_naming, check_range, check_of}
use Rattle.iv_restate.specs.Laws.{CheckIsItself}
use Rattle.iv_restate.proofs.Unbound.{check_bound}
use Rattle.iv_restate.proofs.Forms.{condition_formed}
use Rattle.iv_restate.proofs.check.check_condition.Goals as goal

-- what is true of this tree is true of the answer
of_answer : (P : Condition → Type 0) (tree : Condition) → P tree → (r : Result Condition AllocError) → IfOk r (λ c. c ≡ tree) → IfOk r P
of_answer P tree h (Ok c) e = subst P (sym e) h
of_answer P tree h (Err e) i = i

pub returns-clause-formed : goal.returns-clause-formed
returns-clause-formed c =
    of_answer (ConditionFormed condition) (check_of (named_columns c.args.columns.now) c.args.condition.now) (condition_formed no_naming _ c.args.condition.now) c.condition_of.result c.condition_of.ensures

pub returns-clause-itself : goal.returns-clause-itself
returns-clause-itself c =
    of_answer (CheckIsItself (named_columns c.args.columns.now) c.args.condition.now) (check_of (named_columns c.args.columns.now) c.args.condition.now) (check_bound (named_columns c.args.columns.now) c.args.condition.now) c.condition_of.result c.condition_of.ensures
