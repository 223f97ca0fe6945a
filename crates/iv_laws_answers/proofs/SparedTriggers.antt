-- BEFORE triggers aren't refused for lack of memory.
use Rattle.std.proofs.Common.{refl, List}
use Rattle.iv_laws_answers.specs.Types.{StoredRow, Change, Refusal, DataStatement, Trigger}
use Rattle.iv_expr.specs.Changes.{Wave}
use Rattle.iv_expr.specs.Evaluation.{value}
use Rattle.iv_catalogue.specs.Refusals.{is_memory_cause}
use Rattle.iv_machine.specs.Context.{Context}
use Rattle.iv_machine.specs.BeforeTriggers.{before_statement, changes_after_triggers, wave_after_triggers}
use Rattle.iv_laws_rows.proofs.WithoutTriggers.{Evaluates, row_triggers_without, statement_triggers_without, wave_triggers_without}
use Rattle.iv_laws_answers.specs.Memory.{RowTriggersWantNoMemory, StatementTriggersWantNoMemory}
use Rattle.iv_laws_answers.proofs.Spared.{SparedRefusal, spared_refused}
use Rattle.iv_laws_answers.proofs.SparedValues.{value_spared, holds_spared, stored_spared}

evaluation_spared : Evaluates is_memory_cause
evaluation_spared = record {
  conditions = holds_spared;
  values = λ w table column s e. stored_spared w table column (value s e) (value_spared s e);
  signals = λ trigger place. refl;
}

pub statement_triggers_spared : (w : Context) (rows : List StoredRow) (d : DataStatement) → SparedRefusal (before_statement w rows d)
statement_triggers_spared = statement_triggers_without is_memory_cause evaluation_spared

pub statement_triggers_want_no_memory : StatementTriggersWantNoMemory
statement_triggers_want_no_memory w rows d refusal is =
    spared_refused (λ (x : Refusal). x.cause) (before_statement w rows d) refusal (statement_triggers_spared w rows d) is

row_triggers_spared : (w : Context) (rows : List StoredRow) (ts : List Trigger) (changes : List Change) → SparedRefusal (changes_after_triggers w rows ts changes)
row_triggers_spared = row_triggers_without is_memory_cause evaluation_spared

pub row_triggers_want_no_memory : RowTriggersWantNoMemory
row_triggers_want_no_memory w rows ts changes refusal e =
    spared_refused (λ (x : Refusal). x.cause) (changes_after_triggers w rows ts changes) refusal (row_triggers_spared w rows ts changes) e

pub wave_triggers_spared : (w : Context) (rows : List StoredRow) (wave : Wave) → SparedRefusal (wave_after_triggers w rows wave)
wave_triggers_spared = wave_triggers_without is_memory_cause evaluation_spared
