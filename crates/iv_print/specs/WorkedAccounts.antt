-- Worked lines of accounts, written by hand. Tables, constraints and triggers have numbers from 0.
use Rattle.std.specs.Prelude.{◌≡◌, ℕ, pos, Bool, List, [], ◌∷◌, ◌++◌, codes, Option, Some, None, Result, Ok, Err}
use Rattle.iv_value.specs.declared.value.Value.{Value}
use Rattle.iv_value.specs.declared.value.Value.TheVariants.{Null, Int, Text}
use Rattle.iv_value.specs.declared.value.Kind.TheVariants.{Integer}
use Rattle.iv_value.specs.declared.value.Truth.{Truth}
use Rattle.iv_value.specs.declared.value.Truth.TheVariants.{False, Unknown}
use Rattle.iv_expr.specs.declared.row.StoredRow.{StoredRow}
use Rattle.iv_expr.specs.declared.row.Change.{Change}
use Rattle.iv_expr.specs.declared.tree.Comparison.TheVariants.{Greater}
use Rattle.iv_expr.specs.declared.tree.Cond.{Cond}
use Rattle.iv_expr.specs.declared.tree.Cond.TheVariants.{Always, Compare}
use Rattle.iv_expr.specs.declared.tree.Expr.TheVariants as expr
use Rattle.iv_syntax.specs.declared.table.MatchType.TheVariants.{Simple}
use Rattle.iv_syntax.specs.declared.table.NullTreatment.TheVariants.{Distinct}
use Rattle.iv_syntax.specs.declared.table.ReferentialAction.{ReferentialAction}
use Rattle.iv_syntax.specs.declared.table.ReferentialAction.TheVariants as action
use Rattle.iv_syntax.specs.declared.statement.ConstraintMode.TheVariants.{Immediate}
use Rattle.iv_syntax.specs.declared.trigger.ActionTime.TheVariants.{After}
use Rattle.iv_syntax.specs.declared.trigger.Granularity.{Granularity}
use Rattle.iv_syntax.specs.declared.trigger.Granularity.TheVariants as granularity
use Rattle.iv_syntax.specs.declared.trigger.TriggerEvent.TheVariants as event
use Rattle.iv_catalogue.specs.Catalogues.{Schema}
use Rattle.iv_catalogue.specs.declared.catalogue.Column.{Column}
use Rattle.iv_catalogue.specs.declared.cause.Cause.{Cause}
use Rattle.iv_catalogue.specs.declared.cause.Cause.TheVariants as cause
use Rattle.iv_catalogue.specs.declared.cause.Fault.{Fault}
use Rattle.iv_catalogue.specs.declared.cause.Refusal.{Refusal}
use Rattle.iv_catalogue.specs.declared.constraint.Constraint.{Constraint}
use Rattle.iv_catalogue.specs.declared.constraint.Rule.{Rule}
use Rattle.iv_catalogue.specs.declared.constraint.Rule.TheVariants as rule
use Rattle.iv_catalogue.specs.declared.plan.Trigger.{Trigger}
use Rattle.iv_machine.specs.Bounds.{Bounds}
use Rattle.iv_machine.specs.declared.answer.Answer.{Answer}
use Rattle.iv_machine.specs.declared.answer.Answer.TheVariants as answer
use Rattle.iv_account.specs.declared.entry.RowAction.{RowAction}
use Rattle.iv_account.specs.declared.entry.Entry.{Entry}
use Rattle.iv_account.specs.declared.entry.Entry.TheVariants.{Changed, Acted, Ran, Skipped, Began, Ended, Faulted, Disagreed}
use Rattle.iv_print.specs.AccountLines.{account_text}

-- ---- words

abbrev pub int : ℕ → Value
int n = Int (pos n)

abbrev pub column : List ℕ → Column
column name = record { name = name; kind = Integer; default = Null }

abbrev pub constraint : List ℕ → ℕ → Rule → Constraint
constraint name table r = record { name = name; table = table; rule = r; deferrable = Bool.false; initially = Immediate }

-- these columns refer to the first table
abbrev pub references : List ℕ → Rule
references columns = rule.ForeignKey (record {
  columns = columns;
  referenced = 0;
  key = 0 ∷ [];
  matching = Simple;
  on_delete = action.Cascade;
  on_update = action.Restrict;
})

abbrev pub trigger : ℕ → List ℕ → Granularity → Trigger
trigger id name each = record {
  id = id;
  name = name;
  table = 1;
  time = After;
  event = event.Delete;
  columns = [];
  granularity = each;
  when = Always;
  body = [];
}

-- x > m
abbrev pub x_exceeds_m : Cond
x_exceeds_m = Compare Greater (expr.Column 0 0) (expr.Column 0 1)

-- CREATE TABLE p (k INTEGER CONSTRAINT p_key PRIMARY KEY); CREATE TABLE c (x INTEGER CONSTRAINT c_parent REFERENCES p, m INTEGER,
-- CONSTRAINT c_one UNIQUE (m), CONSTRAINT c_right CHECK (x > m), CONSTRAINT c_mark NOT NULL of m, CONSTRAINT c_both FOREIGN KEY (m, x)
-- REFERENCES p .., UNIQUE (x, m), CHECK (x > m)); three triggers, of which the first was dropped. Such tables tell names from each other; no statement makes them.
abbrev pub schema : Schema
schema = record {
  tables = record { name = codes "P"; columns = column (codes "K") ∷ [] }
      ∷ record { name = codes "C"; columns = column (codes "X") ∷ column (codes "M") ∷ [] } ∷ [];
  constraints = constraint (codes "P_KEY") 0 (rule.PrimaryKey (0 ∷ []))
      ∷ constraint (codes "C_PARENT") 1
      (references (0 ∷ []))
      ∷ constraint (codes "C_ONE") 1 (rule.Unique Distinct (1 ∷ [])) ∷ constraint (codes "C_RIGHT") 1 (rule.Check x_exceeds_m)
      ∷ constraint (codes "C_MARK") 1 (rule.NotNull 1)
      ∷ constraint (codes "C_BOTH") 1 (references (1 ∷ 0 ∷ [])) ∷ constraint (codes "C_C7") 1 (rule.Unique Distinct (0 ∷ 1 ∷ []))
      ∷ constraint (codes "C_C8") 1 (rule.Check x_exceeds_m) ∷ [];
  triggers = trigger 1 (codes "COUNTED") granularity.Statement ∷ trigger 2 (codes "EACH") granularity.Row ∷ [];
  created = 3;
}

abbrev pub inserted : ℕ → ℕ → List Value → Change
inserted table row new = record { table = table; row = row; old = None; new = Some new }

abbrev pub deleted : ℕ → ℕ → List Value → Change
deleted table row old = record { table = table; row = row; old = Some old; new = None }

abbrev pub updated : ℕ → ℕ → List Value → List Value → Change
updated table row old new = record { table = table; row = row; old = Some old; new = Some new }

abbrev pub acts_on : ℕ → ReferentialAction → ℕ → RowAction
acts_on id act row = record { constraint = id; action = act; table = 1; row = row }

abbrev pub ran_on : ℕ → Option (List Value) → Option (List Value) → List Change → Entry
ran_on id old new changes = Ran id (record { old = old; new = new; transition = changes })

abbrev pub skipped_on : ℕ → Option (List Value) → Option (List Value) → Truth → Entry
skipped_on id old new when = Skipped id (record { old = old; new = new; when = when })

abbrev pub stored : ℕ → ℕ → List Value → StoredRow
stored table row values = record { table = table; number = row; values = values }

abbrev pub refused : Cause → Result Answer Refusal
refused why = Err (record { cause = why; trigger = None })

abbrev pub fault : ℕ → Fault
fault id = record { constraint = id; row = 2 }

-- 64 levels, and 4 row changes of a statement
abbrev pub limits : Bounds
limits = record { depth = 64; changes = 4 }

-- the lines of a statement that is accepted
abbrev pub accepted_text : List Entry → List ℕ
accepted_text entries = account_text schema limits (Ok (answer.Changed 1)) entries

-- the line of a violation of this constraint by these rows
abbrev pub violation_text : ℕ → List StoredRow → List ℕ
violation_text id rows = account_text schema limits (refused (cause.Violation (fault id))) (Faulted (fault id) rows ∷ [])

-- a row that refers to the key 7, where the statement is refused for this cause
abbrev pub reference_fault_text : Result Answer Refusal → List ℕ
reference_fault_text outcome =
    account_text schema limits outcome (Faulted (fault 1) (stored 1 2 (int 7 ∷ Null ∷ []) ∷ []) ∷ [])

-- ---- lines

pub record WorkedAccounts : Type 0 where
  pub nothing_is_told : accepted_text [] ≡ []
  pub changes : accepted_text
      (Changed (inserted 0 1 (int 1 ∷ []) ∷ inserted 1 2 (int 1 ∷ Text (codes "it's") ∷ []) ∷ []) ∷ Changed [] ∷ Changed
      (deleted 0 1 (int 1 ∷ []) ∷ updated 1 2 (int 1 ∷ Null ∷ []) (Null ∷ Text (codes "b") ∷ []) ∷ []) ∷ [])
      ≡ codes "  insert P row 1 (1)\n  insert C row 2 (1, 'it''s')\n"
      ++ codes "  delete P row 1 (1)\n  update C row 2 (1, NULL) to (NULL, 'b')\n"
  pub actions : accepted_text
      (Acted (acts_on 1 action.Cascade 2 ∷ acts_on 1 action.SetNull 3 ∷ acts_on 1 action.SetDefault 4 ∷ [])
      ∷ Acted (acts_on 1 action.Restrict 5 ∷ acts_on 1 action.NoAction 6 ∷ []) ∷ [])
      ≡ codes "  C_PARENT CASCADE on C row 2\n  C_PARENT SET NULL on C row 3\n  C_PARENT SET DEFAULT on C row 4\n"
      ++ codes "  C_PARENT RESTRICT on C row 5\n  C_PARENT NO ACTION on C row 6\n"
  pub triggers : accepted_text
      (ran_on 1 None None (deleted 1 2 (int 1 ∷ Null ∷ []) ∷ deleted 1 3 (int 2 ∷ Null ∷ []) ∷ [])
      ∷ ran_on 2 (Some (int 1 ∷ Null ∷ [])) (Some (int 2 ∷ Null ∷ [])) [] ∷ ran_on 2 (Some (int 3 ∷ [])) None []
      ∷ ran_on 2 None (Some (int 4 ∷ [])) [] ∷ [])
      ≡ codes "  trigger COUNTED\n    saw delete C row 2 (1, NULL)\n    saw delete C row 3 (2, NULL)\n"
      ++ codes "  trigger EACH OLD (1, NULL) NEW (2, NULL)\n  trigger EACH OLD (3)\n  trigger EACH NEW (4)\n"
  pub skipped_triggers : accepted_text
      (skipped_on 1 None None False ∷ skipped_on 2 (Some (int 1 ∷ Null ∷ [])) (Some (int 2 ∷ Null ∷ [])) Unknown
      ∷ skipped_on 2 None (Some (int 4 ∷ [])) False ∷ [])
      ≡ codes "  trigger COUNTED skipped: WHEN is false\n  trigger EACH OLD (1, NULL) NEW (2, NULL) skipped: WHEN is unknown\n"
      ++ codes "  trigger EACH NEW (4) skipped: WHEN is false\n"
  -- of these only the last two end as they begin
  pub statements_that_change_nothing : accepted_text
      (Began 1 ∷ Changed [] ∷ Ended ∷ Began 2 ∷ skipped_on 1 None None False ∷ Ended ∷ Began 3 ∷ Began 1 ∷ Ended ∷ Ended
      ∷ Began 4 ∷ Ended ∷ [])
      ≡ codes "  statement 1\n  statement 2\n    trigger COUNTED skipped: WHEN is false\n  statement 3\n    statement 1 changes nothing\n"
      ++ codes "  statement 4 changes nothing\n"
  pub statement_that_is_refused : accepted_text (Began 1 ∷ []) ≡ codes "  statement 1\n"
  pub statements_of_bodies_are_deeper : accepted_text
      (ran_on 1 None None [] ∷ Began 1 ∷ Changed (inserted 0 4 (int 4 ∷ []) ∷ [])
      ∷ ran_on 1 None None (inserted 0 4 (int 4 ∷ []) ∷ []) ∷ Began 2 ∷ Acted (acts_on 1 action.Cascade 2 ∷ []) ∷ Ended ∷ Ended
      ∷ Began 3 ∷ Ended ∷ ran_on 1 None None [] ∷ [])
      ≡ codes "  trigger COUNTED\n  statement 1\n    insert P row 4 (4)\n    trigger COUNTED\n      saw insert P row 4 (4)\n"
      ++ codes "    statement 2\n      C_PARENT CASCADE on C row 2\n  statement 3 changes nothing\n  trigger COUNTED\n"
  pub depth_is_the_limit : account_text schema limits (refused (cause.DepthLimit 2))
      (ran_on 1 None None [] ∷ Began 1 ∷ Ended ∷ ran_on 2 (Some (int 1 ∷ [])) None [] ∷ Began 2 ∷ Changed (inserted 0 4 (int 4 ∷ []) ∷ []) ∷ ran_on 1 None None []
      ∷ Began 3 ∷ [])
      ≡ codes "  trigger COUNTED\n  statement 1 changes nothing\n  trigger EACH OLD (1)\n  statement 2\n    insert P row 4 (4)\n    trigger COUNTED\n    statement 3\n"
      ++ codes "  depth 3, and 2 is the most: EACH statement 2, COUNTED statement 3\n"
  pub changes_are_the_limit : account_text schema limits (refused cause.TooManyChanges)
      (Changed (inserted 0 1 (int 1 ∷ []) ∷ inserted 0 2 (int 2 ∷ []) ∷ []) ∷ [])
      ≡ codes "  insert P row 1 (1)\n  insert P row 2 (2)\n  counted so far 3, 4 is the most, and this or the next row changes are too many\n"
  pub transaction_is_the_limit : account_text schema limits (refused cause.TransactionTooLarge) [] ≡ codes "  a transaction has at most 1048576 row changes\n"
  -- the first three and the last of five
  pub long_way : account_text schema limits (refused (cause.DepthLimit 1))
      (ran_on 1 None None [] ∷ Began 1 ∷ ran_on 1 None None [] ∷ Began 2 ∷ ran_on 1 None None [] ∷ Began 3 ∷ ran_on 1 None None [] ∷ Began 4
      ∷ ran_on 1 None None [] ∷ Began 5 ∷ [])
      ≡ codes "  trigger COUNTED\n  statement 1\n    trigger COUNTED\n    statement 2\n      trigger COUNTED\n      statement 3\n"
      ++ codes "        trigger COUNTED\n        statement 4\n          trigger COUNTED\n          statement 5\n"
      ++ codes "  depth 6, and 5 is the most: COUNTED statement 1, COUNTED statement 2, COUNTED statement 3, .., COUNTED statement 5\n"
  pub fault_in_a_body : account_text schema limits (refused (cause.Violation (fault 0)))
      (Began 1 ∷ Faulted (fault 0) (stored 0 2 (int 1 ∷ []) ∷ stored 0 1 (int 1 ∷ []) ∷ []) ∷ [])
      ≡ codes "  statement 1\n    P_KEY: P row 2 (1) has the key of row 1 (1)\n"
  pub key_is_missing : reference_fault_text (refused (cause.Violation (fault 1)))
      ≡ codes "  C_PARENT: C row 2 (7, NULL) refers to P (7), which isn't there\n"
  pub key_is_missing_at_the_end : reference_fault_text (refused (cause.CommitRefused (fault 1)))
      ≡ codes "  C_PARENT: C row 2 (7, NULL) refers to P (7), which isn't there\n"
  pub key_is_missing_without_a_refusal : reference_fault_text (Ok answer.Done)
      ≡ codes "  C_PARENT: C row 2 (7, NULL) refers to P (7), which isn't there\n"
  pub key_is_protected : reference_fault_text (refused (cause.Restrict (fault 1)))
      ≡ codes "  C_PARENT: C row 2 (7, NULL) refers to P (7), which RESTRICT protects\n"
  -- two foreign keys set a column of the row to different values: the one that is named first is the later one
  pub actions_disagree : account_text schema limits (refused (cause.ActionConflict (fault 5)))
      (Disagreed (fault 5) (stored 1 2 (int 7 ∷ int 8 ∷ []) ∷ [])
      (record { earlier = 1; column = 0; earlier_value = int 9; value = Null }) ∷ [])
      ≡ codes "  C_BOTH: C row 2 (7, 8) refers to P (8, 7), and C_PARENT sets X to 9, where C_BOTH sets it to NULL\n"
  pub actions_disagree_about_a_text : account_text schema limits (refused (cause.ActionConflict (fault 5)))
      (Disagreed (fault 5) (stored 1 2 (int 7 ∷ int 8 ∷ []) ∷ [])
      (record { earlier = 1; column = 1; earlier_value = Text (codes "it's"); value = int 4 }) ∷ [])
      ≡ codes "  C_BOTH: C row 2 (7, 8) refers to P (8, 7), and C_PARENT sets M to 'it''s', where C_BOTH sets it to 4\n"
  -- the machine tells no such row without how the two disagree
  pub actions_differ : reference_fault_text (refused (cause.ActionConflict (fault 1)))
      ≡ codes "  C_PARENT: C row 2 (7, NULL) refers to P (7), and another foreign key sets a column otherwise\n"
  pub key_of_two_columns : violation_text 5 (stored 1 2 (int 7 ∷ int 8 ∷ []) ∷ [])
      ≡ codes "  C_BOTH: C row 2 (7, 8) refers to P (8, 7), which isn't there\n"
  -- MATCH FULL refuses such a row whatever keys are there
  pub key_with_a_null : violation_text 5 (stored 1 2 (int 7 ∷ Null ∷ []) ∷ []) ≡ codes "  C_BOTH: C row 2 (7, NULL) has some nulls in its key\n"
  pub same_primary_key : violation_text 0 (stored 0 2 (int 1 ∷ []) ∷ stored 0 1 (int 1 ∷ []) ∷ [])
      ≡ codes "  P_KEY: P row 2 (1) has the key of row 1 (1)\n"
  pub null_in_a_primary_key : violation_text 0 (stored 0 2 (Null ∷ []) ∷ []) ≡ codes "  P_KEY: P row 2 (NULL) has a null in its key\n"
  pub same_key : violation_text 2 (stored 1 2 (int 1 ∷ int 5 ∷ []) ∷ stored 1 4 (int 2 ∷ int 5 ∷ []) ∷ [])
      ≡ codes "  C_ONE: C row 2 (1, 5) has the key of row 4 (2, 5)\n"
  pub condition_is_false : violation_text 3 (stored 1 2 (int 1 ∷ int 5 ∷ []) ∷ [])
      ≡ codes "  C_RIGHT: C row 2 (1, 5) makes X > M false (1 > 5)\n"
  pub column_is_null : violation_text 4 (stored 1 2 (int 1 ∷ Null ∷ []) ∷ []) ≡ codes "  C_MARK: C row 2 (1, NULL) has NULL in M\n"
  -- a name that was generated stands with what the constraint asks
  pub same_key_without_a_name : violation_text 6 (stored 1 2 (int 1 ∷ int 5 ∷ []) ∷ stored 1 4 (int 1 ∷ int 5 ∷ []) ∷ [])
      ≡ codes "  C_C7 (UNIQUE (X, M)): C row 2 (1, 5) has the key of row 4 (1, 5)\n"
  pub condition_without_a_name : violation_text 7 (stored 1 2 (int 1 ∷ int 5 ∷ []) ∷ [])
      ≡ codes "  C_C8 (CHECK): C row 2 (1, 5) makes X > M false (1 > 5)\n"
  -- the machine tells no violation without a row, and none of a constraint that isn't there
  pub no_row : violation_text 0 [] ≡ codes "  P_KEY: \n"
  pub no_constraint : violation_text 9 (stored 1 2 (int 1 ∷ []) ∷ []) ≡ codes "  : C row 2 (1)\n"
