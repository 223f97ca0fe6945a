use Rattle.std.specs.Prelude.{Some, None, Ok, List, refl}
use Rattle.iv_lex.specs.declared.kind.TokenKind.TheVariants as kind
use Rattle.iv_lex.specs.Words.{Word}
use Rattle.iv_parse.specs.Types.{Statement}
use Rattle.iv_parse.specs.Types.statement
use Rattle.iv_parse_terms.specs.After.{after, if_some}
use Rattle.iv_parse_terms.proofs.Rules.{expected_told, on_expected, on_other, on_word, then_reads, then_told}
use Rattle.iv_parse_data.specs.readers.Series.{give, read_as}
use Rattle.iv_parse_data.specs.readers.Data.{FoundPart, then_word}
use Rattle.iv_parse_data.specs.readers.Data.{read_name}
use Rattle.iv_parse_data.specs.readers.Tables.{read_alter, read_create_table}
use Rattle.iv_parse.specs.readers.Triggers.{read_trigger}
use Rattle.iv_parse.specs.readers.Statements.{read_definition_rule, read_session_rule}
use Rattle.iv_parse.proofs.statement.definition.Goals as goal

abbrev from_trigger : List Word → FoundPart Statement
from_trigger ws = then_word kind.Trigger ws (read_as statement.CreateTrigger read_trigger)

abbrev branch_1 : List Word → FoundPart Statement
branch_1 = λ a. if_some (after kind.Table a) read_create_table (from_trigger a)

abbrev branch_2 : List Word → FoundPart Statement
branch_2 = read_alter

abbrev branch_3 : List Word → FoundPart Statement
branch_3 = λ a. then_word kind.Trigger a (read_as statement.DropTrigger read_name)

abbrev from_4 : List Word → FoundPart Statement
from_4 ws = read_session_rule ws

abbrev from_3 : List Word → FoundPart Statement
from_3 ws = if_some (after kind.Drop ws) branch_3 (from_4 ws)

abbrev from_2 : List Word → FoundPart Statement
from_2 ws = if_some (after kind.Alter ws) branch_2 (from_3 ws)

pub returns-then-accept-2 : goal.returns-then-accept-2
unfolding read_definition_rule
returns-then-accept-2 c =
    on_word (λ x. x) (after kind.Create) branch_1 from_2 c.args.cursor.now c.accept.new.self c.create_table.new.cursor c.create_table.result c.if-accept.ensures
    (on_word (λ x. x) (after kind.Table) read_create_table from_trigger c.accept.new.self c.accept-then-accept.new.self c.create_table.new.cursor c.create_table.result c.if-accept-2.ensures c.create_table.ensures)

pub returns-in_err-expect : goal.returns-in_err-expect
unfolding read_definition_rule
returns-in_err-expect c =
    on_word (λ x. x) (after kind.Create) branch_1 from_2 c.args.cursor.now c.accept.new.self c.expect.new.self c.from_residual.result c.if-accept.ensures
    (on_other (λ x. x) (after kind.Table) read_create_table from_trigger c.accept.new.self c.accept-then-accept.new.self c.expect.new.self c.from_residual.result c.if-accept-2.ensures (expected_told (λ x. x) (after kind.Trigger) (read_as statement.CreateTrigger read_trigger) c.accept-then-accept.new.self c.expect.new.self c.from_residual.result c.in_err-expect.field-0.0 c.in_err-expect.ensures c.from_residual.ensures))

pub returns-in_err-trigger : goal.returns-in_err-trigger
unfolding read_definition_rule
returns-in_err-trigger c =
    on_word (λ x. x) (after kind.Create) branch_1 from_2 c.args.cursor.now c.accept.new.self c.create_trigger.new.cursor c.from_residual-in_err-trigger.result c.if-accept.ensures
    (on_other (λ x. x) (after kind.Table) read_create_table from_trigger c.accept.new.self c.accept-then-accept.new.self c.create_trigger.new.cursor c.from_residual-in_err-trigger.result c.if-accept-2.ensures (on_expected (λ x. x) (after kind.Trigger) (read_as statement.CreateTrigger read_trigger) c.accept-then-accept.new.self c.expect.new.self c.create_trigger.new.cursor c.in_ok-expect.field-0 c.from_residual-in_err-trigger.result c.in_ok-expect.ensures (then_told (λ x. x) (λ x. x) read_trigger (λ a. give (statement.CreateTrigger a)) c.expect.new.self c.create_trigger.new.cursor c.from_residual-in_err-trigger.result c.in_err-trigger.field-0.0 c.in_err-trigger.ensures c.from_residual-in_err-trigger.ensures)))

pub returns-then-accept : goal.returns-then-accept
unfolding read_definition_rule
returns-then-accept c =
    on_word (λ x. x) (after kind.Create) branch_1 from_2 c.args.cursor.now c.accept.new.self c.create_trigger.new.cursor (Ok (statement.CreateTrigger c.in_ok-trigger.trigger)) c.if-accept.ensures
    (on_other (λ x. x) (after kind.Table) read_create_table from_trigger c.accept.new.self c.accept-then-accept.new.self c.create_trigger.new.cursor (Ok (statement.CreateTrigger c.in_ok-trigger.trigger)) c.if-accept-2.ensures (on_expected (λ x. x) (after kind.Trigger) (read_as statement.CreateTrigger read_trigger) c.accept-then-accept.new.self c.expect.new.self c.create_trigger.new.cursor c.in_ok-expect.field-0 (Ok (statement.CreateTrigger c.in_ok-trigger.trigger)) c.in_ok-expect.ensures (then_reads (λ x. x) (λ x. x) read_trigger (λ a. give (statement.CreateTrigger a)) c.expect.new.self c.create_trigger.new.cursor c.create_trigger.new.cursor c.in_ok-trigger.trigger (Ok (statement.CreateTrigger c.in_ok-trigger.trigger)) c.in_ok-trigger.ensures (λ o l. (l, refl)))))

pub returns-then-accept-3 : goal.returns-then-accept-3
unfolding read_definition_rule
returns-then-accept-3 c =
    on_other (λ x. x) (after kind.Create) branch_1 from_2 c.args.cursor.now c.accept.new.self c.alter_table.new.cursor c.alter_table.result c.if-accept.ensures
    (on_word (λ x. x) (after kind.Alter) branch_2 from_3 c.accept.new.self c.accept-2.new.self c.alter_table.new.cursor c.alter_table.result c.if-accept-3.ensures
    c.alter_table.ensures)

pub returns-in_err-expect-2 : goal.returns-in_err-expect-2
unfolding read_definition_rule
returns-in_err-expect-2 c =
    on_other (λ x. x) (after kind.Create) branch_1 from_2 c.args.cursor.now c.accept.new.self c.expect-then-accept-4.new.self c.from_residual-in_err-expect-2.result c.if-accept.ensures
    (on_other (λ x. x) (after kind.Alter) branch_2 from_3 c.accept.new.self c.accept-2.new.self c.expect-then-accept-4.new.self c.from_residual-in_err-expect-2.result c.if-accept-3.ensures
    (on_word (λ x. x) (after kind.Drop) branch_3 from_4 c.accept-2.new.self c.accept-3.new.self c.expect-then-accept-4.new.self c.from_residual-in_err-expect-2.result c.if-accept-4.ensures
    (expected_told (λ x. x) (after kind.Trigger) (read_as statement.DropTrigger read_name) c.accept-3.new.self c.expect-then-accept-4.new.self c.from_residual-in_err-expect-2.result c.in_err-expect-2.field-0.0 c.in_err-expect-2.ensures c.from_residual-in_err-expect-2.ensures)))

pub returns-in_err-name : goal.returns-in_err-name
unfolding read_definition_rule
returns-in_err-name c =
    on_other (λ x. x) (after kind.Create) branch_1 from_2 c.args.cursor.now c.accept.new.self c.name.new.self c.from_residual-in_err-name.result c.if-accept.ensures
    (on_other (λ x. x) (after kind.Alter) branch_2 from_3 c.accept.new.self c.accept-2.new.self c.name.new.self c.from_residual-in_err-name.result c.if-accept-3.ensures
    (on_word (λ x. x) (after kind.Drop) branch_3 from_4 c.accept-2.new.self c.accept-3.new.self c.name.new.self c.from_residual-in_err-name.result c.if-accept-4.ensures
    (on_expected (λ x. x) (after kind.Trigger) (read_as statement.DropTrigger read_name) c.accept-3.new.self c.expect-then-accept-4.new.self c.name.new.self c.in_ok-expect-2.field-0 c.from_residual-in_err-name.result c.in_ok-expect-2.ensures (then_told (λ x. x) (λ x. x) read_name (λ a. give (statement.DropTrigger a)) c.expect-then-accept-4.new.self c.name.new.self c.from_residual-in_err-name.result c.in_err-name.field-0.0 c.in_err-name.ensures c.from_residual-in_err-name.ensures))))

pub returns-then-accept-4 : goal.returns-then-accept-4
unfolding read_definition_rule
returns-then-accept-4 c =
    on_other (λ x. x) (after kind.Create) branch_1 from_2 c.args.cursor.now c.accept.new.self c.name.new.self (Ok (statement.DropTrigger c.in_ok-name.name)) c.if-accept.ensures
    (on_other (λ x. x) (after kind.Alter) branch_2 from_3 c.accept.new.self c.accept-2.new.self c.name.new.self (Ok (statement.DropTrigger c.in_ok-name.name)) c.if-accept-3.ensures
    (on_word (λ x. x) (after kind.Drop) branch_3 from_4 c.accept-2.new.self c.accept-3.new.self c.name.new.self (Ok (statement.DropTrigger c.in_ok-name.name)) c.if-accept-4.ensures
    (on_expected (λ x. x) (after kind.Trigger) (read_as statement.DropTrigger read_name) c.accept-3.new.self c.expect-then-accept-4.new.self c.name.new.self c.in_ok-expect-2.field-0 (Ok (statement.DropTrigger c.in_ok-name.name)) c.in_ok-expect-2.ensures (then_reads (λ x. x) (λ x. x) read_name (λ a. give (statement.DropTrigger a)) c.expect-then-accept-4.new.self c.name.new.self c.name.new.self c.in_ok-name.name (Ok (statement.DropTrigger c.in_ok-name.name)) c.in_ok-name.ensures (λ o l. (l, refl))))))

pub returns : goal.returns
unfolding read_definition_rule
returns c =
    on_other (λ x. x) (after kind.Create) branch_1 from_2 c.args.cursor.now c.accept.new.self c.session_statement.new.cursor c.session_statement.result c.if-accept.ensures
    (on_other (λ x. x) (after kind.Alter) branch_2 from_3 c.accept.new.self c.accept-2.new.self c.session_statement.new.cursor c.session_statement.result c.if-accept-3.ensures
    (on_other (λ x. x) (after kind.Drop) branch_3 from_4 c.accept-2.new.self c.accept-3.new.self c.session_statement.new.cursor c.session_statement.result c.if-accept-4.ensures
    c.session_statement.ensures))
