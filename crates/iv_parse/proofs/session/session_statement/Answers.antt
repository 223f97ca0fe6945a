use Rattle.std.specs.Prelude.{Some, None, Ok, List, refl}
use Rattle.iv_lex.specs.declared.kind.TokenKind.TheVariants as kind
use Rattle.iv_lex.specs.Words.{Word}
use Rattle.iv_parse.specs.Types.{Statement}
use Rattle.iv_parse.specs.Types.statement
use Rattle.iv_parse_terms.specs.After.{after, if_some}
use Rattle.iv_parse_terms.proofs.Rules.{expected_told, on_expected, on_other, on_word, then_reads, then_told}
use Rattle.std.proofs.Common.{ap}
use Rattle.iv_parse_terms.specs.Reading.{ahead}
use Rattle.iv_parse_data.specs.readers.Series.{give, read_as, skip}
use Rattle.iv_parse_data.specs.readers.Data.{FoundPart, then_word}
use Rattle.iv_parse_data.specs.readers.Data.{read_name}
use Rattle.iv_parse.specs.readers.Statements.{read_rollback, read_session_rule, read_set}
use Rattle.iv_parse.proofs.Readers.{skipped}
use Rattle.iv_parse.proofs.session.session_statement.Goals as goal

abbrev branch_1 : List Word → FoundPart Statement
branch_1 = λ a. Some (statement.Commit, skip kind.Work a)

abbrev branch_2 : List Word → FoundPart Statement
branch_2 = read_rollback

abbrev branch_3 : List Word → FoundPart Statement
branch_3 = λ a. then_word kind.Transaction a (give statement.StartTransaction)

abbrev branch_4 : List Word → FoundPart Statement
branch_4 = read_as statement.Savepoint read_name

abbrev branch_5 : List Word → FoundPart Statement
branch_5 = λ a. then_word kind.Savepoint a (read_as statement.Release read_name)

abbrev from_6 : List Word → FoundPart Statement
from_6 ws = then_word kind.Set ws read_set

abbrev from_5 : List Word → FoundPart Statement
from_5 ws = if_some (after kind.Release ws) branch_5 (from_6 ws)

abbrev from_4 : List Word → FoundPart Statement
from_4 ws = if_some (after kind.Savepoint ws) branch_4 (from_5 ws)

abbrev from_3 : List Word → FoundPart Statement
from_3 ws = if_some (after kind.Start ws) branch_3 (from_4 ws)

abbrev from_2 : List Word → FoundPart Statement
from_2 ws = if_some (after kind.Rollback ws) branch_2 (from_3 ws)

pub returns-then-accept : goal.returns-then-accept
unfolding read_session_rule
returns-then-accept c =
    on_word (λ x. x) (after kind.Commit) branch_1 from_2 c.args.cursor.now c.accept.new.self c.accept-then-accept.new.self (Ok statement.Commit) c.if-accept.ensures
    (λ o l. let p = c.accept-then-accept.ensures o l in (p.0, ap (λ z. Some (statement.Commit, z)) (skipped kind.Work (ahead c.accept.new.self o) (ahead c.accept-then-accept.new.self o) c.accept-then-accept.result p.1)))

pub returns-then-accept-2 : goal.returns-then-accept-2
unfolding read_session_rule
returns-then-accept-2 c =
    on_other (λ x. x) (after kind.Commit) branch_1 from_2 c.args.cursor.now c.accept.new.self c.rollback.new.cursor c.rollback.result c.if-accept.ensures
    (on_word (λ x. x) (after kind.Rollback) branch_2 from_3 c.accept.new.self c.accept-2.new.self c.rollback.new.cursor c.rollback.result c.if-accept-2.ensures
    c.rollback.ensures)

pub returns-in_err-expect : goal.returns-in_err-expect
unfolding read_session_rule
returns-in_err-expect c =
    on_other (λ x. x) (after kind.Commit) branch_1 from_2 c.args.cursor.now c.accept.new.self c.expect.new.self c.from_residual.result c.if-accept.ensures
    (on_other (λ x. x) (after kind.Rollback) branch_2 from_3 c.accept.new.self c.accept-2.new.self c.expect.new.self c.from_residual.result c.if-accept-2.ensures
    (on_word (λ x. x) (after kind.Start) branch_3 from_4 c.accept-2.new.self c.accept-3.new.self c.expect.new.self c.from_residual.result c.if-accept-3.ensures
    (expected_told (λ x. x) (after kind.Transaction) (give statement.StartTransaction) c.accept-3.new.self c.expect.new.self c.from_residual.result c.in_err-expect.field-0.0 c.in_err-expect.ensures c.from_residual.ensures)))

pub returns-then-accept-3 : goal.returns-then-accept-3
unfolding read_session_rule
returns-then-accept-3 c =
    on_other (λ x. x) (after kind.Commit) branch_1 from_2 c.args.cursor.now c.accept.new.self c.expect.new.self (Ok statement.StartTransaction) c.if-accept.ensures
    (on_other (λ x. x) (after kind.Rollback) branch_2 from_3 c.accept.new.self c.accept-2.new.self c.expect.new.self (Ok statement.StartTransaction) c.if-accept-2.ensures
    (on_word (λ x. x) (after kind.Start) branch_3 from_4 c.accept-2.new.self c.accept-3.new.self c.expect.new.self (Ok statement.StartTransaction) c.if-accept-3.ensures
    (on_expected (λ x. x) (after kind.Transaction) (give statement.StartTransaction) c.accept-3.new.self c.expect.new.self c.expect.new.self c.in_ok-expect.field-0 (Ok statement.StartTransaction) c.in_ok-expect.ensures (λ o l. (l, refl)))))

pub returns-in_err-name : goal.returns-in_err-name
unfolding read_session_rule
returns-in_err-name c =
    on_other (λ x. x) (after kind.Commit) branch_1 from_2 c.args.cursor.now c.accept.new.self c.name.new.self c.from_residual-in_err-name.result c.if-accept.ensures
    (on_other (λ x. x) (after kind.Rollback) branch_2 from_3 c.accept.new.self c.accept-2.new.self c.name.new.self c.from_residual-in_err-name.result c.if-accept-2.ensures
    (on_other (λ x. x) (after kind.Start) branch_3 from_4 c.accept-2.new.self c.accept-3.new.self c.name.new.self c.from_residual-in_err-name.result c.if-accept-3.ensures
    (on_word (λ x. x) (after kind.Savepoint) branch_4 from_5 c.accept-3.new.self c.accept-4.new.self c.name.new.self c.from_residual-in_err-name.result c.if-accept-4.ensures
    (then_told (λ x. x) (λ x. x) read_name (λ a. give (statement.Savepoint a)) c.accept-4.new.self c.name.new.self c.from_residual-in_err-name.result c.in_err-name.field-0.0 c.in_err-name.ensures c.from_residual-in_err-name.ensures))))

pub returns-then-accept-4 : goal.returns-then-accept-4
unfolding read_session_rule
returns-then-accept-4 c =
    on_other (λ x. x) (after kind.Commit) branch_1 from_2 c.args.cursor.now c.accept.new.self c.name.new.self (Ok (statement.Savepoint c.in_ok-name.name)) c.if-accept.ensures
    (on_other (λ x. x) (after kind.Rollback) branch_2 from_3 c.accept.new.self c.accept-2.new.self c.name.new.self (Ok (statement.Savepoint c.in_ok-name.name)) c.if-accept-2.ensures
    (on_other (λ x. x) (after kind.Start) branch_3 from_4 c.accept-2.new.self c.accept-3.new.self c.name.new.self (Ok (statement.Savepoint c.in_ok-name.name)) c.if-accept-3.ensures
    (on_word (λ x. x) (after kind.Savepoint) branch_4 from_5 c.accept-3.new.self c.accept-4.new.self c.name.new.self (Ok (statement.Savepoint c.in_ok-name.name)) c.if-accept-4.ensures
    (then_reads (λ x. x) (λ x. x) read_name (λ a. give (statement.Savepoint a)) c.accept-4.new.self c.name.new.self c.name.new.self c.in_ok-name.name (Ok (statement.Savepoint c.in_ok-name.name)) c.in_ok-name.ensures (λ o l. (l, refl))))))

pub returns-in_err-expect-2 : goal.returns-in_err-expect-2
unfolding read_session_rule
returns-in_err-expect-2 c =
    on_other (λ x. x) (after kind.Commit) branch_1 from_2 c.args.cursor.now c.accept.new.self c.expect-then-accept-5.new.self c.from_residual-in_err-expect-2.result c.if-accept.ensures
    (on_other (λ x. x) (after kind.Rollback) branch_2 from_3 c.accept.new.self c.accept-2.new.self c.expect-then-accept-5.new.self c.from_residual-in_err-expect-2.result c.if-accept-2.ensures
    (on_other (λ x. x) (after kind.Start) branch_3 from_4 c.accept-2.new.self c.accept-3.new.self c.expect-then-accept-5.new.self c.from_residual-in_err-expect-2.result c.if-accept-3.ensures
    (on_other (λ x. x) (after kind.Savepoint) branch_4 from_5 c.accept-3.new.self c.accept-4.new.self c.expect-then-accept-5.new.self c.from_residual-in_err-expect-2.result c.if-accept-4.ensures
    (on_word (λ x. x) (after kind.Release) branch_5 from_6 c.accept-4.new.self c.accept-5.new.self c.expect-then-accept-5.new.self c.from_residual-in_err-expect-2.result c.if-accept-5.ensures
    (expected_told (λ x. x) (after kind.Savepoint) (read_as statement.Release read_name) c.accept-5.new.self c.expect-then-accept-5.new.self c.from_residual-in_err-expect-2.result c.in_err-expect-2.field-0.0 c.in_err-expect-2.ensures c.from_residual-in_err-expect-2.ensures)))))

pub returns-in_err-name-2 : goal.returns-in_err-name-2
unfolding read_session_rule
returns-in_err-name-2 c =
    on_other (λ x. x) (after kind.Commit) branch_1 from_2 c.args.cursor.now c.accept.new.self c.name-then-accept-5.new.self c.from_residual-in_err-name-2.result c.if-accept.ensures
    (on_other (λ x. x) (after kind.Rollback) branch_2 from_3 c.accept.new.self c.accept-2.new.self c.name-then-accept-5.new.self c.from_residual-in_err-name-2.result c.if-accept-2.ensures
    (on_other (λ x. x) (after kind.Start) branch_3 from_4 c.accept-2.new.self c.accept-3.new.self c.name-then-accept-5.new.self c.from_residual-in_err-name-2.result c.if-accept-3.ensures
    (on_other (λ x. x) (after kind.Savepoint) branch_4 from_5 c.accept-3.new.self c.accept-4.new.self c.name-then-accept-5.new.self c.from_residual-in_err-name-2.result c.if-accept-4.ensures
    (on_word (λ x. x) (after kind.Release) branch_5 from_6 c.accept-4.new.self c.accept-5.new.self c.name-then-accept-5.new.self c.from_residual-in_err-name-2.result c.if-accept-5.ensures
    (on_expected (λ x. x) (after kind.Savepoint) (read_as statement.Release read_name) c.accept-5.new.self c.expect-then-accept-5.new.self c.name-then-accept-5.new.self c.in_ok-expect-2.field-0 c.from_residual-in_err-name-2.result c.in_ok-expect-2.ensures (then_told (λ x. x) (λ x. x) read_name (λ a. give (statement.Release a)) c.expect-then-accept-5.new.self c.name-then-accept-5.new.self c.from_residual-in_err-name-2.result c.in_err-name-2.field-0.0 c.in_err-name-2.ensures c.from_residual-in_err-name-2.ensures))))))

pub returns-then-accept-5 : goal.returns-then-accept-5
unfolding read_session_rule
returns-then-accept-5 c =
    on_other (λ x. x) (after kind.Commit) branch_1 from_2 c.args.cursor.now c.accept.new.self c.name-then-accept-5.new.self (Ok (statement.Release c.in_ok-name-2.name)) c.if-accept.ensures
    (on_other (λ x. x) (after kind.Rollback) branch_2 from_3 c.accept.new.self c.accept-2.new.self c.name-then-accept-5.new.self (Ok (statement.Release c.in_ok-name-2.name)) c.if-accept-2.ensures
    (on_other (λ x. x) (after kind.Start) branch_3 from_4 c.accept-2.new.self c.accept-3.new.self c.name-then-accept-5.new.self (Ok (statement.Release c.in_ok-name-2.name)) c.if-accept-3.ensures
    (on_other (λ x. x) (after kind.Savepoint) branch_4 from_5 c.accept-3.new.self c.accept-4.new.self c.name-then-accept-5.new.self (Ok (statement.Release c.in_ok-name-2.name)) c.if-accept-4.ensures
    (on_word (λ x. x) (after kind.Release) branch_5 from_6 c.accept-4.new.self c.accept-5.new.self c.name-then-accept-5.new.self (Ok (statement.Release c.in_ok-name-2.name)) c.if-accept-5.ensures
    (on_expected (λ x. x) (after kind.Savepoint) (read_as statement.Release read_name) c.accept-5.new.self c.expect-then-accept-5.new.self c.name-then-accept-5.new.self c.in_ok-expect-2.field-0 (Ok (statement.Release c.in_ok-name-2.name)) c.in_ok-expect-2.ensures (then_reads (λ x. x) (λ x. x) read_name (λ a. give (statement.Release a)) c.expect-then-accept-5.new.self c.name-then-accept-5.new.self c.name-then-accept-5.new.self c.in_ok-name-2.name (Ok (statement.Release c.in_ok-name-2.name)) c.in_ok-name-2.ensures (λ o l. (l, refl))))))))

pub returns-in_err-expect-3 : goal.returns-in_err-expect-3
unfolding read_session_rule
returns-in_err-expect-3 c =
    on_other (λ x. x) (after kind.Commit) branch_1 from_2 c.args.cursor.now c.accept.new.self c.expect-2.new.self c.from_residual-in_err-expect-3.result c.if-accept.ensures
    (on_other (λ x. x) (after kind.Rollback) branch_2 from_3 c.accept.new.self c.accept-2.new.self c.expect-2.new.self c.from_residual-in_err-expect-3.result c.if-accept-2.ensures
    (on_other (λ x. x) (after kind.Start) branch_3 from_4 c.accept-2.new.self c.accept-3.new.self c.expect-2.new.self c.from_residual-in_err-expect-3.result c.if-accept-3.ensures
    (on_other (λ x. x) (after kind.Savepoint) branch_4 from_5 c.accept-3.new.self c.accept-4.new.self c.expect-2.new.self c.from_residual-in_err-expect-3.result c.if-accept-4.ensures
    (on_other (λ x. x) (after kind.Release) branch_5 from_6 c.accept-4.new.self c.accept-5.new.self c.expect-2.new.self c.from_residual-in_err-expect-3.result c.if-accept-5.ensures
    (expected_told (λ x. x) (after kind.Set) read_set c.accept-5.new.self c.expect-2.new.self c.from_residual-in_err-expect-3.result c.in_err-expect-3.field-0.0 c.in_err-expect-3.ensures c.from_residual-in_err-expect-3.ensures)))))

pub returns : goal.returns
unfolding read_session_rule
returns c =
    on_other (λ x. x) (after kind.Commit) branch_1 from_2 c.args.cursor.now c.accept.new.self c.set_constraints.new.cursor c.set_constraints.result c.if-accept.ensures
    (on_other (λ x. x) (after kind.Rollback) branch_2 from_3 c.accept.new.self c.accept-2.new.self c.set_constraints.new.cursor c.set_constraints.result c.if-accept-2.ensures
    (on_other (λ x. x) (after kind.Start) branch_3 from_4 c.accept-2.new.self c.accept-3.new.self c.set_constraints.new.cursor c.set_constraints.result c.if-accept-3.ensures
    (on_other (λ x. x) (after kind.Savepoint) branch_4 from_5 c.accept-3.new.self c.accept-4.new.self c.set_constraints.new.cursor c.set_constraints.result c.if-accept-4.ensures
    (on_other (λ x. x) (after kind.Release) branch_5 from_6 c.accept-4.new.self c.accept-5.new.self c.set_constraints.new.cursor c.set_constraints.result c.if-accept-5.ensures
    (on_expected (λ x. x) (after kind.Set) read_set c.accept-5.new.self c.expect-2.new.self c.set_constraints.new.cursor c.in_ok-expect-3.field-0 c.set_constraints.result c.in_ok-expect-3.ensures c.set_constraints.ensures)))))
