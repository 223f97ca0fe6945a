use Rattle.std.specs.Prelude.{Some, None, Ok, List, refl}
use Rattle.iv_lex.specs.declared.kind.TokenKind.TheVariants as kind
use Rattle.iv_lex.specs.Words.{Word}
use Rattle.iv_parse.specs.Types.{Statement}
use Rattle.iv_parse.specs.Types.statement
use Rattle.iv_parse_terms.specs.After.{after, if_some}
use Rattle.iv_parse_terms.proofs.Rules.{on_other, on_word, then_reads, then_told}
use Rattle.iv_parse_data.specs.readers.Series.{give, read_as}
use Rattle.iv_parse_data.specs.readers.Data.{FoundPart}
use Rattle.iv_parse_data.specs.readers.Data.{read_insert, read_update, read_delete, read_select}
use Rattle.iv_parse.specs.readers.Statements.{read_definition_rule, read_rule}
use Rattle.iv_parse.proofs.statement.rule.Goals as goal

abbrev branch_1 : List Word → FoundPart Statement
branch_1 = read_as statement.Insert read_insert

abbrev branch_2 : List Word → FoundPart Statement
branch_2 = read_as statement.Update read_update

abbrev branch_3 : List Word → FoundPart Statement
branch_3 = read_as statement.Delete read_delete

abbrev branch_4 : List Word → FoundPart Statement
branch_4 = read_as statement.Select read_select

abbrev from_5 : List Word → FoundPart Statement
from_5 ws = read_definition_rule ws

abbrev from_4 : List Word → FoundPart Statement
from_4 ws = if_some (after kind.Select ws) branch_4 (from_5 ws)

abbrev from_3 : List Word → FoundPart Statement
from_3 ws = if_some (after kind.Delete ws) branch_3 (from_4 ws)

abbrev from_2 : List Word → FoundPart Statement
from_2 ws = if_some (after kind.Update ws) branch_2 (from_3 ws)

pub returns-in_err-insert : goal.returns-in_err-insert
unfolding read_rule
returns-in_err-insert c =
    on_word (λ x. x) (after kind.Insert) branch_1 from_2 c.args.cursor.now c.accept.new.self c.insert.new.cursor c.from_residual.result c.if-accept.ensures
    (then_told (λ x. x) (λ x. x) read_insert (λ a. give (statement.Insert a)) c.accept.new.self c.insert.new.cursor c.from_residual.result c.in_err-insert.field-0.0 c.in_err-insert.ensures c.from_residual.ensures)

pub returns-then-accept : goal.returns-then-accept
unfolding read_rule
returns-then-accept c =
    on_word (λ x. x) (after kind.Insert) branch_1 from_2 c.args.cursor.now c.accept.new.self c.insert.new.cursor (Ok (statement.Insert c.in_ok-insert.insert)) c.if-accept.ensures
    (then_reads (λ x. x) (λ x. x) read_insert (λ a. give (statement.Insert a)) c.accept.new.self c.insert.new.cursor c.insert.new.cursor c.in_ok-insert.insert (Ok (statement.Insert c.in_ok-insert.insert)) c.in_ok-insert.ensures (λ o l. (l, refl)))

pub returns-in_err-update : goal.returns-in_err-update
unfolding read_rule
returns-in_err-update c =
    on_other (λ x. x) (after kind.Insert) branch_1 from_2 c.args.cursor.now c.accept.new.self c.update.new.cursor c.from_residual-in_err-update.result c.if-accept.ensures
    (on_word (λ x. x) (after kind.Update) branch_2 from_3 c.accept.new.self c.accept-2.new.self c.update.new.cursor c.from_residual-in_err-update.result c.if-accept-2.ensures
    (then_told (λ x. x) (λ x. x) read_update (λ a. give (statement.Update a)) c.accept-2.new.self c.update.new.cursor c.from_residual-in_err-update.result c.in_err-update.field-0.0 c.in_err-update.ensures c.from_residual-in_err-update.ensures))

pub returns-then-accept-2 : goal.returns-then-accept-2
unfolding read_rule
returns-then-accept-2 c =
    on_other (λ x. x) (after kind.Insert) branch_1 from_2 c.args.cursor.now c.accept.new.self c.update.new.cursor (Ok (statement.Update c.in_ok-update.update)) c.if-accept.ensures
    (on_word (λ x. x) (after kind.Update) branch_2 from_3 c.accept.new.self c.accept-2.new.self c.update.new.cursor (Ok (statement.Update c.in_ok-update.update)) c.if-accept-2.ensures
    (then_reads (λ x. x) (λ x. x) read_update (λ a. give (statement.Update a)) c.accept-2.new.self c.update.new.cursor c.update.new.cursor c.in_ok-update.update (Ok (statement.Update c.in_ok-update.update)) c.in_ok-update.ensures (λ o l. (l, refl))))

pub returns-in_err-delete : goal.returns-in_err-delete
unfolding read_rule
returns-in_err-delete c =
    on_other (λ x. x) (after kind.Insert) branch_1 from_2 c.args.cursor.now c.accept.new.self c.delete.new.cursor c.from_residual-in_err-delete.result c.if-accept.ensures
    (on_other (λ x. x) (after kind.Update) branch_2 from_3 c.accept.new.self c.accept-2.new.self c.delete.new.cursor c.from_residual-in_err-delete.result c.if-accept-2.ensures
    (on_word (λ x. x) (after kind.Delete) branch_3 from_4 c.accept-2.new.self c.accept-3.new.self c.delete.new.cursor c.from_residual-in_err-delete.result c.if-accept-3.ensures
    (then_told (λ x. x) (λ x. x) read_delete (λ a. give (statement.Delete a)) c.accept-3.new.self c.delete.new.cursor c.from_residual-in_err-delete.result c.in_err-delete.field-0.0 c.in_err-delete.ensures c.from_residual-in_err-delete.ensures)))

pub returns-then-accept-3 : goal.returns-then-accept-3
unfolding read_rule
returns-then-accept-3 c =
    on_other (λ x. x) (after kind.Insert) branch_1 from_2 c.args.cursor.now c.accept.new.self c.delete.new.cursor (Ok (statement.Delete c.in_ok-delete.delete)) c.if-accept.ensures
    (on_other (λ x. x) (after kind.Update) branch_2 from_3 c.accept.new.self c.accept-2.new.self c.delete.new.cursor (Ok (statement.Delete c.in_ok-delete.delete)) c.if-accept-2.ensures
    (on_word (λ x. x) (after kind.Delete) branch_3 from_4 c.accept-2.new.self c.accept-3.new.self c.delete.new.cursor (Ok (statement.Delete c.in_ok-delete.delete)) c.if-accept-3.ensures
    (then_reads (λ x. x) (λ x. x) read_delete (λ a. give (statement.Delete a)) c.accept-3.new.self c.delete.new.cursor c.delete.new.cursor c.in_ok-delete.delete (Ok (statement.Delete c.in_ok-delete.delete)) c.in_ok-delete.ensures (λ o l. (l, refl)))))

pub returns-in_err-select : goal.returns-in_err-select
unfolding read_rule
returns-in_err-select c =
    on_other (λ x. x) (after kind.Insert) branch_1 from_2 c.args.cursor.now c.accept.new.self c.select.new.cursor c.from_residual-in_err-select.result c.if-accept.ensures
    (on_other (λ x. x) (after kind.Update) branch_2 from_3 c.accept.new.self c.accept-2.new.self c.select.new.cursor c.from_residual-in_err-select.result c.if-accept-2.ensures
    (on_other (λ x. x) (after kind.Delete) branch_3 from_4 c.accept-2.new.self c.accept-3.new.self c.select.new.cursor c.from_residual-in_err-select.result c.if-accept-3.ensures
    (on_word (λ x. x) (after kind.Select) branch_4 from_5 c.accept-3.new.self c.accept-4.new.self c.select.new.cursor c.from_residual-in_err-select.result c.if-accept-4.ensures
    (then_told (λ x. x) (λ x. x) read_select (λ a. give (statement.Select a)) c.accept-4.new.self c.select.new.cursor c.from_residual-in_err-select.result c.in_err-select.field-0.0 c.in_err-select.ensures c.from_residual-in_err-select.ensures))))

pub returns-then-accept-4 : goal.returns-then-accept-4
unfolding read_rule
returns-then-accept-4 c =
    on_other (λ x. x) (after kind.Insert) branch_1 from_2 c.args.cursor.now c.accept.new.self c.select.new.cursor (Ok (statement.Select c.in_ok-select.select)) c.if-accept.ensures
    (on_other (λ x. x) (after kind.Update) branch_2 from_3 c.accept.new.self c.accept-2.new.self c.select.new.cursor (Ok (statement.Select c.in_ok-select.select)) c.if-accept-2.ensures
    (on_other (λ x. x) (after kind.Delete) branch_3 from_4 c.accept-2.new.self c.accept-3.new.self c.select.new.cursor (Ok (statement.Select c.in_ok-select.select)) c.if-accept-3.ensures
    (on_word (λ x. x) (after kind.Select) branch_4 from_5 c.accept-3.new.self c.accept-4.new.self c.select.new.cursor (Ok (statement.Select c.in_ok-select.select)) c.if-accept-4.ensures
    (then_reads (λ x. x) (λ x. x) read_select (λ a. give (statement.Select a)) c.accept-4.new.self c.select.new.cursor c.select.new.cursor c.in_ok-select.select (Ok (statement.Select c.in_ok-select.select)) c.in_ok-select.ensures (λ o l. (l, refl))))))

pub returns : goal.returns
unfolding read_rule
returns c =
    on_other (λ x. x) (after kind.Insert) branch_1 from_2 c.args.cursor.now c.accept.new.self c.definition.new.cursor c.definition.result c.if-accept.ensures
    (on_other (λ x. x) (after kind.Update) branch_2 from_3 c.accept.new.self c.accept-2.new.self c.definition.new.cursor c.definition.result c.if-accept-2.ensures
    (on_other (λ x. x) (after kind.Delete) branch_3 from_4 c.accept-2.new.self c.accept-3.new.self c.definition.new.cursor c.definition.result c.if-accept-3.ensures
    (on_other (λ x. x) (after kind.Select) branch_4 from_5 c.accept-3.new.self c.accept-4.new.self c.definition.new.cursor c.definition.result c.if-accept-4.ensures
    c.definition.ensures)))
