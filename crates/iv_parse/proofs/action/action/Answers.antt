use Rattle.std.specs.Prelude.{Some, None, Ok, List, refl}
use Rattle.iv_lex.specs.declared.kind.TokenKind.TheVariants as kind
use Rattle.iv_lex.specs.Words.{Word}
use Rattle.iv_parse.specs.Types.{TriggerAction}
use Rattle.iv_parse.specs.Types.action
use Rattle.iv_parse_terms.specs.After.{after, after_quoted, if_some}
use Rattle.iv_parse_terms.proofs.Rules.{expected_told, on_expected, on_other, on_word, then_reads, then_told}
use Rattle.iv_parse_data.specs.readers.Series.{give, read_as}
use Rattle.iv_parse_data.specs.readers.Data.{FoundPart, then_word}
use Rattle.iv_parse_data.specs.readers.Data.{read_insert, read_update, read_delete}
use Rattle.iv_parse.specs.readers.Triggers.{read_action, read_set_action}
use Rattle.iv_parse.proofs.action.action.Goals as goal

abbrev branch_1 : List Word → FoundPart TriggerAction
branch_1 = read_as action.Insert read_insert

abbrev branch_2 : List Word → FoundPart TriggerAction
branch_2 = read_as action.Update read_update

abbrev branch_3 : List Word → FoundPart TriggerAction
branch_3 = read_as action.Delete read_delete

abbrev branch_4 : List Word → FoundPart TriggerAction
branch_4 = read_as action.Signal after_quoted

abbrev from_5 : List Word → FoundPart TriggerAction
from_5 ws = then_word kind.Set ws read_set_action

abbrev from_4 : List Word → FoundPart TriggerAction
from_4 ws = if_some (after kind.Signal ws) branch_4 (from_5 ws)

abbrev from_3 : List Word → FoundPart TriggerAction
from_3 ws = if_some (after kind.Delete ws) branch_3 (from_4 ws)

abbrev from_2 : List Word → FoundPart TriggerAction
from_2 ws = if_some (after kind.Update ws) branch_2 (from_3 ws)

pub returns-in_err-insert : goal.returns-in_err-insert
unfolding read_action
returns-in_err-insert c =
    on_word (λ x. x) (after kind.Insert) branch_1 from_2 c.args.cursor.now c.accept.new.self c.insert.new.cursor c.from_residual.result c.if-accept.ensures
    (then_told (λ x. x) (λ x. x) read_insert (λ a. give (action.Insert a)) c.accept.new.self c.insert.new.cursor c.from_residual.result c.in_err-insert.field-0.0 c.in_err-insert.ensures c.from_residual.ensures)

pub returns-then-accept : goal.returns-then-accept
unfolding read_action
returns-then-accept c =
    on_word (λ x. x) (after kind.Insert) branch_1 from_2 c.args.cursor.now c.accept.new.self c.insert.new.cursor (Ok (action.Insert c.in_ok-insert.insert)) c.if-accept.ensures
    (then_reads (λ x. x) (λ x. x) read_insert (λ a. give (action.Insert a)) c.accept.new.self c.insert.new.cursor c.insert.new.cursor c.in_ok-insert.insert (Ok (action.Insert c.in_ok-insert.insert)) c.in_ok-insert.ensures (λ o l. (l, refl)))

pub returns-in_err-update : goal.returns-in_err-update
unfolding read_action
returns-in_err-update c =
    on_other (λ x. x) (after kind.Insert) branch_1 from_2 c.args.cursor.now c.accept.new.self c.update.new.cursor c.from_residual-in_err-update.result c.if-accept.ensures
    (on_word (λ x. x) (after kind.Update) branch_2 from_3 c.accept.new.self c.accept-2.new.self c.update.new.cursor c.from_residual-in_err-update.result c.if-accept-2.ensures
    (then_told (λ x. x) (λ x. x) read_update (λ a. give (action.Update a)) c.accept-2.new.self c.update.new.cursor c.from_residual-in_err-update.result c.in_err-update.field-0.0 c.in_err-update.ensures c.from_residual-in_err-update.ensures))

pub returns-then-accept-2 : goal.returns-then-accept-2
unfolding read_action
returns-then-accept-2 c =
    on_other (λ x. x) (after kind.Insert) branch_1 from_2 c.args.cursor.now c.accept.new.self c.update.new.cursor (Ok (action.Update c.in_ok-update.update)) c.if-accept.ensures
    (on_word (λ x. x) (after kind.Update) branch_2 from_3 c.accept.new.self c.accept-2.new.self c.update.new.cursor (Ok (action.Update c.in_ok-update.update)) c.if-accept-2.ensures
    (then_reads (λ x. x) (λ x. x) read_update (λ a. give (action.Update a)) c.accept-2.new.self c.update.new.cursor c.update.new.cursor c.in_ok-update.update (Ok (action.Update c.in_ok-update.update)) c.in_ok-update.ensures (λ o l. (l, refl))))

pub returns-in_err-delete : goal.returns-in_err-delete
unfolding read_action
returns-in_err-delete c =
    on_other (λ x. x) (after kind.Insert) branch_1 from_2 c.args.cursor.now c.accept.new.self c.delete.new.cursor c.from_residual-in_err-delete.result c.if-accept.ensures
    (on_other (λ x. x) (after kind.Update) branch_2 from_3 c.accept.new.self c.accept-2.new.self c.delete.new.cursor c.from_residual-in_err-delete.result c.if-accept-2.ensures
    (on_word (λ x. x) (after kind.Delete) branch_3 from_4 c.accept-2.new.self c.accept-3.new.self c.delete.new.cursor c.from_residual-in_err-delete.result c.if-accept-3.ensures
    (then_told (λ x. x) (λ x. x) read_delete (λ a. give (action.Delete a)) c.accept-3.new.self c.delete.new.cursor c.from_residual-in_err-delete.result c.in_err-delete.field-0.0 c.in_err-delete.ensures c.from_residual-in_err-delete.ensures)))

pub returns-then-accept-3 : goal.returns-then-accept-3
unfolding read_action
returns-then-accept-3 c =
    on_other (λ x. x) (after kind.Insert) branch_1 from_2 c.args.cursor.now c.accept.new.self c.delete.new.cursor (Ok (action.Delete c.in_ok-delete.delete)) c.if-accept.ensures
    (on_other (λ x. x) (after kind.Update) branch_2 from_3 c.accept.new.self c.accept-2.new.self c.delete.new.cursor (Ok (action.Delete c.in_ok-delete.delete)) c.if-accept-2.ensures
    (on_word (λ x. x) (after kind.Delete) branch_3 from_4 c.accept-2.new.self c.accept-3.new.self c.delete.new.cursor (Ok (action.Delete c.in_ok-delete.delete)) c.if-accept-3.ensures
    (then_reads (λ x. x) (λ x. x) read_delete (λ a. give (action.Delete a)) c.accept-3.new.self c.delete.new.cursor c.delete.new.cursor c.in_ok-delete.delete (Ok (action.Delete c.in_ok-delete.delete)) c.in_ok-delete.ensures (λ o l. (l, refl)))))

pub returns-in_err-message : goal.returns-in_err-message
unfolding read_action
returns-in_err-message c =
    on_other (λ x. x) (after kind.Insert) branch_1 from_2 c.args.cursor.now c.accept.new.self c.quoted.new.self c.from_residual-in_err-message.result c.if-accept.ensures
    (on_other (λ x. x) (after kind.Update) branch_2 from_3 c.accept.new.self c.accept-2.new.self c.quoted.new.self c.from_residual-in_err-message.result c.if-accept-2.ensures
    (on_other (λ x. x) (after kind.Delete) branch_3 from_4 c.accept-2.new.self c.accept-3.new.self c.quoted.new.self c.from_residual-in_err-message.result c.if-accept-3.ensures
    (on_word (λ x. x) (after kind.Signal) branch_4 from_5 c.accept-3.new.self c.accept-4.new.self c.quoted.new.self c.from_residual-in_err-message.result c.if-accept-4.ensures
    (then_told (λ x. x) (λ x. x) after_quoted (λ a. give (action.Signal a)) c.accept-4.new.self c.quoted.new.self c.from_residual-in_err-message.result c.in_err-message.field-0.0 c.in_err-message.ensures c.from_residual-in_err-message.ensures))))

pub returns-then-accept-4 : goal.returns-then-accept-4
unfolding read_action
returns-then-accept-4 c =
    on_other (λ x. x) (after kind.Insert) branch_1 from_2 c.args.cursor.now c.accept.new.self c.quoted.new.self (Ok (action.Signal c.in_ok-message.message)) c.if-accept.ensures
    (on_other (λ x. x) (after kind.Update) branch_2 from_3 c.accept.new.self c.accept-2.new.self c.quoted.new.self (Ok (action.Signal c.in_ok-message.message)) c.if-accept-2.ensures
    (on_other (λ x. x) (after kind.Delete) branch_3 from_4 c.accept-2.new.self c.accept-3.new.self c.quoted.new.self (Ok (action.Signal c.in_ok-message.message)) c.if-accept-3.ensures
    (on_word (λ x. x) (after kind.Signal) branch_4 from_5 c.accept-3.new.self c.accept-4.new.self c.quoted.new.self (Ok (action.Signal c.in_ok-message.message)) c.if-accept-4.ensures
    (then_reads (λ x. x) (λ x. x) after_quoted (λ a. give (action.Signal a)) c.accept-4.new.self c.quoted.new.self c.quoted.new.self c.in_ok-message.message (Ok (action.Signal c.in_ok-message.message)) c.in_ok-message.ensures (λ o l. (l, refl))))))

pub returns-in_err-expect : goal.returns-in_err-expect
unfolding read_action
returns-in_err-expect c =
    on_other (λ x. x) (after kind.Insert) branch_1 from_2 c.args.cursor.now c.accept.new.self c.expect.new.self c.from_residual-in_err-expect.result c.if-accept.ensures
    (on_other (λ x. x) (after kind.Update) branch_2 from_3 c.accept.new.self c.accept-2.new.self c.expect.new.self c.from_residual-in_err-expect.result c.if-accept-2.ensures
    (on_other (λ x. x) (after kind.Delete) branch_3 from_4 c.accept-2.new.self c.accept-3.new.self c.expect.new.self c.from_residual-in_err-expect.result c.if-accept-3.ensures
    (on_other (λ x. x) (after kind.Signal) branch_4 from_5 c.accept-3.new.self c.accept-4.new.self c.expect.new.self c.from_residual-in_err-expect.result c.if-accept-4.ensures
    (expected_told (λ x. x) (after kind.Set) read_set_action c.accept-4.new.self c.expect.new.self c.from_residual-in_err-expect.result c.in_err-expect.field-0.0 c.in_err-expect.ensures c.from_residual-in_err-expect.ensures))))

pub returns : goal.returns
unfolding read_action
returns c =
    on_other (λ x. x) (after kind.Insert) branch_1 from_2 c.args.cursor.now c.accept.new.self c.set_action.new.cursor c.set_action.result c.if-accept.ensures
    (on_other (λ x. x) (after kind.Update) branch_2 from_3 c.accept.new.self c.accept-2.new.self c.set_action.new.cursor c.set_action.result c.if-accept-2.ensures
    (on_other (λ x. x) (after kind.Delete) branch_3 from_4 c.accept-2.new.self c.accept-3.new.self c.set_action.new.cursor c.set_action.result c.if-accept-3.ensures
    (on_other (λ x. x) (after kind.Signal) branch_4 from_5 c.accept-3.new.self c.accept-4.new.self c.set_action.new.cursor c.set_action.result c.if-accept-4.ensures
    (on_expected (λ x. x) (after kind.Set) read_set_action c.accept-4.new.self c.expect.new.self c.set_action.new.cursor c.in_ok-expect.field-0 c.set_action.result c.in_ok-expect.ensures c.set_action.ensures))))
