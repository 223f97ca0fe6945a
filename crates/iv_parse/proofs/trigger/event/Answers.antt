use Rattle.std.specs.Prelude.{◌≡◌, ℕ, Some, Ok, List, [], refl}
use Rattle.std.proofs.Common.{ap, sym}
use Rattle.iv_lex.specs.declared.kind.TokenKind.TheVariants as kind
use Rattle.iv_lex.specs.Words.{Word}
use Rattle.iv_parse.specs.Types.{TriggerEvent}
use Rattle.iv_parse.specs.Types.event
use Rattle.iv_parse_terms.specs.After.{after, if_some}
use Rattle.iv_parse_terms.specs.Reading.{ahead}
use Rattle.iv_parse_terms.proofs.Rules.{expected_told, on_expected, on_other, on_word, then_reads, then_told}
use Rattle.iv_parse_data.specs.readers.Series.{give, read_as}
use Rattle.iv_parse_data.specs.readers.Data.{FoundPart, then_word}
use Rattle.iv_parse.specs.readers.Triggers.{read_event, read_update_columns}
use Rattle.iv_parse.proofs.trigger.event.Goals as goal

abbrev branch_1 : List Word → FoundPart (TriggerEvent × List (List ℕ))
branch_1 = give (event.Insert, [])

abbrev branch_2 : List Word → FoundPart (TriggerEvent × List (List ℕ))
branch_2 = read_as (λ ns. (event.Update, ns)) read_update_columns

abbrev from_3 : List Word → FoundPart (TriggerEvent × List (List ℕ))
from_3 ws = then_word kind.Delete ws (give (event.Delete, []))

abbrev from_2 : List Word → FoundPart (TriggerEvent × List (List ℕ))
from_2 ws = if_some (after kind.Update ws) branch_2 (from_3 ws)

pub returns-then-accept : goal.returns-then-accept
unfolding read_event
returns-then-accept c =
    on_word (λ x. x) (after kind.Insert) branch_1 from_2 c.args.cursor.now c.accept.new.self c.accept.new.self (Ok (event.Insert, c.new.result)) c.if-accept.ensures
    (λ o l. (l, ap (λ z. Some ((event.Insert, z), ahead c.accept.new.self o)) (sym c.new.ensures)))

pub returns-in_err-columns : goal.returns-in_err-columns
unfolding read_event
returns-in_err-columns c =
    on_other (λ x. x) (after kind.Insert) branch_1 from_2 c.args.cursor.now c.accept.new.self c.update_columns.new.cursor c.from_residual.result c.if-accept.ensures
    (on_word (λ x. x) (after kind.Update) branch_2 from_3 c.accept.new.self c.accept-2.new.self c.update_columns.new.cursor c.from_residual.result c.if-accept-2.ensures
    (then_told (λ x. x) (λ x. x) read_update_columns (λ a. give (event.Update, a)) c.accept-2.new.self c.update_columns.new.cursor c.from_residual.result c.in_err-columns.field-0.0 c.in_err-columns.ensures c.from_residual.ensures))

pub returns-then-accept-2 : goal.returns-then-accept-2
unfolding read_event
returns-then-accept-2 c =
    on_other (λ x. x) (after kind.Insert) branch_1 from_2 c.args.cursor.now c.accept.new.self c.update_columns.new.cursor (Ok (event.Update, c.in_ok-columns.columns)) c.if-accept.ensures
    (on_word (λ x. x) (after kind.Update) branch_2 from_3 c.accept.new.self c.accept-2.new.self c.update_columns.new.cursor (Ok (event.Update, c.in_ok-columns.columns)) c.if-accept-2.ensures
    (then_reads (λ x. x) (λ x. x) read_update_columns (λ a. give (event.Update, a)) c.accept-2.new.self c.update_columns.new.cursor c.update_columns.new.cursor c.in_ok-columns.columns (Ok (event.Update, c.in_ok-columns.columns)) c.in_ok-columns.ensures (λ o l. (l, refl))))

pub returns-in_err-expect : goal.returns-in_err-expect
unfolding read_event
returns-in_err-expect c =
    on_other (λ x. x) (after kind.Insert) branch_1 from_2 c.args.cursor.now c.accept.new.self c.expect.new.self c.from_residual-in_err-expect.result c.if-accept.ensures
    (on_other (λ x. x) (after kind.Update) branch_2 from_3 c.accept.new.self c.accept-2.new.self c.expect.new.self c.from_residual-in_err-expect.result c.if-accept-2.ensures
    (expected_told (λ x. x) (after kind.Delete) (give (event.Delete, [])) c.accept-2.new.self c.expect.new.self c.from_residual-in_err-expect.result c.in_err-expect.field-0.0 c.in_err-expect.ensures c.from_residual-in_err-expect.ensures))

pub returns : goal.returns
unfolding read_event
returns c =
    on_other (λ x. x) (after kind.Insert) branch_1 from_2 c.args.cursor.now c.accept.new.self c.expect.new.self (Ok (event.Delete, c.new-2.result)) c.if-accept.ensures
    (on_other (λ x. x) (after kind.Update) branch_2 from_3 c.accept.new.self c.accept-2.new.self c.expect.new.self (Ok (event.Delete, c.new-2.result)) c.if-accept-2.ensures
    (on_expected (λ x. x) (after kind.Delete) (give (event.Delete, [])) c.accept-2.new.self c.expect.new.self c.expect.new.self c.in_ok-expect.field-0 (Ok (event.Delete, c.new-2.result)) c.in_ok-expect.ensures (λ o l. (l, ap (λ z. Some ((event.Delete, z), ahead c.expect.new.self o)) (sym c.new-2.ensures)))))
