use Rattle.std.specs.Prelude.{Option, Some, None, Ok, List, refl}
use Rattle.iv_lex.specs.declared.kind.TokenKind.TheVariants as kind
use Rattle.iv_lex.specs.Words.{Word}
use Rattle.iv_parse_terms.specs.After.{after, if_some}
use Rattle.iv_parse_terms.proofs.Rules.{expected_told, on_expected, on_other, on_word, then_reads, then_told}
use Rattle.iv_parse_data.specs.Types.{ColumnRule}
use Rattle.iv_parse_data.specs.Types.column_rule as rule
use Rattle.iv_parse_data.specs.readers.Series.{give, read_as}
use Rattle.iv_parse_data.specs.readers.Data.{FoundPart, read_check, then_word}
use Rattle.iv_parse_data.specs.readers.Tables.{read_column_rule, read_null_treatment, read_references}
use Rattle.iv_parse_data.proofs.constraint.column_rule.Goals as goal

abbrev branch_1 : List Word → FoundPart (Option ColumnRule)
branch_1 = read_as (λ r. Some (rule.References r)) read_references

abbrev branch_2 : List Word → FoundPart (Option ColumnRule)
branch_2 = read_as (λ r. Some (rule.Check r)) read_check

abbrev branch_3 : List Word → FoundPart (Option ColumnRule)
branch_3 = λ a. then_word kind.Null a (give (Some rule.NotNull))

abbrev branch_4 : List Word → FoundPart (Option ColumnRule)
branch_4 = read_as (λ n. Some (rule.Unique n)) read_null_treatment

abbrev branch_5 : List Word → FoundPart (Option ColumnRule)
branch_5 = λ a. then_word kind.Key a (give (Some rule.PrimaryKey))

abbrev from_6 : List Word → FoundPart (Option ColumnRule)
from_6 ws = Some (None, ws)

abbrev from_5 : List Word → FoundPart (Option ColumnRule)
from_5 ws = if_some (after kind.Primary ws) branch_5 (from_6 ws)

abbrev from_4 : List Word → FoundPart (Option ColumnRule)
from_4 ws = if_some (after kind.Unique ws) branch_4 (from_5 ws)

abbrev from_3 : List Word → FoundPart (Option ColumnRule)
from_3 ws = if_some (after kind.Not ws) branch_3 (from_4 ws)

abbrev from_2 : List Word → FoundPart (Option ColumnRule)
from_2 ws = if_some (after kind.Check ws) branch_2 (from_3 ws)

pub returns-in_err-references : goal.returns-in_err-references
unfolding read_column_rule
returns-in_err-references c =
    on_word (λ x. x) (after kind.References) branch_1 from_2 c.args.cursor.now c.accept.new.self c.references.new.cursor c.from_residual.result c.if-accept.ensures
    (then_told (λ x. x) (λ x. x) read_references (λ a. give (Some (rule.References a))) c.accept.new.self c.references.new.cursor c.from_residual.result c.in_err-references.field-0.0 c.in_err-references.ensures c.from_residual.ensures)

pub returns-then-accept : goal.returns-then-accept
unfolding read_column_rule
returns-then-accept c =
    on_word (λ x. x) (after kind.References) branch_1 from_2 c.args.cursor.now c.accept.new.self c.references.new.cursor (Ok (Some (rule.References c.in_ok-references.references))) c.if-accept.ensures
    (then_reads (λ x. x) (λ x. x) read_references (λ a. give (Some (rule.References a))) c.accept.new.self c.references.new.cursor c.references.new.cursor c.in_ok-references.references (Ok (Some (rule.References c.in_ok-references.references))) c.in_ok-references.ensures (λ o l. (l, refl)))

pub returns-in_err-condition : goal.returns-in_err-condition
unfolding read_column_rule
returns-in_err-condition c =
    on_other (λ x. x) (after kind.References) branch_1 from_2 c.args.cursor.now c.accept.new.self c.enclosed.new.cursor c.from_residual-in_err-condition.result c.if-accept.ensures
    (on_word (λ x. x) (after kind.Check) branch_2 from_3 c.accept.new.self c.accept-2.new.self c.enclosed.new.cursor c.from_residual-in_err-condition.result c.if-accept-2.ensures
    (then_told (λ x. x) (λ x. x) read_check (λ a. give (Some (rule.Check a))) c.accept-2.new.self c.enclosed.new.cursor c.from_residual-in_err-condition.result c.in_err-condition.field-0.0 c.in_err-condition.ensures c.from_residual-in_err-condition.ensures))

pub returns-then-accept-2 : goal.returns-then-accept-2
unfolding read_column_rule
returns-then-accept-2 c =
    on_other (λ x. x) (after kind.References) branch_1 from_2 c.args.cursor.now c.accept.new.self c.enclosed.new.cursor (Ok (Some (rule.Check c.in_ok-condition.condition))) c.if-accept.ensures
    (on_word (λ x. x) (after kind.Check) branch_2 from_3 c.accept.new.self c.accept-2.new.self c.enclosed.new.cursor (Ok (Some (rule.Check c.in_ok-condition.condition))) c.if-accept-2.ensures
    (then_reads (λ x. x) (λ x. x) read_check (λ a. give (Some (rule.Check a))) c.accept-2.new.self c.enclosed.new.cursor c.enclosed.new.cursor c.in_ok-condition.condition (Ok (Some (rule.Check c.in_ok-condition.condition))) c.in_ok-condition.ensures (λ o l. (l, refl))))

pub returns-in_err-expect : goal.returns-in_err-expect
unfolding read_column_rule
returns-in_err-expect c =
    on_other (λ x. x) (after kind.References) branch_1 from_2 c.args.cursor.now c.accept.new.self c.expect.new.self c.from_residual-in_err-expect.result c.if-accept.ensures
    (on_other (λ x. x) (after kind.Check) branch_2 from_3 c.accept.new.self c.accept-2.new.self c.expect.new.self c.from_residual-in_err-expect.result c.if-accept-2.ensures
    (on_word (λ x. x) (after kind.Not) branch_3 from_4 c.accept-2.new.self c.accept-3.new.self c.expect.new.self c.from_residual-in_err-expect.result c.if-accept-3.ensures
    (expected_told (λ x. x) (after kind.Null) (give (Some rule.NotNull)) c.accept-3.new.self c.expect.new.self c.from_residual-in_err-expect.result c.in_err-expect.field-0.0 c.in_err-expect.ensures c.from_residual-in_err-expect.ensures)))

pub returns-then-accept-3 : goal.returns-then-accept-3
unfolding read_column_rule
returns-then-accept-3 c =
    on_other (λ x. x) (after kind.References) branch_1 from_2 c.args.cursor.now c.accept.new.self c.expect.new.self (Ok (Some rule.NotNull)) c.if-accept.ensures
    (on_other (λ x. x) (after kind.Check) branch_2 from_3 c.accept.new.self c.accept-2.new.self c.expect.new.self (Ok (Some rule.NotNull)) c.if-accept-2.ensures
    (on_word (λ x. x) (after kind.Not) branch_3 from_4 c.accept-2.new.self c.accept-3.new.self c.expect.new.self (Ok (Some rule.NotNull)) c.if-accept-3.ensures
    (on_expected (λ x. x) (after kind.Null) (give (Some rule.NotNull)) c.accept-3.new.self c.expect.new.self c.expect.new.self c.in_ok-expect.field-0 (Ok (Some rule.NotNull)) c.in_ok-expect.ensures (λ o l. (l, refl)))))

pub returns-in_err-nulls : goal.returns-in_err-nulls
unfolding read_column_rule
returns-in_err-nulls c =
    on_other (λ x. x) (after kind.References) branch_1 from_2 c.args.cursor.now c.accept.new.self c.null_treatment.new.cursor c.from_residual-in_err-nulls.result c.if-accept.ensures
    (on_other (λ x. x) (after kind.Check) branch_2 from_3 c.accept.new.self c.accept-2.new.self c.null_treatment.new.cursor c.from_residual-in_err-nulls.result c.if-accept-2.ensures
    (on_other (λ x. x) (after kind.Not) branch_3 from_4 c.accept-2.new.self c.accept-3.new.self c.null_treatment.new.cursor c.from_residual-in_err-nulls.result c.if-accept-3.ensures
    (on_word (λ x. x) (after kind.Unique) branch_4 from_5 c.accept-3.new.self c.accept-4.new.self c.null_treatment.new.cursor c.from_residual-in_err-nulls.result c.if-accept-4.ensures
    (then_told (λ x. x) (λ x. x) read_null_treatment (λ a. give (Some (rule.Unique a))) c.accept-4.new.self c.null_treatment.new.cursor c.from_residual-in_err-nulls.result c.in_err-nulls.field-0.0 c.in_err-nulls.ensures c.from_residual-in_err-nulls.ensures))))

pub returns-then-accept-4 : goal.returns-then-accept-4
unfolding read_column_rule
returns-then-accept-4 c =
    on_other (λ x. x) (after kind.References) branch_1 from_2 c.args.cursor.now c.accept.new.self c.null_treatment.new.cursor (Ok (Some (rule.Unique c.in_ok-nulls.nulls))) c.if-accept.ensures
    (on_other (λ x. x) (after kind.Check) branch_2 from_3 c.accept.new.self c.accept-2.new.self c.null_treatment.new.cursor (Ok (Some (rule.Unique c.in_ok-nulls.nulls))) c.if-accept-2.ensures
    (on_other (λ x. x) (after kind.Not) branch_3 from_4 c.accept-2.new.self c.accept-3.new.self c.null_treatment.new.cursor (Ok (Some (rule.Unique c.in_ok-nulls.nulls))) c.if-accept-3.ensures
    (on_word (λ x. x) (after kind.Unique) branch_4 from_5 c.accept-3.new.self c.accept-4.new.self c.null_treatment.new.cursor (Ok (Some (rule.Unique c.in_ok-nulls.nulls))) c.if-accept-4.ensures
    (then_reads (λ x. x) (λ x. x) read_null_treatment (λ a. give (Some (rule.Unique a))) c.accept-4.new.self c.null_treatment.new.cursor c.null_treatment.new.cursor c.in_ok-nulls.nulls (Ok (Some (rule.Unique c.in_ok-nulls.nulls))) c.in_ok-nulls.ensures (λ o l. (l, refl))))))

pub returns-in_err-expect-2 : goal.returns-in_err-expect-2
unfolding read_column_rule
returns-in_err-expect-2 c =
    on_other (λ x. x) (after kind.References) branch_1 from_2 c.args.cursor.now c.accept.new.self c.expect-then-accept-5.new.self c.from_residual-in_err-expect-2.result c.if-accept.ensures
    (on_other (λ x. x) (after kind.Check) branch_2 from_3 c.accept.new.self c.accept-2.new.self c.expect-then-accept-5.new.self c.from_residual-in_err-expect-2.result c.if-accept-2.ensures
    (on_other (λ x. x) (after kind.Not) branch_3 from_4 c.accept-2.new.self c.accept-3.new.self c.expect-then-accept-5.new.self c.from_residual-in_err-expect-2.result c.if-accept-3.ensures
    (on_other (λ x. x) (after kind.Unique) branch_4 from_5 c.accept-3.new.self c.accept-4.new.self c.expect-then-accept-5.new.self c.from_residual-in_err-expect-2.result c.if-accept-4.ensures
    (on_word (λ x. x) (after kind.Primary) branch_5 from_6 c.accept-4.new.self c.accept-5.new.self c.expect-then-accept-5.new.self c.from_residual-in_err-expect-2.result c.if-accept-5.ensures
    (expected_told (λ x. x) (after kind.Key) (give (Some rule.PrimaryKey)) c.accept-5.new.self c.expect-then-accept-5.new.self c.from_residual-in_err-expect-2.result c.in_err-expect-2.field-0.0 c.in_err-expect-2.ensures c.from_residual-in_err-expect-2.ensures)))))

pub returns-then-accept-5 : goal.returns-then-accept-5
unfolding read_column_rule
returns-then-accept-5 c =
    on_other (λ x. x) (after kind.References) branch_1 from_2 c.args.cursor.now c.accept.new.self c.expect-then-accept-5.new.self (Ok (Some rule.PrimaryKey)) c.if-accept.ensures
    (on_other (λ x. x) (after kind.Check) branch_2 from_3 c.accept.new.self c.accept-2.new.self c.expect-then-accept-5.new.self (Ok (Some rule.PrimaryKey)) c.if-accept-2.ensures
    (on_other (λ x. x) (after kind.Not) branch_3 from_4 c.accept-2.new.self c.accept-3.new.self c.expect-then-accept-5.new.self (Ok (Some rule.PrimaryKey)) c.if-accept-3.ensures
    (on_other (λ x. x) (after kind.Unique) branch_4 from_5 c.accept-3.new.self c.accept-4.new.self c.expect-then-accept-5.new.self (Ok (Some rule.PrimaryKey)) c.if-accept-4.ensures
    (on_word (λ x. x) (after kind.Primary) branch_5 from_6 c.accept-4.new.self c.accept-5.new.self c.expect-then-accept-5.new.self (Ok (Some rule.PrimaryKey)) c.if-accept-5.ensures
    (on_expected (λ x. x) (after kind.Key) (give (Some rule.PrimaryKey)) c.accept-5.new.self c.expect-then-accept-5.new.self c.expect-then-accept-5.new.self c.in_ok-expect-2.field-0 (Ok (Some rule.PrimaryKey)) c.in_ok-expect-2.ensures (λ o l. (l, refl)))))))

pub returns : goal.returns
unfolding read_column_rule
returns c =
    on_other (λ x. x) (after kind.References) branch_1 from_2 c.args.cursor.now c.accept.new.self c.accept-5.new.self (Ok None) c.if-accept.ensures
    (on_other (λ x. x) (after kind.Check) branch_2 from_3 c.accept.new.self c.accept-2.new.self c.accept-5.new.self (Ok None) c.if-accept-2.ensures
    (on_other (λ x. x) (after kind.Not) branch_3 from_4 c.accept-2.new.self c.accept-3.new.self c.accept-5.new.self (Ok None) c.if-accept-3.ensures
    (on_other (λ x. x) (after kind.Unique) branch_4 from_5 c.accept-3.new.self c.accept-4.new.self c.accept-5.new.self (Ok None) c.if-accept-4.ensures
    (on_other (λ x. x) (after kind.Primary) branch_5 from_6 c.accept-4.new.self c.accept-5.new.self c.accept-5.new.self (Ok None) c.if-accept-5.ensures
    (λ o l. (l, refl))))))
