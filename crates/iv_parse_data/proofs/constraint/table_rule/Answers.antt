use Rattle.iv_parse_terms.specs.Reading.{ahead}
use Rattle.iv_parse_terms.proofs.Rules.{word_told, part_told}
use Rattle.iv_parse_data.specs.readers.Data.{read_check}
use Rattle.iv_parse_data.specs.readers.Tables.{read_key, read_null_treatment, read_table_rule}
use Rattle.iv_parse_data.proofs.constraint.table_rule.Goals as goal

pub returns-in_err-expect : goal.returns-in_err-expect
unfolding read_table_rule
returns-in_err-expect c = λ o l.
    let p2 = c.in_err-expect.ensures o l in
    let p1 = c.if-accept.ensures o p2.0 in
    (p1.0, word_told (λ x. x) c.from_residual.result c.in_err-expect.field-0.0 (read_table_rule (ahead c.args.cursor.now o)) (ahead c.expect.new.self o) c.from_residual.ensures (rw (p1.1, p2.1)))

pub returns-in_err-names : goal.returns-in_err-names
unfolding read_table_rule
returns-in_err-names c = λ o l.
    let p3 = c.in_err-names.ensures o l in
    let p2 = c.in_ok-expect.ensures o p3.0 in
    let p1 = c.if-accept.ensures o p2.0 in (
      p1.0,
      part_told (λ x. x) (λ x. x) c.from_residual-in_err-names.result c.in_err-names.field-0.0 (read_key (ahead c.expect.new.self o)) (read_table_rule (ahead c.args.cursor.now o)) (ahead c.enclosed_series.new.cursor o) (ahead c.enclosed_series.new.cursor o) c.from_residual-in_err-names.ensures p3.1
          (λ x. rw (p1.1, p2.1, x)),
    )

pub returns-then-accept : goal.returns-then-accept
unfolding read_table_rule
returns-then-accept c = λ o l.
    let p3 = c.in_ok-names.ensures o l in
    let p2 = c.in_ok-expect.ensures o p3.0 in
    let p1 = c.if-accept.ensures o p2.0 in
    (p1.0, rw (p1.1, p2.1, p3.1))

pub returns-then-accept-2 : goal.returns-then-accept-2
unfolding read_table_rule
returns-then-accept-2 c = λ o l.
    let p3 = c.foreign_key.ensures o l in
    let p2 = c.if-accept-2.ensures o p3.0 in
    let p1 = c.if-accept.ensures o p2.0 in
    (p1.0, rw (p1.1.0, ← p1.1.1, p2.1) p3.1)

pub returns-in_err-nulls : goal.returns-in_err-nulls
unfolding read_table_rule
returns-in_err-nulls c = λ o l.
    let p4 = c.in_err-nulls.ensures o l in
    let p3 = c.if-accept-3.ensures o p4.0 in
    let p2 = c.if-accept-2.ensures o p3.0 in
    let p1 = c.if-accept.ensures o p2.0 in (
      p1.0,
      part_told (λ x. x) (λ x. x) c.from_residual-in_err-nulls.result c.in_err-nulls.field-0.0 (read_null_treatment (ahead c.accept-3.new.self o)) (read_table_rule (ahead c.args.cursor.now o)) (ahead c.null_treatment.new.cursor o) (ahead c.null_treatment.new.cursor o) c.from_residual-in_err-nulls.ensures p4.1
          (λ x. rw (p1.1.0, ← p1.1.1, p2.1.0, ← p2.1.1, p3.1, x)),
    )

pub returns-in_err-names-2 : goal.returns-in_err-names-2
unfolding read_table_rule
returns-in_err-names-2 c = λ o l.
    let p5 = c.in_err-names-2.ensures o l in
    let p4 = c.in_ok-nulls.ensures o p5.0 in
    let p3 = c.if-accept-3.ensures o p4.0 in
    let p2 = c.if-accept-2.ensures o p3.0 in
    let p1 = c.if-accept.ensures o p2.0 in (
      p1.0,
      part_told (λ x. x) (λ x. x) c.from_residual-in_err-names-2.result c.in_err-names-2.field-0.0 (read_key (ahead c.null_treatment.new.cursor o)) (read_table_rule (ahead c.args.cursor.now o)) (ahead c.enclosed_series-then-accept-3.new.cursor o) (ahead c.enclosed_series-then-accept-3.new.cursor o) c.from_residual-in_err-names-2.ensures p5.1
          (λ x. rw (p1.1.0, ← p1.1.1, p2.1.0, ← p2.1.1, p3.1, p4.1, x)),
    )

pub returns-then-accept-3 : goal.returns-then-accept-3
unfolding read_table_rule
returns-then-accept-3 c = λ o l.
    let p5 = c.in_ok-names-2.ensures o l in
    let p4 = c.in_ok-nulls.ensures o p5.0 in
    let p3 = c.if-accept-3.ensures o p4.0 in
    let p2 = c.if-accept-2.ensures o p3.0 in
    let p1 = c.if-accept.ensures o p2.0 in
    (p1.0, rw (p1.1.0, ← p1.1.1, p2.1.0, ← p2.1.1, p3.1, p4.1, p5.1))

pub returns-in_err-expect-2 : goal.returns-in_err-expect-2
unfolding read_table_rule
returns-in_err-expect-2 c = λ o l.
    let p4 = c.in_err-expect-2.ensures o l in
    let p3 = c.if-accept-3.ensures o p4.0 in
    let p2 = c.if-accept-2.ensures o p3.0 in
    let p1 = c.if-accept.ensures o p2.0 in
    (p1.0, word_told (λ x. x) c.from_residual-in_err-expect-2.result c.in_err-expect-2.field-0.0 (read_table_rule (ahead c.args.cursor.now o)) (ahead c.expect-2.new.self o) c.from_residual-in_err-expect-2.ensures (rw (p1.1.0, ← p1.1.1, p2.1.0, ← p2.1.1, p3.1.0, ← p3.1.1, p4.1)))

pub returns-in_err-condition : goal.returns-in_err-condition
unfolding read_table_rule
returns-in_err-condition c = λ o l.
    let p5 = c.in_err-condition.ensures o l in
    let p4 = c.in_ok-expect-2.ensures o p5.0 in
    let p3 = c.if-accept-3.ensures o p4.0 in
    let p2 = c.if-accept-2.ensures o p3.0 in
    let p1 = c.if-accept.ensures o p2.0 in (
      p1.0,
      part_told (λ x. x) (λ x. x) c.from_residual-in_err-condition.result c.in_err-condition.field-0.0 (read_check (ahead c.expect-2.new.self o)) (read_table_rule (ahead c.args.cursor.now o)) (ahead c.enclosed.new.cursor o) (ahead c.enclosed.new.cursor o) c.from_residual-in_err-condition.ensures p5.1
          (λ x. rw (p1.1.0, ← p1.1.1, p2.1.0, ← p2.1.1, p3.1.0, ← p3.1.1, p4.1, x)),
    )

pub returns : goal.returns
unfolding read_table_rule
returns c = λ o l.
    let p5 = c.in_ok-condition.ensures o l in
    let p4 = c.in_ok-expect-2.ensures o p5.0 in
    let p3 = c.if-accept-3.ensures o p4.0 in
    let p2 = c.if-accept-2.ensures o p3.0 in
    let p1 = c.if-accept.ensures o p2.0 in
    (p1.0, rw (p1.1.0, ← p1.1.1, p2.1.0, ← p2.1.1, p3.1.0, ← p3.1.1, p4.1, p5.1))
