use Rattle.iv_parse_terms.specs.Reading.{ahead}
use Rattle.iv_parse_terms.proofs.Rules.{word_told}
use Rattle.iv_parse_data.specs.readers.Tables.{read_referential_action}
use Rattle.iv_parse_data.proofs.constraint.action.Goals as goal

pub returns-then-accept : goal.returns-then-accept
unfolding read_referential_action
returns-then-accept c = λ o l.
    let p1 = c.if-accept.ensures o l in
    (p1.0, rw (p1.1))

pub returns-then-accept-3 : goal.returns-then-accept-3
unfolding read_referential_action
returns-then-accept-3 c = λ o l.
    let p3 = c.if-accept-3.ensures o l in
    let p2 = c.if-accept-2.ensures o p3.0 in
    let p1 = c.if-accept.ensures o p2.0 in
    (p1.0, rw (p1.1.0, ← p1.1.1, p2.1, p3.1))

pub returns-in_err-expect : goal.returns-in_err-expect
unfolding read_referential_action
returns-in_err-expect c = λ o l.
    let p4 = c.in_err-expect.ensures o l in
    let p3 = c.if-accept-3.ensures o p4.0 in
    let p2 = c.if-accept-2.ensures o p3.0 in
    let p1 = c.if-accept.ensures o p2.0 in
    (p1.0, word_told (λ x. x) c.from_residual.result c.in_err-expect.field-0.0 (read_referential_action (ahead c.args.cursor.now o)) (ahead c.expect.new.self o) c.from_residual.ensures (rw (p1.1.0, ← p1.1.1, p2.1, p3.1.0, ← p3.1.1, p4.1)))

pub returns-then-accept-2 : goal.returns-then-accept-2
unfolding read_referential_action
returns-then-accept-2 c = λ o l.
    let p4 = c.in_ok-expect.ensures o l in
    let p3 = c.if-accept-3.ensures o p4.0 in
    let p2 = c.if-accept-2.ensures o p3.0 in
    let p1 = c.if-accept.ensures o p2.0 in
    (p1.0, rw (p1.1.0, ← p1.1.1, p2.1, p3.1.0, ← p3.1.1, p4.1))

pub returns-in_err-expect-2 : goal.returns-in_err-expect-2
unfolding read_referential_action
returns-in_err-expect-2 c = λ o l.
    let p4 = c.in_err-expect-2.ensures o l in
    let p3 = c.if-accept-4.ensures o p4.0 in
    let p2 = c.if-accept-2.ensures o p3.0 in
    let p1 = c.if-accept.ensures o p2.0 in
    (p1.0, word_told (λ x. x) c.from_residual-in_err-expect-2.result c.in_err-expect-2.field-0.0 (read_referential_action (ahead c.args.cursor.now o)) (ahead c.expect-then-accept-4.new.self o) c.from_residual-in_err-expect-2.ensures (rw (p1.1.0, ← p1.1.1, p2.1.0, ← p2.1.1, p3.1, p4.1)))

pub returns-then-accept-4 : goal.returns-then-accept-4
unfolding read_referential_action
returns-then-accept-4 c = λ o l.
    let p4 = c.in_ok-expect-2.ensures o l in
    let p3 = c.if-accept-4.ensures o p4.0 in
    let p2 = c.if-accept-2.ensures o p3.0 in
    let p1 = c.if-accept.ensures o p2.0 in
    (p1.0, rw (p1.1.0, ← p1.1.1, p2.1.0, ← p2.1.1, p3.1, p4.1))

pub returns : goal.returns
unfolding read_referential_action
returns c = λ o l.
    let p4 = c.in_ok-expect-3.ensures o l in
    let p3 = c.if-accept-4.ensures o p4.0 in
    let p2 = c.if-accept-2.ensures o p3.0 in
    let p1 = c.if-accept.ensures o p2.0 in
    (p1.0, rw (p1.1.0, ← p1.1.1, p2.1.0, ← p2.1.1, p3.1.0, ← p3.1.1, p4.1))
