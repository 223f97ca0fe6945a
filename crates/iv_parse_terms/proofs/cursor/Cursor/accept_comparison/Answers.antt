use Rattle.std.specs.Prelude.{◌≡◌, Option, Some, None, List, [], ◌∷◌, refl}
use Rattle.std.proofs.Common.{◌∙◌}
use Rattle.iv_lex.specs.declared.kind.TokenKind.TheVariants as kind
use Rattle.iv_lex.specs.Words.{Word, plain}
use Rattle.iv_parse_terms.specs.Types.{Comparison}
use Rattle.iv_parse_terms.specs.Types.comparison
use Rattle.iv_parse_terms.specs.After.{after, if_some}
use Rattle.iv_parse_terms.specs.Reading.{ahead}
use Rattle.iv_parse_terms.specs.readers.Conditions.{after_comparison}
use Rattle.iv_parse_terms.proofs.cursor.Cursor.accept_comparison.Goals as goal

-- one word after the other
abbrev one_of_six : List Word → Option (Comparison × List Word)
one_of_six ws =
    if_some (after kind.Equals ws) (λ rest. Some (comparison.Equal, rest))
    (if_some (after kind.NotEquals ws) (λ rest. Some (comparison.NotEqual, rest))
    (if_some (after kind.Less ws) (λ rest. Some (comparison.Less, rest))
    (if_some (after kind.LessEquals ws) (λ rest. Some (comparison.LessEqual, rest))
    (if_some (after kind.Greater ws) (λ rest. Some (comparison.Greater, rest))
    (if_some (after kind.GreaterEquals ws) (λ rest. Some (comparison.GreaterEqual, rest)) None)))))

one_by_one : (ws : List Word) → after_comparison ws ≡ one_of_six ws
one_by_one [] = refl
one_by_one (plain kind.Equals ∷ ws) = refl
one_by_one (plain kind.NotEquals ∷ ws) = refl
one_by_one (plain kind.Less ∷ ws) = refl
one_by_one (plain kind.LessEquals ∷ ws) = refl
one_by_one (plain kind.Greater ∷ ws) = refl
one_by_one (plain kind.GreaterEquals ∷ ws) = refl
one_by_one (w ∷ ws) = refl

pub returns-then-accept : goal.returns-then-accept
returns-then-accept c = λ o l.
    let p1 = c.if-accept.ensures o l in
    (p1.0, one_by_one (ahead c.args.self.now o) ∙ rw (p1.1))

pub returns-then-accept-2 : goal.returns-then-accept-2
returns-then-accept-2 c = λ o l.
    let p2 = c.if-accept-2.ensures o l in
    let p1 = c.if-accept.ensures o p2.0 in
    (p1.0, one_by_one (ahead c.args.self.now o) ∙ rw (p1.1.0, ← p1.1.1, p2.1))

pub returns-then-accept-3 : goal.returns-then-accept-3
returns-then-accept-3 c = λ o l.
    let p3 = c.if-accept-3.ensures o l in
    let p2 = c.if-accept-2.ensures o p3.0 in
    let p1 = c.if-accept.ensures o p2.0 in
    (p1.0, one_by_one (ahead c.args.self.now o) ∙ rw (p1.1.0, ← p1.1.1, p2.1.0, ← p2.1.1, p3.1))

pub returns-then-accept-4 : goal.returns-then-accept-4
returns-then-accept-4 c = λ o l.
    let p4 = c.if-accept-4.ensures o l in
    let p3 = c.if-accept-3.ensures o p4.0 in
    let p2 = c.if-accept-2.ensures o p3.0 in
    let p1 = c.if-accept.ensures o p2.0 in
    (p1.0, one_by_one (ahead c.args.self.now o) ∙ rw (p1.1.0, ← p1.1.1, p2.1.0, ← p2.1.1, p3.1.0, ← p3.1.1, p4.1))

pub returns-then-accept-5 : goal.returns-then-accept-5
returns-then-accept-5 c = λ o l.
    let p5 = c.if-accept-5.ensures o l in
    let p4 = c.if-accept-4.ensures o p5.0 in
    let p3 = c.if-accept-3.ensures o p4.0 in
    let p2 = c.if-accept-2.ensures o p3.0 in
    let p1 = c.if-accept.ensures o p2.0 in
    (p1.0, one_by_one (ahead c.args.self.now o) ∙ rw (p1.1.0, ← p1.1.1, p2.1.0, ← p2.1.1, p3.1.0, ← p3.1.1, p4.1.0, ← p4.1.1, p5.1))

pub returns-then-accept-6 : goal.returns-then-accept-6
returns-then-accept-6 c = λ o l.
    let p6 = c.if-accept-6.ensures o l in
    let p5 = c.if-accept-5.ensures o p6.0 in
    let p4 = c.if-accept-4.ensures o p5.0 in
    let p3 = c.if-accept-3.ensures o p4.0 in
    let p2 = c.if-accept-2.ensures o p3.0 in
    let p1 = c.if-accept.ensures o p2.0 in
    (p1.0, one_by_one (ahead c.args.self.now o) ∙ rw (p1.1.0, ← p1.1.1, p2.1.0, ← p2.1.1, p3.1.0, ← p3.1.1, p4.1.0, ← p4.1.1, p5.1.0, ← p5.1.1, p6.1))

pub returns : goal.returns
returns c = λ o l.
    let p6 = c.if-accept-6.ensures o l in
    let p5 = c.if-accept-5.ensures o p6.0 in
    let p4 = c.if-accept-4.ensures o p5.0 in
    let p3 = c.if-accept-3.ensures o p4.0 in
    let p2 = c.if-accept-2.ensures o p3.0 in
    let p1 = c.if-accept.ensures o p2.0 in
    (p1.0, (one_by_one (ahead c.args.self.now o) ∙ rw (p1.1.0, ← p1.1.1, p2.1.0, ← p2.1.1, p3.1.0, ← p3.1.1, p4.1.0, ← p4.1.1, p5.1.0, ← p5.1.1, p6.1.0), p6.1.1 ∙ (p5.1.1 ∙ (p4.1.1 ∙ (p3.1.1 ∙ (p2.1.1 ∙ p1.1.1))))))
