use Rattle.std.proofs.Common.{◌≡◌, ◌∙◌, ◌∷◌, [], List, map, ap, subst, sym}
use Rattle.iv_value.specs.Truths.{truth_and, truth_not, truth_of, truth_or}
use Rattle.iv_value.specs.Values.{is_null}
use Rattle.iv_expr.specs.Types.{Kind, Range, Value}
use Rattle.iv_expr.specs.Asking.{IsNeverRefused}
use Rattle.iv_expr.specs.Evaluation.{any_true, truth}
use Rattle.iv_expr.specs.Scopes.{Scope, range_rows, within}
use Rattle.iv_expr.proofs.Outside.{both_of, never_both, never_compare, never_exists, never_not, never_null, some_told}
use Rattle.iv_expr.proofs.Steps.{truth_and_at, truth_exists_at, truth_not_at, truth_or_at}
use Rattle.iv_expr.proofs.sorts.+is_never_refused.Goals as goal

pub is_never_refused-returns-in-Compare : goal.is_never_refused-returns-in-Compare
is_never_refused-returns-in-Compare g t c = λ yes.
    never_compare c.args.kinds.now c.args.inside.now c.args.cond.now c.in-Compare.field-0 c.in-Compare.left c.in-Compare.right (λ o. ap (truth o) c.in-Compare.is) (sym c.compares.ensures ∙ yes)

pub is_never_refused-returns-in-IsNull : goal.is_never_refused-returns-in-IsNull
is_never_refused-returns-in-IsNull g t c = λ yes.
    never_null c.args.kinds.now c.args.inside.now c.args.cond.now c.in-IsNull.operand (λ v. truth_of (is_null v)) (λ o. ap (truth o) c.in-IsNull.is)
    (some_told c.sort_of.result _ c.sort_of.ensures (sym c.is_some.ensures ∙ yes))

pub is_never_refused-returns-in-Not : goal.is_never_refused-returns-in-Not
is_never_refused-returns-in-Not g t c = λ yes.
    never_not c.args.kinds.now c.args.inside.now c.args.cond.now c.in-Not.operand c.get.result.now truth_not (λ o. truth_not_at o c.args.cond.now c.in-Not.operand c.in-Not.is) c.get.ensures
    (c.is_never_refused.ensures yes)

pub is_never_refused-returns-in-And : goal.is_never_refused-returns-in-And
is_never_refused-returns-in-And g t c = λ yes.
    let p = both_of _ _ (sym c.and.ensures ∙ yes) in
    never_both c.args.kinds.now c.args.inside.now c.args.cond.now c.in-And.left c.in-And.right c.get-in-And.result.now c.get-in-And-2.result.now truth_and
    (λ o. truth_and_at o c.args.cond.now c.in-And.left c.in-And.right c.in-And.is) c.get-in-And.ensures c.get-in-And-2.ensures
    (c.is_never_refused-in-And.ensures p.0) (c.is_never_refused-in-And-2.ensures p.1)

pub is_never_refused-returns-in-Or : goal.is_never_refused-returns-in-Or
is_never_refused-returns-in-Or g t c = λ yes.
    let p = both_of _ _ (sym c.and-in-Or.ensures ∙ yes) in
    never_both c.args.kinds.now c.args.inside.now c.args.cond.now c.in-Or.left c.in-Or.right c.get-in-Or.result.now c.get-in-Or-2.result.now truth_or
    (λ o. truth_or_at o c.args.cond.now c.in-Or.left c.in-Or.right c.in-Or.is) c.get-in-Or.ensures c.get-in-Or-2.ensures
    (c.is_never_refused-in-Or.ensures p.0) (c.is_never_refused-in-Or-2.ensures p.1)

pub is_never_refused-returns-in-Table : goal.is_never_refused-returns-in-Table
is_never_refused-returns-in-Table g t c = λ yes.
    let h = c.never_refused_within.ensures yes in
    never_exists c.args.kinds.now c.args.inside.now c.args.cond.now c.in-Exists.operand c.get-in-Table.result.now c.in-Table.table h.0
    (λ o. truth_exists_at o c.args.cond.now c.in-Exists.operand c.in-Exists.range c.in-Exists.is
    ∙ ap (λ (r : Range). any_true (map (λ (row : List Value). truth (within o row) c.in-Exists.operand) (range_rows o r))) c.in-Table.is) c.get-in-Table.ensures h.1 h.2

pub never_refused_within-returns-in-Some : goal.never_refused_within-returns-in-Some
never_refused_within-returns-in-Some g t c = λ yes.
    let own = c.in-Some.known.kinds.now in
    let same : c.over.result ≡ within c.args.inside.now [] =
    c.over.ensures ∙ ap (λ (l : List (List Value)). record { ranges = l; frame = c.args.inside.now.frame; rows = c.args.inside.now.rows }) c.ranges_with-ranges.ensures in (
      own,
      c.in-Some.ensures,
      subst (λ (s : Scope). IsNeverRefused s (own ∷ c.args.kinds.now) c.args.cond.now) same
          (subst (λ (l : List (List Kind)). IsNeverRefused c.over.result l c.args.cond.now) c.new-more.ensures (c.is_never_refused.ensures yes)),
    )
