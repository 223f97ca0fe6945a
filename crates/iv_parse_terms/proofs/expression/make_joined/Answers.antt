use Rattle.std.specs.Prelude.{◌≡◌, Some, None, Option, max, refl}
use Rattle.std.proofs.Common.{◌+◌, sym, ◌∙◌, ap}
use Rattle.iv_parse_terms.specs.Types.{Expression, Sign}
use Rattle.iv_syntax.specs.Trees.{depth}
use Rattle.iv_parse_terms.specs.readers.Expressions.{joined}
use Rattle.iv_parse_terms.proofs.expression.make_joined.Goals as goal

joined_depth : (s : Option Sign) (a b : Expression) → depth (joined s a b) ≡ 1 + max (depth a) (depth b)
joined_depth None a b = refl
joined_depth (Some s) a b = refl

pub fit-requires : goal.fit-requires
fit-requires c =
    let l = c.into_parts-left in
    let r = c.into_parts-right in
    ap depth c.in_ok-tree.ensures
    ∙ (joined_depth c.args.sign l.result.0 r.result.0
    ∙ sym (ap (λ n. 1 + n) (c.max-below.ensures
    ∙ (ap (λ n. max n r.result.1) (l.ensures.depth ∙ ap depth (sym l.ensures.tree)) ∙ ap (max (depth l.result.0)) (r.ensures.depth ∙ ap depth (sym r.ensures.tree))))))
