-- What the definitions say at the trees that code matches.
use Rattle.std.proofs.Common.{◌≡◌, refl, List, ◌∷◌, None}
use Rattle.std.specs.Option.{option_or}
use Rattle.iv_expr.specs.declared.tree.Comparison.{Comparison}
use Rattle.iv_syntax.specs.declared.tree.Sign.{Sign}
use Rattle.iv_syntax.specs.declared.tree.RangeName.{RangeName}
use Rattle.iv_syntax.specs.declared.tree.Expression.{Expression}
use Rattle.iv_syntax.specs.declared.tree.Expression.TheVariants as expression
use Rattle.iv_syntax.specs.declared.tree.Condition.{Condition}
use Rattle.iv_syntax.specs.declared.tree.Condition.TheVariants as condition
use Rattle.iv_syntax.proofs.TreeShapes.{group_is, signed_is, product_is, sum_is, enclosed_is, negated_is, both_is, either_is, exists_where_is}
use Rattle.iv_resolution.specs.Scopes.{NamedRange, Names, range_of}
use Rattle.iv_resolve_reasons.specs.Shapes.{operand_told, shape_in_expression, shape_in_comparison, shape_in_condition}

pub in_group : (ranges : List NamedRange) (e a : Expression) → e ≡ expression.Group a → shape_in_expression ranges e ≡ shape_in_expression ranges a
in_group ranges e a h = rw (h, group_is) refl

pub in_signed : (ranges : List NamedRange) (s : Sign) (e a : Expression) → e ≡ expression.Signed s a
    → shape_in_expression ranges e ≡ operand_told ranges a (shape_in_expression ranges a)
in_signed ranges s e a h = rw (h, signed_is) refl

pub in_product : (ranges : List NamedRange) (e a b : Expression) → e ≡ expression.Product a b
    → shape_in_expression ranges e ≡ option_or (operand_told ranges a (shape_in_expression ranges a)) (operand_told ranges b (shape_in_expression ranges b))
in_product ranges e a b h = rw (h, product_is) refl

pub in_sum : (ranges : List NamedRange) (s : Sign) (e a b : Expression) → e ≡ expression.Sum s a b
    → shape_in_expression ranges e ≡ option_or (operand_told ranges a (shape_in_expression ranges a)) (operand_told ranges b (shape_in_expression ranges b))
in_sum ranges s e a b h = rw (h, sum_is) refl

pub in_enclosed : (names : Names) (ranges : List NamedRange) (c a : Condition) → c ≡ condition.Group a → shape_in_condition names ranges c ≡ shape_in_condition names ranges a
unfolding shape_in_condition
in_enclosed names ranges c a h = rw (h, enclosed_is) refl

pub in_negated : (names : Names) (ranges : List NamedRange) (c a : Condition) → c ≡ condition.Not a → shape_in_condition names ranges c ≡ shape_in_condition names ranges a
unfolding shape_in_condition
in_negated names ranges c a h = rw (h, negated_is) refl

pub in_both : (names : Names) (ranges : List NamedRange) (c a b : Condition) → c ≡ condition.And a b
    → shape_in_condition names ranges c ≡ option_or (shape_in_condition names ranges a) (shape_in_condition names ranges b)
unfolding shape_in_condition
in_both names ranges c a b h = rw (h, both_is) refl

pub in_either : (names : Names) (ranges : List NamedRange) (c a b : Condition) → c ≡ condition.Or a b
    → shape_in_condition names ranges c ≡ option_or (shape_in_condition names ranges a) (shape_in_condition names ranges b)
unfolding shape_in_condition
in_either names ranges c a b h = rw (h, either_is) refl

pub in_exists_where : (names : Names) (ranges : List NamedRange) (r : RangeName) (c a : Condition) → c ≡ condition.ExistsWhere r a
    → shape_in_condition names ranges c ≡ shape_in_condition names (range_of names r ∷ ranges) a
unfolding shape_in_condition
in_exists_where names ranges r c a h = rw (h, exists_where_is) refl

pub in_comparison : (names : Names) (ranges : List NamedRange) (op : Comparison) (c : Condition) (a b : Expression) → c ≡ condition.Compare op a b
    → shape_in_condition names ranges c ≡ shape_in_comparison ranges a b
unfolding shape_in_condition
in_comparison names ranges op c a b h = rw h refl

pub in_is_null : (names : Names) (ranges : List NamedRange) (c : Condition) (a : Expression) → c ≡ condition.IsNull a → shape_in_condition names ranges c ≡ shape_in_expression ranges a
unfolding shape_in_condition
in_is_null names ranges c a h = rw h refl

pub in_is_not_null : (names : Names) (ranges : List NamedRange) (c : Condition) (a : Expression) → c ≡ condition.IsNotNull a → shape_in_condition names ranges c ≡ shape_in_expression ranges a
unfolding shape_in_condition
in_is_not_null names ranges c a h = rw h refl

pub in_exists : (names : Names) (ranges : List NamedRange) (r : RangeName) (c : Condition) → c ≡ condition.Exists r → shape_in_condition names ranges c ≡ None
unfolding shape_in_condition
in_exists names ranges r c h = rw h refl

pub ruleset in_expression_steps = (in_group, in_signed, in_product, in_sum)

pub ruleset in_condition_steps = (in_enclosed, in_negated, in_both, in_either, in_exists_where, in_comparison, in_is_null, in_is_not_null, in_exists)
