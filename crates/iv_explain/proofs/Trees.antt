-- Expressions in parts: what is written after each other is the text of the tree.
use Rattle.std.proofs.Common.{◌≡◌, ℕ, List, ◌++◌, Ok, codes, sym, ◌∙◌, ap}
use Rattle.iv_syntax.specs.declared.tree.Sign.{Sign}
use Rattle.iv_syntax.specs.declared.tree.Expression.{Expression}
use Rattle.iv_syntax.specs.declared.tree.Expression.TheVariants as expression
use Rattle.iv_syntax.proofs.TreeShapes.{group_is, signed_is, product_is, sum_is}
use Rattle.iv_text.specs.Sinks.{SinkState}
use Rattle.iv_text.specs.Writing.{Writes}
use Rattle.iv_text.specs.declared.format.Format.{Format}
use Rattle.iv_explain.specs.Expressions.{expression_text, operator_text, sign_text}
use Rattle.iv_text.specs.Spelled.{spelled}
use Rattle.iv_text.proofs.SpelledLemmas.{Written, three, two}

pub group_told : (f : Format) (e a b : Expression) (p q r s : SinkState) (x : Written) → e ≡ expression.Group a → b ≡ a
    → Writes p q (Ok tt) (spelled f (codes "(")) → Writes q r (Ok tt) (spelled f (expression_text b)) → Writes r s x (spelled f (codes ")"))
    → Writes p s x (spelled f (expression_text e))
group_told f e a b p q r s x h i =
    three f p q r s x (codes "(") (expression_text b) (codes ")") (expression_text e)
    (ap expression_text (h ∙ group_is a) ∙ ap (λ z. codes "(" ++ (expression_text z ++ codes ")")) (sym i))

pub signed_told : (f : Format) (g : Sign) (e a b : Expression) (p q r : SinkState) (x : Written) → e ≡ expression.Signed g a → b ≡ a
    → Writes p q (Ok tt) (spelled f (sign_text g)) → Writes q r x (spelled f (expression_text b)) → Writes p r x (spelled f (expression_text e))
signed_told f g e a b p q r x h i =
    two f p q r x (sign_text g) (expression_text b) (expression_text e)
    (ap expression_text (h ∙ signed_is g a) ∙ ap (λ z. sign_text g ++ expression_text z) (sym i))

pub product_told : (f : Format) (e a b c d : Expression) (p q r s : SinkState) (x : Written) → e ≡ expression.Product a b → c ≡ a → d ≡ b
    → Writes p q (Ok tt) (spelled f (expression_text c)) → Writes q r (Ok tt) (spelled f (codes " * ")) → Writes r s x (spelled f (expression_text d))
    → Writes p s x (spelled f (expression_text e))
product_told f e a b c d p q r s x h i j =
    three f p q r s x (expression_text c) (codes " * ") (expression_text d) (expression_text e)
    (ap expression_text (h ∙ product_is a b) ∙ ap (λ z. expression_text z ++ (codes " * " ++ expression_text b)) (sym i)
    ∙ ap (λ z. expression_text c ++ (codes " * " ++ expression_text z)) (sym j))

pub sum_told : (f : Format) (g : Sign) (e a b c d : Expression) (p q r s : SinkState) (x : Written) → e ≡ expression.Sum g a b → c ≡ a → d ≡ b
    → Writes p q (Ok tt) (spelled f (expression_text c)) → Writes q r (Ok tt) (spelled f (operator_text g)) → Writes r s x (spelled f (expression_text d))
    → Writes p s x (spelled f (expression_text e))
sum_told f g e a b c d p q r s x h i j =
    three f p q r s x (expression_text c) (operator_text g) (expression_text d) (expression_text e)
    (ap expression_text (h ∙ sum_is g a b) ∙ ap (λ z. expression_text z ++ (operator_text g ++ expression_text b)) (sym i)
    ∙ ap (λ z. expression_text c ++ (operator_text g ++ expression_text z)) (sym j))
