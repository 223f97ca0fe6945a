-- Trees in parts: what is written after each other is the tree.
use Rattle.std.proofs.Common.{◌≡◌, Bool, true, false, length, List, [], ◌∷◌, ◌++◌, Result, Ok, refl, sym, ◌∙◌, ap, subst, append_assoc}
use Rattle.std.specs.Prelude.{◌==◌}
use Rattle.std.specs.declared.alloc.AllocError.{AllocError}
use Rattle.iv_lex.specs.declared.kind.TokenKind.TheVariants as kind
use Rattle.iv_lex.specs.Words.{Word, plain}
use Rattle.iv_expr.specs.declared.tree.Comparison.{Comparison}
use Rattle.iv_syntax.specs.declared.tree.Sign.{Sign}
use Rattle.iv_syntax.specs.declared.tree.RangeName.{RangeName}
use Rattle.iv_syntax.specs.declared.tree.Expression.{Expression}
use Rattle.iv_syntax.specs.declared.tree.Expression.TheVariants as expression
use Rattle.iv_syntax.specs.declared.tree.Condition.{Condition}
use Rattle.iv_syntax.specs.declared.tree.Condition.TheVariants as condition
use Rattle.iv_syntax.proofs.TreeShapes.{group_is, signed_is, product_is, sum_is, enclosed_is, negated_is, both_is, either_is, exists_where_is}
use Rattle.iv_parse_terms.specs.Expressions.{spelling, sign_kind}
use Rattle.iv_parse_terms.specs.Conditions.{comparison_kind}
use Rattle.iv_write.specs.declared.writer.Writer.{Writer}
use Rattle.iv_write.specs.Types.{Referencing}
use Rattle.iv_write.specs.Parts.{sequence_words}
use Rattle.iv_write.specs.Triggers.{item_words, referencing_words}
use Rattle.iv_write.specs.Terms.{range_words, condition_words}
use Rattle.iv_write.specs.Writing.{Writes}
use Rattle.iv_write.proofs.WriteLemmas.{writes_then}

abbrev Answer : Type 0
Answer = Result (Unit {0}) AllocError

-- two to five writes, and what they write together
pub two : (p q r : Writer) (x : Answer) (a b all : List Word) → all ≡ a ++ b → Writes p q (Ok tt) a → Writes q r x b → Writes p r x all
two p q r x a b all e f g = subst (Writes p r x) (sym e) (writes_then p q r x a b f g)

pub three : (p q r s : Writer) (x : Answer) (a b c all : List Word) → all ≡ a ++ (b ++ c) → Writes p q (Ok tt) a → Writes q r (Ok tt) b → Writes r s x c → Writes p s x all
three p q r s x a b c all e f g h = two p q s x a (b ++ c) all e f (writes_then q r s x b c g h)

pub four : (p q r s t : Writer) (x : Answer) (a b c d all : List Word) → all ≡ a ++ (b ++ (c ++ d))
    → Writes p q (Ok tt) a → Writes q r (Ok tt) b → Writes r s (Ok tt) c → Writes s t x d → Writes p t x all
four p q r s t x a b c d all e i j k l = three p q r t x a b (c ++ d) all e i j (writes_then r s t x c d k l)

pub five : (p q r s t u : Writer) (x : Answer) (a b c d f all : List Word) → all ≡ a ++ (b ++ (c ++ (d ++ f)))
    → Writes p q (Ok tt) a → Writes q r (Ok tt) b → Writes r s (Ok tt) c → Writes s t (Ok tt) d → Writes t u x f → Writes p u x all
five p q r s t u x a b c d f all e i j k l m =
    three p q r u x a b (c ++ (d ++ f)) all e i j (three r s t u x c d f (c ++ (d ++ f)) refl k l m)

-- ---- expressions

pub group_written : (e a b : Expression) (p q r s : Writer) (x : Answer) → e ≡ expression.Group a → b ≡ a
    → Writes p q (Ok tt) (plain kind.LeftParenthesis ∷ []) → Writes q r (Ok tt) (spelling b) → Writes r s x (plain kind.RightParenthesis ∷ []) → Writes p s x (spelling e)
group_written e a b p q r s x h i =
    three p q r s x (plain kind.LeftParenthesis ∷ []) (spelling b) (plain kind.RightParenthesis ∷ []) (spelling e)
    (ap spelling (h ∙ group_is a) ∙ ap (λ z. plain kind.LeftParenthesis ∷ (spelling z ++ plain kind.RightParenthesis ∷ [])) (sym i))

pub signed_written : (g : Sign) (e a b : Expression) (p q r : Writer) (x : Answer) → e ≡ expression.Signed g a → b ≡ a
    → Writes p q (Ok tt) (plain (sign_kind g) ∷ []) → Writes q r x (spelling b) → Writes p r x (spelling e)
signed_written g e a b p q r x h i =
    two p q r x (plain (sign_kind g) ∷ []) (spelling b) (spelling e) (ap spelling (h ∙ signed_is g a) ∙ ap (λ z. plain (sign_kind g) ∷ spelling z) (sym i))

pub product_written : (e a b c d : Expression) (p q r s : Writer) (x : Answer) → e ≡ expression.Product a b → c ≡ a → d ≡ b
    → Writes p q (Ok tt) (spelling c) → Writes q r (Ok tt) (plain kind.Asterisk ∷ []) → Writes r s x (spelling d) → Writes p s x (spelling e)
product_written e a b c d p q r s x h i j =
    three p q r s x (spelling c) (plain kind.Asterisk ∷ []) (spelling d) (spelling e)
    (ap spelling (h ∙ product_is a b) ∙ ap (λ z. spelling z ++ plain kind.Asterisk ∷ spelling b) (sym i) ∙ ap (λ z. spelling c ++ plain kind.Asterisk ∷ spelling z) (sym j))

pub sum_written : (g : Sign) (e a b c d : Expression) (p q r s : Writer) (x : Answer) → e ≡ expression.Sum g a b → c ≡ a → d ≡ b
    → Writes p q (Ok tt) (spelling c) → Writes q r (Ok tt) (plain (sign_kind g) ∷ []) → Writes r s x (spelling d) → Writes p s x (spelling e)
sum_written g e a b c d p q r s x h i j =
    three p q r s x (spelling c) (plain (sign_kind g) ∷ []) (spelling d) (spelling e)
    (ap spelling (h ∙ sum_is g a b) ∙ ap (λ z. spelling z ++ plain (sign_kind g) ∷ spelling b) (sym i) ∙ ap (λ z. spelling c ++ plain (sign_kind g) ∷ spelling z) (sym j))

-- ---- conditions

pub compare_written : (o : Comparison) (a b : Expression) (e : Condition) (p q r s : Writer) (x : Answer) → e ≡ condition.Compare o a b
    → Writes p q (Ok tt) (spelling a) → Writes q r (Ok tt) (plain (comparison_kind o) ∷ []) → Writes r s x (spelling b) → Writes p s x (condition_words e)
compare_written o a b e p q r s x h = three p q r s x (spelling a) (plain (comparison_kind o) ∷ []) (spelling b) (condition_words e) (ap condition_words h)

pub null_written : (a : Expression) (e : Condition) (p q r : Writer) (x : Answer) → e ≡ condition.IsNull a
    → Writes p q (Ok tt) (spelling a) → Writes q r x (plain kind.Is ∷ plain kind.Null ∷ []) → Writes p r x (condition_words e)
null_written a e p q r x h = two p q r x (spelling a) (plain kind.Is ∷ plain kind.Null ∷ []) (condition_words e) (ap condition_words h)

pub not_null_written : (a : Expression) (e : Condition) (p q r : Writer) (x : Answer) → e ≡ condition.IsNotNull a
    → Writes p q (Ok tt) (spelling a) → Writes q r x (plain kind.Is ∷ plain kind.Not ∷ plain kind.Null ∷ []) → Writes p r x (condition_words e)
not_null_written a e p q r x h = two p q r x (spelling a) (plain kind.Is ∷ plain kind.Not ∷ plain kind.Null ∷ []) (condition_words e) (ap condition_words h)

abbrev exists_front : List Word
exists_front = plain kind.Exists ∷ plain kind.LeftParenthesis ∷ plain kind.Select ∷ plain kind.Asterisk ∷ []

pub exists_written : (g : RangeName) (e : Condition) (p q r s : Writer) (x : Answer) → e ≡ condition.Exists g
    → Writes p q (Ok tt) (plain kind.Exists ∷ plain kind.LeftParenthesis ∷ plain kind.Select ∷ plain kind.Asterisk ∷ []) → Writes q r (Ok tt) (range_words g)
    → Writes r s x (plain kind.RightParenthesis ∷ []) → Writes p s x (condition_words e)
exists_written g e p q r s x h = three p q r s x exists_front (range_words g) (plain kind.RightParenthesis ∷ []) (condition_words e) (ap condition_words h)

pub exists_where_written : (g : RangeName) (a b e : Condition) (p q r s t u : Writer) (x : Answer) → e ≡ condition.ExistsWhere g a → b ≡ a
    → Writes p q (Ok tt) (plain kind.Exists ∷ plain kind.LeftParenthesis ∷ plain kind.Select ∷ plain kind.Asterisk ∷ []) → Writes q r (Ok tt) (range_words g)
    → Writes r s (Ok tt) (plain kind.Where ∷ []) → Writes s t (Ok tt) (condition_words b) → Writes t u x (plain kind.RightParenthesis ∷ []) → Writes p u x (condition_words e)
exists_where_written g a b e p q r s t u x h i =
    five p q r s t u x exists_front (range_words g) (plain kind.Where ∷ []) (condition_words b) (plain kind.RightParenthesis ∷ []) (condition_words e)
    (ap condition_words (h ∙ exists_where_is g a)
    ∙ ap (λ z. exists_front ++ ((range_words g ++ plain kind.Where ∷ condition_words z) ++ plain kind.RightParenthesis ∷ [])) (sym i)
    ∙ ap (λ z. exists_front ++ z) (append_assoc (range_words g) (plain kind.Where ∷ condition_words b) (plain kind.RightParenthesis ∷ [])))

pub enclosed_written : (e a b : Condition) (p q r s : Writer) (x : Answer) → e ≡ condition.Group a → b ≡ a
    → Writes p q (Ok tt) (plain kind.LeftParenthesis ∷ []) → Writes q r (Ok tt) (condition_words b) → Writes r s x (plain kind.RightParenthesis ∷ []) → Writes p s x (condition_words e)
enclosed_written e a b p q r s x h i =
    three p q r s x (plain kind.LeftParenthesis ∷ []) (condition_words b) (plain kind.RightParenthesis ∷ []) (condition_words e)
    (ap condition_words (h ∙ enclosed_is a) ∙ ap (λ z. plain kind.LeftParenthesis ∷ (condition_words z ++ plain kind.RightParenthesis ∷ [])) (sym i))

pub negated_written : (e a b : Condition) (p q r : Writer) (x : Answer) → e ≡ condition.Not a → b ≡ a
    → Writes p q (Ok tt) (plain kind.Not ∷ []) → Writes q r x (condition_words b) → Writes p r x (condition_words e)
negated_written e a b p q r x h i =
    two p q r x (plain kind.Not ∷ []) (condition_words b) (condition_words e) (ap condition_words (h ∙ negated_is a) ∙ ap (λ z. plain kind.Not ∷ condition_words z) (sym i))

pub both_written : (e a b c d : Condition) (p q r s : Writer) (x : Answer) → e ≡ condition.And a b → c ≡ a → d ≡ b
    → Writes p q (Ok tt) (condition_words c) → Writes q r (Ok tt) (plain kind.And ∷ []) → Writes r s x (condition_words d) → Writes p s x (condition_words e)
both_written e a b c d p q r s x h i j =
    three p q r s x (condition_words c) (plain kind.And ∷ []) (condition_words d) (condition_words e)
    (ap condition_words (h ∙ both_is a b) ∙ ap (λ z. condition_words z ++ plain kind.And ∷ condition_words b) (sym i)
    ∙ ap (λ z. condition_words c ++ plain kind.And ∷ condition_words z) (sym j))

pub either_written : (e a b c d : Condition) (p q r s : Writer) (x : Answer) → e ≡ condition.Or a b → c ≡ a → d ≡ b
    → Writes p q (Ok tt) (condition_words c) → Writes q r (Ok tt) (plain kind.Or ∷ []) → Writes r s x (condition_words d) → Writes p s x (condition_words e)
either_written e a b c d p q r s x h i j =
    three p q r s x (condition_words c) (plain kind.Or ∷ []) (condition_words d) (condition_words e)
    (ap condition_words (h ∙ either_is a b) ∙ ap (λ z. condition_words z ++ plain kind.Or ∷ condition_words b) (sym i)
    ∙ ap (λ z. condition_words c ++ plain kind.Or ∷ condition_words z) (sym j))

-- ---- REFERENCING

pub referencing_is : (rs : List Referencing) (b : Bool) → b ≡ (length rs == 0) → b ≡ false → referencing_words rs ≡ plain kind.Referencing ∷ sequence_words item_words rs
referencing_is [] b e f = absurd (let g : true ≡ false = sym e ∙ f in cc)
referencing_is (r ∷ rs) b e f = refl
