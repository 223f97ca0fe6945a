-- Trees of conditions in parts: what is written after each other is the text of the tree.
use Rattle.std.proofs.Common.{◌≡◌, ℕ, Bool, true, false, not, ◌&&◌, ◌||◌, List, ◌++◌, Ok, codes, sym, ◌∙◌, ap, refl, option_map, Option, Some, None}
use Rattle.iv_value.specs.declared.value.Value.{Value}
use Rattle.iv_expr.specs.declared.tree.Cond.{Cond}
use Rattle.iv_expr.specs.declared.tree.Cond.TheVariants as cond
use Rattle.iv_expr.specs.declared.tree.Expr.{Expr}
use Rattle.iv_expr.specs.declared.tree.Expr.TheVariants as expr
use Rattle.iv_expr.specs.declared.tree.Range.{Range}
use Rattle.iv_expr.proofs.Trees.{plus_is, minus_is, times_is, not_is, and_is, or_is, exists_is}
use Rattle.iv_catalogue.specs.declared.catalogue.Column.{Column}
use Rattle.iv_text.specs.Conditions.{condition_text, minus_text, enclosed_if, expression_text, is_below_and, is_below_not, is_both, is_either, is_negated, is_null_test, is_operation, is_product, is_signed, is_sum, not_text, null_operand}
use Rattle.iv_text.specs.Sinks.{SinkState}
use Rattle.iv_text.specs.Spelled.{spelled}
use Rattle.iv_text.specs.Writing.{Writes}
use Rattle.iv_text.specs.declared.condition.Shown.{Shown}
use Rattle.iv_text.specs.declared.format.Format.{Format}
use Rattle.iv_text.proofs.SpelledLemmas.{Written, three, two}

-- ---- which parts need parentheses

pub is_sum_plus : (h : Shown) (e a b : Expr) → e ≡ expr.Plus a b → is_sum h e ≡ true
is_sum_plus h e a b is = rw (is, plus_is) refl

pub is_sum_minus : (h : Shown) (e a b c d : Expr) (g : Bool) → e ≡ expr.Minus a b → c ≡ a → d ≡ b → g ≡ is_signed h c d → is_sum h e ≡ not g
is_sum_minus h e a b c d g is ca db gd = rw (is, minus_is, gd, ca, db) refl

pub is_product_times : (e a b : Expr) → e ≡ expr.Times a b → is_product e ≡ true
is_product_times e a b is = rw (is, times_is) refl

pub is_both_and : (c a b : Cond) → c ≡ cond.And a b → is_both c ≡ true
is_both_and c a b is = rw (is, and_is) refl

pub is_either_or : (c a b : Cond) → c ≡ cond.Or a b → is_either c ≡ true
is_either_or c a b is = rw (is, or_is) refl

pub is_negated_not : (e a c : Cond) (g : Bool) → e ≡ cond.Not a → c ≡ a → g ≡ is_null_test c → is_negated e ≡ not g
is_negated_not e a c g is ca gc = rw (is, not_is, gc, ca) refl

-- ---- texts

pub enclosed_told : (f : Format) (g : Bool) (text : List ℕ) (p q r s : SinkState) (x : Written) → g ≡ true
    → Writes p q (Ok tt) (spelled f (codes "(")) → Writes q r (Ok tt) (spelled f text) → Writes r s x (spelled f (codes ")"))
    → Writes p s x (spelled f (enclosed_if g text))
enclosed_told f g text p q r s x is u v w = three f p q r s x (codes "(") text (codes ")") (enclosed_if g text) (rw is refl) u v w

pub unsigned_told : (f : Format) (g : Bool) (text : List ℕ) (p q r : SinkState) (x : Written) → g ≡ false
    → Writes p q (Ok tt) (spelled f text) → Writes q r x (spelled f (codes " - ")) → Writes p r x (spelled f (minus_text g text))
unsigned_told f g text p q r x is u v = two f p q r x text (codes " - ") (minus_text g text) (rw is refl) u v

pub not_null_told : (f : Format) (h : Shown) (columns : List Column) (row : List Value) (found : Option Expr) (operand : Expr) (k : Bool) (text : List ℕ)
    (p q r : SinkState) (x : Written) → found ≡ Some operand
    → Writes p q (Ok tt) (spelled f (expression_text h columns row operand)) → Writes q r x (spelled f (codes " IS NOT NULL"))
    → Writes p r x (spelled f (not_text (option_map (expression_text h columns row) found) k text))
not_null_told f h columns row found operand k text p q r x is u v =
    two f p q r x (expression_text h columns row operand) (codes " IS NOT NULL") (not_text (option_map (expression_text h columns row) found) k text)
    (rw is refl) u v

pub denied_told : (f : Format) (h : Shown) (columns : List Column) (row : List Value) (found : Option Expr) (k : Bool) (text : List ℕ)
    (p q r : SinkState) (x : Written) → found ≡ None
    → Writes p q (Ok tt) (spelled f (codes "NOT ")) → Writes q r x (spelled f (enclosed_if k text))
    → Writes p r x (spelled f (not_text (option_map (expression_text h columns row) found) k text))
denied_told f h columns row found k text p q r x is u v =
    two f p q r x (codes "NOT ") (enclosed_if k text) (not_text (option_map (expression_text h columns row) found) k text) (rw is refl) u v

pub null_told : (f : Format) (h : Shown) (columns : List Column) (row : List Value) (e : Cond) (a : Expr) (p q r : SinkState) (x : Written)
    → e ≡ cond.IsNull a → Writes p q (Ok tt) (spelled f (expression_text h columns row a)) → Writes q r x (spelled f (codes " IS NULL"))
    → Writes p r x (spelled f (condition_text h columns row e))
null_told f h columns row e a p q r x is u v =
    two f p q r x (expression_text h columns row a) (codes " IS NULL") (condition_text h columns row e) (rw is refl) u v

pub plus_told : (f : Format) (h : Shown) (columns : List Column) (row : List Value) (g : Bool) (e a b c d : Expr) (p q r s : SinkState) (x : Written)
    → e ≡ expr.Plus a b → c ≡ a → d ≡ b → g ≡ is_sum h d
    → Writes p q (Ok tt) (spelled f (expression_text h columns row c)) → Writes q r (Ok tt) (spelled f (codes " + "))
    → Writes r s x (spelled f (enclosed_if g (expression_text h columns row d))) → Writes p s x (spelled f (expression_text h columns row e))
plus_told f h columns row g e a b c d p q r s x is ca db gd u v w =
    three f p q r s x _ (codes " + ") _ (expression_text h columns row e) (rw (is, plus_is, gd, ca, db) refl) u v w

pub minus_told : (f : Format) (h : Shown) (columns : List Column) (row : List Value) (g k : Bool) (e a b c d : Expr) (p q r : SinkState) (x : Written)
    → e ≡ expr.Minus a b → c ≡ a → d ≡ b → g ≡ is_signed h c d → k ≡ is_sum h d
    → Writes p q (Ok tt) (spelled f (minus_text g (expression_text h columns row c)))
    → Writes q r x (spelled f (enclosed_if k (expression_text h columns row d))) → Writes p r x (spelled f (expression_text h columns row e))
minus_told f h columns row g k e a b c d p q r x is ca db gd kd u v =
    two f p q r x _ _ (expression_text h columns row e) (rw (is, minus_is, gd, kd, ca, db) refl) u v

pub times_told : (f : Format) (h : Shown) (columns : List Column) (row : List Value) (g k : Bool) (e a b c d : Expr) (p q r s : SinkState) (x : Written)
    → e ≡ expr.Times a b → c ≡ a → d ≡ b → g ≡ is_sum h c → k ≡ is_operation h d
    → Writes p q (Ok tt) (spelled f (enclosed_if g (expression_text h columns row c))) → Writes q r (Ok tt) (spelled f (codes " * "))
    → Writes r s x (spelled f (enclosed_if k (expression_text h columns row d))) → Writes p s x (spelled f (expression_text h columns row e))
times_told f h columns row g k e a b c d p q r s x is ca db gc kd u v w =
    three f p q r s x _ (codes " * ") _ (expression_text h columns row e) (rw (is, times_is, gc, kd, ca, db) refl) u v w

pub not_told : (f : Format) (h : Shown) (columns : List Column) (row : List Value) (e a c : Cond) (p q : SinkState) (x : Written)
    → e ≡ cond.Not a → c ≡ a
    → Writes p q x (spelled f (not_text (option_map (expression_text h columns row) (null_operand c)) (is_below_not c) (condition_text h columns row c)))
    → Writes p q x (spelled f (condition_text h columns row e))
not_told f h columns row e a c p q x is ca w = rw (is, not_is, ← ca) w

pub and_told : (f : Format) (h : Shown) (columns : List Column) (row : List Value) (g k : Bool) (e a b c d : Cond) (p q r s : SinkState) (x : Written)
    → e ≡ cond.And a b → c ≡ a → d ≡ b → g ≡ is_either c → k ≡ is_below_and d
    → Writes p q (Ok tt) (spelled f (enclosed_if g (condition_text h columns row c))) → Writes q r (Ok tt) (spelled f (codes " AND "))
    → Writes r s x (spelled f (enclosed_if k (condition_text h columns row d))) → Writes p s x (spelled f (condition_text h columns row e))
and_told f h columns row g k e a b c d p q r s x is ca db gc kd u v w =
    three f p q r s x _ (codes " AND ") _ (condition_text h columns row e) (rw (is, and_is, gc, kd, ca, db) refl) u v w

pub or_told : (f : Format) (h : Shown) (columns : List Column) (row : List Value) (k : Bool) (e a b c d : Cond) (p q r s : SinkState) (x : Written)
    → e ≡ cond.Or a b → c ≡ a → d ≡ b → k ≡ is_either d
    → Writes p q (Ok tt) (spelled f (condition_text h columns row c)) → Writes q r (Ok tt) (spelled f (codes " OR "))
    → Writes r s x (spelled f (enclosed_if k (condition_text h columns row d))) → Writes p s x (spelled f (condition_text h columns row e))
or_told f h columns row k e a b c d p q r s x is ca db kd u v w =
    three f p q r s x _ (codes " OR ") _ (condition_text h columns row e) (rw (is, or_is, kd, ca, db) refl) u v w

pub exists_told : (h : Shown) (columns : List Column) (row : List Value) (r : Range) (e a : Cond) → e ≡ cond.Exists r a
    → condition_text h columns row e ≡ codes "EXISTS (..)"
exists_told h columns row r e a is = rw (is, exists_is) refl
