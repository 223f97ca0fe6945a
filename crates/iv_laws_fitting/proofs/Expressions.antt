-- An expression that has no name that names nothing, and no arithmetic on a text, has a sort: that of its tree as it is written.
use Rattle.std.proofs.Common.{◌≡◌, ◌≤◌, true, false, ◌||◌, List, ◌∙◌, Option, Some, None, is_none, refl, sym, ap, length}
use Rattle.std.proofs.lemmas.Bool.{or_parts}
use Rattle.iv_laws_fitting.specs.Types.{Expr}
use Rattle.iv_expr.specs.Suiting.{Sort, nulls, numbers, texts, Shape, sort_of, arithmetic_sort}
use Rattle.iv_syntax.specs.declared.table.ColumnType.{ColumnType}
use Rattle.iv_syntax.specs.declared.table.ColumnType.TheVariants as type
use Rattle.iv_syntax.specs.declared.tree.ColumnName.{ColumnName}
use Rattle.iv_syntax.specs.declared.tree.Sign.{Sign}
use Rattle.iv_syntax.specs.declared.tree.Sign.TheVariants as sign
use Rattle.iv_syntax.specs.declared.tree.Expression.{Expression}
use Rattle.iv_syntax.specs.declared.tree.Expression.TheVariants as expression
use Rattle.iv_syntax.specs.Trees.{group, signed, product, sum}
use Rattle.iv_resolution.specs.Scopes.{NamedRange, Found, column_meant}
use Rattle.iv_resolution.specs.Items.{column_item}
use Rattle.iv_resolution.specs.Terms.{unknown_column, misshaped_expression, is_integer, is_text, is_integer_type, is_text_type, is_integer_column, is_text_column, some_text, bound_column, bound_sum, bound_expression}
use Rattle.iv_resolution.specs.NameFaults.{unknown_in_expression}
use Rattle.iv_resolution.proofs.Told.{none_parts, untold}
use Rattle.iv_laws_fitting.proofs.ColumnKinds.{greatest, Matches, sort_of_type, column_sorted}

-- what a sort says of the tree as it is written
abbrev pub Agrees : List NamedRange → Expression → Sort → Type 0
Agrees ranges e nulls = Unit {0}
Agrees ranges e numbers = is_integer ranges e ≡ true
Agrees ranges e texts = is_text ranges e ≡ true

pub record Sorted (ranges : List NamedRange) (shape : Shape) (e : Expression) : Type 0 where
  pub sort : Sort
  pub is : sort_of shape (bound_expression ranges e) ≡ Some sort
  pub agrees : Agrees ranges e sort

sorted_column : (ranges : List NamedRange) (shape : Shape) → Matches ranges shape → length ranges ≤ greatest → (c : ColumnName)
    → (o : Option Found) → column_meant ranges c ≡ o → is_none o ≡ false → Sorted ranges shape (expression.Column c)
sorted_column ranges shape m l c None e h = cc
sorted_column ranges shape m l c (Some f) e h = by f.kind refl
  where
    there : sort_of shape (bound_expression ranges (expression.Column c)) ≡ Some (sort_of_type f.kind)
    there = ap (λ (o : Option Found). sort_of shape (bound_column o)) e ∙ column_sorted ranges shape m l c f e

    by : (t : ColumnType) → f.kind ≡ t → Sorted ranges shape (expression.Column c)
    by type.Integer k = record {
      sort = numbers;
      is = there ∙ ap (λ (t : ColumnType). Some (sort_of_type t)) k;
      agrees = ap is_integer_column e ∙ ap (λ (t : ColumnType). is_integer_type t) k;
    }
    by (type.Varchar n) k = record {
      sort = texts;
      is = there ∙ ap (λ (t : ColumnType). Some (sort_of_type t)) k;
      agrees = ap is_text_column e ∙ ap (λ (t : ColumnType). is_text_type t) k;
    }

-- arithmetic on what isn't a text has the sort of numbers
arithmetic_of : (s t : Sort) → (s ≡ texts → ⊥) → (t ≡ texts → ⊥) → arithmetic_sort (Some s) (Some t) ≡ Some numbers
arithmetic_of nulls nulls a b = refl
arithmetic_of nulls numbers a b = refl
arithmetic_of numbers nulls a b = refl
arithmetic_of numbers numbers a b = refl
arithmetic_of texts t a b = absurd (a refl)
arithmetic_of s texts a b = absurd (b refl)

no_text : (ranges : List NamedRange) (e : Expression) (s : Sort) → Agrees ranges e s → is_text ranges e ≡ false → s ≡ texts → ⊥
no_text ranges e nulls a h q = cc
no_text ranges e numbers a h q = cc
no_text ranges e texts a h q = let x : true ≡ false = sym a ∙ h in cc

arithmetic_sorted : (ranges : List NamedRange) (shape : Shape) (a b : Expression) → Sorted ranges shape a → Sorted ranges shape b → some_text ranges a b ≡ false
    → arithmetic_sort (sort_of shape (bound_expression ranges a)) (sort_of shape (bound_expression ranges b)) ≡ Some numbers
unfolding some_text
arithmetic_sorted ranges shape a b x y h =
    let parts = or_parts (is_text ranges a) (is_text ranges b) h in
    ap (λ (s : Option Sort). arithmetic_sort s (sort_of shape (bound_expression ranges b))) x.is
    ∙ ap (arithmetic_sort (Some x.sort)) y.is
    ∙ arithmetic_of x.sort y.sort (no_text ranges a x.sort x.agrees parts.0) (no_text ranges b y.sort y.agrees parts.1)

-- a plus sign leaves the operand as it is, which is no text
signed_sorted : (ranges : List NamedRange) (shape : Shape) (s : Sign) (a : Expression) → Sorted ranges shape a → is_text ranges a ≡ false → Sorted ranges shape (signed s a)
signed_sorted ranges shape sign.Minus a x h = record {
  sort = numbers;
  is = ap (arithmetic_sort (Some numbers)) x.is ∙ arithmetic_of numbers x.sort (λ q. cc) (no_text ranges a x.sort x.agrees h);
  agrees = refl;
}
signed_sorted ranges shape sign.Plus a x h = record { sort = x.sort; is = x.is; agrees = by x.sort x.agrees }
  where
    by : (s : Sort) → Agrees ranges a s → Agrees ranges (signed sign.Plus a) s
    by nulls g = tt
    by numbers g = refl
    by texts g = let q : true ≡ false = sym g ∙ h in cc

summed : (shape : Shape) (s : Sign) (a b : Expr) → sort_of shape (bound_sum s a b) ≡ arithmetic_sort (sort_of shape a) (sort_of shape b)
summed shape sign.Plus a b = refl
summed shape sign.Minus a b = refl

pub sorted : (ranges : List NamedRange) (shape : Shape) → Matches ranges shape → length ranges ≤ greatest
    → (e : Expression) → unknown_in_expression ranges e ≡ None → misshaped_expression ranges e ≡ false → Sorted ranges shape e
sorted ranges shape m l (expression.Number n) u w = record { sort = numbers; is = refl; agrees = refl }
sorted ranges shape m l (expression.Text t) u w = record { sort = texts; is = refl; agrees = refl }
sorted ranges shape m l expression.Null u w = record { sort = nulls; is = refl; agrees = tt }
sorted ranges shape m l (expression.Column c) u w = sorted_column ranges shape m l c (column_meant ranges c) refl (untold (unknown_column ranges c) (column_item c.qualifier c.name) u)
sorted ranges shape m l (group a) u w = let x = sorted ranges shape m l a u w in record { sort = x.sort; is = x.is; agrees = by x.sort x.agrees }
  where
    by : (s : Sort) → Agrees ranges a s → Agrees ranges (group a) s
    by nulls g = tt
    by numbers g = g
    by texts g = g
sorted ranges shape m l (signed s a) u w =
    let parts = or_parts (is_text ranges a) (misshaped_expression ranges a) w in
    signed_sorted ranges shape s a (sorted ranges shape m l a u parts.1) parts.0
sorted ranges shape m l (product a b) u w =
    let known = none_parts (unknown_in_expression ranges a) (unknown_in_expression ranges b) u in
    let parts = or_parts (some_text ranges a b) (misshaped_expression ranges a || misshaped_expression ranges b) w in
    let each = or_parts (misshaped_expression ranges a) (misshaped_expression ranges b) parts.1 in
    record {
      sort = numbers;
      is = arithmetic_sorted ranges shape a b (sorted ranges shape m l a known.0 each.0) (sorted ranges shape m l b known.1 each.1) parts.0;
      agrees = refl;
    }
sorted ranges shape m l (sum s a b) u w =
    let known = none_parts (unknown_in_expression ranges a) (unknown_in_expression ranges b) u in
    let parts = or_parts (some_text ranges a b) (misshaped_expression ranges a || misshaped_expression ranges b) w in
    let each = or_parts (misshaped_expression ranges a) (misshaped_expression ranges b) parts.1 in
    record {
      sort = numbers;
      is = summed shape s (bound_expression ranges a) (bound_expression ranges b)
          ∙ arithmetic_sorted ranges shape a b (sorted ranges shape m l a known.0 each.0) (sorted ranges shape m l b known.1 each.1) parts.0;
      agrees = refl;
    }
