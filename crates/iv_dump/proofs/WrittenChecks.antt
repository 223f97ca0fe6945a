-- The tree of a CHECK can be written if the names of the columns can.
use Rattle.std.proofs.Common.{◌≡◌, ℕ, zero, suc, ◌≤◌, Bool, true, false, ◌&&◌, ◌||◌, List, [], ◌∷◌, ◌++◌, Option, Some, None, refl, sym, subst, slice_get, option_map, pos, negsuc, if◌then◌else◌}
use Rattle.iv_syntax.specs.declared.limits.TheConstants.{GREATEST_INTEGER}
use Rattle.iv_syntax.specs.Trees.{group, signed, product, sum, enclosed, negated, both, either, exists_where}
use Rattle.iv_lex.specs.declared.kind.TokenKind.TheVariants as kind
use Rattle.iv_lex.specs.Words.{name, plain}
use Rattle.iv_parse_terms.specs.After.{is_plain}
use Rattle.iv_parse_terms.specs.Expressions.{spelling, sign_kind, qualifier_spelling}
use Rattle.iv_parse_terms.specs.Conditions.{Spelled, comparison_kind}
use Rattle.iv_write.specs.Spelling.{IsName, AreWritten}
use Rattle.iv_write.specs.Terms.{condition_words}
use Rattle.iv_write.proofs.Canonical.{joined, closed}
use Rattle.iv_expr.specs.Trees.{plus, minus, times, not_c, and_c, or_c, exists_c}
use Rattle.iv_resolution.specs.Scopes.{NamedColumn}
use Rattle.iv_restate.specs.Types.{Value, Comparison, Cond, Expr, Sign, Expression, Condition}
use Rattle.iv_restate.specs.Types.value
use Rattle.iv_restate.specs.Types.comparison
use Rattle.iv_restate.specs.Types.cond
use Rattle.iv_restate.specs.Types.expr
use Rattle.iv_restate.specs.Types.sign
use Rattle.iv_restate.specs.Types.expression
use Rattle.iv_restate.specs.Types.condition
use Rattle.iv_restate.specs.Parentheses.{as_term, takes_sign, is_sum, is_product, is_zero, is_either, is_both, is_negated, summed}
use Rattle.iv_restate.specs.Trees.{no_naming, check_range, check_of, literal_of, expression_of, condition_of, column_or_null, column_named}
use Rattle.iv_restate.specs.Laws.{IsLiteral, IsColumn, IsOver, IsCheckOver}
use Rattle.iv_dump.specs.Laws.{AreNames, ChecksCanBeWritten}
use Rattle.iv_restate.proofs.Forms.{condition_formed}

-- ---- trees whose parts can be written

abbrev Parts : Expression → Type 0
Parts (expression.Number n) = n ≤ GREATEST_INTEGER
Parts (expression.Text t) = Unit {0}
Parts expression.Null = Unit {0}
Parts (expression.Column c) = (c.qualifier ≡ None) × IsName c.name
Parts (group a) = Parts a
Parts (signed s a) = Parts a
Parts (product a b) = Parts a × Parts b
Parts (sum s a b) = Parts a × Parts b

abbrev TestParts : Condition → Type 0
TestParts (condition.Compare o a b) = Parts a × Parts b
TestParts (condition.IsNull a) = Parts a
TestParts (condition.IsNotNull a) = Parts a
TestParts (condition.Exists r) = ⊥
TestParts (exists_where r a) = ⊥
TestParts (enclosed a) = TestParts a
TestParts (negated a) = TestParts a
TestParts (both a b) = TestParts a × TestParts b
TestParts (either a b) = TestParts a × TestParts b

sign_plain : (s : Sign) → is_plain (sign_kind s) ≡ true
sign_plain sign.Plus = refl
sign_plain sign.Minus = refl

comparison_plain : (o : Comparison) → is_plain (comparison_kind o) ≡ true
comparison_plain comparison.Equal = refl
comparison_plain comparison.NotEqual = refl
comparison_plain comparison.Less = refl
comparison_plain comparison.LessEqual = refl
comparison_plain comparison.Greater = refl
comparison_plain comparison.GreaterEqual = refl

spelling_written : (e : Expression) → Parts e → AreWritten (spelling e)
spelling_written (expression.Number n) h = (h, tt {0})
spelling_written (expression.Text t) h = (tt {0}, tt {0})
spelling_written expression.Null h = (refl, tt {0})
spelling_written (expression.Column c) (q, h) = subst (λ o. AreWritten (qualifier_spelling o ++ name c.name ∷ [])) (sym q) (h, tt {0})
spelling_written (group a) h = (refl, closed (spelling a) (spelling_written a h))
spelling_written (signed s a) h = (sign_plain s, spelling_written a h)
spelling_written (product a b) (h, i) = joined (spelling a) (plain kind.Asterisk ∷ spelling b) (spelling_written a h) (refl, spelling_written b i)
spelling_written (sum s a b) (h, i) = joined (spelling a) (plain (sign_kind s) ∷ spelling b) (spelling_written a h) (sign_plain s, spelling_written b i)

condition_written : (c : Condition) → TestParts c → Spelled c (condition_words c) × AreWritten (condition_words c)
condition_written (condition.Compare o a b) (h, i) =
    (refl, joined (spelling a) (plain (comparison_kind o) ∷ spelling b) (spelling_written a h) (comparison_plain o, spelling_written b i))
condition_written (condition.IsNull a) h = (refl, joined (spelling a) (plain kind.Is ∷ plain kind.Null ∷ []) (spelling_written a h) (refl, (refl, tt {0})))
condition_written (condition.IsNotNull a) h =
    (refl, joined (spelling a) (plain kind.Is ∷ plain kind.Not ∷ plain kind.Null ∷ []) (spelling_written a h) (refl, (refl, (refl, tt {0}))))
condition_written (condition.Exists r) h = absurd h
condition_written (exists_where r a) h = absurd h
condition_written (enclosed a) h = let w = condition_written a h in ((condition_words a, w.0, refl), (refl, closed (condition_words a) w.1))
condition_written (negated a) h = let w = condition_written a h in ((condition_words a, w.0, refl), (refl, w.1))
condition_written (both a b) (h, i) =
    let v = condition_written a h in
    let w = condition_written b i in
    ((condition_words a, condition_words b, v.0, w.0, refl), joined (condition_words a) (plain kind.And ∷ condition_words b) v.1 (refl, w.1))
condition_written (either a b) (h, i) =
    let v = condition_written a h in
    let w = condition_written b i in
    ((condition_words a, condition_words b, v.0, w.0, refl), joined (condition_words a) (plain kind.Or ∷ condition_words b) v.1 (refl, w.1))

-- ---- the parts of a CHECK

grouped_parts : (e : Expression) (b : Bool) → Parts e → Parts (if b then group e else e)
grouped_parts e true h = h
grouped_parts e false h = h

enclosed_parts : (c : Condition) (b : Bool) → TestParts c → TestParts (if b then enclosed c else c)
enclosed_parts c true h = h
enclosed_parts c false h = h

difference_parts : (a b : Expression) (z : Bool) → Parts a → Parts b → Parts (if z then signed sign.Minus (as_term b) else summed sign.Minus a b)
difference_parts a b true h i = grouped_parts b (is_sum b) i
difference_parts a b false h i = (h, grouped_parts b (is_sum b) i)

literal_parts : (v : Value) → IsLiteral v → Parts (literal_of v)
literal_parts value.Null h = tt {0}
literal_parts (value.Text t) h = tt {0}
literal_parts (value.Int (pos n)) h = h
literal_parts (value.Int (negsuc n)) h = absurd h

name_found : (columns : List NamedColumn) (place : ℕ) (c : NamedColumn) → AreNames columns → slice_get columns place ≡ Some c → IsName c.name
name_found [] place c h e = absurd (none_is e) where
  none_is : ◌≡◌ {A = Option NamedColumn} None (Some c) → ⊥
  none_is e = cc
name_found (x ∷ columns) zero c (h, hs) e = subst (λ (y : NamedColumn). IsName y.name) (some_is e) h where
  some_is : ◌≡◌ {A = Option NamedColumn} (Some x) (Some c) → x ≡ c
  some_is e = cc
name_found (x ∷ columns) (suc place) c (h, hs) e = name_found columns place c hs e

column_parts : (columns : List NamedColumn) (outward place : ℕ) → AreNames columns → outward ≡ 0 → IsColumn columns place
    → Parts (column_or_null (column_named (check_range columns ∷ []) outward place))
column_parts columns outward place n o h =
    subst (λ i. Parts (column_or_null (column_named (check_range columns ∷ []) i place))) (sym o)
    (subst (λ x. Parts (column_or_null (option_map (λ (c : NamedColumn). record { qualifier = None; name = c.name }) x))) (sym h.at)
    (refl, name_found columns place h.column n h.at))

expression_parts : (columns : List NamedColumn) (e : Expr) → AreNames columns → IsOver columns e
    → Parts (expression_of no_naming (check_range columns ∷ []) e)
expression_parts columns (expr.Literal v) n h = literal_parts v h
expression_parts columns (expr.Column outward place) n (o, h) = column_parts columns outward place n o h
expression_parts columns (expr.Variable s place) n h = absurd h
expression_parts columns (plus a b) n (h, i) =
    (expression_parts columns a n h, grouped_parts (expression_of no_naming (check_range columns ∷ []) b) (is_sum (expression_of no_naming (check_range columns ∷ []) b)) (expression_parts columns b n i))
expression_parts columns (minus a b) n (h, i) =
    difference_parts (expression_of no_naming (check_range columns ∷ []) a) (expression_of no_naming (check_range columns ∷ []) b) (is_zero (expression_of no_naming (check_range columns ∷ []) a) && takes_sign (expression_of no_naming (check_range columns ∷ []) b)) (expression_parts columns a n h) (expression_parts columns b n i)
expression_parts columns (times a b) n (h, i) = (
  grouped_parts (expression_of no_naming (check_range columns ∷ []) a) (is_sum (expression_of no_naming (check_range columns ∷ []) a)) (expression_parts columns a n h),
  grouped_parts (expression_of no_naming (check_range columns ∷ []) b) (is_sum (expression_of no_naming (check_range columns ∷ []) b) || is_product (expression_of no_naming (check_range columns ∷ []) b)) (expression_parts columns b n i),
)

-- the parts of a NOT, by those of its part
not_parts : (columns : List NamedColumn) (a : Cond) → AreNames columns → IsCheckOver columns a → TestParts (check_of columns a) → TestParts (check_of columns (not_c a))
unfolding condition_of
not_parts columns (cond.IsNull e) n h p = expression_parts columns e n h
not_parts columns cond.Always n h p = absurd h
not_parts columns (cond.Compare op x y) n h p = enclosed_parts (check_of columns (cond.Compare op x y)) (is_either (check_of columns (cond.Compare op x y)) || (is_both (check_of columns (cond.Compare op x y)) || is_negated (check_of columns (cond.Compare op x y)))) p
not_parts columns (not_c x) n h p = enclosed_parts (check_of columns (not_c x)) (is_either (check_of columns (not_c x)) || (is_both (check_of columns (not_c x)) || is_negated (check_of columns (not_c x)))) p
not_parts columns (and_c x y) n h p = enclosed_parts (check_of columns (and_c x y)) (is_either (check_of columns (and_c x y)) || (is_both (check_of columns (and_c x y)) || is_negated (check_of columns (and_c x y)))) p
not_parts columns (or_c x y) n h p = enclosed_parts (check_of columns (or_c x y)) (is_either (check_of columns (or_c x y)) || (is_both (check_of columns (or_c x y)) || is_negated (check_of columns (or_c x y)))) p
not_parts columns (exists_c r x) n h p = absurd h

check_parts : (columns : List NamedColumn) (c : Cond) → AreNames columns → IsCheckOver columns c → TestParts (check_of columns c)
unfolding condition_of
check_parts columns cond.Always n h = absurd h
check_parts columns (cond.Compare op a b) n (h, i) = (expression_parts columns a n h, expression_parts columns b n i)
check_parts columns (cond.IsNull a) n h = expression_parts columns a n h
check_parts columns (not_c a) n h = not_parts columns a n h (check_parts columns a n h)
check_parts columns (and_c a b) n (h, i) =
    (enclosed_parts (check_of columns a) (is_either (check_of columns a)) (check_parts columns a n h), enclosed_parts (check_of columns b) (is_either (check_of columns b) || is_both (check_of columns b)) (check_parts columns b n i))
check_parts columns (or_c a b) n (h, i) = (check_parts columns a n h, enclosed_parts (check_of columns b) (is_either (check_of columns b)) (check_parts columns b n i))
check_parts columns (exists_c r a) n h = absurd h

pub check_written : ChecksCanBeWritten
check_written columns c h n shallow =
    let w = condition_written (check_of columns c) (check_parts columns c n h) in record {
      words = (condition_words (check_of columns c), record { formed = condition_formed no_naming (check_range columns ∷ []) c; spelled = w.0 }, w.1);
      shallow = shallow;
    }
