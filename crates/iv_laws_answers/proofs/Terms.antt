-- Expressions and conditions whose words can be written have written parts.
use Rattle.std.proofs.Common.{◌≡◌, inl, inr, ℕ, true, ◌&&◌, Option, Some, None, List, [], ◌∷◌, ◌++◌, refl, subst, nat_le}
use Rattle.std.proofs.lemmas.Bool.{le-leb}
use Rattle.iv_lex.specs.declared.kind.TokenKind.TheVariants as kind
use Rattle.iv_lex.specs.Words.{Word, name, plain}
use Rattle.iv_syntax.specs.declared.limits.TheConstants.{DEEPEST_TREE}
use Rattle.iv_syntax.specs.Trees.{group, signed, product, sum, enclosed, negated, both, either, exists_where, depth, condition_depth}
use Rattle.iv_parse_terms.specs.Types.{RangeName, Expression, Condition}
use Rattle.iv_parse_terms.specs.Types.expression.{Number, Text, Null, Column}
use Rattle.iv_parse_terms.specs.Types.condition.{Compare, IsNull, IsNotNull, Exists}
use Rattle.iv_parse_terms.specs.Expressions.{sign_kind, qualifier_spelling, spelling}
use Rattle.iv_parse_terms.specs.Conditions.{comparison_kind, AliasSpelled, RangeSpelled, exists_spelling, Spelled}
use Rattle.iv_parse_data.specs.Data.{IsShallow, IsShallowCondition, IsShallowFrom, IsWhere}
use Rattle.iv_parse_data.specs.Series.{Maybe}
use Rattle.iv_resolution.specs.Writable.{is_name, is_name_or_none, has_written_parts, is_expression, is_range, has_written_terms, is_condition, is_filter}
use Rattle.iv_laws_answers.proofs.Names.{Written, front, back, join}
use Rattle.iv_laws_answers.proofs.Parts.{Passes}

-- ---- expressions

column_parts : (q : Option (List ℕ)) (n : List ℕ) → Written (qualifier_spelling q ++ name n ∷ []) → (is_name_or_none q && is_name n) ≡ true
column_parts None n w = w.0
column_parts (Some q) n w = join (is_name q) (is_name n) w.0 w.1.1.0

pub parts : (e : Expression) → Written (spelling e) → has_written_parts e ≡ true
parts (Number n) w = w.0
parts (Text t) w = refl
parts Null w = refl
parts (Column c) w = column_parts c.qualifier c.name w
parts (group a) w = parts a (front (spelling a) (plain kind.RightParenthesis ∷ []) w.1)
parts (signed s a) w = parts a w.1
parts (product a b) w =
    join (has_written_parts a) (has_written_parts b) (parts a (front (spelling a) (plain kind.Asterisk ∷ spelling b) w))
    (parts b (back (spelling a) (plain kind.Asterisk ∷ spelling b) w).1)
parts (sum s a b) w =
    join (has_written_parts a) (has_written_parts b) (parts a (front (spelling a) (plain (sign_kind s) ∷ spelling b) w))
    (parts b (back (spelling a) (plain (sign_kind s) ∷ spelling b) w).1)

pub shallow_passes : Passes IsShallow is_expression
shallow_passes ws e (x, d) w = join (nat_le (depth e) DEEPEST_TREE) _ (le-leb (depth e) DEEPEST_TREE d) (parts e (subst Written x.spelled w))

-- ---- conditions

alias_passes : (ws : List Word) (o : Option (List ℕ)) → AliasSpelled o ws → Written ws → is_name_or_none o ≡ true
alias_passes ws None p w = refl
alias_passes ws (Some a) (inl e) w = (subst Written e w).0
alias_passes ws (Some a) (inr e) w = (subst Written e w).1.0

range_passes : (ws : List Word) (r : RangeName) → RangeSpelled r ws → Written ws → is_range r ≡ true
range_passes ws r (alias, p, e) w =
    let v : Written (plain kind.From ∷ name r.table ∷ alias) = subst Written e w in
    join (is_name r.table) _ v.1.0 (alias_passes alias r.alias p v.1.1)

-- the words of a FROM inside EXISTS
inside : (from : List Word) → Written (exists_spelling from) → Written from
inside from w = front from (plain kind.RightParenthesis ∷ []) w.1.1.1.1

pub terms : (c : Condition) (ws : List Word) → Spelled c ws → Written ws → has_written_terms c ≡ true
terms (Compare o a b) ws e w =
    let v : Written (spelling a ++ plain (comparison_kind o) ∷ spelling b) = subst Written e w in
    join (has_written_parts a) (has_written_parts b) (parts a (front (spelling a) (plain (comparison_kind o) ∷ spelling b) v))
    (parts b (back (spelling a) (plain (comparison_kind o) ∷ spelling b) v).1)
terms (IsNull a) ws e w = parts a (front (spelling a) (plain kind.Is ∷ plain kind.Null ∷ []) (subst Written e w))
terms (IsNotNull a) ws e w = parts a (front (spelling a) (plain kind.Is ∷ plain kind.Not ∷ plain kind.Null ∷ []) (subst Written e w))
terms (Exists r) ws (from, p, e) w = range_passes from r p (inside from (subst Written e w))
terms (exists_where r a) ws (from, inner, p, q, e) w =
    let v : Written (from ++ plain kind.Where ∷ inner) = inside (from ++ plain kind.Where ∷ inner) (subst Written e w) in
    join (is_range r) (has_written_terms a) (range_passes from r p (front from (plain kind.Where ∷ inner) v))
    (terms a inner q (back from (plain kind.Where ∷ inner) v).1)
terms (enclosed a) ws (inner, p, e) w = terms a inner p (front inner (plain kind.RightParenthesis ∷ []) (subst Written e w).1)
terms (negated a) ws (inner, p, e) w = terms a inner p (subst Written e w).1
terms (both a b) ws (left, right, p, q, e) w =
    let v : Written (left ++ plain kind.And ∷ right) = subst Written e w in
    join (has_written_terms a) (has_written_terms b) (terms a left p (front left (plain kind.And ∷ right) v))
    (terms b right q (back left (plain kind.And ∷ right) v).1)
terms (either a b) ws (left, right, p, q, e) w =
    let v : Written (left ++ plain kind.Or ∷ right) = subst Written e w in
    join (has_written_terms a) (has_written_terms b) (terms a left p (front left (plain kind.Or ∷ right) v))
    (terms b right q (back left (plain kind.Or ∷ right) v).1)

pub condition_passes : Passes IsShallowCondition is_condition
condition_passes ws c (x, d) w = join (nat_le (condition_depth c) DEEPEST_TREE) _ (le-leb (condition_depth c) DEEPEST_TREE d) (terms c ws x.spelled w)

-- ---- FROM and WHERE

pub from_passes : (ws : List Word) (r : RangeName) (o : Option Condition) → IsShallowFrom ws (r, o) → Written ws → (is_range r && is_filter o) ≡ true
from_passes ws r None (p, d) w = join (is_range r) _ (range_passes ws r p w) refl
from_passes ws r (Some c) ((from, inner, p, q, e), d) w =
    let v : Written (from ++ plain kind.Where ∷ inner) = subst Written e w in
    join (is_range r) _ (range_passes from r p (front from (plain kind.Where ∷ inner) v))
    (condition_passes inner c (q, d) (back from (plain kind.Where ∷ inner) v).1)

pub filter_passes : Passes (Maybe IsWhere) is_filter
filter_passes ws None e w = refl
filter_passes ws (Some c) (inner, p, e) w = condition_passes inner c p (subst Written e w).1
