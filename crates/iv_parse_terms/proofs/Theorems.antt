-- The theorems of the readers, in the form that statements use.
use Rattle.std.specs.Prelude.{◌≡◌, ◌≤◌, max, Option, Some, None, List, [], ◌++◌, refl}
use Rattle.std.proofs.Common.{sym, ◌∙◌, ap, subst, arith}
use Rattle.std.proofs.lemmas.Option.{none-some, same_Some}
use Rattle.iv_lex.specs.Words.{Word}
use Rattle.iv_parse_terms.specs.Types.{Expression, RangeName, Condition}
use Rattle.iv_syntax.specs.declared.limits.TheConstants.{DEEPEST_TREE}
use Rattle.iv_parse_terms.specs.Items.{Value, Truth}
use Rattle.iv_parse_terms.specs.After.{then_read}
use Rattle.iv_parse_terms.specs.ItemDepth.{where_depth}
use Rattle.iv_parse_terms.specs.Expressions.{IsExpression, EndsExpression, spelling, expression}
use Rattle.iv_syntax.specs.Trees.{depth, condition_depth}
use Rattle.iv_parse_terms.specs.readers.Expressions.{FoundExpression, read_expression}
use Rattle.iv_parse_terms.specs.Conditions.{IsCondition, IsFrom, EndsCondition, EndsFrom, condition}
use Rattle.iv_parse_terms.specs.readers.Conditions.{FoundItem, truth_alone, read_item, read_condition, read_from}
use Rattle.iv_parse_terms.proofs.Sound.{Good, expression_sound}
use Rattle.iv_parse_terms.proofs.Complete.{expression_whole}
use Rattle.iv_parse_terms.proofs.ConditionSound.{ReadCondition, GoodItem, item_sound, ReadFrom, GoodFrom, from_sound}
use Rattle.iv_parse_terms.proofs.ConditionComplete.{condition_whole, from_all_read, from_where_read}

-- an expression no deeper than DEEPEST_TREE is read whole, whatever follows that cannot go on with it
pub expression_complete : (words rest : List Word) (e : Expression) → IsExpression words e → depth e ≤ DEEPEST_TREE → EndsExpression rest
    → read_expression DEEPEST_TREE (words ++ rest) ≡ Some (e, rest)
expression_complete words rest e i h a = ap (λ l. read_expression DEEPEST_TREE (l ++ rest)) i.spelled ∙ expression_whole e i.formed DEEPEST_TREE h rest a

pub good_at : (words : List Word) (o : FoundExpression) → read_expression DEEPEST_TREE words ≡ o → Good expression DEEPEST_TREE words o
good_at words o h = subst (λ (f : FoundExpression). Good expression DEEPEST_TREE words f) h (expression_sound DEEPEST_TREE words)

-- what is read is at the front, is an expression of the grammar, and is no deeper than DEEPEST_TREE
pub expression_front : (words rest : List Word) (e : Expression) → read_expression DEEPEST_TREE words ≡ Some (e, rest)
    → (front : List Word) × IsExpression front e × (depth e ≤ DEEPEST_TREE) × (words ≡ front ++ rest)
expression_front words rest e h =
    let g = good_at words (Some (e, rest)) h in
    (spelling e, record { formed = g.formed; spelled = refl }, g.shallow, g.front)

-- a condition no deeper than DEEPEST_TREE is read whole, whatever follows that cannot go on with it
pub condition_complete : (words rest : List Word) (c : Condition) → IsCondition words c → condition_depth c ≤ DEEPEST_TREE → EndsCondition rest
    → read_condition DEEPEST_TREE (words ++ rest) ≡ Some (c, rest)
condition_complete words rest c i h a = ap (λ o. then_read o truth_alone) (condition_whole c i.formed words i.spelled DEEPEST_TREE h rest a)

pub truth_front : (words rest : List Word) (c : Condition) (o : FoundItem) → GoodItem expression condition DEEPEST_TREE words o → then_read o truth_alone ≡ Some (c, rest)
    → (front : List Word) × IsCondition front c × (condition_depth c ≤ DEEPEST_TREE) × (words ≡ front ++ rest)
truth_front words rest c None g h = absurd (none-some (c, rest) h)
truth_front words rest c (Some (Value e, left)) g h = absurd (none-some (c, rest) h)
truth_front words rest c (Some (Truth b, left)) g h =
    let r : ReadCondition condition DEEPEST_TREE words c rest = subst (λ (p : Condition × List Word). ReadCondition condition DEEPEST_TREE words p.0 p.1) (same_Some (b, left) (c, rest) h) g in
    (r.front, record { formed = r.formed; spelled = r.spelled }, r.shallow, r.whole)

-- what is read is at the front, is a condition of the grammar, and is no deeper than DEEPEST_TREE
pub condition_front : (words rest : List Word) (c : Condition) → read_condition DEEPEST_TREE words ≡ Some (c, rest)
    → (front : List Word) × IsCondition front c × (condition_depth c ≤ DEEPEST_TREE) × (words ≡ front ++ rest)
condition_front words rest c h = truth_front words rest c (read_item DEEPEST_TREE words) (item_sound DEEPEST_TREE words) h

-- a FROM whose condition is no deeper than DEEPEST_TREE is read whole, whatever follows that cannot go on with it
pub from_complete : (words rest : List Word) (r : RangeName) (o : Option Condition) → IsFrom words r o → where_depth o ≤ DEEPEST_TREE → EndsFrom rest
    → read_from DEEPEST_TREE (words ++ rest) ≡ Some ((r, o), rest)
from_complete words rest r None i h a = from_all_read (read_item DEEPEST_TREE) r words i rest a
from_complete words rest r (Some c) i h a =
    ap (λ l. read_from DEEPEST_TREE (l ++ rest)) i.4
    ∙ from_where_read (read_item DEEPEST_TREE) r c i.0 i.1 i.2 rest (condition_whole c i.3.formed i.1 i.3.spelled DEEPEST_TREE h rest a.0)

-- what is read is at the front, is a FROM of the grammar, and its condition is no deeper than DEEPEST_TREE
pub from_front : (words rest : List Word) (r : RangeName) (o : Option Condition) → read_from DEEPEST_TREE words ≡ Some ((r, o), rest)
    → (front : List Word) × IsFrom front r o × (where_depth o ≤ DEEPEST_TREE) × (words ≡ front ++ rest)
from_front words rest r o h =
    let g : ReadFrom DEEPEST_TREE words r o rest = subst (λ (f : Option ((RangeName × Option Condition) × List Word)). GoodFrom DEEPEST_TREE words f) h (from_sound DEEPEST_TREE words) in
    (g.front, g.is_from, g.shallow, g.whole)

-- words are at most one expression
pub one_expression : (words : List Word) (a b : Expression) → IsExpression words a → IsExpression words b → a ≡ b
one_expression words a b i j =
    let d = max (depth a) (depth b) in
    let left : read_expression d (words ++ []) ≡ Some (a, []) = ap (λ l. read_expression d (l ++ [])) i.spelled ∙ expression_whole a i.formed d (omega arith) [] ((refl, refl), refl, refl) in
    let right : read_expression d (words ++ []) ≡ Some (b, []) = ap (λ l. read_expression d (l ++ [])) j.spelled ∙ expression_whole b j.formed d (omega arith) [] ((refl, refl), refl, refl) in
    ap (λ (p : Expression × List Word). p.0) (same_Some (a, []) (b, []) (sym left ∙ right))

-- words are at most one condition
pub one_condition : (words : List Word) (a b : Condition) → IsCondition words a → IsCondition words b → a ≡ b
one_condition words a b i j =
    let d = max (condition_depth a) (condition_depth b) in
    let left = condition_whole a i.formed words i.spelled d (omega arith) [] ((((refl, refl), refl, refl), refl), refl) in
    let right = condition_whole b j.formed words j.spelled d (omega arith) [] ((((refl, refl), refl, refl), refl), refl) in
    ap (λ (p : Condition × List Word). p.0) (same_Some (a, []) (b, []) (ap (λ o. then_read o truth_alone) (sym left ∙ right)))
