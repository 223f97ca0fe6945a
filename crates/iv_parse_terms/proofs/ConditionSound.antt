-- What the reader finds of conditions, the grammar has.
use Rattle.std.specs.Prelude.{◌≡◌, ℕ, ◌≤◌, zero, suc, nat_le, Bool, true, false, if◌then◌else◌, Option, Some, None, List, [], ◌∷◌, ◌++◌, refl}
use Rattle.std.proofs.Common.{inl, inr, sym, ◌∙◌, ap, arith, append_assoc}
use Rattle.std.proofs.lemmas.Bool.{leb-true}
use Rattle.std.proofs.lemmas.Option.{none-some, same_Some}
use Rattle.iv_parse_terms.specs.Types.{Comparison, RangeName, Expression, Condition}
use Rattle.iv_parse_terms.specs.Types.comparison
use Rattle.iv_parse_terms.specs.Types.condition.{Compare, IsNull, IsNotNull, Exists}
use Rattle.iv_lex.specs.declared.kind.TokenKind.TheVariants as kind
use Rattle.iv_lex.specs.Words.{Word, name, plain}
use Rattle.iv_parse_terms.specs.Items.{Item, Value, Truth}
use Rattle.iv_parse_terms.specs.declared.item.Connective.{Connective}
use Rattle.iv_parse_terms.specs.declared.item.Connective.TheVariants.{And, Or}
use Rattle.iv_syntax.specs.Trees.{group, enclosed, negated, both, either, exists_where, condition_depth}
use Rattle.iv_parse_terms.specs.After.{after, after_name, then_read}
use Rattle.iv_parse_terms.specs.ItemDepth.{where_depth}
use Rattle.iv_parse_terms.specs.Expressions.{Rule, expression, term, factor, primary, spelling, Formed}
use Rattle.iv_parse_terms.specs.readers.Expressions.{FoundExpression, fits, after_sign, simple, more_factors, more_terms, read_factor, read_term, read_expression}
use Rattle.iv_parse_terms.specs.Conditions.{comparison_kind, AliasSpelled, exists_spelling, Spelled, ConditionRule, condition, conjunction, negation, test, ConditionFormed, IsFrom}
use Rattle.iv_parse_terms.specs.readers.Conditions.{FoundItem, as_item, condition_fits, on_value, enclose, close_item, after_comparison, null_test, comparison_from, predicate_from, alias_from, range_from, with_condition, where_from, from_by, exists_over, after_select, close_exists, exists_by, lead_by, lead_factor_by, value_test, test_by, negate, negation_by, connective_kind, connection, connection_from, more_by, chain_by, item_over, read_lead, lead_factor, read_test, read_negation, read_conjunction, read_item}
use Rattle.iv_parse_terms.proofs.Parts.{if_some_has, after_is, after_name_is}
use Rattle.iv_parse_terms.proofs.Sound.{Read, Good, fits_good, factor_primary, term_factor, expression_term, simple_good, more_factors_good, more_terms_good, factor_sound, term_sound, expression_sound}

-- the front of the words is a condition that is formed by the rule
pub record ReadCondition (r : ConditionRule) (d : ℕ) (ws : List Word) (c : Condition) (rest : List Word) : Type 0 where
  pub front : List Word
  pub formed : ConditionFormed r c
  pub spelled : Spelled c front
  pub shallow : condition_depth c ≤ d
  pub whole : ws ≡ front ++ rest

abbrev pub GoodItem : Rule → ConditionRule → ℕ → List Word → FoundItem → Type 0
GoodItem r s d ws None = Unit {0}
GoodItem r s d ws (Some (Value e, rest)) = Read r d ws e rest
GoodItem r s d ws (Some (Truth c, rest)) = ReadCondition s d ws c rest

abbrev pub ItemSound : Rule → ConditionRule → ℕ → (List Word → FoundItem) → Type 0
ItemSound r s d F = (ws : List Word) → GoodItem r s d ws (F ws)

pub as_item_good : (r : Rule) (s : ConditionRule) (d : ℕ) (ws : List Word) (o : FoundExpression) → Good r d ws o → GoodItem r s d ws (as_item o)
as_item_good r s d ws None h = tt
as_item_good r s d ws (Some p) h = h

pub item_then_good : (r q : Rule) (s t : ConditionRule) (d c : ℕ) (ws js : List Word) (o : FoundItem) (f : Item → List Word → FoundItem) → GoodItem r s d ws o
    → ((i : Item) (rest : List Word) → GoodItem r s d ws (Some (i, rest)) → GoodItem q t c js (f i rest)) → GoodItem q t c js (then_read o f)
item_then_good r q s t d c ws js None f h g = tt
item_then_good r q s t d c ws js (Some p) f h g = g p.0 p.1 h

pub found_then_good : (r q : Rule) (t : ConditionRule) (d c : ℕ) (ws js : List Word) (o : FoundExpression) (f : Expression → List Word → FoundItem) → Good r d ws o
    → ((e : Expression) (rest : List Word) → Read r d ws e rest → GoodItem q t c js (f e rest)) → GoodItem q t c js (then_read o f)
found_then_good r q t d c ws js None f h g = tt
found_then_good r q t d c ws js (Some p) f h g = g p.0 p.1 h

pub on_value_good : (r q : Rule) (s : ConditionRule) (d : ℕ) (ws : List Word) (f : Expression → List Word → FoundItem) (i : Item) (rest : List Word) → GoodItem r s d ws (Some (i, rest))
    → ((e : Expression) → Read r d ws e rest → GoodItem q s d ws (f e rest)) → GoodItem q s d ws (on_value f i rest)
on_value_good r q s d ws f (Value e) rest h g = g e h
on_value_good r q s d ws f (Truth c) rest h g = h

pub condition_test_good : (r : Rule) (s : ConditionRule) (d : ℕ) (ws : List Word) (c : Condition) (rest : List Word) (b : Bool) → (b ≡ true → ReadCondition s d ws c rest)
    → GoodItem r s d ws (if b then Some (Truth c, rest) else None)
condition_test_good r s d ws c rest true h = h refl
condition_test_good r s d ws c rest false h = tt

pub condition_fits_good : (r : Rule) (s : ConditionRule) (d : ℕ) (ws : List Word) (c : Condition) (rest front : List Word) → ConditionFormed s c → Spelled c front → ws ≡ front ++ rest
    → GoodItem r s d ws (condition_fits d c rest)
condition_fits_good r s d ws c rest front f p h =
    condition_test_good r s d ws c rest (nat_le (condition_depth c) d)
    (λ t. record { front = front; formed = f; spelled = p; shallow = leb-true (condition_depth c) d t; whole = h })

-- what a narrower rule has, a wider one has
pub negation_test : (c : Condition) → ConditionFormed test c → ConditionFormed negation c
negation_test (negated a) h = absurd h.0
negation_test (both a b) h = absurd h.0
negation_test (either a b) h = absurd h.0
negation_test (Compare o a b) h = h
negation_test (IsNull a) h = h
negation_test (IsNotNull a) h = h
negation_test (Exists r) h = h
negation_test (exists_where r a) h = h
negation_test (enclosed a) h = h

pub conjunction_negation : (c : Condition) → ConditionFormed negation c → ConditionFormed conjunction c
conjunction_negation (negated a) h = (tt, h.1)
conjunction_negation (both a b) h = absurd h.0
conjunction_negation (either a b) h = absurd h.0
conjunction_negation (Compare o a b) h = h
conjunction_negation (IsNull a) h = h
conjunction_negation (IsNotNull a) h = h
conjunction_negation (Exists r) h = h
conjunction_negation (exists_where r a) h = h
conjunction_negation (enclosed a) h = h

pub condition_conjunction : (c : Condition) → ConditionFormed conjunction c → ConditionFormed condition c
condition_conjunction (negated a) h = (tt, h.1)
condition_conjunction (both a b) h = (tt, h.1, h.2)
condition_conjunction (either a b) h = absurd h.0
condition_conjunction (Compare o a b) h = h
condition_conjunction (IsNull a) h = h
condition_conjunction (IsNotNull a) h = h
condition_conjunction (Exists r) h = h
condition_conjunction (exists_where r a) h = h
condition_conjunction (enclosed a) h = h

pub wider_value : (r q : Rule) (s : ConditionRule) (d : ℕ) (ws : List Word) (o : FoundItem) → ((e : Expression) → Formed r e → Formed q e) → GoodItem r s d ws o → GoodItem q s d ws o
wider_value r q s d ws None f h = tt
wider_value r q s d ws (Some (Value e, rest)) f h = record { formed = f e h.formed; shallow = h.shallow; front = h.front }
wider_value r q s d ws (Some (Truth c, rest)) f h = h

pub wider_truth : (r : Rule) (s t : ConditionRule) (d : ℕ) (ws : List Word) (o : FoundItem) → ((c : Condition) → ConditionFormed s c → ConditionFormed t c) → GoodItem r s d ws o → GoodItem r t d ws o
wider_truth r s t d ws None f h = tt
wider_truth r s t d ws (Some (Value e, rest)) f h = h
wider_truth r s t d ws (Some (Truth c, rest)) f h = record { front = h.front; formed = f c h.formed; spelled = h.spelled; shallow = h.shallow; whole = h.whole }

-- the first factor of a test
pub lead_factor_sound : (d : ℕ) (L : List Word → FoundItem) → ItemSound primary test d L → ItemSound factor test d (lead_factor_by d L)
lead_factor_sound d L h ws =
    if_some_has (GoodItem factor test d ws) (after_sign ws) (λ p. as_item (read_factor d ws)) (L ws)
    (λ p e. as_item_good factor test d ws (read_factor d ws) (factor_sound d ws))
    (λ _. wider_value primary factor test d ws (L ws) factor_primary (h ws))

pub after_comparison_is : (ws : List Word) (p : Comparison × List Word) → after_comparison ws ≡ Some p → ws ≡ plain (comparison_kind p.0) ∷ p.1
after_comparison_is (plain kind.Equals ∷ ws) p h = ap (λ (q : Comparison × List Word). plain (comparison_kind q.0) ∷ q.1) (same_Some (comparison.Equal, ws) p h)
after_comparison_is (plain kind.NotEquals ∷ ws) p h = ap (λ (q : Comparison × List Word). plain (comparison_kind q.0) ∷ q.1) (same_Some (comparison.NotEqual, ws) p h)
after_comparison_is (plain kind.Less ∷ ws) p h = ap (λ (q : Comparison × List Word). plain (comparison_kind q.0) ∷ q.1) (same_Some (comparison.Less, ws) p h)
after_comparison_is (plain kind.LessEquals ∷ ws) p h = ap (λ (q : Comparison × List Word). plain (comparison_kind q.0) ∷ q.1) (same_Some (comparison.LessEqual, ws) p h)
after_comparison_is (plain kind.Greater ∷ ws) p h = ap (λ (q : Comparison × List Word). plain (comparison_kind q.0) ∷ q.1) (same_Some (comparison.Greater, ws) p h)
after_comparison_is (plain kind.GreaterEquals ∷ ws) p h = ap (λ (q : Comparison × List Word). plain (comparison_kind q.0) ∷ q.1) (same_Some (comparison.GreaterEqual, ws) p h)
after_comparison_is [] p h = absurd (none-some p h)
after_comparison_is _ p h = absurd (none-some p h)

pub compared_good : (d : ℕ) (ws : List Word) (a : Expression) (rest : List Word) (p : Comparison × List Word) → Read expression d ws a rest → rest ≡ plain (comparison_kind p.0) ∷ p.1
    → GoodItem expression test d ws (comparison_from d p.0 a p.1)
compared_good d ws a rest p r e =
    found_then_good expression expression test d d p.1 ws (read_expression d p.1) (λ b. condition_fits d (Compare p.0 a b)) (expression_sound d p.1)
    (λ b more rb. condition_fits_good expression test d ws (Compare p.0 a b) more (spelling a ++ plain (comparison_kind p.0) ∷ spelling b) (r.formed, rb.formed) refl
    (r.front ∙ (ap (λ l. spelling a ++ l) (e ∙ ap (λ l. plain (comparison_kind p.0) ∷ l) rb.front) ∙ sym (append_assoc (spelling a) (plain (comparison_kind p.0) ∷ spelling b) more))))

pub null_test_good : (d : ℕ) (ws : List Word) (a : Expression) (rest js : List Word) → Read expression d ws a rest → rest ≡ plain kind.Is ∷ js → GoodItem expression test d ws (null_test d a js)
null_test_good d ws a rest js r e =
    if_some_has (GoodItem expression test d ws) (after kind.Not js) _ _
    (λ more h. if_some_has (GoodItem expression test d ws) (after kind.Null more) (condition_fits d (IsNotNull a)) None
    (λ left g. condition_fits_good expression test d ws (IsNotNull a) left (spelling a ++ plain kind.Is ∷ plain kind.Not ∷ plain kind.Null ∷ []) r.formed refl
    (r.front ∙ (ap (λ l. spelling a ++ l) (e ∙ (ap (λ l. plain kind.Is ∷ l) (after_is kind.Not js more h) ∙ ap (λ l. plain kind.Is ∷ plain kind.Not ∷ l) (after_is kind.Null more left g)))
    ∙ sym (append_assoc (spelling a) (plain kind.Is ∷ plain kind.Not ∷ plain kind.Null ∷ []) left))))
    (λ _. tt))
    (λ _. if_some_has (GoodItem expression test d ws) (after kind.Null js) (condition_fits d (IsNull a)) None
    (λ left g. condition_fits_good expression test d ws (IsNull a) left (spelling a ++ plain kind.Is ∷ plain kind.Null ∷ []) r.formed refl
    (r.front ∙ (ap (λ l. spelling a ++ l) (e ∙ ap (λ l. plain kind.Is ∷ l) (after_is kind.Null js left g))
    ∙ sym (append_assoc (spelling a) (plain kind.Is ∷ plain kind.Null ∷ []) left))))
    (λ _. tt))

pub tested_good : (d : ℕ) (ws : List Word) (a : Expression) (rest : List Word) → Read expression d ws a rest → GoodItem expression test d ws (predicate_from d a rest)
tested_good d ws a rest r =
    if_some_has (GoodItem expression test d ws) (after_comparison rest) _ _
    (λ p e. compared_good d ws a rest p r (after_comparison_is rest p e))
    (λ _. if_some_has (GoodItem expression test d ws) (after kind.Is rest) (null_test d a) (Some (Value a, rest))
    (λ js e. null_test_good d ws a rest js r (after_is kind.Is rest js e))
    (λ _. r))

value_good : (d : ℕ) (ws : List Word) (e : Expression) (rest : List Word) → Read factor d ws e rest → GoodItem expression test d ws (value_test d e rest)
unfolding value_test
value_good d ws e rest r =
    found_then_good term expression test d d ws ws (more_factors d (read_factor d) d e rest) (λ a more. then_read (more_terms d (read_term d) d a more) (predicate_from d))
    (more_factors_good d (read_factor d) (factor_sound d) d ws e rest (record { formed = term_factor e r.formed; shallow = r.shallow; front = r.front }))
    (λ a more q. found_then_good expression expression test d d ws ws (more_terms d (read_term d) d a more) (predicate_from d)
    (more_terms_good d (read_term d) (term_sound d) d ws a more (record { formed = expression_term a q.formed; shallow = q.shallow; front = q.front }))
    (λ b left s. tested_good d ws b left s))

pub test_sound : (d : ℕ) (L : List Word → FoundItem) → ItemSound factor test d L → ItemSound expression test d (test_by d L)
test_sound d L h ws = item_then_good factor expression test test d d ws ws (L ws) (on_value (value_test d)) (h ws)
    (λ i rest g. on_value_good factor expression test d ws (value_test d) i rest g (λ e r. value_good d ws e rest r))

pub negate_good : (d : ℕ) (all ws : List Word) (i : Item) (rest : List Word) → all ≡ plain kind.Not ∷ ws → GoodItem expression test d ws (Some (i, rest)) → GoodItem expression negation d all (negate d i rest)
negate_good d all ws (Value e) rest a h = tt
negate_good d all ws (Truth c) rest a h =
    condition_fits_good expression negation d all (negated c) rest (plain kind.Not ∷ h.front) (tt, h.formed) (h.front, h.spelled, refl) (a ∙ ap (λ l. plain kind.Not ∷ l) h.whole)

pub negation_sound : (d : ℕ) (T : List Word → FoundItem) → ItemSound expression test d T → ItemSound expression negation d (negation_by d T)
negation_sound d T h ws =
    if_some_has (GoodItem expression negation d ws) (after kind.Not ws) _ (T ws)
    (λ rest e. item_then_good expression expression test negation d d rest ws (T rest) (negate d) (h rest) (λ i more g. negate_good d ws rest i more (after_is kind.Not ws rest e) g))
    (λ _. wider_truth expression test negation d ws (T ws) negation_test (h ws))

-- the rules of AND and OR
abbrev pub operand_rule : Connective → ConditionRule
operand_rule And = negation
operand_rule Or = conjunction

abbrev pub chain_rule : Connective → ConditionRule
chain_rule And = conjunction
chain_rule Or = condition

pub chain_operand : (k : Connective) (c : Condition) → ConditionFormed (operand_rule k) c → ConditionFormed (chain_rule k) c
chain_operand And c h = conjunction_negation c h
chain_operand Or c h = condition_conjunction c h

pub connected_formed : (k : Connective) (a b : Condition) → ConditionFormed (chain_rule k) a → ConditionFormed (operand_rule k) b → ConditionFormed (chain_rule k) (connection k a b)
connected_formed And a b f g = (tt, f, g)
connected_formed Or a b f g = (tt, f, g)

pub connected_spelled : (k : Connective) (a b : Condition) (left right : List Word) → Spelled a left → Spelled b right → Spelled (connection k a b) (left ++ plain (connective_kind k) ∷ right)
connected_spelled And a b left right f g = (left, right, f, g, refl)
connected_spelled Or a b left right f g = (left, right, f, g, refl)

pub joined_good : (k : Connective) (d : ℕ) (all : List Word) (a : Condition) (ws rest : List Word) (j : Item) (more : List Word) → ReadCondition (chain_rule k) d all a ws
    → ws ≡ plain (connective_kind k) ∷ rest → GoodItem expression (operand_rule k) d rest (Some (j, more)) → GoodItem expression (chain_rule k) d all (connection_from k d (Truth a) j more)
joined_good k d all a ws rest (Value e) more r h g = tt
joined_good k d all a ws rest (Truth b) more r h g =
    condition_fits_good expression (chain_rule k) d all (connection k a b) more (r.front ++ plain (connective_kind k) ∷ g.front) (connected_formed k a b r.formed g.formed)
    (connected_spelled k a b r.front g.front r.spelled g.spelled)
    (r.whole ∙ (ap (λ l. r.front ++ l) (h ∙ ap (λ l. plain (connective_kind k) ∷ l) g.whole) ∙ sym (append_assoc r.front (plain (connective_kind k) ∷ g.front) more)))

pub more_good : (k : Connective) (d : ℕ) (F : List Word → FoundItem) → ItemSound expression (operand_rule k) d F → (n : ℕ) (all : List Word) (i : Item) (ws : List Word)
    → GoodItem expression (chain_rule k) d all (Some (i, ws)) → GoodItem expression (chain_rule k) d all (more_by k d F n i ws)
more_good k d F h zero all (Value e) ws r = r
more_good k d F h (suc n) all (Value e) ws r = r
more_good k d F h zero all (Truth a) ws r =
    if_some_has (GoodItem expression (chain_rule k) d all) (after (connective_kind k) ws) (λ rest. None) (Some (Truth a, ws)) (λ rest e. tt) (λ _. r)
more_good k d F h (suc n) all (Truth a) ws r =
    if_some_has (GoodItem expression (chain_rule k) d all) (after (connective_kind k) ws) _ (Some (Truth a, ws))
    (λ rest e. item_then_good expression expression (operand_rule k) (chain_rule k) d d rest all (F rest) (λ j more. then_read (connection_from k d (Truth a) j more) (more_by k d F n)) (h rest)
    (λ j more g. item_then_good expression expression (chain_rule k) (chain_rule k) d d all all (connection_from k d (Truth a) j more) (more_by k d F n)
    (joined_good k d all a ws rest j more r (after_is (connective_kind k) ws rest e) g)
    (λ i left q. more_good k d F h n all i left q)))
    (λ _. r)

pub chain_sound : (k : Connective) (d : ℕ) (F : List Word → FoundItem) → ItemSound expression (operand_rule k) d F → ItemSound expression (chain_rule k) d (chain_by k d F)
chain_sound k d F h ws = item_then_good expression expression (chain_rule k) (chain_rule k) d d ws ws (F ws) (more_by k d F d) (wider_truth expression (operand_rule k) (chain_rule k) d ws (F ws) (chain_operand k) (h ws))
    (λ i rest g. more_good k d F h d ws i rest g)

pub item_over_sound : (d : ℕ) (L : List Word → FoundItem) → ItemSound primary test d L → ItemSound expression condition d (item_over d L)
item_over_sound d L h =
    chain_sound Or d _ (chain_sound And d _ (negation_sound d _ (test_sound d _ (lead_factor_sound d L h))))

-- ranges
pub record ReadRange (ws : List Word) (r : RangeName) (rest : List Word) : Type 0 where
  pub alias : List Word
  pub spelled : AliasSpelled r.alias alias
  pub whole : ws ≡ name r.table ∷ (alias ++ rest)

pub record ReadAlias (ws : List Word) (a : Option (List ℕ)) (rest : List Word) : Type 0 where
  pub alias : List Word
  pub spelled : AliasSpelled a alias
  pub whole : ws ≡ alias ++ rest

abbrev pub GoodAlias : List Word → Option (Option (List ℕ) × List Word) → Type 0
GoodAlias ws None = Unit {0}
GoodAlias ws (Some p) = ReadAlias ws p.0 p.1

pub named_good : (ws rest : List Word) → ws ≡ plain kind.As ∷ rest → (o : Option (List ℕ × List Word)) → after_name rest ≡ o → GoodAlias ws (then_read o (λ n more. Some (Some n, more)))
named_good ws rest h None e = tt
named_good ws rest h (Some p) e =
    record { alias = plain kind.As ∷ name p.0 ∷ []; spelled = inr refl; whole = h ∙ ap (λ l. plain kind.As ∷ l) (after_name_is rest p e) }

pub alias_good : (ws : List Word) → GoodAlias ws (alias_from ws)
alias_good ws =
    if_some_has (GoodAlias ws) (after kind.As ws) _ _
    (λ rest e. named_good ws rest (after_is kind.As ws rest e) (after_name rest) refl)
    (λ _. if_some_has (GoodAlias ws) (after_name ws) (λ p. Some (Some p.0, p.1)) (Some (None, ws))
    (λ p e. record { alias = name p.0 ∷ []; spelled = inl refl; whole = after_name_is ws p e })
    (λ _. record { alias = []; spelled = refl; whole = refl }))

abbrev pub GoodRange : List Word → Option (RangeName × List Word) → Type 0
GoodRange ws None = Unit {0}
GoodRange ws (Some p) = ReadRange ws p.0 p.1

pub ranged_good : (ws rest : List Word) (t : List ℕ) → ws ≡ name t ∷ rest → (o : Option (Option (List ℕ) × List Word)) → GoodAlias rest o
    → GoodRange ws (then_read o (λ a more. Some (record { table = t; alias = a }, more)))
ranged_good ws rest t h None g = tt
ranged_good ws rest t h (Some p) g = record { alias = g.alias; spelled = g.spelled; whole = h ∙ ap (λ l. name t ∷ l) g.whole }

pub table_good : (ws : List Word) (o : Option (List ℕ × List Word)) → after_name ws ≡ o
    → GoodRange ws (then_read o (λ t rest. then_read (alias_from rest) (λ a more. Some (record { table = t; alias = a }, more))))
table_good ws None e = tt
table_good ws (Some p) e = ranged_good ws p.1 p.0 (after_name_is ws p e) (alias_from p.1) (alias_good p.1)

pub range_good : (ws : List Word) → GoodRange ws (range_from ws)
range_good ws = table_good ws (after_name ws) refl

-- the front of the words is a FROM
pub record ReadFrom (d : ℕ) (ws : List Word) (r : RangeName) (o : Option Condition) (rest : List Word) : Type 0 where
  pub front : List Word
  pub is_from : IsFrom front r o
  pub shallow : where_depth o ≤ d
  pub whole : ws ≡ front ++ rest

abbrev pub GoodFrom : ℕ → List Word → Option ((RangeName × Option Condition) × List Word) → Type 0
GoodFrom d ws None = Unit {0}
GoodFrom d ws (Some p) = ReadFrom d ws p.0.0 p.0.1 p.1

pub with_condition_good : (d : ℕ) (ws : List Word) (r : RangeName) (rest more : List Word) (i : Item) (left : List Word) (alias : List Word) → AliasSpelled r.alias alias
    → ws ≡ plain kind.From ∷ name r.table ∷ (alias ++ rest) → rest ≡ plain kind.Where ∷ more → GoodItem expression condition d more (Some (i, left)) → GoodFrom d ws (with_condition r i left)
with_condition_good d ws r rest more (Value e) left alias s h g q = tt
with_condition_good d ws r rest more (Truth c) left alias s h g q =
    record {
      front = plain kind.From ∷ name r.table ∷ (alias ++ plain kind.Where ∷ q.front);
      is_from = (plain kind.From ∷ name r.table ∷ alias, q.front, (alias, s, refl), record { formed = q.formed; spelled = q.spelled }, refl);
      shallow = q.shallow;
      whole = h ∙ (ap (λ l. plain kind.From ∷ name r.table ∷ (alias ++ l)) (g ∙ ap (λ l. plain kind.Where ∷ l) q.whole)
          ∙ ap (λ l. plain kind.From ∷ name r.table ∷ l) (sym (append_assoc alias (plain kind.Where ∷ q.front) left)));
    }

pub item_then_from : (d : ℕ) (ws js : List Word) (o : FoundItem) (f : Item → List Word → Option ((RangeName × Option Condition) × List Word)) → GoodItem expression condition d ws o
    → ((i : Item) (rest : List Word) → GoodItem expression condition d ws (Some (i, rest)) → GoodFrom d js (f i rest)) → GoodFrom d js (then_read o f)
item_then_from d ws js None f h g = tt
item_then_from d ws js (Some p) f h g = g p.0 p.1 h

pub where_good : (d : ℕ) (I : List Word → FoundItem) → ItemSound expression condition d I → (ws all : List Word) → all ≡ plain kind.From ∷ ws → (o : Option (RangeName × List Word)) → GoodRange ws o
    → GoodFrom d all (then_read o (where_from I))
where_good d I h ws all a None g = tt
where_good d I h ws all a (Some p) g =
    if_some_has (GoodFrom d all) (after kind.Where p.1) (λ rest. then_read (I rest) (with_condition p.0)) (Some ((p.0, None), p.1))
    (λ more e. item_then_from d more all (I more) (with_condition p.0) (h more)
    (λ i left q. with_condition_good d all p.0 p.1 more i left g.alias g.spelled (a ∙ ap (λ l. plain kind.From ∷ l) g.whole) (after_is kind.Where p.1 more e) q))
    (λ _. record {
      front = plain kind.From ∷ name p.0.table ∷ g.alias;
      is_from = (g.alias, g.spelled, refl);
      shallow = omega arith;
      whole = a ∙ ap (λ l. plain kind.From ∷ l) g.whole;
    })

pub from_by_sound : (d : ℕ) (I : List Word → FoundItem) → ItemSound expression condition d I → (ws : List Word) → GoodFrom d ws (from_by I ws)
from_by_sound d I h ws =
    if_some_has (GoodFrom d ws) (after kind.From ws) (λ rest. then_read (range_from rest) (where_from I)) None
    (λ rest e. where_good d I h rest ws (after_is kind.From ws rest e) (range_from rest) (range_good rest))
    (λ _. tt)

-- EXISTS
pub select_last : (ws b rest : List Word) → ws ≡ plain kind.LeftParenthesis ∷ plain kind.Select ∷ b → after kind.Asterisk b ≡ Some rest
    → ws ≡ plain kind.LeftParenthesis ∷ plain kind.Select ∷ plain kind.Asterisk ∷ rest
select_last ws b rest h e = h ∙ ap (λ l. plain kind.LeftParenthesis ∷ plain kind.Select ∷ l) (after_is kind.Asterisk b rest e)

pub after_select_is : (ws rest : List Word) → after_select ws ≡ Some rest → ws ≡ plain kind.LeftParenthesis ∷ plain kind.Select ∷ plain kind.Asterisk ∷ rest
after_select_is ws rest =
    if_some_has (λ o. o ≡ Some rest → ws ≡ plain kind.LeftParenthesis ∷ plain kind.Select ∷ plain kind.Asterisk ∷ rest) (after kind.LeftParenthesis ws) _ None
    (λ a e. if_some_has (λ o. o ≡ Some rest → ws ≡ plain kind.LeftParenthesis ∷ plain kind.Select ∷ plain kind.Asterisk ∷ rest) (after kind.Select a) (λ b. after kind.Asterisk b) None
    (λ b g h. select_last ws b rest (after_is kind.LeftParenthesis ws a e ∙ ap (λ l. plain kind.LeftParenthesis ∷ l) (after_is kind.Select a b g)) h)
    (λ _ h. absurd (none-some rest h)))
    (λ _ h. absurd (none-some rest h))

pub exists_formed : (r : RangeName) (o : Option Condition) (front : List Word) → IsFrom front r o → ConditionFormed test (exists_over (r, o))
exists_formed r None front h = tt
exists_formed r (Some c) front h = h.3.formed

pub exists_spelled : (r : RangeName) (o : Option Condition) (front : List Word) → IsFrom front r o → Spelled (exists_over (r, o)) (exists_spelling front)
exists_spelled r None front h = (front, h, refl)
exists_spelled r (Some c) front h = (h.0, h.1, h.2, h.3.spelled, ap exists_spelling h.4)

pub close_exists_good : (d : ℕ) (all ws : List Word) (r : RangeName) (o : Option Condition) (rest : List Word)
    → all ≡ plain kind.Exists ∷ plain kind.LeftParenthesis ∷ plain kind.Select ∷ plain kind.Asterisk ∷ ws → ReadFrom d ws r o rest
    → GoodItem primary test (suc d) all (close_exists (suc d) (r, o) rest)
close_exists_good d all ws r o rest a q =
    if_some_has (GoodItem primary test (suc d) all) (after kind.RightParenthesis rest) (condition_fits (suc d) (exists_over (r, o))) None
    (λ more e. condition_fits_good primary test (suc d) all (exists_over (r, o)) more (exists_spelling q.front) (exists_formed r o q.front q.is_from) (exists_spelled r o q.front q.is_from)
    (a ∙ ap (λ l. plain kind.Exists ∷ plain kind.LeftParenthesis ∷ plain kind.Select ∷ plain kind.Asterisk ∷ l)
    (q.whole ∙ (ap (λ l. q.front ++ l) (after_is kind.RightParenthesis rest more e) ∙ sym (append_assoc q.front (plain kind.RightParenthesis ∷ []) more)))))
    (λ _. tt)

pub from_then_exists : (d : ℕ) (all ws : List Word) → all ≡ plain kind.Exists ∷ plain kind.LeftParenthesis ∷ plain kind.Select ∷ plain kind.Asterisk ∷ ws
    → (o : Option ((RangeName × Option Condition) × List Word)) → GoodFrom d ws o → GoodItem primary test (suc d) all (then_read o (close_exists (suc d)))
from_then_exists d all ws a None g = tt
from_then_exists d all ws a (Some p) g = close_exists_good d all ws p.0.0 p.0.1 p.1 a g

pub exists_good : (d : ℕ) (I : List Word → FoundItem) → ItemSound expression condition d I → (all ws : List Word) → all ≡ plain kind.Exists ∷ ws → GoodItem primary test (suc d) all (exists_by (suc d) I ws)
exists_good d I h all ws a =
    if_some_has (GoodItem primary test (suc d) all) (after_select ws) (λ rest. then_read (from_by I rest) (close_exists (suc d))) None
    (λ rest e. from_then_exists d all rest (a ∙ ap (λ l. plain kind.Exists ∷ l) (after_select_is ws rest e)) (from_by I rest) (from_by_sound d I h rest))
    (λ _. tt)

-- parentheses
pub enclose_good : (d : ℕ) (all ws : List Word) (i : Item) (rest more : List Word) → all ≡ plain kind.LeftParenthesis ∷ ws → GoodItem expression condition d ws (Some (i, rest))
    → rest ≡ plain kind.RightParenthesis ∷ more → GoodItem primary test (suc d) all (enclose (suc d) i more)
enclose_good d all ws (Value e) rest more a h t =
    as_item_good primary test (suc d) all (fits (suc d) (group e) more)
    (fits_good primary (suc d) all (group e) more h.formed
    (a ∙ ap (λ l. plain kind.LeftParenthesis ∷ l) (h.front ∙ (ap (λ l. spelling e ++ l) t ∙ sym (append_assoc (spelling e) (plain kind.RightParenthesis ∷ []) more)))))
enclose_good d all ws (Truth c) rest more a h t =
    condition_fits_good primary test (suc d) all (enclosed c) more (plain kind.LeftParenthesis ∷ (h.front ++ plain kind.RightParenthesis ∷ [])) h.formed (h.front, h.spelled, refl)
    (a ∙ ap (λ l. plain kind.LeftParenthesis ∷ l) (h.whole ∙ (ap (λ l. h.front ++ l) t ∙ sym (append_assoc h.front (plain kind.RightParenthesis ∷ []) more))))

pub close_item_good : (d : ℕ) (all ws : List Word) (i : Item) (rest : List Word) → all ≡ plain kind.LeftParenthesis ∷ ws → GoodItem expression condition d ws (Some (i, rest))
    → GoodItem primary test (suc d) all (close_item (suc d) i rest)
close_item_good d all ws i rest a h =
    if_some_has (GoodItem primary test (suc d) all) (after kind.RightParenthesis rest) (enclose (suc d) i) None
    (λ more e. enclose_good d all ws i rest more a h (after_is kind.RightParenthesis rest more e))
    (λ _. tt)

pub lead_by_sound : (d : ℕ) (I : List Word → FoundItem) → ItemSound expression condition d I → ItemSound primary test (suc d) (lead_by (suc d) I)
lead_by_sound d I h ws =
    if_some_has (GoodItem primary test (suc d) ws) (after kind.LeftParenthesis ws) _ _
    (λ rest e. item_then_good expression primary condition test d (suc d) rest ws (I rest) (close_item (suc d)) (h rest)
    (λ i more g. close_item_good d ws rest i more (after_is kind.LeftParenthesis ws rest e) g))
    (λ _. if_some_has (GoodItem primary test (suc d) ws) (after kind.Exists ws) (exists_by (suc d) I) (as_item (simple ws))
    (λ rest e. exists_good d I h ws rest (after_is kind.Exists ws rest e))
    (λ _. as_item_good primary test (suc d) ws (simple ws) (simple_good d ws)))

pub lead_sound : (d : ℕ) → ItemSound primary test d (read_lead d)
unfolding read_lead
lead_sound zero ws = tt
lead_sound (suc d) ws = lead_by_sound d _ (item_over_sound d (read_lead d) (lead_sound d)) ws

pub item_sound : (d : ℕ) → ItemSound expression condition d (read_item d)
unfolding read_item read_conjunction read_negation read_test lead_factor
item_sound d = item_over_sound d (read_lead d) (lead_sound d)

pub from_sound : (d : ℕ) (ws : List Word) → GoodFrom d ws (from_by (read_item d) ws)
from_sound d ws = from_by_sound d (read_item d) (item_sound d) ws
