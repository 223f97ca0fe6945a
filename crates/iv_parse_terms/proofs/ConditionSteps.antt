-- One step of each reader of conditions, as the code takes it.
use Rattle.std.proofs.Common.{◌≡◌, ◌≢◌, ℕ, ◌-◌, ◌+◌, List, Option, Some, None, refl, sym, ◌∙◌, ap, arith}
use Rattle.std.specs.Prelude.{zero, suc, max}
use Rattle.std.proofs.lemmas.Option.{none-some, same_Some}
use Rattle.iv_lex.specs.declared.kind.TokenKind.TheVariants as kind
use Rattle.iv_lex.specs.Words.{Word}
use Rattle.iv_parse_terms.specs.Types.{Sign, Expression, Condition, RangeName}
use Rattle.iv_parse_terms.specs.Items.{Item, Value, Truth}
use Rattle.iv_parse_terms.specs.declared.item.Connective.{Connective}
use Rattle.iv_parse_terms.specs.declared.item.Connective.TheVariants.{And, Or}
use Rattle.iv_syntax.specs.Trees.{negated, condition_depth}
use Rattle.iv_parse_terms.specs.After.{after, if_some, then_read}
use Rattle.iv_parse_terms.specs.readers.Expressions.{FoundExpression, after_sign, simple, signed_from, more_factors, more_terms, read_primary, read_factor, read_term}
use Rattle.iv_parse_terms.specs.readers.Conditions.{FoundItem, as_item, on_value, close_item, predicate_from, with_condition, exists_by, item_over, negate, after_truth, connection_from, condition_fits, connection, truth_alone, more_by, value_test, lead_factor, read_lead, read_test, read_negation, read_conjunction, read_item}

-- a value, its further factors, its further terms, its predicate
value_goes : (o : FoundExpression) (f : Expression → List Word → FoundItem) → then_read (as_item o) (on_value f) ≡ then_read o f
value_goes None f = refl
value_goes (Some p) f = refl

abbrev pub value_more : ℕ → Expression → List Word → FoundItem
value_more d a ws = then_read (more_terms d (read_term d) d a ws) (predicate_from d)

value_staged : (d : ℕ) (o : FoundExpression)
    → then_read (then_read (as_item o) (on_value (λ a rest. as_item (more_terms d (read_term d) d a rest)))) (on_value (predicate_from d)) ≡ then_read o (value_more d)
value_staged d None = refl
value_staged d (Some p) = value_goes (more_terms d (read_term d) d p.0 p.1) (predicate_from d)

pub value_step : (d : ℕ) (e : Expression) (ws : List Word) → value_test d e ws ≡ then_read (more_factors d (read_factor d) d e ws) (value_more d)
unfolding value_test
value_step d e ws = refl

pub connected_depth : (k : Connective) (a b : Condition) → condition_depth (connection k a b) ≡ 1 + max (condition_depth a) (condition_depth b)
connected_depth And a b = refl
connected_depth Or a b = refl

-- what is beside a condition
pub joined_value : (k : Connective) (d : ℕ) (a : Condition) (j : Item) (ws : List Word) → None ≡ truth_alone j ws → None ≡ connection_from k d (Truth a) j ws
joined_value k d a (Truth c) ws h = absurd (none-some (c, ws) h)
joined_value k d a (Value e) ws h = refl

pub truth_is : (i : Item) (a : Condition) (ws rest : List Word) → Some (a, rest) ≡ truth_alone i ws → Truth a ≡ i
truth_is (Truth c) a ws rest h = ap (λ (p : Condition × List Word). Truth p.0) (same_Some (a, rest) (c, ws) h)
truth_is (Value e) a ws rest h = absurd (none-some (a, rest) (sym h))

pub value_joined : (k : Connective) (d : ℕ) (i j : Item) (ws more : List Word) → None ≡ truth_alone i ws → None ≡ connection_from k d i j more
value_joined k d (Truth c) j ws more h = absurd (none-some (c, ws) h)
value_joined k d (Value e) j ws more h = refl

-- what is beside WHERE
pub where_truth : (r : RangeName) (i : Item) (a : Condition) (ws : List Word) → truth_alone i ws ≡ Some (a, ws) → with_condition r i ws ≡ Some ((r, Some a), ws)
where_truth r (Truth c) a ws h = ap (λ (p : Condition × List Word). Some ((r, Some p.0), p.1)) (same_Some (c, ws) (a, ws) h)
where_truth r (Value e) a ws h = absurd (none-some (a, ws) h)

pub where_value : (r : RangeName) (i : Item) (ws : List Word) → truth_alone i ws ≡ None → with_condition r i ws ≡ None
where_value r (Truth c) ws h = absurd (none-some (c, ws) (sym h))
where_value r (Value e) ws h = refl

-- what is beside NOT
pub negated_truth : (d : ℕ) (i : Item) (a : Condition) (ws : List Word) → truth_alone i ws ≡ Some (a, ws) → negate d i ws ≡ condition_fits d (negated a) ws
negated_truth d (Truth c) a ws h = ap (λ (p : Condition × List Word). condition_fits d (negated p.0) p.1) (same_Some (c, ws) (a, ws) h)
negated_truth d (Value e) a ws h = absurd (none-some (a, ws) h)

pub negated_value : (d : ℕ) (i : Item) (ws : List Word) → truth_alone i ws ≡ None → negate d i ws ≡ None
negated_value d (Truth c) ws h = absurd (none-some (c, ws) (sym h))
negated_value d (Value e) ws h = refl

pub lead_zero : (d : ℕ) (ws : List Word) → d ≡ 0 → read_lead d ws ≡ None
unfolding read_lead
lead_zero zero ws h = refl
lead_zero (suc d) ws h = absurd (omega (arith, h))

abbrev pub lead_opened : ℕ → List Word → FoundItem
lead_opened d ws = then_read (read_item (d - 1) ws) (close_item d)

abbrev pub lead_value : List Word → FoundItem
lead_value ws = as_item (simple ws)

abbrev pub lead_other : ℕ → List Word → FoundItem
lead_other d ws = if_some (after kind.Exists ws) (exists_by d (read_item (d - 1))) (lead_value ws)

pub lead_step : (d : ℕ) (ws : List Word) → d ≢ 0 → read_lead d ws ≡ if_some (after kind.LeftParenthesis ws) (lead_opened d) (lead_other d ws)
unfolding read_lead read_item read_conjunction read_negation read_test lead_factor
lead_step zero ws n = absurd (n refl)
lead_step (suc d) ws n =
    let e : suc d - 1 ≡ d = omega arith in
    ap (λ m. if_some (after kind.LeftParenthesis ws) (λ rest. then_read (read_item m rest) (close_item (suc d)))
    (if_some (after kind.Exists ws) (exists_by (suc d) (read_item m)) (as_item (simple ws)))) (sym e)

-- a factor with a sign, or what comes first otherwise
abbrev pub lead_signed : ℕ → Sign → List Word → FoundItem
lead_signed d s ws = as_item (signed_from d (read_primary d) s ws)

by_sign : (o : Option (Sign × List Word)) (f : Sign × List Word → FoundExpression) (g : FoundExpression) (h : FoundItem) → if_some o (λ p. as_item (if_some o f g)) h ≡ if_some o (λ p. as_item (f p)) h
by_sign None f g h = refl
by_sign (Some p) f g h = refl

pub lead_factor_step : (d : ℕ) (ws : List Word) → lead_factor d ws ≡ if_some (after_sign ws) (λ p. lead_signed d p.0 p.1) (read_lead d ws)
unfolding lead_factor
lead_factor_step d ws = by_sign (after_sign ws) (λ p. signed_from d (read_primary d) p.0 p.1) (read_primary d ws) (read_lead d ws)

pub staged : (d : ℕ) (o : FoundItem) → then_read o (on_value (value_test d))
    ≡ then_read (then_read (then_read o (on_value (λ e rest. as_item (more_factors d (read_factor d) d e rest)))) (on_value (λ e rest. as_item (more_terms d (read_term d) d e rest)))) (on_value (predicate_from d))
unfolding value_test
staged d None = refl
staged d (Some (Value e, ws)) = sym (value_staged d (more_factors d (read_factor d) d e ws))
staged d (Some (Truth c, ws)) = refl

pub test_is : (d : ℕ) (ws : List Word) → read_test d ws ≡ then_read (lead_factor d ws) (on_value (value_test d))
unfolding read_test
test_is d ws = refl

abbrev pub negated_test : ℕ → List Word → FoundItem
negated_test d ws = then_read (read_test d ws) (negate d)

pub negation_step : (d : ℕ) (ws : List Word) → read_negation d ws ≡ if_some (after kind.Not ws) (negated_test d) (read_test d ws)
unfolding read_negation
negation_step d ws = refl

pub conjunction_is : (d : ℕ) (ws : List Word) → read_conjunction d ws ≡ then_read (read_negation d ws) (more_by And d (read_negation d) d)
unfolding read_conjunction
conjunction_is d ws = refl

pub item_is : (d : ℕ) (ws : List Word) → read_item d ws ≡ then_read (read_conjunction d ws) (more_by Or d (read_conjunction d) d)
unfolding read_item
item_is d ws = refl

-- a further operand
abbrev pub operand_more : Connective → ℕ → (List Word → FoundItem) → ℕ → Item → List Word → FoundItem
operand_more k d F n i ws = then_read (F ws) (λ j more. then_read (connection_from k d i j more) (more_by k d F (n - 1)))

pub more_step : (k : Connective) (d : ℕ) (F : List Word → FoundItem) (n : ℕ) (i : Item) (ws : List Word) → n ≢ 0
    → more_by k d F n i ws ≡ if_some (after_truth k i ws) (operand_more k d F n i) (Some (i, ws))
more_step k d F zero i ws n = absurd (n refl)
more_step k d F (suc m) i ws n =
    let e : suc m - 1 ≡ m = omega arith in
    ap (λ q. if_some (after_truth k i ws) (λ r. then_read (F r) (λ j more. then_read (connection_from k d i j more) (more_by k d F q))) (Some (i, ws))) (sym e)

-- ---- the same steps, where it is known what is at the front

pub lead_simple : (d : ℕ) (ws : List Word) → d ≢ 0 → None ≡ after kind.LeftParenthesis ws → None ≡ after kind.Exists ws
    → as_item (simple ws) ≡ read_lead d ws
unfolding read_lead
lead_simple zero ws n g h = absurd (n refl)
lead_simple (suc d) ws n g h =
    ap (λ o. if_some o (exists_by (suc d) (item_over d (read_lead d))) (as_item (simple ws))) h
    ∙ ap (λ o. if_some o (λ r. then_read (item_over d (read_lead d) r) (close_item (suc d)))
    (if_some (after kind.Exists ws) (exists_by (suc d) (item_over d (read_lead d))) (as_item (simple ws)))) g

pub factor_signed : (d : ℕ) (ws : List Word) (p : Sign × List Word) → Some p ≡ after_sign ws → as_item (read_factor d ws) ≡ lead_factor d ws
unfolding lead_factor
factor_signed d ws p h = ap (λ o. if_some o (λ q. as_item (read_factor d ws)) (read_lead d ws)) h

pub factor_lead : (d : ℕ) (ws : List Word) → None ≡ after_sign ws → read_lead d ws ≡ lead_factor d ws
unfolding lead_factor
factor_lead d ws h = ap (λ o. if_some o (λ q. as_item (read_factor d ws)) (read_lead d ws)) h

pub negation_not : (d : ℕ) (ws rest : List Word) → Some rest ≡ after kind.Not ws → then_read (read_test d rest) (negate d) ≡ read_negation d ws
unfolding read_negation
negation_not d ws rest h = ap (λ o. if_some o (λ r. then_read (read_test d r) (negate d)) (read_test d ws)) h

pub negation_plain : (d : ℕ) (ws : List Word) → None ≡ after kind.Not ws → read_test d ws ≡ read_negation d ws
unfolding read_negation
negation_plain d ws h = ap (λ o. if_some o (λ r. then_read (read_test d r) (negate d)) (read_test d ws)) h

pub conjunction_step : (d : ℕ) (ws : List Word) → then_read (read_negation d ws) (more_by And d (read_negation d) d) ≡ read_conjunction d ws
unfolding read_conjunction
conjunction_step d ws = refl

pub item_step : (d : ℕ) (ws : List Word) → then_read (read_conjunction d ws) (more_by Or d (read_conjunction d) d) ≡ read_item d ws
unfolding read_item
item_step d ws = refl

pub test_step : (d : ℕ) (ws : List Word) → then_read (lead_factor d ws) (on_value (value_test d)) ≡ read_test d ws
unfolding read_test
test_step d ws = refl
