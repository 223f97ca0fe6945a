-- What is told of an ALTER TABLE and of a CREATE TRIGGER, put together.
use Rattle.std.proofs.Common.{◌≡◌, refl, ap, ◌∙◌, ℕ, ◌+◌, Bool, true, false, ◌&&◌, List, length, Option, Some, None, is_some, option_map, nat_le}
use Rattle.std.specs.List.{enumerate_from}
use Rattle.std.specs.Option.{option_or}
use Rattle.iv_syntax.specs.declared.trigger.Referencing.{Referencing}
use Rattle.iv_syntax.specs.declared.trigger.TriggerAction.{TriggerAction}
use Rattle.iv_syntax.specs.declared.trigger.TriggerDefinition.{TriggerDefinition}
use Rattle.iv_catalogue.specs.Catalogues.{Schema}
use Rattle.iv_catalogue.specs.declared.limits.TheConstants.{MOST_CONSTRAINTS}
use Rattle.iv_resolution.specs.Constraints.{WrittenConstraint, constraints_of, Altered, Key, primary_key_of}
use Rattle.iv_resolution.specs.Scopes.{NamedRange}
use Rattle.iv_resolution.specs.Tables.{is_primary_rule}
use Rattle.iv_resolution.specs.Triggers.{trigger_variables}
use Rattle.iv_resolution.specs.Items.{Item, told_if, first_of}
use Rattle.iv_resolution.specs.NameFaults.{item_of_constraint}
use Rattle.iv_resolve_reasons.specs.SchemaFaults.{SchemaFault, second_primary_key, fault_of_constraint, fault_of_addition, fault_of_names, fault_of_item, fault_of_action, fault_of_set, fault_in_trigger}
use Rattle.iv_resolve_reasons.specs.Limits.{LimitFault, many_constraints, limit_of_key, limit_of_addition}

pub limit_by : (schema : Schema) (own : Altered) (k w : WrittenConstraint) (name : List ℕ) (count : ℕ) (item : Item) (told keyed whole : Option LimitFault)
    → whole ≡ option_or told keyed → w ≡ k → name ≡ own.name → count ≡ length (constraints_of schema own.table) → item ≡ item_of_constraint name (count + 1) w
    → told ≡ told_if (nat_le MOST_CONSTRAINTS count) (many_constraints name MOST_CONSTRAINTS (count + 1)) → keyed ≡ limit_of_key item w.rule
    → whole ≡ limit_of_addition schema own k
limit_by schema own k w name count item told keyed whole h kept named counted items t ke =
    h
    ∙ ap (λ (o : Option LimitFault). option_or o keyed) t
    ∙ ap (λ (o : Option LimitFault). option_or (told_if (nat_le MOST_CONSTRAINTS count) (many_constraints name MOST_CONSTRAINTS (count + 1))) o) (ke ∙ ap (λ (i : Item). limit_of_key i w.rule) items)
    ∙ ap (λ (x : WrittenConstraint). option_or (told_if (nat_le MOST_CONSTRAINTS count) (many_constraints name MOST_CONSTRAINTS (count + 1))) (limit_of_key (item_of_constraint name (count + 1) x) x.rule)) kept
    ∙ ap (λ (n : List ℕ). option_or (told_if (nat_le MOST_CONSTRAINTS count) (many_constraints n MOST_CONSTRAINTS (count + 1))) (limit_of_key (item_of_constraint n (count + 1) k) k.rule)) named
    ∙ ap (λ (c : ℕ). option_or (told_if (nat_le MOST_CONSTRAINTS c) (many_constraints own.name MOST_CONSTRAINTS (c + 1))) (limit_of_key (item_of_constraint own.name (c + 1) k) k.rule)) counted

pub mapped_some : {A B : Type 0} (f : A → B) (o : Option A) → is_some o ≡ is_some (option_map f o)
mapped_some f None = refl
mapped_some f (Some x) = refl

there_is : (o : Option Key) → is_some o ≡ elim o as (λ _. Bool) [ Some p ↦ true | None ↦ false ]
there_is None = refl
there_is (Some k) = refl

pub addition_by : (schema : Schema) (own : Altered) (k w : WrittenConstraint) (name : List ℕ) (count : ℕ) (key : Bool) (told rest whole : Option SchemaFault)
    → whole ≡ option_or told rest → w ≡ k → name ≡ own.name → count ≡ length (constraints_of schema own.table) → key ≡ is_some (primary_key_of own.keys)
    → told ≡ told_if (is_primary_rule w.rule && key) (second_primary_key (item_of_constraint name (count + 1) w)) → rest ≡ fault_of_constraint schema own (count + 1) w
    → whole ≡ fault_of_addition schema own k
addition_by schema own k w name count key told rest whole h kept named counted keyed t r =
    h
    ∙ ap (λ (o : Option SchemaFault). option_or o rest) t
    ∙ ap (λ (o : Option SchemaFault). option_or (told_if (is_primary_rule w.rule && key) (second_primary_key (item_of_constraint name (count + 1) w))) o) r
    ∙ ap (λ (x : WrittenConstraint). option_or (told_if (is_primary_rule x.rule && key) (second_primary_key (item_of_constraint name (count + 1) x))) (fault_of_constraint schema own (count + 1) x)) kept
    ∙ ap (λ (n : List ℕ). option_or (told_if (is_primary_rule k.rule && key) (second_primary_key (item_of_constraint n (count + 1) k))) (fault_of_constraint schema own (count + 1) k)) named
    ∙ ap (λ (c : ℕ). option_or (told_if (is_primary_rule k.rule && key) (second_primary_key (item_of_constraint own.name (c + 1) k))) (fault_of_constraint schema own (c + 1) k)) counted
    ∙ ap (λ (b : Bool). option_or (told_if (is_primary_rule k.rule && b) (second_primary_key (item_of_constraint own.name (length (constraints_of schema own.table) + 1) k)))
    (fault_of_constraint schema own (length (constraints_of schema own.table) + 1) k)) (keyed ∙ there_is (primary_key_of own.keys))

pub trigger_by : (schema : Schema) (t : TriggerDefinition) (body : List TriggerAction) (items : List Referencing) (variables : List NamedRange) (names its actions sets after_items after_names whole : Option SchemaFault)
    → whole ≡ option_or names after_names → after_names ≡ option_or its after_items → after_items ≡ option_or actions sets → body ≡ t.body → items ≡ t.referencing
    → variables ≡ trigger_variables schema t → names ≡ fault_of_names items → its ≡ first_of (fault_of_item t) items
    → actions ≡ first_of (λ (p : ℕ × TriggerAction). fault_of_action t p.0 p.1) (enumerate_from 1 body)
    → sets ≡ first_of (λ (p : ℕ × TriggerAction). fault_of_set variables p.0 p.1) (enumerate_from 1 body) → whole ≡ fault_in_trigger schema t
trigger_by schema t body items variables names its actions sets after_items after_names whole h g f b i v n s a e =
    h
    ∙ ap (λ (o : Option SchemaFault). option_or o after_names) (n ∙ ap (λ (x : List Referencing). fault_of_names x) i)
    ∙ ap (λ (o : Option SchemaFault). option_or (fault_of_names t.referencing) o)
    (g ∙ ap (λ (o : Option SchemaFault). option_or o after_items) (s ∙ ap (λ (x : List Referencing). first_of (fault_of_item t) x) i)
    ∙ ap (λ (o : Option SchemaFault). option_or (first_of (fault_of_item t) t.referencing) o)
    (f ∙ ap (λ (o : Option SchemaFault). option_or o sets) (a ∙ ap (λ (x : List TriggerAction). first_of (λ (p : ℕ × TriggerAction). fault_of_action t p.0 p.1) (enumerate_from 1 x)) b)
    ∙ ap (λ (o : Option SchemaFault). option_or (first_of (λ (p : ℕ × TriggerAction). fault_of_action t p.0 p.1) (enumerate_from 1 t.body)) o)
    (e ∙ ap (λ (x : List TriggerAction). first_of (λ (p : ℕ × TriggerAction). fault_of_set variables p.0 p.1) (enumerate_from 1 x)) b
    ∙ ap (λ (rs : List NamedRange). first_of (λ (p : ℕ × TriggerAction). fault_of_set rs p.0 p.1) (enumerate_from 1 t.body)) v)))
