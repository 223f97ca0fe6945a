-- Columns and constraints that are written mean what there was.
use Rattle.std.proofs.Common.{◌≡◌, ℕ, suc, ◌≤◌, Bool, true, false, List, [], ◌∷◌, ◌∙◌, Option, Some, None, refl, sym, ap, map, option_map, slice_get, arith, min, pos, negsuc}
use Rattle.std.specs.Prelude.{unwrap_or, ◌-ℤ◌}
use Rattle.std.proofs.Math.IntN.{+ℤ_idl}
use Rattle.iv_syntax.specs.declared.limits.TheConstants.{GREATEST_INTEGER}
use Rattle.iv_restate.specs.Types.{Value, Kind, ConstraintMode, MatchType, ReferentialAction, Column, Table, ColumnConstraint, TableConstraint, TableRule, ForeignKey, Rule, Constraint}
use Rattle.iv_restate.specs.Types.value
use Rattle.iv_restate.specs.Types.kind
use Rattle.iv_restate.specs.Types.mode
use Rattle.iv_restate.specs.Types.matching
use Rattle.iv_restate.specs.Types.referential_action as action
use Rattle.iv_restate.specs.Types.table_rule
use Rattle.iv_restate.specs.Types.rule
use Rattle.iv_catalogue.specs.Catalogues.{Schema}
use Rattle.iv_resolution.specs.Types.plan
use Rattle.iv_resolution.specs.Types.schema.{AddConstraint}
use Rattle.iv_resolution.specs.Scopes.{NamedColumn, Names, number, place_of, type_of}
use Rattle.iv_resolution.specs.Terms.{integer_of, bound_condition}
use Rattle.iv_resolution.specs.Constraints.{Altered, Referenced, referenced, table_constraint, rule_of_table, name_at, places_of, is_deferrable, initial_mode}
use Rattle.iv_resolution.specs.Tables.{check_ranges, table_names, added_name}
use Rattle.iv_resolution.specs.Bound.{bound_kind, bound_default, bound_column_definition, bound_reference, bound_rule, bound_constraint, bound_addition, key_places}
use Rattle.iv_restate.specs.Laws.{IsColumn, IsCheckOver}
use Rattle.iv_restate.specs.Constraints.{time_of, names_at, columns_at, table_name_at, written_match, written_action, references_of, table_rule_of, table_constraint_of, with_rule, default_of, definition_of}
use Rattle.iv_restate.specs.TableLaws.{IsDefault, IsKind, AreColumns, Refers, IsRule, IsOwn, ColumnsAreThemselves, AdditionsAreThemselves}
use Rattle.iv_restate.specs.Trees.{check_of}
use Rattle.iv_restate.proofs.Unbound.{check_bound}

-- ---- columns

pub zero_minus : (n : ℕ) → pos 0 -ℤ pos (suc n) ≡ negsuc n
zero_minus n = +ℤ_idl (negsuc n)

kind_bound : (k : Kind) → IsKind k → bound_kind (type_of k) ≡ k
kind_bound kind.Integer h = refl
kind_bound (kind.Varchar n) h = let same : min n 65535 ≡ n = omega arith in ap kind.Varchar same

default_bound : (v : Value) → IsDefault v → bound_default (default_of v) ≡ v
unfolding integer_of
default_bound value.Null h = refl
default_bound (value.Text t) h = refl
default_bound (value.Int (pos n)) h = let same : min n GREATEST_INTEGER ≡ n = omega arith in ap (λ k. value.Int (pos k)) same
default_bound (value.Int (negsuc n)) h =
    let same : min (suc n) GREATEST_INTEGER ≡ suc n = omega arith in ap (λ k. value.Int (pos 0 -ℤ pos k)) same ∙ ap value.Int (zero_minus n)

pub columns_bound : ColumnsAreThemselves
columns_bound c constraints k d =
    ap (λ x. record { name = c.name; kind = x; default = bound_default (default_of c.default) }) (kind_bound c.kind k)
    ∙ ap (λ x. record { name = c.name; kind = c.kind; default = x }) (default_bound c.default d)

-- ---- characteristics

pub deferrable_bound : (d : Bool) (m : ConstraintMode) → is_deferrable (time_of d m) ≡ d
deferrable_bound true mode.Immediate = refl
deferrable_bound false mode.Immediate = refl
deferrable_bound d mode.Deferred = refl

pub mode_bound : (d : Bool) (m : ConstraintMode) → initial_mode (time_of d m) ≡ m
mode_bound true mode.Immediate = refl
mode_bound false mode.Immediate = refl
mode_bound d mode.Deferred = refl

match_bound : (m : MatchType) → unwrap_or (written_match m) matching.Simple ≡ m
match_bound matching.Simple = refl
match_bound matching.Full = refl

action_bound : (a : ReferentialAction) → unwrap_or (written_action a) action.NoAction ≡ a
action_bound action.NoAction = refl
action_bound action.Restrict = refl
action_bound action.Cascade = refl
action_bound action.SetNull = refl
action_bound action.SetDefault = refl

-- ---- names of columns

place_bound : (columns : List NamedColumn) (place : ℕ) → IsColumn columns place → place_of columns (name_at columns place) ≡ place
place_bound columns place h =
    let same : number place ≡ place = omega (arith, h.small) in
    ap (λ o. place_of columns (elim o as (λ _. List ℕ) [ Some c ↦ c.name | None ↦ [] ])) h.at
    ∙ ap (λ o. unwrap_or (option_map number o) 0) h.first
    ∙ same

places_bound : (columns : List NamedColumn) (places : List ℕ) → AreColumns columns places → places_of columns (names_at columns places) ≡ places
places_bound columns [] h = refl
places_bound columns (place ∷ places) (h, i) =
    ap (λ x. x ∷ places_of columns (names_at columns places)) (place_bound columns place h) ∙ ap (λ xs. place ∷ xs) (places_bound columns places i)

-- ---- rules

abbrev made : List ℕ → ℕ → List ℕ → MatchType → ReferentialAction → ReferentialAction → ForeignKey
made columns referenced key matching on_delete on_update =
    record { columns = columns; referenced = referenced; key = key; matching = matching; on_delete = on_delete; on_update = on_update }

pub reference_bound : (tables : List Table) (schema : Schema) (own : Altered) (k : ForeignKey) (ns : List (List ℕ)) → places_of own.columns ns ≡ k.columns
    → Refers tables schema own k → bound_reference own ns (references_of tables k) (referenced schema own (table_name_at tables k.referenced)) ≡ k
reference_bound tables schema own k ns h r =
    ap (bound_reference own ns (references_of tables k)) r.named
    ∙ ap (λ x. made x r.target.table (places_of r.target.columns (names_at (columns_at tables k.referenced) k.key)) (unwrap_or (written_match k.matching) matching.Simple) (unwrap_or (written_action k.on_delete) action.NoAction) (unwrap_or (written_action k.on_update) action.NoAction)) h
    ∙ ap (λ x. made k.columns x (places_of r.target.columns (names_at (columns_at tables k.referenced) k.key)) (unwrap_or (written_match k.matching) matching.Simple) (unwrap_or (written_action k.on_delete) action.NoAction) (unwrap_or (written_action k.on_update) action.NoAction)) r.table
    ∙ ap (λ x. made k.columns k.referenced x (unwrap_or (written_match k.matching) matching.Simple) (unwrap_or (written_action k.on_delete) action.NoAction) (unwrap_or (written_action k.on_update) action.NoAction))
    (ap (λ cs. places_of r.target.columns (names_at cs k.key)) (sym r.columns) ∙ places_bound r.target.columns k.key r.key)
    ∙ ap (λ x. made k.columns k.referenced k.key x (unwrap_or (written_action k.on_delete) action.NoAction) (unwrap_or (written_action k.on_update) action.NoAction)) (match_bound k.matching)
    ∙ ap (λ x. made k.columns k.referenced k.key k.matching x (unwrap_or (written_action k.on_update) action.NoAction)) (action_bound k.on_delete)
    ∙ ap (λ x. made k.columns k.referenced k.key k.matching k.on_delete x) (action_bound k.on_update)

rule_bound : (tables : List Table) (schema : Schema) (names : Names) (own : Altered) (r : Rule) (written : TableRule) → IsRule tables schema own r
    → table_rule_of tables own.columns r ≡ Some written → bound_rule schema names own (rule_of_table written) ≡ r
rule_bound tables schema names own (rule.NotNull place) written h e = absurd (none_is e) where
  none_is : ◌≡◌ {A = Option TableRule} None (Some written) → ⊥
  none_is e = cc
rule_bound tables schema names own (rule.Check c) written h e =
    ap (λ w. bound_rule schema names own (rule_of_table w)) (sym (some_is e)) ∙ ap rule.Check (check_bound own.columns c h names own.name) where
      some_is : ◌≡◌ {A = Option TableRule} (Some (table_rule.Check (check_of own.columns c))) (Some written) → table_rule.Check (check_of own.columns c) ≡ written
      some_is e = cc
rule_bound tables schema names own (rule.Unique nulls places) written h e =
    ap (λ w. bound_rule schema names own (rule_of_table w)) (sym (some_is e)) ∙ ap (rule.Unique nulls) (places_bound own.columns places h) where
      some_is : ◌≡◌ {A = Option TableRule} (Some (table_rule.Unique nulls (names_at own.columns places))) (Some written) → table_rule.Unique nulls (names_at own.columns places) ≡ written
      some_is e = cc
rule_bound tables schema names own (rule.PrimaryKey places) written h e =
    ap (λ w. bound_rule schema names own (rule_of_table w)) (sym (some_is e)) ∙ ap rule.PrimaryKey (places_bound own.columns places h) where
      some_is : ◌≡◌ {A = Option TableRule} (Some (table_rule.PrimaryKey (names_at own.columns places))) (Some written) → table_rule.PrimaryKey (names_at own.columns places) ≡ written
      some_is e = cc
rule_bound tables schema names own (rule.ForeignKey k) written (h, i) e =
    ap (λ w. bound_rule schema names own (rule_of_table w)) (sym (some_is e)) ∙ ap rule.ForeignKey (reference_bound tables schema own k (names_at own.columns k.columns) (places_bound own.columns k.columns h) i) where
      some_is : ◌≡◌ {A = Option TableRule} (Some (table_rule.ForeignKey (names_at own.columns k.columns) (references_of tables k))) (Some written)
          → table_rule.ForeignKey (names_at own.columns k.columns) (references_of tables k) ≡ written
      some_is e = cc

-- ---- constraints

pub constraint_bound : (tables : List Table) (schema : Schema) (names : Names) (own : Altered) (k : Constraint) (written : TableRule) → IsOwn tables schema own k
    → table_rule_of tables own.columns k.rule ≡ Some written
    → bound_constraint schema names own k.name (table_constraint (with_rule k written)) ≡ k
constraint_bound tables schema names own k written h e =
    ap (λ x. record { name = k.name; table = x; rule = bound_rule schema names own (rule_of_table written); deferrable = is_deferrable (time_of k.deferrable k.initially); initially = initial_mode (time_of k.deferrable k.initially) }) (sym h.table)
    ∙ ap (λ x. record { name = k.name; table = k.table; rule = x; deferrable = is_deferrable (time_of k.deferrable k.initially); initially = initial_mode (time_of k.deferrable k.initially) }) (rule_bound tables schema names own k.rule written h.rule e)
    ∙ ap (λ x. record { name = k.name; table = k.table; rule = k.rule; deferrable = x; initially = initial_mode (time_of k.deferrable k.initially) }) (deferrable_bound k.deferrable k.initially)
    ∙ ap (λ x. record { name = k.name; table = k.table; rule = k.rule; deferrable = k.deferrable; initially = x }) (mode_bound k.deferrable k.initially)

-- by the rule that is written, where there is one
addition_by : (tables : List Table) (schema : Schema) (own : Altered) (k : Constraint) (written : TableConstraint) → IsOwn tables schema own k
    → (o : Option TableRule) → table_rule_of tables own.columns k.rule ≡ o
    → ◌≡◌ {A = Option TableConstraint} (elim o as (λ _. Option TableConstraint) [ Some r ↦ Some (with_rule k r) | None ↦ None ]) (Some written)
    → added_name schema own (table_constraint written) ≡ k.name
    → bound_addition schema own (table_constraint written) ≡ plan.Schema (AddConstraint k)
addition_by tables schema own k written h (Some r) found same named =
    ap (λ name. plan.Schema (AddConstraint (bound_constraint schema (table_names schema) own name (table_constraint written)))) named
    ∙ ap (λ w. plan.Schema (AddConstraint (bound_constraint schema (table_names schema) own k.name (table_constraint w)))) (sym (some_is same))
    ∙ ap (λ x. plan.Schema (AddConstraint x)) (constraint_bound tables schema (table_names schema) own k r h found) where
      some_is : ◌≡◌ {A = Option TableConstraint} (Some (with_rule k r)) (Some written) → with_rule k r ≡ written
      some_is e = cc
addition_by tables schema own k written h None found same named = absurd (none_is same) where
  none_is : ◌≡◌ {A = Option TableConstraint} None (Some written) → ⊥
  none_is e = cc

pub additions_bound : AdditionsAreThemselves
additions_bound tables schema own k written h e named =
    addition_by tables schema own k written h (table_rule_of tables own.columns k.rule) refl
    (sym (ap (λ cs. elim (table_rule_of tables cs k.rule) as (λ _. Option TableConstraint) [ Some r ↦ Some (with_rule k r) | None ↦ None ]) h.columns) ∙ e) named
