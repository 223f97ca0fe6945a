-- What suits the tables suits them with one more.
use Rattle.std.proofs.Common.{◌≡◌, ℕ, zero, suc, ◌+◌, nat_lt, true, false, ◌&&◌, List, [], ◌∷◌, ◌++◌, ◌∙◌, Option, Some, None, is_some, refl, sym, ap, length, slice_get, option_map, arith}
use Rattle.std.proofs.lemmas.Bool.{and_from, and_parts}
use Rattle.std.specs.List.{list_all}
use Rattle.std.proofs.lemmas.Bool.Decides.{nat_tests}
use Rattle.iv_laws_fitting.specs.Types.{Kind, Granularity, TriggerEvent, Range, Expr, Table, Constraint, Rule, BodyStatement, DataStatement, InsertRows, Outputs, Setting, Trigger}
use Rattle.iv_laws_fitting.specs.Types.kind
use Rattle.iv_laws_fitting.specs.Types.range
use Rattle.iv_laws_fitting.specs.Types.rule
use Rattle.iv_laws_fitting.specs.Types.body
use Rattle.iv_laws_fitting.specs.Types.data_statement.{Insert, Update, Delete}
use Rattle.iv_laws_fitting.specs.Types.insert_rows as rows
use Rattle.iv_laws_fitting.specs.Types.outputs
use Rattle.iv_expr.specs.declared.tree.Side.{Side}
use Rattle.iv_expr.specs.declared.tree.Side.TheVariants as side
use Rattle.iv_expr.specs.declared.tree.Expr.TheVariants as expr
use Rattle.iv_expr.specs.declared.tree.Cond.{Cond}
use Rattle.iv_expr.specs.declared.tree.Cond.TheVariants as cond
use Rattle.iv_expr.specs.Trees.{plus, minus, times, not_c, and_c, or_c, exists_c}
use Rattle.iv_expr.specs.Suiting.{Sort, nulls, numbers, texts, Shape, shape_within, range_kinds, variable_kinds, sort_of_kind, column_sort, arithmetic_sort, sort_of, comparable, suits}
use Rattle.iv_laws_fitting.specs.ConstraintShapes.{pairs_suit, rule_suits, constraint_suits}
use Rattle.iv_laws_fitting.specs.PlanShapes.{kinds_of, table_kinds, is_there, is_range_there, sort_suits, value_suits, values_suit, target_kinds, outputs_suit, rows_suit, setting_suits, data_suits, trigger_shape, action_suits, trigger_suits}
use Rattle.iv_laws_fitting.proofs.Pointwise.{all_at, all_by}

-- ---- a table that is there keeps its place

pub still_there : {X : Type 0} (xs : List X) (x : X) (place : ℕ) (y : X) → slice_get xs place ≡ Some y → slice_get (xs ++ x ∷ []) place ≡ Some y
still_there [] x place y h = cc
still_there (z ∷ zs) x zero y h = h
still_there (z ∷ zs) x (suc n) y h = still_there zs x n y h

element_at : {X : Type 0} (xs : List X) (place : ℕ) → nat_lt place (length xs) ≡ true → (x : X) × (slice_get xs place ≡ Some x)
element_at [] place h = let n : nat_lt place 0 ≡ false = grind (arith, nat_tests) in let e : true ≡ false = sym h ∙ n in cc
element_at (x ∷ xs) zero h = (x, refl)
element_at (x ∷ xs) (suc n) h = element_at xs n (grind (arith, nat_tests))

longer : {X : Type 0} (xs : List X) (x : X) → length (xs ++ x ∷ []) ≡ length xs + 1
longer [] x = omega arith
longer (y ∷ ys) x = let l = longer ys x in omega arith

pub there_still : (tables : List Table) (new : Table) (place : ℕ) → is_there tables place ≡ true → is_there (tables ++ new ∷ []) place ≡ true
there_still tables new place h = let l = longer tables new in grind (arith, nat_tests)

pub same_kinds : (tables : List Table) (new : Table) (place : ℕ) → is_there tables place ≡ true → table_kinds (tables ++ new ∷ []) place ≡ table_kinds tables place
same_kinds tables new place h =
    let t = element_at tables place h in
    ap (λ (o : Option Table). elim o as (λ x. List Kind) [ Some x ↦ kinds_of x | None ↦ [] ]) (still_there tables new place t.0 t.1 ∙ sym t.1)

-- ---- a shape with more tables

-- lists of kinds that are the same, but if the first has no column
pub data KindsWider (few many : List Kind) : Type 0 where
  same : many ≡ few → KindsWider few many
  none : few ≡ [] → KindsWider few many

abbrev pub RangesWider : List (List Kind) → List (List Kind) → Type 0
RangesWider [] [] = Unit {0}
RangesWider (k ∷ ks) (l ∷ ls) = KindsWider k l × RangesWider ks ls
RangesWider _ _ = ⊥

pub record Wider (few many : Shape) : Type 0 where
  pub ranges : RangesWider few.ranges many.ranges
  pub variables : (s : Side) → variable_kinds many s ≡ variable_kinds few s
  pub transition : many.transition ≡ few.transition
  pub tables : (t : ℕ) → KindsWider (few.tables t) (many.tables t)

no_column : (c : ℕ) (s : Sort) (P : Type 0) → option_map sort_of_kind (slice_get [] c) ≡ Some s → P
no_column c s P h = cc

column_wider : (ks ls : List (List Kind)) → RangesWider ks ls → (i c : ℕ) (s : Sort) → column_sort (slice_get ks i) c ≡ Some s → column_sort (slice_get ls i) c ≡ Some s
column_wider [] [] w i c s h = cc
column_wider [] (l ∷ ls) w i c s h = absurd w
column_wider (k ∷ ks) [] w i c s h = absurd w
column_wider (k ∷ ks) (l ∷ ls) w zero c s h = by w.0
  where
    by : KindsWider k l → option_map sort_of_kind (slice_get l c) ≡ Some s
    by (same e) = ap (λ (x : List Kind). option_map sort_of_kind (slice_get x c)) e ∙ h
    by (none e) = no_column c s (option_map sort_of_kind (slice_get l c) ≡ Some s) (sym (ap (λ (x : List Kind). option_map sort_of_kind (slice_get x c)) e) ∙ h)
column_wider (k ∷ ks) (l ∷ ls) w (suc i) c s h = column_wider ks ls w.1 i c s h

-- both operands of arithmetic have sorts
both_sorted : (x y : Option Sort) (s : Sort) → arithmetic_sort x y ≡ Some s → (a : Sort) × (b : Sort) × (x ≡ Some a) × (y ≡ Some b)
both_sorted None y s h = cc
both_sorted (Some nulls) None s h = cc
both_sorted (Some numbers) None s h = cc
both_sorted (Some texts) y s h = cc
both_sorted (Some nulls) (Some b) s h = (nulls, b, refl, refl)
both_sorted (Some numbers) (Some b) s h = (numbers, b, refl, refl)

pub sort_wider : (few many : Shape) → Wider few many → (e : Expr) (s : Sort) → sort_of few e ≡ Some s → sort_of many e ≡ Some s
sort_wider few many w (expr.Literal v) s h = h
sort_wider few many w (expr.Column i c) s h = column_wider few.ranges many.ranges w.ranges i c s h
sort_wider few many w (expr.Variable v c) s h = ap (λ (o : Option (List Kind)). column_sort o c) (w.variables v) ∙ h
sort_wider few many w (plus a b) s h =
    let p = both_sorted (sort_of few a) (sort_of few b) s h in
    let x = sort_wider few many w a p.0 p.2 in
    let y = sort_wider few many w b p.1 p.3 in
    ap (λ (o : Option Sort). arithmetic_sort o (sort_of many b)) (x ∙ sym p.2) ∙ ap (arithmetic_sort (sort_of few a)) (y ∙ sym p.3) ∙ h
sort_wider few many w (minus a b) s h =
    let p = both_sorted (sort_of few a) (sort_of few b) s h in
    let x = sort_wider few many w a p.0 p.2 in
    let y = sort_wider few many w b p.1 p.3 in
    ap (λ (o : Option Sort). arithmetic_sort o (sort_of many b)) (x ∙ sym p.2) ∙ ap (arithmetic_sort (sort_of few a)) (y ∙ sym p.3) ∙ h
sort_wider few many w (times a b) s h =
    let p = both_sorted (sort_of few a) (sort_of few b) s h in
    let x = sort_wider few many w a p.0 p.2 in
    let y = sort_wider few many w b p.1 p.3 in
    ap (λ (o : Option Sort). arithmetic_sort o (sort_of many b)) (x ∙ sym p.2) ∙ ap (arithmetic_sort (sort_of few a)) (y ∙ sym p.3) ∙ h

-- a test of a sort that passes is of a sort that is there
sorted_of : (x : Option Sort) → is_some x ≡ true → (s : Sort) × (x ≡ Some s)
sorted_of None h = cc
sorted_of (Some s) h = (s, refl)

both_comparable : (x y : Option Sort) → comparable x y ≡ true → (is_some x ≡ true) × (is_some y ≡ true)
both_comparable None y h = cc
both_comparable (Some nulls) None h = cc
both_comparable (Some numbers) None h = cc
both_comparable (Some texts) None h = cc
both_comparable (Some x) (Some y) h = (refl, refl)

same_sort : (few many : Shape) → Wider few many → (e : Expr) → is_some (sort_of few e) ≡ true → sort_of many e ≡ sort_of few e
same_sort few many w e h = let s = sorted_of (sort_of few e) h in sort_wider few many w e s.0 s.1 ∙ sym s.1

-- ---- ranges

abbrev pub range_wider : (few many : Shape) → Wider few many → (r : Range) → KindsWider (range_kinds few r) (range_kinds many r)
range_wider few many w (range.Table t) = w.tables t
range_wider few many w (range.Transition side) = same w.transition

within_variables : (shape : Shape) (kinds : List Kind) (s : Side) → variable_kinds (shape_within shape kinds) s ≡ variable_kinds shape s
within_variables shape kinds side.Old = refl
within_variables shape kinds side.New = refl

pub inner_wider : (few many : Shape) → Wider few many → (k l : List Kind) → KindsWider k l → Wider (shape_within few k) (shape_within many l)
inner_wider few many w k l h = record {
  ranges = (h, w.ranges);
  variables = λ s. within_variables many l s ∙ w.variables s ∙ sym (within_variables few k s);
  transition = w.transition;
  tables = w.tables;
}

pub suits_wider : (few many : Shape) → Wider few many → (c : Cond) → suits few c ≡ true → suits many c ≡ true
suits_wider few many w cond.Always h = refl
suits_wider few many w (cond.Compare op a b) h =
    let parts = both_comparable (sort_of few a) (sort_of few b) h in
    ap (λ (o : Option Sort). comparable o (sort_of many b)) (same_sort few many w a parts.0) ∙ ap (comparable (sort_of few a)) (same_sort few many w b parts.1) ∙ h
suits_wider few many w (cond.IsNull a) h = ap (λ (o : Option Sort). is_some o) (same_sort few many w a h) ∙ h
suits_wider few many w (not_c a) h = suits_wider few many w a h
suits_wider few many w (and_c a b) h = let p = and_parts (suits few a) (suits few b) h in and_from _ _ (suits_wider few many w a p.0) (suits_wider few many w b p.1)
suits_wider few many w (or_c a b) h = let p = and_parts (suits few a) (suits few b) h in and_from _ _ (suits_wider few many w a p.0) (suits_wider few many w b p.1)
suits_wider few many w (exists_c r a) h =
    suits_wider (shape_within few (range_kinds few r)) (shape_within many (range_kinds many r)) (inner_wider few many w (range_kinds few r) (range_kinds many r) (range_wider few many w r)) a h

-- ---- statements

pub sort_suits_some : (k : Kind) (o : Option Sort) → sort_suits k o ≡ true → is_some o ≡ true
sort_suits_some k None h = by k h
  where
    by : (x : Kind) → sort_suits x None ≡ true → false ≡ true
    by kind.Integer g = g
    by (kind.Varchar n) g = g
sort_suits_some k (Some s) h = refl

value_wider : (few many : Shape) → Wider few many → (o : Option Kind) (e : Expr) → value_suits few o e ≡ true → value_suits many o e ≡ true
value_wider few many w None e h = cc
value_wider few many w (Some k) e h = ap (sort_suits k) (same_sort few many w e (sort_suits_some k (sort_of few e) h)) ∙ h

values_wider : (few many : Shape) → Wider few many → (os : List (Option Kind)) (es : List Expr) → values_suit few os es ≡ true → values_suit many os es ≡ true
values_wider few many w [] [] h = refl
values_wider few many w [] (e ∷ es) h = cc
values_wider few many w (o ∷ os) [] h = cc
values_wider few many w (o ∷ os) (e ∷ es) h =
    let p = and_parts (value_suits few o e) (values_suit few os es) h in
    and_from _ _ (value_wider few many w o e p.0) (values_wider few many w os es p.1)

outputs_wider : (few many : Shape) → Wider few many → (own : List Kind) (os : List (Option Kind)) (l : Outputs) → outputs_suit few own os l ≡ true → outputs_suit many own os l ≡ true
outputs_wider few many w own os outputs.Star h = h
outputs_wider few many w own os (outputs.Values es) h = values_wider few many w os es h

-- a shape of tables, and of these with one more
pub record OneMore (tables : List Table) (new : Table) (few many : Shape) : Type 0 where
  pub wider : Wider few many
  pub few_tables : (t : ℕ) → few.tables t ≡ table_kinds tables t
  pub many_tables : (t : ℕ) → many.tables t ≡ table_kinds (tables ++ new ∷ []) t

range_same : (tables : List Table) (new : Table) (few many : Shape) → OneMore tables new few many → (r : Range) → is_range_there tables r ≡ true → range_kinds many r ≡ range_kinds few r
range_same tables new few many o (range.Table t) h = o.many_tables t ∙ same_kinds tables new t h ∙ sym (o.few_tables t)
range_same tables new few many o (range.Transition side) h = o.wider.transition

range_still : (tables : List Table) (new : Table) (r : Range) → is_range_there tables r ≡ true → is_range_there (tables ++ new ∷ []) r ≡ true
range_still tables new (range.Table t) h = there_still tables new t h
range_still tables new (range.Transition side) h = refl

rows_wider : (tables : List Table) (new : Table) (few many : Shape) → OneMore tables new few many → (os : List (Option Kind)) (r : InsertRows)
    → rows_suit tables few os r ≡ true → rows_suit (tables ++ new ∷ []) many os r ≡ true
rows_wider tables new few many o os (rows.Values tuples) h =
    all_by (values_suit many os) tuples (λ j es g. values_wider few many o.wider os es (all_at (values_suit few os) tuples h j es g))
rows_wider tables new few many o os (rows.Query listed source filter) h =
    let kinds = range_kinds few source in
    let p = and_parts (is_range_there tables source) (outputs_suit (shape_within few kinds) kinds os listed && suits (shape_within few kinds) filter) h in
    let q = and_parts (outputs_suit (shape_within few kinds) kinds os listed) (suits (shape_within few kinds) filter) p.1 in
    let inner = inner_wider few many o.wider kinds kinds (same refl) in
    and_from _ _ (range_still tables new source p.0)
    (ap (λ (k : List Kind). outputs_suit (shape_within many k) k os listed && suits (shape_within many k) filter) (range_same tables new few many o source p.0)
    ∙ and_from _ _ (outputs_wider (shape_within few kinds) (shape_within many kinds) inner kinds os listed q.0)
    (suits_wider (shape_within few kinds) (shape_within many kinds) inner filter q.1))

pub setting_wider : (few many : Shape) → Wider few many → (kinds : List Kind) (s : Setting) → setting_suits few kinds s ≡ true → setting_suits many kinds s ≡ true
setting_wider few many w kinds s h = value_wider few many w (slice_get kinds s.column) s.value h

pub data_wider : (tables : List Table) (new : Table) (few many : Shape) → OneMore tables new few many → (d : DataStatement)
    → data_suits tables few d ≡ true → data_suits (tables ++ new ∷ []) many d ≡ true
data_wider tables new few many o (Insert t listed given) h =
    let p = and_parts (is_there tables t) (rows_suit tables few (target_kinds (table_kinds tables t) listed) given) h in
    and_from _ _ (there_still tables new t p.0)
    (ap (λ (k : List Kind). rows_suit (tables ++ new ∷ []) many (target_kinds k listed) given) (same_kinds tables new t p.0)
    ∙ rows_wider tables new few many o (target_kinds (table_kinds tables t) listed) given p.1)
data_wider tables new few many o (Update t settings filter) h =
    let kinds = table_kinds tables t in
    let p = and_parts (is_there tables t) (list_all (setting_suits (shape_within few kinds) kinds) settings && suits (shape_within few kinds) filter) h in
    let q = and_parts (list_all (setting_suits (shape_within few kinds) kinds) settings) (suits (shape_within few kinds) filter) p.1 in
    let inner = inner_wider few many o.wider kinds kinds (same refl) in
    and_from _ _ (there_still tables new t p.0)
    (ap (λ (k : List Kind). list_all (setting_suits (shape_within many k) k) settings && suits (shape_within many k) filter) (same_kinds tables new t p.0)
    ∙ and_from _ _
    (all_by (setting_suits (shape_within many kinds) kinds) settings
    (λ j s g. setting_wider (shape_within few kinds) (shape_within many kinds) inner kinds s (all_at (setting_suits (shape_within few kinds) kinds) settings q.0 j s g)))
    (suits_wider (shape_within few kinds) (shape_within many kinds) inner filter q.1))
data_wider tables new few many o (Delete t filter) h =
    let kinds = table_kinds tables t in
    let p = and_parts (is_there tables t) (suits (shape_within few kinds) filter) h in
    let inner = inner_wider few many o.wider kinds kinds (same refl) in
    and_from _ _ (there_still tables new t p.0)
    (ap (λ (k : List Kind). suits (shape_within many k) filter) (same_kinds tables new t p.0)
    ∙ suits_wider (shape_within few kinds) (shape_within many kinds) inner filter p.1)

-- ---- triggers

more_kinds : (tables : List Table) (new : Table) (t : ℕ) → KindsWider (table_kinds tables t) (table_kinds (tables ++ new ∷ []) t)
more_kinds tables new t = by (slice_get tables t) refl
  where
    by : (o : Option Table) → slice_get tables t ≡ o → KindsWider (table_kinds tables t) (table_kinds (tables ++ new ∷ []) t)
    by None e = none (ap (λ (o : Option Table). elim o as (λ x. List Kind) [ Some x ↦ kinds_of x | None ↦ [] ]) e)
    by (Some x) e = same (ap (λ (o : Option Table). elim o as (λ x. List Kind) [ Some x ↦ kinds_of x | None ↦ [] ]) (still_there tables new t x e ∙ sym e))

trigger_one_more : (tables : List Table) (new : Table) (g : Granularity) (e : TriggerEvent) (kinds : List Kind)
    → OneMore tables new (trigger_shape tables g e kinds) (trigger_shape (tables ++ new ∷ []) g e kinds)
trigger_one_more tables new g e kinds = record {
  wider = record { ranges = tt; variables = both_sides; transition = refl; tables = more_kinds tables new };
  few_tables = λ t. refl;
  many_tables = λ t. refl;
}
  where
    both_sides : (s : Side) → variable_kinds (trigger_shape (tables ++ new ∷ []) g e kinds) s ≡ variable_kinds (trigger_shape tables g e kinds) s
    both_sides side.Old = refl
    both_sides side.New = refl

action_wider : (tables : List Table) (new : Table) (few many : Shape) → OneMore tables new few many → (kinds : List Kind) (b : BodyStatement)
    → action_suits tables few kinds b ≡ true → action_suits (tables ++ new ∷ []) many kinds b ≡ true
action_wider tables new few many o kinds (body.Data d) h = data_wider tables new few many o d h
action_wider tables new few many o kinds (body.Signal text) h = refl
action_wider tables new few many o kinds (body.Set s) h = setting_wider few many o.wider kinds s h

pub trigger_still : (tables : List Table) (new : Table) (t : Trigger) → trigger_suits tables t ≡ true → trigger_suits (tables ++ new ∷ []) t ≡ true
trigger_still tables new t h =
    let kinds = table_kinds tables t.table in
    let few = trigger_shape tables t.granularity t.event kinds in
    let many = trigger_shape (tables ++ new ∷ []) t.granularity t.event kinds in
    let p = and_parts (is_there tables t.table) (suits few t.when && list_all (action_suits tables few kinds) t.body) h in
    let q = and_parts (suits few t.when) (list_all (action_suits tables few kinds) t.body) p.1 in
    let o = trigger_one_more tables new t.granularity t.event kinds in
    and_from _ _ (there_still tables new t.table p.0)
    (ap (λ (k : List Kind). suits (trigger_shape (tables ++ new ∷ []) t.granularity t.event k) t.when
    && list_all (action_suits (tables ++ new ∷ []) (trigger_shape (tables ++ new ∷ []) t.granularity t.event k) k) t.body) (same_kinds tables new t.table p.0)
    ∙ and_from _ _ (suits_wider few many o.wider t.when q.0)
    (all_by (action_suits (tables ++ new ∷ []) many kinds) t.body
    (λ j b g. action_wider tables new few many o kinds b (all_at (action_suits tables few kinds) t.body q.1 j b g))))

-- ---- constraints

rule_still : (tables : List Table) (new : Table) (kinds : List Kind) (r : Rule) → rule_suits tables kinds r ≡ true → rule_suits (tables ++ new ∷ []) kinds r ≡ true
rule_still tables new kinds (rule.NotNull c) h = h
rule_still tables new kinds (rule.Unique treatment cs) h = h
rule_still tables new kinds (rule.PrimaryKey cs) h = h
rule_still tables new kinds (rule.Check c) h = h
rule_still tables new kinds (rule.ForeignKey fk) h =
    let p = and_parts (is_there tables fk.referenced) (pairs_suit kinds (table_kinds tables fk.referenced) fk) h in
    and_from _ _ (there_still tables new fk.referenced p.0) (ap (λ (k : List Kind). pairs_suit kinds k fk) (same_kinds tables new fk.referenced p.0) ∙ p.1)

pub constraint_still : (tables : List Table) (new : Table) (k : Constraint) → constraint_suits tables k ≡ true → constraint_suits (tables ++ new ∷ []) k ≡ true
constraint_still tables new k h =
    let p = and_parts (is_there tables k.table) (rule_suits tables (table_kinds tables k.table) k.rule) h in
    and_from _ _ (there_still tables new k.table p.0)
    (ap (λ (x : List Kind). rule_suits (tables ++ new ∷ []) x k.rule) (same_kinds tables new k.table p.0) ∙ rule_still tables new (table_kinds tables k.table) k.rule p.1)
