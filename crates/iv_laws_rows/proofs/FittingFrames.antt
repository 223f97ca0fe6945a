-- What the bodies of triggers see has the kinds of their shapes, so their statements fit.
use Rattle.std.proofs.Common.{◌≡◌, ℕ, nat_lt, Bool, true, false, ◌&&◌, ◌||◌, ◌==◌, if◌then◌else◌, List, [], ◌∷◌, ◌∙◌, Option, Some, None, is_none, is_some, refl, sym, ap, subst, length, map, filter, slice_get, inl, inr}
use Rattle.std.specs.List.{list_all, cons_option}
use Rattle.std.proofs.lemmas.Bool.{eqb-true, and_from, and_parts}
use Rattle.iv_laws_rows.specs.Types.{Value, StoredRow, Change, TableColumn, TriggerEvent, Table, DataStatement, Trigger}
use Rattle.iv_laws_rows.specs.Types.body
use Rattle.iv_value.specs.declared.value.Value.TheVariants.{Null, Int, Text}
use Rattle.iv_value.specs.declared.value.Kind.{Kind}
use Rattle.iv_value.specs.declared.value.Kind.TheVariants as kind
use Rattle.iv_value.specs.Values.{fit_of}
use Rattle.iv_expr.specs.declared.tree.Side.{Side}
use Rattle.iv_expr.specs.declared.tree.Side.TheVariants.{Old, New}
use Rattle.iv_expr.specs.Changes.{Wave}
use Rattle.iv_expr.specs.Scopes.{Frame, scope_of, contents, table_rows, side_of, transition_rows}
use Rattle.iv_expr.specs.Suiting.{of_sort, sort_of_kind, Shape, row_suits, AllSuit, VariableSuits, HasShape, suits}
use Rattle.iv_syntax.specs.declared.trigger.Granularity.{Granularity}
use Rattle.iv_syntax.specs.declared.trigger.Granularity.TheVariants as granularity
use Rattle.iv_syntax.specs.declared.trigger.TriggerEvent.TheVariants as event
use Rattle.iv_catalogue.specs.declared.catalogue.Column.{Column}
use Rattle.iv_machine.specs.Context.{Context}
use Rattle.iv_machine.specs.Proposals.{table_of, event_of}
use Rattle.iv_machine.specs.BeforeTriggers.{for_each_row, same_event, is_on, event_of_change}
use Rattle.iv_machine.specs.Levels.{Firing, row_firing, statement_firing, firings_of, transitions_of, is_after_on, firings}
use Rattle.iv_store.specs.Stores.{is_fit, fits_columns, fits_table}
use Rattle.iv_laws_fitting.specs.PlanShapes.{table_kinds, plain_shape, is_there, old_kinds, new_kinds, trigger_shape, action_suits, trigger_suits}
use Rattle.iv_laws_fitting.proofs.Pointwise.{all_at}
use Rattle.iv_laws_levels.proofs.Members.{In, of_filter, of_map, of_flat_map, all_in}
use Rattle.iv_laws_rows.specs.RowFits.{side_fits, change_fits, changes_fit, wave_fits, row_fits, rows_fit, BodyFits}
use Rattle.iv_laws_rows.specs.Laws.{PlainStatementsFit, RowFiringsFit, StatementFiringsFit, FiringsFit}
use Rattle.iv_laws_rows.proofs.FittingValues.{table_fits}
use Rattle.iv_laws_rows.proofs.FittingChanges.{fitting}
use Rattle.iv_laws_rows.proofs.FollowingRows.{kinds_in}
use Rattle.iv_laws_rows.proofs.MoreMembers.{at_in, all_by_in}

-- ---- rows that fit are of the kinds of their table

sorted : (k : Kind) (v : Value) → is_fit (fit_of v k) ≡ true → of_sort (sort_of_kind k) v ≡ true
sorted k Null h = refl
sorted kind.Integer (Int a) h = refl
sorted (kind.Varchar n) (Int a) h = cc
sorted kind.Integer (Text t) h = cc
sorted (kind.Varchar n) (Text t) h = refl

columns_suit : (cs : List Column) (vs : List Value) → fits_columns cs vs ≡ true → row_suits (map (λ c. c.kind) cs) vs ≡ true
columns_suit [] [] h = refl
columns_suit [] (v ∷ vs) h = cc
columns_suit (c ∷ cs) [] h = cc
columns_suit (c ∷ cs) (v ∷ vs) h =
    let parts = and_parts (is_fit (fit_of v c.kind)) (fits_columns cs vs) h in and_from _ _ (sorted c.kind v parts.0) (columns_suit cs vs parts.1)

values_suit_kinds : (o : Option Table) (values : List Value) → table_fits o values ≡ true → row_suits (kinds_in o) values ≡ true
values_suit_kinds None values h = cc
values_suit_kinds (Some t) values h = columns_suit t.columns values h

pub values_have_kinds : (tables : List Table) (table : ℕ) (values : List Value) → fits_table tables table values ≡ true → row_suits (table_kinds tables table) values ≡ true
values_have_kinds tables table values h = values_suit_kinds (slice_get tables table) values h

pub table_rows_suit : (tables : List Table) (t : ℕ) (rows : List StoredRow) → rows_fit tables rows ≡ true → AllSuit (table_kinds tables t) (contents (table_rows rows t))
table_rows_suit tables t [] h = tt
table_rows_suit tables t (r ∷ rows) h =
    let parts = and_parts (row_fits tables r) (rows_fit tables rows) h in by (r.table == t) refl parts.0 (table_rows_suit tables t rows parts.1)
  where
    by : (b : Bool) → (r.table == t) ≡ b → row_fits tables r ≡ true → AllSuit (table_kinds tables t) (contents (table_rows rows t))
        → AllSuit (table_kinds tables t) (contents (if b then r ∷ table_rows rows t else table_rows rows t))
    by true e fit rest = (ap (λ n. row_suits (table_kinds tables n) r.values) (sym (eqb-true r.table t e)) ∙ values_have_kinds tables r.table r.values fit, rest)
    by false e fit rest = rest

-- ---- transitions

abbrev pub all_on : Trigger → List Change → Bool
all_on t changes = list_all (λ x. is_on x.table (event_of_change x) t) changes

pub on_parts : (t : Trigger) (c : Change) → is_on c.table (event_of_change c) t ≡ true → (t.table ≡ c.table) × (same_event t.event (event_of_change c) ≡ true)
on_parts t c h = let p = and_parts (t.table == c.table) (same_event t.event (event_of_change c)) h in (eqb-true t.table c.table p.0, p.1)

side_suits : (tables : List Table) (t : Trigger) (c : Change) (side : Side) → change_fits tables c ≡ true → t.table ≡ c.table → side_fits tables t.table (side_of side c) ≡ true
side_suits tables t c Old h e = ap (λ n. side_fits tables n c.old) e ∙ (fitting tables c h).old
side_suits tables t c New h e = ap (λ n. side_fits tables n c.new) e ∙ (fitting tables c h).new

pub transitions_suit : (tables : List Table) (t : Trigger) (side : Side) (changes : List Change) → changes_fit tables changes ≡ true → all_on t changes ≡ true
    → AllSuit (table_kinds tables t.table) (transition_rows side changes)
transitions_suit tables t side [] h g = tt
transitions_suit tables t side (c ∷ changes) h g =
    let fit = and_parts (change_fits tables c) (changes_fit tables changes) h in
    let on = and_parts (is_on c.table (event_of_change c) t) (all_on t changes) g in
    by (side_of side c) (side_suits tables t c side fit.0 (on_parts t c on.0).0) (transitions_suit tables t side changes fit.1 on.1)
  where
    by : (o : Option (List Value)) → side_fits tables t.table o ≡ true → AllSuit (table_kinds tables t.table) (transition_rows side changes)
        → AllSuit (table_kinds tables t.table) (cons_option o (transition_rows side changes))
    by None fit rest = rest
    by (Some values) fit rest = (values_have_kinds tables t.table values fit, rest)

-- ---- row variables

abbrev pub event_of_sides : Option (List Value) → Option (List Value) → TriggerEvent
event_of_sides old new = if is_none old then event.Insert else (if is_none new then event.Delete else event.Update)

pub old_suits : (tables : List Table) (table : ℕ) (g : Granularity) (e : TriggerEvent) (old new : Option (List Value)) → same_event e (event_of_sides old new) ≡ true
    → side_fits tables table old ≡ true → VariableSuits (old_kinds g e (table_kinds tables table)) old
old_suits tables table granularity.Statement e old new h f = tt
old_suits tables table granularity.Row event.Insert old new h f = tt
old_suits tables table granularity.Row event.Update None new h f = cc
old_suits tables table granularity.Row event.Update (Some values) new h f = values_have_kinds tables table values f
old_suits tables table granularity.Row event.Delete None new h f = cc
old_suits tables table granularity.Row event.Delete (Some values) new h f = values_have_kinds tables table values f

pub new_suits : (tables : List Table) (table : ℕ) (g : Granularity) (e : TriggerEvent) (old new : Option (List Value)) → same_event e (event_of_sides old new) ≡ true
    → (is_some old || is_some new) ≡ true → side_fits tables table new ≡ true → VariableSuits (new_kinds g e (table_kinds tables table)) new
new_suits tables table granularity.Statement e old new h s f = tt
new_suits tables table granularity.Row event.Delete old new h s f = tt
new_suits tables table granularity.Row event.Insert None None h s f = cc
new_suits tables table granularity.Row event.Insert None (Some values) h s f = values_have_kinds tables table values f
new_suits tables table granularity.Row event.Insert (Some before) None h s f = cc
new_suits tables table granularity.Row event.Insert (Some before) (Some values) h s f = cc
new_suits tables table granularity.Row event.Update None new h s f = cc
new_suits tables table granularity.Row event.Update (Some before) None h s f = cc
new_suits tables table granularity.Row event.Update (Some before) (Some values) h s f = values_have_kinds tables table values f

-- ---- statements outside of triggers

pub plain_statements_fit : PlainStatementsFit
plain_statements_fit tables d h = record {
  shape = plain_shape tables;
  outside = refl;
  kinds = λ t. refl;
  holds = λ rows fit. record {
    ranges = tt;
    old = tt;
    new = tt;
    transition = λ side. tt;
    tables = λ t. table_rows_suit tables t rows fit;
  };
  suits = h;
}

-- ---- bodies of triggers

abbrev pub shape_of : List Table → Trigger → Shape
shape_of tables t = trigger_shape tables t.granularity t.event (table_kinds tables t.table)

-- what a trigger sees has the kinds of its shape
abbrev pub Sees : List Table → Trigger → Frame → Type 0
Sees tables t frame = (rows : List StoredRow) → rows_fit tables rows ≡ true → HasShape (scope_of frame rows) (shape_of tables t)

pub body_fits : (tables : List Table) (t : Trigger) (frame : Frame) → trigger_suits tables t ≡ true → Sees tables t frame → BodyFits tables frame t.body
body_fits tables t frame s sees place d h =
    let kinds = table_kinds tables t.table in
    let p = and_parts (is_there tables t.table) (suits (shape_of tables t) t.when && list_all (action_suits tables (shape_of tables t) kinds) t.body) s in
    let q = and_parts (suits (shape_of tables t) t.when) (list_all (action_suits tables (shape_of tables t) kinds) t.body) p.1 in
    record {
      shape = shape_of tables t;
      outside = refl;
      kinds = λ n. refl;
      holds = sees;
      suits = all_at (action_suits tables (shape_of tables t) kinds) t.body q.1 place (body.Data d) h;
    }

pub row_sees : (tables : List Table) (t : Trigger) (transitions : List Change) (c : Change) → changes_fit tables transitions ≡ true
    → all_on t transitions ≡ true → In c transitions → Sees tables t (row_firing t transitions c).frame
row_sees tables t transitions c h g i rows fit =
    let f = fitting tables c (all_in (change_fits tables) c transitions h i) in
    let on = on_parts t c (all_in (λ x. is_on x.table (event_of_change x) t) c transitions g i) in
    record {
      ranges = tt;
      old = old_suits tables t.table t.granularity t.event c.old c.new on.1 (ap (λ n. side_fits tables n c.old) on.0 ∙ f.old);
      new = new_suits tables t.table t.granularity t.event c.old c.new on.1 f.side (ap (λ n. side_fits tables n c.new) on.0 ∙ f.new);
      transition = λ side. transitions_suit tables t side transitions h g;
      tables = λ n. table_rows_suit tables n rows fit;
    }

pub statement_sees : (tables : List Table) (t : Trigger) (transitions : List Change) → for_each_row t ≡ false → changes_fit tables transitions ≡ true
    → all_on t transitions ≡ true → Sees tables t (statement_firing t transitions).frame
statement_sees tables t transitions s h g rows fit = record {
  ranges = tt;
  old = no_old t.granularity s;
  new = no_new t.granularity s;
  transition = λ side. transitions_suit tables t side transitions h g;
  tables = λ n. table_rows_suit tables n rows fit;
}
  where
    no_old : (g : Granularity) → elim g as (λ x. Bool) [ granularity.Row ↦ true | granularity.Statement ↦ false ] ≡ false
        → VariableSuits (old_kinds g t.event (table_kinds tables t.table)) None
    no_old granularity.Row e = cc
    no_old granularity.Statement e = tt

    no_new : (g : Granularity) → elim g as (λ x. Bool) [ granularity.Row ↦ true | granularity.Statement ↦ false ] ≡ false
        → VariableSuits (new_kinds g t.event (table_kinds tables t.table)) None
    no_new granularity.Row e = cc
    no_new granularity.Statement e = tt

pub row_firings_fit : RowFiringsFit
row_firings_fit tables t transitions place c s h g i =
    body_fits tables t (row_firing t transitions c).frame s (row_sees tables t transitions c h g (at_in transitions place c i))

pub statement_firings_fit : StatementFiringsFit
statement_firings_fit tables t transitions s once h g =
    body_fits tables t (statement_firing t transitions).frame s (statement_sees tables t transitions once h g)

-- ---- all that fire

-- a trigger that fires suits, and what it sees has the kinds of its shape
pub record FiringSuits (tables : List Table) (x : Firing) : Type 0 where
  pub suits : trigger_suits tables x.trigger ≡ true
  pub sees : Sees tables x.trigger x.frame

firing_of_suits : (tables : List Table) (d : DataStatement) (t : Trigger) (transitions : List Change) (x : Firing) → trigger_suits tables t ≡ true
    → changes_fit tables transitions ≡ true → all_on t transitions ≡ true → In x (firings_of d t transitions) → FiringSuits tables x
firing_of_suits tables d t transitions x s h g i = by (for_each_row t) refl i
  where
    once : for_each_row t ≡ false → (b : Bool) → In x (if b then statement_firing t transitions ∷ [] else []) → FiringSuits tables x
    once e true (inl is) =
        subst (FiringSuits tables) (sym is) (record { suits = s; sees = statement_sees tables t transitions e h g })
    once e true (inr j) = absurd j
    once e false j = absurd j

    by : (b : Bool) → for_each_row t ≡ b
        → In x (if b then map (row_firing t transitions) transitions
        else (if is_on (table_of d) (event_of d) t || nat_lt 0 (length transitions) then statement_firing t transitions ∷ [] else []))
        → FiringSuits tables x
    by true e j =
        let made = of_map (row_firing t transitions) x transitions j in
        subst (FiringSuits tables) (sym made.holds) (record { suits = s; sees = row_sees tables t transitions made.element h g made.is_in })
    by false e j = once e (is_on (table_of d) (event_of d) t || nat_lt 0 (length transitions)) j

pub all_firings_suit : (context : Context) (d : DataStatement) (columns : List TableColumn) (net : Wave) (x : Firing) → list_all (trigger_suits context.schema.tables) context.schema.triggers ≡ true
    → wave_fits context.schema.tables net ≡ true → In x (firings context d columns net) → FiringSuits context.schema.tables x
all_firings_suit context d columns net x s h i =
    let tables = context.schema.tables in
    let found = of_flat_map (λ t. firings_of d t (transitions_of t net)) x (filter (is_after_on columns) context.schema.triggers) i in
    let t = found.element in
    let own = of_filter (is_after_on columns) t context.schema.triggers found.is_in in
    let here : Change → Bool = λ c. is_on c.table (event_of_change c) t in
    firing_of_suits tables d t (transitions_of t net) x (all_in (trigger_suits tables) t context.schema.triggers s own.0)
    (all_by_in (change_fits tables) (filter here net.changes) (λ c j. all_in (change_fits tables) c net.changes h (of_filter here c net.changes j).0))
    (all_by_in here (filter here net.changes) (λ c j. (of_filter here c net.changes j).1))
    found.holds

pub firing_fits : (tables : List Table) (x : Firing) → FiringSuits tables x → BodyFits tables x.frame x.trigger.body
firing_fits tables x f = body_fits tables x.trigger x.frame f.suits f.sees

pub firings_fit : FiringsFit
firings_fit context d columns net place x s h i =
    firing_fits context.schema.tables x (all_firings_suit context d columns net x s h (at_in (firings context d columns net) place x i))
