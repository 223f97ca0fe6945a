-- The plan of a CREATE TRIGGER that deserves no cause.
use Rattle.std.proofs.Common.{◌≡◌, ℕ, ◌+◌, ◌≤◌, Bool, true, false, not, ◌&&◌, ◌||◌, ◌==◌, List, [], ◌∷◌, ◌∙◌, Option, Some, None, is_none, refl, sym, ap, cond, length, map, filter, slice_get, option_map, subst, suc, arith}
use Rattle.std.proofs.lemmas.Bool.{and_from, and_parts, not-false, or_parts}
use Rattle.std.specs.Option.{option_or}
use Rattle.std.specs.List.{list_any, list_all}
use Rattle.std.proofs.lemmas.Bool.Decides.{nat_tests}
use Rattle.iv_laws_fitting.specs.Types.{Kind, Statement, Granularity, TriggerEvent, Column, Table, Trigger}
use Rattle.iv_laws_fitting.specs.Types.granularity
use Rattle.iv_laws_fitting.specs.Types.event
use Rattle.iv_laws_fitting.specs.Types.plan
use Rattle.iv_laws_fitting.specs.Types.schema.{CreateTrigger}
use Rattle.iv_expr.specs.declared.tree.Side.{Side}
use Rattle.iv_expr.specs.declared.tree.Side.TheVariants as side
use Rattle.iv_expr.specs.Suiting.{Shape, range_kinds, suits}
use Rattle.iv_syntax.specs.declared.table.ColumnType.{ColumnType}
use Rattle.iv_syntax.specs.declared.statement.Statement.TheVariants as statement
use Rattle.iv_syntax.specs.declared.trigger.TransitionName.{TransitionName}
use Rattle.iv_syntax.specs.declared.trigger.TransitionName.TheVariants as what
use Rattle.iv_syntax.specs.declared.trigger.Referencing.{Referencing}
use Rattle.iv_syntax.specs.declared.trigger.TriggerAction.{TriggerAction}
use Rattle.iv_syntax.specs.declared.trigger.TriggerAction.TheVariants as action
use Rattle.iv_syntax.specs.declared.trigger.TriggerDefinition.{TriggerDefinition}
use Rattle.iv_catalogue.specs.Catalogues.{Schema}
use Rattle.iv_resolution.specs.declared.origin.Origin.TheVariants.{Variable}
use Rattle.iv_resolution.specs.Scopes.{NamedColumn, NamedRange, Names, Source, named_columns, place_of, has_column, type_named}
use Rattle.iv_resolution.specs.Terms.{misshaped_expression, misshaped_filter, bound_expression, bound_filter}
use Rattle.iv_resolution.specs.Constraints.{WrittenConstraint, table_constraint}
use Rattle.iv_resolution.specs.Tables.{table_names}
use Rattle.iv_resolution.specs.Changes.{is_table, target_columns, clashes_with}
use Rattle.iv_resolution.specs.Triggers.{names_row, row_variables, transition_tables, subject_of, trigger_names, trigger_variables, variable_named, for_each_row, is_before, has_side, is_allowed_item, is_side, items_of, item_twice, some_item_twice, misshaped_action}
use Rattle.iv_resolution.specs.Bound.{table_id, bound_action, bound_trigger}
use Rattle.iv_resolution.specs.Writable.{is_name, is_filter, is_action, are_event_columns}
use Rattle.iv_resolution.specs.Items.{Item, column_item, table_item, variable_item, told_if, first_of}
use Rattle.iv_resolution.specs.NameFaults.{unknown_in_target, unknown_in_action, unknown_in_columns, unknown_in_expression, unknown_in_filter, unknown_in_set}
use Rattle.iv_resolution.proofs.Told.{none_parts, none_told, untold}
use Rattle.iv_laws_fitting.specs.Naming.{NamesSource, transition, created, stored}
use Rattle.iv_laws_fitting.proofs.Firsts.{first_there}
use Rattle.iv_laws_fitting.proofs.NamesFound.{sources}
use Rattle.iv_laws_fitting.specs.Laws.{TriggersFit}
use Rattle.iv_laws_fitting.specs.PlanShapes.{kinds_of, table_kinds, is_there, is_range_there, value_suits, table_suits, old_kinds, new_kinds, trigger_shape, action_suits, trigger_suits}
use Rattle.iv_laws_fitting.proofs.ColumnKinds.{ColumnsMatch, VariablesMatch, side_kinds, stored_match, greatest}
use Rattle.iv_laws_fitting.proofs.Expressions.{sorted}
use Rattle.iv_laws_fitting.proofs.Pointwise.{any_at, all_at, map_at, made_of, mapped_length, all_by}
use Rattle.iv_laws_fitting.proofs.Targets.{Target, target_of, target_id, target_stored, target_kinds_of, place_is_there, few_columns, column_target, expression_suits}
use Rattle.iv_laws_fitting.proofs.Changes.{Around, filter_suits}
use Rattle.iv_laws_fitting.proofs.Statements.{insert_suits, update_suits, delete_suits}
use Rattle.iv_laws_fitting.proofs.Plans.{Accepted, accepted, alteration, stored_kinds}

-- ---- row variables

-- a row variable of a trigger for each row, of a side that the event has, has the kinds of the table
sided : (g : Granularity) (e : TriggerEvent) (s : Side) (kinds : List Kind) → has_side e s ≡ true
    → elim g as (λ x. Bool) [ granularity.Row ↦ true | granularity.Statement ↦ false ] ≡ true → side_kinds (old_kinds g e kinds) (new_kinds g e kinds) s ≡ Some kinds
sided granularity.Statement e s kinds h r = cc
sided granularity.Row event.Insert side.Old kinds h r = cc
sided granularity.Row event.Insert side.New kinds h r = refl
sided granularity.Row event.Update side.Old kinds h r = refl
sided granularity.Row event.Update side.New kinds h r = refl
sided granularity.Row event.Delete side.Old kinds h r = refl
sided granularity.Row event.Delete side.New kinds h r = cc

abbrev variable_of : List NamedColumn → Referencing → NamedRange
variable_of subject i = record { name = i.name; columns = subject; origin = Variable i.side }

allowed : (t : TriggerDefinition) (i : Referencing) → names_row i ≡ true → not (is_allowed_item t i) ≡ false → (has_side t.event i.side ≡ true) × (for_each_row t ≡ true)
unfolding is_allowed_item
allowed t i n h = by i.what refl
  where
    by : (w : TransitionName) → i.what ≡ w → (has_side t.event i.side ≡ true) × (for_each_row t ≡ true)
    by what.Row e =
        let both = and_parts (has_side t.event i.side) (elim i.what as (λ x. Bool) [ what.Row ↦ for_each_row t | what.Table ↦ not (is_before t) ])
        (not-false (has_side t.event i.side && elim i.what as (λ x. Bool) [ what.Row ↦ for_each_row t | what.Table ↦ not (is_before t) ]) h) in
        (both.0, sym (ap (λ (w : TransitionName). elim w as (λ x. Bool) [ what.Row ↦ for_each_row t | what.Table ↦ not (is_before t) ]) e) ∙ both.1)
    by what.Table e = let x : true ≡ false = sym n ∙ ap (λ (w : TransitionName). elim w as (λ x. Bool) [ what.Row ↦ true | what.Table ↦ false ]) e in cc

one_more_variable : (t : TriggerDefinition) (subject : List NamedColumn) (kinds : List Kind) → ColumnsMatch subject kinds → (i : Referencing) (is : List Referencing)
    → not (is_allowed_item t i) ≡ false
    → VariablesMatch (old_kinds t.granularity t.event kinds) (new_kinds t.granularity t.event kinds) (row_variables subject is)
    → (b : Bool) → names_row i ≡ b
    → VariablesMatch (old_kinds t.granularity t.event kinds) (new_kinds t.granularity t.event kinds) (map (variable_of subject) (cond b (i ∷ filter names_row is) (filter names_row is)))
one_more_variable t subject kinds m i is h rest false e = rest
one_more_variable t subject kinds m i is h rest true e =
    let may = allowed t i e h in
    (record { side = i.side; kinds = kinds; is = refl; there = sided t.granularity t.event i.side kinds may.0 may.1; matches = m }, rest)

variables_match : (t : TriggerDefinition) (subject : List NamedColumn) (kinds : List Kind) → ColumnsMatch subject kinds → (items : List Referencing)
    → list_any (λ i. not (is_allowed_item t i)) items ≡ false
    → VariablesMatch (old_kinds t.granularity t.event kinds) (new_kinds t.granularity t.event kinds) (row_variables subject items)
variables_match t subject kinds m [] h = tt
variables_match t subject kinds m (i ∷ is) h =
    let parts = or_parts (not (is_allowed_item t i)) (list_any (λ x. not (is_allowed_item t x)) is) h in
    one_more_variable t subject kinds m i is parts.0 (variables_match t subject kinds m is parts.1) (names_row i) refl

-- ---- at most and_from of them

abbrev rows_of : Side → List Referencing → List Referencing
rows_of s items = items_of s true items

counted : (s : Side) (b : Bool) (o n r : ℕ) → r ≡ o + n
    → cond b (suc r) r ≡ cond (is_side side.Old s && b) (suc o) o + cond (is_side side.New s && b) (suc n) n
counted side.Old true o n r h = omega arith
counted side.New true o n r h = omega arith
counted side.Old false o n r h = h
counted side.New false o n r h = h

lengthened : (b : Bool) (i : Referencing) (is : List Referencing) → length (cond b (i ∷ is) is) ≡ cond b (suc (length is)) (length is)
lengthened true i is = refl
lengthened false i is = refl

rows_counted : (items : List Referencing) → length (filter names_row items) ≡ length (rows_of side.Old items) + length (rows_of side.New items)
rows_counted [] = omega arith
rows_counted (i ∷ is) =
    lengthened (names_row i) i (filter names_row is)
    ∙ counted i.side (names_row i) (length (rows_of side.Old is)) (length (rows_of side.New is)) (length (filter names_row is)) (rows_counted is)
    ∙ ap (λ n. n + cond (is_side side.New i.side && names_row i) (suc (length (rows_of side.New is))) (length (rows_of side.New is)))
    (sym (lengthened (is_side side.Old i.side && names_row i) i (rows_of side.Old is)))
    ∙ ap (λ n. length (rows_of side.Old (i ∷ is)) + n) (sym (lengthened (is_side side.New i.side && names_row i) i (rows_of side.New is)))

few_variables : (subject : List NamedColumn) (items : List Referencing) → some_item_twice items ≡ false → length (row_variables subject items) ≤ 1000
few_variables subject items h =
    let rows = or_parts (item_twice items side.Old true || item_twice items side.New true) (item_twice items side.Old false || item_twice items side.New false) h in
    let sides = or_parts (item_twice items side.Old true) (item_twice items side.New true) rows.0 in
    let made = mapped_length (variable_of subject) (filter names_row items) in
    let all = rows_counted items in
    let one : length (rows_of side.Old items) ≤ 1 = let x = sides.0 in grind (arith, nat_tests) in
    let other : length (rows_of side.New items) ≤ 1 = let x = sides.1 in grind (arith, nat_tests) in
    omega arith

-- ---- what WHEN and the body see

abbrev names_of : Schema → List Referencing → List NamedColumn → Names
names_of schema items subject = record { created = None; tables = schema.tables; transitions = transition_tables items; subject = subject }

sources_match : (schema : Schema) (items : List Referencing) (subject : List NamedColumn) (kinds : List Kind) (g : Granularity) (e : TriggerEvent)
    → list_all table_suits schema.tables ≡ true → ColumnsMatch subject kinds → (name : List ℕ) (s : Source) → NamesSource (names_of schema items subject) name s
    → ColumnsMatch s.columns (range_kinds (trigger_shape schema.tables g e kinds) s.range)
sources_match schema items subject kinds g e d m name s (transition place t f h) =
    subst (λ (x : Source). ColumnsMatch x.columns (range_kinds (trigger_shape schema.tables g e kinds) x.range)) (sym h) m
sources_match schema items subject kinds g e d m name s (created t n c b h) = cc
sources_match schema items subject kinds g e d m name s (stored place t n c f h) =
    subst (λ (x : Source). ColumnsMatch x.columns (range_kinds (trigger_shape schema.tables g e kinds) x.range)) (sym h)
    (stored_kinds schema.tables place t d (first_there _ schema.tables place t f))

sources_there : (schema : Schema) (items : List Referencing) (subject : List NamedColumn) (name : List ℕ) (s : Source) → NamesSource (names_of schema items subject) name s
    → is_range_there schema.tables s.range ≡ true
sources_there schema items subject name s (transition place t f h) = ap (λ (x : Source). is_range_there schema.tables x.range) h
sources_there schema items subject name s (created t n c b h) = cc
sources_there schema items subject name s (stored place t n c f h) =
    ap (λ (x : Source). is_range_there schema.tables x.range) h ∙ place_is_there schema.tables place t (first_there _ schema.tables place t f)

pub around_trigger : (schema : Schema) (t : TriggerDefinition) (columns : List Column) → list_all table_suits schema.tables ≡ true → ColumnsMatch (named_columns columns) (map (λ c. c.kind) columns)
    → list_any (λ i. not (is_allowed_item t i)) t.referencing ≡ false → some_item_twice t.referencing ≡ false
    → Around (names_of schema t.referencing (named_columns columns)) (row_variables (named_columns columns) t.referencing)
    (trigger_shape schema.tables t.granularity t.event (map (λ c. c.kind) columns))
around_trigger schema t columns d m allowed_items few = record {
  matches = record {
    rows = [];
    variables = row_variables (named_columns columns) t.referencing;
    split = refl;
    rows_match = tt;
    variables_match = variables_match t (named_columns columns) (map (λ c. c.kind) columns) m t.referencing allowed_items;
  };
  few = few_variables (named_columns columns) t.referencing few;
  sources = λ name s h.
      sources_match schema t.referencing (named_columns columns) (map (λ c. c.kind) columns) t.granularity t.event d m name s
      ((sources (names_of schema t.referencing (named_columns columns)) name).sound s h);
  there = λ name s h.
      sources_there schema t.referencing (named_columns columns) name s ((sources (names_of schema t.referencing (named_columns columns)) name).sound s h);
  suit = d;
}

-- ---- the body

action_suits_columns : (names : Names) (variables : List NamedRange) (shape : Shape) → Around names variables shape → (columns : List Column) → names.subject ≡ named_columns columns
    → length columns ≤ greatest → (a : TriggerAction) → is_action a ≡ true → unknown_in_action names variables a ≡ None → misshaped_action names variables a ≡ false
    → action_suits names.tables shape (map (λ c. c.kind) columns) (bound_action names variables a) ≡ true
unfolding unknown_in_action misshaped_action unknown_in_set
action_suits_columns names variables shape a columns s few (action.Insert i) w u m = insert_suits names variables shape a i w u m
action_suits_columns names variables shape a columns s few (action.Update i) w u m = update_suits names variables shape a i w u m
action_suits_columns names variables shape a columns s few (action.Delete i) w u m = delete_suits names variables shape a i w u m
action_suits_columns names variables shape a columns s few (action.Signal t) w u m = refl
action_suits_columns names variables shape a columns s few (action.Set v column e) w u m =
    let known = none_parts (option_or (told_if (is_none (variable_named variables v)) (variable_item v)) (told_if (not (has_column names.subject column)) (column_item (Some v) column)))
    (unknown_in_expression variables e) u in
    let set = none_parts (told_if (is_none (variable_named variables v)) (variable_item v)) (told_if (not (has_column names.subject column)) (column_item (Some v) column)) known.0 in
    let shaped = or_parts (clashes_with (type_named names.subject column) variables e) (misshaped_expression variables e) m in
    let target = column_target columns column few (ap (λ (cs : List NamedColumn). not (has_column cs column)) (sym s) ∙ untold (not (has_column names.subject column)) (column_item (Some v) column) set.1) in
    let deep = a.few in
    ap (λ (cs : List NamedColumn). value_suits shape (slice_get (map (λ (c : Column). c.kind) columns) (place_of cs column)) (bound_expression variables e)) s
    ∙ ap (λ (o : Option Kind). value_suits shape o (bound_expression variables e))
    (map_at (λ (c : Column). c.kind) columns (place_of (named_columns columns) column) ∙ ap (option_map (λ (c : Column). c.kind)) target.at)
    ∙ expression_suits variables shape e target.column.kind (sorted variables shape a.matches (omega arith) e known.1 shaped.1)
    (ap (λ (o : Option ColumnType). clashes_with o variables e) (sym target.type)
    ∙ ap (λ (cs : List NamedColumn). clashes_with (type_named cs column) variables e) (sym s) ∙ shaped.0)

-- ---- the trigger

trigger_fits : (schema : Schema) → list_all table_suits schema.tables ≡ true → (t : TriggerDefinition) → Accepted schema (statement.CreateTrigger t) (plan.Schema (CreateTrigger (bound_trigger schema t)))
    → trigger_suits schema.tables (bound_trigger schema t) ≡ true
unfolding trigger_names trigger_variables subject_of
trigger_fits schema d t a = by (target_of (table_names schema) t.table parts.0)
  where
    subject : List NamedColumn
    subject = target_columns (table_names schema) t.table

    unknown : List NamedColumn → Option Item
    unknown s =
        option_or (unknown_in_filter (names_of schema t.referencing s) (row_variables s t.referencing) t.when)
        (first_of (unknown_in_action (names_of schema t.referencing s) (row_variables s t.referencing)) t.body)

    misshaped : List NamedColumn → Bool
    misshaped s =
        misshaped_filter (names_of schema t.referencing s) (row_variables s t.referencing) t.when
        || list_any (misshaped_action (names_of schema t.referencing s) (row_variables s t.referencing)) t.body

    parts : (not (is_table (table_names schema) t.table) ≡ false) × (unknown (target_columns (table_names schema) t.table) ≡ None)
    parts =
        let listed = unknown_in_columns (target_columns (table_names schema) t.table) t.columns in
        let first = none_parts (unknown_in_target (table_names schema) t.table) (option_or listed (unknown (target_columns (table_names schema) t.table))) a.known in
        (untold (not (is_table (table_names schema) t.table)) (table_item t.table) first.0, (none_parts listed (unknown (target_columns (table_names schema) t.table)) first.1).1)

    faults : (some_item_twice t.referencing ≡ false) × (list_any (λ i. not (is_allowed_item t i)) t.referencing ≡ false)
    faults =
        let first = or_parts (some_item_twice t.referencing) _ a.allowed in
        (first.0, (or_parts (list_any (λ i. not (is_allowed_item t i)) t.referencing) _ first.1).0)

    writable : (is_filter t.when ≡ true) × (list_all is_action t.body ≡ true)
    writable =
        let named = and_parts (is_name t.name) _ a.writable in
        let tabled = and_parts (is_name t.table) _ named.1 in
        let evented = and_parts (are_event_columns t.event t.columns) _ tabled.1 in
        let listed = and_parts (list_all (λ i. is_name i.name) t.referencing) _ evented.1 in
        let filtered = and_parts (is_filter t.when) _ listed.1 in
        (filtered.0, (and_parts (not (length t.body == 0)) (list_all is_action t.body) filtered.1).1)

    whole : ℕ → List NamedColumn → Bool
    whole id s =
        is_there schema.tables id
        && (suits (trigger_shape schema.tables t.granularity t.event (table_kinds schema.tables id)) (bound_filter (names_of schema t.referencing s) (row_variables s t.referencing) t.when)
        && list_all (action_suits schema.tables (trigger_shape schema.tables t.granularity t.event (table_kinds schema.tables id)) (table_kinds schema.tables id))
        (map (bound_action (names_of schema t.referencing s) (row_variables s t.referencing)) t.body))

    of_kinds : List NamedColumn → List Kind → Bool
    of_kinds s kinds =
        suits (trigger_shape schema.tables t.granularity t.event kinds) (bound_filter (names_of schema t.referencing s) (row_variables s t.referencing) t.when)
        && list_all (action_suits schema.tables (trigger_shape schema.tables t.granularity t.event kinds) kinds)
        (map (bound_action (names_of schema t.referencing s) (row_variables s t.referencing)) t.body)

    by : Target schema.tables t.table → whole (table_id (table_names schema) t.table) (target_columns (table_names schema) t.table) ≡ true
    by target =
        let columns = target.table.columns in
        let sound = all_at table_suits schema.tables d target.place target.table target.there in
        let few = few_columns target.table sound in
        let stored = ap named_columns (target_stored schema.tables t.table target) in
        let names = names_of schema t.referencing (named_columns columns) in
        let variables = row_variables (named_columns columns) t.referencing in
        let kinds = kinds_of target.table in
        let shape = trigger_shape schema.tables t.granularity t.event kinds in
        let around = around_trigger schema t columns d (stored_match target.table few) faults.1 faults.0 in
        let deep = around.few in
        let known = none_parts (unknown_in_filter names variables t.when) (first_of (unknown_in_action names variables) t.body)
        (subst (λ (s : List NamedColumn). unknown s ≡ None) stored parts.1) in
        let shaped = or_parts (misshaped_filter names variables t.when) (list_any (misshaped_action names variables) t.body)
        (subst (λ (s : List NamedColumn). misshaped s ≡ false) stored a.shaped) in
        ap (λ id. whole id (target_columns (table_names schema) t.table)) (target_id (table_names schema) t.table target)
        ∙ ap (whole target.place) stored
        ∙ and_from _ _ (place_is_there schema.tables target.place target.table target.there)
        (ap (of_kinds (named_columns columns)) (target_kinds_of schema.tables t.table target)
        ∙ and_from _ _
        (filter_suits names variables shape around.matches (omega arith) around.sources t.when writable.0 known.0 shaped.0)
        (all_by (action_suits schema.tables shape kinds) (map (bound_action names variables) t.body)
        (λ j b h.
        let made = made_of (bound_action names variables) t.body j b h in
        ap (action_suits schema.tables shape kinds) made.2
        ∙ action_suits_columns names variables shape around columns refl few made.0 (all_at is_action t.body writable.1 j made.0 made.1)
        (none_told (unknown_in_action names variables) t.body known.1 j made.0 made.1) (any_at (misshaped_action names variables) t.body shaped.1 j made.0 made.1))))

no_trigger : (schema : Schema) (place : ℕ) (k : WrittenConstraint) (t : Trigger) (P : Type 0) (o : Option Table) → alteration schema place k o ≡ plan.Schema (CreateTrigger t) → P
no_trigger schema place k t P None h = cc
no_trigger schema place k t P (Some x) h = cc

pub triggers_fit : TriggersFit
triggers_fit schema s t tables h = by s (accepted schema s (plan.Schema (CreateTrigger t)) h)
  where
    by : (x : Statement) → Accepted schema x (plan.Schema (CreateTrigger t)) → trigger_suits schema.tables t ≡ true
    by (statement.CreateTrigger x) a =
        let same : bound_trigger schema x ≡ t = let e = a.is in cc in
        ap (trigger_suits schema.tables) (sym same)
        ∙ trigger_fits schema tables x (record { known = a.known; single = a.single; allowed = a.allowed; shaped = a.shaped; small = a.small; writable = a.writable; is = refl })
    by (statement.AlterTable table k) a =
        no_trigger schema (table_id (table_names schema) table) (table_constraint k) t _ (slice_get schema.tables (table_id (table_names schema) table)) a.is
    by (statement.Insert i) a = let e = a.is in cc
    by (statement.Update u) a = let e = a.is in cc
    by (statement.Delete e) a = let f = a.is in cc
    by (statement.Select x) a = let e = a.is in cc
    by (statement.CreateTable name elements) a = let e = a.is in cc
    by (statement.DropTrigger name) a = let e = a.is in cc
    by statement.StartTransaction a = let e = a.is in cc
    by statement.Commit a = let e = a.is in cc
    by statement.Rollback a = let e = a.is in cc
    by (statement.Savepoint name) a = let e = a.is in cc
    by (statement.Release name) a = let e = a.is in cc
    by (statement.RollbackTo name) a = let e = a.is in cc
    by (statement.SetConstraints l m) a = let e = a.is in cc
