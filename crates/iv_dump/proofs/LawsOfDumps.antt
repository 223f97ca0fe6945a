-- What follows for every dump.
use Rattle.std.proofs.Common.{◌≡◌, ℕ, ◌+◌, Bool, true, false, ◌&&◌, List, [], ◌∷◌, ◌++◌, ◌∙◌, Option, Some, None, refl, sym, ap, subst, map, append-nil, append_assoc, take-append-drop}
use Rattle.std.specs.Prelude.{flat_map, filter_map, option_map}
use Rattle.std.specs.List.{list_all}
use Rattle.std.proofs.lemmas.Grind.{flat_map-append}
use Rattle.std.proofs.lemmas.List.{map-append}
use Rattle.iv_syntax.specs.declared.statement.ConstraintMode.{ConstraintMode}
use Rattle.iv_syntax.specs.declared.statement.ConstraintMode.TheVariants as mode
use Rattle.iv_syntax.specs.declared.statement.Insert.{Insert}
use Rattle.iv_syntax.specs.declared.statement.ValueOrDefault.{ValueOrDefault}
use Rattle.iv_syntax.specs.declared.table.TableConstraint.{TableConstraint}
use Rattle.iv_syntax.specs.declared.table.TableElement.TheVariants as element
use Rattle.iv_syntax.specs.declared.table.TableRule.{TableRule}
use Rattle.iv_syntax.specs.declared.trigger.TriggerDefinition.{TriggerDefinition}
use Rattle.iv_catalogue.specs.declared.catalogue.Column.{Column}
use Rattle.iv_resolution.specs.Constraints.{is_deferrable, initial_mode, column_constraint, element_constraints, written_constraints}
use Rattle.iv_restate.specs.Constraints.{column_constraint_of, columns_at, table_constraint_of, table_name_at, table_rule_of, time_of, with_rule, written_name}
use Rattle.iv_restate.specs.Statements.{after_null, before_null, column_element, constraint_elements, count_before, count_up_to, elements_of, from_null, tuple_of, up_to_null}
use Rattle.iv_restate.specs.TableLaws.{AreInOrder, AreOfTable, IsOfTable}
use Rattle.iv_restate.specs.Triggers.{CreatesTrigger}
use Rattle.iv_dump.specs.Types.{Value, Statement, Table, Rule, Constraint, Trigger}
use Rattle.iv_dump.specs.Types.statement
use Rattle.iv_dump.specs.Types.rule
use Rattle.iv_dump.specs.Dumps.{AreParts, Batch, CreateTriggers, Part, added, batch_rows, batch_statements, created, part_constraints, part_rows, part_statements, part_tables}
use Rattle.iv_dump.specs.DumpLaws.{ConstraintsAreSaid, EachInOrder, InsertsAreCommitted, RowsAreInserted, Said, TriggersAreLast, begins_with_commit, inserted, is_trigger, said, said_by, said_of, tuples_of}

-- ---- triggers

no_true : ◌≡◌ {A = Bool} false true → ⊥
no_true e = cc

-- none of these is a CREATE TRIGGER
abbrev NoTrigger : List Statement → Type 0
NoTrigger [] = Unit {0}
NoTrigger (s ∷ ss) = (is_trigger s ≡ false) × NoTrigger ss

no_trigger_both : (xs ys : List Statement) → NoTrigger xs → NoTrigger ys → NoTrigger (xs ++ ys)
no_trigger_both [] ys h i = i
no_trigger_both (x ∷ xs) ys (h, hs) i = (h, no_trigger_both xs ys hs i)

no_trigger_rows : (name : List ℕ) (batches : List Batch) → NoTrigger (flat_map (batch_statements name) batches)
no_trigger_rows name [] = tt {0}
no_trigger_rows name (b ∷ batches) = (refl, (refl, no_trigger_rows name batches))

added_some : (tables : List Table) (k : Constraint) (w : TableConstraint) → table_constraint_of tables k ≡ Some w
    → part_statements tables (added k) ≡ statement.AlterTable (table_name_at tables k.table) w ∷ []
added_some tables k w e =
    ap (λ o. elim (option_map (statement.AlterTable (table_name_at tables k.table)) o) as (λ _. List Statement) [ Some s ↦ s ∷ [] | None ↦ [] ]) e

added_none : (tables : List Table) (k : Constraint) → table_constraint_of tables k ≡ None → part_statements tables (added k) ≡ []
added_none tables k e =
    ap (λ o. elim (option_map (statement.AlterTable (table_name_at tables k.table)) o) as (λ _. List Statement) [ Some s ↦ s ∷ [] | None ↦ [] ]) e

no_trigger_added : (tables : List Table) (k : Constraint) (o : Option TableConstraint) → table_constraint_of tables k ≡ o → NoTrigger (part_statements tables (added k))
no_trigger_added tables k (Some w) e = subst NoTrigger (sym (added_some tables k w e)) (refl, tt {0})
no_trigger_added tables k None e = subst NoTrigger (sym (added_none tables k e)) (tt {0})

no_trigger_part : (tables : List Table) (p : Part) → NoTrigger (part_statements tables p)
no_trigger_part tables (created t constraints batches) = (refl, no_trigger_rows t.name batches)
no_trigger_part tables (added k) = no_trigger_added tables k (table_constraint_of tables k) refl

no_trigger_parts : (tables : List Table) (parts : List Part) → NoTrigger (flat_map (part_statements tables) parts)
no_trigger_parts tables [] = tt {0}
no_trigger_parts tables (p ∷ parts) =
    no_trigger_both (part_statements tables p) (flat_map (part_statements tables) parts) (no_trigger_part tables p) (no_trigger_parts tables parts)

is_created : (tables : List Table) (t : Trigger) (s : Statement) → CreatesTrigger tables t s → is_trigger s ≡ true
is_created tables t (statement.CreateTrigger d) h = refl
is_created tables t (statement.CreateTable n es) h = absurd h
is_created tables t (statement.AlterTable n c) h = absurd h
is_created tables t (statement.DropTrigger n) h = absurd h
is_created tables t (statement.Insert i) h = absurd h
is_created tables t (statement.Update u) h = absurd h
is_created tables t (statement.Delete d) h = absurd h
is_created tables t (statement.Select q) h = absurd h
is_created tables t statement.StartTransaction h = absurd h
is_created tables t statement.Commit h = absurd h
is_created tables t statement.Rollback h = absurd h
is_created tables t (statement.Savepoint n) h = absurd h
is_created tables t (statement.Release n) h = absurd h
is_created tables t (statement.RollbackTo n) h = absurd h
is_created tables t (statement.SetConstraints l m) h = absurd h

all_triggers : (tables : List Table) (ts : List Trigger) (ss : List Statement) → CreateTriggers tables ts ss → list_all is_trigger ss ≡ true
all_triggers tables [] [] h = refl
all_triggers tables [] (s ∷ ss) h = absurd h
all_triggers tables (t ∷ ts) [] h = absurd h
all_triggers tables (t ∷ ts) (s ∷ ss) (h, hs) = ap (λ b. b && list_all is_trigger ss) (is_created tables t s h) ∙ all_triggers tables ts ss hs

head_of : (x y : Statement) (xs ys : List Statement) → x ∷ xs ≡ y ∷ ys → x ≡ y
head_of x y xs ys e = cc

tail_of : (x y : Statement) (xs ys : List Statement) → x ∷ xs ≡ y ∷ ys → xs ≡ ys
tail_of x y xs ys e = cc

no_cons : (y : Statement) (ys : List Statement) → ◌≡◌ {A = List Statement} [] (y ∷ ys) → ⊥
no_cons y ys e = cc

and_second : (a b : Bool) → a && b ≡ true → b ≡ true
and_second true b e = e
and_second false b e = absurd (no_true e)

-- among triggers only triggers come after one
after_one : (before after ts : List Statement) (t : TriggerDefinition) → ts ≡ before ++ statement.CreateTrigger t ∷ after → list_all is_trigger ts ≡ true
    → list_all is_trigger after ≡ true
after_one [] after [] t e h = absurd (no_cons (statement.CreateTrigger t) after e)
after_one [] after (x ∷ ts) t e h =
    ap (list_all is_trigger) (sym (tail_of x (statement.CreateTrigger t) ts after e)) ∙ and_second (is_trigger x) (list_all is_trigger ts) h
after_one (b ∷ before) after [] t e h = absurd (no_cons b (before ++ statement.CreateTrigger t ∷ after) e)
after_one (b ∷ before) after (x ∷ ts) t e h =
    after_one before after ts t (tail_of x b ts (before ++ statement.CreateTrigger t ∷ after) e) (and_second (is_trigger x) (list_all is_trigger ts) h)

last_by : (ps before after ts : List Statement) (t : TriggerDefinition) → NoTrigger ps → list_all is_trigger ts ≡ true
    → ps ++ ts ≡ before ++ statement.CreateTrigger t ∷ after → list_all is_trigger after ≡ true
last_by [] before after ts t n h e = after_one before after ts t e h
last_by (p ∷ ps) [] after ts t (n, ns) h e =
    absurd (no_true (sym n ∙ ap is_trigger (head_of p (statement.CreateTrigger t) (ps ++ ts) after e)))
last_by (p ∷ ps) (b ∷ before) after ts t (n, ns) h e =
    last_by ps before after ts t ns h (tail_of p b (ps ++ ts) (before ++ statement.CreateTrigger t ∷ after) e)

pub triggers_last : TriggersAreLast
triggers_last schema rows before after t d =
    last_by (flat_map (part_statements schema.tables) d.parts) before after d.triggers t (no_trigger_parts schema.tables d.parts)
    (all_triggers schema.tables schema.triggers d.triggers d.last) (sym d.written)

-- ---- rows

abbrev Tuple : Type 0
Tuple = List ℕ × List ValueOrDefault

with_name : (name : List ℕ) (rows : List (List Value)) → map {B = Tuple} (λ (tuple : List ValueOrDefault). (name, tuple)) (map tuple_of rows) ≡ map {B = Tuple} (λ (row : List Value). (name, tuple_of row)) rows
with_name name [] = refl
with_name name (r ∷ rows) = ap (λ xs. (name, tuple_of r) ∷ xs) (with_name name rows)

rows_inserted : (name : List ℕ) (batches : List Batch)
    → flat_map inserted (flat_map (batch_statements name) batches) ≡ map {B = Tuple} (λ (row : List Value). (name, tuple_of row)) (flat_map batch_rows batches)
rows_inserted name [] = refl
rows_inserted name (b ∷ batches) =
    ap (λ (xs : List Tuple). xs ++ flat_map inserted (flat_map (batch_statements name) batches)) (with_name name (batch_rows b))
    ∙ ap (λ (xs : List Tuple). map {B = Tuple} (λ (row : List Value). (name, tuple_of row)) (batch_rows b) ++ xs) (rows_inserted name batches)
    ∙ sym (map-append {B = Tuple} (λ (row : List Value). (name, tuple_of row)) (batch_rows b) (flat_map batch_rows batches))

none_added : (tables : List Table) (k : Constraint) (o : Option TableConstraint) → table_constraint_of tables k ≡ o → flat_map inserted (part_statements tables (added k)) ≡ []
none_added tables k (Some w) e = ap (flat_map inserted) (added_some tables k w e)
none_added tables k None e = ap (flat_map inserted) (added_none tables k e)

parts_inserted : (tables : List Table) (parts : List Part)
    → flat_map inserted (flat_map (part_statements tables) parts) ≡ tuples_of (flat_map part_tables parts) (flat_map part_rows parts)
parts_inserted tables [] = refl
parts_inserted tables (created t constraints batches ∷ parts) =
    flat_map-append inserted (flat_map (batch_statements t.name) batches) (flat_map (part_statements tables) parts)
    ∙ ap (λ (xs : List Tuple). xs ++ flat_map inserted (flat_map (part_statements tables) parts)) (rows_inserted t.name batches)
    ∙ ap (λ (xs : List Tuple). map {B = Tuple} (λ (row : List Value). (t.name, tuple_of row)) (flat_map batch_rows batches) ++ xs) (parts_inserted tables parts)
parts_inserted tables (added k ∷ parts) =
    flat_map-append inserted (part_statements tables (added k)) (flat_map (part_statements tables) parts)
    ∙ ap (λ (xs : List Tuple). xs ++ flat_map inserted (flat_map (part_statements tables) parts)) (none_added tables k (table_constraint_of tables k) refl)
    ∙ parts_inserted tables parts

none_created : (tables : List Table) (ts : List Trigger) (ss : List Statement) → CreateTriggers tables ts ss → flat_map inserted ss ≡ []
none_created tables [] [] h = refl
none_created tables [] (s ∷ ss) h = absurd h
none_created tables (t ∷ ts) [] h = absurd h
none_created tables (t ∷ ts) (s ∷ ss) (h, hs) =
    ap (λ (xs : List Tuple). xs ++ flat_map inserted ss) (not_inserted s (is_created tables t s h)) ∙ none_created tables ts ss hs where
      not_inserted : (s : Statement) → is_trigger s ≡ true → inserted s ≡ []
      not_inserted (statement.CreateTrigger d) e = refl
      not_inserted (statement.CreateTable n es) e = refl
      not_inserted (statement.AlterTable n c) e = refl
      not_inserted (statement.DropTrigger n) e = refl
      not_inserted (statement.Insert i) e = absurd (no_true e)
      not_inserted (statement.Update u) e = refl
      not_inserted (statement.Delete d) e = refl
      not_inserted (statement.Select q) e = refl
      not_inserted statement.StartTransaction e = refl
      not_inserted statement.Commit e = refl
      not_inserted statement.Rollback e = refl
      not_inserted (statement.Savepoint n) e = refl
      not_inserted (statement.Release n) e = refl
      not_inserted (statement.RollbackTo n) e = refl
      not_inserted (statement.SetConstraints l m) e = refl

pub rows_are_inserted : RowsAreInserted
rows_are_inserted schema rows statements d =
    ap (flat_map inserted) d.written
    ∙ flat_map-append inserted (flat_map (part_statements schema.tables) d.parts) d.triggers
    ∙ ap (λ (xs : List Tuple). xs ++ flat_map inserted d.triggers) (parts_inserted schema.tables d.parts)
    ∙ ap (λ (xs : List Tuple). tuples_of (flat_map part_tables d.parts) (flat_map part_rows d.parts) ++ xs) (none_created schema.tables schema.triggers d.triggers d.last)
    ∙ append-nil (tuples_of (flat_map part_tables d.parts) (flat_map part_rows d.parts))
    ∙ ap (λ ts. tuples_of ts (flat_map part_rows d.parts)) d.tables
    ∙ ap (tuples_of schema.tables) d.contents

-- ---- COMMIT

abbrev Next : Statement → List Statement → Type 0
Next (statement.Insert i) ss = begins_with_commit ss ≡ true
Next _ ss = Unit {0}

abbrev Committed : List Statement → Type 0
Committed [] = Unit {0}
Committed (s ∷ ss) = Next s ss × Committed ss

committed_rows : (name : List ℕ) (batches : List Batch) (rest : List Statement) → Committed rest → Committed (flat_map (batch_statements name) batches ++ rest)
committed_rows name [] rest h = h
committed_rows name (b ∷ batches) rest h = (refl, (tt {0}, committed_rows name batches rest h))

committed_added : (tables : List Table) (k : Constraint) (rest : List Statement) (o : Option TableConstraint) → table_constraint_of tables k ≡ o → Committed rest
    → Committed (part_statements tables (added k) ++ rest)
committed_added tables k rest (Some w) e h = subst (λ ss. Committed (ss ++ rest)) (sym (added_some tables k w e)) (tt {0}, h)
committed_added tables k rest None e h = subst (λ ss. Committed (ss ++ rest)) (sym (added_none tables k e)) h

committed_parts : (tables : List Table) (parts : List Part) (rest : List Statement) → Committed rest → Committed (flat_map (part_statements tables) parts ++ rest)
committed_parts tables [] rest h = h
committed_parts tables (created t constraints batches ∷ parts) rest h = (
  tt {0},
  subst Committed (sym (append_assoc (flat_map (batch_statements t.name) batches) (flat_map (part_statements tables) parts) rest))
      (committed_rows t.name batches (flat_map (part_statements tables) parts ++ rest) (committed_parts tables parts rest h)),
)
committed_parts tables (added k ∷ parts) rest h =
    subst Committed (sym (append_assoc (part_statements tables (added k)) (flat_map (part_statements tables) parts) rest))
    (committed_added tables k (flat_map (part_statements tables) parts ++ rest) (table_constraint_of tables k) refl (committed_parts tables parts rest h))

committed_trigger : (s : Statement) (ss : List Statement) → is_trigger s ≡ true → Next s ss
committed_trigger (statement.CreateTrigger d) ss e = tt {0}
committed_trigger (statement.CreateTable n es) ss e = tt {0}
committed_trigger (statement.AlterTable n c) ss e = tt {0}
committed_trigger (statement.DropTrigger n) ss e = tt {0}
committed_trigger (statement.Insert i) ss e = absurd (no_true e)
committed_trigger (statement.Update u) ss e = tt {0}
committed_trigger (statement.Delete d) ss e = tt {0}
committed_trigger (statement.Select q) ss e = tt {0}
committed_trigger statement.StartTransaction ss e = tt {0}
committed_trigger statement.Commit ss e = tt {0}
committed_trigger statement.Rollback ss e = tt {0}
committed_trigger (statement.Savepoint n) ss e = tt {0}
committed_trigger (statement.Release n) ss e = tt {0}
committed_trigger (statement.RollbackTo n) ss e = tt {0}
committed_trigger (statement.SetConstraints l m) ss e = tt {0}

committed_triggers : (tables : List Table) (ts : List Trigger) (ss : List Statement) → CreateTriggers tables ts ss → Committed ss
committed_triggers tables [] [] h = tt {0}
committed_triggers tables [] (s ∷ ss) h = absurd h
committed_triggers tables (t ∷ ts) [] h = absurd h
committed_triggers tables (t ∷ ts) (s ∷ ss) (h, hs) = (committed_trigger s ss (is_created tables t s h), committed_triggers tables ts ss hs)

next_of : (before after : List Statement) (i : Insert) → Committed (before ++ statement.Insert i ∷ after) → begins_with_commit after ≡ true
next_of [] after i h = h.0
next_of (b ∷ before) after i h = next_of before after i h.1

pub inserts_committed : InsertsAreCommitted
inserts_committed schema rows before after i d =
    next_of before after i (subst Committed (sym d.written)
    (committed_parts schema.tables d.parts d.triggers (committed_triggers schema.tables schema.triggers d.triggers d.last)))

-- ---- constraints

said_as : (d : Bool) (m : ConstraintMode) (name : Option (List ℕ)) → ◌≡◌ {A = Said} (record { name = name; deferrable = is_deferrable (time_of d m); initially = initial_mode (time_of d m) }) (record { name = name; deferrable = d; initially = m })
said_as true mode.Immediate name = refl
said_as false mode.Immediate name = refl
said_as d mode.Deferred name = refl

-- as elements of their own
of_a_table : (tables : List Table) (k : Constraint) (r : Rule) → k.rule ≡ r → IsOfTable r
    → (w : TableRule) × (table_rule_of tables (columns_at tables k.table) k.rule ≡ Some w)
of_a_table tables k (rule.NotNull p) e h = absurd h
of_a_table tables k (rule.Check c) e h = rw e (_, refl)
of_a_table tables k (rule.Unique nulls places) e h = rw e (_, refl)
of_a_table tables k (rule.PrimaryKey places) e h = rw e (_, refl)
of_a_table tables k (rule.ForeignKey f) e h = rw e (_, refl)

written_of : (tables : List Table) (k : Constraint) → IsOfTable k.rule → (w : TableRule) × (table_constraint_of tables k ≡ Some (with_rule k w))
written_of tables k h =
    let w = of_a_table tables k k.rule refl h in
    (w.0, ap (λ o. elim o as (λ _. Option TableConstraint) [ Some x ↦ Some (with_rule k x) | None ↦ None ]) w.1)

filter_one : (tables : List Table) (k : Constraint) (ks : List Constraint) (w : TableConstraint) → table_constraint_of tables k ≡ Some w
    → filter_map (table_constraint_of tables) (k ∷ ks) ≡ w ∷ filter_map (table_constraint_of tables) ks
filter_one tables k ks w e = rw e refl

own_said : (tables : List Table) (ks : List Constraint) → AreOfTable ks → map said_by (written_constraints (constraint_elements tables ks)) ≡ map said_of ks
own_said tables [] h = refl
own_said tables (k ∷ ks) (h, hs) =
    let w = written_of tables k h in
    ap (λ ws. map said_by (written_constraints (map element.Constraint ws))) (filter_one tables k ks (with_rule k w.0) w.1)
    ∙ ap (λ x. x ∷ map said_by (written_constraints (constraint_elements tables ks))) (said_as k.deferrable k.initially (written_name k.name))
    ∙ ap (λ xs. said_of k ∷ xs) (own_said tables ks hs)

-- in a column
column_said : (tables : List Table) (name : List ℕ) (ks : List Constraint)
    → map said_by (map (column_constraint name) (map (column_constraint_of tables) ks)) ≡ map said_of ks
column_said tables name [] = refl
column_said tables name (k ∷ ks) =
    ap (λ x. x ∷ map said_by (map (column_constraint name) (map (column_constraint_of tables) ks))) (said_as k.deferrable k.initially (written_name k.name))
    ∙ ap (λ xs. said_of k ∷ xs) (column_said tables name ks)

elements_said : (tables : List Table) (place : ℕ) (columns : List Column) (ks : List Constraint) → AreInOrder place columns ks
    → map said_by (written_constraints (elements_of tables place columns ks)) ≡ map said_of ks
elements_said tables place [] ks h = own_said tables ks h
elements_said tables place (c ∷ columns) ks (before, own, after) =
    let first = before_null place ks in
    let middle = up_to_null place (from_null place ks) in
    let last = after_null place (from_null place ks) in
    let rest = elements_of tables (place + 1) columns last in
    let inside = map (column_constraint c.name) (map (column_constraint_of tables) middle) in
    let all : first ++ (middle ++ last) ≡ ks =
    ap (λ xs. first ++ xs) (take-append-drop (count_up_to place (from_null place ks)) (from_null place ks)) ∙ take-append-drop (count_before place ks) ks in
    ap (map said_by) (flat_map-append element_constraints (constraint_elements tables first) (column_element tables c middle ∷ rest))
    ∙ map-append said_by (written_constraints (constraint_elements tables first)) (inside ++ written_constraints rest)
    ∙ ap (λ xs. xs ++ map said_by (inside ++ written_constraints rest)) (own_said tables first before)
    ∙ ap (λ xs. map said_of first ++ xs) (map-append said_by inside (written_constraints rest)
    ∙ ap (λ xs. xs ++ map said_by (written_constraints rest)) (column_said tables c.name middle)
    ∙ ap (λ xs. map said_of middle ++ xs) (elements_said tables (place + 1) columns last after)
    ∙ sym (map-append said_of middle last))
    ∙ sym (map-append said_of first (middle ++ last))
    ∙ ap (map said_of) all

said_rows : (name : List ℕ) (batches : List Batch) → flat_map said (flat_map (batch_statements name) batches) ≡ []
said_rows name [] = refl
said_rows name (b ∷ batches) = said_rows name batches

said_added : (tables : List Table) (k : Constraint) → IsOfTable k.rule → flat_map said (part_statements tables (added k)) ≡ said_of k ∷ []
said_added tables k h =
    let w = written_of tables k h in
    ap (flat_map said) (added_some tables k (with_rule k w.0) w.1) ∙ ap (λ x. x ∷ []) (said_as k.deferrable k.initially (written_name k.name))

said_parts : (tables : List Table) (parts : List Part) → AreParts tables parts → EachInOrder parts
    → flat_map said (flat_map (part_statements tables) parts) ≡ map said_of (flat_map part_constraints parts)
said_parts tables [] h o = refl
said_parts tables (created t constraints batches ∷ parts) (h, hs) (o, os) =
    let more = flat_map said (flat_map (part_statements tables) parts) in
    ap (λ xs. map said_by (written_constraints (elements_of tables 0 t.columns constraints)) ++ xs)
    (flat_map-append said (flat_map (batch_statements t.name) batches) (flat_map (part_statements tables) parts)
    ∙ ap (λ xs. xs ++ more) (said_rows t.name batches) ∙ said_parts tables parts hs os)
    ∙ ap (λ xs. xs ++ map said_of (flat_map part_constraints parts)) (elements_said tables 0 t.columns constraints o)
    ∙ sym (map-append said_of constraints (flat_map part_constraints parts))
said_parts tables (added k ∷ parts) (h, hs) o =
    flat_map-append said (part_statements tables (added k)) (flat_map (part_statements tables) parts)
    ∙ ap (λ xs. xs ++ flat_map said (flat_map (part_statements tables) parts)) (said_added tables k h)
    ∙ ap (λ xs. said_of k ∷ xs) (said_parts tables parts hs o)

said_triggers : (tables : List Table) (ts : List Trigger) (ss : List Statement) → CreateTriggers tables ts ss → flat_map said ss ≡ []
said_triggers tables [] [] h = refl
said_triggers tables [] (s ∷ ss) h = absurd h
said_triggers tables (t ∷ ts) [] h = absurd h
said_triggers tables (t ∷ ts) (s ∷ ss) (h, hs) =
    ap (λ xs. xs ++ flat_map said ss) (not_said s (is_created tables t s h)) ∙ said_triggers tables ts ss hs where
      not_said : (s : Statement) → is_trigger s ≡ true → said s ≡ []
      not_said (statement.CreateTrigger d) e = refl
      not_said (statement.CreateTable n es) e = absurd (no_true e)
      not_said (statement.AlterTable n c) e = absurd (no_true e)
      not_said (statement.DropTrigger n) e = refl
      not_said (statement.Insert i) e = refl
      not_said (statement.Update u) e = refl
      not_said (statement.Delete d) e = refl
      not_said (statement.Select q) e = refl
      not_said statement.StartTransaction e = refl
      not_said statement.Commit e = refl
      not_said statement.Rollback e = refl
      not_said (statement.Savepoint n) e = refl
      not_said (statement.Release n) e = refl
      not_said (statement.RollbackTo n) e = refl
      not_said (statement.SetConstraints l m) e = refl

pub constraints_said : ConstraintsAreSaid
constraints_said schema rows statements d o = (
  flat_map part_constraints d.parts,
  d.constraints,
  ap (flat_map said) d.written
      ∙ flat_map-append said (flat_map (part_statements schema.tables) d.parts) d.triggers
      ∙ ap (λ xs. xs ++ flat_map said d.triggers) (said_parts schema.tables d.parts d.formed o)
      ∙ ap (λ xs. map said_of (flat_map part_constraints d.parts) ++ xs) (said_triggers schema.tables schema.triggers d.triggers d.last)
      ∙ append-nil (map said_of (flat_map part_constraints d.parts)),
)
