-- What the functions say, by what those that they call say.
use Rattle.std.proofs.Common.{◌≡◌, ℕ, ◌+◌, ◌≤◌, ◌<◌, true, List, [], ◌∷◌, ◌++◌, ◌∙◌, Option, Some, IfSome, Result, Ok, Err, IfOk, OnOk, refl, sym, ap, subst, filter, length, map, take, drop, get_or, slice_get, append-nil, append_assoc}
use Rattle.std.proofs.lemmas.List.{drop_more, length-map}
use Rattle.iv_catalogue.specs.Catalogues.{Schema}
use Rattle.iv_machine.specs.Machine.{State}
use Rattle.iv_restate.specs.Statements.{add_constraint}
use Rattle.iv_dump.specs.declared.refusal.DumpRefusal.{DumpRefusal}
use Rattle.iv_dump.specs.Types.{Value, Statement, Table, Constraint, Trigger}
use Rattle.iv_dump.specs.Scripts.{AreScripts}
use Rattle.iv_dump.specs.Dumps.{AreDump, AreOf, IsDump, has_null_after_key, is_other, is_own_key, rows_named, rows_of}
use Rattle.iv_dump.specs.Making.{Adds, Creates, Filled, Makes, Triggers, own_count}
use Rattle.iv_dump.proofs.Adding.{all_scripts}
use Rattle.iv_dump.proofs.Made.{late_makes, makes_added, makes_then, tables_more, whole_dump}
use Rattle.iv_dump.proofs.Owned.{first_of_first, late_own, own_makes, table_makes}

abbrev Done : Type 0
Done = Result (Unit {0}) DumpRefusal

pub addition_made : (tables : List Table) (a b : Filled) (k : Constraint) (s : Statement) (r : Done) → add_constraint tables k ≡ Some s
    → OnOk r (Adds a b (s ∷ [])) → OnOk r ((more : List Constraint) → Makes tables a b [] [] (k ∷ more) more)
addition_made tables a b k s (Ok u) e h = λ more. makes_added tables a b k s more h e
addition_made tables a b k s (Err x) e h = tt {0}

pub late_made : (tables : List Table) (a c d : Filled) (t : Table) (rows : List (List Value)) (own others keys : List Constraint) (r : Done)
    → others ≡ filter is_other own → keys ≡ filter is_own_key own → Creates tables t a c others rows → OnOk r (Makes tables c d [] [] keys [])
    → OnOk r ((left : List Constraint) → AreOf tables t own → has_null_after_key own ≡ true → Makes tables a d (t ∷ []) (rows ∷ []) (own ++ left) left)
late_made tables a c d t rows own others keys (Ok u) e f m k =
    late_makes tables a c d t rows own (subst (λ ks. Creates tables t a c ks rows) e m) (subst (λ ks. Makes tables c d [] [] ks []) f k)
late_made tables a c d t rows own others keys (Err x) e f m k = tt {0}

if_some : (o : Option Table) (t : Table) (P : Table → Type 0) → o ≡ Some t → P t → IfSome o P
if_some o t P e h = subst (λ x. IfSome x P) (sym e) h

pub own_if : (tables : List Table) (a c : Filled) (t : Table) (place : ℕ) (rows : List (List Value)) (ks own made left : List Constraint) (count : ℕ)
    → Creates tables t a c made rows → slice_get tables place ≡ Some t → own ≡ take (own_count place ks) ks → count ≤ length own → made ≡ take count ks
    → left ≡ drop count ks → IfSome (slice_get tables place) (λ x. Makes tables a c (x ∷ []) (rows ∷ []) ks left)
own_if tables a c t place rows ks own made left count m at e few f l =
    if_some (slice_get tables place) t (λ x. Makes tables a c (x ∷ []) (rows ∷ []) ks left) at
    (subst (λ xs. Makes tables a c (t ∷ []) (rows ∷ []) ks xs) (sym l)
    (own_makes tables a c t place rows ks count at within (subst (λ xs. Creates tables t a c xs rows) (f ∙ sym (first_of_first count (own_count place ks) ks within)) m))) where
      within : count ≤ length (take (own_count place ks) ks)
      within = subst (λ xs. count ≤ length xs) e few

abbrev Late : List Table → Filled → Filled → Table → List (List Value) → List Constraint → Type 0
Late tables a d t rows own = (rest : List Constraint) → AreOf tables t own → has_null_after_key own ≡ true → Makes tables a d (t ∷ []) (rows ∷ []) (own ++ rest) rest

pub late_if : (tables : List Table) (a d : Filled) (t : Table) (place : ℕ) (rows : List (List Value)) (ks own left : List Constraint)
    → Late tables a d t rows own → slice_get tables place ≡ Some t → own ≡ take (own_count place ks) ks → left ≡ drop (own_count place ks) ks
    → has_null_after_key own ≡ true → IfSome (slice_get tables place) (λ x. Makes tables a d (x ∷ []) (rows ∷ []) ks left)
late_if tables a d t place rows ks own left m at e l null =
    if_some (slice_get tables place) t (λ x. Makes tables a d (x ∷ []) (rows ∷ []) ks left) at
    (subst (λ xs. Makes tables a d (t ∷ []) (rows ∷ []) ks xs) (sym l)
    (late_own tables a d t place rows ks at (ap has_null_after_key (sym e) ∙ null) (subst (Late tables a d t rows) e m)))

pub table_if : {L : Type 0} (now : L → List Constraint) (tables : List Table) (a b c : Filled) (place n : ℕ) (rows : List (List Value)) (ks earlier rest : List Constraint)
    (r : Result L DumpRefusal) → earlier ≡ take n ks → rest ≡ drop n ks → Makes tables a b [] [] earlier []
    → IfOk r (λ l. IfSome (slice_get tables place) (λ t. Makes tables b c (t ∷ []) (rows ∷ []) rest (now l)))
    → IfOk r (λ l. IfSome (slice_get tables place) (λ t. Makes tables a c (t ∷ []) (rows ∷ []) ks (now l)))
table_if now tables a b c place n rows ks earlier rest (Ok l) e f m h =
    table_makes tables a b c place n rows ks (now l) (subst (λ xs. Makes tables a b [] [] xs []) e m)
    (subst (λ xs. IfSome (slice_get tables place) (λ t. Makes tables b c (t ∷ []) (rows ∷ []) xs (now l))) f h)
table_if now tables a b c place n rows ks earlier rest (Err x) e f m h = tt {0}

pub tables_step : (tables : List Table) (a b c : Filled) (lists : List (List (List Value))) (rows seen : List (List Value)) (place n : ℕ) (ks ls ms : List Constraint)
    → (length lists ≡ length tables → Makes tables a b (take n tables) (take n lists) ks ls)
    → IfSome (slice_get tables place) (λ t. Makes tables b c (t ∷ []) (seen ∷ []) ls ms)
    → place ≡ n → seen ≡ rows → n < length lists → rows ≡ get_or lists n rows
    → length lists ≡ length tables → Makes tables a c (take (n + 1) tables) (take (n + 1) lists) ks ms
tables_step tables a b c lists rows seen place n ks ls ms f g p s h i l =
    tables_more tables a b c lists rows n ks ls ms h i l (f l)
    (subst (λ x. IfSome (slice_get tables n) (λ t. Makes tables b c (t ∷ []) (x ∷ []) ls ms)) s
    (subst (λ x. IfSome (slice_get tables x) (λ t. Makes tables b c (t ∷ []) (seen ∷ []) ls ms)) p g))

-- the statements of all parts, and what the scripts have
abbrev pub Whole : Schema → List (List (List Value)) → Filled → Type 0
Whole schema lists new = (statements : List Statement) × IsDump schema lists statements × Adds ([], []) new statements

pub whole_if : (schema : Schema) (lists : List (List (List Value))) (ts : List Table) (ks left : List Constraint) (gs : List Trigger) (a b c d : Filled) (r : Done)
    → (length lists ≡ length ts → Makes ts a b ts lists ks left) → Makes ts b c [] [] left [] → OnOk r (Triggers ts c d gs [])
    → ts ≡ schema.tables → ks ≡ schema.constraints → gs ≡ schema.triggers
    → OnOk r (length lists ≡ length schema.tables → a ≡ ([], []) → Whole schema lists d)
whole_if schema lists ts ks left gs a b c d (Err x) f m g et ek eg = tt {0}
whole_if schema lists ts ks left gs a b c d (Ok u) f m g et ek eg = λ l start.
    let first : Makes ts a b ts lists ks left = f (l ∙ ap length (sym et)) in
    let both : Makes ts a c ts lists ks [] = makes_all ts a b c lists ks left first m in
    let moved : Makes schema.tables a c schema.tables lists ks [] = subst (λ x. Makes x a c x lists ks []) et both in
    let begun : Makes schema.tables ([], []) c schema.tables lists schema.constraints [] =
    subst (λ x. Makes schema.tables ([], []) c schema.tables lists x []) ek (subst (λ x. Makes schema.tables x c schema.tables lists ks []) start moved) in
    let ended : Triggers schema.tables c d schema.triggers [] = subst (λ x. Triggers schema.tables c d x []) eg (subst (λ x. Triggers x c d gs []) et g) in
    whole_dump schema lists c d begun ended where
      makes_all : (ts : List Table) (a b c : Filled) (lists : List (List (List Value))) (ks left : List Constraint) → Makes ts a b ts lists ks left → Makes ts b c [] [] left []
          → Makes ts a c ts lists ks []
      makes_all ts a b c lists ks left f m =
          subst (λ x. Makes ts a c x lists ks []) (append-nil ts) (subst (λ x. Makes ts a c (ts ++ []) x ks []) (append-nil lists)
          (makes_then ts a b c ts [] lists [] ks left [] f m))

pub dump_if : {L : Type 0} (r : Result L DumpRefusal) (texts : L → List (List ℕ)) (s : State) (schema : Schema) (lists : List (List (List Value))) (start new : Filled)
    → (length lists ≡ length schema.tables → start ≡ ([], []) → Whole schema lists new) → IfOk r (λ x. texts x ≡ new.0 ++ new.1 ∷ [])
    → schema ≡ s.schema → lists ≡ rows_of s → start ≡ ([], []) → IfOk r (λ x. AreDump s (texts x))
dump_if (Err x) texts s schema lists start new f t es el e = tt {0}
dump_if (Ok x) texts s schema lists start new f t es el e =
    let long : length lists ≡ length schema.tables = ap length el ∙ length-map s.schema.tables (λ (t : Table). rows_named s t.name) ∙ ap (λ (y : Schema). length y.tables) (sym es) in
    let whole : Whole schema lists new = f long e in
    record {
      statements = whole.0;
      dump = subst (λ (y : Schema). IsDump y (rows_of s) whole.0) es (subst (λ ys. IsDump schema ys whole.0) el whole.1);
      scripts_are = subst (AreScripts whole.0) (sym t) (all_scripts new whole.0 whole.2);
    }

-- the rows of the table at the next place
pub rows_more : (s : State) (tables : List Table) (n : ℕ) (lists new : List (List (List Value))) (t : Table) (rows : List (List Value))
    → lists ++ map (λ (x : Table). rows_named s x.name) (drop n tables) ≡ map (λ (x : Table). rows_named s x.name) tables
    → n < length tables → t ≡ get_or tables n t → rows ≡ rows_named s t.name → new ≡ lists ++ rows ∷ []
    → new ++ map (λ (x : Table). rows_named s x.name) (drop (n + 1) tables) ≡ map (λ (x : Table). rows_named s x.name) tables
rows_more s tables n lists new t rows so_far within at found pushed =
    let each : List Table → List (List (List Value)) = map (λ (x : Table). rows_named s x.name) in
    ap (λ xs. xs ++ each (drop (n + 1) tables)) pushed
    ∙ append_assoc lists (rows ∷ []) (each (drop (n + 1) tables))
    ∙ ap (λ r. lists ++ r ∷ each (drop (n + 1) tables)) found
    ∙ ap (λ (x : Table). lists ++ rows_named s x.name ∷ each (drop (n + 1) tables)) at
    ∙ ap (λ xs. lists ++ each xs) (sym (drop_more tables n t within))
    ∙ so_far
