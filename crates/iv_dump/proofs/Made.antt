-- Parts of a dump, one after another.
use Rattle.std.proofs.Common.{◌≡◌, ℕ, zero, suc, ◌+◌, ◌<◌, ◌==◌, nat_eq, IfSome, Bool, true, false, not, cond, ◌&&◌, ◌||◌, List, [], ◌∷◌, ◌++◌, ◌∙◌, Option, Some, None, refl, sym, ap, subst, append-nil, append_assoc, filter, slice_get, arith, length, take, drop, get_or, take-append-drop, if◌then◌else◌}
use Rattle.std.specs.Prelude.{flat_map}
use Rattle.std.specs.List.{list_any}
use Rattle.std.proofs.lemmas.Grind.{flat_map-append}
use Rattle.std.proofs.lemmas.List.Folds.{list_any-append}
use Rattle.std.proofs.lemmas.List.Elements.{filter-append}
use Rattle.std.proofs.lemmas.Bool.Decides.{nat_tests}
use Rattle.std.proofs.lemmas.List.{take_more}
use Rattle.std.proofs.lemmas.Option.{get_or_from_slice_get}
use Rattle.iv_catalogue.specs.Catalogues.{Schema}
use Rattle.iv_restate.specs.Statements.{create_table, add_constraint, insert_rows}
use Rattle.iv_restate.specs.TableLaws.{IsOfTable}
use Rattle.iv_restate.specs.Triggers.{CreatesTrigger}
use Rattle.iv_dump.specs.Types.{Value, Statement, Table, Rule, Constraint, Trigger}
use Rattle.iv_dump.specs.Types.rule
use Rattle.iv_dump.specs.Types.statement
use Rattle.iv_dump.specs.Dumps.{AreOf, AreParts, Batch, CreateTriggers, IsDump, Part, added, batch_rows, batch_statements, created, has_null_after_key, is_null_in, is_other, is_own_key, part_constraints, part_rows, part_statements, part_tables}
use Rattle.iv_dump.specs.Making.{Adds, Creates, Filled, Inserts, Makes, Triggers, own_count}
use Rattle.iv_dump.proofs.Adding.{adds_nothing, adds_then}

-- ---- rows

pub inserts_nothing : (name : List ℕ) (a : Filled) (rows : List (List Value)) → Inserts name a a rows rows
inserts_nothing name a rows = record { batches = []; adds = adds_nothing a; split = refl }

one_batch : (name : List ℕ) (b c : Filled) (x : Batch) → Adds b c (batch_statements name x) → Adds b c (flat_map (batch_statements name) (x ∷ []))
one_batch name b c x h = subst (Adds b c) (sym (append-nil (batch_statements name x))) h

pub inserts_more : (name : List ℕ) (a b c : Filled) (rows left rest : List (List Value)) (x : Batch) → Inserts name a b rows left
    → Adds b c (batch_statements name x) → left ≡ batch_rows x ++ rest → Inserts name a c rows rest
inserts_more name a b c rows left rest x i h e = record {
  batches = i.batches ++ x ∷ [];
  adds = subst (Adds a c) (sym (flat_map-append (batch_statements name) i.batches (x ∷ [])))
      (adds_then a b c (flat_map (batch_statements name) i.batches) (flat_map (batch_statements name) (x ∷ [])) i.adds (one_batch name b c x h));
  split = i.split ∙ ap (λ xs. flat_map batch_rows i.batches ++ xs) e
      ∙ sym (append_assoc (flat_map batch_rows i.batches) (batch_rows x) rest)
      ∙ ap (λ xs. flat_map batch_rows i.batches ++ xs ++ rest) (sym (append-nil (batch_rows x)))
      ∙ ap (λ xs. xs ++ rest) (sym (flat_map-append batch_rows i.batches (x ∷ [])));
}

-- ---- what is left of constraints

or_right : (b c : Bool) → b || c ≡ false → c ≡ false
or_right true c e = absurd (no_true e) where
  no_true : ◌≡◌ {A = Bool} true false → ⊥
  no_true e = cc
or_right false c e = e

pub left_ordered : (taken left : List Constraint) → has_null_after_key (taken ++ left) ≡ false → has_null_after_key left ≡ false
left_ordered [] left e = e
left_ordered (k ∷ taken) left e =
    left_ordered taken left (or_right (is_own_key k && list_any (is_null_in k.table) (taken ++ left)) (has_null_after_key (taken ++ left)) e)

-- ---- parts

pub makes_nothing : (tables : List Table) (a : Filled) (ks : List Constraint) → Makes tables a a [] [] ks ks
makes_nothing tables a ks = record {
  parts = [];
  adds = adds_nothing a;
  formed = tt {0};
  made_are = refl;
  rows_are = refl;
  taken = [];
  split = refl;
  others = refl;
  own_keys = refl;
  in_order = λ h. refl;
}

formed_both : (tables : List Table) (ps qs : List Part) → AreParts tables ps → AreParts tables qs → AreParts tables (ps ++ qs)
formed_both tables [] qs h i = i
formed_both tables (p ∷ ps) qs (h, hs) i = (h, formed_both tables ps qs hs i)

filter_both : (p : Constraint → Bool) (made taken more also : List Constraint) → filter p made ≡ filter p taken → filter p more ≡ filter p also
    → filter p (made ++ more) ≡ filter p (taken ++ also)
filter_both p made taken more also e f =
    filter-append p made more ∙ ap (λ xs. xs ++ filter p more) e ∙ ap (λ xs. filter p taken ++ xs) f ∙ sym (filter-append p taken also)

pub makes_then : (tables : List Table) (a b c : Filled) (ts us : List Table) (rs qs : List (List (List Value))) (ks ls ms : List Constraint)
    → Makes tables a b ts rs ks ls → Makes tables b c us qs ls ms → Makes tables a c (ts ++ us) (rs ++ qs) ks ms
makes_then tables a b c ts us rs qs ks ls ms f g =
    let split : ks ≡ (f.taken ++ g.taken) ++ ms = f.split ∙ ap (λ xs. f.taken ++ xs) g.split ∙ sym (append_assoc f.taken g.taken ms) in
    let made : flat_map part_constraints (f.parts ++ g.parts) ≡ flat_map part_constraints f.parts ++ flat_map part_constraints g.parts = flat_map-append part_constraints f.parts g.parts in
    record {
      parts = f.parts ++ g.parts;
      adds = subst (Adds a c) (sym (flat_map-append (part_statements tables) f.parts g.parts))
          (adds_then a b c (flat_map (part_statements tables) f.parts) (flat_map (part_statements tables) g.parts) f.adds g.adds);
      formed = formed_both tables f.parts g.parts f.formed g.formed;
      made_are = flat_map-append part_tables f.parts g.parts ∙ ap (λ xs. xs ++ flat_map part_tables g.parts) f.made_are ∙ ap (λ xs. ts ++ xs) g.made_are;
      rows_are = flat_map-append part_rows f.parts g.parts ∙ ap (λ xs. xs ++ flat_map part_rows g.parts) f.rows_are ∙ ap (λ xs. rs ++ xs) g.rows_are;
      taken = f.taken ++ g.taken;
      split = split;
      others = ap (filter is_other) made
          ∙ filter_both is_other (flat_map part_constraints f.parts) f.taken (flat_map part_constraints g.parts) g.taken f.others g.others;
      own_keys = ap (filter is_own_key) made
          ∙ filter_both is_own_key (flat_map part_constraints f.parts) f.taken (flat_map part_constraints g.parts) g.taken f.own_keys g.own_keys;
      in_order = λ h. made
          ∙ ap (λ xs. xs ++ flat_map part_constraints g.parts) (f.in_order h)
          ∙ ap (λ xs. f.taken ++ xs) (g.in_order (left_ordered f.taken ls (ap has_null_after_key (sym f.split) ∙ h)));
    }

-- ---- CREATE TABLE with its rows

pub makes_created : (tables : List Table) (a b c : Filled) (t : Table) (rows : List (List Value)) (own ks ls : List Constraint)
    → Adds a b (create_table tables t own ∷ []) → Inserts t.name b c rows [] → AreOf tables t own → ks ≡ own ++ ls
    → Makes tables a c (t ∷ []) (rows ∷ []) ks ls
makes_created tables a b c t rows own ks ls h i of e = record {
  parts = created t own i.batches ∷ [];
  adds = subst (Adds a c) (sym (append-nil (create_table tables t own ∷ flat_map (batch_statements t.name) i.batches)))
      (adds_then a b c (create_table tables t own ∷ []) (flat_map (batch_statements t.name) i.batches) h i.adds);
  formed = (of, tt {0});
  made_are = refl;
  rows_are = ap (λ xs. xs ∷ []) (sym (i.split ∙ append-nil (flat_map batch_rows i.batches)));
  taken = own;
  split = e;
  others = ap (filter is_other) (append-nil own);
  own_keys = ap (filter is_own_key) (append-nil own);
  in_order = λ h. append-nil own;
}

-- ---- ALTER TABLE

no_addition : (tables : List Table) (k : Constraint) (place : ℕ) → k.rule ≡ rule.NotNull place → add_constraint tables k ≡ None
no_addition tables k place e = rw e refl

not_both : (o : Option Statement) (a : Statement) → o ≡ Some a → o ≡ None → ⊥
not_both o a e f = absurd (none_some (sym e ∙ f)) where
  none_some : ◌≡◌ {A = Option Statement} (Some a) None → ⊥
  none_some e = cc

of_table : (tables : List Table) (k : Constraint) (r : Rule) (s : Statement) → k.rule ≡ r → add_constraint tables k ≡ Some s → IsOfTable r
of_table tables k (rule.NotNull place) s e h = not_both (add_constraint tables k) s h (no_addition tables k place e)
of_table tables k (rule.Check c) s e h = tt {0}
of_table tables k (rule.Unique nulls places) s e h = tt {0}
of_table tables k (rule.PrimaryKey places) s e h = tt {0}
of_table tables k (rule.ForeignKey f) s e h = tt {0}

pub makes_added : (tables : List Table) (a b : Filled) (k : Constraint) (s : Statement) (ks : List Constraint) → Adds a b (s ∷ []) → add_constraint tables k ≡ Some s
    → Makes tables a b [] [] (k ∷ ks) ks
makes_added tables a b k s ks h e = record {
  parts = added k ∷ [];
  adds = subst (Adds a b) (sym (append-nil (part_statements tables (added k)) ∙ ap (λ o. elim o [ Some x ↦ x ∷ [] | None ↦ [] ]) e)) h;
  formed = (of_table tables k k.rule s refl e, tt {0});
  made_are = refl;
  rows_are = refl;
  taken = k ∷ [];
  split = refl;
  others = refl;
  own_keys = refl;
  in_order = λ h. refl;
}

-- ---- a table with keys to its own rows, which come after these

module _ (p q : Constraint → Bool) where
  again_by : (x : Constraint) (ys : List Constraint) (b : Bool) → p x ≡ b → filter p ys ≡ ys → filter p (cond b (x ∷ ys) ys) ≡ cond b (x ∷ ys) ys
  again_by x ys true e h = ap (λ c. cond c (x ∷ filter p ys) (filter p ys)) e ∙ ap (λ zs. x ∷ zs) h
  again_by x ys false e h = h

  -- those that pass pass again
  again : (xs : List Constraint) → filter p (filter p xs) ≡ filter p xs
  again [] = refl
  again (x ∷ xs) = again_by x (filter p xs) (p x) refl (again xs)

  none_by : (x : Constraint) (ys : List Constraint) (b : Bool) → p x ≡ b → ((x : Constraint) → p x ≡ true → q x ≡ false) → filter q ys ≡ []
      → filter q (cond b (x ∷ ys) ys) ≡ []
  none_by x ys true e apart h = ap (λ c. cond c (x ∷ filter q ys) (filter q ys)) (apart x e) ∙ h
  none_by x ys false e apart h = h

  -- and none of them passes the other test
  none : ((x : Constraint) → p x ≡ true → q x ≡ false) → (xs : List Constraint) → filter q (filter p xs) ≡ []
  none apart [] = refl
  none apart (x ∷ xs) = none_by x (filter p xs) (p x) refl apart (none apart xs)

not_true : (b : Bool) → not b ≡ true → b ≡ false
not_true true e = sym e
not_true false e = refl

of_by : (tables : List Table) (t : Table) (k : Constraint) (ks : List Constraint) (b : Bool) → slice_get tables k.table ≡ Some t → AreOf tables t ks
    → AreOf tables t (cond b (k ∷ ks) ks)
of_by tables t k ks true h hs = (h, hs)
of_by tables t k ks false h hs = hs

of_filtered : (tables : List Table) (t : Table) (ks : List Constraint) → AreOf tables t ks → AreOf tables t (filter is_other ks)
of_filtered tables t [] h = tt {0}
of_filtered tables t (k ∷ ks) (h, hs) = of_by tables t k (filter is_other ks) (is_other k) h (of_filtered tables t ks hs)

-- the others, and after them the keys
no_others : (xs : List Constraint) → filter is_other (filter is_own_key xs) ≡ []
no_others xs = none is_own_key is_other (λ x e. ap not e) xs

no_keys : (xs : List Constraint) → filter is_own_key (filter is_other xs) ≡ []
no_keys xs = none is_other is_own_key (λ x e. not_true (is_own_key x) e) xs

others_first : (xs made : List Constraint) → filter is_other made ≡ filter is_other (filter is_own_key xs)
    → filter is_other (filter is_other xs ++ made) ≡ filter is_other xs
others_first xs made e =
    filter-append is_other (filter is_other xs) made ∙ ap (λ ys. filter is_other (filter is_other xs) ++ ys) (e ∙ no_others xs)
    ∙ append-nil (filter is_other (filter is_other xs)) ∙ again is_other is_other xs

keys_last : (xs made : List Constraint) → filter is_own_key made ≡ filter is_own_key (filter is_own_key xs)
    → filter is_own_key (filter is_other xs ++ made) ≡ filter is_own_key xs
keys_last xs made e =
    filter-append is_own_key (filter is_other xs) made ∙ ap (λ ys. ys ++ filter is_own_key made) (no_keys xs) ∙ e ∙ again is_own_key is_own_key xs

true_false : (b : Bool) → b ≡ true → b ≡ false → ⊥
true_false true e f = absurd (no_true f) where
  no_true : ◌≡◌ {A = Bool} true false → ⊥
  no_true e = cc
true_false false e f = absurd (no_false e) where
  no_false : ◌≡◌ {A = Bool} false true → ⊥
  no_false e = cc

-- A NOT NULL after a key to the own table is still after it with more constraints.
any_first : (p : Constraint → Bool) (xs ys : List Constraint) → list_any p xs ≡ true → list_any p (xs ++ ys) ≡ true
any_first p xs ys e = list_any-append p xs ys ∙ ap (λ b. b || list_any p ys) e

or_parts : (a b c d : Bool) → (a ≡ true → c ≡ true) → (b ≡ true → d ≡ true) → a || b ≡ true → c || d ≡ true
or_parts true b c d f g e = ap (λ x. x || d) (f refl)
or_parts false b true d f g e = refl
or_parts false b false d f g e = g e

both_parts : (a b c : Bool) → (b ≡ true → c ≡ true) → a && b ≡ true → a && c ≡ true
both_parts true b c f e = f e
both_parts false b c f e = e

pub key_first : (xs ys : List Constraint) → has_null_after_key xs ≡ true → has_null_after_key (xs ++ ys) ≡ true
key_first [] ys e = absurd (true_false false e refl)
key_first (k ∷ xs) ys e =
    or_parts (is_own_key k && list_any (is_null_in k.table) xs) (has_null_after_key xs)
    (is_own_key k && list_any (is_null_in k.table) (xs ++ ys)) (has_null_after_key (xs ++ ys))
    (both_parts (is_own_key k) (list_any (is_null_in k.table) xs) (list_any (is_null_in k.table) (xs ++ ys)) (any_first (is_null_in k.table) xs ys))
    (key_first xs ys) e

by_either : (b c : Bool) → (b ≡ true → c ≡ true) → c ≡ false → b ≡ false
by_either true c f e = absurd (true_false c (f refl) e)
by_either false c f e = refl

pub first_ordered : (xs ys : List Constraint) → has_null_after_key (xs ++ ys) ≡ false → has_null_after_key xs ≡ false
first_ordered xs ys e = by_either (has_null_after_key xs) (has_null_after_key (xs ++ ys)) (key_first xs ys) e

pub makes_late : (tables : List Table) (a b c d : Filled) (t : Table) (rows : List (List Value)) (own ks ls : List Constraint)
    → Adds a b (create_table tables t (filter is_other own) ∷ []) → Inserts t.name b c rows [] → Makes tables c d [] [] (filter is_own_key own) []
    → AreOf tables t own → ks ≡ own ++ ls → has_null_after_key own ≡ true → Makes tables a d (t ∷ []) (rows ∷ []) ks ls
makes_late tables a b c d t rows own ks ls h i m of e null =
    let taken : filter is_own_key own ≡ m.taken = m.split ∙ append-nil m.taken in
    record {
      parts = created t (filter is_other own) i.batches ∷ m.parts;
      adds = adds_then a c d (create_table tables t (filter is_other own) ∷ flat_map (batch_statements t.name) i.batches) (flat_map (part_statements tables) m.parts)
          (adds_then a b c (create_table tables t (filter is_other own) ∷ []) (flat_map (batch_statements t.name) i.batches) h i.adds) m.adds;
      formed = (of_filtered tables t own of, m.formed);
      made_are = ap (λ xs. t ∷ xs) m.made_are;
      rows_are = ap (λ xs. flat_map batch_rows i.batches ∷ xs) m.rows_are ∙ ap (λ xs. xs ∷ []) (sym (i.split ∙ append-nil (flat_map batch_rows i.batches)));
      taken = own;
      split = e;
      others = others_first own (flat_map part_constraints m.parts) (m.others ∙ ap (filter is_other) (sym taken));
      own_keys = keys_last own (flat_map part_constraints m.parts) (m.own_keys ∙ ap (filter is_own_key) (sym taken));
      in_order = λ f. absurd (true_false (has_null_after_key ks) (ap has_null_after_key e ∙ key_first own ls null) f);
    }

-- ---- triggers

create_more : (tables : List Table) (ts : List Trigger) (ss : List Statement) (t : Trigger) (s : Statement) → CreateTriggers tables ts ss → CreatesTrigger tables t s
    → CreateTriggers tables (ts ++ t ∷ []) (ss ++ s ∷ [])
create_more tables [] [] t s h c = (c, tt {0})
create_more tables [] (x ∷ ss) t s h c = absurd h
create_more tables (y ∷ ts) [] t s h c = absurd h
create_more tables (y ∷ ts) (x ∷ ss) t s (h, hs) c = (h, create_more tables ts ss t s hs c)

pub triggers_none : (tables : List Table) (a : Filled) (ts : List Trigger) → Triggers tables a a ts ts
triggers_none tables a ts = record { taken = []; statements = []; adds = adds_nothing a; created = tt {0}; split = refl }

pub triggers_more : (tables : List Table) (a b c : Filled) (ts left rest : List Trigger) (t : Trigger) (s : Statement) → Triggers tables a b ts left
    → Adds b c (s ∷ []) → CreatesTrigger tables t s → left ≡ t ∷ rest → Triggers tables a c ts rest
triggers_more tables a b c ts left rest t s g h x e = record {
  taken = g.taken ++ t ∷ [];
  statements = g.statements ++ s ∷ [];
  adds = adds_then a b c g.statements (s ∷ []) g.adds h;
  created = create_more tables g.taken g.statements t s g.created x;
  split = g.split ∙ ap (λ xs. g.taken ++ xs) e ∙ sym (append_assoc g.taken (t ∷ []) rest);
}

-- ---- the whole

pub whole_dump : (schema : Schema) (rows : List (List (List Value))) (b c : Filled) → Makes schema.tables ([], []) b schema.tables rows schema.constraints []
    → Triggers schema.tables b c schema.triggers [] → (statements : List Statement) × IsDump schema rows statements × Adds ([], []) c statements
whole_dump schema rows b c m g =
    let taken : schema.constraints ≡ m.taken = m.split ∙ append-nil m.taken in (
      flat_map (part_statements schema.tables) m.parts ++ g.statements,
      record {
        parts = m.parts;
        triggers = g.statements;
        written = refl;
        formed = m.formed;
        tables = m.made_are;
        contents = m.rows_are;
        constraints = record {
          others = m.others ∙ ap (filter is_other) (sym taken);
          own_keys = m.own_keys ∙ ap (filter is_own_key) (sym taken);
          in_order = λ h. m.in_order h ∙ sym taken;
        };
        last = subst (λ ts. CreateTriggers schema.tables ts g.statements) (sym (g.split ∙ append-nil g.taken)) g.created;
      },
      adds_then ([], []) b c (flat_map (part_statements schema.tables) m.parts) g.statements m.adds g.adds,
    )

-- ---- what the functions say

pub makes_more : (tables : List Table) (a b : Filled) (ts : List Table) (rs : List (List (List Value))) (xs ks ls : List Constraint)
    → Makes tables a b ts rs xs [] → ks ≡ xs ++ ls → Makes tables a b ts rs ks ls
makes_more tables a b ts rs xs ks ls m e = record {
  parts = m.parts;
  adds = m.adds;
  formed = m.formed;
  made_are = m.made_are;
  rows_are = m.rows_are;
  taken = m.taken;
  split = e ∙ ap (λ ys. ys ++ ls) (m.split ∙ append-nil m.taken);
  others = m.others;
  own_keys = m.own_keys;
  in_order = λ h. m.in_order (first_ordered xs ls (ap has_null_after_key (sym e) ∙ h));
}

-- the rows of an INSERT among those that are left
pub inserts_batch : (name : List ℕ) (a b c : Filled) (rows left : List (List Value)) (n : ℕ) → 0 < n → 0 < length left → Inserts name a b rows left
    → Adds b c (insert_rows name (take n left) ∷ statement.Commit ∷ []) → Inserts name a c rows (drop n left)
inserts_batch name a b c rows [] n h l i f = absurd (omega (arith, l))
inserts_batch name a b c rows (x ∷ left) zero h l i f = absurd (omega (arith, h))
inserts_batch name a b c rows (x ∷ left) (suc n) h l i f =
    inserts_more name a b c rows (x ∷ left) (drop n left) (record { first = x; more = take n left }) i f (ap (λ xs. x ∷ xs) (sym (take-append-drop n left)))

pub created_makes : (tables : List Table) (a c : Filled) (t : Table) (rows : List (List Value)) (own ks ls : List Constraint)
    → Creates tables t a c own rows → AreOf tables t own → ks ≡ own ++ ls → Makes tables a c (t ∷ []) (rows ∷ []) ks ls
created_makes tables a c t rows own ks ls m of e = makes_created tables a m.middle c t rows own ks ls m.table m.inserts of e

pub late_makes : (tables : List Table) (a c d : Filled) (t : Table) (rows : List (List Value)) (own : List Constraint)
    → Creates tables t a c (filter is_other own) rows → Makes tables c d [] [] (filter is_own_key own) []
    → (left : List Constraint) → AreOf tables t own → has_null_after_key own ≡ true → Makes tables a d (t ∷ []) (rows ∷ []) (own ++ left) left
late_makes tables a c d t rows own m k left of null =
    makes_late tables a m.middle c d t rows own (own ++ left) left m.table m.inserts k of refl null

-- ---- constraints of a table

same_number : (m n : ℕ) → nat_eq m n ≡ true → m ≡ n
same_number m n e = grind (arith, nat_tests)

of_own_by : (tables : List Table) (t : Table) (place : ℕ) (k : Constraint) (ks : List Constraint) (n : ℕ) (b : Bool) → k.table == place ≡ b
    → slice_get tables place ≡ Some t → AreOf tables t (take n ks) → AreOf tables t (take (if b then suc n else 0) (k ∷ ks))
of_own_by tables t place k ks n true e at h = (ap (slice_get tables) (same_number k.table place e) ∙ at, h)
of_own_by tables t place k ks n false e at h = tt {0}

pub of_own : (tables : List Table) (t : Table) (place : ℕ) (ks : List Constraint) → slice_get tables place ≡ Some t → AreOf tables t (take (own_count place ks) ks)
of_own tables t place [] at = tt {0}
of_own tables t place (k ∷ ks) at = of_own_by tables t place k ks (own_count place ks) (k.table == place) refl at (of_own tables t place ks at)

pub of_first : (tables : List Table) (t : Table) (n : ℕ) (ks : List Constraint) → AreOf tables t ks → AreOf tables t (take n ks)
of_first tables t zero ks h = tt {0}
of_first tables t (suc n) [] h = tt {0}
of_first tables t (suc n) (k ∷ ks) (h, hs) = (h, of_first tables t n ks hs)

-- ---- tables one after another

is_there : (tables : List Table) (n : ℕ) → n < length tables → slice_get tables n ≡ None → ⊥
is_there [] n h e = omega (arith, h)
is_there (t ∷ tables) zero h e = absurd (none_some e) where
  none_some : ◌≡◌ {A = Option Table} (Some t) None → ⊥
  none_some e = cc
is_there (t ∷ tables) (suc n) h e = is_there tables n (omega (arith, h)) e

pub tables_more : (tables : List Table) (a b c : Filled) (lists : List (List (List Value))) (rows : List (List Value)) (n : ℕ) (ks ls ms : List Constraint)
    → n < length lists → rows ≡ get_or lists n rows → length lists ≡ length tables
    → Makes tables a b (take n tables) (take n lists) ks ls
    → IfSome (slice_get tables n) (λ t. Makes tables b c (t ∷ []) (rows ∷ []) ls ms)
    → Makes tables a c (take (n + 1) tables) (take (n + 1) lists) ks ms
tables_more tables a b c lists rows n ks ls ms h r l f g = more (slice_get tables n) refl g where
  one : (t : Table) → slice_get tables n ≡ Some t → Makes tables b c (t ∷ []) (rows ∷ []) ls ms → Makes tables a c (take (n + 1) tables) (take (n + 1) lists) ks ms
  one t e g =
      let ts : take n tables ++ t ∷ [] ≡ take (n + 1) tables = ap (λ x. take n tables ++ x ∷ []) (sym (get_or_from_slice_get tables n t t e)) ∙ sym (take_more tables n t (omega (arith, h, l))) in
      let rs : take n lists ++ rows ∷ [] ≡ take (n + 1) lists = ap (λ x. take n lists ++ x ∷ []) r ∙ sym (take_more lists n rows h) in
      subst (λ xs. Makes tables a c xs (take (n + 1) lists) ks ms) ts (subst (λ xs. Makes tables a c (take n tables ++ t ∷ []) xs ks ms) rs
      (makes_then tables a b c (take n tables) (t ∷ []) (take n lists) (rows ∷ []) ks ls ms f g))

  more : (o : Option Table) → slice_get tables n ≡ o → IfSome o (λ t. Makes tables b c (t ∷ []) (rows ∷ []) ls ms) → Makes tables a c (take (n + 1) tables) (take (n + 1) lists) ks ms
  more (Some t) e g = one t e g
  more None e g = absurd (is_there tables n (omega (arith, h, l)) e)
