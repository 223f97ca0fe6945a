-- What the look-ups of resolution find is what names name.
use Rattle.std.proofs.Common.{◌≡◌, ℕ, Bool, true, false, ◌&&◌, List, [], ◌∷◌, ◌++◌, ◌∙◌, Option, Some, None, refl, sym, ap, if◌then◌else◌, length, ◌+◌, suc, find, slice_get, subst, option_map, unwrap_or, arith}
use Rattle.std.proofs.lemmas.Option.{same_Some}
use Rattle.std.proofs.lemmas.Bool.{or_parts, and_parts}
use Rattle.std.specs.List.{list_any}
use Rattle.std.specs.Option.{option_or}
use Rattle.std.specs.Str.{bytes_eq}
use Rattle.iv_expr.specs.declared.tree.Side.{Side}
use Rattle.iv_expr.specs.declared.tree.Range.TheVariants as range
use Rattle.iv_syntax.specs.declared.table.ColumnType.{ColumnType}
use Rattle.iv_catalogue.specs.declared.catalogue.Table.{Table}
use Rattle.iv_resolution.specs.declared.origin.Origin.{Origin}
use Rattle.iv_resolution.specs.Scopes.{NamedColumn, NamedRange, NamedTable, NamedTransition, Names, Found, Source, number, count_outward, is_rows, named_columns, place_of, found_in, unqualified, qualified, column_meant, table_place, stored_source, created_source, transition_source, source_named}
use Rattle.iv_resolution.specs.Triggers.{variable_named}
use Rattle.iv_laws_fitting.specs.Naming.{IsFirst, NonePasses, column_is_called, offers, NamesAlone, range_is_called, NamesQualified, table_is_called, transition_is_called, created_is_called, NamesSource, transition, created, stored, NamesTarget, NamesVariable}
use Rattle.iv_laws_fitting.specs.NamingLaws.{Finds, ColumnsAreFound, SourcesAreFound, TargetsAreFound, VariablesAreFound}
use Rattle.iv_laws_fitting.proofs.Firsts.{Search, nothing, something, search, first_position, first_found, first_there, none_position, none_found}

no_some : {X : Type 0} (x : X) (P : Type 0) → None ≡ Some x → P
no_some x P h = cc

-- ---- targets

pub targets : TargetsAreFound
targets tables name = record {
  sound = λ i h. sound_by i h (search (table_is_called name) tables);
  complete = λ i n. first_position (table_is_called name) tables i n.0 n.1;
}
  where
    sound_by : (i : ℕ) → table_place tables name ≡ Some i → Search (table_is_called name) tables → NamesTarget tables name i
    sound_by i h (nothing n) = no_some i (NamesTarget tables name i) (sym (none_position (table_is_called name) tables n) ∙ h)
    sound_by i h (something j t f) =
        (t, subst (λ k. IsFirst (table_is_called name) tables k t) (same_Some j i (sym (first_position (table_is_called name) tables j t f) ∙ h)) f)

-- ---- row variables

pub variables_found : VariablesAreFound
unfolding variable_named
variables_found variables name = record {
  sound = λ o h. sound_by o h (search (range_is_called name) variables);
  complete = λ o n. ap (option_map (λ (r : NamedRange). r.origin)) (first_found (range_is_called name) variables n.place n.variable n.first) ∙ ap (λ (x : Origin). Some x) (sym n.is);
}
  where
    sound_by : (o : Origin) → option_map (λ (r : NamedRange). r.origin) (find (range_is_called name) variables) ≡ Some o → Search (range_is_called name) variables → NamesVariable variables name o
    sound_by o h (nothing n) = no_some o (NamesVariable variables name o) (sym (ap (option_map (λ (r : NamedRange). r.origin)) (none_found (range_is_called name) variables n)) ∙ h)
    sound_by o h (something j r f) = record {
      place = j;
      variable = r;
      first = f;
      is = same_Some o r.origin (sym h ∙ ap (option_map (λ (r : NamedRange). r.origin)) (first_found (range_is_called name) variables j r f));
    }

-- ---- columns

next_number : (n : ℕ) → number (number n + 1) ≡ number (suc n)
next_number n = omega arith

found_here : (r : NamedRange) (inside : ℕ) (name : List ℕ) (place : ℕ) (column : NamedColumn) → IsFirst (column_is_called name) r.columns place column
    → found_in r (number inside) name ≡ Some (record { origin = r.origin; outward = count_outward r.origin (number inside); place = number place; kind = column.kind })
found_here r inside name place column f =
    ap (λ (o : Option NamedColumn). option_map (λ kind. the_found (place_of r.columns name) kind) (option_map (λ c. c.kind) o)) (first_found (column_is_called name) r.columns place column f)
    ∙ ap (λ (o : Option ℕ). Some (the_found (unwrap_or (option_map number o) 0) column.kind)) (first_position (column_is_called name) r.columns place column f)
  where
    the_found : ℕ → ColumnType → Found
    the_found at kind = record { origin = r.origin; outward = count_outward r.origin (number inside); place = at; kind = kind }

found_none : (r : NamedRange) (outward : ℕ) (name : List ℕ) → list_any (column_is_called name) r.columns ≡ false → found_in r outward name ≡ None
found_none r outward name n =
    ap (λ (o : Option NamedColumn). option_map (λ kind. the_found kind) (option_map (λ c. c.kind) o)) (none_found (column_is_called name) r.columns n)
  where
    the_found : ColumnType → Found
    the_found kind = record { origin = r.origin; outward = count_outward r.origin outward; place = place_of r.columns name; kind = kind }

-- ---- a name alone

offers_nothing : (y : NamedRange) (outward : ℕ) (name : List ℕ) → offers name y ≡ false → (if is_rows y then found_in y outward name else None) ≡ None
offers_nothing y outward name h = by (is_rows y) refl
  where
    by : (b : Bool) → is_rows y ≡ b → (if b then found_in y outward name else None) ≡ None
    by true e = found_none y outward name (sym (ap (λ b. b && list_any (column_is_called name) y.columns) e) ∙ h)
    by false e = refl

skip_alone : (before : List NamedRange) (r : NamedRange) (after : List NamedRange) (name : List ℕ) (k : ℕ) (x : Found)
    → found_in r (number (k + length before)) name ≡ Some x → is_rows r ≡ true → list_any (offers name) before ≡ false
    → unqualified name (number k) (before ++ r ∷ after) ≡ Some x
skip_alone [] r after name k x h e n =
    let here : k + 0 ≡ k = omega arith in
    ap (λ b. option_or (if b then found_in r (number k) name else None) (unqualified name (number (number k + 1)) after)) e
    ∙ ap (λ (o : Option Found). option_or o (unqualified name (number (number k + 1)) after)) (ap (λ m. found_in r (number m) name) (sym here) ∙ h)
skip_alone (y ∷ ys) r after name k x h e n =
    let parts = or_parts (offers name y) (list_any (offers name) ys) n in
    let further : suc k + length ys ≡ k + suc (length ys) = omega arith in
    ap (λ (o : Option Found). option_or o (unqualified name (number (number k + 1)) (ys ++ r ∷ after))) (offers_nothing y (number k) name parts.0)
    ∙ ap (λ m. unqualified name m (ys ++ r ∷ after)) (next_number k)
    ∙ skip_alone ys r after name (suc k) x (ap (λ m. found_in r (number m) name) further ∙ h) e parts.1

none_alone : (ranges : List NamedRange) (name : List ℕ) (outward : ℕ) → list_any (offers name) ranges ≡ false → unqualified name outward ranges ≡ None
none_alone [] name outward n = refl
none_alone (y ∷ ys) name outward n =
    let parts = or_parts (offers name y) (list_any (offers name) ys) n in
    ap (λ (o : Option Found). option_or o (unqualified name (number (outward + 1)) ys)) (offers_nothing y outward name parts.0)
    ∙ none_alone ys name (number (outward + 1)) parts.1

found_alone : (ranges : List NamedRange) (name : List ℕ) (i : ℕ) (r : NamedRange) (x : Found) → IsFirst (offers name) ranges i r
    → found_in r (number i) name ≡ Some x → unqualified name 0 ranges ≡ Some x
found_alone ranges name i r x f h =
    let none : 0 + length f.before ≡ i = omega arith ∙ sym f.counted in
    ap (unqualified name 0) f.split
    ∙ skip_alone f.before r f.after name 0 x (ap (λ m. found_in r (number m) name) none ∙ h) (and_parts (is_rows r) (list_any (column_is_called name) r.columns) f.passed).0 f.none_before

alone_complete : (ranges : List NamedRange) (name : List ℕ) (x : Found) → NamesAlone ranges name x → unqualified name 0 ranges ≡ Some x
alone_complete ranges name x n =
    found_alone ranges name n.inside n.range x n.innermost
    (found_here n.range n.inside name n.column.place n.column.column n.column.first ∙ ap (λ (f : Found). Some f) (sym n.column.is))

alone_sound : (ranges : List NamedRange) (name : List ℕ) (x : Found) → unqualified name 0 ranges ≡ Some x → NamesAlone ranges name x
alone_sound ranges name x h = by (search (offers name) ranges)
  where
    of_column : (i : ℕ) (r : NamedRange) → IsFirst (offers name) ranges i r → list_any (column_is_called name) r.columns ≡ true
        → Search (column_is_called name) r.columns → NamesAlone ranges name x
    of_column i r f some (nothing n) = let e : true ≡ false = sym some ∙ n in cc
    of_column i r f some (something place column g) = record {
      range = r;
      inside = i;
      innermost = f;
      column = record {
        place = place;
        column = column;
        first = g;
        is = same_Some x _ (sym h ∙ found_alone ranges name i r _ f (found_here r i name place column g));
      };
    }

    by : Search (offers name) ranges → NamesAlone ranges name x
    by (nothing n) = no_some x (NamesAlone ranges name x) (sym (none_alone ranges name 0 n) ∙ h)
    by (something i r f) =
        of_column i r f (and_parts (is_rows r) (list_any (column_is_called name) r.columns) f.passed).1 (search (column_is_called name) r.columns)

-- ---- a qualified name

skip_qualified : (before : List NamedRange) (r : NamedRange) (after : List NamedRange) (q name : List ℕ) (k : ℕ)
    → bytes_eq q r.name ≡ true → list_any (range_is_called q) before ≡ false
    → qualified q name (number k) (before ++ r ∷ after) ≡ found_in r (number (k + length before)) name
skip_qualified [] r after q name k e n =
    let here : k + 0 ≡ k = omega arith in
    ap (λ b. if b then found_in r (number k) name else qualified q name (number (number k + 1)) after) e ∙ ap (λ m. found_in r (number m) name) (sym here)
skip_qualified (y ∷ ys) r after q name k e n =
    let parts = or_parts (range_is_called q y) (list_any (range_is_called q) ys) n in
    let further : suc k + length ys ≡ k + suc (length ys) = omega arith in
    ap (λ b. if b then found_in y (number k) name else qualified q name (number (number k + 1)) (ys ++ r ∷ after)) parts.0
    ∙ ap (λ m. qualified q name m (ys ++ r ∷ after)) (next_number k)
    ∙ skip_qualified ys r after q name (suc k) e parts.1
    ∙ ap (λ m. found_in r (number m) name) further

none_qualified : (ranges : List NamedRange) (q name : List ℕ) (outward : ℕ) → list_any (range_is_called q) ranges ≡ false → qualified q name outward ranges ≡ None
none_qualified [] q name outward n = refl
none_qualified (y ∷ ys) q name outward n =
    let parts = or_parts (range_is_called q y) (list_any (range_is_called q) ys) n in
    ap (λ b. if b then found_in y outward name else qualified q name (number (outward + 1)) ys) parts.0 ∙ none_qualified ys q name (number (outward + 1)) parts.1

in_range : (ranges : List NamedRange) (q name : List ℕ) (i : ℕ) (r : NamedRange) → IsFirst (range_is_called q) ranges i r
    → qualified q name 0 ranges ≡ found_in r (number i) name
in_range ranges q name i r f =
    let none : 0 + length f.before ≡ i = omega arith ∙ sym f.counted in
    ap (qualified q name 0) f.split ∙ skip_qualified f.before r f.after q name 0 f.passed f.none_before ∙ ap (λ m. found_in r (number m) name) none

qualified_complete : (ranges : List NamedRange) (q name : List ℕ) (x : Found) → NamesQualified ranges q name x → qualified q name 0 ranges ≡ Some x
qualified_complete ranges q name x n =
    in_range ranges q name n.inside n.range n.innermost
    ∙ found_here n.range n.inside name n.column.place n.column.column n.column.first ∙ ap (λ (f : Found). Some f) (sym n.column.is)

qualified_sound : (ranges : List NamedRange) (q name : List ℕ) (x : Found) → qualified q name 0 ranges ≡ Some x → NamesQualified ranges q name x
qualified_sound ranges q name x h = by (search (range_is_called q) ranges)
  where
    of_column : (i : ℕ) (r : NamedRange) → IsFirst (range_is_called q) ranges i r → Search (column_is_called name) r.columns → NamesQualified ranges q name x
    of_column i r f (nothing n) =
        no_some x (NamesQualified ranges q name x) (sym (in_range ranges q name i r f ∙ found_none r (number i) name n) ∙ h)
    of_column i r f (something place column g) = record {
      range = r;
      inside = i;
      innermost = f;
      column = record {
        place = place;
        column = column;
        first = g;
        is = same_Some x _ (sym h ∙ in_range ranges q name i r f ∙ found_here r i name place column g);
      };
    }

    by : Search (range_is_called q) ranges → NamesQualified ranges q name x
    by (nothing n) = no_some x (NamesQualified ranges q name x) (sym (none_qualified ranges q name 0 n) ∙ h)
    by (something i r f) = of_column i r f (search (column_is_called name) r.columns)

-- ---- columns

pub columns_found : ColumnsAreFound
unfolding column_meant
columns_found ranges c = by c.qualifier
  where
    by : (o : Option (List ℕ))
        → Finds (λ x. elim o [ Some qualifier ↦ NamesQualified ranges qualifier c.name x | None ↦ NamesAlone ranges c.name x ])
        (elim o [ Some range ↦ qualified range c.name 0 ranges | None ↦ unqualified c.name 0 ranges ])
    by None = record { sound = alone_sound ranges c.name; complete = alone_complete ranges c.name }
    by (Some q) = record { sound = qualified_sound ranges q c.name; complete = qualified_complete ranges q c.name }

-- ---- tables

abbrev the_transition : Names → Side → Source
the_transition names side = record { range = range.Transition side; columns = names.subject }

abbrev the_stored : ℕ → Table → Source
the_stored place t = record { range = range.Table place; columns = named_columns t.columns }

transition_is : (names : Names) (name : List ℕ) (i : ℕ) (t : NamedTransition) → IsFirst (transition_is_called name) names.transitions i t
    → transition_source names name ≡ Some (record { range = range.Transition t.side; columns = names.subject })
transition_is names name i t f =
    ap (λ (o : Option NamedTransition). option_map (the_transition names) (option_map (λ (x : NamedTransition). x.side) o)) (first_found (transition_is_called name) names.transitions i t f)

transition_none : (names : Names) (name : List ℕ) → NonePasses (transition_is_called name) names.transitions → transition_source names name ≡ None
transition_none names name n =
    ap (λ (o : Option NamedTransition). option_map (the_transition names) (option_map (λ (x : NamedTransition). x.side) o)) (none_found (transition_is_called name) names.transitions n)

stored_is : (tables : List Table) (name : List ℕ) (i : ℕ) (t : Table) → IsFirst (table_is_called name) tables i t
    → stored_source tables name ≡ Some (record { range = range.Table i; columns = named_columns t.columns })
stored_is tables name i t f =
    ap (λ (o : Option ℕ). elim o [ Some place ↦ option_map (the_stored place) (slice_get tables place) | None ↦ None ]) (first_position (table_is_called name) tables i t f)
    ∙ ap (option_map (the_stored i)) (first_there (table_is_called name) tables i t f)

stored_none : (tables : List Table) (name : List ℕ) → NonePasses (table_is_called name) tables → stored_source tables name ≡ None
stored_none tables name n =
    ap (λ (o : Option ℕ). elim o [ Some place ↦ option_map (the_stored place) (slice_get tables place) | None ↦ None ]) (none_position (table_is_called name) tables n)

abbrev the_created : Names → NamedTable → Source
the_created names t = record { range = range.Table (length names.tables); columns = t.columns }

abbrev created_by : Names → List ℕ → Option NamedTable → Option Source
created_by names name o = elim o [ Some t ↦ if bytes_eq name t.name then Some (the_created names t) else None | None ↦ None ]

created_none : (names : Names) (name : List ℕ) (o : Option NamedTable) → created_is_called name o ≡ false → created_by names name o ≡ None
created_none names name None h = refl
created_none names name (Some t) h = ap (λ b. if b then Some (the_created names t) else None) h

source_complete : (names : Names) (name : List ℕ) (x : Source) → NamesSource names name x → source_named names name ≡ Some x
unfolding source_named
source_complete names name x (transition i t f e) =
    ap (λ (o : Option Source). option_or o (option_or (created_source names name) (stored_source names.tables name))) (transition_is names name i t f)
    ∙ ap (λ (s : Source). Some s) (sym e)
source_complete names name x (created t n c h e) =
    ap (λ (o : Option Source). option_or o (option_or (created_source names name) (stored_source names.tables name))) (transition_none names name n)
    ∙ ap (λ (o : Option NamedTable). option_or (created_by names name o) (stored_source names.tables name)) c
    ∙ ap (λ b. option_or (if b then Some (the_created names t) else None) (stored_source names.tables name)) h
    ∙ ap (λ (s : Source). Some s) (sym e)
source_complete names name x (stored i t n c f e) =
    ap (λ (o : Option Source). option_or o (option_or (created_source names name) (stored_source names.tables name))) (transition_none names name n)
    ∙ ap (λ (o : Option Source). option_or o (stored_source names.tables name)) (created_none names name names.created c)
    ∙ stored_is names.tables name i t f
    ∙ ap (λ (s : Source). Some s) (sym e)

source_sound : (names : Names) (name : List ℕ) (x : Source) → source_named names name ≡ Some x → NamesSource names name x
unfolding source_named
source_sound names name x h = by (search (transition_is_called name) names.transitions)
  where
    of_stored : NonePasses (transition_is_called name) names.transitions → created_is_called name names.created ≡ false
        → stored_source names.tables name ≡ Some x → Search (table_is_called name) names.tables → NamesSource names name x
    of_stored n c g (nothing m) = no_some x (NamesSource names name x) (sym (stored_none names.tables name m) ∙ g)
    of_stored n c g (something i t f) = stored i t n c f (same_Some x _ (sym g ∙ stored_is names.tables name i t f))

    of_created : NonePasses (transition_is_called name) names.transitions → (o : Option NamedTable) → names.created ≡ o → (b : Bool) → created_is_called name o ≡ b
        → option_or (created_source names name) (stored_source names.tables name) ≡ Some x → NamesSource names name x
    of_created n None e true c g = cc
    of_created n (Some t) e true c g =
        created t n e c
        (same_Some x _
        (sym g ∙ ap (λ (o : Option NamedTable). option_or (created_by names name o) (stored_source names.tables name)) e
        ∙ ap (λ b. option_or (if b then Some (the_created names t) else None) (stored_source names.tables name)) c))
    of_created n o e false c g =
        let free : created_is_called name names.created ≡ false = ap (created_is_called name) e ∙ c in
        of_stored n free (sym (ap (λ (s : Option Source). option_or s (stored_source names.tables name)) (created_none names name names.created free)) ∙ g)
        (search (table_is_called name) names.tables)

    by : Search (transition_is_called name) names.transitions → NamesSource names name x
    by (nothing n) =
        of_created n names.created refl (created_is_called name names.created) refl
        (sym (ap (λ (o : Option Source). option_or o (option_or (created_source names name) (stored_source names.tables name))) (transition_none names name n)) ∙ h)
    by (something i t f) =
        transition i t f
        (same_Some x _
        (sym h ∙ ap (λ (o : Option Source). option_or o (option_or (created_source names name) (stored_source names.tables name))) (transition_is names name i t f)))

pub sources : SourcesAreFound
sources names name = record { sound = source_sound names name; complete = source_complete names name }
