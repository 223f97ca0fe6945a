-- What is true of every catalogue stays true.
use Rattle.std.proofs.Common.{◌≡◌, ℕ, ◌+◌, ◌-◌, ◌*◌, ◌<◌, ◌≤◌, not, nat_eq, List, [], ◌∷◌, ◌++◌, ◌∙◌, length, take, set, get_or, refl, sym, ap, subst, arith}
use Rattle.std.proofs.lemmas.List.{length-append, set-set, set-get_or, take_all, take_at, take_more, get_or_at, get_or-set_same}
use Rattle.iv_catalogue.specs.declared.catalogue.Table.{Table}
use Rattle.iv_catalogue.specs.declared.constraint.Constraint.{Constraint}
use Rattle.iv_catalogue.specs.declared.limits.TheConstants.{MOST_BODY_STATEMENTS, MOST_CONSTRAINTS, MOST_TABLES, MOST_TRIGGERS}
use Rattle.iv_catalogue.specs.declared.plan.Trigger.{Trigger}
use Rattle.iv_catalogue.specs.Catalogues.{Schema, AfterTable, BodiesWithinLimit, TriggersNumbered, AllOn, AllWithinTables, IsWithinLimits, constraint_places, places_from, with_constraint, with_table, with_trigger, without_trigger}
use Rattle.iv_catalogue.specs.ConstraintPlaces.{ArePlaces, EachWithinLimit, count_places, places_by_table}
use Rattle.iv_catalogue.proofs.Placing.{at_any, constraint_more, count_few, count_push, count_set, length_by_table, length_on, limit_at, limit_front, limit_push, limit_set, table_more, within_append, within_back, within_front, within_more, within_on}
use Rattle.iv_catalogue.proofs.TriggerNumbers.{bodies_filter, bodies_more, length_filter, rise_filter, rise_more}

-- the schema of these parts
abbrev pub parts : List Table → List Constraint → List Trigger → ℕ → Schema
parts tables constraints triggers created = record { tables = tables; constraints = constraints; triggers = triggers; created = created }

-- ---- how many constraints there are

-- as many lists as tables
pub as_many : (c : Schema) (lists : List (List ℕ)) → ArePlaces c.tables c.constraints lists → length lists ≡ length c.tables
as_many c lists h = ap length h.places ∙ length_by_table 0 c.tables c.constraints

pub few_constraints : (c : Schema) (lists : List (List ℕ)) → IsWithinLimits c → ArePlaces c.tables c.constraints lists → length c.constraints ≤ MOST_TABLES * MOST_CONSTRAINTS
few_constraints c lists w h = omega (arith, sym h.all, count_few lists h.few, as_many c lists h, w.tables)

-- ---- a table more

pub table_within : (c : Schema) (table : Table) (new : List Constraint) → IsWithinLimits c → length c.tables < MOST_TABLES → AllOn (length c.tables) new
    → IsWithinLimits (with_table c table new)
table_within c table new w room own =
    let longer : length (c.tables ++ table ∷ []) ≡ length c.tables + 1 = length-append c.tables (table ∷ []) in
    record {
      tables = omega (arith, longer, room);
      constraints = within_append (length (c.tables ++ table ∷ [])) c.constraints new
          (within_more (length c.tables) (length (c.tables ++ table ∷ [])) c.constraints (omega (arith, longer)) w.constraints)
          (within_on (length c.tables) (length (c.tables ++ table ∷ [])) new (omega (arith, longer)) own);
      triggers = w.triggers;
      bodies = w.bodies;
      numbers = w.numbers;
    }

pub table_places : (c : Schema) (lists : List (List ℕ)) (table : Table) (new : List Constraint) → IsWithinLimits c → ArePlaces c.tables c.constraints lists
    → AllOn (length c.tables) new → length new ≤ MOST_CONSTRAINTS
    → ArePlaces (c.tables ++ table ∷ []) (c.constraints ++ new) (lists ++ places_from (length c.tables) (length c.constraints) new ∷ [])
table_places c lists table new w h own few =
    let places = places_from (length c.tables) (length c.constraints) new in
    let count : length places ≡ length new = length_on (length c.tables) (length c.constraints) new own in
    record {
      places = ap (λ l. l ++ places ∷ []) h.places
          ∙ sym (table_more 0 (length c.tables) c.tables table c.constraints new (omega arith) w.constraints own);
      all = count_push lists places ∙ omega (arith, h.all, count, length-append c.constraints new);
      few = limit_push lists places h.few (omega (arith, count, few));
    }

-- ---- a constraint more

pub constraint_within : (c : Schema) (k : Constraint) → IsWithinLimits c → k.table < length c.tables → IsWithinLimits (with_constraint c k)
constraint_within c k w there = record {
  tables = w.tables;
  constraints = within_append (length c.tables) c.constraints (k ∷ []) w.constraints (there, tt);
  triggers = w.triggers;
  bodies = w.bodies;
  numbers = w.numbers;
}

pub constraint_places_more : (c : Schema) (lists : List (List ℕ)) (k : Constraint) → IsWithinLimits c → ArePlaces c.tables c.constraints lists
    → k.table < length c.tables → length (constraint_places c k.table) < MOST_CONSTRAINTS
    → ArePlaces c.tables (c.constraints ++ k ∷ []) (set lists k.table (get_or lists k.table [] ++ length c.constraints ∷ []))
constraint_places_more c lists k w h there few =
    let old = get_or lists k.table [] in
    let new = old ++ length c.constraints ∷ [] in
    let longer : length new ≡ length old + 1 = length-append old (length c.constraints ∷ []) in
    let same : length old ≡ length (constraint_places c k.table) =
    ap (λ l. length (get_or l k.table [])) h.places ∙ ap length (at_any k.table c.tables c.constraints w.constraints) in
    record {
      places = ap (λ l. set l k.table (get_or l k.table [] ++ length c.constraints ∷ [])) h.places
          ∙ sym (constraint_more 0 k.table c.tables c.constraints k (omega arith) there);
      all = omega (arith, count_set lists k.table new (omega (arith, there, as_many c lists h)), longer, h.all, length-append c.constraints (k ∷ []));
      few = limit_set lists k.table new h.few (omega (arith, longer, same, few));
    }

-- ---- a trigger more or less

pub trigger_within : (c : Schema) (t : Trigger) → IsWithinLimits c → length c.triggers < MOST_TRIGGERS → length t.body ≤ MOST_BODY_STATEMENTS
    → IsWithinLimits (with_trigger c t)
trigger_within c t w room body = record {
  tables = w.tables;
  constraints = w.constraints;
  triggers = omega (arith, room, length-append c.triggers (record t { id = c.created } ∷ []));
  bodies = bodies_more c.triggers (record t { id = c.created }) w.bodies body;
  numbers = rise_more 0 c.triggers c.created (record t { id = c.created }) refl w.numbers;
}

pub dropped_within : (c : Schema) (id : ℕ) → IsWithinLimits c → IsWithinLimits (without_trigger c id)
dropped_within c id w = record {
  tables = w.tables;
  constraints = w.constraints;
  triggers = omega (arith, length_filter (λ t. not (nat_eq t.id id)) c.triggers, w.triggers);
  bodies = bodies_filter (λ t. not (nat_eq t.id id)) c.triggers w.bodies;
  numbers = rise_filter (λ t. not (nat_eq t.id id)) 0 c.triggers c.created w.numbers;
}

-- ---- a table taken out again

module _ (before c : Schema) (table : Table) (new : List Constraint) (lists : List (List ℕ)) (a : AfterTable before table new c) (w : IsWithinLimits c) (h : ArePlaces c.tables c.constraints lists) where
  longer : length c.tables ≡ length before.tables + 1
  longer = ap (λ s. length s.tables) a.added ∙ length-append before.tables (table ∷ [])

  abbrev own_places : List ℕ
  own_places = places_from (length before.tables) (length before.constraints) new

  split : lists ≡ places_by_table 0 before.tables before.constraints ++ own_places ∷ []
  split =
      h.places ∙ ap (λ s. places_by_table 0 s.tables s.constraints) a.added
      ∙ table_more 0 (length before.tables) before.tables table before.constraints new (omega arith) a.others a.own

  module _ (n : ℕ) (e : n ≡ length c.tables - 1) where
    as_many_before : length (places_by_table 0 before.tables before.constraints) ≡ n
    as_many_before = length_by_table 0 before.tables before.constraints ∙ omega (arith, longer, e)

    front : take n lists ≡ places_by_table 0 before.tables before.constraints
    front = ap (take n) split ∙ take_at (places_by_table 0 before.tables before.constraints) (own_places ∷ []) n as_many_before

    pub as_many_own : length (get_or lists n []) ≡ length new
    as_many_own =
        ap (λ l. length (get_or l n [])) split
        ∙ ap length (get_or_at (places_by_table 0 before.tables before.constraints) own_places [] [] n as_many_before)
        ∙ length_on (length before.tables) (length before.constraints) new a.own

    more_constraints : length c.constraints ≡ length before.constraints + length new
    more_constraints = ap (λ s. length s.constraints) a.added ∙ length-append before.constraints new

    pub own_few : length (get_or lists n []) ≤ length c.constraints
    own_few = omega (arith, as_many_own, more_constraints)

    pub before_places : ArePlaces before.tables before.constraints (take n lists)
    before_places = record {
      places = front;
      all = ap count_places front ∙ omega (
        arith,
        count_push (places_by_table 0 before.tables before.constraints) own_places,
        ap count_places split,
        h.all,
        length_on (length before.tables) (length before.constraints) new a.own,
        more_constraints,
      );
      few = subst EachWithinLimit (sym front) (limit_front (places_by_table 0 before.tables before.constraints) own_places (subst EachWithinLimit split h.few));
    }

    pub back : (m : ℕ) → m ≡ length c.constraints - length (get_or lists n []) → parts (take n c.tables) (take m c.constraints) c.triggers c.created ≡ before
    back m f =
        let tables : take n c.tables ≡ before.tables =
        ap (λ s. take n s.tables) a.added ∙ take_at before.tables (table ∷ []) n (omega (arith, longer, e)) in
        let constraints : take m c.constraints ≡ before.constraints =
        ap (λ s. take m s.constraints) a.added ∙ take_at before.constraints new m (omega (arith, f, as_many_own, more_constraints)) in
        ap (λ ts. parts ts (take m c.constraints) c.triggers c.created) tables ∙ ap (λ ks. parts before.tables ks c.triggers c.created) constraints
        ∙ ap (λ ts. parts before.tables before.constraints ts c.created) (ap (λ s. s.triggers) a.added)
        ∙ ap (λ n. parts before.tables before.constraints before.triggers n) (ap (λ s. s.created) a.added)

  pub before_within : IsWithinLimits before
  before_within = record {
    tables = omega (arith, longer, w.tables);
    constraints = a.others;
    triggers = subst (λ s. length s.triggers ≤ MOST_TRIGGERS) a.added w.triggers;
    bodies = subst (λ s. BodiesWithinLimit s.triggers) a.added w.bodies;
    numbers = subst TriggersNumbered a.added w.numbers;
  }

-- ---- a constraint taken out again

-- a list that isn't empty is what comes before its last element, and that
pub last_apart : {X : Type 0} (xs : List X) (n : ℕ) (d : X) → 0 < length xs → n ≡ length xs - 1 → xs ≡ take n xs ++ get_or xs n d ∷ []
last_apart xs n d some e = sym (sym (take_more xs n d (omega (arith, some, e))) ∙ take_all (n + 1) xs (omega (arith, some, e)))

module _ (c : Schema) (lists : List (List ℕ)) (w : IsWithinLimits c) (h : ArePlaces c.tables c.constraints lists) (ks : List Constraint) (k : Constraint) (e : c.constraints ≡ ks ++ k ∷ []) where
  pub last_within : AllWithinTables (length c.tables) (k ∷ [])
  last_within = within_back (length c.tables) ks (k ∷ []) (subst (AllWithinTables (length c.tables)) e w.constraints)

  abbrev without : List (List ℕ)
  without = places_by_table 0 c.tables ks

  abbrev others : List ℕ
  others = get_or without k.table []

  with_last : lists ≡ set without k.table (others ++ length ks ∷ [])
  with_last = h.places ∙ ap (places_by_table 0 c.tables) e ∙ constraint_more 0 k.table c.tables ks k (omega arith) last_within.0

  there : k.table < length without
  there = omega (arith, last_within.0, length_by_table 0 c.tables ks)

  at_last : get_or lists k.table [] ≡ others ++ length ks ∷ []
  at_last = ap (λ l. get_or l k.table []) with_last ∙ get_or-set_same without k.table (others ++ length ks ∷ []) [] there

  shorter : take (length (get_or lists k.table []) - 1) (get_or lists k.table []) ≡ others
  shorter =
      ap (λ l. take (length l - 1) l) at_last
      ∙ take_at others (length ks ∷ []) (length (others ++ length ks ∷ []) - 1) (omega (arith, length-append others (length ks ∷ [])))

  popped_is : set lists k.table (take (length (get_or lists k.table []) - 1) (get_or lists k.table [])) ≡ without
  popped_is =
      ap (set lists k.table) shorter ∙ ap (λ l. set l k.table others) with_last
      ∙ set-set without k.table (others ++ length ks ∷ []) others ∙ set-get_or without k.table []

  pub popped_places : ArePlaces c.tables ks (set lists k.table (take (length (get_or lists k.table []) - 1) (get_or lists k.table [])))
  popped_places = record {
    places = popped_is;
    all = ap count_places popped_is ∙ omega (
      arith,
      count_set without k.table (others ++ length ks ∷ []) there,
      ap count_places with_last,
      h.all,
      ap length e,
      length-append ks (k ∷ []),
      length-append others (length ks ∷ []),
    );
    few = limit_set lists k.table (take (length (get_or lists k.table []) - 1) (get_or lists k.table [])) h.few (omega (
      arith,
      ap length shorter,
      ap length at_last,
      limit_at lists k.table h.few,
      length-append others (length ks ∷ []),
    ));
  }

  pub popped_within : IsWithinLimits (parts c.tables ks c.triggers c.created)
  popped_within = record {
    tables = w.tables;
    constraints = within_front (length c.tables) ks (k ∷ []) (subst (AllWithinTables (length c.tables)) e w.constraints);
    triggers = w.triggers;
    bodies = w.bodies;
    numbers = w.numbers;
  }

pub back_constraint : (before c : Schema) (k : Constraint) (n : ℕ) → c ≡ with_constraint before k → n ≡ length c.constraints - 1
    → parts c.tables (take n c.constraints) c.triggers c.created ≡ before
back_constraint before c k n added e =
    let constraints : take n c.constraints ≡ before.constraints =
    ap (λ s. take n s.constraints) added
    ∙ take_at before.constraints (k ∷ []) n (omega (arith, e, ap (λ s. length s.constraints) added, length-append before.constraints (k ∷ []))) in
    ap (λ ts. parts ts (take n c.constraints) c.triggers c.created) (ap (λ s. s.tables) added) ∙ ap (λ ks. parts before.tables ks c.triggers c.created) constraints
    ∙ ap (λ ts. parts before.tables before.constraints ts c.created) (ap (λ s. s.triggers) added)
    ∙ ap (λ n. parts before.tables before.constraints before.triggers n) (ap (λ s. s.created) added)
