-- Changes by table and event, and the firings of triggers on them.
use Rattle.std.proofs.Common.{◌≡◌, refl, ℕ, zero, suc, ◌+◌, ◌*◌, ◌<◌, ◌≤◌, Bool, true, false, ◌&&◌, if◌then◌else◌, List, [], ◌∷◌, ◌++◌, length, filter, flat_map, get_or, replicate, drop, sym, ap, subst, ◌∙◌, arith}
use Rattle.std.specs.Bool.{◌==◌}
use Rattle.std.specs.List.{slice_set}
use Rattle.std.proofs.lemmas.Bool.{eqb-true, eq-eqb, true≢false}
use Rattle.std.proofs.lemmas.List.{get_or-set_same, get_or-set_other, append-nil}
use Rattle.std.proofs.lemmas.List.Elements.{filter-append}
use Rattle.iv_expr.specs.declared.row.Change.{Change}
use Rattle.iv_expr.specs.declared.wave.TableColumn.{TableColumn}
use Rattle.iv_expr.specs.Changes.{Wave}
use Rattle.iv_syntax.specs.declared.trigger.TriggerEvent.{TriggerEvent}
use Rattle.iv_syntax.specs.declared.trigger.TriggerEvent.TheVariants as event
use Rattle.iv_catalogue.specs.declared.plan.DataStatement.{DataStatement}
use Rattle.iv_catalogue.specs.declared.plan.Trigger.{Trigger}
use Rattle.iv_machine.specs.Context.{Context}
use Rattle.iv_machine.specs.BeforeTriggers.{is_on, event_of_change, same_event}
use Rattle.iv_machine.specs.Levels.{Firing, firings_of, firings, is_after_on}
use Rattle.iv_exec_triggers.specs.ByTable.{event_place, place_of, transitions_on, is_of, ByTableAndEvent, OfTablesBelow, after_firings, all_firings}

-- ---- the firings

flat_filter : (p : Trigger → Bool) (f g : Trigger → List Firing) → ((t : Trigger) → p t ≡ true → g t ≡ f t) → ((t : Trigger) → p t ≡ false → g t ≡ [])
    → (ts : List Trigger) → flat_map g ts ≡ flat_map f (filter p ts)
flat_filter p f g in_it out [] = refl
flat_filter p f g in_it out (t ∷ ts) =
    elim (p t) as (λ b. p t ≡ b → g t ++ flat_map g ts ≡ flat_map f (if b then t ∷ filter p ts else filter p ts)) [
      | true ↦ λ e. λ i. in_it t e i ++ flat_filter p f g in_it out ts i
      | false ↦ λ e. λ i. out t e i ++ flat_filter p f g in_it out ts i
    ] refl

-- what fires by the parts is what the definition fires
pub firings_parted : (w : Context) (statement : DataStatement) (columns : List TableColumn) (parts : List (List Change)) (net : Wave)
    → ByTableAndEvent parts net.changes → all_firings statement columns parts w.schema.triggers ≡ firings w statement columns net
firings_parted w statement columns parts net h =
    flat_filter (is_after_on columns) (λ t. firings_of statement t (filter (λ c. is_on c.table (event_of_change c) t) net.changes)) (after_firings statement columns parts)
    (λ t e. ap (λ b. if b then firings_of statement t (transitions_on parts t.table t.event) else []) e ∙ ap (firings_of statement t) (h t.table t.event))
    (λ t e. ap (λ b. if b then firings_of statement t (transitions_on parts t.table t.event) else []) e)
    w.schema.triggers

-- ---- the parts

same_event_is : (d e : TriggerEvent) → same_event d e ≡ true → d ≡ e
same_event_is event.Insert event.Insert h = refl
same_event_is event.Insert event.Update h = absurd (true≢false (sym h))
same_event_is event.Insert event.Delete h = absurd (true≢false (sym h))
same_event_is event.Update event.Insert h = absurd (true≢false (sym h))
same_event_is event.Update event.Update h = refl
same_event_is event.Update event.Delete h = absurd (true≢false (sym h))
same_event_is event.Delete event.Insert h = absurd (true≢false (sym h))
same_event_is event.Delete event.Update h = absurd (true≢false (sym h))
same_event_is event.Delete event.Delete h = refl

-- an event by its place
place_same : (d e : TriggerEvent) → event_place d ≡ event_place e → same_event d e ≡ true
place_same event.Insert event.Insert h = refl
place_same event.Insert event.Update h = absurd (omega arith)
place_same event.Insert event.Delete h = absurd (omega arith)
place_same event.Update event.Insert h = absurd (omega arith)
place_same event.Update event.Update h = refl
place_same event.Update event.Delete h = absurd (omega arith)
place_same event.Delete event.Insert h = absurd (omega arith)
place_same event.Delete event.Update h = absurd (omega arith)
place_same event.Delete event.Delete h = refl

place_small : (e : TriggerEvent) → event_place e < 3
place_small event.Insert = omega arith
place_small event.Update = omega arith
place_small event.Delete = omega arith

-- another table or event has another place
place_other : (t u : ℕ) (d e : TriggerEvent) → (t == u && same_event d e) ≡ false → place_of t d ≡ place_of u e → ⊥
place_other t u d e h is =
    let table : t ≡ u = omega (arith, is, place_small d, place_small e) in
    let place : event_place d ≡ event_place e = omega (arith, is, table) in
    true≢false (sym (λ i. eq-eqb t u table i && place_same d e place i) ∙ h)

part_put : (parts : List (List Change)) (c : Change) (t : ℕ) (e : TriggerEvent) → place_of c.table (event_of_change c) < length parts
    → transitions_on (slice_set parts (place_of c.table (event_of_change c)) (transitions_on parts c.table (event_of_change c) ++ c ∷ [])) t e
    ≡ transitions_on parts t e ++ (if is_of t e c then c ∷ [] else [])
part_put parts c t e less =
    elim (is_of t e c) as (λ b. is_of t e c ≡ b
    → transitions_on (slice_set parts (place_of c.table (event_of_change c)) (transitions_on parts c.table (event_of_change c) ++ c ∷ [])) t e ≡ transitions_on parts t e ++ (if b then c ∷ [] else [])) [
      | true ↦ λ h.
          let table : t ≡ c.table = eqb-true t c.table (first _ _ h) in
          let same : e ≡ event_of_change c = same_event_is e (event_of_change c) (second _ _ h) in
          (λ i. transitions_on (slice_set parts (place_of c.table (event_of_change c)) (transitions_on parts c.table (event_of_change c) ++ c ∷ [])) (table i) (same i))
          ∙ get_or-set_same parts (place_of c.table (event_of_change c)) (transitions_on parts c.table (event_of_change c) ++ c ∷ []) [] less
          ∙ sym (λ i. transitions_on parts (table i) (same i) ++ c ∷ [])
      | false ↦ λ h.
          get_or-set_other parts (place_of c.table (event_of_change c)) (place_of t e) (transitions_on parts c.table (event_of_change c) ++ c ∷ []) [] (λ is. place_other t c.table e (event_of_change c) h is)
          ∙ sym (append-nil (transitions_on parts t e))
    ] refl
  where
    first : (a b : Bool) → (a && b) ≡ true → a ≡ true
    first true b h = refl
    first false b h = h

    second : (a b : Bool) → (a && b) ≡ true → b ≡ true
    second true b h = h
    second false b h = absurd (true≢false (sym h))

nothing_at : (n i : ℕ) → get_or {A = List Change} (replicate n []) i [] ≡ []
nothing_at zero i = refl
nothing_at (suc n) zero = refl
nothing_at (suc n) (suc i) = nothing_at n i

pub parted_nothing : (count : ℕ) → ByTableAndEvent (replicate count []) []
parted_nothing count t e = nothing_at count (place_of t e)

pub parted_more : (parts more : List (List Change)) (changes : List Change) (c : Change) → place_of c.table (event_of_change c) < length parts
    → more ≡ slice_set parts (place_of c.table (event_of_change c)) (transitions_on parts c.table (event_of_change c) ++ c ∷ [])
    → ByTableAndEvent parts changes → ByTableAndEvent more (changes ++ c ∷ [])
parted_more parts more changes c less is h t e =
    ap (λ l. transitions_on l t e) is ∙ part_put parts c t e less
    ∙ ap (λ l. l ++ (if is_of t e c then c ∷ [] else [])) (h t e)
    ∙ ap (λ l. filter (is_of t e) changes ++ l) (one (is_of t e c) refl)
    ∙ sym (filter-append (is_of t e) changes (c ∷ []))
  where
    one : (b : Bool) → b ≡ is_of t e c → (if is_of t e c then c ∷ [] else []) ≡ filter (is_of t e) (c ∷ [])
    one b q = refl

pub table_of_next : (tables i : ℕ) (changes : List Change) (c : Change) → drop i changes ≡ c ∷ drop (i + 1) changes → OfTablesBelow tables (drop i changes) → OfTablesBelow tables (c ∷ drop (i + 1) changes)
table_of_next tables i changes c e h = subst (OfTablesBelow tables) e h

pub place_within : (tables long : ℕ) (c : Change) → c.table < tables → 3 * tables ≤ long → place_of c.table (event_of_change c) < long
place_within tables long c h k = omega (arith, place_small (event_of_change c), h, k)
