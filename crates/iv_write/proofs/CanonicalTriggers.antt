-- CREATE TRIGGER in the words that it is written with.
use Rattle.std.proofs.Common.{inl, inr, ℕ, Some, None, List, [], ◌∷◌, ◌++◌, refl, subst}
use Rattle.iv_lex.specs.declared.kind.TokenKind.TheVariants as kind
use Rattle.iv_lex.specs.Words.{Word, name, plain}
use Rattle.iv_parse_terms.specs.Expressions.{spelling}
use Rattle.iv_parse_data.specs.Series.{Sequence, Maybe}
use Rattle.iv_parse_data.specs.Data.{IsShallowCondition}
use Rattle.iv_parse.specs.Triggers.{side_kind, time_kind, IsTransition, IsItem, IsReferencing, IsGranularity, IsWhen, IsAction, IsEndedAction, IsBody, IsUpdateColumns, IsEvent, IsTrigger}
use Rattle.iv_write.specs.Types.{TriggerAction, TriggerEvent}
use Rattle.iv_write.specs.Types.event
use Rattle.iv_write.specs.Types.granularity
use Rattle.iv_write.specs.Types.transition
use Rattle.iv_write.specs.Types.action
use Rattle.iv_write.specs.Spelling.{AreWritten}
use Rattle.iv_write.specs.Terms.{condition_words}
use Rattle.iv_write.specs.Parts.{sequence_words, enclosed_words}
use Rattle.iv_write.specs.Data.{names_words}
use Rattle.iv_write.specs.Triggers.{transition_words, item_words, referencing_words, granularity_words, when_words, action_words, ended_words, body_words, columns_words, event_words, trigger_words}
use Rattle.iv_write.proofs.Canonical.{joined, parts, Canonical}
use Rattle.iv_write.proofs.CanonicalParts.{sequence_canonical, enclosed_canonical}
use Rattle.iv_write.proofs.CanonicalData.{names_canonical, shallow_canonical, shallow_condition_canonical, insert_canonical, update_canonical, delete_canonical}

-- ---- REFERENCING, FOR EACH and WHEN

transition_canonical : Canonical IsTransition transition_words
transition_canonical ws transition.Row p w = (inl refl, tt {0})
transition_canonical ws transition.Table e w = (refl, subst AreWritten e w)

item_canonical : Canonical IsItem item_words
item_canonical ws r (what, as_word, p, q, e) w =
    let u : AreWritten (plain (side_kind r.side) ∷ (what ++ (as_word ++ name r.name ∷ []))) = subst AreWritten e w in
    let v = parts what (as_word ++ name r.name ∷ []) u.1 in
    let t = parts as_word (name r.name ∷ []) v.1 in
    let x = transition_canonical what r.what p v.0 in (
      (transition_words r.what, plain kind.As ∷ [], x.0, inr refl, refl),
      (u.0, joined (transition_words r.what) (plain kind.As ∷ name r.name ∷ []) x.1 (refl, t.1)),
    )

referencing_canonical : Canonical IsReferencing referencing_words
referencing_canonical ws [] e w = (refl, tt {0})
referencing_canonical ws (r ∷ rs) (items, p, e) w =
    let u : AreWritten (plain kind.Referencing ∷ items) = subst AreWritten e w in
    let x = sequence_canonical IsItem item_words item_canonical items (r ∷ rs) p u.1 in
    ((sequence_words item_words (r ∷ rs), x.0, refl), (refl, x.1))

granularity_canonical : Canonical IsGranularity granularity_words
granularity_canonical ws granularity.Row e w = (refl, subst AreWritten e w)
granularity_canonical ws granularity.Statement p w = (inl refl, tt {0})

when_canonical : Canonical (Maybe IsWhen) when_words
when_canonical ws None e w = (refl, tt {0})
when_canonical ws (Some c) (check, p, e) w =
    let u : AreWritten (plain kind.When ∷ check) = subst AreWritten e w in
    let x = enclosed_canonical IsShallowCondition condition_words shallow_condition_canonical check c p u.1 in
    ((enclosed_words (condition_words c), x.0, refl), (refl, x.1))

-- ---- the body

action_canonical : Canonical IsAction action_words
action_canonical ws (action.Insert i) p w = insert_canonical ws i p w
action_canonical ws (action.Update u) p w = update_canonical ws u p w
action_canonical ws (action.Delete d) p w = delete_canonical ws d p w
action_canonical ws (action.Signal t) e w = (refl, subst AreWritten e w)
action_canonical ws (action.Set r c a) (value, p, e) w =
    let u : AreWritten (plain kind.Set ∷ name r ∷ plain kind.Period ∷ name c ∷ plain kind.Equals ∷ value) = subst AreWritten e w in
    let x = shallow_canonical value a p u.1.1.1.1.1 in
    ((spelling a, x.0, refl), (refl, (u.1.0, (refl, (u.1.1.1.0, (refl, x.1))))))

ended_canonical : Canonical IsEndedAction ended_words
ended_canonical ws a (inner, p, e) w =
    let v = parts inner (plain kind.Semicolon ∷ []) (subst AreWritten e w) in
    let x = action_canonical inner a p v.0 in
    ((action_words a, x.0, refl), joined (action_words a) (plain kind.Semicolon ∷ []) x.1 (refl, tt {0}))

-- a block of one statement is written as that statement
one_ended : (ws : List Word) (a : TriggerAction) → Sequence IsEndedAction ws (a ∷ []) → AreWritten ws → IsAction (action_words a) a × AreWritten (action_words a)
one_ended ws a (front, back, (inner, p, f), m, e) w =
    let v = parts front back (subst AreWritten e w) in
    action_canonical inner a p (parts inner (plain kind.Semicolon ∷ []) (subst AreWritten f v.0)).0

inside_block : (actions : List Word) → AreWritten (plain kind.Begin ∷ plain kind.Atomic ∷ (actions ++ plain kind.End ∷ [])) → AreWritten actions
inside_block actions u = (parts actions (plain kind.End ∷ []) u.1.1).0

body_canonical : Canonical IsBody body_words
body_canonical ws [] (inl p) w = absurd p
body_canonical ws [] (inr p) w = absurd p
body_canonical ws (a ∷ []) (inl p) w = let x = action_canonical ws a p w in (inl x.0, x.1)
body_canonical ws (a ∷ []) (inr (actions, p, e)) w = let x = one_ended actions a p (inside_block actions (subst AreWritten e w)) in (inl x.0, x.1)
body_canonical ws (a ∷ b ∷ rest) (inl p) w = absurd p
body_canonical ws (a ∷ b ∷ rest) (inr (actions, p, e)) w =
    let all : List Word = sequence_words ended_words (a ∷ b ∷ rest) in
    let x = sequence_canonical IsEndedAction ended_words ended_canonical actions (a ∷ b ∷ rest) p (inside_block actions (subst AreWritten e w)) in
    (inr (all, x.0, refl), (refl, (refl, joined all (plain kind.End ∷ []) x.1 (refl, tt {0}))))

-- ---- the event

columns_canonical : Canonical IsUpdateColumns columns_words
columns_canonical ws [] e w = (refl, tt {0})
columns_canonical ws (n ∷ ns) (names, p, e) w =
    let u : AreWritten (plain kind.Of ∷ names) = subst AreWritten e w in
    let x = names_canonical names (n ∷ ns) p u.1 in
    ((names_words (n ∷ ns), x.0, refl), (refl, x.1))

event_canonical : (ws : List Word) (e : TriggerEvent) (ns : List (List ℕ)) → IsEvent ws e ns → AreWritten ws
    → IsEvent (event_words e ns) e ns × AreWritten (event_words e ns)
event_canonical ws event.Insert ns (p, e) w = ((p, refl), (refl, tt {0}))
event_canonical ws event.Update ns (columns, p, e) w =
    let u : AreWritten (plain kind.Update ∷ columns) = subst AreWritten e w in
    let x = columns_canonical columns ns p u.1 in
    ((columns_words ns, x.0, refl), (refl, x.1))
event_canonical ws event.Delete ns (p, e) w = ((p, refl), (refl, tt {0}))

-- ---- the statement

pub trigger_canonical : Canonical IsTrigger trigger_words
trigger_canonical ws t (happens, items, each, when, body, h, p, q, r, s, e) w =
    let u : AreWritten (plain kind.Create ∷ plain kind.Trigger ∷ name t.name ∷ plain (time_kind t.time)
    ∷ (happens ++ plain kind.On ∷ name t.table ∷ (items ++ (each ++ (when ++ body))))) = subst AreWritten e w in
    let v = parts happens (plain kind.On ∷ name t.table ∷ (items ++ (each ++ (when ++ body)))) u.1.1.1.1 in
    let a = parts items (each ++ (when ++ body)) v.1.1.1 in
    let b = parts each (when ++ body) a.1 in
    let c = parts when body b.1 in
    let k = event_canonical happens t.event t.columns h v.0 in
    let l = referencing_canonical items t.referencing p a.0 in
    let m = granularity_canonical each t.granularity q b.0 in
    let n = when_canonical when t.when r c.0 in
    let o = body_canonical body t.body s c.1 in
    let ends : List Word = when_words t.when ++ body_words t.body in
    let ends_written : AreWritten ends = joined (when_words t.when) (body_words t.body) n.1 o.1 in
    let more : List Word = referencing_words t.referencing ++ (granularity_words t.granularity ++ ends) in
    let more_written : AreWritten more = joined (referencing_words t.referencing) (granularity_words t.granularity ++ ends) l.1 (joined (granularity_words t.granularity) ends m.1 ends_written) in (
      (event_words t.event t.columns, referencing_words t.referencing, granularity_words t.granularity, when_words t.when, body_words t.body, k.0, l.0, m.0, n.0, o.0, refl),
      (refl, (refl, (u.1.1.0, (u.1.1.1.0, joined (event_words t.event t.columns) (plain kind.On ∷ name t.table ∷ more) k.1 (refl, (v.1.1.0, more_written)))))),
    )
