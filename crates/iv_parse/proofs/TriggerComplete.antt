-- What is in the grammar of CREATE TRIGGER is read.
use Rattle.std.proofs.Common.{◌≡◌, inl, inr, ℕ, false, Option, Some, None, List, [], ◌∷◌, ◌++◌, length, refl, sym, ◌∙◌, ap, append_assoc}
use Rattle.iv_lex.specs.declared.kind.TokenKind.{TokenKind}
use Rattle.iv_lex.specs.declared.kind.TokenKind.TheVariants as kind
use Rattle.iv_lex.specs.Words.{Word, name, plain}
use Rattle.iv_parse.specs.Types.{Side, Condition, ActionTime, TriggerEvent, Granularity, TransitionName, Referencing, TriggerAction, TriggerDefinition}
use Rattle.iv_parse.specs.Types.side
use Rattle.iv_parse.specs.Types.time as action_time
use Rattle.iv_parse.specs.Types.event
use Rattle.iv_parse.specs.Types.granularity
use Rattle.iv_parse.specs.Types.transition
use Rattle.iv_parse.specs.Types.action
use Rattle.iv_syntax.specs.declared.statement.Insert.TheVariants as insert
use Rattle.iv_syntax.specs.declared.statement.Insert.{Insert}
use Rattle.iv_parse_terms.specs.After.{after, if_some, then_read, same}
use Rattle.iv_parse_data.specs.Series.{Maybe, Optional}
use Rattle.iv_parse_data.specs.readers.Series.{read_all, read_sequence, skip}
use Rattle.iv_parse_data.specs.Data.{IsInsert}
use Rattle.iv_parse_data.specs.readers.Data.{then_word, read_name, read_check}
use Rattle.iv_parse_data.specs.readers.Items.{read_transition, read_referencing_item_of, read_referencing_item}
use Rattle.iv_parse.specs.Triggers.{side_kind, IsTransition, IsItem, IsReferencing, IsGranularity, IsWhen, IsAction, IsEndedAction, IsBody, time_kind, IsUpdateColumns, IsEvent, IsTrigger}
use Rattle.iv_parse.specs.readers.Triggers.{read_middle, trigger_of, some_items, read_referencing, read_granularity, read_when, read_set_action, read_action, read_with_semicolon, read_ended_action, some_actions, read_body, read_action_time, read_update_columns, read_event, read_occasion, read_trigger}
use Rattle.iv_parse_data.proofs.Complete.{Anything}
use Rattle.iv_parse_data.proofs.OptionalComplete.{maybe_after, Parts, sequence_complete}
use Rattle.iv_parse_data.proofs.DataComplete.{EndsStatement, semicolon, names_complete, shallow_complete, check_complete, insert_reads, update_reads, delete_reads, other_word, statement_expression}
use Rattle.iv_parse.proofs.Readers.{read_each, read_signal, read_other_action, read_delete_action, read_block, read_single, read_update_event, read_other_event, read_trigger_rest}

abbrev named : Side → TransitionName → List ℕ → List Word → Option (Option Referencing × List Word)
named s w n more = Some (Some (record { side = s; what = w; name = n }), more)

named_reads : (s : Side) (w : TransitionName) (n : List ℕ) (word rest : List Word) → Optional kind.As word
    → then_read (read_name (skip kind.As (word ++ name n ∷ rest))) (named s w) ≡ named s w n rest
named_reads s w n word rest (inl h) = ap (λ z. then_read (read_name (skip kind.As (z ++ name n ∷ rest))) (named s w)) h
named_reads s w n word rest (inr h) = ap (λ z. then_read (read_name (skip kind.As (z ++ name n ∷ rest))) (named s w)) h

as_begins : (k : TokenKind) → same kind.As k ≡ false → (n : List ℕ) (word rest : List Word) → Optional kind.As word → after k (word ++ name n ∷ rest) ≡ None
as_begins k h n word rest (inl e) = ap (λ z. after k (z ++ name n ∷ rest)) e
as_begins k h n word rest (inr e) = ap (λ z. after k (z ++ name n ∷ rest)) e ∙ other_word k kind.As _ h

transition_reads : (w : TransitionName) (what ws : List Word) → IsTransition what w → after kind.Table ws ≡ None → after kind.Row ws ≡ None → read_transition (what ++ ws) ≡ Some (w, ws)
unfolding read_transition
transition_reads transition.Table what ws h e i = ap (λ z. read_transition (z ++ ws)) h
transition_reads transition.Row what ws (inl h) e i =
    ap (λ z. read_transition (z ++ ws)) h
    ∙ ap (λ o. if_some o (λ rest. Some (transition.Table, rest)) (Some (transition.Row, skip kind.Row ws))) e
    ∙ ap (λ o. Some (transition.Row, if_some o (λ rest. rest) ws)) i
transition_reads transition.Row what ws (inr h) e i = ap (λ z. read_transition (z ++ ws)) h

item_of_reads : (r : Referencing) (what word rest : List Word) → IsTransition what r.what → Optional kind.As word → read_referencing_item_of r.side (what ++ (word ++ name r.name ∷ rest)) ≡ Some (Some r, rest)
unfolding read_referencing_item_of
item_of_reads r what word rest p o =
    ap (λ x. then_read x (λ w more. then_read (read_name (skip kind.As more)) (named r.side w)))
    (transition_reads r.what what (word ++ name r.name ∷ rest) p (as_begins kind.Table refl r.name word rest o) (as_begins kind.Row refl r.name word rest o))
    ∙ named_reads r.side r.what r.name word rest o

side_reads : (s : Side) (ws : List Word) → read_referencing_item (plain (side_kind s) ∷ ws) ≡ read_referencing_item_of s ws
unfolding read_referencing_item
side_reads side.Old ws = refl
side_reads side.New ws = refl

item_reads : (r : Referencing) (front rest : List Word) → IsItem front r → Anything rest → read_referencing_item (front ++ rest) ≡ Some (Some r, rest)
item_reads r front rest (what, word, p, o, w) e =
    ap (λ z. read_referencing_item (z ++ rest)) w
    ∙ side_reads r.side ((what ++ (word ++ name r.name ∷ [])) ++ rest)
    ∙ ap (read_referencing_item_of r.side) (append_assoc what (word ++ name r.name ∷ []) rest ∙ ap (λ z. what ++ z) (append_assoc word (name r.name ∷ []) rest))
    ∙ item_of_reads r what word rest p o

item_parts : Parts IsItem Anything read_referencing_item
item_parts = record { reads = item_reads; begins = λ r f ws p. tt }

no_item : (ws : List Word) → after kind.Old ws ≡ None → after kind.New ws ≡ None → read_referencing_item ws ≡ Some (None, ws)
unfolding read_referencing_item
no_item ws h i =
    ap (λ o. if_some o (read_referencing_item_of side.Old) (if_some (after kind.New ws) (read_referencing_item_of side.New) (Some (None, ws)))) h
    ∙ ap (λ o. if_some o (read_referencing_item_of side.New) (Some (None, ws))) i

referencing_reads : (rs : List Referencing) (front rest : List Word) → IsReferencing front rs → after kind.Referencing rest ≡ None → after kind.Old rest ≡ None → after kind.New rest ≡ None
    → read_referencing (front ++ rest) ≡ Some (rs, rest)
unfolding read_referencing read_all
referencing_reads [] front rest p e h i =
    ap (λ z. read_referencing (z ++ rest)) p
    ∙ ap (λ o. if_some o (λ more. then_read (read_sequence read_referencing_item (length more) more) some_items) (Some ([], rest))) e
referencing_reads (r ∷ rs) front rest (items, p, w) e h i =
    ap (λ z. read_referencing (z ++ rest)) w
    ∙ ap (λ o. then_read o some_items) (sequence_complete IsItem Anything read_referencing_item item_parts (r ∷ rs) items rest p tt (no_item rest h i))

granularity_reads : (g : Granularity) (front rest : List Word) → IsGranularity front g → after kind.For rest ≡ None → read_granularity (front ++ rest) ≡ Some (g, rest)
unfolding read_granularity
granularity_reads granularity.Row front rest p e = ap (λ z. read_granularity (z ++ rest)) p
granularity_reads granularity.Statement front rest (inl p) e =
    ap (λ z. read_granularity (z ++ rest)) p ∙ ap (λ o. if_some o (λ more. then_word kind.Each more read_each) (Some (granularity.Statement, rest))) e
granularity_reads granularity.Statement front rest (inr p) e = ap (λ z. read_granularity (z ++ rest)) p

when_reads : (c : Option Condition) (front rest : List Word) → Maybe IsWhen front c → after kind.When rest ≡ None → read_when (front ++ rest) ≡ Some (c, rest)
unfolding read_when
when_reads None front rest p e =
    ap (λ z. read_when (z ++ rest)) p ∙ ap (λ o. if_some o (λ more. then_read (read_check more) (λ c left. Some (Some c, left))) (Some (None, rest))) e
when_reads (Some c) front rest (check, p, w) e =
    ap (λ z. read_when (z ++ rest)) w ∙ ap (λ o. then_read o (λ c left. Some (Some c, left))) (check_complete.reads c check rest p tt)

action_reads : (a : TriggerAction) (front rest : List Word) → IsAction front a → EndsStatement rest → read_action (front ++ rest) ≡ Some (a, rest)
unfolding read_action read_set_action
action_reads (action.Insert i) front rest p e =
    let (back, w, h) = insert_reads i front rest p e in ap read_action w ∙ ap (λ o. then_read o (λ i more. Some (action.Insert i, more))) h
action_reads (action.Update u) front rest p e =
    let (back, w, h) = update_reads u front rest p e in ap read_action w ∙ ap (λ o. then_read o (λ u more. Some (action.Update u, more))) h
action_reads (action.Delete d) front rest p e =
    let (back, w, h) = delete_reads d front rest p e in ap read_action w ∙ ap (λ o. then_read o (λ d more. Some (action.Delete d, more))) h
action_reads (action.Signal t) front rest p e = ap (λ z. read_action (z ++ rest)) p
action_reads (action.Set r c x) front rest (value, p, w) e =
    ap (λ z. read_action (z ++ rest)) w ∙ ap (λ o. then_read o (λ x more. Some (action.Set r c x, more))) (shallow_complete.reads x value rest p (statement_expression rest e))

-- no action begins with this word
pub record Outside (k : TokenKind) : Type 0 where
  pub begin : same kind.Begin k ≡ false
  pub insert : same kind.Insert k ≡ false
  pub update : same kind.Update k ≡ false
  pub delete : same kind.Delete k ≡ false
  pub signal : same kind.Signal k ≡ false
  pub set : same kind.Set k ≡ false

insert_begins : (k : TokenKind) → Outside k → (i : Insert) (front rest : List Word) → IsInsert front i → after k (front ++ rest) ≡ None
insert_begins k o (insert.DefaultValues t) front rest p = ap (λ z. after k (z ++ rest)) p ∙ other_word k kind.Insert _ o.insert
insert_begins k o (insert.Rows t cs s) front rest (columns, rows, p, q, w) = ap (λ z. after k (z ++ rest)) w ∙ other_word k kind.Insert _ o.insert

action_begins : (k : TokenKind) → Outside k → (a : TriggerAction) (front rest : List Word) → IsAction front a → after k (front ++ rest) ≡ None
action_begins k o (action.Insert i) front rest p = insert_begins k o i front rest p
action_begins k o (action.Update u) front rest (list, filter, p, q, w) = ap (λ z. after k (z ++ rest)) w ∙ other_word k kind.Update _ o.update
action_begins k o (action.Delete d) front rest (filter, q, w) = ap (λ z. after k (z ++ rest)) w ∙ other_word k kind.Delete _ o.delete
action_begins k o (action.Signal t) front rest p = ap (λ z. after k (z ++ rest)) p ∙ other_word k kind.Signal _ o.signal
action_begins k o (action.Set r c x) front rest (value, p, w) = ap (λ z. after k (z ++ rest)) w ∙ other_word k kind.Set _ o.set

body_begins : (k : TokenKind) → Outside k → (xs : List TriggerAction) (front rest : List Word) → IsBody front xs → after k (front ++ rest) ≡ None
body_begins k o [] front rest (inl p) = absurd p
body_begins k o (a ∷ []) front rest (inl p) = action_begins k o a front rest p
body_begins k o (a ∷ b ∷ xs) front rest (inl p) = absurd p
body_begins k o [] front rest (inr p) = absurd p
body_begins k o (a ∷ xs) front rest (inr (acts, p, w)) = ap (λ z. after k (z ++ rest)) w ∙ other_word k kind.Begin _ o.begin

when_begins : (k : TokenKind) → same kind.When k ≡ false → (c : Option Condition) (front ws : List Word) → Maybe IsWhen front c → after k ws ≡ None → after k (front ++ ws) ≡ None
when_begins k h c front ws p e = maybe_after IsWhen k (λ x f rest q. ap (λ z. after k (z ++ rest)) q.2 ∙ other_word k kind.When _ h) c front ws p e

granularity_begins : (k : TokenKind) → same kind.For k ≡ false → (g : Granularity) (front ws : List Word) → IsGranularity front g → after k ws ≡ None → after k (front ++ ws) ≡ None
granularity_begins k h granularity.Row front ws p e = ap (λ z. after k (z ++ ws)) p ∙ other_word k kind.For _ h
granularity_begins k h granularity.Statement front ws (inl p) e = ap (λ z. after k (z ++ ws)) p ∙ e
granularity_begins k h granularity.Statement front ws (inr p) e = ap (λ z. after k (z ++ ws)) p ∙ other_word k kind.For _ h

outside_end : Outside kind.End
outside_end = record { begin = refl; insert = refl; update = refl; delete = refl; signal = refl; set = refl }

ended_reads : (a : TriggerAction) (front rest : List Word) → IsEndedAction front a → Anything rest → read_ended_action (front ++ rest) ≡ Some (Some a, rest)
unfolding read_ended_action read_with_semicolon
ended_reads a front rest (inner, p, w) e =
    ap (λ z. read_ended_action (z ++ rest)) w ∙ ap read_ended_action (append_assoc inner (plain kind.Semicolon ∷ []) rest)
    ∙ ap (λ o. if_some o (λ more. Some (None, inner ++ plain kind.Semicolon ∷ rest)) (then_read (read_with_semicolon (inner ++ plain kind.Semicolon ∷ rest)) (λ a more. Some (Some a, more))))
    (action_begins kind.End outside_end a inner (plain kind.Semicolon ∷ rest) p)
    ∙ ap (λ o. then_read (then_read o (λ a left. then_word kind.Semicolon left (λ more. Some (a, more)))) (λ a more. Some (Some a, more)))
    (action_reads a inner (plain kind.Semicolon ∷ rest) p (semicolon rest))

ended_parts : Parts IsEndedAction Anything read_ended_action
ended_parts = record { reads = ended_reads; begins = λ a f ws p. tt }

end_reads : (ws : List Word) → read_ended_action (plain kind.End ∷ ws) ≡ Some (None, plain kind.End ∷ ws)
unfolding read_ended_action
end_reads ws = refl

-- an action doesn't begin with BEGIN
insert_body : (i : Insert) (front rest : List Word) → IsInsert front i → after kind.Begin (front ++ rest) ≡ None
insert_body (insert.DefaultValues t) front rest p = ap (λ z. after kind.Begin (z ++ rest)) p
insert_body (insert.Rows t cs s) front rest (columns, rows, p, q, w) = ap (λ z. after kind.Begin (z ++ rest)) w

action_begins_body : (a : TriggerAction) (front rest : List Word) → IsAction front a → after kind.Begin (front ++ rest) ≡ None
action_begins_body (action.Insert i) front rest p = insert_body i front rest p
action_begins_body (action.Update u) front rest (list, filter, p, q, w) = ap (λ z. after kind.Begin (z ++ rest)) w
action_begins_body (action.Delete d) front rest (filter, q, w) = ap (λ z. after kind.Begin (z ++ rest)) w
action_begins_body (action.Signal t) front rest p = ap (λ z. after kind.Begin (z ++ rest)) p
action_begins_body (action.Set r c x) front rest (value, p, w) = ap (λ z. after kind.Begin (z ++ rest)) w

single_reads : (a : TriggerAction) (front rest : List Word) → IsAction front a → EndsStatement rest → read_body (front ++ rest) ≡ Some (a ∷ [], rest)
unfolding read_body
single_reads a front rest p e =
    ap (λ o. if_some o read_block (read_single (front ++ rest))) (action_begins_body a front rest p)
    ∙ ap (λ o. then_read o (λ a more. Some (a ∷ [], more))) (action_reads a front rest p e)

body_reads : (xs : List TriggerAction) (front rest : List Word) → IsBody front xs → EndsStatement rest → read_body (front ++ rest) ≡ Some (xs, rest)
unfolding read_body read_all
body_reads [] front rest (inl p) e = absurd p
body_reads (a ∷ []) front rest (inl p) e = single_reads a front rest p e
body_reads (a ∷ b ∷ xs) front rest (inl p) e = absurd p
body_reads [] front rest (inr p) e = absurd p
body_reads (a ∷ xs) front rest (inr (acts, p, w)) e =
    ap (λ z. read_body (z ++ rest)) w
    ∙ ap (λ z. then_read (read_sequence read_ended_action (length z) z) some_actions) (append_assoc acts (plain kind.End ∷ []) rest)
    ∙ ap (λ o. then_read o some_actions) (sequence_complete IsEndedAction Anything read_ended_action ended_parts (a ∷ xs) acts (plain kind.End ∷ rest) p tt (end_reads rest))

action_time_reads : (t : ActionTime) (rest : List Word) → read_action_time (plain (time_kind t) ∷ rest) ≡ Some (t, rest)
unfolding read_action_time
action_time_reads action_time.Before rest = refl
action_time_reads action_time.After rest = refl

update_columns_reads : (ns : List (List ℕ)) (front rest : List Word) → IsUpdateColumns front ns → read_update_columns (front ++ plain kind.On ∷ rest) ≡ Some (ns, plain kind.On ∷ rest)
unfolding read_update_columns
update_columns_reads [] front rest p = ap (λ z. read_update_columns (z ++ plain kind.On ∷ rest)) p
update_columns_reads (n ∷ ns) front rest (names, p, w) =
    ap (λ z. read_update_columns (z ++ plain kind.On ∷ rest)) w ∙ names_complete.reads (n ∷ ns) names (plain kind.On ∷ rest) p (tt, refl)

event_reads : (e : TriggerEvent) (ns : List (List ℕ)) (front rest : List Word) → IsEvent front e ns → read_event (front ++ plain kind.On ∷ rest) ≡ Some ((e, ns), plain kind.On ∷ rest)
unfolding read_event
event_reads event.Insert ns front rest (p, w) =
    ap (λ z. read_event (z ++ plain kind.On ∷ rest)) w ∙ ap (λ xs. Some ((event.Insert, xs), plain kind.On ∷ rest)) (sym p)
event_reads event.Update ns front rest (columns, p, w) =
    ap (λ z. read_event (z ++ plain kind.On ∷ rest)) w
    ∙ ap (λ o. then_read o (λ xs more. Some ((event.Update, xs), more))) (update_columns_reads ns columns rest p)
event_reads event.Delete ns front rest (p, w) =
    ap (λ z. read_event (z ++ plain kind.On ∷ rest)) w ∙ ap (λ xs. Some ((event.Delete, xs), plain kind.On ∷ rest)) (sym p)

occasion_reads : (t : ActionTime) (e : TriggerEvent) (ns : List (List ℕ)) (front rest : List Word) → IsEvent front e ns
    → read_occasion (plain (time_kind t) ∷ (front ++ plain kind.On ∷ rest)) ≡ Some ((t, e, ns), rest)
unfolding read_occasion
occasion_reads t e ns front rest p =
    ap (λ o. then_read o (λ x more. then_read (read_event more) (λ y left. then_word kind.On left (λ last. Some ((x, y.0, y.1), last)))))
    (action_time_reads t (front ++ plain kind.On ∷ rest))
    ∙ ap (λ o. then_read o (λ y left. then_word kind.On left (λ last. Some ((t, y.0, y.1), last)))) (event_reads e ns front rest p)

-- what follows the items begins with none of these
tail_begins : (k : TokenKind) → Outside k → same kind.When k ≡ false → same kind.For k ≡ false → (t : TriggerDefinition) (each when body rest : List Word)
    → IsGranularity each t.granularity → Maybe IsWhen when t.when → IsBody body t.body → after k (each ++ (when ++ (body ++ rest))) ≡ None
tail_begins k o h i t each when body rest q r s =
    granularity_begins k i t.granularity each (when ++ (body ++ rest)) q (when_begins k h t.when when (body ++ rest) r (body_begins k o t.body body rest s))

middle_reads : (t : TriggerDefinition) (items each when body rest : List Word) → IsReferencing items t.referencing → IsGranularity each t.granularity → Maybe IsWhen when t.when → IsBody body t.body
    → read_middle (items ++ (each ++ (when ++ (body ++ rest)))) ≡ Some ((t.referencing, t.granularity, t.when), body ++ rest)
unfolding read_middle
middle_reads t items each when body rest p q r s =
    ap (λ o. then_read o (λ rs a. then_read (read_granularity a) (λ g b. then_read (read_when b) (λ w left. Some ((rs, g, w), left)))))
    (referencing_reads t.referencing items (each ++ (when ++ (body ++ rest))) p
    (tail_begins kind.Referencing (record { begin = refl; insert = refl; update = refl; delete = refl; signal = refl; set = refl }) refl refl t each when body rest q r s)
    (tail_begins kind.Old (record { begin = refl; insert = refl; update = refl; delete = refl; signal = refl; set = refl }) refl refl t each when body rest q r s)
    (tail_begins kind.New (record { begin = refl; insert = refl; update = refl; delete = refl; signal = refl; set = refl }) refl refl t each when body rest q r s))
    ∙ ap (λ o. then_read o (λ g b. then_read (read_when b) (λ w left. Some ((t.referencing, g, w), left))))
    (granularity_reads t.granularity each (when ++ (body ++ rest)) q
    (when_begins kind.For refl t.when when (body ++ rest) r (body_begins kind.For (record { begin = refl; insert = refl; update = refl; delete = refl; signal = refl; set = refl }) t.body body rest s)))
    ∙ ap (λ o. then_read o (λ w left. Some ((t.referencing, t.granularity, w), left)))
    (when_reads t.when when (body ++ rest) r (body_begins kind.When (record { begin = refl; insert = refl; update = refl; delete = refl; signal = refl; set = refl }) t.body body rest s))

rest_reads : (t : TriggerDefinition) (items each when body rest : List Word) → IsReferencing items t.referencing → IsGranularity each t.granularity → Maybe IsWhen when t.when → IsBody body t.body → EndsStatement rest
    → read_trigger_rest t.name (t.time, t.event, t.columns) t.table (items ++ (each ++ (when ++ (body ++ rest)))) ≡ Some (t, rest)
rest_reads t items each when body rest p q r s e =
    ap (λ o. then_read o (λ m a. then_read (read_body a) (λ x left. Some (trigger_of t.name (t.time, t.event, t.columns) t.table m x, left)))) (middle_reads t items each when body rest p q r s)
    ∙ ap (λ o. then_read o (λ x left. Some (trigger_of t.name (t.time, t.event, t.columns) t.table (t.referencing, t.granularity, t.when) x, left))) (body_reads t.body body rest s e)

pub trigger_reads : (t : TriggerDefinition) (front rest : List Word) → IsTrigger front t → EndsStatement rest
    → (back : List Word) × (front ++ rest ≡ plain kind.Create ∷ plain kind.Trigger ∷ back) × (read_trigger back ≡ Some (t, rest))
unfolding read_trigger
trigger_reads t front rest (happens, items, each, when, body, h, p, q, r, s, w) e = (
  name t.name ∷ plain (time_kind t.time) ∷ (happens ++ plain kind.On ∷ name t.table ∷ (items ++ (each ++ (when ++ (body ++ rest))))),
  ap (λ z. z ++ rest) w
      ∙ ap (λ z. plain kind.Create ∷ plain kind.Trigger ∷ name t.name ∷ plain (time_kind t.time) ∷ z)
      (append_assoc happens (plain kind.On ∷ name t.table ∷ (items ++ (each ++ (when ++ body)))) rest
      ∙ ap (λ z. happens ++ plain kind.On ∷ name t.table ∷ z)
      (append_assoc items (each ++ (when ++ body)) rest ∙ ap (λ z. items ++ z) (append_assoc each (when ++ body) rest ∙ ap (λ z. each ++ z) (append_assoc when body rest)))),
  ap (λ o. then_read o (λ o b. then_read (read_name b) (λ x left. read_trigger_rest t.name o x left))) (occasion_reads t.time t.event t.columns happens (name t.table ∷ (items ++ (each ++ (when ++ (body ++ rest))))) h)
      ∙ rest_reads t items each when body rest p q r s e,
)
