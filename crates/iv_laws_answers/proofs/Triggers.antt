-- CREATE TRIGGER whose words can be written is writable.
use Rattle.std.proofs.Common.{◌≡◌, inl, inr, ℕ, Bool, true, not, Some, None, List, [], ◌∷◌, ◌++◌, length, refl, ap, subst}
use Rattle.std.specs.Prelude.{◌==◌}
use Rattle.std.specs.List.{list_all}
use Rattle.std.proofs.lemmas.Bool.{and_parts}
use Rattle.iv_lex.specs.declared.kind.TokenKind.TheVariants as kind
use Rattle.iv_lex.specs.Words.{Word, name, plain}
use Rattle.iv_parse_data.specs.Series.{Maybe}
use Rattle.iv_parse_data.specs.Data.{Names, IsShallowCondition}
use Rattle.iv_parse.specs.Types.{Referencing, TriggerEvent}
use Rattle.iv_parse.specs.Types.event
use Rattle.iv_parse.specs.Types.action
use Rattle.iv_parse.specs.Triggers.{IsItem, IsReferencing, IsWhen, IsAction, IsEndedAction, IsSingle, IsBlock, IsBody, time_kind, IsUpdateColumns, IsEvent, IsTrigger}
use Rattle.iv_resolution.specs.Writable.{is_name, are_names, is_name_list, is_condition, is_filter, is_action, are_event_columns, is_trigger_definition}
use Rattle.iv_laws_answers.proofs.Names.{Written, two_parts, front, back, join}
use Rattle.iv_laws_answers.proofs.Parts.{Passes, names_pass, some_pass, some_parts, sequence_passes, some_sequence, inner_passes}
use Rattle.iv_laws_answers.proofs.Terms.{shallow_passes, condition_passes}
use Rattle.iv_laws_answers.proofs.Data.{insert_passes, update_passes, delete_passes}

-- ---- the columns of UPDATE OF

columns_pass : Passes IsUpdateColumns are_names
columns_pass ws [] e w = refl
columns_pass ws (n ∷ ns) (names, p, e) w =
    (and_parts (not (length (n ∷ ns) == 0)) (are_names (n ∷ ns)) (names_pass names (n ∷ ns) p (subst Written e w).1)).1

event_passes : (ws : List Word) (e : TriggerEvent) (ns : List (List ℕ)) → IsEvent ws e ns → Written ws → are_event_columns e ns ≡ true
event_passes ws event.Insert ns (p, e) w = ap (λ xs. length xs == 0) p
event_passes ws event.Update ns (columns, p, e) w = columns_pass columns ns p (subst Written e w).1
event_passes ws event.Delete ns (p, e) w = ap (λ xs. length xs == 0) p

-- ---- REFERENCING and WHEN

abbrev is_item : Referencing → Bool
is_item i = is_name i.name

item_passes : Passes IsItem is_item
item_passes ws r (what, as_word, p, q, e) w =
    let v : Written (what ++ (as_word ++ name r.name ∷ [])) = (subst Written e w).1 in
    (back as_word (name r.name ∷ []) (back what (as_word ++ name r.name ∷ []) v)).0

referencing_passes : Passes IsReferencing (list_all is_item)
referencing_passes ws [] e w = refl
referencing_passes ws (r ∷ rs) (items, p, e) w = sequence_passes IsItem is_item item_passes items (r ∷ rs) p (subst Written e w).1

when_passes : Passes (Maybe IsWhen) is_filter
when_passes ws None e w = refl
when_passes ws (Some c) (check, p, e) w = inner_passes IsShallowCondition is_condition condition_passes check c p (subst Written e w).1

-- ---- the body

action_passes : Passes IsAction is_action
action_passes ws (action.Insert i) p w = insert_passes ws i p w
action_passes ws (action.Update u) p w = update_passes ws u p w
action_passes ws (action.Delete d) p w = delete_passes ws d p w
action_passes ws (action.Signal t) e w = refl
action_passes ws (action.Set r c x) (value, p, e) w =
    let v : Written (plain kind.Set ∷ name r ∷ plain kind.Period ∷ name c ∷ plain kind.Equals ∷ value) = subst Written e w in
    join (is_name r) _ v.1.0 (join (is_name c) _ v.1.1.1.0 (shallow_passes value x p v.1.1.1.1.1))

ended_action_passes : Passes IsEndedAction is_action
ended_action_passes ws a (inner, p, e) w = action_passes inner a p (front inner (plain kind.Semicolon ∷ []) (subst Written e w))

single_passes : Passes IsSingle (some_pass is_action)
single_passes ws [] p w = absurd p
single_passes ws (a ∷ []) p w = join (is_action a) true (action_passes ws a p w) refl
single_passes ws (a ∷ b ∷ rest) p w = absurd p

block_passes : Passes IsBlock (some_pass is_action)
block_passes ws [] p w = absurd p
block_passes ws (a ∷ bs) (actions, p, e) w =
    some_sequence IsEndedAction is_action ended_action_passes actions a bs p (front actions (plain kind.End ∷ []) (subst Written e w).1.1)

body_passes : Passes IsBody (some_pass is_action)
body_passes ws actions (inl p) w = single_passes ws actions p w
body_passes ws actions (inr p) w = block_passes ws actions p w

-- ---- the statement

pub trigger_passes : Passes IsTrigger is_trigger_definition
trigger_passes ws t (happens, items, each, when, body, h, p, q, r, s, e) w =
    let v : Written (plain kind.Create ∷ plain kind.Trigger ∷ name t.name ∷ plain (time_kind t.time)
    ∷ (happens ++ plain kind.On ∷ name t.table ∷ (items ++ (each ++ (when ++ body))))) = subst Written e w in
    let occasion = two_parts happens (plain kind.On ∷ name t.table ∷ (items ++ (each ++ (when ++ body)))) v.1.1.1.1 in
    let table : is_name t.table ≡ true = occasion.1.1.0 in
    let parts : Written (items ++ (each ++ (when ++ body))) = occasion.1.1.1 in
    let ends : Written (when ++ body) = back each (when ++ body) (back items (each ++ (when ++ body)) parts) in
    let done = some_parts is_action t.body (body_passes body t.body s (back when body ends)) in
    join (is_name t.name) _ v.1.1.0 (join (is_name t.table) _ table
    (join (are_event_columns t.event t.columns) _ (event_passes happens t.event t.columns h occasion.0)
    (join (list_all is_item t.referencing) _ (referencing_passes items t.referencing p (front items (each ++ (when ++ body)) parts))
    (join (is_filter t.when) _ (when_passes when t.when r (front when body ends)) (join (not (length t.body == 0)) _ done.0 done.1)))))
