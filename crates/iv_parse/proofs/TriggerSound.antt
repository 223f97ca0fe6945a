-- What is read of CREATE TRIGGER is in the grammar.
use Rattle.std.proofs.Common.{◌≡◌, inl, inr, ℕ, Option, Some, None, List, [], ◌∷◌, ◌++◌, length, refl, sym, ◌∙◌, ap, subst, append-nil, append_assoc}
use Rattle.iv_lex.specs.declared.kind.TokenKind.TheVariants as kind
use Rattle.iv_lex.specs.Words.{Word, name, plain}
use Rattle.iv_parse.specs.Types.{Side, ActionTime, TriggerEvent, Granularity, Condition, Referencing, TriggerAction}
use Rattle.iv_parse.specs.Types.side
use Rattle.iv_parse.specs.Types.time as action_time
use Rattle.iv_parse.specs.Types.event
use Rattle.iv_parse.specs.Types.granularity
use Rattle.iv_parse.specs.Types.transition
use Rattle.iv_parse.specs.Types.action
use Rattle.iv_parse_terms.specs.After.{after, if_some, then_read}
use Rattle.iv_parse_data.specs.Series.{Sequence, Maybe, InParentheses, Optional}
use Rattle.iv_parse_data.specs.readers.Series.{read_all, read_series, read_sequence}
use Rattle.iv_parse_data.specs.Data.{Names, IsShallow, IsShallowCondition, IsInsert, IsUpdate, IsDelete}
use Rattle.iv_parse_data.specs.readers.Data.{read_name, read_shallow, read_check, read_insert, read_update, read_delete}
use Rattle.iv_parse_data.specs.readers.Items.{read_transition, read_referencing_item_of, read_referencing_item}
use Rattle.iv_parse.specs.Triggers.{side_kind, IsTransition, IsItem, IsReferencing, IsGranularity, IsWhen, IsAction, IsEndedAction, IsBody, time_kind, IsUpdateColumns, IsEvent, IsTrigger}
use Rattle.iv_parse.specs.readers.Triggers.{read_middle, trigger_of, some_items, read_referencing, read_granularity, read_when, read_set_action, read_action, read_with_semicolon, read_ended_action, some_actions, read_body, read_action_time, read_update_columns, read_event, read_occasion, read_trigger}
use Rattle.iv_parse_data.proofs.Fronts.{Good, nothing_good, done_good, after_good, name_good, then_good, made_good, skip_good}
use Rattle.iv_parse_data.proofs.OptionalSound.{IsQuoted, quoted_good, sequence_good}
use Rattle.iv_parse_data.proofs.DataSound.{names_good, shallow_good, check_good, insert_good, update_good, delete_good}
use Rattle.iv_parse_data.proofs.Readers.{read_quoted}
use Rattle.iv_parse.proofs.Readers.{read_each, read_signal, read_other_action, read_delete_action, read_block, read_single, read_update_event, read_other_event, read_trigger_rest}

transition_good : (ws : List Word) → Good IsTransition ws (read_transition ws)
unfolding read_transition
transition_good ws =
    after_good IsTransition kind.Table ws _ _ (λ rest. done_good _ rest transition.Table refl)
    (skip_good IsTransition kind.Row ws (λ rest. Some (transition.Row, rest))
    (λ front rest o. done_good _ rest transition.Row (subst (λ z. Optional kind.Row z) (sym (append-nil front)) o)))

item_of_good : (s : Side) (ws : List Word) → Good (λ back r. Maybe IsItem (plain (side_kind s) ∷ back) r) ws (read_referencing_item_of s ws)
unfolding read_referencing_item_of
item_of_good s ws =
    then_good IsTransition _ ws (read_transition ws) _ (transition_good ws)
    (λ w what rest p. skip_good _ kind.As rest (λ left. then_read (read_name left) (λ n more. Some (Some (record { side = s; what = w; name = n }), more)))
    (λ word left o. name_good _ left _ (λ n more. done_good _ more (Some (record { side = s; what = w; name = n })) (what, word, p, o, refl))))

item_good : (ws : List Word) → Good (Maybe IsItem) ws (read_referencing_item ws)
unfolding read_referencing_item
item_good ws =
    after_good (Maybe IsItem) kind.Old ws (read_referencing_item_of side.Old) _ (item_of_good side.Old)
    (after_good (Maybe IsItem) kind.New ws (read_referencing_item_of side.New) _ (item_of_good side.New) (done_good (Maybe IsItem) ws None refl))

some_items_good : (front ws : List Word) (rs : List Referencing) → Sequence IsItem front rs → Good (λ back xs. IsReferencing (plain kind.Referencing ∷ (front ++ back)) xs) ws (some_items rs ws)
some_items_good front ws [] p = nothing_good _ ws
some_items_good front ws (r ∷ rs) p = done_good _ ws (r ∷ rs) (front, p, ap (λ z. plain kind.Referencing ∷ z) (append-nil front))

referencing_good : (ws : List Word) → Good IsReferencing ws (read_referencing ws)
unfolding read_referencing read_all
referencing_good ws =
    after_good IsReferencing kind.Referencing ws _ _
    (λ rest. then_good (Sequence IsItem) _ rest (read_sequence read_referencing_item (length rest) rest) some_items (sequence_good IsItem read_referencing_item item_good (length rest) rest)
    (λ rs front more p. some_items_good front more rs p))
    (done_good IsReferencing ws [] refl)

granularity_good : (ws : List Word) → Good IsGranularity ws (read_granularity ws)
unfolding read_granularity
granularity_good ws =
    after_good IsGranularity kind.For ws _ _
    (λ rest. after_good _ kind.Each rest read_each None
    (λ more. after_good _ kind.Row more _ _ (λ left. done_good _ left granularity.Row refl)
    (after_good _ kind.Statement more _ None (λ left. done_good _ left granularity.Statement (inr refl)) (nothing_good _ more)))
    (nothing_good _ rest))
    (done_good IsGranularity ws granularity.Statement (inl refl))

when_good : (ws : List Word) → Good (Maybe IsWhen) ws (read_when ws)
unfolding read_when
when_good ws =
    after_good (Maybe IsWhen) kind.When ws _ _
    (λ rest. made_good (InParentheses IsShallowCondition) _ rest (read_check rest) Some (check_good rest) (λ c front p. (front, p, refl)))
    (done_good (Maybe IsWhen) ws None refl)

set_variable_good : (ws : List Word) → Good (λ back a. IsAction (plain kind.Set ∷ back) a) ws (read_set_action ws)
unfolding read_set_action
set_variable_good ws =
    name_good _ ws _
    (λ r a. after_good _ kind.Period a _ None
    (λ b. name_good _ b _
    (λ c d. after_good _ kind.Equals d _ None
    (λ rest. made_good IsShallow _ rest (read_shallow rest) (action.Set r c) (shallow_good rest) (λ e front p. (front, p, refl)))
    (nothing_good _ d)))
    (nothing_good _ a))

signal_good : (ws : List Word) → Good (λ back a. IsAction (plain kind.Signal ∷ back) a) ws (read_signal ws)
signal_good ws = made_good IsQuoted _ ws (read_quoted ws) action.Signal (quoted_good ws) (λ t front p. ap (λ z. plain kind.Signal ∷ z) p)

action_good : (ws : List Word) → Good IsAction ws (read_action ws)
unfolding read_action
action_good ws =
    after_good IsAction kind.Insert ws _ _
    (λ rest. made_good (λ back i. IsInsert (plain kind.Insert ∷ back) i) _ rest (read_insert rest) action.Insert (insert_good rest) (λ i front p. p))
    (after_good IsAction kind.Update ws _ _
    (λ rest. made_good (λ back u. IsUpdate (plain kind.Update ∷ back) u) _ rest (read_update rest) action.Update (update_good rest) (λ u front p. p))
    (after_good IsAction kind.Delete ws _ _
    (λ rest. made_good (λ back d. IsDelete (plain kind.Delete ∷ back) d) _ rest (read_delete rest) action.Delete (delete_good rest) (λ d front p. p))
    (after_good IsAction kind.Signal ws read_signal _ signal_good
    (after_good IsAction kind.Set ws read_set_action None set_variable_good (nothing_good IsAction ws)))))

with_semicolon_good : (ws : List Word) → Good IsEndedAction ws (read_with_semicolon ws)
unfolding read_with_semicolon
with_semicolon_good ws =
    then_good IsAction _ ws (read_action ws) _ (action_good ws)
    (λ a front rest p. after_good _ kind.Semicolon rest _ None (λ more. done_good _ more a (front, p, refl)) (nothing_good _ rest))

-- END is looked at, and left
end_option : (ws : List Word) (o : Option (List Word)) → Good (Maybe IsEndedAction) ws (if_some o (λ rest. Some (None, ws)) (then_read (read_with_semicolon ws) (λ a rest. Some (Some a, rest))))
end_option ws (Some rest) = done_good (Maybe IsEndedAction) ws None refl
end_option ws None = made_good IsEndedAction (Maybe IsEndedAction) ws (read_with_semicolon ws) Some (with_semicolon_good ws) (λ a front p. p)

pub ended_action_good : (ws : List Word) → Good (Maybe IsEndedAction) ws (read_ended_action ws)
unfolding read_ended_action
ended_action_good ws = end_option ws (after kind.End ws)

some_actions_good : (front ws : List Word) (xs : List TriggerAction) → Sequence IsEndedAction front xs
    → Good (λ back ys. IsBody (plain kind.Begin ∷ plain kind.Atomic ∷ (front ++ back)) ys) ws (some_actions xs ws)
some_actions_good front ws [] p = nothing_good _ ws
some_actions_good front ws (x ∷ xs) p = after_good _ kind.End ws _ None (λ rest. done_good _ rest (x ∷ xs) (inr (front, p, refl))) (nothing_good _ ws)

block_good : (ws : List Word) → Good (λ back xs. IsBody (plain kind.Begin ∷ back) xs) ws (read_block ws)
unfolding read_all
block_good ws =
    after_good _ kind.Atomic ws _ None
    (λ rest. then_good (Sequence IsEndedAction) _ rest (read_sequence read_ended_action (length rest) rest) some_actions (sequence_good IsEndedAction read_ended_action ended_action_good (length rest) rest)
    (λ xs front more p. some_actions_good front more xs p))
    (nothing_good _ ws)

body_good : (ws : List Word) → Good IsBody ws (read_body ws)
unfolding read_body
body_good ws =
    after_good IsBody kind.Begin ws read_block _ block_good
    (made_good IsAction IsBody ws (read_action ws) (λ a. a ∷ []) (action_good ws) (λ a front p. inl p))

abbrev pub IsOccasion : List Word → ActionTime × TriggerEvent × List (List ℕ) → Type 0
IsOccasion ws o = (happens : List Word) × IsEvent happens o.1 o.2 × (ws ≡ plain (time_kind o.0) ∷ (happens ++ plain kind.On ∷ []))

abbrev pub IsTime : List Word → ActionTime → Type 0
IsTime ws t = ws ≡ plain (time_kind t) ∷ []

abbrev pub IsEventOf : List Word → TriggerEvent × List (List ℕ) → Type 0
IsEventOf ws e = IsEvent ws e.0 e.1

time_good : (ws : List Word) → Good IsTime ws (read_action_time ws)
unfolding read_action_time
time_good ws =
    after_good IsTime kind.Before ws _ _ (λ rest. done_good _ rest action_time.Before refl)
    (after_good IsTime kind.After ws _ None (λ rest. done_good _ rest action_time.After refl) (nothing_good IsTime ws))

-- names that are read are a list of OF
named_columns : (ns : List (List ℕ)) (front : List Word) → Names front ns → IsUpdateColumns (plain kind.Of ∷ front) ns
named_columns [] front p = absurd p
named_columns (n ∷ ns) front p = (front, p, refl)

listed_columns_good : (ws : List Word) → Good (λ back ns. IsUpdateColumns (plain kind.Of ∷ back) ns) ws (read_series read_name ws)
listed_columns_good ws = record {
  holds = λ ns rest h.
      let good = names_good ws in
      let fit = good.holds ns rest h in
      record { front = fit.front; part = named_columns ns fit.front fit.part; whole = fit.whole };
}

update_columns_good : (ws : List Word) → Good IsUpdateColumns ws (read_update_columns ws)
unfolding read_update_columns
update_columns_good ws = after_good IsUpdateColumns kind.Of ws (read_series read_name) _ listed_columns_good (done_good IsUpdateColumns ws [] refl)

event_good : (ws : List Word) → Good IsEventOf ws (read_event ws)
unfolding read_event
event_good ws =
    after_good IsEventOf kind.Insert ws _ _ (λ rest. done_good _ rest (event.Insert, []) (refl, refl))
    (after_good IsEventOf kind.Update ws read_update_event _
    (λ rest. made_good IsUpdateColumns _ rest (read_update_columns rest) (λ ns. (event.Update, ns)) (update_columns_good rest) (λ ns front p. (front, p, refl)))
    (after_good IsEventOf kind.Delete ws _ None (λ rest. done_good _ rest (event.Delete, []) (refl, refl)) (nothing_good IsEventOf ws)))

occasion_good : (ws : List Word) → Good IsOccasion ws (read_occasion ws)
unfolding read_occasion
occasion_good ws =
    then_good IsTime _ ws (read_action_time ws) _ (time_good ws)
    (λ t front rest p. then_good IsEventOf _ rest (read_event rest) _ (event_good rest)
    (λ e back more q. after_good _ kind.On more _ None
    (λ left. done_good _ left (t, e.0, e.1) (back, q, ap (λ z. z ++ (back ++ plain kind.On ∷ [])) p))
    (nothing_good _ more)))

-- what is between the table and the body
abbrev pub IsMiddle : List Word → List Referencing × Granularity × Option Condition → Type 0
IsMiddle ws m =
    (items : List Word) × (each : List Word) × (when : List Word) × IsReferencing items m.0 × IsGranularity each m.1 × Maybe IsWhen when m.2 × (ws ≡ items ++ (each ++ when))

middle_good : (ws : List Word) → Good IsMiddle ws (read_middle ws)
unfolding read_middle
middle_good ws =
    then_good IsReferencing _ ws (read_referencing ws) _ (referencing_good ws)
    (λ rs items a p. then_good IsGranularity _ a (read_granularity a) _ (granularity_good a)
    (λ g each b q. made_good (Maybe IsWhen) _ b (read_when b) (λ w. (rs, g, w)) (when_good b) (λ w when r. (items, each, when, p, q, r, refl))))

trigger_rest_good : (n : List ℕ) (o : ActionTime × TriggerEvent × List (List ℕ)) (happens : List Word) (table : List ℕ) (ws : List Word) → IsEvent happens o.1 o.2
    → Good (λ back x. IsTrigger (plain kind.Create ∷ plain kind.Trigger ∷ name n ∷ plain (time_kind o.0) ∷ ((happens ++ plain kind.On ∷ []) ++ name table ∷ back)) x) ws (read_trigger_rest n o table ws)
trigger_rest_good n o happens table ws h =
    then_good IsMiddle _ ws (read_middle ws) _ (middle_good ws)
    (λ m front a (items, each, when, p, q, r, w). made_good IsBody _ a (read_body a) (trigger_of n o table m) (body_good a)
    (λ xs body s. (
      happens,
      items,
      each,
      when,
      body,
      h,
      p,
      q,
      r,
      s,
      ap (λ z. plain kind.Create ∷ plain kind.Trigger ∷ name n ∷ plain (time_kind o.0) ∷ z)
          (append_assoc happens (plain kind.On ∷ []) (name table ∷ (front ++ body))
          ∙ ap (λ z. happens ++ plain kind.On ∷ name table ∷ z)
          (ap (λ z. z ++ body) w ∙ append_assoc items (each ++ when) body ∙ ap (λ z. items ++ z) (append_assoc each when body))),
    )))

pub trigger_good : (ws : List Word) → Good (λ back t. IsTrigger (plain kind.Create ∷ plain kind.Trigger ∷ back) t) ws (read_trigger ws)
unfolding read_trigger
trigger_good ws =
    name_good _ ws _
    (λ n a. then_good IsOccasion _ a (read_occasion a) _ (occasion_good a)
    (λ o front b (happens, h, w). name_good _ b _
    (λ t rest. subst (λ z. Good (λ back x. IsTrigger (plain kind.Create ∷ plain kind.Trigger ∷ name n ∷ (z ++ name t ∷ back)) x) rest (read_trigger_rest n o t rest)) (sym w)
    (trigger_rest_good n o happens t rest h))))
