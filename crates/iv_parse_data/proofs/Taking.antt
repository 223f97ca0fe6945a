-- A part of a sequence takes a word at least.
use Rattle.std.proofs.Common.{◌≡◌, ℕ, ◌+◌, ◌<◌, ◌≤◌, Option, Some, None, List, [], ◌∷◌, ◌++◌, length, refl, sym, ◌∙◌, ap, subst, arith, length-append}
use Rattle.std.proofs.lemmas.Option.{none-some, same_Some}
use Rattle.iv_lex.specs.declared.kind.TokenKind.{TokenKind}
use Rattle.iv_lex.specs.declared.kind.TokenKind.TheVariants as kind
use Rattle.iv_lex.specs.Words.{Word}
use Rattle.iv_parse_terms.specs.After.{after, if_some, then_read}
use Rattle.iv_parse_terms.proofs.Parts.{if_some_has, after_name_is}
use Rattle.iv_parse_data.specs.Types.{Side, Referencing, ColumnRule, ColumnConstraint}
use Rattle.iv_parse_data.specs.Types.side
use Rattle.iv_parse_data.specs.Types.transition
use Rattle.iv_parse_data.specs.Types.column_rule
use Rattle.iv_parse_data.specs.Tables.{IsColumnRule, IsColumnConstraint}
use Rattle.iv_parse_data.specs.readers.Series.{skip}
use Rattle.iv_parse_data.specs.readers.Data.{read_name}
use Rattle.iv_parse_data.specs.readers.Tables.{read_column_constraint}
use Rattle.iv_parse_data.specs.readers.Items.{read_transition, read_transition_name, read_referencing_item_of, read_referencing_item}
use Rattle.iv_parse_data.proofs.Loops.{after_shorter}
use Rattle.iv_parse_data.proofs.Fronts.{same_found}
use Rattle.iv_parse_data.proofs.TableSound.{column_constraint_good}

-- ---- what is left is no longer

abbrev Within : {A : Type 0} → List Word → Option (A × List Word) → Type 0
Within {A = A} ws o = (a : A) (rest : List Word) → o ≡ Some (a, rest) → length rest ≤ length ws

within_some : {A : Type 0} (ws left : List Word) (x : A) → length left ≤ length ws → Within ws (Some (x, left))
within_some ws left x l a rest h = let e = ap length (same_found x a left rest h).1 in omega (arith, l, e)

within_then : {A B : Type 0} (ws : List Word) (o : Option (A × List Word)) (f : A → List Word → Option (B × List Word)) → Within ws o
    → ((x : A) (left : List Word) → length left ≤ length ws → Within ws (f x left)) → Within ws (then_read o f)
within_then ws None f p g a rest h = absurd (none-some (a, rest) h)
within_then ws (Some q) f p g a rest h = g q.0 q.1 (p q.0 q.1 refl) a rest h

skip_within : (k : TokenKind) (ws : List Word) → length (skip k ws) ≤ length ws
skip_within k ws =
    if_some_has (λ z. length z ≤ length ws) (after k ws) (λ rest. rest) ws (λ rest e. let s = after_shorter k ws rest e in omega (arith, s)) (λ e. omega arith)

name_within : (ws : List Word) → Within ws (read_name ws)
name_within ws a rest h = let e = ap length (after_name_is ws (a, rest) h) in omega (arith, e)

transition_within : (ws : List Word) → Within ws (read_transition ws)
unfolding read_transition
transition_within ws =
    if_some_has (Within ws) (after kind.Table ws) (λ rest. Some (transition.Table, rest)) (Some (transition.Row, skip kind.Row ws))
    (λ rest e. let s = after_shorter kind.Table ws rest e in within_some ws rest transition.Table (omega (arith, s)))
    (λ e. within_some ws (skip kind.Row ws) transition.Row (skip_within kind.Row ws))

named_within : (ws : List Word) → Within ws (read_transition_name ws)
named_within ws a rest h = let e = name_within (skip kind.As ws) a rest h in let s = skip_within kind.As ws in omega (arith, e, s)

item_within : (s : Side) (ws : List Word) → Within ws (read_referencing_item_of s ws)
unfolding read_referencing_item_of
item_within s ws =
    within_then ws (read_transition ws) _ (transition_within ws)
    (λ w rest l. within_then ws (read_transition_name rest) _ (λ n more h. let e = named_within rest n more h in omega (arith, e, l))
    (λ n more m. within_some ws more _ m))

-- ---- a part of a sequence

pub item_takes : (ws rest : List Word) (r : Referencing) → read_referencing_item ws ≡ Some (Some r, rest) → length rest < length ws
unfolding read_referencing_item
item_takes ws rest r =
    if_some_has (λ z. z ≡ Some (Some r, rest) → length rest < length ws) (after kind.Old ws) (read_referencing_item_of side.Old) _
    (λ inner e h. let w = item_within side.Old inner (Some r) rest h in let s = after_shorter kind.Old ws inner e in omega (arith, w, s))
    (λ _. if_some_has (λ z. z ≡ Some (Some r, rest) → length rest < length ws) (after kind.New ws) (read_referencing_item_of side.New) (Some (None, ws))
    (λ inner e h. let w = item_within side.New inner (Some r) rest h in let s = after_shorter kind.New ws inner e in omega (arith, w, s))
    (λ _ h. let e = (same_found None (Some r) ws rest h).0 in absurd (cc)))

rule_long : (r : ColumnRule) (ws : List Word) → IsColumnRule ws r → 0 < length ws
rule_long column_rule.NotNull ws p = let e = ap length p in omega (arith, e)
rule_long (column_rule.Unique nulls) ws p = let e = ap length p in omega (arith, e)
rule_long column_rule.PrimaryKey ws p = let e = ap length p in omega (arith, e)
rule_long (column_rule.Check c) ws (check, p, w) = let e = ap length w in omega (arith, e)
rule_long (column_rule.References r) ws (columns, matching, actions, p, q, s, w) = let e = ap length w in omega (arith, e)

constraint_long : (c : ColumnConstraint) (ws : List Word) → IsColumnConstraint ws c → 0 < length ws
constraint_long c ws (called, rule, time, p, q, t, w) =
    let e = ap length w in
    let f = length-append called (rule ++ time) in
    let g = length-append rule time in
    let l = rule_long c.rule rule q in
    omega (arith, e, f, g, l)

pub constraint_takes : (ws rest : List Word) (c : ColumnConstraint) → read_column_constraint ws ≡ Some (Some c, rest) → length rest < length ws
constraint_takes ws rest c h =
    let found = (column_constraint_good ws).holds (Some c) rest h in
    let l = constraint_long c found.front found.part in
    let e = ap length found.whole in
    let f = length-append found.front rest in
    omega (arith, l, e, f)
