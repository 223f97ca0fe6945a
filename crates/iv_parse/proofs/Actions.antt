-- One action of a block more.
use Rattle.std.proofs.Common.{◌≡◌, ℕ, ◌+◌, ◌<◌, true, false, Bool, is_some, Option, Some, None, List, [], ◌∷◌, ◌++◌, length, Result, Ok, Err, refl, sym, ◌∙◌, ap, subst, arith, length-append}
use Rattle.std.proofs.lemmas.Bool.{false≢true}
use Rattle.std.specs.Result.{IsErr, IsErrAnd}
use Rattle.iv_lex.specs.declared.kind.TokenKind.TheVariants as kind
use Rattle.iv_lex.specs.Words.{Word, plain}
use Rattle.iv_parse.specs.Types.{TriggerAction}
use Rattle.iv_parse_terms.specs.After.{after, if_some, then_read}
use Rattle.iv_parse_terms.specs.declared.stop.Stop.{Stop}
use Rattle.iv_parse_terms.specs.Reading.{At, Other, Like, ahead, GivesAs, Reads, Peeks}
use Rattle.iv_parse_terms.proofs.Rules.{told, stop_in, stopped}
use Rattle.iv_parse_data.specs.Series.{Maybe}
use Rattle.iv_parse.specs.readers.Triggers.{read_with_semicolon, read_ended_action}
use Rattle.iv_parse.specs.Triggers.{IsEndedAction}
use Rattle.iv_parse.proofs.TriggerSound.{ended_action_good}

abbrev one_found : TriggerAction → List Word → Option (Option TriggerAction × List Word)
one_found a rest = Some (Some a, rest)

at_end : (o : Option (List Word)) (ws : List Word) (other : Option (Option TriggerAction × List Word)) → is_some o ≡ true → if_some o (λ rest. Some (None, ws)) other ≡ Some (None, ws)
at_end None ws other h = absurd (false≢true h)
at_end (Some r) ws other h = refl

before_end : (o : Option (List Word)) (ws : List Word) (other : Option (Option TriggerAction × List Word)) → is_some o ≡ false → if_some o (λ rest. Some (None, ws)) other ≡ other
before_end None ws other h = refl
before_end (Some r) ws other h = absurd (false≢true (sym h))

-- END is next
pub ends : (c n : At) → Peeks (after kind.End) c true n → Reads read_ended_action c (Ok None) n
unfolding read_ended_action
ends c n peek o l =
    let q = peek o l in
    (q.0, at_end (after kind.End (ahead c o)) (ahead c o) (then_read (read_with_semicolon (ahead c o)) one_found) q.2 ∙ ap (λ w. Some (None, w)) (sym q.1))

before : (c : At) (o : Other) → is_some (after kind.End (ahead c o)) ≡ false → read_ended_action (ahead c o) ≡ then_read (read_with_semicolon (ahead c o)) one_found
unfolding read_ended_action
before c o h = before_end (after kind.End (ahead c o)) (ahead c o) (then_read (read_with_semicolon (ahead c o)) one_found) h

-- an action is next
pub goes_on : (c m n : At) (a : TriggerAction) → Peeks (after kind.End) c false m → Reads read_with_semicolon m (Ok a) n → Reads read_ended_action c (Ok (Some a)) n
goes_on c m n a peek h o l =
    let p = h o l in
    let q = peek o p.0 in
    (q.0, before c o q.2 ∙ (ap (λ w. then_read (read_with_semicolon w) one_found) (sym q.1) ∙ ap (λ r. then_read r one_found) p.1))

pub goes_wrong : (c m n : At) (r : Result (Option TriggerAction) Stop) (e : Stop) → Peeks (after kind.End) c false m → Reads read_with_semicolon m (Err e) n
    → IsErr r × IsErrAnd r (λ y. y ≡ e) → Reads read_ended_action c r n
goes_wrong c m n r e peek h i o l =
    let p = h o l in
    let q = peek o p.0 in (
      q.0,
      told (λ x. x) r e (read_ended_action (ahead c o)) (ahead n o) i
          (stop_in e (read_with_semicolon (ahead m o)) (read_ended_action (ahead c o))
          (λ x. before c o q.2 ∙ (ap (λ w. then_read (read_with_semicolon w) one_found) (sym q.1) ∙ ap (λ r. then_read r one_found) x))
          (stopped (λ x. x) e (read_with_semicolon (ahead m o)) (ahead n o) p.1)),
    )

-- an action takes a word at least
pub action_takes : (ws rest : List Word) (a : TriggerAction) → read_ended_action ws ≡ Some (Some a, rest) → length rest < length ws
action_takes ws rest a h =
    let fit = (ended_action_good ws).holds (Some a) rest h in
    let (inner, p, w) = fit.part in
    let e = ap length w in
    let f = length-append inner (plain kind.Semicolon ∷ []) in
    let g = ap length fit.whole in
    let k = length-append fit.front rest in
    omega (arith, e, f, g, k)
