-- A whole script.
use Rattle.std.proofs.Common.{◌≡◌, ℕ, ◌+◌, Bool, false, List, [], ◌∷◌, ◌++◌, Option, ◌∙◌, ap, sym, subst, refl, length, arith, is_some, Result, Ok, Err, Some, None, IfOk, IfSome, option_map}
use Rattle.std.proofs.lemmas.Bool.{false≢true}
use Rattle.std.specs.Io.KnownBytes.{Appends}
use Rattle.std.proofs.KnownBytes.{Appends-trans}
use Rattle.iv_syntax.specs.declared.statement.Statement.{Statement}
use Rattle.iv_catalogue.specs.declared.cause.Fault.{Fault}
use Rattle.iv_parse.specs.Script.{IsFault, IsScript}
use Rattle.iv_machine.specs.Bounds.{Bounds}
use Rattle.iv_machine.specs.Machine.{State, empty_state}
use Rattle.iv_step.specs.Step.{step}
use Rattle.iv_text.specs.Sinks.{SinkState}
use Rattle.iv_text.specs.declared.format.Style.{Style}
use Rattle.iv_text.specs.Writing.{Writes}
use Rattle.iv_text.proofs.WriteLemmas.{never_then}
use Rattle.iv_parse.specs.declared.parser.SyntaxFault.{SyntaxFault}
use Rattle.iv_script.specs.declared.statements.Tally.{Tally}
use Rattle.iv_script.specs.declared.summary.Summary.{Summary}
use Rattle.iv_script.specs.Transcript.{Memory, granted, denied, untold, unlisted, News, Ran, following, news_after, outcome, lines, accepted_of, refused_of, run_from, told_with, AreDue, memory_refusals, untold_accounts, begin_of, closing_lines, fault_place, RanScript, RanWithMemory}
use Rattle.iv_script.specs.Running.{RanAll, RanParsed}

pub ran_parsed : (sure_back : Bool) (style : Style) (old new : State) (text : List ℕ) (sts : List Statement) (fault : Option SyntaxFault) (tally : Tally) (b0 b1 b2 : SinkState)
    → RanAll sure_back style old new sts tally b0 b1 → Writes b1 b2 (Ok tt) (closing_lines style text (length sts) fault new)
    → RanParsed sure_back style old text sts fault tally b0 b2
ran_parsed sure_back style old new text sts fault tally b0 b1 b2 r p = record {
  memory = r.memory;
  each = r.each;
  due = r.due;
  memory_refusals_are = r.memory_refusals_are;
  untold_are = r.untold_are;
  accepted_is = r.accepted_is;
  refused_is = r.refused_is;
  appended = Appends-trans b0.contents b1.contents b2.contents _ _ r.appended
      (subst (λ s. Appends b1.contents b2.contents (closing_lines style text (length sts) fault s)) r.state_is p.0);
  works = never_then b0 b1 b2 r.works p.1;
}

-- the summary of a run with this tally, over a script with this fault
abbrev pub summary_of : Tally → Option SyntaxFault → Summary
summary_of tally fault = record { accepted = tally.accepted; refused = tally.refused; memory_refused = tally.memory_refused; fault = fault; untold = tally.untold }

pub ran_script : (sure_back : Bool) (bytes : List ℕ) (limits : Bounds) (style : Style) (sts : List Statement) (fault : Option SyntaxFault) (tally : Tally) (a b : SinkState)
    → IsScript bytes sts (begin_of fault) → IfSome fault (λ f. IsFault bytes sts f) → RanParsed sure_back style (empty_state limits) bytes sts fault tally a b
    → RanScript sure_back bytes limits style (summary_of tally fault) a b
ran_script sure_back bytes limits style sts fault tally a b s w r = record {
  statements = sts;
  memory = r.memory;
  is_script = s;
  word = w;
  each = r.each;
  due = r.due;
  memory_refusals_are = r.memory_refusals_are;
  untold_are = r.untold_are;
  accepted_is = r.accepted_is;
  refused_is = r.refused_is;
  appended = r.appended;
}

-- where memory is refused neither to a statement nor to an account nor to the lines of what is pending, the run is the machine's
run_with_memory : (style : Style) (s : State) (listed : List Fault) (n : ℕ) (sts : List Statement) (memory : List Memory) → memory_refusals memory ≡ 0 → untold_accounts memory ≡ 0
    → run_from style s listed n sts memory ≡ run_from style s listed n sts []
run_with_memory style s listed n [] memory h u = refl
run_with_memory style s listed n (st ∷ sts) [] h u = refl
run_with_memory style s listed n (st ∷ sts) (denied t ∷ ms) h u = absurd (omega (arith, h))
run_with_memory style s listed n (st ∷ sts) (untold ∷ ms) h u = absurd (omega (arith, u))
run_with_memory style s listed n (st ∷ sts) (unlisted ∷ ms) h u = absurd (omega (arith, u))
run_with_memory style s listed n (st ∷ sts) (granted ∷ ms) h u =
    let news : News = news_after style.explain granted listed (step s st).state in
    ap (following (lines style (n + 1) st (outcome granted s st) (told_with style.explain granted s st) news) (accepted_of (step s st).answer) (refused_of (step s st).answer))
    (run_with_memory style (step s st).state news.listed (n + 1) sts ms h u)

pub ran_with_memory : (sure_back : Bool) (style : Style) (bytes : List ℕ) (limits : Bounds) (summary : Summary) (a b : SinkState)
    → RanScript sure_back bytes limits style summary a b → summary.memory_refused ≡ 0 → summary.untold ≡ 0 → RanWithMemory bytes limits style (fault_place summary) a b
ran_with_memory sure_back style bytes limits summary a b r z u = record {
  statements = r.statements;
  is_script = r.is_script;
  word = r.word;
  appended = subst (λ (q : Ran). Appends a.contents b.contents (q.text ++ closing_lines style bytes (length r.statements) (fault_place summary) q.state))
      (run_with_memory style (empty_state limits) [] 0 r.statements r.memory (r.memory_refusals_are ∙ z) (r.untold_are ∙ u)) r.appended;
}

-- where no account is asked for, memory is refused to none
none_untold : (sure_back : Bool) (s : State) (sts : List Statement) (memory : List Memory) → length memory ≡ length sts → AreDue sure_back false s sts memory → untold_accounts memory ≡ 0
none_untold sure_back s [] [] h due = refl
none_untold sure_back s [] (m ∷ ms) h due = absurd (omega (arith, h))
none_untold sure_back s (st ∷ sts) [] h due = refl
none_untold sure_back s (st ∷ sts) (granted ∷ ms) h due = none_untold sure_back (outcome granted s st).state sts ms (omega (arith, h)) due.1
none_untold sure_back s (st ∷ sts) (denied t ∷ ms) h due = none_untold sure_back (outcome (denied t) s st).state sts ms (omega (arith, h)) due.1
none_untold sure_back s (st ∷ sts) (untold ∷ ms) h due = absurd (false≢true due.0.0)
none_untold sure_back s (st ∷ sts) (unlisted ∷ ms) h due = absurd (false≢true due.0.0)

pub unasked_told : (sure_back : Bool) (bytes : List ℕ) (limits : Bounds) (style : Style) (summary : Summary) (a b : SinkState) → style.explain ≡ false → RanScript sure_back bytes limits style summary a b → summary.untold ≡ 0
unasked_told sure_back bytes limits style summary a b plain r =
    sym r.untold_are
    ∙ none_untold sure_back (empty_state limits) r.statements r.memory r.each
    (subst (λ (asked : Bool). AreDue sure_back asked (empty_state limits) r.statements r.memory) plain r.due)

-- so of the bytes that a reader had, where they are known
pub of_read : {E : Type 0} (r : Result Summary E) (found : Option (List ℕ)) (text : List ℕ) (P : List ℕ → Summary → Type 0) → IfSome found (λ bytes. text ≡ bytes)
    → IfOk r (λ s. s.memory_refused ≡ 0 → s.untold ≡ 0 → P text s) → IfOk r (λ s. s.memory_refused ≡ 0 → s.untold ≡ 0 → IfSome found (λ bytes. P bytes s))
of_read (Err e) found text P h k = k
of_read (Ok s) None text P h k = λ m u. tt
of_read (Ok s) (Some bytes) text P h k = λ m u. subst (λ b. P b s) h (k m u)
