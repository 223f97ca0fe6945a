-- One statement after another.
use Rattle.std.proofs.Common.{◌≡◌, inl, inr, ℕ, ◌+◌, ◌≤◌, Bool, true, false, ◌&&◌, ◌||◌, if◌then◌else◌, List, [], ◌∷◌, ◌++◌, Option, None, Some, Result, Ok, Err, ◌∙◌, sym, ap, subst, refl, append_assoc, append-nil, length, length-append, arith}
use Rattle.std.proofs.lemmas.Bool.{and_parts, false≢true}
use Rattle.std.specs.Io.KnownBytes.{Appends}
use Rattle.std.proofs.KnownBytes.{Appends-trans, Appends-nil}
use Rattle.iv_syntax.specs.declared.statement.Statement.{Statement}
use Rattle.iv_account.specs.declared.entry.Entry.{Entry}
use Rattle.iv_account.specs.Telling.{Account, MayTell, no_account}
use Rattle.iv_catalogue.specs.Catalogues.{Schema}
use Rattle.iv_catalogue.specs.declared.cause.Cause.{Cause}
use Rattle.iv_catalogue.specs.declared.cause.Cause.TheVariants as cause
use Rattle.iv_catalogue.specs.declared.cause.Fault.{Fault}
use Rattle.iv_catalogue.specs.declared.cause.Refusal.{Refusal}
use Rattle.iv_machine.specs.declared.answer.Answer.{Answer}
use Rattle.iv_catalogue.specs.Refusals.{is_memory}
use Rattle.iv_machine.specs.Machine.{State, Outcome, IsMemoryRefusal, MemoryRefused, changes_rows, may_tell, is_open}
use Rattle.iv_resolution.specs.Resolution.{resolution}
use Rattle.iv_step.specs.Step.{Executes, step, takes_no_memory}
use Rattle.iv_step.specs.Sure.{is_rollback_to, never_refused}
use Rattle.iv_step.specs.Telling.{Tells, may_be_untold, statement_told}
use Rattle.iv_text.specs.declared.format.Style.{Style}
use Rattle.iv_text.specs.Sinks.{SinkState, FailsNever}
use Rattle.iv_text.specs.Writing.{Writes}
use Rattle.iv_text.proofs.WriteLemmas.{never_then}
use Rattle.iv_script.specs.declared.statements.Tally.{Tally}
use Rattle.iv_script.specs.Transcript.{Memory, IsDue, AreDue, granted, denied, untold, unlisted, Ran, following, outcome, lines, lines_in, news_after, news_where, news_with, no_news, accepted_of, refused_of, run_from, told_with, memory_refusals, untold_accounts}
use Rattle.iv_script.specs.Transcript as spec
use Rattle.iv_script.specs.News.{AreNews, AreNewsSince, news_seen}
use Rattle.iv_script.specs.declared.news.News.{News}
use Rattle.iv_script.specs.Running.{RanOne, RanAll}

-- ---- one statement

-- the answer, the state, the account and the news are those of the machine, with the memory that this says
pub record Did (sure_back asked : Bool) (old new : State) (listed : List Fault) (st : Statement) (r : Result Answer Refusal) (account : Account) (n : News) : Type 0 where
  pub memory : Memory
  pub due : IsDue sure_back asked memory old st
  pub counted : (if is_memory r then 1 else 0) ≡ memory_refusals (memory ∷ [])
  pub untold_counted : (if account.untold || n.is_refused then 1 else 0) ≡ untold_accounts (memory ∷ [])
  pub answer_is : r ≡ (outcome memory old st).answer
  pub state_is : new ≡ (outcome memory old st).state
  pub told_is : account.entries ≡ told_with asked memory old st
  pub news_is : news_seen n ≡ news_after asked memory listed new

-- what is told after nothing was
abbrev told_alone : Bool → List Entry → Account
told_alone asked entries = record { asked = asked; entries = if asked then entries else []; untold = false }

alone : (asked : Bool) (old : State) (st : Statement) → (told_alone asked (statement_told old st)).entries ≡ told_with asked granted old st
alone true old st = refl
alone false old st = refl

alone_unlisted : (asked : Bool) (old : State) (st : Statement) → (told_alone asked (statement_told old st)).entries ≡ told_with asked unlisted old st
alone_unlisted true old st = refl
alone_unlisted false old st = refl

none_denied : (asked : Bool) (old : State) (st : Statement) (t : Option ℕ) → ◌≡◌ {A = List Entry} [] (told_with asked (denied t) old st)
none_denied true old st t = refl
none_denied false old st t = refl

none_told : (asked : Bool) (old : State) (st : Statement) → ◌≡◌ {A = List Entry} [] (told_with asked untold old st)
none_told true old st = refl
none_told false old st = refl

-- no news, where memory was refused to the statement or to its account
quiet : (memory : Memory) (b : Bool) (listed : List Fault) (s : State) (n : News) → news_with memory listed s ≡ no_news listed → AreNews b true listed s n
    → (news_seen n ≡ news_where b memory listed s) × (n.is_refused ≡ false)
quiet memory true listed s n e k = (k.0 ∙ sym e, k.1)
quiet memory false listed s n e k = k

-- a statement that was told as it is
did_told : (sure_back asked : Bool) (old new : State) (listed : List Fault) (st : Statement) (r : Result Answer Refusal) (account : Account) (n : News) → is_memory r ≡ false
    → (r ≡ (step old st).answer) × (new ≡ (step old st).state) → account ≡ told_alone asked (statement_told old st)
    → AreNews (asked && is_open new) false listed new n → Did sure_back asked old new listed st r account n
did_told sure_back asked old new listed st r account n m e told k = by (asked && is_open new) refl k where
  untold_not : account.untold ≡ false
  untold_not = ap (λ (x : Account). x.untold) told

  with_news : news_seen n ≡ news_after asked granted listed new → n.is_refused ≡ false → Did sure_back asked old new listed st r account n
  with_news seen kept = record {
    memory = granted;
    due = tt;
    counted = ap (λ b. if b then 1 else 0) m;
    untold_counted = ap (λ b. if b || n.is_refused then 1 else 0) untold_not ∙ ap (λ b. if b then 1 else 0) kept;
    answer_is = e.0;
    state_is = e.1;
    told_is = ap (λ (x : Account). x.entries) told ∙ alone asked old st;
    news_is = seen;
  }

  without_news : asked && is_open new ≡ true → news_seen n ≡ no_news listed → n.is_refused ≡ true → Did sure_back asked old new listed st r account n
  without_news b seen refused = record {
    memory = unlisted;
    due = ((and_parts asked (is_open new) b).0, ap is_open (sym e.1) ∙ (and_parts asked (is_open new) b).1);
    counted = ap (λ b. if b then 1 else 0) m;
    untold_counted = ap (λ b. if b || n.is_refused then 1 else 0) untold_not ∙ ap (λ b. if b then 1 else 0) refused;
    answer_is = e.0;
    state_is = e.1;
    told_is = ap (λ (x : Account). x.entries) told ∙ alone_unlisted asked old st;
    news_is = seen ∙ ap (λ b. news_where b unlisted listed new) (sym b);
  }

  by : (b : Bool) → asked && is_open new ≡ b → AreNews b false listed new n → Did sure_back asked old new listed st r account n
  by true b (inl k) = with_news (k.0 ∙ ap (λ b. news_where b granted listed new) (sym b)) k.1
  by true b (inr k) = without_news b k.0 k.1
  by false b k = with_news (k.0 ∙ ap (λ b. news_where b granted listed new) (sym b)) k.1

did_plain : (sure_back asked : Bool) (old new : State) (listed : List Fault) (st : Statement) (r : Result Answer Refusal) (account : Account) (n : News) → is_memory r ≡ false
    → (r ≡ (step old st).answer) × (new ≡ (step old st).state) → MayTell (may_be_untold (resolution old.schema st)) (no_account asked) account (statement_told old st)
    → AreNews (asked && is_open new) (is_memory r || account.untold) listed new n → Did sure_back asked old new listed st r account n
did_plain sure_back asked old new listed st r account n m e told k = by (may_be_untold (resolution old.schema st)) refl told where
  as_told : account ≡ told_alone asked (statement_told old st) → Did sure_back asked old new listed st r account n
  as_told told =
      did_told sure_back asked old new listed st r account n m e told
      (subst (λ b. AreNews (asked && is_open new) b listed new n) (ap (λ b. b || account.untold) m ∙ ap (λ (x : Account). x.untold) told) k)

  by : (b : Bool) → may_be_untold (resolution old.schema st) ≡ b → MayTell b (no_account asked) account (statement_told old st) → Did sure_back asked old new listed st r account n
  by false c told = as_told told
  by true c (inl told) = as_told told
  by true c (inr none) =
      let news = quiet untold (asked && is_open new) listed new n refl
      (subst (λ b. AreNews (asked && is_open new) b listed new n) (ap (λ b. b || account.untold) m ∙ ap (λ (x : Account). x.untold) none.1) k) in
      record {
        memory = untold;
        due = (none.0, c);
        counted = ap (λ b. if b then 1 else 0) m;
        untold_counted = ap (λ (x : Account). if x.untold || n.is_refused then 1 else 0) none.1;
        answer_is = e.0;
        state_is = e.1;
        told_is = ap (λ (x : Account). x.entries) none.1 ∙ none_told asked old st;
        news_is = news.0;
      }

abbrev told_by : Result Answer Refusal → Option ℕ
told_by (Ok a) = None
told_by (Err r) = r.trigger

abbrev denied_in : Option ℕ → Result Answer Refusal
denied_in t = Err (record { cause = cause.OutOfMemory; trigger = t })

-- the refusal OutOfMemory tells what it may
denied_is : (changes : Bool) (schema : Schema) (t : Option ℕ) → IsMemoryRefusal changes schema (denied_in t)
    → denied_in t ≡ denied_in (if may_tell changes schema t then t else None)
denied_is changes schema t h =
    let may : may_tell changes schema t ≡ true = ap (λ x. may_tell changes schema (told_by x)) h.2 ∙ h.1 in
    ap (λ (b : Bool). denied_in (if b then t else None)) (sym may)

-- what would never be refused memory, and was, takes some
is_due : (b : Bool) → (b ≡ true → true ≡ false) → b ≡ false
is_due true sure = sure refl
is_due false sure = refl

did_denied : (sure_back asked : Bool) (old new : State) (listed : List Fault) (st : Statement) (t : Option ℕ) (account : Account) (n : News) → MemoryRefused old st (Err (record { cause = cause.OutOfMemory; trigger = t })) new
    → (never_refused sure_back old st ≡ true → true ≡ false) → account ≡ no_account asked → AreNews (asked && is_open new) true listed new n
    → Did sure_back asked old new listed st (Err (record { cause = cause.OutOfMemory; trigger = t })) account n
did_denied sure_back asked old new listed st t account n e sure none k =
    let news = quiet (denied t) (asked && is_open new) listed new n refl k in
    record {
      memory = denied t;
      due = is_due (never_refused sure_back old st) sure;
      counted = refl;
      untold_counted = ap (λ (x : Account). if x.untold || n.is_refused then 1 else 0) none ∙ ap (λ b. if b then 1 else 0) news.1;
      answer_is = denied_is (changes_rows st) old.schema t e.1;
      state_is = e.0;
      told_is = ap (λ (x : Account). x.entries) none ∙ none_denied asked old st t;
      news_is = news.0;
    }

did_refused : (sure_back asked : Bool) (old new : State) (listed : List Fault) (st : Statement) (c : Cause) (t : Option ℕ) (account : Account) (n : News) → Executes old st (Err (record { cause = c; trigger = t })) new
    → (never_refused sure_back old st ≡ true → is_memory {A = Answer} (Err (record { cause = c; trigger = t })) ≡ false)
    → Tells asked old st (Err (record { cause = c; trigger = t })) account
    → AreNews (asked && is_open new) (is_memory {A = Answer} (Err (record { cause = c; trigger = t })) || account.untold) listed new n
    → Did sure_back asked old new listed st (Err (record { cause = c; trigger = t })) account n
did_refused sure_back asked old new listed st cause.OutOfMemory t account n e sure told w = did_denied sure_back asked old new listed st t account n e sure told w
did_refused sure_back asked old new listed st cause.Unknown t account n e sure told w = did_plain sure_back asked old new listed st (Err (record { cause = cause.Unknown; trigger = t })) account n refl e told w
did_refused sure_back asked old new listed st cause.Duplicate t account n e sure told w = did_plain sure_back asked old new listed st (Err (record { cause = cause.Duplicate; trigger = t })) account n refl e told w
did_refused sure_back asked old new listed st cause.SchemaFault t account n e sure told w = did_plain sure_back asked old new listed st (Err (record { cause = cause.SchemaFault; trigger = t })) account n refl e told w
did_refused sure_back asked old new listed st cause.InTransaction t account n e sure told w = did_plain sure_back asked old new listed st (Err (record { cause = cause.InTransaction; trigger = t })) account n refl e told w
did_refused sure_back asked old new listed st cause.NoTransaction t account n e sure told w = did_plain sure_back asked old new listed st (Err (record { cause = cause.NoTransaction; trigger = t })) account n refl e told w
did_refused sure_back asked old new listed st cause.ActiveTransaction t account n e sure told w = did_plain sure_back asked old new listed st (Err (record { cause = cause.ActiveTransaction; trigger = t })) account n refl e told w
did_refused sure_back asked old new listed st cause.UnknownSavepoint t account n e sure told w = did_plain sure_back asked old new listed st (Err (record { cause = cause.UnknownSavepoint; trigger = t })) account n refl e told w
did_refused sure_back asked old new listed st (cause.NotDeferrable k) t account n e sure told w = did_plain sure_back asked old new listed st (Err (record { cause = cause.NotDeferrable k; trigger = t })) account n refl e told w
did_refused sure_back asked old new listed st cause.WrongShape t account n e sure told w = did_plain sure_back asked old new listed st (Err (record { cause = cause.WrongShape; trigger = t })) account n refl e told w
did_refused sure_back asked old new listed st cause.NumberOutOfRange t account n e sure told w = did_plain sure_back asked old new listed st (Err (record { cause = cause.NumberOutOfRange; trigger = t })) account n refl e told w
did_refused sure_back asked old new listed st cause.TextTooLong t account n e sure told w = did_plain sure_back asked old new listed st (Err (record { cause = cause.TextTooLong; trigger = t })) account n refl e told w
did_refused sure_back asked old new listed st (cause.Restrict f) t account n e sure told w = did_plain sure_back asked old new listed st (Err (record { cause = cause.Restrict f; trigger = t })) account n refl e told w
did_refused sure_back asked old new listed st (cause.Violation f) t account n e sure told w = did_plain sure_back asked old new listed st (Err (record { cause = cause.Violation f; trigger = t })) account n refl e told w
did_refused sure_back asked old new listed st (cause.ActionConflict f) t account n e sure told w = did_plain sure_back asked old new listed st (Err (record { cause = cause.ActionConflict f; trigger = t })) account n refl e told w
did_refused sure_back asked old new listed st (cause.Signal k p) t account n e sure told w = did_plain sure_back asked old new listed st (Err (record { cause = cause.Signal k p; trigger = t })) account n refl e told w
did_refused sure_back asked old new listed st (cause.DepthLimit k) t account n e sure told w = did_plain sure_back asked old new listed st (Err (record { cause = cause.DepthLimit k; trigger = t })) account n refl e told w
did_refused sure_back asked old new listed st cause.TooManyChanges t account n e sure told w = did_plain sure_back asked old new listed st (Err (record { cause = cause.TooManyChanges; trigger = t })) account n refl e told w
did_refused sure_back asked old new listed st cause.TransactionTooLarge t account n e sure told w = did_plain sure_back asked old new listed st (Err (record { cause = cause.TransactionTooLarge; trigger = t })) account n refl e told w
did_refused sure_back asked old new listed st (cause.CommitRefused f) t account n e sure told w = did_plain sure_back asked old new listed st (Err (record { cause = cause.CommitRefused f; trigger = t })) account n refl e told w
did_refused sure_back asked old new listed st (cause.AddRefused row) t account n e sure told w = did_plain sure_back asked old new listed st (Err (record { cause = cause.AddRefused row; trigger = t })) account n refl e told w
did_refused sure_back asked old new listed st cause.Limit t account n e sure told w = did_plain sure_back asked old new listed st (Err (record { cause = cause.Limit; trigger = t })) account n refl e told w

pub did : (sure_back asked : Bool) (old new : State) (listed : List Fault) (st : Statement) (r : Result Answer Refusal) (account : Account) (n : News) → Executes old st r new
    → (never_refused sure_back old st ≡ true → is_memory r ≡ false) → Tells asked old st r account
    → AreNews (asked && is_open new) (is_memory r || account.untold) listed new n → Did sure_back asked old new listed st r account n
did sure_back asked old new listed st (Ok a) account n e sure told k = did_plain sure_back asked old new listed st (Ok a) account n refl e told k
did sure_back asked old new listed st (Err r) account n e sure told k = did_refused sure_back asked old new listed st r.cause r.trigger account n e sure told k

-- what takes no memory by one of two reasons isn't refused it
one_of : (p q r : Bool) (m : Bool) → (p ≡ true → m ≡ false) → (q ≡ true → r ≡ true → m ≡ false) → p || (q && r) ≡ true → m ≡ false
one_of true q r m f g e = f refl
one_of false true true m f g e = g refl refl
one_of false true false m f g e = absurd (false≢true e)
one_of false false r m f g e = absurd (false≢true e)

pub sure_of : (sure_back : Bool) (old : State) (st : Statement) (r : Result Answer Refusal) → (takes_no_memory old st ≡ true → is_memory r ≡ false)
    → (sure_back ≡ true → is_rollback_to st ≡ true → is_memory r ≡ false) → never_refused sure_back old st ≡ true → is_memory r ≡ false
sure_of sure_back old st r f g = one_of (takes_no_memory old st) sure_back (is_rollback_to st) (is_memory r) f g

-- a statement's lines were written, and its outcome was counted
pub ran_one : (sure_back : Bool) (style : Style) (number : ℕ) (old new : State) (listed : List Fault) (st : Statement) (r : Result Answer Refusal) (account : Account) (n : News)
    (tally tally_then : Tally) (before after : SinkState)
    → Executes old st r new → (never_refused sure_back old st ≡ true → is_memory r ≡ false) → Tells style.explain old st r account
    → AreNews (style.explain && is_open new) (is_memory r || account.untold) listed new n
    → Writes before after (Ok tt) (lines_in style.format style.explain style.explain number (Some st) new.schema new.limits r account.entries n.came.entries n.went.items)
    → tally_then.accepted ≡ tally.accepted + accepted_of r → tally_then.refused ≡ tally.refused + refused_of r → tally_then.memory_refused ≡ tally.memory_refused + (if is_memory r then 1 else 0)
    → tally_then.untold ≡ tally.untold + (if account.untold || n.is_refused then 1 else 0)
    → RanOne sure_back style number old new listed n.listed.items st tally tally_then before after
ran_one sure_back style number old new listed st r account n tally tally_then before after e sure told k w a f s u =
    let d : Did sure_back style.explain old new listed st r account n = did sure_back style.explain old new listed st r account n e sure told k in
    let news : news_seen n ≡ news_after style.explain d.memory listed (outcome d.memory old st).state = d.news_is ∙ ap (news_after style.explain d.memory listed) d.state_is in
    record {
      memory = d.memory;
      due = d.due;
      state_is = d.state_is;
      listed_is = ap (λ (x : spec.News). x.listed) news;
      accepted_is = a ∙ ap (λ x. tally.accepted + accepted_of x) d.answer_is;
      refused_is = f ∙ ap (λ x. tally.refused + refused_of x) d.answer_is;
      memory_refusals_are = s ∙ ap (λ k. tally.memory_refused + k) d.counted;
      untold_are = u ∙ ap (λ k. tally.untold + k) d.untold_counted;
      appended = subst (Appends before.contents after.contents)
          (λ i. lines_in style.format style.explain style.explain number (Some st) (d.state_is i).schema (d.state_is i).limits (d.answer_is i) (d.told_is i) (news i).came (news i).went) w.0;
      works = w.1;
    }

-- ---- one after another

sum_of : (a b c : ℕ) → a + (b + c) ≡ (a + b) + c
sum_of a b c = omega arith

none_before : (a : ℕ) → a ≡ 0 + a
none_before a = omega arith

none_more : (a : ℕ) → a + 0 ≡ a
none_more a = omega arith

following_twice : (a b : List ℕ) (p q u v : ℕ) (r : Ran) → following a p u (following b q v r) ≡ following (a ++ b) (p + q) (u + v) r
following_twice a b p q u v r =
    ap (λ l. record { text = l; state = r.state; accepted = p + (q + r.accepted); refused = u + (v + r.refused) }) (sym (append_assoc a b r.text))
    ∙ ap (λ k. record { text = (a ++ b) ++ r.text; state = r.state; accepted = k; refused = u + (v + r.refused) }) (sum_of p q r.accepted)
    ∙ ap (λ k. record { text = (a ++ b) ++ r.text; state = r.state; accepted = (p + q) + r.accepted; refused = k }) (sum_of u v r.refused)

following_none : (r : Ran) → r ≡ following [] 0 0 r
following_none r =
    ap (λ k. record { text = r.text; state = r.state; accepted = k; refused = r.refused }) (none_before r.accepted)
    ∙ ap (λ k. record { text = r.text; state = r.state; accepted = 0 + r.accepted; refused = k }) (none_before r.refused)

counted_more : (ms : List Memory) (m : Memory) → memory_refusals (ms ++ m ∷ []) ≡ memory_refusals ms + memory_refusals (m ∷ [])
counted_more [] (denied t) = refl
counted_more [] granted = refl
counted_more [] untold = refl
counted_more [] unlisted = refl
counted_more (denied t ∷ ms) m = omega (arith, counted_more ms m)
counted_more (granted ∷ ms) m = counted_more ms m
counted_more (untold ∷ ms) m = counted_more ms m
counted_more (unlisted ∷ ms) m = counted_more ms m

untold_more : (ms : List Memory) (m : Memory) → untold_accounts (ms ++ m ∷ []) ≡ untold_accounts ms + untold_accounts (m ∷ [])
untold_more [] (denied t) = refl
untold_more [] granted = refl
untold_more [] untold = refl
untold_more [] unlisted = refl
untold_more (denied t ∷ ms) m = untold_more ms m
untold_more (granted ∷ ms) m = untold_more ms m
untold_more (untold ∷ ms) m = omega (arith, untold_more ms m)
untold_more (unlisted ∷ ms) m = omega (arith, untold_more ms m)

-- these ran, and the rest is left
pub record Onward (sure_back : Bool) (style : Style) (old now : State) (listed : List Fault) (all rest : List Statement) (n : ℕ) (tally : Tally) (before after : SinkState) : Type 0 where
  pub memory : List Memory
  pub written : List ℕ
  pub each : length memory ≡ n
  pub due : (more : List Memory) → AreDue sure_back style.explain now rest more → AreDue sure_back style.explain old all (memory ++ more)
  pub memory_refusals_are : memory_refusals memory ≡ tally.memory_refused
  pub untold_are : untold_accounts memory ≡ tally.untold
  pub appended : Appends before.contents after.contents written
  pub onward : (more : List Memory) → run_from style old [] 0 all (memory ++ more) ≡ following written tally.accepted tally.refused (run_from style now listed n rest more)
  pub works : FailsNever before after

pub onward_start : (sure_back : Bool) (style : Style) (s : State) (listed : List Fault) (all : List Statement) (tally : Tally) (a : SinkState) → listed ≡ [] → tally.accepted ≡ 0 → tally.refused ≡ 0 → tally.memory_refused ≡ 0 → tally.untold ≡ 0 → Onward sure_back style s s listed all all 0 tally a a
onward_start sure_back style s listed all tally a l p q z u = record {
  memory = [];
  written = [];
  each = refl;
  due = λ more left. left;
  memory_refusals_are = sym z;
  untold_are = sym u;
  appended = Appends-nil a.contents;
  onward = λ more. rw (p, q, l) (following_none (run_from style s [] 0 all more));
  works = (refl, refl);
}

pub onward_more : (sure_back : Bool) (style : Style) (old now new : State) (listed listed_then : List Fault) (all left rest : List Statement) (st : Statement) (n : ℕ) (t u : Tally) (a before after : SinkState)
    → Onward sure_back style old now listed all left n t a before → left ≡ st ∷ rest → RanOne sure_back style (n + 1) now new listed listed_then st t u before after
    → Onward sure_back style old new listed_then all rest (n + 1) u a after
onward_more sure_back style old now new listed listed_then all left rest st n t u a before after w e r =
    let o : Outcome = outcome r.memory now st in
    let told : List Entry = told_with style.explain r.memory now st in
    let news : spec.News = news_after style.explain r.memory listed o.state in
    let text : List ℕ = lines style (n + 1) st o told news in
    record {
      memory = w.memory ++ r.memory ∷ [];
      written = w.written ++ text;
      each = omega (arith, length-append w.memory (r.memory ∷ []), w.each);
      due = λ more left.
          subst (AreDue sure_back style.explain old all) (sym (append_assoc w.memory (r.memory ∷ []) more))
          (w.due (r.memory ∷ more) (subst (λ l. AreDue sure_back style.explain now l (r.memory ∷ more)) (sym e) (r.due, subst (λ s. AreDue sure_back style.explain s rest more) r.state_is left)));
      memory_refusals_are = counted_more w.memory r.memory ∙ ap (λ z. z + memory_refusals (r.memory ∷ [])) w.memory_refusals_are ∙ sym r.memory_refusals_are;
      untold_are = untold_more w.memory r.memory ∙ ap (λ z. z + untold_accounts (r.memory ∷ [])) w.untold_are ∙ sym r.untold_are;
      appended = Appends-trans a.contents before.contents after.contents w.written (text) w.appended r.appended;
      onward = λ more.
          ap (λ l. run_from style old [] 0 all l) (append_assoc w.memory (r.memory ∷ []) more)
          ∙ w.onward (r.memory ∷ more)
          ∙ ap (λ l. following w.written t.accepted t.refused (run_from style now listed n l (r.memory ∷ more))) e
          ∙ following_twice w.written (text) t.accepted (accepted_of o.answer) t.refused (refused_of o.answer) (run_from style o.state news.listed (n + 1) rest more)
          ∙ ap (λ z. following (w.written ++ text) z (t.refused + refused_of o.answer) (run_from style o.state news.listed (n + 1) rest more)) (sym r.accepted_is)
          ∙ ap (λ z. following (w.written ++ text) u.accepted z (run_from style o.state news.listed (n + 1) rest more)) (sym r.refused_is)
          ∙ ap (λ s. following (w.written ++ text) u.accepted u.refused (run_from style s news.listed (n + 1) rest more)) (sym r.state_is)
          ∙ ap (λ l. following (w.written ++ text) u.accepted u.refused (run_from style new l (n + 1) rest more)) (sym r.listed_is);
      works = never_then a before after w.works r.works;
    }

pub onward_end : (sure_back : Bool) (style : Style) (old now : State) (listed : List Fault) (all rest : List Statement) (n : ℕ) (t : Tally) (a b : SinkState) → Onward sure_back style old now listed all rest n t a b → rest ≡ [] → n ≡ length all → RanAll sure_back style old now all t a b
onward_end sure_back style old now listed all rest n t a b w e q =
    let done : run_from style old [] 0 all w.memory ≡ following w.written t.accepted t.refused (record { text = []; state = now; accepted = 0; refused = 0 }) =
    ap (run_from style old [] 0 all) (sym (append-nil w.memory)) ∙ w.onward [] ∙ ap (λ l. following w.written t.accepted t.refused (run_from style now listed n l [])) e in
    record {
      memory = w.memory;
      each = w.each ∙ q;
      due = subst (AreDue sure_back style.explain old all) (append-nil w.memory) (w.due [] (subst (λ l. AreDue sure_back style.explain now l []) (sym e) tt));
      memory_refusals_are = w.memory_refusals_are;
      untold_are = w.untold_are;
      accepted_is = ap (λ r. r.accepted) done ∙ none_more t.accepted;
      refused_is = ap (λ r. r.refused) done ∙ none_more t.refused;
      state_is = sym (ap (λ r. r.state) done);
      appended = subst (Appends a.contents b.contents) (sym (append-nil w.written) ∙ sym (ap (λ r. r.text) done)) w.appended;
      works = w.works;
    }

one_accepted : (r : Result Answer Refusal) → accepted_of r ≤ 1
one_accepted (Ok a) = omega arith
one_accepted (Err r) = omega arith

one_refused : (r : Result Answer Refusal) → refused_of r ≤ 1
one_refused (Ok a) = omega arith
one_refused (Err r) = omega arith

one_memory_refusal : (m : Memory) → memory_refusals (m ∷ []) ≤ 1
one_memory_refusal (denied t) = omega arith
one_memory_refusal granted = omega arith
one_memory_refusal untold = omega arith
one_memory_refusal unlisted = omega arith

one_untold : (m : Memory) → untold_accounts (m ∷ []) ≤ 1
one_untold (denied t) = omega arith
one_untold granted = omega arith
one_untold untold = omega arith
one_untold unlisted = omega arith

-- a statement is counted once
pub few_more : (sure_back : Bool) (style : Style) (n k : ℕ) (now new : State) (listed listed_then : List Fault) (st : Statement) (t u : Tally) (before after : SinkState) → RanOne sure_back style n now new listed listed_then st t u before after
    → t.accepted ≤ k → t.refused ≤ k → t.memory_refused ≤ k → t.untold ≤ k → (u.accepted ≤ k + 1) × (u.refused ≤ k + 1) × (u.memory_refused ≤ k + 1) × (u.untold ≤ k + 1)
few_more sure_back style n k now new listed listed_then st t u before after r a f s z = (
  omega (arith, r.accepted_is, one_accepted (outcome r.memory now st).answer, a),
  omega (arith, r.refused_is, one_refused (outcome r.memory now st).answer, f),
  omega (arith, r.memory_refusals_are, one_memory_refusal r.memory, s),
  omega (arith, r.untold_are, one_untold r.memory, z),
)
