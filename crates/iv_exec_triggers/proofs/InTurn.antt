-- The first of triggers, and the others; and one trigger at each change.
use Rattle.std.proofs.Common.{◌≡◌, ◌∙◌, refl, ◌+◌, ◌-◌, ◌<◌, ◌≤◌, ℕ, Bool, true, false, Result, Ok, Err, MatchBool, IsErrAnd, List, [], ◌∷◌, ◌++◌, ap, subst, sym, cond, length, get_or, set, take, drop, filter, arith, append_assoc, append-nil}
use Rattle.std.proofs.lemmas.List.{length-drop, length-set, nil_from_length, take_rest, take_all, drop_all, drop_more, drop-set-lt, take_more_set}
use Rattle.iv_expr.specs.Evaluation.{and_then}
use Rattle.iv_catalogue.specs.Catalogues.{BodiesWithinLimit}
use Rattle.iv_catalogue.specs.declared.limits.TheConstants.{MOST_BODY_STATEMENTS}
use Rattle.iv_catalogue.specs.declared.plan.Trigger.{Trigger}
use Rattle.iv_catalogue.specs.Refusals.{is_memory_cause}
use Rattle.iv_catalogue.specs.declared.cause.Refusal.{Refusal}
use Rattle.iv_machine.specs.Context.{each, in_turn}
use Rattle.iv_account.specs.declared.entry.Entry.{Entry}
use Rattle.iv_account.specs.Accounts.{told_each, told_in_turn}
use Rattle.iv_account.specs.Telling.{Account, and_told}
use Rattle.iv_account.proofs.Telling.{each_refused, each_told, then_on, then_refused, told_none}
use Rattle.iv_laws_rows.specs.Changing.{UnlessMemory}
use Rattle.iv_exec_context.specs.Answering.{AnswersRefusal}
use Rattle.iv_exec_context.proofs.Answers.{unless_memory}

-- ---- answers

-- what is answered of one text is answered of the same in other words
pub answered_as : {A B : Type 0} (view : A → B) (r : Result A Refusal) (said other : Result B Refusal) → said ≡ other → AnswersRefusal view r said → AnswersRefusal view r other
answered_as {B = B} view r said other e h = subst (λ (x : Result B Refusal). AnswersRefusal view r x) e h

-- what is told unless an allocation failed, in other words
told_as : {A : Type 0} (r : Result A Refusal) (P Q : Type 0) → (P → Q) → UnlessMemory r P → UnlessMemory r Q
told_as (Ok a) P Q f p = f p
told_as (Err e) P Q f p = unless_memory (is_memory_cause e.cause) P Q f p

-- a refusal that is told on as it is
pub refused_on : {A B : Type 0} (view : A → B) (r : Result A Refusal) (e : Refusal) (said : Result B Refusal) → IsErrAnd r (λ y. y ≡ e)
    → MatchBool (is_memory_cause e.cause) (Unit {0}) (said ≡ Err e) → AnswersRefusal view r said
refused_on view (Ok a) e said h m = absurd h
refused_on view (Err y) e said h m = subst (λ (x : Refusal). MatchBool (is_memory_cause x.cause) (Unit {0}) (said ≡ Err x)) (sym h) m

-- what is told beside it
pub refused_told : {A : Type 0} (r : Result A Refusal) (e : Refusal) (P : Type 0) → IsErrAnd r (λ y. y ≡ e) → MatchBool (is_memory_cause e.cause) (Unit {0}) P → UnlessMemory r P
refused_told (Ok a) e P h m = absurd h
refused_told (Err y) e P h m = subst (λ (x : Refusal). MatchBool (is_memory_cause x.cause) (Unit {0}) P) (sym h) m

refused_as : {A : Type 0} (r : Result A Refusal) (e : Refusal) → IsErrAnd r (λ y. y ≡ e) → r ≡ Err e
refused_as (Ok a) e h = absurd h
refused_as (Err y) e h = ap (λ x. Err x) h

both_unless : (b : Bool) (P Q R : Type 0) → (P → Q → R) → MatchBool b (Unit {0}) P → MatchBool b (Unit {0}) Q → MatchBool b (Unit {0}) R
both_unless true P Q R f p q = tt
both_unless false P Q R f p q = f p q

-- ---- the first of triggers, and the others

first_of : {X : Type 0} (xs : List X) (x : X) → 1 ≤ length xs → x ≡ get_or xs 0 x → xs ≡ x ∷ drop 1 xs
first_of [] x h e = absurd (omega arith)
first_of (y ∷ ys) x h e = ap (λ z. z ∷ ys) (sym e)

-- those that are meant: the first, and those of the others
first_is_meant : {X : Type 0} (meant : X → Bool) (xs : List X) (x : X) → 1 ≤ length xs → x ≡ get_or xs 0 x → true ≡ meant x
    → filter meant xs ≡ x ∷ filter meant (take (length xs - 1) (drop 1 xs))
first_is_meant {X = X} meant xs x h e m =
    ap (λ (l : List X). filter meant l) (first_of xs x h e)
    ∙ ap (λ b. cond b (x ∷ filter meant (drop 1 xs)) (filter meant (drop 1 xs))) (sym m)
    ∙ ap (λ (l : List X). x ∷ filter meant l) (sym (take_rest xs 1))

-- only those of the others
pub first_is_passed : {X : Type 0} (meant : X → Bool) (xs : List X) (x : X) → 1 ≤ length xs → x ≡ get_or xs 0 x → false ≡ meant x
    → filter meant xs ≡ filter meant (take (length xs - 1) (drop 1 xs))
first_is_passed {X = X} meant xs x h e m =
    ap (λ (l : List X). filter meant l) (first_of xs x h e)
    ∙ ap (λ b. cond b (x ∷ filter meant (drop 1 xs)) (filter meant (drop 1 xs))) (sym m)
    ∙ ap (λ (l : List X). filter meant l) (sym (take_rest xs 1))

-- the bodies of the first and of the others are within the limit
pub first_body : (ts : List Trigger) (t : Trigger) → 1 ≤ length ts → t ≡ get_or ts 0 t → BodiesWithinLimit ts → length t.body ≤ MOST_BODY_STATEMENTS
first_body [] t h e b = absurd (omega arith)
first_body (x ∷ ts) t h e b = subst (λ (y : Trigger). length y.body ≤ MOST_BODY_STATEMENTS) (sym e) b.0

pub other_bodies : (ts : List Trigger) → BodiesWithinLimit ts → BodiesWithinLimit (take (length ts - 1) (drop 1 ts))
other_bodies [] b = tt
other_bodies (x ∷ ts) b = subst BodiesWithinLimit (sym (take_rest (x ∷ ts) 1)) b.1

-- the others are fewer
pub fewer : {X : Type 0} (xs : List X) → 1 ≤ length xs → length (take (length xs - 1) (drop 1 xs)) < length xs
fewer xs h = omega (arith, ap length (take_rest xs 1), length-drop 1 xs)

-- there are none
module _ {X B : Type 0} (meant : X → Bool) (f : X → B → Result B Refusal) (tell : X → B → List Entry) (xs : List X) (b : B) (empty : length xs ≡ 0) where
  pub none_run : in_turn f (filter meant xs) b ≡ Ok b
  none_run = ap (λ (l : List X). in_turn f (filter meant l) b) (nil_from_length xs empty)

  pub none_told : (account : Account) → account ≡ and_told account (told_in_turn f tell (filter meant xs) b)
  none_told account = sym (told_none account) ∙ ap (λ (l : List X). and_told account (told_in_turn f tell (filter meant l) b)) (sym (nil_from_length xs empty))

module _ {X A B : Type 0} (meant : X → Bool) (f : X → B → Result B Refusal) (tell : X → B → List Entry) (xs : List X) (x : X) (b : B)
    (r : Result A Refusal) (some : 1 ≤ length xs) (here : x ≡ get_or xs 0 x) where
  -- the first that is meant was done, and the others are left
  pub others_meant : (made : B) → true ≡ meant x → f x b ≡ Ok made → in_turn f (filter meant (take (length xs - 1) (drop 1 xs))) made ≡ in_turn f (filter meant xs) b
  others_meant made m o =
      let rest = filter meant (take (length xs - 1) (drop 1 xs)) in
      sym (ap (λ (l : List X). in_turn f l b) (first_is_meant meant xs x some here m) ∙ ap (λ s. and_then s (in_turn f rest)) o)

  pub others_left : (view : A → B) (made : B) → true ≡ meant x → f x b ≡ Ok made → AnswersRefusal view r (in_turn f (filter meant (take (length xs - 1) (drop 1 xs))) made)
      → AnswersRefusal view r (in_turn f (filter meant xs) b)
  others_left view made m o h =
      answered_as view r (in_turn f (filter meant (take (length xs - 1) (drop 1 xs))) made) (in_turn f (filter meant xs) b) (others_meant made m o) h

  -- it was told, and the others are left to tell
  pub others_told : (old mid new : Account) (made : B) → true ≡ meant x → f x b ≡ Ok made → mid ≡ and_told old (tell x b)
      → UnlessMemory r (new ≡ and_told mid (told_in_turn f tell (filter meant (take (length xs - 1) (drop 1 xs))) made))
      → UnlessMemory r (new ≡ and_told old (told_in_turn f tell (filter meant xs) b))
  others_told old mid new made m o told h =
      let rest = filter meant (take (length xs - 1) (drop 1 xs)) in
      told_as r (new ≡ and_told mid (told_in_turn f tell rest made)) (new ≡ and_told old (told_in_turn f tell (filter meant xs) b))
      (λ e. then_on old mid new (tell x b) (f x b) made (told_in_turn f tell rest) o told e
      ∙ ap (λ (l : List X). and_told old (told_in_turn f tell l b)) (sym (first_is_meant meant xs x some here m))) h

  -- the first isn't meant
  pub others_alone : (view : A → B) → false ≡ meant x → AnswersRefusal view r (in_turn f (filter meant (take (length xs - 1) (drop 1 xs))) b)
      → AnswersRefusal view r (in_turn f (filter meant xs) b)
  others_alone view m h =
      answered_as view r (in_turn f (filter meant (take (length xs - 1) (drop 1 xs))) b) (in_turn f (filter meant xs) b)
      (ap (λ (l : List X). in_turn f l b) (sym (first_is_passed meant xs x some here m))) h

  pub others_alone_told : (old new : Account) → false ≡ meant x
      → UnlessMemory r (new ≡ and_told old (told_in_turn f tell (filter meant (take (length xs - 1) (drop 1 xs))) b))
      → UnlessMemory r (new ≡ and_told old (told_in_turn f tell (filter meant xs) b))
  others_alone_told old new m h =
      let rest = filter meant (take (length xs - 1) (drop 1 xs)) in
      told_as r (new ≡ and_told old (told_in_turn f tell rest b)) (new ≡ and_told old (told_in_turn f tell (filter meant xs) b))
      (λ e. e ∙ ap (λ (l : List X). and_told old (told_in_turn f tell l b)) (sym (first_is_passed meant xs x some here m))) h

  -- the first that is meant was refused
  first_refuses : (e : Refusal) → true ≡ meant x → f x b ≡ Err e → in_turn f (filter meant xs) b ≡ Err e
  first_refuses e m h =
      let rest = filter meant (take (length xs - 1) (drop 1 xs)) in
      ap (λ (l : List X). in_turn f l b) (first_is_meant meant xs x some here m) ∙ ap (λ s. and_then s (in_turn f rest)) h

  pub first_refused : (view : A → B) (e : Refusal) → true ≡ meant x → IsErrAnd r (λ y. y ≡ e) → MatchBool (is_memory_cause e.cause) (Unit {0}) (f x b ≡ Err e)
      → AnswersRefusal view r (in_turn f (filter meant xs) b)
  first_refused view e m is h =
      refused_on view r e (in_turn f (filter meant xs) b) is
      (unless_memory (is_memory_cause e.cause) (f x b ≡ Err e) (in_turn f (filter meant xs) b ≡ Err e) (first_refuses e m) h)

  pub first_refused_told : (old mid : Account) (e : Refusal) → true ≡ meant x → IsErrAnd r (λ y. y ≡ e) → MatchBool (is_memory_cause e.cause) (Unit {0}) (f x b ≡ Err e)
      → MatchBool (is_memory_cause e.cause) (Unit {0}) (mid ≡ and_told old (tell x b)) → UnlessMemory r (mid ≡ and_told old (told_in_turn f tell (filter meant xs) b))
  first_refused_told old mid e m is h told =
      let rest = filter meant (take (length xs - 1) (drop 1 xs)) in
      refused_told r e (mid ≡ and_told old (told_in_turn f tell (filter meant xs) b)) is
      (both_unless (is_memory_cause e.cause) (f x b ≡ Err e) (mid ≡ and_told old (tell x b)) (mid ≡ and_told old (told_in_turn f tell (filter meant xs) b))
      (λ o t. then_refused old mid (tell x b) (f x b) e (told_in_turn f tell rest) o t
      ∙ ap (λ (l : List X). and_told old (told_in_turn f tell l b)) (sym (first_is_meant meant xs x some here m))) h told)

module _ {X B : Type 0} (meant : X → Bool) (f : X → B → Result B Refusal) (tell : X → B → List Entry) (xs : List X) (x : X) (b : B)
    (r : Result B Refusal) (some : 1 ≤ length xs) (here : x ≡ get_or xs 0 x) where
  -- if the refusal is exact
  pub first_refused_unasked : (e : Refusal) → true ≡ meant x → IsErrAnd r (λ y. y ≡ e) → Err e ≡ f x b → r ≡ in_turn f (filter meant xs) b
  first_refused_unasked e m is o = refused_as r e is ∙ sym (first_refuses meant f tell xs x b r some here e m (sym o))

-- ---- one of them at each change

pub one_further : {X : Type 0} (xs : List X) (i : ℕ) (y : X) → i < length xs → i + 1 ≤ length (set xs i y)
one_further xs i y h = omega (arith, length-set xs i y)

module _ {X : Type 0} (f : X → Result X Refusal) (xs : List X) (i : ℕ) (said : Result (List X) Refusal)
    (all : and_then (each f (drop i xs)) (λ ys. Ok (take i xs ++ ys)) ≡ said) where
  put_after : (done : List X) (y : X) (r : Result (List X) Refusal)
      → and_then r (λ ys. Ok ((done ++ y ∷ []) ++ ys)) ≡ and_then (and_then r (λ ys. Ok (y ∷ ys))) (λ ys. Ok (done ++ ys))
  put_after done y (Ok ys) = ap (λ l. Ok l) (append_assoc done (y ∷ []) ys)
  put_after done y (Err e) = refl

  pub each_on : (d y : X) → i < length xs → f (get_or xs i d) ≡ Ok y
      → and_then (each f (drop (i + 1) (set xs i y))) (λ ys. Ok (take (i + 1) (set xs i y) ++ ys)) ≡ said
  each_on d y h e =
      let left : Result (List X) Refusal = each f (drop (i + 1) xs) in
      ap (λ (l : List X). and_then (each f l) (λ ys. Ok (take (i + 1) (set xs i y) ++ ys))) (drop-set-lt (i + 1) xs i y (omega arith))
      ∙ ap (λ (l : List X). and_then left (λ ys. Ok (l ++ ys))) (take_more_set xs i y h)
      ∙ put_after (take i xs) y left
      ∙ sym (ap (λ (l : List X). and_then (each f l) (λ ys. Ok (take i xs ++ ys))) (drop_more xs i d h)
      ∙ ap (λ (r : Result X Refusal). and_then (and_then r (λ z. and_then left (λ ys. Ok (z ∷ ys)))) (λ ys. Ok (take i xs ++ ys))) e)
      ∙ all

  each_refuses : (d : X) (e : Refusal) → i < length xs → f (get_or xs i d) ≡ Err e → said ≡ Err e
  each_refuses d e h o =
      sym all ∙ ap (λ (l : List X). and_then (each f l) (λ ys. Ok (take i xs ++ ys))) (drop_more xs i d h)
      ∙ ap (λ (r : Result X Refusal). and_then (and_then r (λ z. and_then (each f (drop (i + 1) xs)) (λ ys. Ok (z ∷ ys)))) (λ ys. Ok (take i xs ++ ys))) o

  pub each_done : length xs ≤ i → said ≡ Ok xs
  each_done h =
      sym all ∙ ap (λ (l : List X). and_then (each f l) (λ ys. Ok (take i xs ++ ys))) (drop_all i xs h)
      ∙ ap (λ l. Ok l) (append-nil (take i xs) ∙ take_all i xs h)

  pub each_refused_on : {A : Type 0} (d : X) (e : Refusal) (view : A → List X) (r : Result A Refusal) → i < length xs → IsErrAnd r (λ y. y ≡ e)
      → MatchBool (is_memory_cause e.cause) (Unit {0}) (f (get_or xs i d) ≡ Err e) → AnswersRefusal view r said
  each_refused_on d e view r h told m =
      refused_on view r e said told (unless_memory (is_memory_cause e.cause) (f (get_or xs i d) ≡ Err e) (said ≡ Err e) (each_refuses d e h) m)

module _ {X : Type 0} (f : X → Result X Refusal) (tell : X → List Entry) (xs : List X) (i : ℕ) (account told : Account)
    (all : and_told account (told_each f tell (drop i xs)) ≡ told) where
  pub each_told_on : (d y : X) (later : Account) → i < length xs → f (get_or xs i d) ≡ Ok y → later ≡ and_told account (tell (get_or xs i d))
      → and_told later (told_each f tell (drop (i + 1) (set xs i y))) ≡ told
  each_told_on d y later h e t =
      ap (λ (l : List X). and_told later (told_each f tell l)) (drop-set-lt (i + 1) xs i y (omega arith))
      ∙ each_told f tell (get_or xs i d) y (drop (i + 1) xs) account later told e t
      (sym (ap (λ (l : List X). and_told account (told_each f tell l)) (drop_more xs i d h)) ∙ all)

  each_told_refused : (d : X) (e : Refusal) (later : Account) → i < length xs → f (get_or xs i d) ≡ Err e → later ≡ and_told account (tell (get_or xs i d)) → later ≡ told
  each_told_refused d e later h o t =
      each_refused f tell (get_or xs i d) (drop (i + 1) xs) e account later told o t
      (sym (ap (λ (l : List X). and_told account (told_each f tell l)) (drop_more xs i d h)) ∙ all)

  pub each_refused_told : {A : Type 0} (d : X) (e : Refusal) (later : Account) (r : Result A Refusal) → i < length xs → IsErrAnd r (λ y. y ≡ e)
      → MatchBool (is_memory_cause e.cause) (Unit {0}) (f (get_or xs i d) ≡ Err e) → MatchBool (is_memory_cause e.cause) (Unit {0}) (later ≡ and_told account (tell (get_or xs i d)))
      → UnlessMemory r (later ≡ told)
  each_refused_told d e later r h so m t =
      refused_told r e (later ≡ told) so
      (both_unless (is_memory_cause e.cause) (f (get_or xs i d) ≡ Err e) (later ≡ and_told account (tell (get_or xs i d))) (later ≡ told) (each_told_refused d e later h) m t)

  pub each_told_all : length xs ≤ i → account ≡ told
  each_told_all h = sym (told_none account) ∙ ap (λ (l : List X). and_told account (told_each f tell l)) (sym (drop_all i xs h)) ∙ all
