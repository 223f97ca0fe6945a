-- Entries after entries, and steps in turn that are told.
use Rattle.std.proofs.Common.{◌≡◌, refl, Bool, true, false, if◌then◌else◌, List, [], ◌∷◌, ◌++◌, Result, Ok, Err, ap, sym, ◌∙◌, append_assoc, append-nil}
use Rattle.iv_expr.specs.Evaluation.{and_then}
use Rattle.iv_machine.specs.Context.{in_turn}
use Rattle.iv_account.specs.declared.entry.Entry.{Entry}
use Rattle.iv_account.specs.Accounts.{unless_refused, told_each, told_in_turn}
use Rattle.iv_account.specs.Telling.{Account, and_told}

-- what is told in two steps is told in one
pub told_twice : (account : Account) (xs ys : List Entry) → and_told (and_told account xs) ys ≡ and_told account (xs ++ ys)
told_twice account xs ys = by_asked account.asked
  where
    by_asked : (b : Bool)
        → ◌≡◌ {A = Account} (record account { asked = b; entries = if b then (if b then account.entries ++ xs else account.entries) ++ ys else (if b then account.entries ++ xs else account.entries) })
        (record account { asked = b; entries = if b then account.entries ++ (xs ++ ys) else account.entries })
    by_asked true = ap (λ l. record account { asked = true; entries = l }) (append_assoc account.entries xs ys)
    by_asked false = refl

pub told_none : (account : Account) → and_told account [] ≡ account
told_none account = by_asked account.asked
  where
    by_asked : (b : Bool) → ◌≡◌ {A = Account} (record account { asked = b; entries = if b then account.entries ++ [] else account.entries }) (record account { asked = b; entries = account.entries })
    by_asked true = ap (λ l. record account { asked = true; entries = l }) (append-nil account.entries)
    by_asked false = refl

pub then_tell : (old mid new : Account) (xs ys : List Entry) → mid ≡ and_told old xs → new ≡ and_told mid ys → new ≡ and_told old (xs ++ ys)
then_tell old mid new xs ys e f = f ∙ ap (λ k. and_told k ys) e ∙ told_twice old xs ys

-- a step that is refused ends what is told
pub then_refused : {A E : Type 0} (old mid : Account) (xs : List Entry) (r : Result A E) (failure : E) (rest : A → List Entry)
    → r ≡ Err failure → mid ≡ and_told old xs → mid ≡ and_told old (xs ++ unless_refused r rest)
then_refused old mid xs r failure rest e told =
    told ∙ ap (and_told old) (sym (append-nil xs) ∙ ap (λ x. xs ++ unless_refused x rest) (sym e))

-- what comes after a step that isn't refused
pub then_on : {A E : Type 0} (old mid new : Account) (xs : List Entry) (r : Result A E) (a : A) (rest : A → List Entry)
    → r ≡ Ok a → mid ≡ and_told old xs → new ≡ and_told mid (rest a) → new ≡ and_told old (xs ++ unless_refused r rest)
then_on old mid new xs r a rest e told more =
    then_tell old mid new xs (rest a) told more ∙ ap (λ x. and_told old (xs ++ unless_refused x rest)) (sym e)

-- one more step of a loop: what is told so far and what is left to tell stay the same
pub turn_told : {A B E : Type 0} (f : A → B → Result B E) (tell : A → B → List Entry) (x : A) (xs : List A) (b mid : B) (account later all : Account)
    → f x b ≡ Ok mid → later ≡ and_told account (tell x b)
    → and_told account (told_in_turn f tell (x ∷ xs) b) ≡ all → and_told later (told_in_turn f tell xs mid) ≡ all
turn_told f tell x xs b mid account later all e told so_far =
    ap (λ k. and_told k (told_in_turn f tell xs mid)) told ∙ told_twice account (tell x b) (told_in_turn f tell xs mid)
    ∙ ap (λ r. and_told account (tell x b ++ unless_refused r (told_in_turn f tell xs))) (sym e) ∙ so_far

pub turn_refused : {A B E : Type 0} (f : A → B → Result B E) (tell : A → B → List Entry) (x : A) (xs : List A) (b : B) (failure : E) (account later all : Account)
    → f x b ≡ Err failure → later ≡ and_told account (tell x b)
    → and_told account (told_in_turn f tell (x ∷ xs) b) ≡ all → later ≡ all
turn_refused f tell x xs b failure account later all e told so_far =
    then_refused account later (tell x b) (f x b) failure (told_in_turn f tell xs) e told ∙ so_far

-- the same of each
pub each_told : {A B E : Type 0} (f : A → Result B E) (tell : A → List Entry) (x : A) (y : B) (xs : List A) (account later all : Account)
    → f x ≡ Ok y → later ≡ and_told account (tell x)
    → and_told account (told_each f tell (x ∷ xs)) ≡ all → and_told later (told_each f tell xs) ≡ all
each_told f tell x y xs account later all e told so_far =
    ap (λ k. and_told k (told_each f tell xs)) told ∙ told_twice account (tell x) (told_each f tell xs)
    ∙ ap (λ r. and_told account (tell x ++ unless_refused r (λ _. told_each f tell xs))) (sym e) ∙ so_far

pub each_refused : {A B E : Type 0} (f : A → Result B E) (tell : A → List Entry) (x : A) (xs : List A) (failure : E) (account later all : Account)
    → f x ≡ Err failure → later ≡ and_told account (tell x)
    → and_told account (told_each f tell (x ∷ xs)) ≡ all → later ≡ all
each_refused f tell x xs failure account later all e told so_far =
    then_refused account later (tell x) (f x) failure (λ _. told_each f tell xs) e told ∙ so_far

-- the steps of one list, then those of another
both_after : {A B E : Type 0} (f : A → B → Result B E) (tell : A → B → List Entry) (xs ys : List A) (r : Result B E) (t : List Entry)
    → ((c : B) → told_in_turn f tell (xs ++ ys) c ≡ told_in_turn f tell xs c ++ unless_refused (in_turn f xs c) (told_in_turn f tell ys))
    → t ++ unless_refused r (told_in_turn f tell (xs ++ ys))
    ≡ (t ++ unless_refused r (told_in_turn f tell xs)) ++ unless_refused (and_then r (in_turn f xs)) (told_in_turn f tell ys)
both_after f tell xs ys (Ok c) t h =
    ap (λ l. t ++ l) (h c) ∙ sym (append_assoc t (told_in_turn f tell xs c) (unless_refused (in_turn f xs c) (told_in_turn f tell ys)))
both_after f tell xs ys (Err e) t h = sym (append-nil (t ++ []))

pub both_told : {A B E : Type 0} (f : A → B → Result B E) (tell : A → B → List Entry) (xs ys : List A) (b : B)
    → told_in_turn f tell (xs ++ ys) b ≡ told_in_turn f tell xs b ++ unless_refused (in_turn f xs b) (told_in_turn f tell ys)
both_told f tell [] ys b = refl
both_told f tell (x ∷ xs) ys b = both_after f tell xs ys (f x b) (tell x b) (both_told f tell xs ys)
