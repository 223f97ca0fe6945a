-- A savepoint that isn't there and a constraint that isn't added are told as the laws say.
use Rattle.std.proofs.Common.{◌≡◌, ◌∙◌, refl, ℕ, ◌+◌, ◌==◌, Bool, true, false, ◌||◌, if◌then◌else◌, List, [], ◌∷◌, ◌++◌, length, find, option_map, is_some, Option, Some, None, Result, Ok, Err, inl, inr, sym, ap, append-nil, arith}
use Rattle.std.proofs.lemmas.Bool.Decides.{nat_tests}
use Rattle.std.specs.List.{list_any}
use Rattle.std.specs.Str.{bytes_eq}
use Rattle.iv_laws_answers.specs.Types.{StoredRow, Cause, Fault, Refusal}
use Rattle.iv_laws_answers.specs.Types.cause.{AddRefused}
use Rattle.iv_catalogue.specs.Catalogues.{with_constraint}
use Rattle.iv_catalogue.specs.Refusals.{refusal_answer}
use Rattle.iv_catalogue.specs.declared.constraint.Constraint.{Constraint}
use Rattle.iv_machine.specs.declared.answer.Answer.{Answer}
use Rattle.iv_machine.specs.declared.answer.Answer.TheVariants.{Done}
use Rattle.iv_machine.specs.Databases.{fault_at, first, row_at, violates, violations}
use Rattle.iv_machine.specs.Machine.{NamedSavepoint, Outcome, Savepoint, State, accept, add_constraint_outcome, refuse, refuse_first, savepoint_named, with_schema}
use Rattle.iv_machine.proofs.Firsts.{first_of_violations}
use Rattle.iv_machine.proofs.Scans.{scan_from}
use Rattle.iv_laws_levels.specs.RisingRows.{InOrder}
use Rattle.iv_laws_levels.proofs.Members.{In, rows_in}
use Rattle.iv_account.specs.declared.entry.Entry.{Entry}
use Rattle.iv_account.specs.declared.entry.Entry.TheVariants.{NotAdded}
use Rattle.iv_account.specs.Accounts.{equal_row_by, told_or, with_equal_row}
use Rattle.iv_account.specs.Sessions.{addition_refused_told, addition_told, names_of, standing_told}
use Rattle.iv_laws_answers.specs.RefusalLaws.{AcceptedAdditionsAreNotTold, OtherSavepointsAreNotTold, RefusedAdditionsAreTold, StandingSavepointsAreTold, ToldOf}

-- ---- savepoints

or_turned : (a b : Bool) (c : Bool) → a || (b || c) ≡ b || (a || c)
or_turned true true c = refl
or_turned true false c = refl
or_turned false b c = refl

any_last : {A : Type 0} (p : A → Bool) (xs : List A) (y : A) → list_any p (xs ++ y ∷ []) ≡ p y || list_any p xs
any_last p [] y = refl
any_last p (x ∷ xs) y = ap (λ (b : Bool). p x || b) (any_last p xs y) ∙ or_turned (p x) (p y) (list_any p xs)

named_first : (b : Bool) (x : NamedSavepoint) (o : Option NamedSavepoint) → b || is_some o ≡ is_some (if b then Some x else o)
named_first true x o = refl
named_first false x o = refl

names_found : (name : List ℕ) (saves : List Savepoint) → list_any (bytes_eq name) (names_of saves) ≡ is_some (savepoint_named name saves)
names_found name [] = refl
names_found name (x ∷ saves) =
    any_last (bytes_eq name) (names_of saves) x.name
    ∙ ap (λ (b : Bool). bytes_eq name x.name || b) (names_found name saves)
    ∙ named_first (bytes_eq name x.name) (record { savepoint = x; older = saves }) (savepoint_named name saves)

pub standing_are_told : StandingSavepointsAreTold
standing_are_told s missing none = (names_of s.savepoints, ap (standing_told s.savepoints) none, λ name. names_found name s.savepoints)

pub others_are_not_told : OtherSavepointsAreNotTold
others_are_not_told s name named there = ap (standing_told s.savepoints) there

-- ---- the row for which a constraint isn't added

-- of constraints from this number on, the scan of only the last one
last_alone : (rows : List StoredRow) (ks : List Constraint) (k : Constraint) (n last : ℕ) → last ≡ n + length ks
    → scan_from rows (λ id. id == last) n (ks ++ k ∷ []) ≡ violations rows last k
last_alone rows [] k n last e =
    ap (λ b. (if b then violations rows n k else []) ++ []) same ∙ append-nil (violations rows n k) ∙ ap (λ m. violations rows m k) is_last where
      is_last : n ≡ last
      is_last = omega (arith, e)

      same : (n == last) ≡ true
      same = (let l : n ≡ last = omega (arith, e) in grind (arith, nat_tests))
last_alone rows (x ∷ ks) k n last e =
    ap (λ b. (if b then violations rows n x else []) ++ scan_from rows (λ id. id == last) (n + 1) (ks ++ k ∷ [])) other
    ∙ last_alone rows ks k (n + 1) last (omega (arith, e)) where
      other : (n == last) ≡ false
      other = grind (arith, nat_tests)

abbrev by_row : State → Constraint → Option StoredRow → Outcome
by_row s k None = accept (with_schema s (with_constraint s.schema k)) Done
by_row s k (Some r) = refuse s (AddRefused r.number)

of_row : (s : State) (k : Constraint) (id : ℕ) (o : Option StoredRow)
    → refuse_first s (λ f. AddRefused f.row) (option_map (fault_at id) o) (accept (with_schema s (with_constraint s.schema k)) Done) ≡ by_row s k o
of_row s k id None = refl
of_row s k id (Some r) = refl

-- by the first row that violates it
outcome_by_row : (s : State) (k : Constraint) → add_constraint_outcome s k ≡ by_row s k (find (violates s.database.rows k) s.database.rows)
outcome_by_row s k =
    ap (λ (l : List Fault). refuse_first s (λ f. AddRefused f.row) (first l) (accept (with_schema s (with_constraint s.schema k)) Done))
    (last_alone s.database.rows s.schema.constraints k 0 (length s.schema.constraints) (omega arith))
    ∙ ap (λ (o : Option Fault). refuse_first s (λ f. AddRefused f.row) o (accept (with_schema s (with_constraint s.schema k)) Done))
    (first_of_violations s.database.rows (length s.schema.constraints) k)
    ∙ of_row s k (length s.schema.constraints) (find (violates s.database.rows k) s.database.rows)

-- what is told by that row
abbrev told_by : State → Constraint → Outcome → List Entry
told_by s k o = told_or o.answer (λ refusal. addition_refused_told s.database.rows k refusal.cause) (λ _. [])

-- a row that is found is one of the rows, and passes
found_in : {A : Type 0} (p : A → Bool) (xs : List A) (x : A) → find p xs ≡ Some x → In x xs × (p x ≡ true)
found_in p [] x e = cc
found_in p (y ∷ xs) x e = by (found_in p xs x) (p y) refl e
  where
    by : (find p xs ≡ Some x → In x xs × (p x ≡ true)) → (b : Bool) → p y ≡ b → (if b then Some y else find p xs) ≡ Some x → In x (y ∷ xs) × (p x ≡ true)
    by later true passes is = let same : x ≡ y = cc in (inl same, ap p same ∙ passes)
    by later false fails is = let rest : In x xs × (p x ≡ true) = later is in (inr rest.0, rest.1)

-- the number for which a constraint isn't added
abbrev number_of : Cause → ℕ
number_of (AddRefused n) = n
number_of _ = 0

abbrev number_in : Result Answer Refusal → ℕ
number_in (Err refusal) = number_of refusal.cause
number_in (Ok answer) = 0

module _ (s : State) (k : Constraint) where
  -- the entry of a row that is there
  told_of_row : (r : StoredRow) → row_at s.database.rows r.number ≡ Some r
      → told_by s k (by_row s k (Some r)) ≡ NotAdded k (r ∷ equal_row_by s.database.rows k.table k.rule r) ∷ []
  told_of_row r at =
      ap (λ (o : Option StoredRow). NotAdded k (elim o [ Some row ↦ with_equal_row s.database.rows (Some k) row | None ↦ [] ]) ∷ []) at

  refused_by : (number : ℕ) → InOrder s.database.rows → (o : Option StoredRow) → find (violates s.database.rows k) s.database.rows ≡ o
      → add_constraint_outcome s k ≡ by_row s k o → (add_constraint_outcome s k).answer ≡ refusal_answer (AddRefused number) → ToldOf s k number
  refused_by number order None found is refused = let no : Ok Done ≡ refusal_answer (AddRefused number) = sym (ap (λ (x : Outcome). x.answer) is) ∙ refused in cc
  refused_by number order (Some r) found is refused =
      let among : In r s.database.rows × (violates s.database.rows k r ≡ true) = found_in (violates s.database.rows k) s.database.rows r found in
      record {
        row = r;
        others = equal_row_by s.database.rows k.table k.rule r;
        told = ap (told_by s k) is ∙ told_of_row r (rows_in s.database.rows r order among.0);
        is_named = ap number_in (sym (ap (λ (x : Outcome). x.answer) is) ∙ refused);
        violates_it = among.1;
      }

  accepted_by : (answer : Answer) (o : Option StoredRow) → add_constraint_outcome s k ≡ by_row s k o → (add_constraint_outcome s k).answer ≡ Ok answer → addition_told s k ≡ []
  accepted_by answer None is accepted = ap (told_by s k) is
  accepted_by answer (Some r) is accepted =
      let no : refusal_answer (AddRefused r.number) ≡ Ok answer = sym (ap (λ (x : Outcome). x.answer) is) ∙ accepted in cc

pub refused_additions_are_told : RefusedAdditionsAreTold
refused_additions_are_told s k number order refused =
    refused_by s k number order (find (violates s.database.rows k) s.database.rows) refl (outcome_by_row s k) refused

pub accepted_additions_are_not_told : AcceptedAdditionsAreNotTold
accepted_additions_are_not_told s k answer accepted =
    accepted_by s k answer (find (violates s.database.rows k) s.database.rows) (outcome_by_row s k) accepted
