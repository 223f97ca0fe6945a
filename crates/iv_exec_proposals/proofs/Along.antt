-- Steps along the rows of a table, one scan after another.
use Rattle.std.proofs.Common.{◌≡◌, ◌∙◌, ℕ, Some, None, option_map, Result, Ok, Err, MatchBool, List, ap, sym}
use Rattle.iv_value.specs.declared.value.Value.{Value}
use Rattle.iv_expr.specs.declared.row.StoredRow.{StoredRow}
use Rattle.iv_expr.specs.Evaluation.{and_then}
use Rattle.iv_expr.specs.Scopes.{Rises, row_above, numbered}
use Rattle.iv_expr.proofs.Scan.{rows_above, scan_next, scan_none}
use Rattle.iv_catalogue.specs.Refusals.{is_memory_cause}
use Rattle.iv_catalogue.specs.declared.cause.Cause.{Cause}
use Rattle.iv_machine.specs.Context.{in_turn}
use Rattle.iv_exec_context.proofs.Answers.{unless_memory}

-- what is done at each row
abbrev pub Step : Type 0 → Type 0
Step B = ℕ → List Value → B → Result B Cause

abbrev pub along : {B : Type 0} → Step B → List StoredRow → B → Result B Cause
along f rows b = in_turn (λ r. f r.number r.values) rows b

-- a row that was scanned comes first
pub scanned : {B : Type 0} (f : Step B) (rs : List StoredRow) (n : ℕ) (p : ℕ × List Value) (b : B) → Rises 0 rs → Some p ≡ option_map numbered (row_above n rs)
    → along f (rows_above n rs) b ≡ and_then (f p.0 p.1 b) (along f (rows_above p.0 rs))
scanned f rs n p b h s =
    let r = scan_next n rs p h s in
    ap (λ (rows : List StoredRow). along f rows b) r.1
    ∙ ap (λ (m : ℕ). and_then (f m r.0.values b) (along f (rows_above p.0 rs))) r.2
    ∙ ap (λ (v : List Value). and_then (f p.0 v b) (along f (rows_above p.0 rs))) r.3

-- the step at it was done
pub scanned_on : {B : Type 0} (f : Step B) (rs : List StoredRow) (n : ℕ) (p : ℕ × List Value) (b more : B) (said : Result B Cause)
    → Rises 0 rs → Some p ≡ option_map numbered (row_above n rs)
    → f p.0 p.1 b ≡ Ok more → along f (rows_above n rs) b ≡ said → along f (rows_above p.0 rs) more ≡ said
scanned_on {B = B} f rs n p b more said h s e all =
    sym (scanned f rs n p b h s ∙ ap (λ (x : Result B Cause). and_then x (along f (rows_above p.0 rs))) e) ∙ all

-- the step at it was refused
pub scanned_refused : {B : Type 0} (f : Step B) (rs : List StoredRow) (n : ℕ) (p : ℕ × List Value) (b : B) (cause : Cause) (said : Result B Cause)
    → Rises 0 rs → Some p ≡ option_map numbered (row_above n rs)
    → along f (rows_above n rs) b ≡ said
    → MatchBool (is_memory_cause cause) (Unit {0}) (f p.0 p.1 b ≡ Err cause)
    → MatchBool (is_memory_cause cause) (Unit {0}) (said ≡ Err cause)
scanned_refused {B = B} f rs n p b cause said h s all refused =
    unless_memory (is_memory_cause cause) (f p.0 p.1 b ≡ Err cause) (said ≡ Err cause)
    (λ e. sym all ∙ scanned f rs n p b h s ∙ ap (λ (x : Result B Cause). and_then x (along f (rows_above p.0 rs))) e) refused

-- no row is left
pub scanned_all : {B : Type 0} (f : Step B) (rs : List StoredRow) (n : ℕ) (b : B) (said : Result B Cause) → None ≡ option_map numbered (row_above n rs)
    → along f (rows_above n rs) b ≡ said → said ≡ Ok b
scanned_all f rs n b said s all = sym all ∙ ap (λ (rows : List StoredRow). along f rows b) (scan_none n rs s)
