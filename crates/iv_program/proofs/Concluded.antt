-- What is known by the status of a script that was dumped or laid out.
use Rattle.std.proofs.Common.{◌≡◌, ◌≢◌, ◌<◌, ◌==◌, ◌&&◌, not, if◌then◌else◌, Bool, true, false, ℕ, List, Option, Some, None, Result, Ok, Err, IfErr, IfOk, IfSome, OnErr, OnOk, MatchResult, is_none, refl, sym, ap, ◌∙◌, subst, arith}
use Rattle.iv_machine.specs.Bounds.{Bounds}
use Rattle.iv_text.specs.Sinks.{SinkState}
use Rattle.iv_program.specs.declared.notes.Notes.{Notes}
use Rattle.iv_program.specs.declared.notes.Stop.{Stop}
use Rattle.iv_program.specs.Notes.{TellsNotes, TellsStop, are_none, fault_alone, notes_status}
use Rattle.iv_program.specs.Stopping.{StoppedBy}
use Rattle.iv_program.specs.Formats.{Formats, Formatted}
use Rattle.iv_program.specs.Dumps.{Dumps, Dumped}

-- the status of an answer
abbrev pub HasStatus : Result Notes Stop → ℕ → Type 0
HasStatus done status = MatchResult done (λ notes. status ≡ notes_status notes) (λ _. status ≡ 2)

below : (b : Bool) → ◌≢◌ {A = ℕ} (if b then 0 else 1) 2
below true e = absurd (omega (arith, e))
below false e = absurd (omega (arith, e))

-- what holds of an answer holds where the status tells it
pub by_notes : (done : Result Notes Stop) (status : ℕ) (P : Type 0) → OnOk done P → HasStatus done status → status < 2 → P
by_notes (Ok notes) status P p s lt = p
by_notes (Err stop) status P p s lt = absurd (omega (arith, s, lt))

pub by_stop : (done : Result Notes Stop) (status : ℕ) (P : Type 0) → OnErr done P → HasStatus done status → status ≡ 2 → P
by_stop (Ok notes) status P p s two = absurd (below (is_none notes.fault && (notes.refused == 0)) (sym s ∙ two))
by_stop (Err stop) status P p s two = p

pub formatted : (done : Result Notes Stop) (status : ℕ) (found : Option (List ℕ)) (before after told_before told_after : SinkState)
    → IfOk done (λ notes. IfSome found (λ bytes. Formats bytes notes before after)) → HasStatus done status
    → IfOk done (λ notes. TellsNotes notes told_before told_after) → status < 2
    → IfSome found (λ bytes. Formatted bytes status before after told_before told_after)
formatted (Err stop) status found before after told_before told_after f s t lt = absurd (omega (arith, s, lt))
formatted (Ok notes) status None before after told_before told_after f s t lt = tt
formatted (Ok notes) status (Some bytes) before after told_before told_after f s t lt = record { notes = notes; formats = f; status_is = s; told = t }

pub dumped : (limits : Bounds) (done : Result Notes Stop) (status : ℕ) (found : Option (List ℕ)) (before after told_before told_after : SinkState)
    → IfOk done (λ notes. IfSome found (λ bytes. Dumps bytes limits notes before after)) → HasStatus done status
    → IfOk done (λ notes. TellsNotes notes told_before told_after) → status < 2
    → IfSome found (λ bytes. Dumped bytes limits status before after told_before told_after)
dumped limits (Err stop) status found before after told_before told_after f s t lt = absurd (omega (arith, s, lt))
dumped limits (Ok notes) status None before after told_before told_after f s t lt = tt
dumped limits (Ok notes) status (Some bytes) before after told_before told_after f s t lt = record { notes = notes; dumps = f; status_is = s; told = t }

pub stopped : (longest : ℕ) (done : Result Notes Stop) (status : ℕ) (found : Option (List ℕ)) (failed failed_then : ℕ) (before after old new : SinkState)
    → IfErr done (λ stop. StoppedBy longest stop found failed failed_then before after) → HasStatus done status
    → IfErr done (λ stop. TellsStop stop old new) → status ≡ 2
    → (stop : Stop) × StoppedBy longest stop found failed failed_then before after × TellsStop stop old new
stopped longest (Ok notes) status found failed failed_then before after old new k s t two =
    absurd (below (is_none notes.fault && (notes.refused == 0)) (sym s ∙ two))
stopped longest (Err stop) status found failed failed_then before after old new k s t two = (stop, k, t)

-- ---- status 0 of a layout: nothing is told

no_fault : (a : Bool) → ◌≡◌ {A = ℕ} (if a && true then 0 else 1) 0 → (a && (true && not false)) ≡ true
no_fault true s = refl
no_fault false s = absurd (omega (arith, s))

alone : (notes : Notes) → notes ≡ fault_alone notes.fault → notes_status notes ≡ 0 → are_none notes ≡ true
alone notes is zero =
    let none : are_none (fault_alone notes.fault) ≡ true = no_fault (is_none notes.fault) (subst (λ (n : Notes). notes_status n ≡ 0) is zero) in
    ap are_none is ∙ none

pub none_told : (done : Result Notes Stop) (status : ℕ) (P : Type 0) → HasStatus done status → status ≡ 0
    → IfOk done (λ notes. notes ≡ fault_alone notes.fault) → IfOk done (λ notes. are_none notes ≡ true → P) → P
none_told (Err stop) status P s z o q = absurd (omega (arith, s, z))
none_told (Ok notes) status P s z o q = q (alone notes o (sym s ∙ z))
