-- What is told of a script.
use Rattle.std.proofs.Common.{◌≡◌, ℕ, zero, suc, Bool, false, Result, MatchBool, refl, sym, subst, ◌∙◌}
use Rattle.iv_text.specs.Sinks.{SinkState}
use Rattle.iv_text.specs.Writing.{Writes}
use Rattle.iv_text.specs.declared.device.DeviceFault.{DeviceFault}
use Rattle.iv_program.specs.declared.notes.Notes.{Notes}
use Rattle.iv_program.specs.Notes.{TellsNotes, are_none, notes_text, refused_note, some_refused_note}

pub some_refused : (n : ℕ) → (n ≡ 0 → ⊥) → refused_note n ≡ some_refused_note n
some_refused zero h = absurd (h refl)
some_refused (suc n) h = refl

pub tells_some : (notes : Notes) (before after : SinkState) (none : Bool) → none ≡ are_none notes → none ≡ false
    → (written : Result (Unit {0}) DeviceFault) → Writes before after written (notes_text notes) → TellsNotes notes before after
tells_some notes before after none is some written writes =
    subst (λ (b : Bool). MatchBool b (after ≡ before) ((r : Result (Unit {0}) DeviceFault) × Writes before after r (notes_text notes)))
    (sym (sym is ∙ some)) (written, writes)
