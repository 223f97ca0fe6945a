-- The number that an option's text writes.
use Rattle.std.proofs.Common.{◌≡◌, ◌^◌, ◌<◌, ◌≤◌, ℕ, List, Option, Some, None, Result, Ok, Err, arith, refl, unwrap_or, ap}
use Rattle.std.specs.Str.Parse.{ParsesUnsigned, digits_value, without_leading_plus}
use Rattle.clap.specs.Words.{ReadsOne, Text}
use Rattle.iv_program.specs.CommandLine.{number_or}
use Rattle.iv_program.specs.Ranges.{WritesWithin}

-- the number is the one that the text writes, or the usual one, and lies in the range
abbrev pub IsRead : ℕ → ℕ → ℕ → Option Text → ℕ → Type 0
IsRead low high usual o n = (n ≡ number_or usual o) × (low ≤ n) × (n ≤ high)

pub number_read : (E : Type 0) (G : List ℕ → Result ℕ E → Type 0) (k low high usual : ℕ) → ((t : Text) (r : Result ℕ E) → G t r → ParsesUnsigned {E = E} k 10 t r)
    → high < 2 ^ k → low ≤ usual → usual ≤ high
    → (o : Option Text) (v : Option ℕ) → WritesWithin low high o → (o ≡ None → v ≡ None) → ((t : Text) → o ≡ Some t → ReadsOne G t v)
    → IsRead low high usual o (unwrap_or v usual)
number_read E G k low high usual p fits least most None v written none value =
    let is : unwrap_or v usual ≡ usual = ap (λ (x : Option ℕ). unwrap_or x usual) (none refl) in
    (is, rw is least, rw is most)
number_read E G k low high usual p fits least most (Some t) v written none value = by v (value t refl) where
  by : (v : Option ℕ) → ReadsOne G t v → IsRead low high usual (Some t) (unwrap_or v usual)
  by None h = absurd (p t (Err h.0) h.1 (written.0, omega arith))
  by (Some n) h =
      let is : n ≡ digits_value 10 (without_leading_plus t) = (p t (Ok n) h).1 in
      (is, rw is written.1, rw is written.2)
