-- What is known where the status is 2.
use Rattle.std.proofs.Common.{◌≡◌, ◌≢◌, ◌<◌, ◌≤◌, ◌==◌, ◌&&◌, if◌then◌else◌, Bool, true, false, ℕ, List, length, Option, Result, Ok, Err, IfErr, IfSome, IsErrOf, MatchResult, is_none, refl, sym, ap, ◌∙◌, arith, rules}
use Rattle.std.specs.Str.{IsUtf8}
use Rattle.iv_text.specs.Counts.{counted}
use Rattle.iv_text.specs.Sinks.{SinkState, FailsOnce}
use Rattle.iv_script.specs.Lengths.{Fits}
use Rattle.iv_script.specs.declared.summary.RunFault.{RunFault}
use Rattle.iv_script.specs.declared.summary.RunFault.TheVariants.{Read, TooLong, NotUtf8, Write, NoMemory}
use Rattle.iv_script.specs.declared.summary.Summary.{Summary}
use Rattle.iv_program.specs.Statuses.{status_of, Stopped, WritesLine}

-- what the contract of a run says of its answer, its script, its reader and its writer
pub record Answered (longest : ℕ) (done : Result Summary RunFault) (bytes : Option (List ℕ))
    (failed failed_then : ℕ) (before after : SinkState) : Type 0 where
  pub read : IsErrOf done Read → failed_then ≡ counted failed 1
  pub too_long : IsErrOf done TooLong → IfSome bytes (λ xs. longest < length xs)
  pub not_utf8 : IsErrOf done NotUtf8 → IfSome bytes (λ xs. (length xs ≤ longest) × ¬ (IsUtf8 xs))
  pub write_fits : IsErrOf done Write → IfSome bytes (λ xs. Fits longest xs)
  pub write : IsErrOf done Write → FailsOnce before after
  pub silent : IfErr done (λ e. e ≢ Write → after ≡ before)
  pub no_read_failed : ¬ (IsErrOf done Read) → failed_then ≡ failed

below : (b : Bool) → ◌≢◌ {A = ℕ} (if b then 0 else 1) 2
below true e = absurd (omega (arith, e))
below false e = absurd (omega (arith, e))

below_two : (s : Summary) → status_of s ≢ 2
below_two s e = below ((s.refused == 0) && is_none s.fault) e

-- a writer that is as before has the state that it had
pub as_before : {W : Type 0} (done : Result Summary RunFault) (state : W → SinkState) (old new : W)
    → IfErr done (λ e. e ≢ Write → new ≡ old) → IfErr done (λ e. e ≢ Write → state new ≡ state old)
as_before (Ok s) state old new h = tt
as_before (Err e) state old new h = λ other. ap state (h other)

pub stopped_by : (longest : ℕ) (done : Result Summary RunFault) (status : ℕ) (bytes : Option (List ℕ)) (failed failed_then : ℕ) (before after old new : SinkState)
    → Answered longest done bytes failed failed_then before after
    → MatchResult done (λ s. status ≡ status_of s) (λ _. status ≡ 2)
    → IfErr done (λ fault. WritesLine fault old new) → status ≡ 2
    → (fault : RunFault) × Stopped longest fault bytes failed failed_then before after × WritesLine fault old new
stopped_by longest (Ok s) status bytes failed failed_then before after old new a m l two = absurd (below_two s (sym m ∙ two))
stopped_by longest (Err Read) status bytes failed failed_then before after old new a m l two =
    (Read, (a.read refl, a.silent (search rules)), l)
stopped_by longest (Err TooLong) status bytes failed failed_then before after old new a m l two =
    (TooLong, (a.too_long refl, a.no_read_failed (search rules), a.silent (search rules)), l)
stopped_by longest (Err NotUtf8) status bytes failed failed_then before after old new a m l two =
    (NotUtf8, (a.not_utf8 refl, a.no_read_failed (search rules), a.silent (search rules)), l)
stopped_by longest (Err Write) status bytes failed failed_then before after old new a m l two =
    (Write, (a.write_fits refl, a.no_read_failed (search rules), a.write refl), l)
stopped_by longest (Err NoMemory) status bytes failed failed_then before after old new a m l two =
    (NoMemory, (a.no_read_failed (search rules), a.silent (search rules)), l)
