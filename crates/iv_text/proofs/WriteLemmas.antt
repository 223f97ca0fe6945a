-- One write after another.
use Rattle.std.proofs.Common.{◌≡◌, ℕ, ◌-◌, List, [], ◌∷◌, ◌++◌, Result, Ok, Err, ◌∙◌, sym, ap, subst, refl, take, drop, length, append_assoc, append-nil, take-append-drop, arith}
use Rattle.std.proofs.lemmas.List.{take_rest}
use Rattle.std.specs.Io.KnownBytes.{Appends}
use Rattle.std.proofs.KnownBytes.{Appends-trans, Appends-nil}
use Rattle.iv_text.specs.Sinks.{SinkState, FailsOnce, FailsNever}
use Rattle.iv_text.specs.Counts.{counted}
use Rattle.iv_text.specs.declared.device.DeviceFault.{DeviceFault}
use Rattle.iv_text.specs.Writing.{Writes}

pub never_then : (a b c : SinkState) → FailsNever a b → FailsNever b c → FailsNever a c
never_then a b c p q = (q.0 ∙ p.0, q.1 ∙ p.1)

pub fails_then : (a b c : SinkState) → FailsNever a b → FailsOnce b c → FailsOnce a c
fails_then a b c p q = (q.0 ∙ ap (λ k. counted k 1) p.0, q.1 ∙ p.1)

pub writes_then : (a b c : SinkState) (r : Result (Unit {0}) DeviceFault) (bs cs : List ℕ)
    → Writes a b (Ok tt) bs → Writes b c r cs → Writes a c r (bs ++ cs)
writes_then a b c (Ok u) bs cs p q =
    (Appends-trans a.contents b.contents c.contents bs cs p.0 q.0, never_then a b c p.1 q.1)
writes_then a b c (Err e) bs cs p q = fails_then a b c p.1 q

-- some of the bytes were written, and these are left
pub record Wrote (bytes rest : List ℕ) (old new : SinkState) : Type 0 where
  pub written : List ℕ
  pub whole : written ++ rest ≡ bytes
  pub appended : Appends old.contents new.contents written
  pub works : FailsNever old new

pub wrote_start : (bytes : List ℕ) (a : SinkState) → Wrote bytes bytes a a
wrote_start bytes a = record {
  written = [];
  whole = refl;
  appended = Appends-nil a.contents;
  works = (refl, refl);
}

pub wrote_more : (bytes rest : List ℕ) (a b c : SinkState) (k : ℕ) → Wrote bytes rest a b
    → Appends b.contents c.contents (take k rest) → FailsNever b c
    → Wrote bytes (take (length rest - k) (drop k rest)) a c
wrote_more bytes rest a b c k w p e = record {
  written = w.written ++ take k rest;
  whole = append_assoc w.written (take k rest) _
      ∙ ap (λ l. w.written ++ (take k rest ++ l)) (take_rest rest k)
      ∙ ap (λ l. w.written ++ l) (take-append-drop k rest) ∙ w.whole;
  appended = Appends-trans a.contents b.contents c.contents w.written (take k rest) w.appended p;
  works = never_then a b c w.works e;
}

pub wrote_end : (bytes rest : List ℕ) (a b : SinkState) → Wrote bytes rest a b → length rest ≡ 0
    → Writes a b (Ok tt) bytes
wrote_end bytes [] a b w h =
    (subst (Appends a.contents b.contents) (sym (append-nil w.written) ∙ w.whole) w.appended, w.works)
wrote_end bytes (x ∷ rest) a b w h = absurd (omega (arith, h))

pub wrote_step : (bytes xs rest all : List ℕ) (a b c : SinkState) → Wrote bytes all a b
    → all ≡ xs ++ rest → Writes b c (Ok tt) xs → Wrote bytes rest a c
wrote_step bytes xs rest all a b c w e p = record {
  written = w.written ++ xs;
  whole = append_assoc w.written xs rest ∙ ap (λ l. w.written ++ l) (sym e) ∙ w.whole;
  appended = Appends-trans a.contents b.contents c.contents w.written xs w.appended p.0;
  works = never_then a b c w.works p.1;
}

pub wrote_all : (bytes rest : List ℕ) (a b : SinkState) → Wrote bytes rest a b → rest ≡ []
    → Writes a b (Ok tt) bytes
wrote_all bytes rest a b w h = wrote_end bytes rest a b w (ap length h)

-- and what is left is written at last
pub wrote_last : (bytes rest last : List ℕ) (a b c : SinkState) (r : Result (Unit {0}) DeviceFault) → Wrote bytes rest a b → rest ≡ last
    → Writes b c r last → Writes a c r bytes
wrote_last bytes rest last a b c (Ok u) w e p =
    let done : Wrote bytes [] a c = wrote_step bytes last [] rest a b c w (e ∙ sym (append-nil last)) p in
    wrote_end bytes [] a c done refl
wrote_last bytes rest last a b c (Err e) w q p = fails_then a b c w.works p
