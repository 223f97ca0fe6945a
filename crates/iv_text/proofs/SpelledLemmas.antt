-- One text after another, in a format.
use Rattle.std.proofs.Common.{◌≡◌, ℕ, List, [], ◌++◌, Result, Ok, refl, subst, sym}
use Rattle.std.proofs.lemmas.Grind.{flat_map-append}
use Rattle.iv_text.specs.Json.{escaped}
use Rattle.iv_text.specs.Sinks.{SinkState}
use Rattle.iv_text.specs.Writing.{Writes}
use Rattle.iv_text.specs.declared.device.DeviceFault.{DeviceFault}
use Rattle.iv_text.specs.declared.format.Format.{Format}
use Rattle.iv_text.specs.declared.format.Format.TheVariants.{Words, Json}
use Rattle.iv_text.proofs.WriteLemmas.{writes_then}
use Rattle.iv_text.specs.Spelled.{spelled}

pub spelled_append : (f : Format) (bs cs : List ℕ) → spelled f (bs ++ cs) ≡ spelled f bs ++ spelled f cs
unfolding spelled
spelled_append Words bs cs = refl
spelled_append Json bs cs = flat_map-append escaped bs cs

pub spelled_none : (f : Format) → spelled f [] ≡ []
unfolding spelled
spelled_none Words = refl
spelled_none Json = refl

pub spelled_then : (f : Format) (a b c : SinkState) (r : Result (Unit {0}) DeviceFault) (bs cs : List ℕ)
    → Writes a b (Ok tt) (spelled f bs) → Writes b c r (spelled f cs) → Writes a c r (spelled f (bs ++ cs))
spelled_then f a b c r bs cs p q =
    subst (λ (l : List ℕ). Writes a c r l) (sym (spelled_append f bs cs)) (writes_then a b c r (spelled f bs) (spelled f cs) p q)

abbrev pub Written : Type 0
Written = Result (Unit {0}) DeviceFault

-- two or three writes, and what they write together
pub two : (f : Format) (p q r : SinkState) (x : Written) (a b all : List ℕ) → all ≡ a ++ b
    → Writes p q (Ok tt) (spelled f a) → Writes q r x (spelled f b) → Writes p r x (spelled f all)
two f p q r x a b all e g h = subst (λ (l : List ℕ). Writes p r x (spelled f l)) (sym e) (spelled_then f p q r x a b g h)

pub three : (f : Format) (p q r s : SinkState) (x : Written) (a b c all : List ℕ) → all ≡ a ++ (b ++ c)
    → Writes p q (Ok tt) (spelled f a) → Writes q r (Ok tt) (spelled f b) → Writes r s x (spelled f c) → Writes p s x (spelled f all)
three f p q r s x a b c all e g h i = two f p q s x a (b ++ c) all e g (spelled_then f q r s x b c h i)
