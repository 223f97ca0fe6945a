use Rattle.std.specs.Prelude.{Result, Ok, Err, IfOk, refl}
use Rattle.iv_template.proofs.Doubled.{replaced}
use Rattle.iv_write.proofs.quoting.with_quotes_doubled.Goals as goal

if_ok : {T E : Type 0} (r : Result T E) (P Q : T → Type 0) → ((t : T) → P t → Q t) → IfOk r P → IfOk r Q
if_ok (Ok t) P Q f h = f t h
if_ok (Err e) P Q f h = h

pub returns : goal.returns
returns c = if_ok c.replace.result _ _ (λ t h. replaced h.0 _ _ _ refl h.1) c.replace.ensures.ok
