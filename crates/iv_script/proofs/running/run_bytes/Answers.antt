use Rattle.std.proofs.Common.{◌≡◌, ℕ, List, IfOk, subst}
use Rattle.iv_script.specs.Transcript.{fault_place, RanWithMemory}
use Rattle.iv_script.proofs.running.run_bytes.Goals as goal

pub returns-in-Ok-clause-with_memory : goal.returns-in-Ok-clause-with_memory
returns-in-Ok-clause-with_memory g c =
    subst (λ (bytes : List ℕ). IfOk c.run_text.result (λ s. s.memory_refused ≡ 0 → s.untold ≡ 0
    → RanWithMemory bytes c.args.limits c.args.style (fault_place s) (g.W.Sink.state c.args.writer.now) (g.W.Sink.state c.run_text.new.writer)))
    c.in-Ok.ensures.cases.0 c.run_text.ensures.with_memory
