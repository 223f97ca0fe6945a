use Rattle.std.proofs.Common.{◌≡◌, ℕ, List, IfOk, subst}
use Rattle.iv_script.specs.declared.summary.Summary.{Summary}
use Rattle.iv_script.specs.Transcript.{fault_place, RanWithMemory}
use Rattle.iv_script.proofs.Scripts.{of_read}
use Rattle.iv_script.proofs.running.run.Goals as goal

pub returns-clause-with_memory : goal.returns-clause-with_memory
returns-clause-with_memory g c =
    let written : List ℕ → Summary → Type 0 = λ bytes s. RanWithMemory bytes c.args.limits c.args.style (fault_place s) (g.W.Sink.state c.args.writer.now) (g.W.Sink.state c.run_bytes.new.writer) in
    of_read c.run_bytes.result (g.R.Source.remaining c.args.reader.now) c.in_ok-bytes.bytes.items written c.in_ok-bytes.ensures.all
    (subst (λ (bytes : List ℕ). IfOk c.run_bytes.result (λ s. s.memory_refused ≡ 0 → s.untold ≡ 0 → written bytes s)) c.as_slice.ensures.value c.run_bytes.ensures.with_memory)
