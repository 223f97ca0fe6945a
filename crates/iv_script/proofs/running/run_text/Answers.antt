use Rattle.std.proofs.Common.{◌≡◌, ◌∙◌, ap, subst}
use Rattle.iv_machine.specs.Machine.{empty_state}
use Rattle.iv_script.specs.Running.{RanParsed}
use Rattle.iv_script.specs.Transcript.{RanScript}
use Rattle.iv_script.proofs.Scripts.{summary_of, ran_script, ran_with_memory, unasked_told}
use Rattle.iv_script.proofs.running.run_text.Goals as goal

pub returns-in-Ok-clause-with_memory : goal.returns-in-Ok-clause-with_memory
returns-in-Ok-clause-with_memory g c = λ none told.
    let before = g.W.Sink.state c.args.writer.now in
    let after = g.W.Sink.state c.run_buffered-done.new.writer in
    let fault = c.in_ok-parsed.parsed.fault in
    let place = fault in
    let tally = c.in-Ok.tally in
    let style = c.args.style in
    let from_empty : RanParsed g.S.Executor.sure_store style (empty_state c.args.limits) c.args.text.now c.as_slice.result.now place tally before after
    = subst (λ s. RanParsed g.S.Executor.sure_store style s c.args.text.now c.as_slice.result.now place tally before after) (c.explain.ensures.state ∙ c.in_ok-session.ensures.state) c.in-Ok.ensures in
    let of_script : RanParsed g.S.Executor.sure_store style (empty_state c.args.limits) c.args.text.now c.in_ok-parsed.parsed.statements place tally before after
    = subst (λ l. RanParsed g.S.Executor.sure_store style (empty_state c.args.limits) c.args.text.now l place tally before after) c.as_slice.ensures from_empty in
    ran_with_memory g.S.Executor.sure_store style c.args.text.now c.args.limits (summary_of tally fault) before after
    (ran_script g.S.Executor.sure_store c.args.text.now c.args.limits style c.in_ok-parsed.parsed.statements fault tally before after c.in_ok-parsed.ensures.script c.in_ok-parsed.ensures.word of_script) none told

pub returns-in-Ok-clause-told : goal.returns-in-Ok-clause-told
returns-in-Ok-clause-told g c = λ plain.
    let before = g.W.Sink.state c.args.writer.now in
    let after = g.W.Sink.state c.run_buffered-done.new.writer in
    let fault = c.in_ok-parsed.parsed.fault in
    let place = fault in
    let tally = c.in-Ok.tally in
    let style = c.args.style in
    let from_empty : RanParsed g.S.Executor.sure_store style (empty_state c.args.limits) c.args.text.now c.as_slice.result.now place tally before after
    = subst (λ s. RanParsed g.S.Executor.sure_store style s c.args.text.now c.as_slice.result.now place tally before after) (c.explain.ensures.state ∙ c.in_ok-session.ensures.state) c.in-Ok.ensures in
    let of_script : RanParsed g.S.Executor.sure_store style (empty_state c.args.limits) c.args.text.now c.in_ok-parsed.parsed.statements place tally before after
    = subst (λ l. RanParsed g.S.Executor.sure_store style (empty_state c.args.limits) c.args.text.now l place tally before after) c.as_slice.ensures from_empty in
    unasked_told g.S.Executor.sure_store c.args.text.now c.args.limits style (summary_of tally fault) before after plain
    (ran_script g.S.Executor.sure_store c.args.text.now c.args.limits style c.in_ok-parsed.parsed.statements fault tally before after c.in_ok-parsed.ensures.script c.in_ok-parsed.ensures.word of_script)
