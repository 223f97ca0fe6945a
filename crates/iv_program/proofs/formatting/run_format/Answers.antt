use Rattle.std.proofs.Common.{◌≡◌}
use Rattle.iv_script.specs.declared.read.TheConstants.{LONGEST}
use Rattle.iv_program.proofs.Concluded.{by_notes, by_stop, formatted, none_told, stopped}
use Rattle.iv_program.proofs.formatting.run_format.Goals as goal

pub returns-clause-formatted : goal.returns-clause-formatted
returns-clause-formatted g c =
    formatted c.format_script-done.result c.conclude.result (g.R.Source.remaining c.args.reader.now)
    (g.W.Sink.state c.args.writer.now) (g.W.Sink.state c.format_script-done.new.writer) (g.E.Sink.state c.args.faults.now) (g.E.Sink.state c.conclude.new.faults)
    c.format_script-done.ensures.formatted c.conclude.ensures.status c.conclude.ensures.notes

pub returns-clause-fits : goal.returns-clause-fits
returns-clause-fits g c = by_notes c.format_script-done.result c.conclude.result _ c.format_script-done.ensures.fits c.conclude.ensures.status

pub returns-clause-silent : goal.returns-clause-silent
returns-clause-silent g c = by_stop c.format_script-done.result c.conclude.result _ c.format_script-done.ensures.silent c.conclude.ensures.status

pub returns-clause-works : goal.returns-clause-works
returns-clause-works g c = by_notes c.format_script-done.result c.conclude.result _ c.format_script-done.ensures.works c.conclude.ensures.status

pub returns-clause-quiet : goal.returns-clause-quiet
returns-clause-quiet g c = λ zero.
    none_told c.format_script-done.result c.conclude.result (c.conclude.new.faults ≡ c.args.faults.now)
    c.conclude.ensures.status zero c.format_script-done.ensures.notes c.conclude.ensures.quiet

pub returns-clause-stopped : goal.returns-clause-stopped
returns-clause-stopped g c =
    stopped LONGEST c.format_script-done.result c.conclude.result (g.R.Source.remaining c.args.reader.now)
    (g.R.Source.failed c.args.reader.now) (g.R.Source.failed c.format_script-done.new.reader)
    (g.W.Sink.state c.args.writer.now) (g.W.Sink.state c.format_script-done.new.writer)
    (g.E.Sink.state c.args.faults.now) (g.E.Sink.state c.conclude.new.faults)
    c.format_script-done.ensures.stopped c.conclude.ensures.status c.conclude.ensures.stop
