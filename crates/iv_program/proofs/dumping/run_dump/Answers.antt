use Rattle.iv_script.specs.declared.read.TheConstants.{LONGEST}
use Rattle.iv_program.proofs.Concluded.{by_notes, by_stop, dumped, stopped}
use Rattle.iv_program.proofs.dumping.run_dump.Goals as goal

pub returns-clause-dumped : goal.returns-clause-dumped
returns-clause-dumped g c =
    dumped c.args.limits c.dump_script-done.result c.conclude.result (g.R.Source.remaining c.args.reader.now)
    (g.W.Sink.state c.args.writer.now) (g.W.Sink.state c.dump_script-done.new.writer) (g.E.Sink.state c.args.faults.now) (g.E.Sink.state c.conclude.new.faults)
    c.dump_script-done.ensures.dumped c.conclude.ensures.status c.conclude.ensures.notes

pub returns-clause-fits : goal.returns-clause-fits
returns-clause-fits g c = by_notes c.dump_script-done.result c.conclude.result _ c.dump_script-done.ensures.fits c.conclude.ensures.status

pub returns-clause-silent : goal.returns-clause-silent
returns-clause-silent g c = by_stop c.dump_script-done.result c.conclude.result _ c.dump_script-done.ensures.silent c.conclude.ensures.status

pub returns-clause-works : goal.returns-clause-works
returns-clause-works g c = by_notes c.dump_script-done.result c.conclude.result _ c.dump_script-done.ensures.works c.conclude.ensures.status

pub returns-clause-stopped : goal.returns-clause-stopped
returns-clause-stopped g c =
    stopped LONGEST c.dump_script-done.result c.conclude.result (g.R.Source.remaining c.args.reader.now)
    (g.R.Source.failed c.args.reader.now) (g.R.Source.failed c.dump_script-done.new.reader)
    (g.W.Sink.state c.args.writer.now) (g.W.Sink.state c.dump_script-done.new.writer)
    (g.E.Sink.state c.args.faults.now) (g.E.Sink.state c.conclude.new.faults)
    c.dump_script-done.ensures.stopped c.conclude.ensures.status c.conclude.ensures.stop
