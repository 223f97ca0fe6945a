use Rattle.iv_script.specs.declared.read.TheConstants.{LONGEST}
use Rattle.iv_program.proofs.Stops.{stopped_by, as_before}
use Rattle.iv_program.proofs.running.run_script.Goals as goal

pub returns-clause-stopped : goal.returns-clause-stopped
returns-clause-stopped g c =
    let run = c.run-done.ensures in
    stopped_by LONGEST c.run-done.result c.status.result (g.R.Source.remaining c.args.reader.now)
    (g.R.Source.failed c.args.reader.now) (g.R.Source.failed c.run-done.new.reader)
    (g.W.Sink.state c.args.writer.now) (g.W.Sink.state c.run-done.new.writer)
    (g.E.Sink.state c.args.faults.now) (g.E.Sink.state c.status.new.faults)
    (record {
      read = run.read;
      too_long = run.too_long;
      not_utf8 = run.not_utf8;
      write_fits = run.write_fits;
      write = run.write;
      silent = as_before c.run-done.result g.W.Sink.state c.args.writer.now c.run-done.new.writer run.silent;
      no_read_failed = run.no_read_failed;
    })
    c.status.ensures.status c.status.ensures.line
