use Rattle.std.proofs.Common.{List, IfOk, subst}
use Rattle.iv_syntax.specs.declared.statement.Statement.{Statement}
use Rattle.iv_program.specs.Dumps.{DumpsUnless}
use Rattle.iv_script.specs.declared.read.TheConstants.{LONGEST}
use Rattle.iv_program.proofs.Unwriting.{dumps, stopped_reading, stopped_writing}
use Rattle.iv_program.proofs.dumping.dump_script.Goals as goal

pub returns-in-Ok-clause-dumped : goal.returns-in-Ok-clause-dumped
returns-in-Ok-clause-dumped g c =
    dumps c.args.limits c.dump_unless-done.result (g.R.Source.remaining c.args.reader.now) c.in-Ok.read.parsed.statements c.in-Ok.read.fault
    (g.W.Sink.state c.args.writer.now) (g.W.Sink.state c.dump_unless-done.new.writer)
    c.in-Ok.ensures.read
    (subst (λ (sts : List Statement). IfOk c.dump_unless-done.result (λ notes. DumpsUnless c.in-Ok.read.fault c.args.limits sts notes (g.W.Sink.state c.args.writer.now) (g.W.Sink.state c.dump_unless-done.new.writer)))
    c.as_slice-statements.ensures c.dump_unless-done.ensures.dumped)

pub returns-in-Ok-clause-stopped : goal.returns-in-Ok-clause-stopped
returns-in-Ok-clause-stopped g c =
    stopped_writing LONGEST c.dump_unless-done.result (g.R.Source.remaining c.args.reader.now) (g.R.Source.failed c.args.reader.now) (g.R.Source.failed c.read_script.new.reader)
    (g.W.Sink.state c.args.writer.now) (g.W.Sink.state c.dump_unless-done.new.writer)
    c.in-Ok.ensures.fits c.in-Ok.ensures.works c.dump_unless-done.ensures.unwritten

pub returns-in-Err-clause-stopped : goal.returns-in-Err-clause-stopped
returns-in-Err-clause-stopped g c =
    stopped_reading LONGEST c.in-Err.fault (g.R.Source.remaining c.args.reader.now) (g.R.Source.failed c.args.reader.now) (g.R.Source.failed c.read_script.new.reader)
    (g.W.Sink.state c.args.writer.now) c.in-Err.ensures.unread
