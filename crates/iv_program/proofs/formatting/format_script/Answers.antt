use Rattle.iv_script.specs.declared.read.TheConstants.{LONGEST}
use Rattle.iv_program.proofs.Unwriting.{fault_of_notes, formats, stopped_reading, stopped_writing}
use Rattle.iv_program.proofs.formatting.format_script.Goals as goal

pub returns-in-Ok-clause-formatted : goal.returns-in-Ok-clause-formatted
returns-in-Ok-clause-formatted g c =
    formats c.format_read-done.result (g.R.Source.remaining c.args.reader.now) c.in-Ok.read.parsed.statements c.in-Ok.read.fault
    (g.W.Sink.state c.args.writer.now) (g.W.Sink.state c.format_read-done.new.writer)
    c.in-Ok.ensures.read c.format_read-done.ensures.notes c.format_read-done.ensures.written

pub returns-in-Ok-clause-notes : goal.returns-in-Ok-clause-notes
returns-in-Ok-clause-notes g c = fault_of_notes c.format_read-done.result c.in-Ok.read.fault c.format_read-done.ensures.notes

pub returns-in-Ok-clause-stopped : goal.returns-in-Ok-clause-stopped
returns-in-Ok-clause-stopped g c =
    stopped_writing LONGEST c.format_read-done.result (g.R.Source.remaining c.args.reader.now) (g.R.Source.failed c.args.reader.now) (g.R.Source.failed c.read_script.new.reader)
    (g.W.Sink.state c.args.writer.now) (g.W.Sink.state c.format_read-done.new.writer)
    c.in-Ok.ensures.fits c.in-Ok.ensures.works c.format_read-done.ensures.unwritten

pub returns-in-Err-clause-stopped : goal.returns-in-Err-clause-stopped
returns-in-Err-clause-stopped g c =
    stopped_reading LONGEST c.in-Err.fault (g.R.Source.remaining c.args.reader.now) (g.R.Source.failed c.args.reader.now) (g.R.Source.failed c.read_script.new.reader)
    (g.W.Sink.state c.args.writer.now) c.in-Err.ensures.unread
