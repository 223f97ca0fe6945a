use Rattle.std.proofs.Common.{ap, Err, rules}
use Rattle.iv_script.specs.declared.read.TheConstants.{LONGEST}
use Rattle.iv_program.proofs.Unwriting.{fits_of_known, read_of_known, unread, unread_bytes}
use Rattle.iv_program.proofs.script.read_script.Goals as goal

pub returns-in-Ok-clause-read : goal.returns-in-Ok-clause-read
returns-in-Ok-clause-read g c =
    read_of_known c.read_utf8.result (g.R.Source.remaining c.args.reader.now) c.in-Ok.bytes.items c.in-Ok.ensures.all
    (rw (← c.as_slice.ensures.value) c.read_utf8.ensures.read)

pub returns-in-Ok-clause-fits : goal.returns-in-Ok-clause-fits
returns-in-Ok-clause-fits g c =
    fits_of_known c.read_utf8.result LONGEST (g.R.Source.remaining c.args.reader.now) c.in-Ok.bytes.items c.in-Ok.ensures.all c.in-Ok.ensures.short
    (rw (← c.as_slice.ensures.value) c.read_utf8.ensures.utf8)

pub returns-in-Ok-clause-unread : goal.returns-in-Ok-clause-unread
returns-in-Ok-clause-unread g c =
    unread_bytes c.read_utf8.result LONGEST (g.R.Source.remaining c.args.reader.now) c.in-Ok.bytes.items
    (g.R.Source.failed c.args.reader.now) (g.R.Source.failed c.read_bytes.new.reader) c.in-Ok.ensures.all c.in-Ok.ensures.short
    (c.in-Ok.ensures.others (search rules)) (rw (← c.as_slice.ensures.value) c.read_utf8.ensures.refused)

pub returns-in-Err-clause-unread : goal.returns-in-Err-clause-unread
returns-in-Err-clause-unread g c =
    let r = c.in-Err.ensures in
    unread LONGEST c.in-Err.fault (g.R.Source.remaining c.args.reader.now) (g.R.Source.failed c.args.reader.now) (g.R.Source.failed c.read_bytes.new.reader)
    (record {
      too_long = λ e. r.too_long (ap Err e);
      read = λ e. r.fault (ap Err e);
      others = λ other. r.others (λ e. other (search rules));
      not_utf8 = r.kinds.0;
      write = r.kinds.1;
    })
