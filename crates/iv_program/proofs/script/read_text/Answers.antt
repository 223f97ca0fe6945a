use Rattle.std.proofs.Common.{option_map}
use Rattle.iv_program.proofs.Unwriting.{read_seen}
use Rattle.iv_program.proofs.script.read_text.Goals as goal

pub returns-clause-read : goal.returns-clause-read
returns-clause-read c =
    read_seen c.args.text.now c.in_ok-parsed.parsed.statements c.in_ok-parsed.parsed.fault c.fault_in-fault.result
    c.in_ok-parsed.ensures.script c.in_ok-parsed.ensures.word (rw (← c.as_slice.ensures) c.fault_in-fault.ensures)

pub returns-clause-writable : goal.returns-clause-writable
returns-clause-writable c =
    c.what_is_read_can_be_written.ensures.statements c.args.text.now c.in_ok-parsed.parsed.statements
    (option_map (λ f. f.at) c.in_ok-parsed.parsed.fault) c.utf8.text c.in_ok-parsed.ensures.script
