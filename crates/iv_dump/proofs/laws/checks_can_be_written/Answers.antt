use Rattle.iv_dump.proofs.WrittenChecks.{check_written}
use Rattle.iv_dump.proofs.laws.checks_can_be_written.Goals as goal

pub returns : goal.returns
returns c = check_written
