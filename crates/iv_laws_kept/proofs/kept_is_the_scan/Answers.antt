use Rattle.iv_laws_kept.proofs.KeptIsScan.{kept_is_the_scan}
use Rattle.iv_laws_kept.proofs.kept_is_the_scan.Goals as goal

pub returns : goal.returns
returns c = kept_is_the_scan
