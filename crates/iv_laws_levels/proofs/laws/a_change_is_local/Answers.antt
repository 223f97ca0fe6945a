use Rattle.iv_laws_levels.proofs.Elsewhere.{violations_elsewhere}
use Rattle.iv_laws_levels.proofs.Locality.{change_is_local}
use Rattle.iv_laws_levels.proofs.laws.a_change_is_local.Goals as goal

pub returns-clause-rows : goal.returns-clause-rows
returns-clause-rows c = change_is_local

pub returns-clause-elsewhere : goal.returns-clause-elsewhere
returns-clause-elsewhere c = violations_elsewhere
