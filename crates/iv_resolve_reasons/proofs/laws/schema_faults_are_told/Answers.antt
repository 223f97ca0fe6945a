use Rattle.iv_resolve_reasons.proofs.SchemaTold.{schema_faults_told}
use Rattle.iv_resolve_reasons.proofs.laws.schema_faults_are_told.Goals as goal

pub returns : goal.returns
returns c = schema_faults_told
