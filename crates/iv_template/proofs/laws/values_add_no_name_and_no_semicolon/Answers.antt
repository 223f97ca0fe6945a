use Rattle.iv_template.proofs.LawProofs.{names_kept, semicolons_kept}
use Rattle.iv_template.proofs.laws.values_add_no_name_and_no_semicolon.Goals as goal

pub returns-clause-names : goal.returns-clause-names
returns-clause-names c = names_kept

pub returns-clause-semicolons : goal.returns-clause-semicolons
returns-clause-semicolons c = semicolons_kept
