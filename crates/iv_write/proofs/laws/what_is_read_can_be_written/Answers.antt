use Rattle.iv_template.specs.Templates.{words_of}
use Rattle.iv_write.proofs.ReadBack.{text_written}
use Rattle.iv_write.proofs.CanonicalStatements.{script_back}
use Rattle.iv_write.proofs.laws.what_is_read_can_be_written.Goals as goal

pub returns-clause-expressions : goal.returns-clause-expressions
returns-clause-expressions c text e u i l = record { words = (words_of text, i, text_written text u); shallow = l }

pub returns-clause-conditions : goal.returns-clause-conditions
returns-clause-conditions c text e u i l = record { words = (words_of text, i, text_written text u); shallow = l }

pub returns-clause-statements : goal.returns-clause-statements
returns-clause-statements c = script_back
