use Rattle.std.proofs.Common.{◌∙◌, ap, arith, codes, subst, sym}
use Rattle.std.specs.Str.Parse.{ParsesUnsigned, ExplainsUnsignedError, HasUnsignedDigitsIfOk}
use Rattle.clap.specs.Words.{found_of, one_text}
use Rattle.clap.proofs.WalkLemmas.{one_text-rows}
use Rattle.iv_machine.specs.Bounds.{fewest_changes_in_a_statement, most_changes_in_a_statement}
use Rattle.iv_machine.specs.declared.limits.TheConstants.{MOST_CHANGES_IN_A_STATEMENT}
use Rattle.iv_program.specs.CommandLine.{number_or}
use Rattle.iv_program.specs.Ranges.{WritesWithin}
use Rattle.iv_program.proofs.Numbers.{number_read}
use Rattle.iv_program.proofs.reading.changes_of.Goals as goal

pub returns : goal.returns
returns c =
    let rows = one_text-rows (found_of c.args.matches.now) (codes "changes") in
    let read = number_read _ (λ bs r. ParsesUnsigned 32 10 bs r × ExplainsUnsignedError 10 bs r × HasUnsignedDigitsIfOk bs r) 32
    fewest_changes_in_a_statement most_changes_in_a_statement MOST_CHANGES_IN_A_STATEMENT (λ t r h. h.0) (omega arith) (omega arith) (omega arith)
    (one_text (found_of c.args.matches.now) (codes "changes")) c.get_one.result
    (subst (WritesWithin fewest_changes_in_a_statement most_changes_in_a_statement) (sym rows) c.requires) c.get_one.ensures.none c.get_one.ensures.value in
    record {
      number = c.unwrap_or.ensures ∙ (read.0 ∙ ap (number_or MOST_CHANGES_IN_A_STATEMENT) rows);
      fewest = rw c.unwrap_or.ensures read.1;
      most = rw c.unwrap_or.ensures read.2;
    }
