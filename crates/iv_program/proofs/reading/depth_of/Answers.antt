use Rattle.std.proofs.Common.{◌∙◌, ap, arith, codes, subst, sym}
use Rattle.std.specs.Str.Parse.{ParsesUnsigned, ExplainsUnsignedError, HasUnsignedDigitsIfOk}
use Rattle.clap.specs.Words.{found_of, one_text}
use Rattle.clap.proofs.WalkLemmas.{one_text-rows}
use Rattle.iv_machine.specs.Bounds.{least_depth, greatest_depth}
use Rattle.iv_program.specs.declared.command.TheConstants.{USUAL_DEPTH}
use Rattle.iv_program.specs.CommandLine.{number_or}
use Rattle.iv_program.specs.Ranges.{WritesWithin}
use Rattle.iv_program.proofs.Numbers.{number_read}
use Rattle.iv_program.proofs.reading.depth_of.Goals as goal

pub returns : goal.returns
returns c =
    let rows = one_text-rows (found_of c.args.matches.now) (codes "depth") in
    let read = number_read _ (λ bs r. ParsesUnsigned 8 10 bs r × ExplainsUnsignedError 10 bs r × HasUnsignedDigitsIfOk bs r) 8
    least_depth greatest_depth USUAL_DEPTH (λ t r h. h.0) (omega arith) (omega arith) (omega arith)
    (one_text (found_of c.args.matches.now) (codes "depth")) c.get_one.result
    (subst (WritesWithin least_depth greatest_depth) (sym rows) c.requires) c.get_one.ensures.none c.get_one.ensures.value in
    record {
      number = c.unwrap_or.ensures ∙ (read.0 ∙ ap (number_or USUAL_DEPTH) rows);
      least = rw c.unwrap_or.ensures read.1;
      greatest = rw c.unwrap_or.ensures read.2;
    }
