use Rattle.std.proofs.Common.{◌∙◌, ap, false}
use Rattle.std.specs.Option.{option_map_or}
use Rattle.clap.specs.Words.{found_of, one_text}
use Rattle.clap.proofs.WalkLemmas.{one_text-rows}
use Rattle.iv_program.specs.CommandLine.{is_given}
use Rattle.iv_program.proofs.Flags.{flag_read}
use Rattle.iv_program.proofs.reading.flag_of.Goals as goal

pub returns : goal.returns
returns c =
    c.unwrap_or.ensures
    ∙ (flag_read _ (one_text (found_of c.args.matches.now) c.args.name.now) c.get_one.result c.get_one.ensures.none c.get_one.ensures.value
    ∙ ap (λ o. option_map_or is_given o false) (one_text-rows (found_of c.args.matches.now) c.args.name.now))
