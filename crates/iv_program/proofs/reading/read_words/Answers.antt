use Rattle.std.proofs.Common.{◌∙◌, ◌≡◌, ap, codes, map, subst, true, []}
use Rattle.clap.specs.Words.{App, HasKind, Kinds, found_of, kind_of, takes}
use Rattle.clap.specs.declared.error.kind.ErrorKind.TheVariants.{OutOfMemory}
use Rattle.clap.proofs.WalkLemmas.{first_value-rows}
use Rattle.iv_program.specs.CommandLine.{command_line, dump_of, explains_of, file_of, format_of, json_of, limits_of}
use Rattle.iv_program.proofs.Simple.{kinds_meant, meant, passed_on, told_on}
use Rattle.iv_program.proofs.Within.{limits_within}
use Rattle.iv_program.proofs.reading.read_words.Goals as goal

pub returns-in_err-matches-clause-passes : goal.returns-in_err-matches-clause-passes
returns-in_err-matches-clause-passes g c =
    let error = c.in_err-matches.field-0.0 in
    let words = map g.S.AsStr.text c.args.words.now in
    passed_on _ error c.from_residual-in_err-matches.ensures.1 (takes command_line words ≡ true)
    (subst (λ (a : App). takes a words ≡ true → kind_of error ≡ OutOfMemory) c.in_ok-command.ensures c.in_err-matches.ensures.passes)

pub returns-in_err-matches-clause-kinds : goal.returns-in_err-matches-clause-kinds
returns-in_err-matches-clause-kinds g c =
    let error = c.in_err-matches.field-0.0 in
    told_on _ error c.from_residual-in_err-matches.ensures.1 _
    (kinds_meant (λ (kinds : Kinds). HasKind kinds error) c.in_ok-command.command (map g.S.AsStr.text c.args.words.now) c.in_ok-command.ensures c.in_err-matches.ensures.kinds)

pub limits_of-requires : goal.limits_of-requires
limits_of-requires g c =
    let given = c.in_ok-matches.ensures.ok in
    limits_within c.in_ok-command.command c.try_get_matches_from_mut.new.self c.in_ok-matches.matches c.in_ok-command.ensures given.0 given.1

pub returns-clause-limits : goal.returns-clause-limits
returns-clause-limits g c =
    c.limits_of.ensures
    ∙ ap limits_of (meant c.in_ok-command.command (map g.S.AsStr.text c.args.words.now) c.in_ok-matches.matches c.in_ok-command.ensures c.in_ok-matches.ensures.ok.2)

pub returns-clause-explain : goal.returns-clause-explain
returns-clause-explain g c =
    c.flag_of.ensures
    ∙ ap explains_of (meant c.in_ok-command.command (map g.S.AsStr.text c.args.words.now) c.in_ok-matches.matches c.in_ok-command.ensures c.in_ok-matches.ensures.ok.2)

pub returns-clause-json : goal.returns-clause-json
returns-clause-json g c =
    c.flag_of-2.ensures
    ∙ ap json_of (meant c.in_ok-command.command (map g.S.AsStr.text c.args.words.now) c.in_ok-matches.matches c.in_ok-command.ensures c.in_ok-matches.ensures.ok.2)

pub returns-clause-dump : goal.returns-clause-dump
returns-clause-dump g c =
    c.flag_of-3.ensures
    ∙ ap dump_of (meant c.in_ok-command.command (map g.S.AsStr.text c.args.words.now) c.in_ok-matches.matches c.in_ok-command.ensures c.in_ok-matches.ensures.ok.2)

pub returns-clause-format : goal.returns-clause-format
returns-clause-format g c =
    c.flag_of-4.ensures
    ∙ ap format_of (meant c.in_ok-command.command (map g.S.AsStr.text c.args.words.now) c.in_ok-matches.matches c.in_ok-command.ensures c.in_ok-matches.ensures.ok.2)

pub returns-clause-file : goal.returns-clause-file
returns-clause-file g c =
    c.get_str.ensures ∙ first_value-rows (found_of c.in_ok-matches.matches) (codes "file")
    ∙ ap file_of (meant c.in_ok-command.command (map g.S.AsStr.text c.args.words.now) c.in_ok-matches.matches c.in_ok-command.ensures c.in_ok-matches.ensures.ok.2)

pub returns-clause-kinds : goal.returns-clause-kinds
returns-clause-kinds g c =
    kinds_meant (λ (kinds : Kinds). kinds ≡ []) c.in_ok-command.command (map g.S.AsStr.text c.args.words.now) c.in_ok-command.ensures c.in_ok-matches.ensures.kinds
