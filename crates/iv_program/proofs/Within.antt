-- The limits that the matches of the command give are those of a session.
use Rattle.std.proofs.Common.{◌≡◌, ◌∙◌, ◌≤◌, ℕ, [], zero, suc, true, false, length, Some, All, arith, refl, sym, ap, subst, pos, codes, map}
use Rattle.std.specs.Str.{bytes_eq}
use Rattle.clap.specs.Built.{BuildsTo}
use Rattle.clap.specs.Facts.{IsParsed, args_of, groups_of}
use Rattle.clap.specs.Words.{App, Rule, Text, app_of, found_of, has_subcommand, one_of, rows_of, rule_of}
use Rattle.clap.specs.declared.builder.command.Command.{Command}
use Rattle.clap.specs.declared.builder.command.Command.TheViews.{out-Command}
use Rattle.clap.specs.declared.builder.value_parser.ValueParser.{ValueParser}
use Rattle.clap.specs.declared.builder.value_parser.ValueParser.TheVariants as parser
use Rattle.clap.specs.declared.parser.matches.ArgMatches.{ArgMatches}
use Rattle.clap.proofs.SimpleLemmas.{all_simple, plain_fields, simple_groups}
use Rattle.clap.proofs.WalkLemmas.{one_text-rows}
use Rattle.iv_machine.specs.Bounds.{least_depth, greatest_depth, fewest_changes_in_a_statement, most_changes_in_a_statement}
use Rattle.iv_program.specs.CommandLine.{command_line}
use Rattle.iv_program.specs.Ranges.{GivesLimits, WritesWithin}
use Rattle.iv_program.proofs.Passed.{only_built, text_written}

-- the rules of an id have this parser
abbrev HasParser : Text → ValueParser → Rule → Type 0
HasParser id q r = bytes_eq r.id id ≡ true → r.parser ≡ Some q

-- as it is in the command line
depth_parser : All (HasParser (codes "depth") (parser.Signed (pos least_depth) (pos greatest_depth))) command_line.top.rules
depth_parser zero d lt = λ same. refl
depth_parser (suc zero) d lt = λ same. let bad : false ≡ true = same in cc
depth_parser (suc (suc zero)) d lt = λ same. let bad : false ≡ true = same in cc
depth_parser (suc (suc (suc zero))) d lt = λ same. let bad : false ≡ true = same in cc
depth_parser (suc (suc (suc (suc zero)))) d lt = λ same. let bad : false ≡ true = same in cc
depth_parser (suc (suc (suc (suc (suc zero))))) d lt = λ same. let bad : false ≡ true = same in cc
depth_parser (suc (suc (suc (suc (suc (suc zero)))))) d lt = λ same. let bad : false ≡ true = same in cc
depth_parser (suc (suc (suc (suc (suc (suc (suc k))))))) d lt = absurd (omega arith)

changes_parser : All (HasParser (codes "changes") (parser.Signed (pos fewest_changes_in_a_statement) (pos most_changes_in_a_statement))) command_line.top.rules
changes_parser zero d lt = λ same. let bad : false ≡ true = same in cc
changes_parser (suc zero) d lt = λ same. refl
changes_parser (suc (suc zero)) d lt = λ same. let bad : false ≡ true = same in cc
changes_parser (suc (suc (suc zero))) d lt = λ same. let bad : false ≡ true = same in cc
changes_parser (suc (suc (suc (suc zero)))) d lt = λ same. let bad : false ≡ true = same in cc
changes_parser (suc (suc (suc (suc (suc zero))))) d lt = λ same. let bad : false ≡ true = same in cc
changes_parser (suc (suc (suc (suc (suc (suc zero)))))) d lt = λ same. let bad : false ≡ true = same in cc
changes_parser (suc (suc (suc (suc (suc (suc (suc k))))))) d lt = absurd (omega arith)

-- the text of a limit writes a number in its range
limit_within : (c built : Command) (m : ArgMatches) (id : Text) (low high : ℕ) → app_of c ≡ command_line → BuildsTo c built
    → ((out-Command built).has_globals ≡ false → IsParsed built (found_of m) (has_subcommand m))
    → All (HasParser id (parser.Signed (pos low) (pos high))) command_line.top.rules
    → 1 ≤ low → (id ≡ [] → ⊥) → bytes_eq (codes "help") id ≡ false → bytes_eq (codes "version") id ≡ false
    → WritesWithin low high (one_of id (rows_of (found_of m)))
limit_within c built m id low high is from parsed rules least named no_help no_version =
    let fields = plain_fields c (ap (λ (a : App). a.top.is_plain) is) in
    let free = simple_groups c (ap (λ (a : App). all_simple a.top.rules) is) in
    let no_groups : groups_of built ≡ [] = (from.same_groups free).1 ∙ fields.groups in
    let values = (parsed (from.globals ∙ fields.globals)).values in
    let own : map rule_of (args_of c) ≡ command_line.top.rules = ap (λ (a : App). a.top.rules) is in
    let only = only_built c built id _ from (subst (All (HasParser id (parser.Signed (pos low) (pos high)))) (sym own) rules) no_help no_version in
    subst (WritesWithin low high) (one_text-rows (found_of m) id) (text_written built (found_of m) id low high least only no_groups named values)

pub limits_within : (c built : Command) (m : ArgMatches) → app_of c ≡ command_line → BuildsTo c built
    → ((out-Command built).has_globals ≡ false → IsParsed built (found_of m) (has_subcommand m))
    → GivesLimits (rows_of (found_of m))
limits_within c built m is from parsed = (
  limit_within c built m (codes "depth") least_depth greatest_depth is from parsed depth_parser (omega arith) (λ e. let bad : 5 ≡ 0 = ap length e in absurd (omega arith)) refl refl,
  limit_within c built m (codes "changes") fewest_changes_in_a_statement most_changes_in_a_statement is from parsed changes_parser (omega arith) (λ e. let bad : 7 ≡ 0 = ap length e in absurd (omega arith)) refl refl,
)
