-- The command line of `sqlkeep` as clap's definitions read it, and what its matches mean.
use Rattle.std.specs.Prelude.{ℕ, Bool, true, false, List, Option, Some, None, codes, pos}
use Rattle.std.specs.Option.{option_map_or}
use Rattle.std.specs.Str.{bytes_eq}
use Rattle.std.specs.Str.Parse.{digits_value, without_leading_plus}
use Rattle.clap.specs.Words.{App, Row, Rule, Text, first_of, new_app, new_rule, one_of, with_rule}
use Rattle.clap.specs.declared.builder.action.ArgAction.TheVariants.{SetTrue}
use Rattle.clap.specs.declared.builder.value_parser.ValueParser.TheVariants as parser
use Rattle.iv_machine.specs.declared.limits.TheConstants.{MOST_CHANGES_IN_A_STATEMENT}
use Rattle.iv_machine.specs.Bounds.{Bounds, least_depth, greatest_depth, fewest_changes_in_a_statement, most_changes_in_a_statement}
use Rattle.iv_program.specs.declared.command.TheConstants.{USUAL_DEPTH}

-- --depth N, from the least depth to the greatest that a session may have
abbrev pub depth_rule : Rule
depth_rule = record (new_rule (codes "depth")) {
  long = Some (codes "depth");
  value_names = 1;
  parser = Some (parser.Signed (pos least_depth) (pos greatest_depth));
}

-- --changes N, from the fewest row changes to the most that a session may allow a statement
abbrev pub changes_rule : Rule
changes_rule = record (new_rule (codes "changes")) {
  long = Some (codes "changes");
  value_names = 1;
  parser =
      Some (parser.Signed (pos fewest_changes_in_a_statement) (pos most_changes_in_a_statement));
}

-- --explain
abbrev pub explain_rule : Rule
explain_rule = record (new_rule (codes "explain")) {
  long = Some (codes "explain");
  action = Some SetTrue;
}

-- --json
abbrev pub json_rule : Rule
json_rule = record (new_rule (codes "json")) {
  long = Some (codes "json");
  action = Some SetTrue;
}

-- --dump
abbrev pub dump_rule : Rule
dump_rule = record (new_rule (codes "dump")) {
  long = Some (codes "dump");
  action = Some SetTrue;
}

-- --format
abbrev pub format_rule : Rule
format_rule = record (new_rule (codes "format")) {
  long = Some (codes "format");
  action = Some SetTrue;
}

-- FILE
abbrev pub file_rule : Rule
file_rule = record (new_rule (codes "file")) { value_names = 1 }

-- a command that has a version, so that it takes --version
abbrev pub with_version : App → App
with_version app = record app { top = record app.top { has_version = true } }

-- sqlkeep [--depth N] [--changes N] [--explain] [--json]
abbrev pub transcript_options : App
transcript_options = with_rule (with_rule (with_rule (with_rule (with_version (new_app (codes "sqlkeep"))) depth_rule) changes_rule) explain_rule) json_rule

-- so with [--dump] [--format]
abbrev pub named_options : App
named_options = with_rule (with_rule transcript_options dump_rule) format_rule

-- so with [FILE]
abbrev pub command_line : App
command_line = with_rule named_options file_rule

-- the number that a text's digits write, or another one where there is no text
abbrev pub number_or : ℕ → Option Text → ℕ
number_or usual None = usual
number_or usual (Some text) = digits_value 10 (without_leading_plus text)

-- the limits that the matches give
abbrev pub limits_of : List Row → Bounds
limits_of rows = record {
  depth = number_or USUAL_DEPTH (one_of (codes "depth") rows);
  changes = number_or MOST_CHANGES_IN_A_STATEMENT (one_of (codes "changes") rows);
}

-- the text of a flag that is given; of one that isn't given it is "false"
abbrev pub is_given : Text → Bool
is_given text = bytes_eq text (codes "true")

-- whether the flag of this name is given
abbrev pub flag_of : Text → List Row → Bool
flag_of name rows = option_map_or is_given (one_of name rows) false

-- whether they say that accounts are written
abbrev pub explains_of : List Row → Bool
explains_of rows = flag_of (codes "explain") rows

-- whether they say that the transcript is written as JSON
abbrev pub json_of : List Row → Bool
json_of rows = flag_of (codes "json") rows

-- whether they say that the database is dumped
abbrev pub dump_of : List Row → Bool
dump_of rows = flag_of (codes "dump") rows

-- whether they say that the script is laid out
abbrev pub format_of : List Row → Bool
format_of rows = flag_of (codes "format") rows

-- the file that they give
abbrev pub file_of : List Row → Option Text
file_of rows = first_of (codes "file") rows
