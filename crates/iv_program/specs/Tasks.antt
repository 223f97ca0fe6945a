-- What a command line asks for.
use Rattle.std.specs.Prelude.{Bool, true, false, ◌||◌, if◌then◌else◌, Option, Some, None}
use Rattle.iv_text.specs.declared.format.Format.TheVariants.{Words, Json}
use Rattle.iv_text.specs.declared.format.Style.{Style}
use Rattle.iv_program.specs.declared.task.Task.{Task}
use Rattle.iv_program.specs.declared.task.Task.TheVariants.{Transcript, Dump, Format}

-- with accounts or without, as JSON or in words
abbrev pub style_of : Bool → Bool → Style
style_of explain json = record { format = if json then Json else Words; explain = explain }

-- A dump, a layout or a transcript, by whether a dump, a layout and something of a transcript is asked for; none if two of these are.
abbrev pub task_by : Bool → Bool → Bool → Style → Option Task
task_by true false false style = Some Dump
task_by false true false style = Some Format
task_by false false transcript style = Some (Transcript style)
task_by true true transcript style = None
task_by true false true style = None
task_by false true true style = None

-- by whether each of --dump, --format, --explain and --json is given
abbrev pub task_of : Bool → Bool → Bool → Bool → Option Task
task_of dump format explain json = task_by dump format (explain || json) (style_of explain json)
