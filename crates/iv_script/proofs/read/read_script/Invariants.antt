use Rattle.std.proofs.Common.{◌≡◌, ◌≤◌, ◌+◌, ◌-◌, length, max}
use Rattle.std.specs.Io.KnownBytes.{Consumes}
use Rattle.iv_script.proofs.read.read_script.Given as goal

abbrev pub invariant-loop-script : goal.invariant-loop-script
invariant-loop-script g l = record {
  within : length l.script.items ≤ 1048577;
  failed : g.R.Source.failed l.reader ≡ g.R.Source.failed l.initial.reader;
  given : g.R.Source.given l.reader ≤ g.R.Source.given l.initial.reader + length l.script.items;
  asked : g.R.Source.asked l.reader ≤ max (g.R.Source.asked l.initial.reader) (g.R.Source.given l.initial.reader + 1048577);
  ends : g.R.Source.ends l.reader ≡ g.R.Source.ends l.initial.reader;
  read : Consumes (g.R.Source.remaining l.initial.reader) (g.R.Source.remaining l.reader) l.script.items;
}

abbrev pub decreases-loop-script : goal.decreases-loop-script
decreases-loop-script g l = 1048577 - length l.script.items
