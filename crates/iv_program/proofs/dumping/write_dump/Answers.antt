use Rattle.std.proofs.Common.{ℕ, List, map, string_bytes, flat_map, ◌∙◌, ap, subst}
use Rattle.std.specs.Io.KnownBytes.{Appends}
use Rattle.iv_program.proofs.Joined.{joined_texts}
use Rattle.iv_program.proofs.dumping.write_dump.Goals as goal

pub returns-in-Ok-written-clause-dumped : goal.returns-in-Ok-written-clause-dumped
returns-in-Ok-written-clause-dumped g c = record {
  outside = c.in-Ok.ensures.outside;
  scripts = map string_bytes c.in-Ok.scripts.items;
  short = c.in-Ok.ensures.short;
  dump = c.in-Ok.ensures.statements;
  restores = c.in-Ok.ensures.restores;
  appended = subst (λ (bs : List ℕ). Appends (g.W.Sink.state c.args.writer.now).contents (g.W.Sink.state c.write_scripts-written.new.writer).contents bs)
      (ap (flat_map string_bytes) c.as_slice.ensures.value ∙ joined_texts string_bytes c.in-Ok.scripts.items) c.in-Ok-written.ensures.0;
}
