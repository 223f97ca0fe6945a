use Rattle.std.proofs.Common.{◌≡◌, ◌+◌, ◌<◌, length, take}
use Rattle.iv_store_rows.specs.Histories.{marked_databases, noted_at}
use Rattle.iv_store_rows.proofs.versions.Versions.undo_to.Given as goal

abbrev pub invariant-loop-self : goal.invariant-loop-self
invariant-loop-self l = record {
  there : l.place < length l.self.marks;
  marked : take (l.place + 1) (marked_databases l.self) ≡ take (l.place + 1) (marked_databases l.initial.self);
  marks : take (l.place + 1) l.self.marks ≡ take (l.place + 1) l.initial.self.marks;
  journal : take (noted_at l.initial.self.marks l.place) l.self.journal ≡ take (noted_at l.initial.self.marks l.place) l.initial.self.journal;
}

abbrev pub decreases-loop-self : goal.decreases-loop-self
decreases-loop-self l = length l.self.journal
