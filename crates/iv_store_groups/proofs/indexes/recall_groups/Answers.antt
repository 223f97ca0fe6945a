use Rattle.iv_store_groups.proofs.indexes.recall_groups.Goals as goal

pub returns : goal.returns
returns c = record {
  found = λ constraint. (c.requires.each constraint).found;
  apart = λ constraint. (c.requires.each constraint).apart;
  rising = λ constraint. (c.requires.each constraint).rising;
}
