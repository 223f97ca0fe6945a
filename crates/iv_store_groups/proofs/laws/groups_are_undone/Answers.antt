use Rattle.iv_store_groups.proofs.GroupsLaws.{added_and_removed, put_is_added, removed_and_put_back, size_grows, size_stays}
use Rattle.iv_store_groups.proofs.laws.groups_are_undone.Goals as goal

pub returns : goal.returns
returns c = record {
  put = put_is_added;
  removed = removed_and_put_back;
  added = added_and_removed;
  grows = size_grows;
  stays = size_stays;
}
