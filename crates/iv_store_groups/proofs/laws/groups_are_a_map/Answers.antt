use Rattle.iv_store_groups.proofs.GroupsLaws.{constraints_stay, group_at_place, groups_after, held_after, is_finite_map, other_places_stay, place_stays, same_is_equal}
use Rattle.iv_store_groups.proofs.laws.groups_are_a_map.Goals as goal

pub returns : goal.returns
returns c = record {
  same = same_is_equal;
  groups = groups_after;
  constraints = constraints_stay;
  held = held_after;
  map = is_finite_map;
  place = place_stays;
  at_place = group_at_place;
  others = other_places_stay;
}
