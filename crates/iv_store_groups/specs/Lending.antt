-- What a look at the rows of a key leaves, and how groups are lent.
use Rattle.std.specs.Prelude.{◌≡◌, ⊤}
use Rattle.std.specs.Borrow.{Lends, follows_so, MutBor, Fml}
use mathlib.Core.Option.{none}
use Rattle.iv_store_groups.specs.contracts.counted_groups.CountedGroups as counted_groups
use Rattle.iv_store_groups.specs.contracts.groups.Groups as groups
use Rattle.iv_store_groups.specs.Groups.{Contents, counted}

-- The groups end as they were, and the look-up is counted.
abbrev pub Looked : MutBor Contents → Fml
Looked s = follows_so groups.the_row groups.the_row s.ghost_name none (λ _ _. ⊤) (λ v. v ≡ record { groups = s.now.groups; looked_up = counted s.now.looked_up })

-- The same for groups that are lent by the calls that are counted.
abbrev pub CountedAreLooked : MutBor Contents → Fml
CountedAreLooked s = follows_so counted_groups.the_row counted_groups.the_row s.ghost_name none (λ _ _. ⊤) (λ v. v ≡ record { groups = s.now.groups; looked_up = counted s.now.looked_up })

-- The groups end as those behind the result.
abbrev pub LendsCounted : MutBor Contents → MutBor Contents → Fml
LendsCounted s r = Lends groups.the_row counted_groups.the_row s r (λ groups. groups)
