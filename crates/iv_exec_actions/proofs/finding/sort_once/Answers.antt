use Rattle.std.proofs.Common.{◌∙◌, sym, ap}
use Rattle.std.specs.Bool.{◌==◌}
use Rattle.std.proofs.lemmas.List.Filters.{dedup_is}
use Rattle.std.proofs.lemmas.List.Sorted.{list_any-IsPermutation}
use Rattle.std.proofs.lemmas.Map.Keys.{IsStrictlyIncreasing-dedup}
use Rattle.iv_laws_kept.specs.FollowingWaves.{is_among}
use Rattle.iv_exec_actions.proofs.Numbers.{among_dedup}
use Rattle.iv_exec_actions.proofs.finding.sort_once.Goals as goal

pub returns-clause-rising : goal.returns-clause-rising
returns-clause-rising c = let is = dedup_is _ _ _ c.dedup.ensures.filtered in rw is (IsStrictlyIncreasing-dedup _ c.sort_unstable.ensures.sorted)

pub returns-clause-same : goal.returns-clause-same
returns-clause-same c n =
    let is = dedup_is _ _ _ c.dedup.ensures.filtered in
    ap (λ l. is_among l n) is
    ∙ among_dedup n c.sort_unstable.new.self.items
    ∙ sym (list_any-IsPermutation (λ m. m == n) _ _ c.sort_unstable.ensures.permutation)
