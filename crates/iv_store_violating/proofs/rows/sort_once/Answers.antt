use Rattle.std.proofs.Common.{◌∙◌, sym, ap, subst}
use Rattle.std.specs.Bool.{◌==◌}
use Rattle.std.proofs.lemmas.List.Filters.{dedup_is}
use Rattle.std.proofs.lemmas.List.Sorted.{list_any-IsPermutation}
use Rattle.std.proofs.lemmas.Map.Keys.{IsStrictlyIncreasing-dedup}
use Rattle.iv_laws_kept.specs.Numbers.{has, Rise}
use Rattle.iv_store_violating.proofs.Sorted.{rise_by_steps, has_dedup, sorted_is}
use Rattle.iv_store_violating.proofs.rows.sort_once.Goals as goal

pub returns : goal.returns
returns c =
    let is = dedup_is _ _ _ c.dedup.ensures.filtered in
    sorted_is _ _ (subst Rise (sym is) (rise_by_steps _ (IsStrictlyIncreasing-dedup _ c.sort_unstable.ensures.sorted)))
    (λ n. ap (has n) is ∙ has_dedup n c.sort_unstable.new.self.items ∙ sym (list_any-IsPermutation (λ m. m == n) _ _ c.sort_unstable.ensures.permutation))
