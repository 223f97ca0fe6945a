-- Groups of constraints that are taken away, one constraint after the other.
use Rattle.std.proofs.Common.{◌≡◌, refl, ℕ, ◌+◌, ◌<◌, ◌≤◌, Bool, true, false, [], length, arith, sym, ap, ◌∙◌}
use Rattle.std.specs.Bool.{◌==◌}
use Rattle.std.proofs.lemmas.Bool.{eqb-true, eq-eqb, true≢false}
use Rattle.iv_store_groups.specs.Groups.{Contents, groups_of, with_groups}
use Rattle.iv_store_following.proofs.GroupsShown.{others_after, own_after}

pub record Clearing (first next : ℕ) (start now : Contents) : Type 0 where
  pub cleared : (k : ℕ) → first ≤ k → k < next → groups_of now.groups k ≡ []
  pub others : (k : ℕ) → k < first → groups_of now.groups k ≡ groups_of start.groups k
  pub count : length now.groups ≡ length start.groups
  pub looked_up : now.looked_up ≡ start.looked_up

pub clearing_begins : (first : ℕ) (start : Contents) → Clearing first first start start
clearing_begins first start = record {
  cleared = λ k from to. absurd (omega (arith, from, to));
  others = λ k less. refl;
  count = refl;
  looked_up = refl;
}

pub clearing_goes_on : (first next : ℕ) (start now after : Contents) → first ≤ next → next < length now.groups → after.groups ≡ with_groups now.groups next [] → length after.groups ≡ length now.groups
    → after.looked_up ≡ now.looked_up → Clearing first next start now → Clearing first (next + 1) start after
clearing_goes_on first next start now after from within is same looked_up c = record {
  cleared = λ k low less. by_place k low less (next == k) refl;
  others = λ k less. ap (λ gs. groups_of gs k) is ∙ others_after now.groups next [] k within (λ e. omega (arith, from, less, e)) ∙ c.others k less;
  count = same ∙ c.count;
  looked_up = looked_up ∙ c.looked_up;
}
  where
    by_place : (k : ℕ) → first ≤ k → k < next + 1 → (b : Bool) → (next == k) ≡ b → groups_of after.groups k ≡ []
    by_place k low less true e =
        ap (λ gs. groups_of gs k) is ∙ ap (groups_of (with_groups now.groups next [])) (sym (eqb-true next k e)) ∙ own_after now.groups next [] within
    by_place k low less false e =
        let apart : k ≡ next → ⊥ = λ f. true≢false (sym (eq-eqb next k (sym f)) ∙ e) in
        ap (λ gs. groups_of gs k) is ∙ others_after now.groups next [] k within apart ∙ c.cleared k low (omega (arith, less, apart))
