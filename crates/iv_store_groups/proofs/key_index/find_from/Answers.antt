use Rattle.std.specs.Prelude.{slice_index}
use Rattle.std.proofs.Common.{◌≡◌, ℕ, ◌-◌, ◌<◌, ◌≤◌, List, length, get_or, true, false, sym, ap, ◌∙◌, subst, arith, ⊎_elim}
use Rattle.std.proofs.lemmas.Bool.{cases_lt}
use Rattle.std.proofs.lemmas.List.{get_or_default}
use Rattle.iv_store_groups.specs.Groups.{GroupOf}
use Rattle.iv_value.specs.Values.{all_same}
use Rattle.iv_key.specs.Hashes.{hash_of}
use Rattle.iv_store_groups.proofs.GroupsLemmas.{not_here, place_found, place_missing}
use Rattle.iv_store_groups.proofs.key_index.find_from.Goals as goal

pub loop-end-init : goal.loop-end-init
loop-end-init c = record {
  within = omega (arith, c.requires.indexed.count, c.requires.within);
  same = c.requires.found;
  none = λ k d le lt. not_here c.args.hashes.now c.args.groups.now c.args.key.now k d c.requires.indexed lt
      (λ e. c.requires.none k le (omega (arith, c.requires.indexed.count)) e);
}

pub returns-then-is_of-clause-place : goal.returns-then-is_of-clause-place
returns-then-is_of-clause-place c =
    let gs : List GroupOf = c.args.groups.now in
    let x : GroupOf = c.index-groups-place.result in
    let here : all_same x.key c.args.key.now ≡ true = sym c.is_of.ensures ∙ c.if-is_of.true in
    sym (place_found gs c.args.key.now (c.loop-end.end - 1) x c.requires.indexed.distinct (omega (arith, c.loop-end.invariant.within, c.loop-end-test.true))
    (subst (λ (y : GroupOf). all_same y.key c.args.key.now ≡ true) c.index-groups-place.is here))

pub loop-end-preserved : goal.loop-end-preserved
loop-end-preserved c =
    let gs : List GroupOf = c.args.groups.now in
    let place : ℕ = c.loop-end.end - 1 in
    let here : slice_index c.args.hashes.now place ≡ hash_of c.args.key.now = c.loop-end.invariant.same c.loop-end-test.true in
    record {
      within = omega (arith, c.loop-end.invariant.within, c.before-end.ensures.down);
      same = λ p. c.before-end.ensures.found p ∙ here;
      none = λ k d le lt. ⊎_elim
          (λ (l : k < place). not_here c.args.hashes.now gs c.args.key.now k d c.requires.indexed lt (λ e. c.before-end.ensures.none k le l (e ∙ sym here)))
          (λ (l : place ≤ k). ⊎_elim
          (λ (m : k < c.loop-end.end).
          let kp : k ≡ place = omega arith in
          let x : GroupOf = c.index-groups-place.result in
          let pl : place < length gs = omega arith in
          let same : x ≡ get_or gs k d = c.index-groups-place.is ∙ get_or_default gs place x d pl ∙ ap (λ (i : ℕ). get_or gs i d) (sym kp) in
          subst (λ (y : GroupOf). all_same y.key c.args.key.now ≡ false) same (sym c.is_of.ensures ∙ c.if-is_of.false))
          (λ (m : c.loop-end.end ≤ k). c.loop-end.invariant.none k d m lt)
          (cases_lt k c.loop-end.end))
          (cases_lt k place);
    }

pub returns-clause-place : goal.returns-clause-place
returns-clause-place c = sym (place_missing c.args.groups.now c.args.key.now (λ k d lt. c.loop-end.invariant.none k d (omega arith) lt))
