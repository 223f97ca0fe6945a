use Rattle.std.proofs.Common.{◌≡◌, ◌≢◌, ℕ, suc, ◌-◌, List, get_or, set, sym, subst, arith}
use Rattle.std.proofs.lemmas.List.{get_or_read}
use Rattle.iv_store_groups.specs.Linked.{Ended, IsParted, IsReached, last_end}
use Rattle.iv_store_groups.proofs.UnlinkedLemmas.{parted_last, parted_next}
use Rattle.iv_store_groups.proofs.hash_index.unlink.Goals as goal

pub returns-then-end-place : goal.returns-then-end-place
returns-then-end-place c =
    let slots : List ℕ = c.args.slots.now.items in
    let befores : List ℕ = c.args.befores.now.items in
    let hashes : List ℕ = c.args.hashes.now in
    let h : ℕ = get_or hashes c.args.place 0 in
    let before : c.index-before.result.now ≡ get_or befores c.args.place 0 =
    get_or_read befores c.args.place c.index-before.result.now (omega (arith, c.requires.within, c.requires.linked.count)) c.index-before.ensures 0 in
    let end : last_end slots c.args.others.now hashes h ≡ c.last_in-end.result =
    sym (subst (λ (xs : List ℕ). c.last_in-end.result ≡ last_end xs c.args.others.now hashes h) c.as_slice.ensures.value c.last_in-end.ensures) in
    parted_last slots c.set_end.new.slots.items c.args.others.now c.set_end.new.others befores hashes c.args.place c.requires.linked c.requires.within
    (omega (arith, end, c.if-end-place.true))
    (subst (λ (n : ℕ). Ended slots c.args.others.now hashes c.args.place n c.set_end.new.slots.items c.set_end.new.others) before c.set_end.ensures)

pub returns : goal.returns
returns c =
    let slots : List ℕ = c.args.slots.now.items in
    let befores : List ℕ = c.args.befores.now.items in
    let hashes : List ℕ = c.args.hashes.now in
    let h : ℕ = get_or hashes c.args.place 0 in
    let next : ℕ = c.reach-next.result in
    let before : c.index-before.result.now ≡ get_or befores c.args.place 0 =
    get_or_read befores c.args.place c.index-before.result.now (omega (arith, c.requires.within, c.requires.linked.count)) c.index-before.ensures 0 in
    let end : last_end slots c.args.others.now hashes h ≡ c.last_in-end.result =
    sym (subst (λ (xs : List ℕ). c.last_in-end.result ≡ last_end xs c.args.others.now hashes h) c.as_slice.ensures.value c.last_in-end.ensures) in
    let at : IsReached (last_end slots c.args.others.now hashes h - 1) c.args.place befores hashes next =
    subst (λ (n : ℕ). IsReached (n - 1) c.args.place befores hashes next) (sym end)
    (subst (λ (xs : List ℕ). IsReached (c.last_in-end.result - 1) c.args.place xs hashes next) c.as_slice-2.ensures.value c.reach-next.ensures) in
    let ne : last_end slots c.args.others.now hashes h ≢ suc c.args.place = λ (e : last_end slots c.args.others.now hashes h ≡ suc c.args.place).
    c.if-end-place.false (omega (arith, end)) in
    subst (λ (n : ℕ). IsParted c.args.place slots c.args.others.now (set befores next n) hashes) (sym before)
    (parted_next slots c.args.others.now befores hashes c.args.place next c.requires.linked.few c.requires.linked c.requires.within ne at)
