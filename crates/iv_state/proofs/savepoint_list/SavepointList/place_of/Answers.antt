use Rattle.std.proofs.Common.{◌≡◌, ◌∙◌, ◌<◌, ℕ, Bool, ap, true, nat_lt, arith}
use Rattle.std.proofs.lemmas.Bool.Decides.{nat_tests}
use Rattle.std.specs.Bool.{then_some}
use Rattle.iv_state.specs.Saved.{Savepoints}
use Rattle.iv_state.specs.Saving.{last_named}
use Rattle.iv_state.proofs.ByName.{place_is}
use Rattle.iv_state.proofs.savepoint_list.SavepointList.place_of.Goals as goal

below : (place count : ℕ) → place < count → nat_lt place count ≡ true
below place count h = grind (arith, nat_tests)

pub returns-clause-place : goal.returns-clause-place
returns-clause-place c =
    let there : nat_lt c.in_ok-place.place c.len.result ≡ true = below c.in_ok-place.place c.len.result (omega (arith, c.in_ok-place.ensures.within, c.len.ensures.len)) in
    c.then_some.ensures ∙ ap (λ (b : Bool). then_some b c.in_ok-place.place) there ∙ c.in_ok-place.ensures.index
    ∙ place_is c.args.name.now c.self.inside.modes.entries c.len.ensures.unique
    ∙ ap (λ (s : Savepoints). last_named c.args.name.now s.saves) c.self.view_is

pub returns-in_err-place-clause-place : goal.returns-in_err-place-clause-place
returns-in_err-place-clause-place c =
    c.from_residual.ensures ∙ c.in_err-place.ensures.index
    ∙ place_is c.args.name.now c.self.inside.modes.entries c.get_index_of.ensures.unique
    ∙ ap (λ (s : Savepoints). last_named c.args.name.now s.saves) c.self.view_is
