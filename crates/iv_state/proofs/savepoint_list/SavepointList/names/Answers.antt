use Rattle.std.proofs.Common.{◌≡◌, ◌∙◌, ℕ, List, map, string_bytes, ap, subst, IfOk}
use Rattle.iv_state.specs.Saved.{Savepoints, saved_names}
use Rattle.iv_state.proofs.Standing.{keys_named}
use Rattle.iv_state.proofs.savepoint_list.SavepointList.names.Goals as goal

pub returns : goal.returns
returns c =
    subst (λ (l : List (List ℕ)). IfOk c.names_of.result (λ names. names.items ≡ l))
    (ap (map string_bytes) (c.as_slice.ensures ∙ c.keys.ensures.rest)
    ∙ keys_named c.self.inside.modes.entries ∙ ap (λ (s : Savepoints). saved_names s.saves) c.self.view_is)
    c.names_of.ensures
