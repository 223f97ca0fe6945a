use Rattle.std.proofs.Common.{◌≡◌, ◌-◌, ◌<◌, ◌++◌, ◌∷◌, [], ◌∙◌, ap, arith, get_or, length, subst, sym, take}
use Rattle.iv_catalogue.proofs.Keeping.{as_many, last_apart, last_within, parts, popped_places, popped_within}
use Rattle.iv_catalogue.proofs.catalogue.Catalogue.take_constraint.Goals as goal

pub pop_place-requires : goal.pop_place-requires
pop_place-requires c =
    let i = c.self.inside in
    let n = c.len-last.result - 1 in
    let k = get_or c.as_slice.result.now n c.index-as_slice-last.result in
    let apart : i.constraints ≡ take n i.constraints ++ k ∷ [] =
    last_apart i.constraints n c.index-as_slice-last.result (subst (λ s. 0 < length s.constraints) (sym c.self.view_is) c.requires) (ap (λ m. m - 1) c.len-last.ensures)
    ∙ ap (λ l. take n i.constraints ++ get_or l n c.index-as_slice-last.result ∷ []) (sym c.as_slice.ensures) in
    omega (
      arith,
      c.place-table.ensures,
      as_many (parts i.tables i.constraints i.triggers i.created) i.constraint_places.items c.self.invariant.1,
      (last_within (parts i.tables i.constraints i.triggers i.created) i.constraint_places.items c.self.invariant.0 c.self.invariant.1
          (take n i.constraints) k apart).0,
    )

pub invariant_of-self : goal.invariant_of-self
invariant_of-self c =
    let i = c.self.inside in
    let n = c.len-last.result - 1 in
    let k = get_or c.as_slice.result.now n c.index-as_slice-last.result in
    let apart : i.constraints ≡ take n i.constraints ++ k ∷ [] =
    last_apart i.constraints n c.index-as_slice-last.result (subst (λ s. 0 < length s.constraints) (sym c.self.view_is) c.requires) (ap (λ m. m - 1) c.len-last.ensures)
    ∙ ap (λ l. take n i.constraints ++ get_or l n c.index-as_slice-last.result ∷ []) (sym c.as_slice.ensures) in
    rw (c.pop_place.ensures, c.truncate.ensures, c.place-table.ensures) (
      popped_within (parts i.tables i.constraints i.triggers i.created) i.constraint_places.items c.self.invariant.0 c.self.invariant.1
          (take n i.constraints) k apart,
      popped_places (parts i.tables i.constraints i.triggers i.created) i.constraint_places.items c.self.invariant.0 c.self.invariant.1
          (take n i.constraints) k apart,
    )
