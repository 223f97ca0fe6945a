use Rattle.std.proofs.Common.{◌-◌, [], ap, get_or, length, subst, refl, sym, take}
use Rattle.iv_catalogue.specs.Catalogues.{AfterTable, IsWithinLimits}
use Rattle.iv_catalogue.specs.ConstraintPlaces.{ArePlaces}
use Rattle.iv_catalogue.proofs.Keeping.{back, before_places, before_within, own_few, parts}
use Rattle.iv_catalogue.proofs.catalogue.Catalogue.take_table.Goals as goal

pub overflow_sub-constraints : goal.overflow_sub-constraints
overflow_sub-constraints c =
    let i = c.self.inside in
    let a = subst (AfterTable c.requires.0 c.requires.1 c.requires.2) (sym c.self.view_is) c.requires.3 in
    rw (c.places_at-own.ensures, c.as_slice.ensures.value, c.len.ensures)
    (own_few c.requires.0 (parts i.tables i.constraints i.triggers i.created) c.requires.1 c.requires.2 i.constraint_places.items a c.self.invariant.0
    c.self.invariant.1 (c.len-tables.result - 1) (ap (λ n. n - 1) c.len-tables.ensures))

pub invariant_of-self : goal.invariant_of-self
invariant_of-self c =
    let i = c.self.inside in
    let n = c.len-tables.result - 1 in
    let m = length i.constraints - length (get_or i.constraint_places.items n []) in
    let schema = parts i.tables i.constraints i.triggers i.created in
    let a = subst (AfterTable c.requires.0 c.requires.1 c.requires.2) (sym c.self.view_is) c.requires.3 in
    let w = c.self.invariant.0 in
    let h = c.self.invariant.1 in
    let same =
    back c.requires.0 schema c.requires.1 c.requires.2 i.constraint_places.items a w h n (ap (λ n. n - 1) c.len-tables.ensures) m refl in
    rw (c.truncate.ensures.items, c.truncate-2.ensures, c.truncate-3.ensures, c.places_at-own.ensures, c.as_slice.ensures.value, c.len.ensures) (
      subst IsWithinLimits (sym same) (before_within c.requires.0 schema c.requires.1 c.requires.2 i.constraint_places.items a w h),
      subst (λ s. ArePlaces s.tables s.constraints (take n i.constraint_places.items)) (sym same)
          (before_places c.requires.0 schema c.requires.1 c.requires.2 i.constraint_places.items a w h n (ap (λ n. n - 1) c.len-tables.ensures)),
    )

pub returns : goal.returns
returns c before table constraints after =
    let i = c.self.inside in
    let n = c.len-tables.result - 1 in
    let m = length i.constraints - length (get_or i.constraint_places.items n []) in
    rw (c.truncate-2.ensures, c.truncate-3.ensures, c.places_at-own.ensures, c.as_slice.ensures.value, c.len.ensures)
    (back before (parts i.tables i.constraints i.triggers i.created) table constraints i.constraint_places.items
    (subst (AfterTable before table constraints) (sym c.self.view_is) after) c.self.invariant.0 c.self.invariant.1 n
    (ap (λ n. n - 1) c.len-tables.ensures) m refl)
