use Rattle.std.proofs.Common.{◌<◌, length, ap, arith, subst, sym}
use Rattle.iv_catalogue.specs.Catalogues.{AllOn}
use Rattle.iv_catalogue.specs.declared.limits.TheConstants.{MOST_TABLES}
use Rattle.iv_catalogue.proofs.Keeping.{few_constraints, parts, table_places, table_within}
use Rattle.iv_catalogue.proofs.catalogue.Catalogue.add_table.Goals as goal

pub overflow_cast-len : goal.overflow_cast-len
overflow_cast-len c =
    let i = c.self.inside in
    omega (arith, c.len.ensures, few_constraints (parts i.tables i.constraints i.triggers i.created) i.constraint_places.items c.self.invariant.0 c.self.invariant.1)

pub places_of_new-requires : goal.places_of_new-requires
places_of_new-requires c =
    let i = c.self.inside in
    omega (
      arith,
      c.len.ensures,
      ap length c.as_slice.ensures,
      c.requires.constraints,
      few_constraints (parts i.tables i.constraints i.triggers i.created) i.constraint_places.items c.self.invariant.0 c.self.invariant.1,
    )

pub invariant_of-self-2 : goal.invariant_of-self-2
invariant_of-self-2 c =
    let i = c.self.inside in
    let own = subst (λ s. AllOn (length s.tables) c.args.constraints) (sym c.self.view_is) c.requires.own in
    rw (
      c.in_ok-push.ensures.ok,
      c.in_default.ensures.ok,
      c.into_vec.ensures,
      c.push_list.ensures,
      c.places_of_new.ensures.lists,
      c.in_ok-places.ensures.places,
      c.new.ensures,
      c.len-count.ensures,
      c.len.ensures,
      c.as_slice.ensures,
    ) (
      table_within (parts i.tables i.constraints i.triggers i.created) c.args.table c.args.constraints c.self.invariant.0
          (subst (λ s. length s.tables < MOST_TABLES) (sym c.self.view_is) c.requires.tables) own,
      table_places (parts i.tables i.constraints i.triggers i.created) i.constraint_places.items c.args.table c.args.constraints c.self.invariant.0
          c.self.invariant.1 own c.requires.constraints,
    )
