use Rattle.std.proofs.Common.{◌<◌, length, arith, subst, sym}
use Rattle.iv_catalogue.specs.Catalogues.{constraint_places}
use Rattle.iv_catalogue.specs.declared.limits.TheConstants.{MOST_CONSTRAINTS}
use Rattle.iv_catalogue.proofs.Keeping.{as_many, constraint_places_more, constraint_within, few_constraints, parts}
use Rattle.iv_catalogue.proofs.catalogue.Catalogue.add_constraint.Goals as goal

pub overflow_cast-count : goal.overflow_cast-count
overflow_cast-count c =
    let i = c.self.inside in
    omega (arith, c.len-count.ensures, few_constraints (parts i.tables i.constraints i.triggers i.created) i.constraint_places.items c.self.invariant.0 c.self.invariant.1)

pub push_place-requires : goal.push_place-requires
push_place-requires c =
    let i = c.self.inside in
    omega (
      arith,
      c.place-table.ensures,
      as_many (parts i.tables i.constraints i.triggers i.created) i.constraint_places.items c.self.invariant.1,
      subst (λ s. c.args.constraint.table < length s.tables) (sym c.self.view_is) c.requires.table,
    )

pub invariant_of-self-in_default : goal.invariant_of-self-in_default
invariant_of-self-in_default c =
    let i = c.self.inside in
    let there = subst (λ s. c.args.constraint.table < length s.tables) (sym c.self.view_is) c.requires.table in
    rw (c.in_ok-push.ensures.ok, c.in_default.ensures.ok, c.place-table.ensures, c.new-place.ensures, c.len-count.ensures) (
      constraint_within (parts i.tables i.constraints i.triggers i.created) c.args.constraint c.self.invariant.0 there,
      constraint_places_more (parts i.tables i.constraints i.triggers i.created) i.constraint_places.items c.args.constraint c.self.invariant.0
          c.self.invariant.1 there
          (subst (λ s. length (constraint_places s c.args.constraint.table) < MOST_CONSTRAINTS) (sym c.self.view_is) c.requires.few),
    )
