use Rattle.std.proofs.Common.{◌≡◌, sym, false, subst}
use Rattle.iv_catalogue.specs.Names.{is_among}
use Rattle.iv_catalogue.proofs.NamedLists.{next_free, next_names}
use Rattle.iv_catalogue.proofs.named_list.add_names.Goals as goal

pub push-requires : goal.push-requires
push-requires g c =
    subst (λ name. is_among c.loop-item.names name ≡ false) (sym c.name.ensures)
    (next_free g.T.Named.named c.loop-item.names c.args.items.now c.loop-item.item-index c.item-item.result c.loop-item-test.true c.item-item.is
    c.loop-item.invariant.1).0

pub loop-item-preserved : goal.loop-item-preserved
loop-item-preserved g c =
    rw (c.in_default.ensures.ok, c.name.ensures) (
      next_names g.T.Named.named c.args.names.now c.loop-item.names c.args.items.now c.loop-item.item-index c.item-item.result c.loop-item-test.true
          c.item-item.is c.loop-item.invariant.0,
      (next_free g.T.Named.named c.loop-item.names c.args.items.now c.loop-item.item-index c.item-item.result c.loop-item-test.true c.item-item.is
          c.loop-item.invariant.1).1,
      c.loop-item.invariant.2,
    )
