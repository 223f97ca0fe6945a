use Rattle.std.proofs.Common.{◌≡◌, None, Option, Some, false, refl, sym, subst, ◌∙◌, []}
use Rattle.std.specs.Option.{is_some}
use Rattle.iv_catalogue.specs.declared.cause.Fault.{Fault}
use Rattle.iv_store_plain.specs.Suspects.{Clean}
use Rattle.iv_store_plain.proofs.Suspects.{none_violated}
use Rattle.iv_store_plain.proofs.touched.settle_touched.Goals as goal

none : (o : Option Fault) → is_some o ≡ false → o ≡ None
none None e = refl
none (Some x) e = cc

pub returns-then-is_none : goal.returns-then-is_none
returns-then-is_none c =
    subst (λ t. Clean t c.args.rows.now c.args.constraints.now) (sym c.clear.ensures.items)
    (none_violated [] c.args.rows.now c.args.constraints.now (sym c.first_fault.ensures ∙ none c.first_fault.result c.if-is_none.ensures))
