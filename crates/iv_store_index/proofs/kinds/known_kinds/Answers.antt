use Rattle.std.proofs.Common.{◌∙◌, List, slice_get, ap, subst, sym}
use Rattle.iv_value.specs.declared.value.Kind.{Kind}
use Rattle.iv_expr.specs.Scopes.{table_rows}
use Rattle.iv_expr.specs.Searches.{AllFit}
use Rattle.iv_store_index.proofs.Known.{all_fit_of}
use Rattle.iv_store_index.proofs.kinds.known_kinds.Goals as goal

pub returns-in-Some : goal.returns-in-Some
returns-in-Some c = λ h k.
    subst (λ (l : List Kind). AllFit l (table_rows h.rows c.args.table)) (sym c.as_slice.ensures.value)
    (all_fit_of c.args.known.now c.in-Some.columns.now c.args.table h.rows (ap (slice_get c.args.known.now) (sym c.place.ensures) ∙ sym c.in-Some.ensures) c.if-columns.true k.rows)
