use Rattle.std.proofs.Common.{refl}
use Rattle.iv_resolve_statements.proofs.binding.bound_update.Goals as goal

pub returns : goal.returns
returns c =
    rw (c.in_ok-settings.ensures, c.in_ok-filter.ensures, c.table_id.ensures, c.stored_columns-stored.ensures, c.as_slice.ensures, c.as_str.ensures, c.as_str-2.ensures, c.as_str-3.ensures) refl
