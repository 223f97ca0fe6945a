use Rattle.std.proofs.Common.{refl}
use Rattle.iv_resolve_statements.proofs.misshaped.misshaped_insert.Goals as goal

pub returns-in-Rows : goal.returns-in-Rows
returns-in-Rows c = rw (c.in-Rows.is, c.misshaped_source.ensures, c.targets_of-targets.ensures, c.stored_columns-stored.ensures, c.as_str.ensures) refl
