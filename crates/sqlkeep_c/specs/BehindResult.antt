-- What a result of C owns: the box of the rows behind its pointer, or nothing.
use Rattle.std.specs.Prelude.{Option, Some, None}
use Rattle.std.specs.Box.Ownership.{box_owns}
use Rattle.std.specs.Coded.{Coded}
use Rattle.std.specs.declared.alloc.Global.{Global}
use Rattle.std.specs.contracts.impls.GlobalAllocator.TheImpl.{ghosts}
use base.Fml.{Fml, ftrue}
use denote.RawPtr.{Ptr}
use Rattle.iv_connection.specs.declared.results.QueryResult.{QueryResult}
use Rattle.iv_connection.specs.contracts.results.QueryResult.{the_row as the_result}

-- the rows behind a pointer
abbrev pub Rows : Type 0
Rows = QueryResult

abbrev pub rows_code : Coded Rows
rows_code = the_result.coded

-- The pointer leads to a box of rows, which may be freed; to nothing where there are none.
abbrev pub owns_rows : Global → Ptr → Option Rows → Fml
owns_rows alloc p None = ftrue
owns_rows alloc p (Some x) = box_owns (ghosts.dealloc_token alloc) the_result p x
