-- What a handle owns: the box of what is open behind its pointer, or nothing.
use Rattle.std.specs.Prelude.{Option, Some, None}
use Rattle.std.specs.Box.Ownership.{box_owns}
use Rattle.std.specs.Coded.{Coded}
use Rattle.std.specs.declared.alloc.Global.{Global}
use Rattle.std.specs.contracts.impls.GlobalAllocator.TheImpl.{ghosts}
use base.Fml.{Fml, ftrue}
use denote.RawPtr.{Ptr}
use Rattle.iv_shown.specs.declared.connection.Connection.{Connection}
use Rattle.iv_shown.specs.contracts.connection.Connection.{the_row as the_opened}

-- what is open behind a pointer
abbrev pub Behind : Type 0
Behind = Connection

abbrev pub behind_code : Coded Behind
behind_code = the_opened.coded

-- The pointer leads to a box of what is open, which may be freed; to nothing where nothing is open.
abbrev pub owns_behind : Global → Ptr → Option Behind → Fml
owns_behind alloc p None = ftrue
owns_behind alloc p (Some x) = box_owns (ghosts.dealloc_token alloc) the_opened p x
