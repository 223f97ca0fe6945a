use Rattle.std.proofs.Common.{◌≡◌, ◌+◌, ◌-◌, ap, ◌∙◌, arith, length}
use borrow.Rule.Slice.PartMut.{put_mid}
use Rattle.iv_shown.proofs.Placing.{placed_between}
use Rattle.iv_shown.proofs.row_buffers.copy_bytes.Goals as goal

pub returns-clause-bytes : goal.returns-clause-bytes
returns-clause-bytes c =
    let from = c.args.from in
    let bytes = c.args.bytes.now in
    let buffer = c.args.buffer.now in
    let many : from + length bytes - from ≡ length bytes = omega arith in
    ap (λ k. put_mid from k buffer c.copy_from_slice.new.self) many
    ∙ ap (λ l. put_mid from (length bytes) buffer l) c.copy_from_slice.ensures.after
    ∙ placed_between buffer from bytes c.requires
