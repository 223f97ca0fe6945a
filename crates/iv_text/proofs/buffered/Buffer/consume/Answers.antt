use Rattle.std.proofs.Common.{◌≡◌, ◌+◌, ◌-◌, length, take, drop, sym, ap, ◌∙◌, arith, length-drop, length-take-le}
use lib.Seq.{paste}
use Rattle.std.proofs.lemmas.List.{drop-take}
use Rattle.std.proofs.lemmas.List.Edits.{take-paste}
use Rattle.iv_text.proofs.buffered.Buffer.consume.Goals as goal

pub returns : goal.returns
returns c =
    let all = c.self.inside.bytes in
    let end = c.self.inside.len in
    let from = c.args.count in
    let size : length c.args.self.now ≡ end = ap length (sym c.self.view_is) ∙ length-take-le end all (omega (arith, c.self.invariant, c.self.told)) in
    let same : end - from ≡ 0 + (end - from) = omega arith in
    let whole : from + (end - from) ≡ end = omega (arith, c.requires) in
    ap (take (end - from)) c.copy_within.ensures.after ∙ ap (λ k. take k (paste all 0 (drop from all) (end - from))) same
    ∙ take-paste all 0 (drop from all) (end - from) (omega arith) (omega (arith, c.self.invariant, c.self.told, length-drop from all))
    ∙ sym (drop-take from (end - from) all) ∙ ap (λ k. drop from (take k all)) whole ∙ ap (drop from) c.self.view_is
