use Rattle.std.proofs.Common.{rules, ◌≡◌, ◌+◌, ◌∷◌, ◌++◌, ◌∙◌, ap, arith, length, length-append, sym}
use Rattle.iv_shown.specs.Cells.{placed, row_text, text_of}
use Rattle.iv_shown.proofs.Placing.{placed_append}
use Rattle.iv_shown.proofs.row_buffers.copy_texts.Goals as goal

pub loop-value-preserved : goal.loop-value-preserved
loop-value-preserved c =
    let old = c.loop-value.buffer in
    let at = c.loop-value.at in
    let others = c.in-Some.others.now in
    let text = c.text_of-text.result.now in
    let e : c.loop-value.rest.now ≡ c.in-Some.value.now ∷ others = search rules in
    let is : text ≡ text_of c.in-Some.value.now = c.text_of-text.ensures in
    let long : length (row_text c.loop-value.rest.now) ≡ length text + length (row_text others) =
    ap (λ l. length (row_text l)) e ∙ length-append (text_of c.in-Some.value.now) (row_text others) ∙ ap (λ l. length l + length (row_text others)) (sym is) in
    record {
      bytes = ap (λ b. placed b (at + length text) (row_text others)) c.copy_bytes.ensures.bytes
          ∙ placed_append old at text (row_text others)
          ∙ ap (λ l. placed old at (l ++ row_text others)) is
          ∙ ap (λ l. placed old at (row_text l)) (sym e)
          ∙ c.loop-value.invariant.bytes;
      within = omega (arith, long, c.loop-value.invariant.within, c.copy_bytes.ensures.length);
      same = c.copy_bytes.ensures.length ∙ c.loop-value.invariant.same;
    }
