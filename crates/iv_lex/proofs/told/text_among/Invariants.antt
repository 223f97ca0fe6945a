use Rattle.std.proofs.Common.{◌≡◌, drop, map}
use Rattle.iv_lex.specs.Told.{text_among}
use Rattle.iv_lex.proofs.told.text_among.Given as goal

abbrev pub invariant-loop-text : goal.invariant-loop-text
invariant-loop-text l =
    text_among (map (λ row. (row.0.now, row.1)) (drop l.text-index l.texts)) l.kind
    ≡ text_among (map (λ row. (row.0.now, row.1)) l.texts) l.kind
