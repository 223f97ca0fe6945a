use Rattle.std.proofs.Common.{◌≡◌, drop, map}
use Rattle.iv_lex.specs.Reserved.{word_among}
use Rattle.iv_lex.proofs.reserved.word_among.Given as goal

abbrev pub invariant-loop-spelling : goal.invariant-loop-spelling
invariant-loop-spelling l =
    word_among (map (λ row. (row.0.now, row.1)) (drop l.spelling-index l.reserved)) l.word
    ≡ word_among (map (λ row. (row.0.now, row.1)) l.reserved) l.word
