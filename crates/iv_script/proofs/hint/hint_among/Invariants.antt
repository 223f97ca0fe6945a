use Rattle.std.proofs.Common.{◌≡◌, drop, map}
use Rattle.iv_script.specs.Hints.{hint_among}
use Rattle.iv_script.proofs.hint.hint_among.Given as goal

abbrev pub invariant-loop-patterns : goal.invariant-loop-patterns
invariant-loop-patterns l =
    hint_among (map (λ row. ((row.0.0.now, row.0.1.now), row.1.now)) (drop l.patterns-index l.rows)) l.before l.word
    ≡ hint_among (map (λ row. ((row.0.0.now, row.0.1.now), row.1.now)) l.rows) l.before l.word
