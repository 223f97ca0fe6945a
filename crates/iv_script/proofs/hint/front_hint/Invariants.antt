use Rattle.std.proofs.Common.{◌≡◌, drop, map}
use Rattle.iv_script.specs.Hints.{front_hint}
use Rattle.iv_script.proofs.hint.front_hint.Given as goal

abbrev pub invariant-loop-front : goal.invariant-loop-front
invariant-loop-front l =
    front_hint (map (λ row. (row.0.now, row.1.now)) (drop l.front-index l.rows)) l.bytes l.other
    ≡ front_hint (map (λ row. (row.0.now, row.1.now)) l.rows) l.bytes l.other
