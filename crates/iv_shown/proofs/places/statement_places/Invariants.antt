use Rattle.std.proofs.Common.{◌≡◌, ◌++◌, length}
use Rattle.iv_shown.specs.Places.{places_from, statement_places}
use Rattle.iv_shown.proofs.places.statement_places.Given as goal

abbrev pub invariant-loop-token : goal.invariant-loop-token
invariant-loop-token l = l.found.items ++ places_from l.reached.begin l.reached.inside l.rest ≡ statement_places l.tokens

abbrev pub decreases-loop-token : goal.decreases-loop-token
decreases-loop-token l = length l.rest
