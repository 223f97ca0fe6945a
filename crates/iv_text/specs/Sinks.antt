-- What clauses read of a sink.
use Rattle.std.specs.Prelude.{◌≡◌, ℕ, List, [], Option}
use Rattle.iv_text.specs.Counts.{counted}

-- The bytes that a sink holds, where they are known; how many of its calls have failed; and the
-- names of the borrows through which it reaches its device, from the outermost.
pub record SinkState : Type 0 where
  pub contents : Option (List ℕ)
  pub failed : ℕ
  pub borrows : List ℕ

-- the state of a sink that borrows no other one
abbrev pub sink_state : Option (List ℕ) → ℕ → SinkState
sink_state contents failed = record { contents = contents; failed = failed; borrows = [] }

-- one more of its calls has failed, and it reaches the same device
abbrev pub FailsOnce : SinkState → SinkState → Type 0
FailsOnce old new = (new.failed ≡ counted old.failed 1) × (new.borrows ≡ old.borrows)

-- no more of its calls have failed, and it reaches the same device
abbrev pub FailsNever : SinkState → SinkState → Type 0
FailsNever old new = (new.failed ≡ old.failed) × (new.borrows ≡ old.borrows)
