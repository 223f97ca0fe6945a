-- Bytes that are copied to a buffer.
use Rattle.std.specs.Prelude.{◌≡◌, ℕ, List, ◌++◌, drop, length, min, take}

-- From this place on as many bytes as there are and as the buffer has room for went to its beginning, and the rest of it stays.
pub record Copies (from : ℕ) (bytes old new : List ℕ) (count : ℕ) : Type 0 where
  pub count_is : count ≡ min (length (drop from bytes)) (length old)
  pub bytes_are : new ≡ take count (drop from bytes) ++ drop count old
