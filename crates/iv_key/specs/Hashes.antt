-- The hashes of keys. They keep neighbours together: keys that differ only in their last integer and follow each other have hashes that do
-- so in their lowest bits, so that rows that come one after the other are found at places beside each other.
use Rattle.std.specs.Prelude.{ℕ, ℤ, ◌+◌, ◌%◌, ◌^◌, List, [], ◌∷◌, length, bit_and, bit_or}
use Rattle.std.specs.List.{fold}
use Rattle.std.specs.Hash.{u64}
use Rattle.std.specs.Hash.DefaultHasher.{initial, write, finish}
use Rattle.std.specs.Int.{cast_unsigned, w64}
use Rattle.std.specs.declared.hash.DefaultHasher.{DefaultHasher}
use Rattle.iv_value.specs.declared.value.Value.{Value}
use Rattle.iv_value.specs.declared.value.Value.TheVariants.{Null, Int, Text}

-- a hasher after a number of 64 bits
abbrev pub fed_number : DefaultHasher → ℕ → DefaultHasher
fed_number hasher n = fold write hasher (u64 n)

-- A hasher after a value: a mark tells null from the others, and a text comes after its length. No list of values therefore begins like
-- another list of the same kinds that differs from it, nulls among them.
abbrev pub fed : DefaultHasher → Value → DefaultHasher
fed hasher Null = write hasher (0 ∷ [])
fed hasher (Int n) = fed_number (write hasher (1 ∷ [])) (cast_unsigned w64 n)
fed hasher (Text t) = write (fed_number (write hasher (1 ∷ [])) (length t)) t

-- A hash by that of all values, that of the values before a last integer, and the integer: its lowest 24 bits are the integer added to
-- what is before it, and its other 40 bits are those of all values, so that keys of one hash can't be made by adding up.
abbrev pub near : ℕ → ℕ → ℤ → ℕ
near all before n = bit_or (bit_and all 0xffff_ffff_ff00_0000) (bit_and ((before + cast_unsigned w64 n) % 2 ^ 64) 0xff_ffff)

-- The hash of a key by its last value and a hasher that was fed those before it.
abbrev pub ended : DefaultHasher → Value → ℕ
ended before Null = finish (fed before Null)
ended before (Int n) = near (finish (fed before (Int n))) (finish before) n
ended before (Text t) = finish (fed before (Text t))

-- The hash of a key by a hasher that was fed the values before this one, this one, and what comes after it.
unfoldable pub hash_after : DefaultHasher → Value → List Value → ℕ
hash_after hasher v [] = ended hasher v
hash_after hasher v (w ∷ more) = hash_after (fed hasher v) w more

-- The hash of a key of one value: an integer is its own.
abbrev pub hash_alone : Value → ℕ
hash_alone Null = finish (fed initial Null)
hash_alone (Int n) = cast_unsigned w64 n
hash_alone (Text t) = finish (fed initial (Text t))

-- The hash of a key.
unfoldable pub hash_of : List Value → ℕ
hash_of [] = finish initial
hash_of (v ∷ []) = hash_alone v
hash_of (v ∷ w ∷ more) = hash_after (fed initial v) w more
