-- Places in the text of a script, as they are told to whoever reads it.
use Rattle.std.specs.Prelude.{ℕ, zero, suc, ◌+◌, ◌==◌, ◌&&◌, Bool, not, if◌then◌else◌, List, [], ◌∷◌, drop, take, Option, Some, None, nat_le, nat_lt}
use Rattle.iv_script.specs.declared.place.TheConstants.{MOST_WORDS}
use Rattle.iv_script.specs.declared.place.Place.{Place}

-- a byte that goes on a character of UTF-8
abbrev pub is_continuation : ℕ → Bool
is_continuation byte = nat_le 128 byte && nat_lt byte 192

-- ---- lines and columns

-- the place after a byte at this place
abbrev pub after_byte : Place → ℕ → Place
after_byte p byte =
    if byte == 10 then record { line = p.line + 1; column = 1 }
    else (if is_continuation byte then p else record { line = p.line; column = p.column + 1 })

-- the place after these bytes, of which the first is at this place
abbrev pub place_after : Place → List ℕ → Place
place_after p [] = p
place_after p (byte ∷ bytes) = place_after (after_byte p byte) bytes

-- The place of a byte of a text. Lines and columns count from 1, and columns count characters.
abbrev pub place_at : List ℕ → ℕ → Place
place_at text at = place_after (record { line = 1; column = 1 }) (take at text)

-- ---- words

-- the end of a line, or a control character that isn't a tab
abbrev pub ends_words : ℕ → Bool
ends_words byte = nat_lt byte 32 && not (byte == 9)

-- how many characters there may be after a byte of the words, where there may be so many with it; none where the words end before it
abbrev pub room_after : ℕ → ℕ → Option ℕ
room_after room byte =
    if ends_words byte then None
    else (if is_continuation byte then Some room else elim room [ zero ↦ None | suc less ↦ Some less ])

-- the words at the front of a text, of at most so many characters
abbrev pub words_of : ℕ → List ℕ → List ℕ
words_of room [] = []
words_of room (byte ∷ bytes) = elim (room_after room byte) [ Some less ↦ byte ∷ words_of less bytes | None ↦ [] ]

-- The words at a byte of a text: what is left of the line, or its first characters.
abbrev pub words_at : List ℕ → ℕ → List ℕ
words_at text at = words_of MOST_WORDS (drop at text)
