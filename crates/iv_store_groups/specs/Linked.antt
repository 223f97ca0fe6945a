-- Places that are found by their hash.
use Rattle.std.specs.Prelude.{◌≡◌, ◌≢◌, ℕ, zero, suc, ◌+◌, ◌-◌, ◌^◌, ◌<◌, ◌≤◌, ◌==◌, ◌++◌, Bool, true, false, List, [], ◌∷◌, length, slice_get, slice_index, slice_set, bit_and, if◌then◌else◌, Option, Some, None}
use Rattle.std.specs.BTreeMap.{BTreeMap, get}
use Rattle.std.specs.Ordering.{nat_cmp}

-- An end: one more than a place, and 0 if there is none.
abbrev pub end_of : Option ℕ → ℕ
end_of None = 0
end_of (Some end) = end

-- The end that a map has for a hash.
abbrev pub map_end : BTreeMap ℕ ℕ → ℕ → ℕ
map_end others hash = end_of (get nat_cmp others hash)

-- The slot of a hash among so many.
abbrev pub slot_of : ℕ → ℕ → ℕ
slot_of hash count = bit_and hash (count - 1)

-- What stands in a slot whose hash was given back: an end that no place has. The map may have other hashes of the slot.
abbrev pub gone : ℕ
gone = 2 ^ 32 - 1

-- the list has this hash at a place
abbrev pub has_at : List ℕ → ℕ → ℕ → Bool
has_at hashes place hash = elim (slice_get hashes place) [ Some h ↦ h == hash | None ↦ false ]

-- The end of the last place of a hash, by what stands in its slot: no place if the slot is free, and what the map has if another hash has
-- the slot, or had it, or there is none.
abbrev pub end_by : List ℕ → ℕ → ℕ → Option ℕ → ℕ
end_by hashes hash other None = other
end_by hashes hash other (Some zero) = 0
end_by hashes hash other (Some (suc place)) = if has_at hashes place hash then suc place else other

-- A hash may come into a slot, by what stands there: the slot is free, or its hash is gone and the map doesn't have this one, or it
-- has this one.
abbrev pub is_open : List ℕ → ℕ → ℕ → Option ℕ → Bool
is_open hashes hash other None = false
is_open hashes hash other (Some zero) = true
is_open hashes hash other (Some (suc place)) = if suc place == gone then other == 0 else has_at hashes place hash

-- The end of the last place of a hash.
unfoldable pub last_end : List ℕ → BTreeMap ℕ ℕ → List ℕ → ℕ → ℕ
last_end slots others hashes hash = end_by hashes hash (map_end others hash) (slice_get slots (slot_of hash (length slots)))

-- Each slot is free.
abbrev pub AreFree : List ℕ → Type 0
AreFree slots = (slot end : ℕ) → slice_get slots slot ≡ Some end → end ≡ 0

-- A hash whose slot is free isn't in the map.
abbrev pub NoneWhereFree : List ℕ → BTreeMap ℕ ℕ → Type 0
NoneWhereFree slots others = (hash : ℕ) → slice_get slots (slot_of hash (length slots)) ≡ Some 0 → map_end others hash ≡ 0

-- An end in a slot is that of a place whose hash has this slot and isn't in the map; a hash whose slot is free isn't there either.
pub record AreFiled (slots : List ℕ) (others : BTreeMap ℕ ℕ) (hashes : List ℕ) : Type 0 where
  pub within : (slot place : ℕ) → slice_get slots slot ≡ Some (suc place) → suc place ≢ gone → place < length hashes
  pub slot_is : (slot place : ℕ) → slice_get slots slot ≡ Some (suc place) → suc place ≢ gone → slot_of (slice_index hashes place) (length slots) ≡ slot
  pub not_both : (slot place : ℕ) → slice_get slots slot ≡ Some (suc place) → suc place ≢ gone → map_end others (slice_index hashes place) ≡ 0
  pub free : NoneWhereFree slots others

-- no slot has the end of this place
abbrev pub NotInSlots : List ℕ → ℕ → Type 0
NotInSlots slots place = (slot : ℕ) → slice_get slots slot ≢ Some (suc place)

-- No place from this end on, below count, has the hash.
abbrev pub NoneFrom : List ℕ → ℕ → ℕ → ℕ → Type 0
NoneFrom hashes hash end count = (i : ℕ) → end ≤ i → i < count → slice_index hashes i ≢ hash

-- The place before the end has the hash, if the end is above 0.
abbrev pub EndsAt : List ℕ → ℕ → ℕ → Type 0
EndsAt hashes hash end = 0 < end → slice_index hashes (end - 1) ≡ hash

-- For each hash the end of its last place, and for each of count places the end of the place before it that has its hash.
pub record Linked (count : ℕ) (last before hash : ℕ → ℕ) : Type 0 where
  pub last_in : (h : ℕ) → last h ≤ count
  pub last_hash : (h : ℕ) → 0 < last h → hash (last h - 1) ≡ h
  pub last_above : (i : ℕ) → i < count → i < last (hash i)
  pub before_down : (i : ℕ) → i < count → before i ≤ i
  pub before_hash : (i : ℕ) → i < count → 0 < before i → hash (before i - 1) ≡ hash i
  pub before_above : (i j : ℕ) → i < j → j < count → hash i ≡ hash j → i < before j

-- The same of all places except one, to which no end and no link leads.
pub record LinkedBut (count place : ℕ) (last before hash : ℕ → ℕ) : Type 0 where
  pub last_in : (h : ℕ) → last h ≤ count
  pub last_not : (h : ℕ) → last h ≢ suc place
  pub last_hash : (h : ℕ) → 0 < last h → hash (last h - 1) ≡ h
  pub last_above : (i : ℕ) → i < count → i ≢ place → i < last (hash i)
  pub before_down : (i : ℕ) → i < count → i ≢ place → before i ≤ i
  pub before_not : (i : ℕ) → i < count → i ≢ place → before i ≢ suc place
  pub before_hash : (i : ℕ) → i < count → i ≢ place → 0 < before i → hash (before i - 1) ≡ hash i
  pub before_above : (i j : ℕ) → i < j → j < count → i ≢ place → j ≢ place → hash i ≡ hash j → i < before j

-- The last end of the hash at a place, which was that place's, is another one or none.
pub record Ended (slots : List ℕ) (others : BTreeMap ℕ ℕ) (hashes : List ℕ) (place end : ℕ) (new_slots : List ℕ) (new_others : BTreeMap ℕ ℕ) : Type 0 where
  pub filed : AreFiled new_slots new_others hashes
  pub not_here : NotInSlots new_slots place
  pub here : last_end new_slots new_others hashes (slice_index hashes place) ≡ end
  pub rest : (q : ℕ) → q ≢ slice_index hashes place → last_end new_slots new_others hashes q ≡ last_end slots others hashes q

-- What a hash more behind the others leaves of the slots and the map.
pub record Noted (slots : List ℕ) (others : BTreeMap ℕ ℕ) (hashes : List ℕ) (hash : ℕ) (new_slots : List ℕ) (new_others : BTreeMap ℕ ℕ) : Type 0 where
  pub few : length hashes + 1 < gone
  pub filed : AreFiled new_slots new_others (hashes ++ hash ∷ [])
  pub here : last_end new_slots new_others (hashes ++ hash ∷ []) hash ≡ length hashes + 1
  pub rest : (q : ℕ) → q ≢ hash → last_end new_slots new_others (hashes ++ hash ∷ []) q ≡ last_end slots others hashes q

-- The slots and the map have the end of each hash, and each place the link to the place before it. Every end is a number below that for none.
pub record IsLinked (slots : List ℕ) (others : BTreeMap ℕ ℕ) (befores hashes : List ℕ) : Type 0 where
  pub few : length hashes < gone
  pub count : length befores ≡ length hashes
  pub filed : AreFiled slots others hashes
  pub links : Linked (length hashes) (λ h. last_end slots others hashes h) (λ i. slice_index befores i) (λ i. slice_index hashes i)

-- The slots and the map have the end of each hash, for some links.
pub record HasEnds (slots : List ℕ) (others : BTreeMap ℕ ℕ) (hashes : List ℕ) : Type 0 where
  pub befores : List ℕ
  pub linked : IsLinked slots others befores hashes

-- The slots and the map have the end of each hash, as if one place weren't there.
pub record IsParted (place : ℕ) (slots : List ℕ) (others : BTreeMap ℕ ℕ) (befores hashes : List ℕ) : Type 0 where
  pub few : length hashes < gone
  pub count : length befores ≡ length hashes
  pub filed : AreFiled slots others hashes
  pub not_here : NotInSlots slots place
  pub links : LinkedBut (length hashes) place (λ h. last_end slots others hashes h) (λ i. slice_index befores i) (λ i. slice_index hashes i)

-- Above a place each link leads down, to a place of the same hash.
pub record LeadDown (place : ℕ) (befores hashes : List ℕ) : Type 0 where
  pub count : length befores ≡ length hashes
  pub down : (i : ℕ) → place < i → i < length hashes → slice_index befores i ≤ i
  pub same : (i : ℕ) → place < i → i < length hashes → 0 < slice_index befores i → slice_index hashes (slice_index befores i - 1) ≡ slice_index hashes i

-- A place above one, of the same hash as another, whose link leads to that one or below it.
pub record IsReached (from place : ℕ) (befores hashes : List ℕ) (result : ℕ) : Type 0 where
  pub above : place < result
  pub within : result < length hashes
  pub same : slice_index hashes result ≡ slice_index hashes from
  pub reached : slice_index befores result ≤ suc place
