-- Where a hole is, where a text stops being a template, and why a template isn't filled.
use Rattle.std.specs.Prelude.{◌≡◌, ◌≢◌, ℕ, ◌+◌, Some, List, ◌∷◌, ◌++◌, length, slice_index}
use Rattle.iv_value.specs.declared.value.Value.{Value}
use Rattle.iv_template.specs.declared.fault.FillFault.{FillFault}
use Rattle.iv_template.specs.declared.fault.FillFault.TheVariants.{NoMemory, NoToken, WrongCount}
use Rattle.iv_template.specs.Templates.{fault_of, Part, IsTemplate, holes}

-- The first hole of a text is between these characters.
pub record IsHole (text front rest : List ℕ) : Type 0 where
  pub whole : text ≡ front ++ 63 ∷ rest
  pub here : fault_of text ≡ Some (length front)

-- the first fault of a text is here, and there is no question mark
pub record IsFaulty (text : List ℕ) (place : ℕ) : Type 0 where
  pub here : fault_of text ≡ Some place
  pub no_mark : slice_index text place ≢ 63

-- The text is a template up to this place, at which there is neither a token nor a question mark.
pub data StopsAt : List ℕ → ℕ → Type 0 where
  at_once : (text : List ℕ) (place : ℕ) → IsFaulty text place → StopsAt text place
  later : (text front rest : List ℕ) (place : ℕ) → IsHole text front rest → StopsAt rest place
      → StopsAt text (length front + 1 + place)

-- why no hole is told of a text that begins at this place of a template
abbrev pub StopsBy : List ℕ → ℕ → FillFault → Type 0
StopsBy text from (NoToken at) = (place : ℕ) × (at ≡ from + place) × IsFaulty text place
StopsBy text from NoMemory = Unit {0}
StopsBy text from _ = ⊥

-- why the holes of a text that begins at this place of a template aren't counted
abbrev pub StopsFrom : List ℕ → ℕ → FillFault → Type 0
StopsFrom text from (NoToken at) = (place : ℕ) × (at ≡ from + place) × StopsAt text place
StopsFrom text from NoMemory = Unit {0}
StopsFrom text from _ = ⊥

-- the text is a template with so many holes
abbrev pub HasHoles : List ℕ → ℕ → Type 0
HasHoles text count = (parts : List Part) × IsTemplate text parts × (holes parts ≡ count)

-- The template stops at a place; or it has a number of holes that isn't that of the values; or memory was refused.
abbrev pub IsRefused : List ℕ → List Value → FillFault → Type 0
IsRefused template values NoMemory = Unit {0}
IsRefused template values (NoToken at) = StopsAt template at
IsRefused template values (WrongCount count given) = HasHoles template count × (given ≡ length values) × (count ≢ given)
