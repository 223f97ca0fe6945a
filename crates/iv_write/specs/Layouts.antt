-- Where spaces and line ends go. They follow from the words alone: an element of CREATE TABLE, a row of VALUES after the first, a
-- statement of a trigger's block and each statement of a script have a line of their own.
use Rattle.std.specs.Prelude.{ℕ, ◌+◌, ◌-◌, ◌^◌, min, Bool, true, false, ◌&&◌, nat_eq, if◌then◌else◌, List, [], ◌∷◌, ◌++◌}
use Rattle.iv_lex.specs.declared.kind.TokenKind.{TokenKind}
use Rattle.iv_lex.specs.declared.kind.TokenKind.TheVariants as kind
use Rattle.iv_lex.specs.Words.{Word, name, number, quoted, plain}
use Rattle.iv_write.specs.declared.layout.Class.{Class}
use Rattle.iv_write.specs.declared.layout.Class.TheVariants as class
use Rattle.iv_write.specs.declared.layout.Place.{Place}
use Rattle.iv_write.specs.declared.layout.Place.TheVariants as place
use Rattle.iv_write.specs.declared.layout.Layout.{Layout}
use Rattle.iv_write.specs.Spelling.{word_text}

-- what the layout sees of a symbol or a reserved word
abbrev pub class_of : TokenKind → Class
class_of kind.LeftParenthesis = class.Open
class_of kind.RightParenthesis = class.Close
class_of kind.Comma = class.Comma
class_of kind.Semicolon = class.Semicolon
class_of kind.Period = class.Period
class_of kind.Count = class.Caller
class_of kind.Varchar = class.Caller
class_of kind.Create = class.Create
class_of kind.Table = class.Table
class_of kind.Atomic = class.Atomic
class_of kind.End = class.End
class_of _ = class.Other

-- and of a word
abbrev pub word_class : Word → Class
word_class (plain k) = class_of k
word_class (name n) = class.Other
word_class (number n) = class.Other
word_class (quoted t) = class.Other

abbrev pub is_table : Place → Bool
is_table place.Table = true
is_table _ = false

abbrev pub is_block : Place → Bool
is_block place.Block = true
is_block _ = false

-- among the elements of a CREATE TABLE, and in none of their parentheses
abbrev pub is_among_elements : Layout → Bool
is_among_elements l = is_table l.place && nat_eq l.depth 1

-- a line end, and a further one with four spaces
abbrev pub line : List ℕ
line = 10 ∷ []

abbrev pub indented_line : List ℕ
indented_line = 10 ∷ 32 ∷ 32 ∷ 32 ∷ 32 ∷ []

-- after a comma: a new line among the elements, and before a further row of VALUES
abbrev pub comma_gap : Layout → Class → List ℕ
comma_gap l class.Open = if is_among_elements l then indented_line else (if nat_eq l.depth 0 then indented_line else 32 ∷ [])
comma_gap l _ = if is_among_elements l then indented_line else 32 ∷ []

-- VARCHAR and COUNT stand before their parenthesis without a space
abbrev pub caller_gap : Class → List ℕ
caller_gap class.Open = []
caller_gap _ = 32 ∷ []

-- a further statement of a block stands four spaces in, and END does not
abbrev pub statement_gap : Class → List ℕ
statement_gap class.End = []
statement_gap _ = 32 ∷ 32 ∷ 32 ∷ 32 ∷ []

abbrev pub gap_after : Layout → Class → Class → List ℕ
gap_after l class.Nothing next = []
gap_after l class.Period next = []
gap_after l class.Open next = if is_among_elements l then indented_line else []
gap_after l class.Comma next = comma_gap l next
gap_after l class.Semicolon next = if is_block l.place then statement_gap next else []
gap_after l class.Caller next = caller_gap next
gap_after l class.Atomic next = indented_line
gap_after l _ next = 32 ∷ []

-- what stands before the next word
abbrev pub gap : Layout → Class → List ℕ
gap l class.Comma = []
gap l class.Semicolon = []
gap l class.Period = []
gap l class.Close = if is_among_elements l then line else []
gap l next = gap_after l l.last next

-- ---- the layout after a word

abbrev pub place_of_table : Class → Place → Place
place_of_table class.Create p = place.Table
place_of_table _ p = p

abbrev pub place_of_end : Place → Place
place_of_end place.Block = place.Block
place_of_end _ = place.Statement

abbrev pub place_after : Layout → Class → Place
place_after l class.Table = place_of_table l.last l.place
place_after l class.Atomic = place.Block
place_after l class.End = place.Statement
place_after l class.Semicolon = place_of_end l.place
place_after l _ = l.place

abbrev pub depth_after : ℕ → Class → ℕ
depth_after n class.Open = min (n + 1) (2 ^ 64 - 1)
depth_after n class.Close = n - 1
depth_after n _ = n

abbrev pub after : Layout → Class → Layout
after l c = record { last = c; place = place_after l c; depth = depth_after l.depth c }

-- the layout where a text begins
abbrev pub start : Layout
start = record { last = class.Nothing; place = place.Statement; depth = 0 }

-- ---- the text of words

-- a semicolon ends its line
abbrev pub ending : Class → List ℕ
ending class.Semicolon = line
ending _ = []

-- the text of words that are written from this layout on
abbrev pub text_from : Layout → List Word → List ℕ
text_from l [] = []
text_from l (w ∷ ws) = gap l (word_class w) ++ (word_text w ++ (ending (word_class w) ++ text_from (after l (word_class w)) ws))

abbrev pub layout_from : Layout → List Word → Layout
layout_from l [] = l
layout_from l (w ∷ ws) = layout_from (after l (word_class w)) ws

-- the text of words
abbrev pub text_of : List Word → List ℕ
text_of = text_from start
