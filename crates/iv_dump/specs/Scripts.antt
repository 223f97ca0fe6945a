-- The scripts of a dump: none is longer than a script may be, and each is the texts of some statements.
use Rattle.std.specs.Prelude.{◌≡◌, ℕ, ◌≤◌, List, [], ◌∷◌, flat_map, length, map}
use Rattle.iv_write.specs.Layouts.{text_of}
use Rattle.iv_write.specs.Statements.{whole_words}
use Rattle.iv_dump.specs.Types.{Statement}
pub use Rattle.iv_dump.specs.declared.scripts.TheConstants.{LONGEST_SCRIPT}

abbrev pub AreShort : List (List ℕ) → Type 0
AreShort [] = Unit {0}
AreShort (s ∷ scripts) = (length s ≤ LONGEST_SCRIPT) × AreShort scripts

-- a statement with its semicolon and a line end
abbrev pub statement_text : Statement → List ℕ
statement_text s = text_of (whole_words s)

abbrev pub texts_of : List Statement → List ℕ
texts_of statements = flat_map statement_text statements

-- lists, one after another
abbrev pub joined : {A : Type 0} → List (List A) → List A
joined lists = flat_map (λ list. list) lists

-- Together the scripts are these statements, in their order. No statement is cut in two.
pub record AreScripts (statements : List Statement) (scripts : List (List ℕ)) : Type 0 where
  pub parts : List (List Statement)
  pub all : statements ≡ joined parts
  pub texts : scripts ≡ map texts_of parts
