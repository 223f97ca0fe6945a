-- What is told of violations of deferred constraints that came and went: lines in words, and members in JSON.
use Rattle.std.specs.Prelude.{ℕ, List, [], ◌∷◌, ◌++◌, codes, slice_get, Option, Some, None, Ok}
use Rattle.std.specs.List.{flat_map}
use Rattle.iv_catalogue.specs.Catalogues.{Schema}
use Rattle.iv_catalogue.specs.declared.cause.Fault.{Fault}
use Rattle.iv_catalogue.specs.declared.constraint.Constraint.{Constraint}
use Rattle.iv_machine.specs.declared.answer.Answer.TheVariants.{Done}
use Rattle.iv_account.specs.declared.entry.Entry.{Entry}
use Rattle.iv_account.specs.declared.entry.Entry.TheVariants.{Faulted}
use Rattle.iv_text.specs.Lines.{name_of}
use Rattle.iv_text.specs.Rules.{described_text}
use Rattle.iv_print.specs.AccountLines.{fault_rows_text, numbered_text}
use Rattle.iv_text.specs.Json.{json_text, key, member}
use Rattle.iv_print.specs.JsonAccounts.{asked_member, entry_list, place_members}

-- ---- in words

-- a violation that came, in the words of an account
abbrev pub came_line : Schema → Entry → List ℕ
came_line s (Faulted fault rows) =
    codes "  now pending "
    ++ (described_text s (slice_get s.constraints fault.constraint)
    ++ (codes ": " ++ (fault_rows_text s (Ok Done) (slice_get s.constraints fault.constraint) rows ++ codes "\n")))
came_line s _ = []

-- the row of a constraint's table with this number, which may be gone
abbrev pub row_of_text : Schema → Option Constraint → ℕ → List ℕ
row_of_text s (Some k) row = numbered_text s k.table row
row_of_text s None row = []

-- a violation that went
abbrev pub went_line : Schema → Fault → List ℕ
went_line s f =
    codes "  no longer pending "
    ++ (described_text s (slice_get s.constraints f.constraint) ++ (codes ": " ++ (row_of_text s (slice_get s.constraints f.constraint) f.row ++ codes "\n")))

-- The lines of the violations that came, and then of those that went.
abbrev pub pending_lines : Schema → List Entry → List Fault → List ℕ
pending_lines s came went = flat_map (came_line s) came ++ flat_map (went_line s) went

-- ---- in JSON

-- those that came, if any did
abbrev pub came_member : Schema → List Entry → List ℕ
came_member s [] = []
came_member s (entry ∷ entries) = member (codes "now_pending") ++ entry_list s (Ok Done) (entry ∷ entries)

abbrev pub row_of_members : Schema → Option Constraint → ℕ → List ℕ
row_of_members s (Some k) row = place_members s k.table row
row_of_members s None row = []

-- a constraint, what it asks, and a row of its table
abbrev pub went_object : Schema → Fault → List ℕ
went_object s f =
    codes "{"
    ++ (key (codes "constraint")
    ++ (json_text (name_of (slice_get s.constraints f.constraint))
    ++ (asked_member s (slice_get s.constraints f.constraint)
    ++ (row_of_members s (slice_get s.constraints f.constraint) f.row ++ codes "}"))))

abbrev pub further_went : Schema → Fault → List ℕ
further_went s f = codes "," ++ went_object s f

abbrev pub went_objects : Schema → List Fault → List ℕ
went_objects s [] = []
went_objects s (f ∷ faults) = went_object s f ++ flat_map (further_went s) faults

-- those that went, if any did
abbrev pub went_member : Schema → List Fault → List ℕ
went_member s [] = []
went_member s (f ∷ faults) = member (codes "no_longer_pending") ++ (codes "[" ++ (went_objects s (f ∷ faults) ++ codes "]"))

-- The members of the violations that came and of those that went.
abbrev pub pending_members : Schema → List Entry → List Fault → List ℕ
pending_members s came went = came_member s came ++ went_member s went
