-- A statement that is refused for a limit: what was counted, and which statements of triggers' bodies had begun in it.
use Rattle.std.specs.Prelude.{ℕ, suc, ◌-◌, Bool, true, false, ◌==◌, if◌then◌else◌, List, [], ◌∷◌, ◌++◌, codes, decimal, length, Option, Some, None, Result, Ok, Err}
use Rattle.iv_catalogue.specs.Catalogues.{Schema, trigger_numbered}
use Rattle.iv_catalogue.specs.declared.cause.Cause.{Cause}
use Rattle.iv_catalogue.specs.declared.cause.Cause.TheVariants as cause
use Rattle.iv_catalogue.specs.declared.cause.Refusal.{Refusal}
use Rattle.iv_machine.specs.Bounds.{Bounds, most_changes_in_a_transaction}
use Rattle.iv_machine.specs.declared.answer.Answer.{Answer}
use Rattle.iv_account.specs.declared.entry.Entry.{Entry}
use Rattle.iv_account.specs.declared.entry.Entry.TheVariants.{Changed, Ran, Began, Ended}
use Rattle.iv_text.specs.Counts.{counted}
use Rattle.iv_text.specs.Lines.{trigger_name}
use Rattle.iv_text.specs.declared.way.Begun.{Begun}
use Rattle.iv_text.specs.declared.way.Latest.{Latest}
use Rattle.iv_text.specs.declared.way.Limit.{Limit}
use Rattle.iv_text.specs.declared.way.Limit.TheVariants.{Depth, Changes, Transaction}

-- ---- how deep

-- The data statement that begins is one deeper, up to its end.
abbrev pub depth_after : ℕ → Entry → ℕ
depth_after depth (Began place) = suc depth
depth_after depth Ended = depth - 1
depth_after depth _ = depth

-- how deep the account ends that is so deep before these entries: so many statements have begun and not ended
abbrev pub depth_from : ℕ → List Entry → ℕ
depth_from depth [] = depth
depth_from depth (entry ∷ entries) = depth_from (depth_after depth entry) entries

-- ---- which statements

-- what is known of a level after an entry at this depth: the trigger that ran last there, and the statement that began last there, with
-- that trigger
abbrev pub latest_after : ℕ → ℕ → Latest → Entry → Latest
latest_after level depth latest (Ran id seen) = if depth == level then record latest { trigger = Some id } else latest
latest_after level depth latest (Began place) =
    if depth == level then record latest { begun = Some (record { trigger = latest.trigger; place = place }) } else latest
latest_after level depth latest _ = latest

abbrev pub latest_from : ℕ → ℕ → Latest → List Entry → Latest
latest_from level depth latest [] = latest
latest_from level depth latest (entry ∷ entries) =
    latest_from level (depth_after depth entry) (latest_after level depth latest entry) entries

abbrev pub nothing_yet : Latest
nothing_yet = record { trigger = None; begun = None }

-- The statement that began last at this level, from 0. If the account ends deeper, it is the one that hasn't ended.
abbrev pub begun_at : ℕ → List Entry → Option Begun
begun_at level entries = (latest_from level 0 nothing_yet entries).begun

-- ---- the way in words

-- the name of a trigger that ran
abbrev pub name_of_trigger : Schema → Option ℕ → List ℕ
name_of_trigger s (Some id) = trigger_name (trigger_numbered s id)
name_of_trigger s None = []

-- a statement of a trigger's body
abbrev pub begun_text : Schema → Option Begun → List ℕ
begun_text s (Some b) = name_of_trigger s b.trigger ++ (codes " statement " ++ decimal b.place)
begun_text s None = []

-- the one at this level, after these words
unfoldable pub begun_after : Schema → List Entry → List ℕ → ℕ → List ℕ
begun_after s entries words level = words ++ begun_text s (begun_at level entries)

-- what stands before the last of so many further ones: of more than three, those from the fourth to the one before the last are left out
abbrev pub before_last : ℕ → List ℕ
before_last more = if more == 3 then codes ", " else codes ", .., "

-- the last of so many further ones, after the first three statements
abbrev pub last_text : Schema → List Entry → ℕ → List ℕ
last_text s entries more = if more == 2 then [] else begun_after s entries (before_last more) more

abbrev pub third_text : Schema → List Entry → ℕ → List ℕ
third_text s entries more = if more == 1 then [] else begun_after s entries (codes ", ") 2 ++ last_text s entries more

-- those after the first
abbrev pub further_text : Schema → List Entry → ℕ → List ℕ
further_text s entries more = if more == 0 then [] else begun_after s entries (codes ", ") 1 ++ third_text s entries more

-- The statements that have begun and not ended, from the outermost to the innermost: so many.
abbrev pub way_text : Schema → List Entry → ℕ → List ℕ
way_text s entries depth = if depth == 0 then [] else begun_after s entries (codes ": ") 0 ++ further_text s entries (depth - 1)

-- ---- what was counted

-- every row change counts, and every statement
abbrev pub used_after : ℕ → Entry → ℕ
used_after used (Changed changes) = counted used (length changes)
used_after used (Began place) = counted used 1
used_after used _ = used

abbrev pub used_from : ℕ → List Entry → ℕ
used_from used [] = used
used_from used (entry ∷ entries) = used_from (used_after used entry) entries

-- ---- the limit

abbrev pub limit_of : Cause → Option Limit
limit_of (cause.DepthLimit id) = Some Depth
limit_of cause.TooManyChanges = Some Changes
limit_of cause.TransactionTooLarge = Some Transaction
limit_of _ = None

-- The statement that would be so deep is not begun: the script's own is at depth 1.
abbrev pub depth_words : ℕ → List ℕ
depth_words depth = (codes "depth " ++ decimal (counted depth 1)) ++ (codes ", and " ++ (decimal depth ++ codes " is the most"))

-- Of what a statement may have, so much is counted.
abbrev pub used_words : ℕ → List Entry → List ℕ
used_words most entries =
    (codes "counted so far " ++ decimal (used_from 1 entries))
    ++ (codes ", " ++ (decimal most ++ codes " is the most, and this or the next row changes are too many"))

abbrev pub transaction_words : List ℕ
transaction_words = codes "a transaction has at most " ++ (decimal most_changes_in_a_transaction ++ codes " row changes")

-- which limit, and what was counted
abbrev pub limit_words : Bounds → List Entry → ℕ → Limit → List ℕ
limit_words limits entries depth Depth = depth_words depth
limit_words limits entries depth Changes = used_words limits.changes entries
limit_words limits entries depth Transaction = transaction_words

-- with the way that led there
unfoldable pub limit_text : Schema → Bounds → List Entry → Limit → List ℕ
limit_text s limits entries limit = limit_words limits entries (depth_from 0 entries) limit ++ way_text s entries (depth_from 0 entries)

-- a line for a statement that is refused for a limit of its session or of all
abbrev pub limit_line : Schema → Bounds → List Entry → Result Answer Refusal → List ℕ
limit_line s limits entries (Ok a) = []
limit_line s limits entries (Err r) = elim (limit_of r.cause) [ Some limit ↦ codes "  " ++ (limit_text s limits entries limit ++ codes "\n") | None ↦ [] ]
