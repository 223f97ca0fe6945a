-- Which tables have triggers.
use Rattle.std.specs.Prelude.{◌≡◌, ℕ, ◌<◌, ◌==◌, Bool, false, List, get_or}
use Rattle.std.specs.List.{list_any}
use Rattle.iv_expr.specs.declared.row.Change.{Change}
use Rattle.iv_catalogue.specs.declared.limits.TheConstants.{MOST_TABLES}
use Rattle.iv_catalogue.specs.declared.plan.Trigger.{Trigger}

-- some of these triggers is on the table
abbrev pub has_trigger : List Trigger → ℕ → Bool
has_trigger triggers table = list_any (λ t. t.table == table) triggers

-- each table that a database may have is flagged if it has a trigger
abbrev pub AreFlagged : List Trigger → List Bool → Type 0
AreFlagged triggers flags = (table : ℕ) → table < MOST_TABLES → get_or flags table false ≡ has_trigger triggers table

-- some of these changes is on a table that has triggers
abbrev pub some_have_triggers : List Trigger → List Change → Bool
some_have_triggers triggers changes = list_any (λ c. has_trigger triggers c.table) changes
