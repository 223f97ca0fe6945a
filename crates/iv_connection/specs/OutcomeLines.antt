-- The lines of the last outcome, as the program writes them.
use Rattle.std.specs.Prelude.{ℕ, if◌then◌else◌, List, Option, Some, None, slice_get}
use Rattle.iv_account.specs.declared.entry.Entry.{Entry}
use Rattle.iv_text.specs.declared.format.Format.{Format}
use Rattle.iv_script.specs.Transcript.{outcome_lines}
use Rattle.iv_syntax.specs.declared.statement.Statement.{Statement}
use Rattle.iv_shown.specs.declared.connection.Connection.{Connection}

-- the statement that was executed last, where it is among those that were read last
abbrev pub executed : List Statement → Option ℕ → Option Statement
executed statements (Some at) = slice_get statements at
executed statements None = None

-- The account of the last outcome, where the session has it. There is none where no account was asked for when the outcome was answered, or
-- where the session's account was cleared since: by sqlkeep_explain, by ROLLBACK as a call, or by a dump.
abbrev pub account : Connection → Option (List Entry)
account o = if o.is_told then Some o.session.account.entries else None

-- in this format, with the columns or the name of a refusal where accounts are asked for now, and with the account where the session has it
abbrev pub lines_of : Format → ℕ → Connection → List ℕ
lines_of format number o =
    outcome_lines (record { format = format; explain = o.session.account.asked }) number (executed o.statements o.executed)
    o.session.state.schema o.session.state.limits o.outcome (account o)
