-- The words of a cause are longer than its number and the space after it.
use Rattle.std.proofs.Common.{◌≤◌, length, arith}
use Rattle.iv_catalogue.specs.declared.cause.Cause.{Cause}
use Rattle.iv_catalogue.specs.declared.cause.Cause.TheVariants as cause
use Rattle.iv_text.specs.Lines.{cause_words}

pub words_within : (c : Cause) → 3 ≤ length (cause_words c)
words_within cause.Unknown = omega arith
words_within cause.Duplicate = omega arith
words_within cause.SchemaFault = omega arith
words_within cause.InTransaction = omega arith
words_within cause.NoTransaction = omega arith
words_within cause.ActiveTransaction = omega arith
words_within cause.UnknownSavepoint = omega arith
words_within (cause.NotDeferrable c) = omega arith
words_within cause.WrongShape = omega arith
words_within cause.NumberOutOfRange = omega arith
words_within cause.TextTooLong = omega arith
words_within (cause.Restrict f) = omega arith
words_within (cause.Violation f) = omega arith
words_within (cause.ActionConflict f) = omega arith
words_within (cause.Signal t place) = omega arith
words_within (cause.DepthLimit t) = omega arith
words_within cause.TooManyChanges = omega arith
words_within cause.TransactionTooLarge = omega arith
words_within (cause.CommitRefused f) = omega arith
words_within (cause.AddRefused row) = omega arith
words_within cause.Limit = omega arith
words_within cause.OutOfMemory = omega arith
