use Rattle.std.proofs.Common.{arith}
use Rattle.iv_text.proofs.CauseLemmas.{words_within}
use Rattle.iv_text.proofs.cause.number_length.Goals as goal

pub returns-then-cause_number-lt10-clause-within : goal.returns-then-cause_number-lt10-clause-within
returns-then-cause_number-lt10-clause-within c = omega (arith, words_within c.args.cause.now)

pub returns-else-cause_number-lt10-clause-within : goal.returns-else-cause_number-lt10-clause-within
returns-else-cause_number-lt10-clause-within c = words_within c.args.cause.now
