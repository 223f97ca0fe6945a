-- What words that give no options may be answered.
use Rattle.std.specs.Prelude.{◌≡◌, ◌≢◌, ⊤, [], Result, MatchResult}
use Rattle.clap.specs.Words.{IsAmong, Kinds}
use Rattle.clap.specs.declared.error.kind.ErrorKind.{ErrorKind}
use Rattle.clap.specs.declared.error.kind.ErrorKind.TheVariants.{DisplayHelp, DisplayVersion}
use Rattle.iv_program.specs.declared.given.WordsError.{WordsError}
use Rattle.iv_program.specs.declared.given.WordsError.TheVariants.{NoMemory, Help, Version, Refused}

-- if clap may give errors of these kinds: the help, if the kind of the help is among them, the version likewise, and a
-- refusal, if another kind is. Memory may always be refused
abbrev pub MayAnswer : Kinds → WordsError → Type 0
MayAnswer kinds NoMemory = ⊤
MayAnswer kinds (Help text) = IsAmong DisplayHelp kinds
MayAnswer kinds (Version text) = IsAmong DisplayVersion kinds
MayAnswer kinds (Refused text) = (k : ErrorKind) × IsAmong k kinds × (k ≢ DisplayHelp) × (k ≢ DisplayVersion)

-- there are options only where no kind of error may come, and else an error as these kinds have it
abbrev pub AnswersBy : {T : Type 0} → Kinds → Result T WordsError → Type 0
AnswersBy kinds answer = MatchResult answer (λ _. kinds ≡ []) (MayAnswer kinds)
