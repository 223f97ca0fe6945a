-- The command is one of which clap's definitions give the matches and the kinds of errors.
use Rattle.std.proofs.Common.{◌≡◌, true, List, Result, Ok, Err, IfErr, IsErrAnd, refl, subst, sym}
use Rattle.clap.specs.Words.{App, FailsBy, HasKind, HasMatchesOf, Kinds, Text, app_of, fault_of, found_of, is_simple, is_simple_and_free, kind_of, matches_of, rows_of}
use Rattle.clap.specs.declared.builder.command.Command.{Command}
use Rattle.clap.specs.declared.error.Error.{Error}
use Rattle.clap.specs.declared.error.kind.ErrorKind.TheVariants.{OutOfMemory}
use Rattle.clap.specs.declared.parser.matches.ArgMatches.{ArgMatches}
use Rattle.clap.proofs.OnLiterals.{clap_on_literals}
use Rattle.iv_program.specs.CommandLine.{command_line}

simple : is_simple command_line ≡ true
unfolding clap_on_literals
simple = refl

free : is_simple_and_free command_line ≡ true
unfolding clap_on_literals
free = refl

pub meant : (c : Command) (words : List Text) (m : ArgMatches) → app_of c ≡ command_line → HasMatchesOf (app_of c) words m → rows_of (found_of m) ≡ matches_of command_line words
meant c words m e h = let whole : HasMatchesOf command_line words m = subst (λ a. HasMatchesOf a words m) e h in (whole simple).0

-- what clap says of the kinds of the command's errors
pub kinds_meant : (P : Kinds → Type 0) (c : Command) (words : List Text) → app_of c ≡ command_line
    → (is_simple_and_free (app_of c) ≡ true → P (fault_of (app_of c) words)) → P (fault_of command_line words)
kinds_meant P c words e h = (subst (λ (a : App). is_simple_and_free a ≡ true → P (fault_of a words)) e h) free

-- clap's error, told on as it is
pub told_on : {T : Type 0} (r : Result T Error) (e : Error) → IsErrAnd r (λ y. y ≡ e)
    → (kinds : Kinds) → HasKind kinds e → FailsBy kinds r
told_on (Ok x) e h kinds k = absurd h
told_on (Err y) e h kinds k = subst (HasKind kinds) (sym h) k

pub passed_on : {T : Type 0} (r : Result T Error) (e : Error) → IsErrAnd r (λ y. y ≡ e)
    → (A : Type 0) → (A → kind_of e ≡ OutOfMemory) → IfErr r (λ y. A → kind_of y ≡ OutOfMemory)
passed_on (Ok x) e h A k = tt
passed_on (Err y) e h A k = subst (λ (z : Error). A → kind_of z ≡ OutOfMemory) (sym h) k
