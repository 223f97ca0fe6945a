-- Why a script isn't dumped or laid out, by why it isn't read or written.
use Rattle.std.proofs.Common.{◌≡◌, ◌≢◌, ◌+◌, ◌<◌, ◌≤◌, ℕ, List, length, Option, Some, None, option_map, Result, Ok, Err, IfErr, IfOk, IfSome, OnOk, refl, sym, ap, subst, rules}
use Rattle.std.specs.Str.{IsUtf8}
use Rattle.iv_syntax.specs.declared.statement.Statement.{Statement}
use Rattle.iv_parse.specs.declared.parser.SyntaxFault.{SyntaxFault}
use Rattle.iv_parse.specs.Script.{IsFault, IsScript}
use Rattle.iv_machine.specs.Bounds.{Bounds}
use Rattle.iv_text.specs.Counts.{counted}
use Rattle.iv_text.specs.Sinks.{SinkState}
use Rattle.iv_script.specs.Lengths.{Fits}
use Rattle.iv_script.specs.declared.summary.RunFault.{RunFault}
use Rattle.iv_script.specs.declared.summary.RunFault.TheVariants.{Read, TooLong, NotUtf8, Write, NoMemory}
use Rattle.iv_program.specs.declared.notes.Notes.{Notes}
use Rattle.iv_program.specs.declared.notes.Stop.{Stop}
use Rattle.iv_program.specs.declared.notes.Stop.TheVariants.{Run, LongStatement, NotRestored}
use Rattle.iv_program.specs.declared.script.Script.{Script}
use Rattle.iv_program.specs.declared.script.ScriptFault.{ScriptFault}
use Rattle.iv_program.specs.Notes.{fault_alone}
use Rattle.iv_program.specs.Reads.{IsRead, RefusesBytes, Unread, fault_seen}
use Rattle.iv_program.specs.Stopping.{StoppedBy, Unwritten}
use Rattle.iv_program.specs.Formats.{Formats, LaysOut}
use Rattle.iv_program.specs.Dumps.{Dumps, DumpsUnless}

-- what the contract of reading says of its fault
pub record Failed (longest : ℕ) (fault : RunFault) (found : Option (List ℕ)) (failed failed_then : ℕ) : Type 0 where
  pub too_long : fault ≡ TooLong → IfSome found (λ xs. longest < length xs)
  pub read : fault ≡ Read → failed_then ≡ counted failed 1
  pub others : fault ≢ Read → failed_then ≡ failed
  pub not_utf8 : fault ≢ NotUtf8
  pub write : fault ≢ Write

pub unread : (longest : ℕ) (fault : RunFault) (found : Option (List ℕ)) (failed failed_then : ℕ)
    → Failed longest fault found failed failed_then → Unread longest fault found failed failed_then
unread longest Read found failed failed_then f = f.read refl
unread longest TooLong found failed failed_then f = (f.too_long refl, f.others (search rules))
unread longest NotUtf8 found failed failed_then f = absurd (f.not_utf8 refl)
unread longest NoMemory found failed failed_then f = f.others (search rules)
unread longest Write found failed failed_then f = absurd (f.write refl)

-- bytes that were read whole, and are no script
pub refused : (longest : ℕ) (fault : RunFault) (found : Option (List ℕ)) (bytes : List ℕ) (failed failed_then : ℕ)
    → IfSome found (λ xs. bytes ≡ xs) → length bytes ≤ longest → failed_then ≡ failed → RefusesBytes fault bytes
    → Unread longest fault found failed failed_then
refused longest NotUtf8 None bytes failed failed_then is short same r = (tt, same)
refused longest NotUtf8 (Some xs) bytes failed failed_then is short same r = (rw (← is) (short, r), same)
refused longest NoMemory found bytes failed failed_then is short same r = same
refused longest Read found bytes failed failed_then is short same r = absurd r
refused longest TooLong found bytes failed failed_then is short same r = absurd r
refused longest Write found bytes failed failed_then is short same r = absurd r

-- a script that isn't read leaves the writer as it is
pub stopped_reading : (longest : ℕ) (fault : RunFault) (found : Option (List ℕ)) (failed failed_then : ℕ) (s : SinkState)
    → Unread longest fault found failed failed_then → StoppedBy longest (Run fault) found failed failed_then s s
stopped_reading longest Read found failed failed_then s u = (u, refl)
stopped_reading longest TooLong found failed failed_then s u = (u.0, u.1, refl)
stopped_reading longest NotUtf8 found failed failed_then s u = (u.0, u.1, refl)
stopped_reading longest NoMemory found failed failed_then s u = (u, refl)
stopped_reading longest Write found failed failed_then s u = absurd u

unwritten : (longest : ℕ) (stop : Stop) (found : Option (List ℕ)) (failed failed_then : ℕ) (before after : SinkState)
    → IfSome found (λ xs. Fits longest xs) → failed_then ≡ failed → Unwritten stop before after
    → StoppedBy longest stop found failed failed_then before after
unwritten longest (Run Write) found failed failed_then before after f same u = (f, same, u)
unwritten longest (Run NoMemory) found failed failed_then before after f same u = (same, u)
unwritten longest (Run Read) found failed failed_then before after f same u = absurd u
unwritten longest (Run TooLong) found failed failed_then before after f same u = absurd u
unwritten longest (Run NotUtf8) found failed failed_then before after f same u = absurd u
unwritten longest LongStatement found failed failed_then before after f same u = (f, same, u)
unwritten longest NotRestored found failed failed_then before after f same u = (f, same, u)

-- one that was read, and isn't written
pub stopped_writing : (longest : ℕ) (done : Result Notes Stop) (found : Option (List ℕ)) (failed failed_then : ℕ) (before after : SinkState)
    → IfSome found (λ xs. Fits longest xs) → failed_then ≡ failed → IfErr done (λ stop. Unwritten stop before after)
    → IfErr done (λ stop. StoppedBy longest stop found failed failed_then before after)
stopped_writing longest (Ok notes) found failed failed_then before after f same u = tt
stopped_writing longest (Err stop) found failed failed_then before after f same u = unwritten longest stop found failed failed_then before after f same u

-- ---- what is written of a script that was read

formats_some : (found : Option (List ℕ)) (statements : List Statement) (fault : Option ScriptFault) (notes : Notes) (before after : SinkState)
    → IfSome found (λ bytes. IsRead bytes statements fault) → notes ≡ fault_alone fault → LaysOut fault statements before after
    → IfSome found (λ bytes. Formats bytes notes before after)
formats_some None statements fault notes before after r n w = tt
formats_some (Some bytes) statements fault notes before after r n w =
    record { statements = statements; fault = fault; read = r; written = w; notes_are = n }

pub formats : (done : Result Notes Stop) (found : Option (List ℕ)) (statements : List Statement) (fault : Option ScriptFault) (before after : SinkState)
    → IfSome found (λ bytes. IsRead bytes statements fault) → IfOk done (λ notes. notes ≡ fault_alone fault)
    → IfOk done (λ _. LaysOut fault statements before after)
    → IfOk done (λ notes. IfSome found (λ bytes. Formats bytes notes before after))
formats (Err stop) found statements fault before after r n w = tt
formats (Ok notes) found statements fault before after r n w = formats_some found statements fault notes before after r n w

-- the notes are their fault alone
pub fault_of_notes : (done : Result Notes Stop) (fault : Option ScriptFault) → IfOk done (λ notes. notes ≡ fault_alone fault)
    → IfOk done (λ notes. notes ≡ fault_alone notes.fault)
fault_of_notes (Err stop) fault n = tt
fault_of_notes (Ok notes) fault n = rw n refl

dumps_some : (limits : Bounds) (bytes : List ℕ) (statements : List Statement) (fault : Option ScriptFault) (notes : Notes) (before after : SinkState)
    → IsRead bytes statements fault → DumpsUnless fault limits statements notes before after → Dumps bytes limits notes before after
dumps_some limits bytes statements None notes before after r w =
    record {
      statements = statements;
      read = subst (λ (o : Option ScriptFault). IsRead bytes statements o) (sym w.no_fault) r;
      written = subst (λ (o : Option ScriptFault). DumpsUnless o limits statements notes before after) (sym w.no_fault) w;
    }
dumps_some limits bytes statements (Some fault) notes before after r w =
    record {
      statements = statements;
      read = subst (λ (o : Option ScriptFault). IsRead bytes statements o) (sym (ap (λ (n : Notes). n.fault) w.0)) r;
      written = subst (λ (o : Option ScriptFault). DumpsUnless o limits statements notes before after) (sym (ap (λ (n : Notes). n.fault) w.0)) w;
    }

pub dumps : (limits : Bounds) (done : Result Notes Stop) (found : Option (List ℕ)) (statements : List Statement) (fault : Option ScriptFault) (before after : SinkState)
    → IfSome found (λ bytes. IsRead bytes statements fault) → IfOk done (λ notes. DumpsUnless fault limits statements notes before after)
    → IfOk done (λ notes. IfSome found (λ bytes. Dumps bytes limits notes before after))
dumps limits (Err stop) found statements fault before after r w = tt
dumps limits (Ok notes) None statements fault before after r w = tt
dumps limits (Ok notes) (Some bytes) statements fault before after r w = dumps_some limits bytes statements fault notes before after r w

-- ---- what is read

pub read_seen : (bytes : List ℕ) (statements : List Statement) (found : Option SyntaxFault) (fault : Option ScriptFault)
    → IsScript bytes statements (option_map (λ f. f.at) found) → IfSome found (λ f. IsFault bytes statements f)
    → fault ≡ option_map (fault_seen bytes (length statements + 1)) found → IsRead bytes statements fault
read_seen bytes statements None fault script word e = subst (IsRead bytes statements) (sym e) script
read_seen bytes statements (Some f) fault script word e = subst (IsRead bytes statements) (sym e) (f, script, word, refl)

-- so of the bytes that a reader had, where they are known
pub read_of_known : (done : Result Script RunFault) (found : Option (List ℕ)) (bytes : List ℕ) → IfSome found (λ xs. bytes ≡ xs)
    → IfOk done (λ s. IsRead bytes s.parsed.statements s.fault) → IfOk done (λ s. IfSome found (λ xs. IsRead xs s.parsed.statements s.fault))
read_of_known (Err e) found bytes is r = tt
read_of_known (Ok s) None bytes is r = tt
read_of_known (Ok s) (Some xs) bytes is r = rw (← is) r

pub fits_of_known : (done : Result Script RunFault) (longest : ℕ) (found : Option (List ℕ)) (bytes : List ℕ) → IfSome found (λ xs. bytes ≡ xs)
    → length bytes ≤ longest → OnOk done (IsUtf8 bytes) → OnOk done (IfSome found (λ xs. Fits longest xs))
fits_of_known (Err e) longest found bytes is short u = tt
fits_of_known (Ok s) longest None bytes is short u = tt
fits_of_known (Ok s) longest (Some xs) bytes is short u = rw (← is) (short, u)

pub unread_bytes : (done : Result Script RunFault) (longest : ℕ) (found : Option (List ℕ)) (bytes : List ℕ) (failed failed_then : ℕ)
    → IfSome found (λ xs. bytes ≡ xs) → length bytes ≤ longest → failed_then ≡ failed → IfErr done (λ fault. RefusesBytes fault bytes)
    → IfErr done (λ fault. Unread longest fault found failed failed_then)
unread_bytes (Ok s) longest found bytes failed failed_then is short same r = tt
unread_bytes (Err fault) longest found bytes failed failed_then is short same r = refused longest fault found bytes failed failed_then is short same r
