-- The texts of the faults of a run.
use Rattle.std.specs.Prelude.{ℕ, List, codes}
use Rattle.iv_script.specs.declared.summary.RunFault.{RunFault}
use Rattle.iv_script.specs.declared.summary.RunFault.TheVariants.{Read, TooLong, NotUtf8, Write, NoMemory}

abbrev pub run_fault_text : RunFault → List ℕ
run_fault_text Read = codes "cannot read the script"
run_fault_text TooLong = codes "the script is longer than 1048576 bytes"
run_fault_text NotUtf8 = codes "the script is not UTF-8"
run_fault_text Write = codes "cannot write"
run_fault_text NoMemory = codes "out of memory"
