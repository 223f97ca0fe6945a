-- What a clause reads of a device over a reader or a writer of the standard library.
use Rattle.std.specs.Prelude.{ℕ}
use Rattle.iv_text.specs.declared.device.Std.{Std}

-- the reader or the writer under the device
abbrev pub inner_of : {T : Type 0} → Std T → T
inner_of device = device.inner

-- how many calls of the device have failed
abbrev pub failed_count : {T : Type 0} → Std T → ℕ
failed_count device = device.failed

-- how many bytes its reads have given
abbrev pub given_count : {T : Type 0} → Std T → ℕ
given_count device = device.given

-- up to which byte its reads have asked
abbrev pub asked_count : {T : Type 0} → Std T → ℕ
asked_count device = device.asked

-- how many of its reads have reported the end
abbrev pub ends_count : {T : Type 0} → Std T → ℕ
ends_count device = device.ends
