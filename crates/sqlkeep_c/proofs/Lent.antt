-- An element that a slice lends, as the list's.
use Rattle.std.proofs.Common.{◌≡◌, ℕ, List, Option, Some, None, Bor, slice_get, ap, sym}
use Rattle.std.specs.Option.{option_copied}
use Rattle.std.specs.Slice.{IsItemAt}
use Rattle.std.proofs.lemmas.Option.{slice_get-get_or, slice_get_past}

pub element_lent : {A : Type 0} (xs : List A) (i : ℕ) (lent : Option (Bor A)) → IsItemAt xs i lent → option_copied lent ≡ slice_get xs i
element_lent xs i None at = sym (slice_get_past xs i at.3)
element_lent xs i (Some x) at = rw (slice_get-get_or xs i x.now at.3.0) (ap Some at.1)
