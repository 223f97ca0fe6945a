-- What a proof unfolds to compute the order and the fit of texts that are written out.
use Rattle.std.specs.Prelude.{⊤}
use Rattle.std.specs.Str.{chars}

unfoldable pub values_on_literals : ⊤
unfolding chars
values_on_literals = tt
