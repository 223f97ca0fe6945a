-- What a text is written as.
use Rattle.std.specs.Prelude.{ℕ, List}
use Rattle.std.specs.List.{flat_map}
use Rattle.iv_text.specs.Json.{escaped}
use Rattle.iv_text.specs.declared.format.Format.{Format}
use Rattle.iv_text.specs.declared.format.Format.TheVariants.{Words, Json}

-- as it is, or as it stands between the quotes of JSON
unfoldable pub spelled : Format → List ℕ → List ℕ
spelled Words text = text
spelled Json text = flat_map escaped text
