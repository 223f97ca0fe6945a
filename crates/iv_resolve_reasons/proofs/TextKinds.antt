-- Integers and texts by the columns that they don't suit.
use Rattle.std.proofs.Common.{◌≡◌, refl, Bool, true, false, ◌||◌, List, Some}
use Rattle.iv_syntax.specs.declared.table.ColumnType.TheVariants.{Integer, Varchar}
use Rattle.iv_syntax.specs.declared.tree.Expression.{Expression}
use Rattle.iv_resolution.specs.Scopes.{NamedRange}
use Rattle.iv_resolution.specs.Terms.{is_integer, is_text}
use Rattle.iv_resolution.specs.Changes.{clashes_with}

or_nothing : (b : Bool) → (b || false) ≡ b
or_nothing true = refl
or_nothing false = refl

pub text_by_clash : (ranges : List NamedRange) (e : Expression) → clashes_with (Some Integer) ranges e ≡ is_text ranges e
unfolding clashes_with
text_by_clash ranges e = or_nothing (is_text ranges e)

pub integer_by_clash : (ranges : List NamedRange) (e : Expression) → clashes_with (Some (Varchar 1)) ranges e ≡ is_integer ranges e
unfolding clashes_with
integer_by_clash ranges e = refl
