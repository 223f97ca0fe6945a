-- The words of conditions and of FROM, an alias after AS. Those of an expression are its `spelling` in iv_parse_terms.
use Rattle.std.specs.Prelude.{ℕ, Option, Some, None, List, [], ◌∷◌, ◌++◌}
use Rattle.iv_syntax.specs.Trees.{enclosed, negated, both, either, exists_where}
use Rattle.iv_lex.specs.declared.kind.TokenKind.TheVariants as kind
use Rattle.iv_lex.specs.Words.{Word, name, plain}
use Rattle.iv_parse_terms.specs.Types.{RangeName, Condition}
use Rattle.iv_parse_terms.specs.Types.condition.{Compare, IsNull, IsNotNull, Exists}
use Rattle.iv_parse_terms.specs.Expressions.{spelling}
use Rattle.iv_parse_terms.specs.Conditions.{comparison_kind, exists_spelling}

abbrev pub alias_words : Option (List ℕ) → List Word
alias_words None = []
alias_words (Some a) = plain kind.As ∷ name a ∷ []

abbrev pub range_words : RangeName → List Word
range_words r = plain kind.From ∷ name r.table ∷ alias_words r.alias

abbrev pub condition_words : Condition → List Word
condition_words (Compare o a b) = spelling a ++ plain (comparison_kind o) ∷ spelling b
condition_words (IsNull a) = spelling a ++ plain kind.Is ∷ plain kind.Null ∷ []
condition_words (IsNotNull a) = spelling a ++ plain kind.Is ∷ plain kind.Not ∷ plain kind.Null ∷ []
condition_words (Exists r) = exists_spelling (range_words r)
condition_words (exists_where r a) = exists_spelling (range_words r ++ plain kind.Where ∷ condition_words a)
condition_words (enclosed a) = plain kind.LeftParenthesis ∷ (condition_words a ++ plain kind.RightParenthesis ∷ [])
condition_words (negated a) = plain kind.Not ∷ condition_words a
condition_words (both a b) = condition_words a ++ plain kind.And ∷ condition_words b
condition_words (either a b) = condition_words a ++ plain kind.Or ∷ condition_words b

-- WHERE with a condition, where there is one
abbrev pub where_words : Option Condition → List Word
where_words None = []
where_words (Some c) = plain kind.Where ∷ condition_words c

abbrev pub from_words : RangeName → Option Condition → List Word
from_words r c = range_words r ++ where_words c
