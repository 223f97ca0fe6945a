-- What might have stood in a place.
use Rattle.std.specs.Prelude.{List, min, take}
use Rattle.iv_lex.specs.declared.kind.TokenKind.{TokenKind}
use Rattle.iv_parse_terms.specs.declared.wanted.TheConstants.{MOST_WANTED}
use Rattle.iv_parse_terms.specs.declared.wanted.Wanted.{Wanted}

-- the kinds of words that were looked for there and not found, in the order in which they were looked for
abbrev pub wanted_kinds : Wanted → List TokenKind
wanted_kinds w = take (min w.count MOST_WANTED) w.kinds
