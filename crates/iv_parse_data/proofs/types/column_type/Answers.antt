use Rattle.std.specs.Prelude.{None, List}
use Rattle.iv_lex.specs.declared.kind.TokenKind.TheVariants as kind
use Rattle.iv_lex.specs.Words.{Word}
use Rattle.iv_parse_terms.specs.After.{after, if_some}
use Rattle.iv_parse_terms.proofs.Rules.{on_expected, on_other}
use Rattle.iv_parse_data.specs.Types.{ColumnType}
use Rattle.iv_parse_data.specs.Types.type.{Integer}
use Rattle.iv_parse_data.specs.readers.Series.{give}
use Rattle.iv_parse_data.specs.readers.Data.{FoundPart}
use Rattle.iv_parse_data.specs.readers.Tables.{read_length, read_type, read_varying}
use Rattle.iv_parse_data.proofs.types.column_type.Goals as goal

pub returns-then-accept : goal.returns-then-accept
unfolding read_type
returns-then-accept c = λ o l.
    let p1 = c.if-accept.ensures o l in
    (p1.0, rw (p1.1))

pub returns-then-accept-2 : goal.returns-then-accept-2
unfolding read_type
returns-then-accept-2 c = λ o l.
    let p2 = c.if-accept-2.ensures o l in
    let p1 = c.if-accept.ensures o p2.0 in
    (p1.0, rw (p1.1.0, ← p1.1.1, p2.1))

abbrev from_char : List Word → FoundPart ColumnType
from_char ws = if_some (after kind.Char ws) read_varying None

abbrev from_character : List Word → FoundPart ColumnType
from_character ws = if_some (after kind.Character ws) read_varying (from_char ws)

abbrev from_varchar : List Word → FoundPart ColumnType
from_varchar ws = if_some (after kind.Varchar ws) read_length (from_character ws)

abbrev from_int : List Word → FoundPart ColumnType
from_int ws = if_some (after kind.Int ws) (give Integer) (from_varchar ws)

pub returns : goal.returns
unfolding read_type
returns c =
    let end = c.varying-2.new.cursor in
    let r = c.varying-2.result in
    on_other (λ x. x) (after kind.Integer) (give Integer) from_int c.args.cursor.now c.accept.new.self end r c.if-accept.ensures
    (on_other (λ x. x) (after kind.Int) (give Integer) from_varchar c.accept.new.self c.accept-2.new.self end r c.if-accept-2.ensures
    (on_other (λ x. x) (after kind.Varchar) read_length from_character c.accept-2.new.self c.accept-3.new.self end r c.if-accept-3.ensures
    (on_other (λ x. x) (after kind.Character) read_varying from_char c.accept-3.new.self c.accept-4.new.self end r c.if-accept-4.ensures
    (on_expected (λ x. x) (after kind.Char) read_varying c.accept-4.new.self c.expect.new.self end c.in_ok-expect.field-0 r c.in_ok-expect.ensures c.varying-2.ensures))))
