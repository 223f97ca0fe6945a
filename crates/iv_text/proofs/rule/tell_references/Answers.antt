use Rattle.std.proofs.Common.{◌++◌, Option, codes, subst}
use Rattle.iv_catalogue.specs.declared.catalogue.Table.{Table}
use Rattle.iv_text.specs.Lines.{table_name}
use Rattle.iv_text.specs.Rules.{columns_of, match_words, names_listed, references_words}
use Rattle.iv_text.specs.Spelled.{spelled}
use Rattle.iv_text.specs.Writing.{Writes}
use Rattle.iv_text.proofs.rule.tell_references.Goals as goal

pub returns : goal.returns
unfolding references_words
returns g c =
    let key = c.args.key.now in
    subst (λ (t : Option Table). Writes (g.W.Sink.state c.args.writer.now) (g.W.Sink.state c.tell_referenced_after.new.writer) c.tell_referenced_after.result
    (spelled c.args.format (codes " REFERENCES " ++ (table_name t ++ (names_listed (columns_of t) key.key ++ match_words key.matching)))))
    c.table.ensures c.tell_referenced_after.ensures
