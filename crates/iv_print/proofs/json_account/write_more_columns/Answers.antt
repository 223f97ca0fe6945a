use Rattle.std.proofs.Common.{◌≡◌, ◌∷◌, List, ℕ, rules, ap}
use Rattle.std.specs.List.{flat_map}
use Rattle.iv_key.specs.Keys.{key_of, value_at}
use Rattle.iv_text.specs.Json.{further_value}
use Rattle.iv_text.proofs.WriteLemmas.{wrote_step}
use Rattle.iv_print.proofs.json_account.write_more_columns.Goals as goal

pub loop-column-preserved : goal.loop-column-preserved
loop-column-preserved g c =
    let texts : List ℕ → List ℕ = λ columns. flat_map further_value (key_of columns c.args.row.now) in
    let e : c.loop-column.rest.now ≡ c.in-Some.column.now ∷ c.in-Some.others.now = search rules in
    wrote_step (texts c.args.columns.now) (further_value (value_at c.args.row.now c.in-Some.column.now))
    (texts c.in-Some.others.now) (texts c.loop-column.rest.now)
    (g.W.Sink.state c.args.sink.now) (g.W.Sink.state c.loop-column.sink) (g.W.Sink.state c.write_further_borrowed.new.sink)
    c.loop-column.invariant (ap texts e) (search rules)
