use Rattle.std.proofs.Common.{◌≡◌, ◌∷◌, List, ℕ, rules, subst, sym}
use Rattle.iv_print.specs.AccountLines.{standing_words}
use Rattle.iv_text.specs.Writing.{Writes}
use Rattle.iv_print.proofs.standing.write_words.Goals as goal

pub returns-in-Some : goal.returns-in-Some
returns-in-Some g c =
    let e : c.args.names.now ≡ c.in-Some.name.now ∷ c.in-Some.more.now = search rules in
    subst (λ (l : List (List ℕ)). Writes (g.W.Sink.state c.args.sink.now) (g.W.Sink.state c.write_names.new.sink) c.write_names.result (standing_words l))
    (sym e) c.write_names.ensures
