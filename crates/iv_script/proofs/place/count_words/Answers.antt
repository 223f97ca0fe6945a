use Rattle.std.proofs.Common.{◌≡◌, ◌∷◌, ◌+◌, [], ◌++◌, List, ℕ, Option, Some, None, take, drop, rules, arith, length, ap, sym, ◌∙◌, append_assoc}
use Rattle.std.proofs.lemmas.Grind.{common_steps}
use Rattle.iv_script.specs.Places.{words_of, room_after}
use Rattle.iv_script.proofs.PlaceLemmas.{take_next, drop_next}
use Rattle.iv_script.proofs.place.count_words.Goals as goal

pub loop-byte-preserved : goal.loop-byte-preserved
loop-byte-preserved c =
    let text : List ℕ = c.args.text.now in
    let byte : ℕ = c.in-Some.byte.now in
    let others : List ℕ = c.in-Some.others.now in
    let less : ℕ = c.in-Some-room_after.less in
    let e : c.loop-byte.rest.now ≡ byte ∷ others = search rules in
    let d : drop c.loop-byte.count text ≡ byte ∷ others = c.loop-byte.invariant.rest_is ∙ e in
    let n : length c.loop-byte.rest.now ≡ length others + 1 = grind (arith, common_steps, e) in
    let r : room_after c.loop-byte.room byte ≡ Some less = search rules in
    let w : words_of c.loop-byte.room (byte ∷ others) ≡ byte ∷ words_of less others =
    ap (λ (o : Option ℕ). elim o [ Some left ↦ byte ∷ words_of left others | None ↦ [] ]) r in
    record {
      counted = omega (arith, n, c.loop-byte.invariant.counted);
      rest_is = drop_next c.loop-byte.count text others byte d;
      words = ap (λ (l : List ℕ). l ++ words_of less others) (take_next c.loop-byte.count text others byte d)
          ∙ append_assoc (take c.loop-byte.count text) (byte ∷ []) (words_of less others)
          ∙ ap (λ (l : List ℕ). take c.loop-byte.count text ++ l) (sym w)
          ∙ ap (λ (l : List ℕ). take c.loop-byte.count text ++ words_of c.loop-byte.room l) (sym e)
          ∙ c.loop-byte.invariant.words;
    }
