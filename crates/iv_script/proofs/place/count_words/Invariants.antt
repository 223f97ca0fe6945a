use Rattle.std.proofs.Common.{◌≡◌, ◌+◌, ◌++◌, length, take, drop}
use Rattle.iv_script.specs.Places.{words_of}
use Rattle.iv_script.proofs.place.count_words.Given as goal

abbrev pub invariant-loop-byte : goal.invariant-loop-byte
invariant-loop-byte l = record {
  counted : l.count + length l.rest ≡ length l.text;
  rest_is : drop l.count l.text ≡ l.rest;
  words : take l.count l.text ++ words_of l.room l.rest ≡ words_of l.most l.text;
}

abbrev pub decreases-loop-byte : goal.decreases-loop-byte
decreases-loop-byte l = length l.rest
