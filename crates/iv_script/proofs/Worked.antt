-- The worked lines are computed.
use Rattle.std.proofs.Common.{refl}
use Rattle.std.specs.Fmt.{digits}
use Rattle.iv_lex.specs.Told.{kind_text}
use Rattle.iv_script.specs.Hints.{no_token_hint, type_hint, statement_hint, join_hint, clause_hint, call_hint, other_hint}
use Rattle.iv_script.specs.WorkedLines.{WorkedFaults, WorkedPlaces}

pub places : WorkedPlaces
unfolding digits
places = record {
  at_the_beginning = refl;
  in_the_second_line = refl;
  after_an_empty_line = refl;
  a_column_is_a_character = refl;
  least_second_byte = refl;
  greatest_second_byte = refl;
  words_have_whole_characters = refl;
  a_tab_is_of_the_words = refl;
  no_words = refl;
  sixty_characters = refl;
  sixty_characters_of_two_bytes = refl;
  at_the_end = refl;
  beyond_the_end = refl;
  no_fault = refl;
  not_asked = λ f. refl;
}

pub faults : WorkedFaults
unfolding kind_text no_token_hint type_hint statement_hint join_hint clause_hint call_hint other_hint
faults = record {
  of_the_line_alone = refl;
  up_to_the_end_of_the_line = refl;
  the_last_forty = refl;
  the_first_forty = refl;
  one_wanted = refl;
  three_wanted = refl;
  none_wanted = refl;
  join_before = refl;
  like = refl;
  begin_first = refl;
  begin_later = refl;
  no_hint = refl;
  type_date = refl;
  not_equal = refl;
  open_text = refl;
  too_large = refl;
  no_character = refl;
}
