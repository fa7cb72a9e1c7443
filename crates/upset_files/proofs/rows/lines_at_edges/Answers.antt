use Rattle.std.proofs.Common.{refl}
use Rattle.hex.specs.Hex.{decode_pairs, encode_with}
use Rattle.upset_files.specs.Fits.{has_address, areas_of_part}
use Rattle.upset_files.specs.Reading.{from_blank, byte_place, fitted, fitted_line, global_place, is_of_word, line_at, named_place, number_spelled, place_spelled, upsets_from, windowed_place, word_before_blank}
use Rattle.upset_files.proofs.rows.lines_at_edges.Goals as goal

pub returns-clause-read : goal.returns-clause-read
unfolding place_spelled named_place global_place windowed_place byte_place number_spelled decode_pairs encode_with has_address areas_of_part from_blank word_before_blank is_of_word fitted fitted_line line_at upsets_from
returns-clause-read c = record { none = refl; four = refl }

pub returns-clause-malformed : goal.returns-clause-malformed
unfolding place_spelled named_place global_place windowed_place byte_place number_spelled decode_pairs encode_with has_address areas_of_part from_blank word_before_blank is_of_word fitted fitted_line line_at upsets_from
returns-clause-malformed c = record {
  empty = refl;
  zero_first = refl;
  signed = refl;
  blank_first = refl;
  two_spaces = refl;
  tick_alone = refl;
  no_place = refl;
  other_place = refl;
  no_bit = refl;
  carriage_return = refl;
  blank_last = refl;
  no_feed = refl;
}

pub returns-clause-unfit : goal.returns-clause-unfit
unfolding place_spelled named_place global_place windowed_place byte_place number_spelled decode_pairs encode_with has_address areas_of_part from_blank word_before_blank is_of_word fitted fitted_line line_at upsets_from
returns-clause-unfit c = record {
  partition = refl;
  past_area = refl;
  neighbour = refl;
  low_bit = refl;
  high_bit = refl;
  order = refl;
  never = refl;
}

pub returns-clause-first : goal.returns-clause-first
unfolding place_spelled named_place global_place windowed_place byte_place number_spelled decode_pairs encode_with has_address areas_of_part from_blank word_before_blank is_of_word fitted fitted_line line_at upsets_from
returns-clause-first c = record {
  fields_first = refl;
  partition_first = refl;
  place_first = refl;
  bit_first = refl;
  order_first = refl;
  line_first = refl;
}

pub returns-clause-later : goal.returns-clause-later
unfolding place_spelled named_place global_place windowed_place byte_place number_spelled decode_pairs encode_with has_address areas_of_part from_blank word_before_blank is_of_word fitted fitted_line line_at upsets_from
returns-clause-later c = record {
  none = refl;
  first = refl;
  one_before = refl;
  boot = refl;
  order = refl;
  before_first = refl;
  never = refl;
  bit_first = refl;
  no_ticks = refl;
}

pub returns-clause-many : goal.returns-clause-many
unfolding place_spelled named_place global_place windowed_place byte_place number_spelled decode_pairs encode_with has_address areas_of_part from_blank word_before_blank is_of_word fitted fitted_line line_at upsets_from
returns-clause-many c = record { one = refl; two = refl }
