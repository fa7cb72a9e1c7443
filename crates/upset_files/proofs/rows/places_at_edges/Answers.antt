use Rattle.std.proofs.Common.{codes, refl, sym}
use Rattle.hex.specs.Hex.{decode_pairs, encode_with}
use Rattle.upset_files.proofs.PlaceLemmas.{place_is}
use Rattle.upset_files.specs.Reading.{byte_place, global_place, named_place, number_spelled, place_spelled, windowed_place}
use Rattle.xm_report.specs.declared.place.Place.TheVariants.{Global, Windowed}
use Rattle.upset_files.proofs.rows.places_at_edges.Goals as goal

pub returns-clause-spelled : goal.returns-clause-spelled
unfolding place_spelled named_place global_place windowed_place byte_place number_spelled decode_pairs encode_with
returns-clause-spelled c = record {
  first_global = (sym (place_is (codes "g1") (Global 1) refl).1, refl);
  last_global = (sym (place_is (codes "g7") (Global 7) refl).1, refl);
  first_windowed = (sym (place_is (codes "w0") (Windowed 0) refl).1, refl);
  last_windowed = (sym (place_is (codes "w127") (Windowed 127) refl).1, refl);
  pc = (refl, refl);
  npc = (refl, refl);
  y = (refl, refl);
  icc = (refl, refl);
  hw = (refl, refl);
  exec = (refl, refl);
  tbr = (refl, refl);
  mask = (refl, refl);
  pending = (refl, refl);
  first_byte = (refl, refl);
  byte = (refl, refl);
  last_byte = (refl, refl);
}

pub returns-clause-other : goal.returns-clause-other
unfolding place_spelled named_place global_place windowed_place byte_place number_spelled decode_pairs encode_with
returns-clause-other c = record {
  global_0 = refl;
  global_8 = refl;
  windowed_128 = refl;
  zero_first = refl;
  no_number = refl;
  capital = refl;
  capital_digit = refl;
  seven_digits = refl;
  nine_digits = refl;
  prefixed = refl;
  empty = refl;
}
