-- The one spelling of upsets: a line each, in the order of the list.
use Rattle.std.specs.Prelude.{ℕ, List, ◌++◌, codes, decimal}
use Rattle.std.specs.List.{flat_map}
use Rattle.xm_report.specs.Places.{place_text}
use Rattle.upset_model.specs.declared.upset_line.UpsetLine.{UpsetLine}

-- a line: tick, partition, place and bit, with a space between two, and a line feed
unfoldable pub upset_text : UpsetLine → List ℕ
upset_text line =
    decimal line.tick ++ codes " " ++ decimal line.part ++ codes " " ++ place_text line.place ++ codes " " ++ decimal line.bit ++ codes "\n"

-- lines, one after the other
abbrev pub upsets_text : List UpsetLine → List ℕ
upsets_text lines = flat_map upset_text lines
