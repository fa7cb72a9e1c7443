-- The most that a configuration may have of what the two versions of the formats differ in, and of what version 2 adds.
use Rattle.std.specs.Prelude.{ℕ}

-- partitions
abbrev pub most_parts : ℕ
most_parts = 32

-- partitions in version 1 of the formats
abbrev pub most_parts_1 : ℕ
most_parts_1 = 16

-- destinations of a sampling channel
abbrev pub most_dests : ℕ
most_dests = 16

-- links
abbrev pub most_links : ℕ
most_links = 64

-- the numbers that the links of one partition have
abbrev pub link_numbers : ℕ
link_numbers = 8
