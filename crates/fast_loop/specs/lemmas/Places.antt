-- Registers at the words of places.
use Rattle.std.specs.Prelude.{ℕ, ◌+◌}
use Rattle.guest_bus.specs.Words.{word_address}
use Rattle.sparc_step.specs.Registers.{Registers, placed}

-- registers at the word of a place, after which the next word follows
abbrev pub at_place : ℕ → ℕ → Registers → Registers
at_place origin place core = placed (word_address origin place) (word_address origin (place + 1)) core

-- registers at the word of a place, after which a place follows
abbrev pub at_slot : ℕ → ℕ → ℕ → Registers → Registers
at_slot origin place to core = placed (word_address origin place) (word_address origin to) core
