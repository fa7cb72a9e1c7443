-- For proofs and private clauses: loads, stores and exchanges, by the rows of appendix B of the SPARC V8 manual.
use Rattle.std.specs.Prelude.{ℕ, Bool, true, false}
use Rattle.guest_bus.specs.declared.bus.Size.{Size}
use Rattle.guest_bus.specs.declared.bus.Size.TheVariants.{One, Two, Four, Eight}
use Rattle.sparc_step.specs.Transfers.{signed_byte, signed_half, low_word}

-- the word that a load makes of a value of a size, with its sign or without
abbrev pub word_loaded : Bool → Size → ℕ → ℕ
word_loaded false size = low_word
word_loaded true One = signed_byte
word_loaded true Two = signed_half
word_loaded true Four = low_word
word_loaded true Eight = low_word
