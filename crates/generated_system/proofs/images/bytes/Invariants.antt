use Rattle.std.proofs.Common.{◌≡◌, ◌++◌, take}
use Rattle.std.specs.Int.{to_be_bytes, w32}
use Rattle.std.specs.List.{flat_map}
use Rattle.generated_system.specs.Generated.{first_word}
use Rattle.generated_system.proofs.images.bytes.Given as goal

abbrev pub invariant-loop-word : goal.invariant-loop-word
invariant-loop-word l = l.bytes.items ≡ to_be_bytes w32 (first_word l.p) ++ flat_map (to_be_bytes w32) (take l.word-index l.word-items)
