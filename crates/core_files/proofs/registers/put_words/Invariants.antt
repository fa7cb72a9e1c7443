use Rattle.std.proofs.Common.{◌≡◌, ◌+◌, ◌*◌, ◌++◌, length, take}
use Rattle.std.specs.List.{flat_map}
use Rattle.machine_model.specs.Structures.{word}
use Rattle.core_files.proofs.registers.put_words.Given as goal

abbrev pub invariant-loop-word : goal.invariant-loop-word
invariant-loop-word l = record {
  text : take l.after l.into ≡ take l.at l.fn.into ++ flat_map word (take l.word-index l.words);
  ends : l.after ≡ l.at + 4 * l.word-index;
  room : length l.into ≡ length l.fn.into;
}
