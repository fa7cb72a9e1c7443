use Rattle.std.proofs.Common.{◌≡◌, ◌-◌, ◌++◌, drop, length}
use Rattle.std.specs.List.{flat_map}
use Rattle.machine_model.specs.Structures.{word}
use Rattle.system_state.specs.State.{input_words_of, part_at}
use Rattle.machine_saves.proofs.inputs.put_inputs.Given as goal

abbrev pub invariant-loop-word : goal.invariant-loop-word
invariant-loop-word l = l.out.items ++ flat_map word (drop l.place (input_words_of l.p l.sys.machine)) ≡ l.fn.out.items ++ flat_map word (part_at l.p l.sys.machine).inputs

abbrev pub decreases-loop-word : goal.decreases-loop-word
decreases-loop-word l = length (input_words_of l.p l.sys.machine) - l.place
