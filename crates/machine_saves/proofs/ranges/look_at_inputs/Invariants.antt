use Rattle.std.proofs.Common.{◌-◌, ◌^◌, ◌<◌, length}
use Rattle.system_state.specs.State.{input_words_of}
use Rattle.machine_saves.specs.lemmas.SaveTerms.{EachBelow}
use Rattle.machine_saves.proofs.ranges.look_at_inputs.Given as goal

abbrev pub invariant-loop-word : goal.invariant-loop-word
invariant-loop-word l = EachBelow (λ word. word < 2 ^ 32) l.place (input_words_of l.p l.sys.machine)

abbrev pub decreases-loop-word : goal.decreases-loop-word
decreases-loop-word l = length (input_words_of l.p l.sys.machine) - l.place
