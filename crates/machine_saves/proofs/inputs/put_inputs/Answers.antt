use Rattle.std.proofs.Common.{◌≡◌, ◌++◌, ◌∙◌, List, ℕ, ap, drop, sym}
use Rattle.std.specs.List.{flat_map}
use Rattle.machine_model.specs.Partition.{PartitionState}
use Rattle.machine_model.specs.Structures.{word}
use Rattle.system_state.specs.State.{input_words_of}
use Rattle.machine_saves.proofs.PutLemmas.{found_put, none_left}
use Rattle.machine_saves.proofs.inputs.put_inputs.Goals as goal

pub loop-word-init : goal.loop-word-init
loop-word-init c =
    ap (λ (place : ℕ). c.args.out.now.items ++ flat_map word (drop place (input_words_of c.args.p c.args.sys.now.machine))) c.used-place.ensures
    ∙ ap (λ (ps : PartitionState). c.args.out.now.items ++ flat_map word ps.inputs) (sym c.part.ensures.value)

pub loop-word-preserved : goal.loop-word-preserved
loop-word-preserved c =
    found_put word _ _ _ (input_words_of c.args.p c.args.sys.now.machine) c.loop-word.place c.in-Some.word (sym c.in-Some.ensures.value) c.loop-word.invariant c.in_ok-put_word.ensures

pub returns : goal.returns
returns c =
    none_left word _ _ (input_words_of c.args.p c.args.sys.now.machine) c.loop-word.place (sym c.input.ensures.value ∙ c.in_default.is) c.loop-word.invariant
