use Rattle.std.proofs.Common.{drop, List, ℕ, refl, subst}
use Rattle.std.specs.Int.{to_be_bytes, w32}
use Rattle.machine_model.specs.Caller.{answering, with_written}
use Rattle.machine_model.specs.Partition.{PartitionState}
use Rattle.machine_model.specs.Emission.{Unseen}
use Rattle.control_calls.proofs.ProcessorLemmas.{words_stay}
use Rattle.system_state.specs.lemmas.ServedLemmas.{served_changed}
use Rattle.system_state.specs.Serving.{IsServed, caller_of}
use Rattle.system_state.specs.State.{input_words_of}
use Rattle.control_calls.proofs.processor_calls.put_input.Goals as goal

pub returns : goal.returns
returns c =
    let old = c.args.sys.now in
    let mid = c.write.new.sys in
    let site = c.args.site in
    let ps = with_written c.args.at (to_be_bytes w32 c.args.word) (caller_of site old).state in
    let written = rw c.to_be_bytes.ensures at c.write.ensures in
    let used = subst (λ (words : List ℕ). IsServed site.part Unseen (answering 0 (record (caller_of site mid).state { inputs = drop c.args.used words })) c.use_inputs.result mid c.use_inputs.new.sys)
    (words_stay site.part old mid ps written) c.use_inputs.ensures in
    served_changed site old mid c.use_inputs.new.sys ps c.use_inputs.result (λ (state : PartitionState). answering 0 (record state { inputs = drop c.args.used (input_words_of site.part old.machine) })) refl refl c.requires.caller written used
