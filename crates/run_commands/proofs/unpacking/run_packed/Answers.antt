use Rattle.std.proofs.Common.{map, refl}
use Rattle.command_line.specs.Seen.{seen_options}
use Rattle.file_commands.specs.Outcome.{run_inputs, run_outcome}
use Rattle.file_commands.specs.EndingValues.{vector_bytes}
use Rattle.run_commands.specs.lemmas.BoardLemmas.{unmade_leaves}
use Rattle.builders.specs.lemmas.ImagingLemmas.{container_unmade}
use Rattle.run_commands.specs.lemmas.InputLemmas.{rest_short}
use Rattle.run_commands.proofs.NumberLemmas.{never_unpacked, received_system, stored_system}
use Rattle.run_commands.proofs.WorkLemmas.{fault_text_by, outcome-unpacked, unmade_runs}
use Rattle.run_commands.proofs.unpacking.run_packed.Goals as goal

pub run_unpacked-requires-clause-short : goal.run_unpacked-requires-clause-short
run_unpacked-requires-clause-short g c = rest_short c.args.container.now (run_inputs (seen_options c.args.options)) (map vector_bytes c.args.contents.now) c.requires.short

pub run_unpacked-requires-clause-same : goal.run_unpacked-requires-clause-same
run_unpacked-requires-clause-same g c = rw c.split_contents.ensures.first at c.in-Ok.ensures.exact

pub returns-in-Ok-clause-outcome : goal.returns-in-Ok-clause-outcome
returns-in-Ok-clause-outcome g c =
    let exact = rw c.split_contents.ensures.first at c.in-Ok.ensures.exact in
    rw (outcome-unpacked c.args.container.now (seen_options c.args.options) _ _ c.in-Ok.system exact) c.run_unpacked.ensures.outcome

pub returns-in-Err-clause-outcome : goal.returns-in-Err-clause-outcome
unfolding run_outcome
returns-in-Err-clause-outcome g c =
    let exact = rw c.split_contents.ensures.first at c.in-Err.ensures.exact in
    let unmade = container_unmade fault_text_by (λ fault. refl) c.in-Err.fault _ c.no_container.result exact c.no_container.ensures.text c.no_container.ensures.memory in
    unmade_runs _ c.args.container.now (seen_options c.args.options) _ _ c.no_container.result _ _ c.unmade.ensures unmade

pub returns-in-Ok-clause-board : goal.returns-in-Ok-clause-board
returns-in-Ok-clause-board g c =
    let exact = rw c.split_contents.ensures.first at c.in-Ok.ensures.exact in
    rw (outcome-unpacked c.args.container.now (seen_options c.args.options) _ _ c.in-Ok.system exact) c.run_unpacked.ensures.board

pub returns-in-Err-clause-board : goal.returns-in-Err-clause-board
returns-in-Err-clause-board g c = unmade_leaves _ c.args.container.now c.no_container.result _ _ _ (record { places = _; marks = _ }) c.unmade.ensures

pub returns-in-Ok-clause-numbers : goal.returns-in-Ok-clause-numbers
returns-in-Ok-clause-numbers g c = λ made.
    let exact = rw c.split_contents.ensures.first at c.in-Ok.ensures.exact in
    received_system (seen_options c.args.options) (map vector_bytes c.args.contents.now) c.in-Ok.system exact (c.run_unpacked.ensures.numbers made)

pub returns-in-Err-clause-numbers : goal.returns-in-Err-clause-numbers
returns-in-Err-clause-numbers g c = λ made. absurd (never_unpacked _ c.args.container.now c.no_container.result c.unmade.ensures made)

pub returns-in-Ok-clause-stored : goal.returns-in-Ok-clause-stored
returns-in-Ok-clause-stored g c = λ made.
    let exact = rw c.split_contents.ensures.first at c.in-Ok.ensures.exact in
    stored_system (seen_options c.args.options) (map vector_bytes c.args.contents.now) c.in-Ok.system exact (c.run_unpacked.ensures.stored made)

pub returns-in-Err-clause-stored : goal.returns-in-Err-clause-stored
returns-in-Err-clause-stored g c = λ made. absurd (never_unpacked _ c.args.container.now c.no_container.result c.unmade.ensures made)
