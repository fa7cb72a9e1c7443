use Rattle.std.proofs.Common.{ℕ, [], map, sym, ap, subst, ◌∙◌}
use Rattle.file_commands.specs.EndingValues.{ending_of}
use Rattle.guest_memory.specs.Loading.{memory_areas}
use Rattle.guest_memory.specs.Memories.{map_at}
use Rattle.saved_machines.specs.Reading.{Fails, saved_value}
use Rattle.saved_machines.specs.Saving.{stored_digest}
use Rattle.xm_conf.specs.Configuration.{Conf}
use Rattle.run_commands.proofs.BeginLemmas.{container_long, read_here, saved_read, saved_unmade}
use Rattle.run_commands.proofs.beginning.saved_machine.Goals as goal

pub stored_digest-requires : goal.stored_digest-requires
stored_digest-requires c = container_long c.args.container.now c.args.system.now c.requires.same

pub read_machine-requires : goal.read_machine-requires
read_machine-requires c = record { memories = (c.in-Ok.ensures []).areas ∙ ap (λ (conf : Conf). map memory_areas conf.parts) (sym c.conf.ensures.value) }

pub returns-in-Ok-read_machine-clause-value : goal.returns-in-Ok-read_machine-clause-value
returns-in-Ok-read_machine-clause-value c =
    let one = (λ (p : ℕ). map_at p c.in-Ok.loaded) in
    saved_read c.args.file.now (stored_digest c.args.container.now) c.args.bytes.now c.args.system.now one (saved_value c.in-Ok-read_machine.saved) (c.in-Ok.ensures []).maps
    (sym (read_here c.conf.result.now c.args.system.now one c.stored_digest.result (stored_digest c.args.container.now) c.args.bytes.now c.conf.ensures.value c.stored_digest.ensures) ∙ c.in-Ok-read_machine.ensures.value)

pub returns-clause-value : goal.returns-clause-value
returns-clause-value c =
    let one = (λ (p : ℕ). map_at p c.in-Ok.loaded) in
    saved_unmade c.args.file.now (stored_digest c.args.container.now) c.args.bytes.now c.args.system.now one c.in-Err.fault c.no_machine.result (ending_of c.unmade.result) (c.in-Ok.ensures []).maps
    (subst (Fails c.in-Err.fault) (read_here c.conf.result.now c.args.system.now one c.stored_digest.result (stored_digest c.args.container.now) c.args.bytes.now c.conf.ensures.value c.stored_digest.ensures) c.in-Err.ensures.value)
    c.no_machine.ensures.text c.no_machine.ensures.memory c.unmade.ensures
