use Rattle.std.proofs.Common.{arith, length, ap, sym, ◌<◌, ◌∙◌}
use Rattle.std.proofs.lemmas.List.{length-map}
use Rattle.guest_bus.specs.Memory.{is_readable}
use Rattle.guest_memory.specs.Loading.{memory_areas}
use Rattle.guest_memory.specs.Memories.{answer_by, first_refused}
use Rattle.system_state.proofs.CallerLemmas.{areas_kept, text_answers}
use Rattle.system_state.proofs.answering.read.Goals as goal

pub copy_in-requires : goal.copy_in-requires
copy_in-requires c = omega (arith, c.requires.caller, c.count-count.ensures.parts, ap length c.ram.ensures.areas, length-map c.args.sys.now.machine.system.conf.parts memory_areas)

pub unreachable-requires : goal.unreachable-requires
unreachable-requires c =
    let below : c.args.site.part < length c.args.sys.now.machine.system.conf.parts = omega (arith, c.requires.caller, c.count-count.ensures.parts) in
    let areas = areas_kept c.args.sys.now c.ram.result.now c.args.site.part c.ram.ensures.areas below in
    let answers =
    sym c.in-Err.is ∙ c.copy_in.ensures.answer
    ∙ ap (λ areas. answer_by (first_refused (is_readable areas) c.args.address (length c.args.into.now))) areas
    ∙ text_answers c.args.site c.args.sys.now c.args.address (length c.args.into.now) c.requires.readable in
    cc
