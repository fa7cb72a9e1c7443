use Rattle.std.proofs.Common.{ap, ◌∙◌, length}
use Rattle.guest_bus.specs.Memory.{Memory, bytes_at}
use Rattle.system_state.proofs.RamLemmas.{below_areas, map_there, not_refused}
use Rattle.system_state.proofs.reading.read_memory.Goals as goal

pub copy_in-requires : goal.copy_in-requires
copy_in-requires c = below_areas c.args.sys.now.machine c.ram.result.now c.args.p c.requires.partition c.count-count.ensures.parts c.ram.ensures.areas

pub unreachable-requires : goal.unreachable-requires
unreachable-requires c =
    not_refused c.args.sys.now.machine c.ram.result.now c.args.p c.requires.partition c.count-count.ensures.parts c.copy_in.result c.in-Err.field-0 c.args.address (length c.args.into.now)
    c.ram.ensures.areas c.requires.readable c.copy_in.ensures.answer c.in-Err.is

pub returns : goal.returns
returns c =
    c.in-Ok.ensures.read
    ∙ ap (λ (m : Memory). bytes_at m c.args.address (length c.args.into.now)) (map_there c.args.sys.now.machine c.ram.result.now c.args.p c.requires.partition c.count-count.ensures.parts c.ram.ensures.maps)
