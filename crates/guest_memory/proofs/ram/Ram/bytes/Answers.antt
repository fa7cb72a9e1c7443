use Rattle.std.proofs.Common.{◌≡◌, List}
use Rattle.std.specs.Prelude.{IfSome}
use Rattle.guest_bus.specs.Memory.{Area, Memory, bytes_at}
use Rattle.guest_memory.proofs.MemoriesLemmas.{as_seen, space_is}
use Rattle.guest_memory.proofs.ram.Ram.bytes.Goals as goal

pub bytes-requires : goal.bytes-requires
bytes-requires c = space_is c.args.self.now c.args.p c.entries.result.now c.part.result.now c.entries.ensures.areas c.entries.ensures.placed c.entries.ensures.follow c.part.ensures.size

pub returns : goal.returns
returns c = record {
  value = as_seen (λ (a : List Area) (m : Memory). IfSome c.bytes.result (λ bytes. bytes.now ≡ bytes_at m c.args.address c.args.size))
      c.args.self.now c.args.p c.entries.result.now c.part.result.now c.entries.ensures.areas c.part.ensures.map c.bytes.ensures;
}
