use Rattle.std.proofs.Common.{◌≡◌, List, false}
use Rattle.std.specs.Prelude.{◌↔◌, IsNone}
use Rattle.std.specs.FinMap.{get}
use Rattle.guest_bus.specs.Memory.{Area, Memory, is_readable}
use Rattle.guest_memory.proofs.MemoriesLemmas.{as_seen, space_is}
use Rattle.guest_memory.proofs.ram.Ram.byte.Goals as goal

pub byte-requires : goal.byte-requires
byte-requires c = space_is c.args.self.now c.args.p c.entries.result.now c.part.result.now c.entries.ensures.areas c.entries.ensures.placed c.entries.ensures.follow c.part.ensures.size

pub returns-clause-value : goal.returns-clause-value
returns-clause-value c =
    as_seen (λ (a : List Area) (m : Memory). c.byte.result ≡ get m c.args.address) c.args.self.now c.args.p c.entries.result.now c.part.result.now c.entries.ensures.areas c.part.ensures.map c.byte.ensures.value

pub returns-clause-none : goal.returns-clause-none
returns-clause-none c =
    as_seen (λ (a : List Area) (m : Memory). IsNone c.byte.result ↔ (is_readable a c.args.address ≡ false)) c.args.self.now c.args.p c.entries.result.now c.part.result.now c.entries.ensures.areas c.part.ensures.map c.byte.ensures.none
