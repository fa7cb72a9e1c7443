use Rattle.std.proofs.Common.{◌≡◌, List, length}
use Rattle.std.specs.Prelude.{OnOk}
use Rattle.guest_bus.specs.Memory.{Area, Memory, bytes_at, is_readable}
use Rattle.guest_memory.specs.Memories.{answer_by, first_refused}
use Rattle.guest_memory.proofs.MemoriesLemmas.{as_seen, space_is}
use Rattle.guest_memory.proofs.ram.Ram.copy_in.Goals as goal

pub copy_in-requires : goal.copy_in-requires
copy_in-requires c = space_is c.args.self.now c.args.p c.entries.result.now c.part.result.now c.entries.ensures.areas c.entries.ensures.placed c.entries.ensures.follow c.part.ensures.size

pub returns : goal.returns
returns c = record {
  answer = as_seen (λ (a : List Area) (m : Memory). c.copy_in.result ≡ answer_by (first_refused (is_readable a) c.args.address (length c.args.into.now)))
      c.args.self.now c.args.p c.entries.result.now c.part.result.now c.entries.ensures.areas c.part.ensures.map c.copy_in.ensures.answer;
  read = as_seen (λ (a : List Area) (m : Memory). OnOk c.copy_in.result (c.copy_in.new.into ≡ bytes_at m c.args.address (length c.args.into.now)))
      c.args.self.now c.args.p c.entries.result.now c.part.result.now c.entries.ensures.areas c.part.ensures.map c.copy_in.ensures.read;
  unchanged = c.copy_in.ensures.unchanged;
}
