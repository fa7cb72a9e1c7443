-- The flip of a bit, as a partition is kept and as it is seen.
use Rattle.std.proofs.Common.{◌≡◌, ℕ, ◌<◌, Bool, true, false, ◌&&◌, length, Some, refl, sym, ap, ◌∙◌, arith}
use Rattle.std.specs.Prelude.{nat_lt}
use Rattle.guest_bus.specs.Memory.{Memory, is_readable}
use Rattle.guest_memory.specs.Flips.{with_flipped}
use Rattle.guest_memory.specs.Memories.{Memories, map_at, with_map}
use Rattle.machine_model.specs.Machine.{Machine}
use Rattle.machine_model.specs.Partition.{areas_of}
use Rattle.machine_model.specs.View.{PartitionView, view_of}
use Rattle.upset_model.specs.Places.{flip, is_place}
use Rattle.xm_report.specs.declared.place.Place.{Place}
use Rattle.xm_report.specs.declared.place.Place.TheVariants.{Conditions, ExecutionDeadline, Global, HardwareDeadline, Mask, MemoryByte, Npc, Pc, Pending, TrapBase, Windowed, YRegister}
use Rattle.system_state.specs.State.{SysState, areas_in, memory_of, part_at, with_machine, with_part}
use Rattle.system_state.specs.declared.sys.Sys.TheInside.{Inside}
use Rattle.system_state.proofs.InsideLemmas.{IsKept, is_its_memory, is_rewritten, seen, seen_with}
use Rattle.system_state.specs.lemmas.FlipTerms.{byte_address}

-- a byte of memory that a partition has
pub record IsByteBit (view : PartitionView) (place : Place) (bit address : ℕ) : Type 0 where
  pub is : place ≡ MemoryByte address
  pub readable : is_readable (areas_of view) address ≡ true
  pub bit_below : bit < 8

both_first : (a b : Bool) → (a && b) ≡ true → a ≡ true
both_first true b is = refl
both_first false b is = is

pub byte_bit : (view : PartitionView) (place : Place) (bit address : ℕ) → is_place view place bit ≡ true → Some address ≡ byte_address place → IsByteBit view place bit address
byte_bit view (Global n) bit address here is = absurd cc
byte_bit view (Windowed n) bit address here is = absurd cc
byte_bit view Pc bit address here is = absurd cc
byte_bit view Npc bit address here is = absurd cc
byte_bit view YRegister bit address here is = absurd cc
byte_bit view Conditions bit address here is = absurd cc
byte_bit view HardwareDeadline bit address here is = absurd cc
byte_bit view ExecutionDeadline bit address here is = absurd cc
byte_bit view TrapBase bit address here is = absurd cc
byte_bit view Mask bit address here is = absurd cc
byte_bit view Pending bit address here is = absurd cc
byte_bit view (MemoryByte there) bit address here is =
    let same : there ≡ address = cc in
    record {
      is = ap (λ (a : ℕ). MemoryByte a) same;
      readable = ap (is_readable (areas_of view)) (sym same) ∙ both_first (is_readable (areas_of view) there) (nat_lt bit 8) here;
      bit_below = grind (arith, here);
    }

-- the byte is in an area of the partition
pub readable_there : (g : Machine) (p : ℕ) (place : Place) (bit address : ℕ) → is_place (view_of g.system p) place bit ≡ true → Some address ≡ byte_address place → is_readable (areas_in p g) address ≡ true
unfolding areas_of view_of
readable_there g p place bit address here is = (byte_bit (view_of g.system p) place bit address here is).readable

-- with a bit of the memory of one partition flipped
pub is_flipped : (a : Inside) (sys : SysState) (p address bit : ℕ) (ram : Memories) → IsKept a → seen a ≡ sys → p < length sys.machine.parts → ram ≡ with_map p (with_flipped address bit (map_at p a.ram)) a.ram
    → seen_with a a.parts.items ram ≡ with_machine (with_part p (record (part_at p sys.machine) { memory = with_flipped address bit (memory_of p sys.machine) }) sys.machine) sys
is_flipped a sys p address bit ram kept is below ram_is =
    is_rewritten a sys p (with_flipped address bit (map_at p a.ram)) ram kept is below ram_is
    ∙ ap (λ (m : Memory). with_machine (with_part p (record (part_at p sys.machine) { memory = with_flipped address bit m }) sys.machine) sys) (sym (is_its_memory a sys p kept is below))
