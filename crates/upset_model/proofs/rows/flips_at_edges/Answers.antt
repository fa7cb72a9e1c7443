use Rattle.std.proofs.Common.{◌≡◌, ℕ, refl, ap, ◌∙◌}
use Rattle.std.specs.Prelude.{unwrap_or}
use Rattle.guest_bus.specs.Memory.{byte_at}
use Rattle.guest_bus.specs.lemmas.MemoryLemmas.{get-insert_same}
use Rattle.machine_model.specs.Partition.{PartitionState}
use Rattle.upset_model.specs.Places.{flip, flipped}
use Rattle.xm_report.specs.declared.place.Place.TheVariants.{MemoryByte}
use Rattle.upset_model.proofs.rows.flips_at_edges.Goals as goal

-- a byte after its flip
byte_flipped : (address bit was : ℕ) (ps : PartitionState) → byte_at ps.memory address ≡ was → byte_at (flip (MemoryByte address) bit ps).memory address ≡ flipped bit was
byte_flipped address bit was ps is =
    ap (λ o. unwrap_or o 0) (get-insert_same ps.memory address (flipped bit (byte_at ps.memory address)) address refl) ∙ ap (flipped bit) is

pub returns-clause-memory : goal.returns-clause-memory
returns-clause-memory c = record { low = λ ps is. byte_flipped 0x40100010 0 0x12 ps is; high = λ ps is. byte_flipped 0x40100010 7 0x12 ps is }
