-- The health logs of a machine's partitions.
use Rattle.std.proofs.Common.{ℕ, ◌<◌, ◌≤◌, length, get_or, sym, subst}
use Rattle.std.proofs.lemmas.Option.{get_or_from_slice_get, slice_get-get_or}
use Rattle.std.specs.Prelude.{All}
use Rattle.machine_model.specs.Machine.{Machine, booted_part}
use Rattle.machine_model.specs.Partition.{PartitionState}
use Rattle.span_model.specs.Passes.{part_at}

-- what holds of each partition by its number holds of all
pub all_short : (g : Machine) → ((q : ℕ) → q < length g.parts → (part_at q g).health.next ≤ g.ticks) → All (λ part. part.health.next ≤ g.ticks) g.parts
all_short g each q other below =
    subst (λ (ps : PartitionState). ps.health.next ≤ g.ticks)
    (sym (get_or_from_slice_get g.parts q (get_or g.parts q (booted_part g.system q)) other (slice_get-get_or g.parts q (booted_part g.system q) below)))
    (each q below)
