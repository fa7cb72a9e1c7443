-- For proofs and private clauses: the time that slots give a partition, and what it means that a requirement is served.
use Rattle.std.specs.Prelude.{ℕ, ◌+◌, ◌-◌, ◌==◌, if◌then◌else◌, min, max}
use Rattle.xm_conf.specs.declared.plan.Slot.{Slot}

-- the ticks from one on up to an end that a slot gives a partition
abbrev pub shared : ℕ → ℕ → ℕ → Slot → ℕ
shared part start end slot = if slot.part == part then min (slot.start + slot.duration) end - max slot.start start else 0
