use Rattle.std.proofs.Common.{◌≡◌, ◌-◌, ◌++◌, length, take}
use Rattle.saved_machines.specs.SavedFields.{flags_of}
use Rattle.saved_machines.proofs.store.put_flags.Given as goal

abbrev pub invariant-loop-place : goal.invariant-loop-place
invariant-loop-place l =
    (length l.flags ≡ length l.fn.flags) × (take l.place l.flags ++ flags_of (length l.fn.flags - l.place) l.rest ≡ flags_of (length l.fn.flags) l.word)
