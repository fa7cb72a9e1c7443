-- For proofs and private clauses: what a machine keeps of its last tick, and what each partition received in it.
use Rattle.std.specs.Prelude.{ℕ, zero, suc, Bool, true, false, List, []}
use Rattle.guest_bus.specs.Memory.{Memory, bytes_at}
use Rattle.machine_model.specs.Machine.{Machine, step}
use Rattle.system_state.specs.declared.served.Note.{Note}
use Rattle.system_state.specs.declared.served.Note.TheVariants as note
use Rattle.tick_steps.specs.Kept.{KeptTick, kept_tick}

-- the bytes that a note names, of a message or of what was shown
abbrev pub bytes_noted : Note → Memory → List ℕ
bytes_noted note.Nothing memory = []
bytes_noted (note.Console at size) memory = []
bytes_noted (note.Trace entry) memory = []
bytes_noted (note.Put chan at size) memory = bytes_at memory at size
bytes_noted (note.Take chan) memory = []
bytes_noted (note.Saw at size) memory = bytes_at memory at size
bytes_noted note.NotKept memory = []
bytes_noted (note.Signal number) memory = []

-- what is kept after this many ticks: that of the last, and what was kept before where the hypervisor had halted
abbrev pub kept_unless : Bool → KeptTick → KeptTick → KeptTick
kept_unless true before later = before
kept_unless false before later = later

abbrev pub kept_after : Machine → ℕ → KeptTick → KeptTick
kept_after g zero before = before
kept_after g (suc count) before = kept_unless g.halted before (kept_after (step g) count (kept_tick g))
