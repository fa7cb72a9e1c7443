-- For proofs and private clauses: the console bytes that the note of a tick has.
use Rattle.std.specs.Prelude.{ℕ, List, [], Option, Some, None}
use Rattle.std.specs.List.{flat_map}
use Rattle.guest_bus.specs.Memory.{Memory}
use Rattle.machine_model.specs.LocalTick.{said_in}
use Rattle.system_state.specs.declared.served.Note.{Note}
use Rattle.tick_steps.specs.Work.{console_emissions}

-- the bytes for the console that a note has; none where there is no note
abbrev pub emitted_bytes : Option Note → Memory → List ℕ
emitted_bytes None memory = []
emitted_bytes (Some note) memory = flat_map said_in (console_emissions note memory)
