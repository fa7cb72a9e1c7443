-- The reading of a saved machine and of its head alone, and what was read as a value.
use Rattle.std.specs.Prelude.{◌≡◌, ◌⊎◌, ℕ, List, codes, map, Result, Ok, Err}
use Rattle.cyclic_plans.specs.PlanClock.{CyclicClock}
use Rattle.file_headers.specs.Heads.{unsealed}
use Rattle.file_headers.specs.Steps.{◌>>=◌}
use Rattle.saved_machines.specs.Saved.{SavedHead, SavedMachine}
use Rattle.saved_machines.specs.SavedFields.{saved_faults}
use Rattle.saved_machines.specs.SavedFormat.{head_format}
use Rattle.saved_machines.specs.Values.{machine_of_values}
use Rattle.saved_machines.specs.declared.fault.SavedFault.{SavedFault}
use Rattle.saved_machines.specs.declared.fault.SavedFault.TheVariants as fault
use Rattle.saved_machines.specs.declared.head.Head.{Head}
use Rattle.saved_machines.specs.declared.head.SavedClock.{SavedClock}
use Rattle.saved_machines.specs.declared.machine.Saved.{Saved}
use Rattle.xm_base.specs.Cursor.{cursor_start, past}
use Rattle.xm_conf.specs.Configuration.{Conf}

-- a plan clock
abbrev pub clock_value : SavedClock → CyclicClock
clock_value clock = record { plan = clock.plan; frame_start = clock.frame_start; asked = clock.asked }

-- a head
abbrev pub head_value : Head → SavedHead
head_value head = record {
  container = head.container;
  ticks = head.ticks;
  time = head.time;
  resets = head.resets;
  halted = head.halted;
  clock = clock_value head.clock;
}

-- the head in the bytes before the digest, after name, version and length
unfoldable pub head_in : Conf → List ℕ → List ℕ → Result SavedHead SavedFault
head_in conf container before = (head_format conf container).read (past 10 (cursor_start before)) >>= λ head. Ok head.0

-- the head of a file, or the first fault of the whole file or of the fields up to the end of the head
unfoldable pub head_read : Conf → List ℕ → List ℕ → Result SavedHead SavedFault
head_read conf container bytes = unsealed saved_faults (codes "XMSM") 1 bytes >>= λ before. head_in conf container before

-- a machine, with the input words that are left
abbrev pub saved_value : Saved → SavedMachine
saved_value saved = machine_of_values saved.container saved.values (map (λ words. words.items) saved.inputs.items)

-- a fault is the one that reading gives, unless memory runs out
abbrev pub Fails : {Y : Type 0} → SavedFault → Result Y SavedFault → Type 0
Fails found read = (found ≡ fault.Memory) ⊎ (read ≡ Err found)
