-- For proofs and private clauses: what is put into a system, one thing after the other.
use Rattle.std.specs.Prelude.{◌≡◌, ℕ, zero, suc, List, [], ◌∷◌, ◌++◌, length, min}
use Rattle.std.specs.Int.{to_be_bytes, w32}
use Rattle.std.specs.Option.{ForSome}
use Rattle.guest_bus.specs.Memory.{Memory}
use Rattle.machine_model.specs.Machine.{Machine}
use Rattle.machine_model.specs.Partition.{PartitionState}
use Rattle.system_state.specs.State.{OwnState, SysState, input_words_of, memory_of, part_at, with_machine, with_memory, with_part}
use Rattle.virt_clocks.specs.Clocks.{IsTimer}
use Rattle.xm_traces.specs.Ring.{RING_ENTRIES}
use Rattle.saved_machines.specs.Saving.{with_area_pages, with_saved_pages}
use Rattle.saved_machines.specs.Saved.{SavedPage}
use Rattle.saved_machines.specs.Values.{MachineValues, PartValues}

-- the bytes of words, the highest of each first
abbrev pub word_bytes : List ℕ → List ℕ
word_bytes [] = []
word_bytes (word ∷ words) = to_be_bytes w32 word ++ word_bytes words

-- the values of a partition are those of a state without its memory
pub record AreStateValues (values : PartValues) : Type 0 where
  pub hardware_timer : ForSome values.clocks.hardware_timer IsTimer
  pub execution_timer : ForSome values.clocks.execution_timer IsTimer
  pub traces : length values.traces.entries ≡ min values.traces.next RING_ENTRIES
  pub health : length values.health.entries ≡ min values.health.next RING_ENTRIES

-- that state, where it has read none of its input words
unfoldable pub own_of : PartValues → OwnState
own_of values = record {
  core = values.core;
  virt = values.traps;
  clocks = values.clocks;
  state = values.state;
  resets = values.resets;
  reset_status = values.reset_status;
  ports = values.made;
  traces = values.traces;
  health = values.health;
  used = 0;
}

-- a partition with these values, over a memory
abbrev pub given_part : PartValues → Memory → List ℕ → PartitionState
given_part values memory words = with_memory (own_of values) (with_area_pages memory values.pages) words

-- the system with these pages in the memory of one partition
unfoldable pub paged : ℕ → List SavedPage → SysState → SysState
paged p pages sys =
    with_machine (with_part p (record (part_at p sys.machine) { memory = with_saved_pages (memory_of p sys.machine) pages }) sys.machine) sys

-- the system with the pages of each area in the memory of one partition
unfoldable pub all_paged : ℕ → List (List SavedPage) → SysState → SysState
all_paged p areas sys =
    with_machine (with_part p (record (part_at p sys.machine) { memory = with_area_pages (memory_of p sys.machine) areas }) sys.machine) sys

-- the system with these values of one partition
unfoldable pub given_at : ℕ → PartValues → SysState → SysState
given_at p values sys =
    with_machine (with_part p (given_part values (memory_of p sys.machine) (input_words_of p sys.machine)) sys.machine) sys

-- partitions of which the first this many have their values
abbrev pub given_below : ℕ → List PartValues → (ℕ → List ℕ) → List PartitionState → List PartitionState
given_below zero values words parts = parts
given_below (suc n) [] words parts = parts
given_below (suc n) (one ∷ values) words [] = []
given_below (suc n) (one ∷ values) words (ps ∷ parts) =
    given_part one ps.memory (words 0) ∷ given_below n values (λ k. words (suc k)) parts

-- the system in which the first this many partitions have their values
unfoldable pub parts_given : ℕ → List PartValues → SysState → SysState
parts_given n values sys =
    with_machine (record sys.machine { parts = given_below n values (λ q. input_words_of q sys.machine) sys.machine.parts }) sys

-- the machine with other clocks and counts
abbrev pub counted_so : MachineValues → Machine → Machine
counted_so values g = record g {
  clock = values.clock;
  time = values.time;
  ticks = values.ticks;
  resets = values.resets;
  halted = values.halted;
}

-- the machine with all values
abbrev pub given_all : MachineValues → Machine → Machine
given_all values g =
    counted_so values (record g {
      parts = given_below (length g.parts) values.parts (λ q. input_words_of q g) g.parts;
      channels = values.channels;
    })
