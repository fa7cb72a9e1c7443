-- Rows on the core file: each field at its place.
use Rattle.std.specs.Prelude.{◌≡◌, ℕ, true, false, List, [], ◌∷◌, ◌++◌, length, replicate, Some}
use Rattle.guest_bus.specs.Memory.{Memory, bytes_at}
use Rattle.xm_base.specs.declared.partition.State.TheVariants.{Suspended}
use Rattle.xm_ports.specs.Ports.{no_ports, with_port}
use Rattle.xm_traces.specs.Ring.{kept_of}
use Rattle.machine_model.specs.CoreFile.{core_file}
use Rattle.machine_model.specs.rows.LogCallRows.{bytes_of_health_3, bytes_of_health_4, bytes_of_trace_3, bytes_of_trace_4, health_3, health_4, trace_3, trace_4}
use Rattle.machine_model.specs.Partition.{PartitionState}
use Rattle.machine_model.specs.rows.Rows.{area, at}
use Rattle.machine_model.specs.rows.ServedRows.{calling_part, view_for}
use Rattle.machine_model.specs.rows.TimeCallRows.{timer}
use Rattle.machine_model.specs.View.{PartitionView}

-- partition 2, with an area of two bytes and one of a byte that may only be read
abbrev pub kept_view : PartitionView
kept_view = record (view_for false) {
  part = record (calling_part false) { areas = area 0x1000 2 ∷ record (area 0x2000 1) { read_only = true } ∷ [] };
}

-- a partition no two of whose fields are alike
abbrev pub kept_state : Memory → PartitionState
kept_state memory = record {
  core = record {
    pc = 0x4000_0010;
    npc = 0x4000_0020;
    y = 0x0304_0506;
    icc = 10;
    cwp = 5;
    inv = 6;
    globals = 0 ∷ 1 ∷ 2 ∷ 3 ∷ 4 ∷ 5 ∷ 6 ∷ 7 ∷ [];
    windows = 8 ∷ 9 ∷ replicate 125 0 ++ 10 ∷ [];
  };
  memory = memory;
  traps = record { enabled = true; base = 0x4000_1000; pending = 5; mask = 0xffff_fffe };
  clocks = record { execution = 258; hardware_timer = Some (timer 100 9); execution_timer = Some (timer 200 0) };
  state = Suspended;
  resets = 3;
  reset_status = 11;
  made = with_port 1 (with_port 3 no_ports);
  traces = kept_of 5 (trace_3 ∷ trace_4 ∷ []);
  health = kept_of 6 (health_3 ∷ health_4 ∷ []);
  inputs = 7 ∷ 8 ∷ 9 ∷ [];
}

-- its core file: XMCO, version 1, the number, the state, the resets, the status, the execution clock; the two program counters, Y, the condition codes,
-- the two windows, the flag, the table, what is pending, the mask; the timers; the input words left, the made ports; the registers
abbrev pub kept_head : List ℕ
kept_head =
    0x58 ∷ 0x4d ∷ 0x43 ∷ 0x4f ∷ 0 ∷ 1 ∷ 2 ∷ 2 ∷ 0 ∷ 0 ∷ 0 ∷ 3 ∷ 0 ∷ 0 ∷ 0 ∷ 11 ∷ 0 ∷ 0 ∷ 0 ∷ 0 ∷ 0 ∷ 0 ∷ 1 ∷ 2
    ∷ 0x40 ∷ 0 ∷ 0 ∷ 0x10 ∷ 0x40 ∷ 0 ∷ 0 ∷ 0x20 ∷ 3 ∷ 4 ∷ 5 ∷ 6 ∷ 10 ∷ 5 ∷ 6 ∷ 1
    ∷ 0x40 ∷ 0 ∷ 0x10 ∷ 0 ∷ 0 ∷ 0 ∷ 0 ∷ 5 ∷ 255 ∷ 255 ∷ 255 ∷ 254
    ∷ 1 ∷ 0 ∷ 0 ∷ 0 ∷ 0 ∷ 0 ∷ 0 ∷ 0 ∷ 100 ∷ 0 ∷ 0 ∷ 0 ∷ 0 ∷ 0 ∷ 0 ∷ 0 ∷ 9
    ∷ 1 ∷ 0 ∷ 0 ∷ 0 ∷ 0 ∷ 0 ∷ 0 ∷ 0 ∷ 200 ∷ 0 ∷ 0 ∷ 0 ∷ 0 ∷ 0 ∷ 0 ∷ 0 ∷ 0
    ∷ 0 ∷ 0 ∷ 0 ∷ 3 ∷ 0 ∷ 0 ∷ 0 ∷ 10
    ∷ 0 ∷ 0 ∷ 0 ∷ 0 ∷ 0 ∷ 0 ∷ 0 ∷ 1 ∷ 0 ∷ 0 ∷ 0 ∷ 2 ∷ 0 ∷ 0 ∷ 0 ∷ 3 ∷ 0 ∷ 0 ∷ 0 ∷ 4 ∷ 0 ∷ 0 ∷ 0 ∷ 5 ∷ 0 ∷ 0 ∷ 0 ∷ 6 ∷ 0 ∷ 0 ∷ 0 ∷ 7
    ∷ 0 ∷ 0 ∷ 0 ∷ 8 ∷ 0 ∷ 0 ∷ 0 ∷ 9 ∷ replicate 503 0 ++ 10 ∷ []

-- the logs: their counts, and 64 entries each, zeros for those that are missing
abbrev pub kept_logs : List ℕ
kept_logs =
    0 ∷ 0 ∷ 0 ∷ 3 ∷ 0 ∷ 0 ∷ 0 ∷ 5 ∷ bytes_of_trace_3 ++ bytes_of_trace_4 ++ replicate 1488 0
    ++ 0 ∷ 0 ∷ 0 ∷ 4 ∷ 0 ∷ 0 ∷ 0 ∷ 6 ∷ bytes_of_health_3 ++ bytes_of_health_4 ++ replicate 1240 0

-- the areas: their number, and the start, the size and the bytes of each
abbrev pub kept_areas : Memory → List ℕ
kept_areas memory =
    2 ∷ 0 ∷ 0 ∷ 0x10 ∷ 0 ∷ 0 ∷ 0 ∷ 0 ∷ 2 ∷ bytes_at memory 0x1000 2 ++ 0 ∷ 0 ∷ 0x20 ∷ 0 ∷ 0 ∷ 0 ∷ 0 ∷ 1 ∷ bytes_at memory 0x2000 1

-- the whole file, and that of a partition with no timer armed; before the areas it has 3471 bytes
pub record CoreFileRows : Type 0 where
  pub bytes : (memory : Memory) → core_file kept_view (kept_state memory) ≡ kept_head ++ kept_logs ++ kept_areas memory
  pub size : (memory : Memory) → length (core_file (record kept_view { part = record (calling_part false) { areas = [] } }) (at 0x1000 memory)) ≡ 3471
