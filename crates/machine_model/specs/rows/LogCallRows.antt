-- Rows on the calls on traces and on the health log, numbers 24 to 29: the result and the effect of each, and each of its tests at its edge.
use Rattle.std.specs.Prelude.{ℕ, ◌+◌, ◌-◌, true, false, List, [], ◌∷◌}
use Rattle.guest_bus.specs.Memory.{Memory, bytes_at}
use Rattle.health_monitor.specs.declared.entry.HealthEntry.{HealthEntry}
use Rattle.xm_conf.specs.declared.health.Action.TheVariants as action
use Rattle.xm_conf.specs.declared.health.Event.TheVariants as event
use Rattle.xm_traces.specs.Ring.{kept_of}
use Rattle.xm_traces.specs.declared.entry.TraceEntry.{TraceEntry}
use Rattle.machine_model.specs.Caller.{Acts, Caller, Meets, Served}
use Rattle.machine_model.specs.Partition.{PartitionState}
use Rattle.machine_model.specs.rows.ServedRows.{AnswersWith, ComesTo, WritesAnswer, call, made_by, minus, shown_call, view_for, with_call, with_o0}
use Rattle.machine_model.specs.Emission.{NotKept, Nothing, Trace, Words}

-- trace entries 3 and 4 of a partition
abbrev pub trace_3 : TraceEntry
trace_3 = record { time = 0x0102_0304_0506_0708; bits = 0x0a0b_0c0d; seq = 3; load = 11 ∷ 12 ∷ 13 ∷ 14 ∷ 15 ∷ 16 ∷ 17 ∷ 18 ∷ [] }

abbrev pub trace_4 : TraceEntry
trace_4 = record { time = 8; bits = 2; seq = 4; load = 0 ∷ 0 ∷ 0 ∷ 0 ∷ 0 ∷ 0 ∷ 0 ∷ 1 ∷ [] }

-- their 24 bytes
abbrev pub bytes_of_trace_3 : List ℕ
bytes_of_trace_3 =
    1 ∷ 2 ∷ 3 ∷ 4 ∷ 5 ∷ 6 ∷ 7 ∷ 8 ∷ 10 ∷ 11 ∷ 12 ∷ 13 ∷ 0 ∷ 0 ∷ 0 ∷ 3 ∷ 11 ∷ 12 ∷ 13 ∷ 14 ∷ 15 ∷ 16 ∷ 17 ∷ 18 ∷ []

abbrev pub bytes_of_trace_4 : List ℕ
bytes_of_trace_4 =
    0 ∷ 0 ∷ 0 ∷ 0 ∷ 0 ∷ 0 ∷ 0 ∷ 8 ∷ 0 ∷ 0 ∷ 0 ∷ 2 ∷ 0 ∷ 0 ∷ 0 ∷ 4 ∷ 0 ∷ 0 ∷ 0 ∷ 0 ∷ 0 ∷ 0 ∷ 0 ∷ 1 ∷ []

-- two health entries of a partition
abbrev pub health_3 : HealthEntry
health_3 = record {
  time = 0x0102_0304_0506_0708;
  seq = 3;
  event = event.SparcDataAccess;
  action = action.HypervisorColdReset;
  word = 0x0a0b_0c0d;
}

abbrev pub health_4 : HealthEntry
health_4 = record { time = 8; seq = 4; event = event.PartitionError; action = action.SwitchToMaintenance; word = 1 }

-- their 20 bytes
abbrev pub bytes_of_health_3 : List ℕ
bytes_of_health_3 = 1 ∷ 2 ∷ 3 ∷ 4 ∷ 5 ∷ 6 ∷ 7 ∷ 8 ∷ 0 ∷ 0 ∷ 0 ∷ 3 ∷ 11 ∷ 7 ∷ 0 ∷ 0 ∷ 10 ∷ 11 ∷ 12 ∷ 13 ∷ []

abbrev pub bytes_of_health_4 : List ℕ
bytes_of_health_4 = 0 ∷ 0 ∷ 0 ∷ 0 ∷ 0 ∷ 0 ∷ 0 ∷ 8 ∷ 0 ∷ 0 ∷ 0 ∷ 4 ∷ 0 ∷ 10 ∷ 0 ∷ 0 ∷ 0 ∷ 0 ∷ 0 ∷ 1 ∷ []

-- a partition that keeps two entries of each log, traces 3 and 4 and health entries 5 and 6, and calls
abbrev pub logging : List ℕ → Memory → PartitionState
logging outs memory = record (with_call outs memory) { traces = kept_of 5 (trace_3 ∷ trace_4 ∷ []); health = kept_of 7 (health_3 ∷ health_4 ∷ []) }

abbrev pub log_call : List ℕ → Memory → Caller
log_call outs memory = made_by (view_for false) (logging outs memory)

-- call 24 enters and emits these bits and the eight bytes at an address, under number 5
abbrev pub entering : ℕ → ℕ → Memory → Served
entering bits address memory = record {
  after = with_o0 0 (record (logging (24 ∷ bits ∷ address ∷ []) memory) {
    traces = kept_of 6 (trace_3 ∷ trace_4 ∷ record { time = 9; bits = bits; seq = 5; load = bytes_at memory address 8 } ∷ []);
  });
  emitted = Trace bits (bytes_at memory address 8) ∷ [];
  upshot = Acts Nothing;
}

-- call 24: eight bytes that have to be readable, and one bit at least in the mask, whose bits are 1 and 2
abbrev pub Traces : Type 0
Traces = (memory : Memory) →
    ComesTo (log_call (24 ∷ 3 ∷ 0x1038 ∷ []) memory) (entering 3 0x1038 memory)
    × ComesTo (log_call (24 ∷ 0xffff_fffd ∷ 0x2038 ∷ []) memory) (entering 0xffff_fffd 0x2038 memory)
    × AnswersWith (log_call (24 ∷ 3 ∷ 0x1039 ∷ []) memory) (minus 3)
    × AnswersWith (log_call (24 ∷ 1 ∷ 0x1039 ∷ []) memory) (minus 3)
    × AnswersWith (log_call (24 ∷ 1 ∷ 0x1038 ∷ []) memory) (minus 1)
    × AnswersWith (log_call (24 ∷ 0xffff_fff9 ∷ 0x1038 ∷ []) memory) (minus 1)

-- calls 25 and 28 read an entry, of which the first that is kept has this number, to an address, of which the last with room is this: that the entry is
-- kept is tested before its place
abbrev pub ReadsEntry : ℕ → ℕ → ℕ → List ℕ → List ℕ → Type 0
ReadsEntry number first last first_bytes second_bytes = (memory : Memory) →
    WritesAnswer (log_call (number ∷ 2 ∷ first ∷ last ∷ []) memory) 0 last first_bytes
    × WritesAnswer (log_call (number ∷ 2 ∷ (first + 1) ∷ 0x1000 ∷ []) memory) 0 0x1000 second_bytes
    × AnswersWith (log_call (number ∷ 2 ∷ (first - 1) ∷ 0x1000 ∷ []) memory) (minus 7)
    × AnswersWith (log_call (number ∷ 2 ∷ (first + 2) ∷ 0x1000 ∷ []) memory) (minus 7)
    × AnswersWith (log_call (number ∷ 2 ∷ (first - 1) ∷ 0x2000 ∷ []) memory) (minus 7)
    × AnswersWith (log_call (number ∷ 2 ∷ first ∷ 0x1040 ∷ []) memory) (minus 3)
    × AnswersWith (log_call (number ∷ 2 ∷ first ∷ 0x2000 ∷ []) memory) (minus 3)
    × AnswersWith (log_call (number ∷ 3 ∷ (first - 1) ∷ 0x1000 ∷ []) memory) (minus 4)

-- the bytes of another partition's entry are those that are shown, and so is that it is not kept
abbrev pub ReadsAnother : ℕ → ℕ → Type 0
ReadsAnother number last = (memory : Memory) →
    WritesAnswer (shown_call (Words (5 ∷ 6 ∷ [])) (number ∷ 3 ∷ 7 ∷ last ∷ []) memory) 0 last (5 ∷ 6 ∷ [])
    × AnswersWith (shown_call NotKept (number ∷ 3 ∷ 7 ∷ last ∷ []) memory) (minus 7)
    × AnswersWith (shown_call NotKept (number ∷ 3 ∷ 7 ∷ 0x2000 ∷ []) memory) (minus 7)
    × AnswersWith (call true (number ∷ 3 ∷ 7 ∷ 0x2000 ∷ []) memory) (minus 3)
    × AnswersWith (call true (number ∷ 4 ∷ 7 ∷ last ∷ []) memory) (minus 3)

-- one byte less than an entry needs
abbrev pub LacksByte : ℕ → ℕ → ℕ → Type 0
LacksByte number first late = (memory : Memory) →
    AnswersWith (log_call (number ∷ 2 ∷ first ∷ late ∷ []) memory) (minus 3) × AnswersWith (call true (number ∷ 3 ∷ first ∷ late ∷ []) memory) (minus 3)

-- calls 26 and 29: the first number that is kept and the next number, in eight bytes that have to be writable
abbrev pub GivesCounts : ℕ → ℕ → ℕ → Type 0
GivesCounts number first next = (memory : Memory) →
    WritesAnswer (log_call (number ∷ 2 ∷ 0x1038 ∷ []) memory) 0 0x1038 (0 ∷ 0 ∷ 0 ∷ first ∷ 0 ∷ 0 ∷ 0 ∷ next ∷ [])
    × AnswersWith (log_call (number ∷ 2 ∷ 0x1039 ∷ []) memory) (minus 3)
    × AnswersWith (log_call (number ∷ 2 ∷ 0x2000 ∷ []) memory) (minus 3)
    × AnswersWith (log_call (number ∷ 3 ∷ 0x1039 ∷ []) memory) (minus 4)
    × WritesAnswer (shown_call (Words (5 ∷ 6 ∷ [])) (number ∷ 3 ∷ 0x1038 ∷ []) memory) 0 0x1038 (5 ∷ 6 ∷ [])
    × AnswersWith (call true (number ∷ 3 ∷ 0x1039 ∷ []) memory) (minus 3)
    × AnswersWith (call true (number ∷ 4 ∷ 0x1038 ∷ []) memory) (minus 3)

-- call 27: the result, and then the event with its word
abbrev pub RaisesEvent : Type 0
RaisesEvent = (memory : Memory) →
    ComesTo (call false (27 ∷ 42 ∷ []) memory) (record { after = with_o0 0 (with_call (27 ∷ 42 ∷ []) memory); emitted = []; upshot = Meets event.PartitionError 42 })

-- the rows of calls 24 to 29
pub record LogCallRows : Type 0 where
  pub trace_event : Traces
  pub trace_read : ReadsEntry 25 3 0x1028 bytes_of_trace_3 bytes_of_trace_4
  pub trace_read_of_another : ReadsAnother 25 0x1028
  pub trace_read_edge : LacksByte 25 3 0x1029
  pub trace_status : GivesCounts 26 3 5
  pub hm_raise_event : RaisesEvent
  pub hm_read : ReadsEntry 28 5 0x102c bytes_of_health_3 bytes_of_health_4
  pub hm_read_of_another : ReadsAnother 28 0x102c
  pub hm_read_edge : LacksByte 28 5 0x102d
  pub hm_status : GivesCounts 29 5 7
