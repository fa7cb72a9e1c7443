-- Rows on flips, worked by hand: the first and the last bit of each place, and what is no place.
use Rattle.std.specs.Prelude.{◌≡◌, ℕ, true, false, List, [], ◌∷◌, ◌++◌, replicate, Option, None, Some}
use Rattle.guest_bus.specs.Memory.{byte_at, is_readable}
use Rattle.virt_clocks.specs.declared.timer.Timer.{Timer}
use Rattle.machine_model.specs.Partition.{PartitionState, areas_of}
use Rattle.machine_model.specs.View.{PartitionView}
use Rattle.upset_model.specs.Places.{flip, is_place}
use Rattle.xm_report.specs.declared.place.Place.TheVariants.{Conditions, ExecutionDeadline, Global, HardwareDeadline, Mask, MemoryByte, Npc, Pc, Pending, TrapBase, Windowed, YRegister}

-- a partition with these in its registers, its virtual traps and its timers
abbrev pub having_globals : List ℕ → PartitionState → PartitionState
having_globals words ps = record ps { core = record ps.core { globals = words } }

abbrev pub having_windows : List ℕ → PartitionState → PartitionState
having_windows words ps = record ps { core = record ps.core { windows = words } }

abbrev pub having_pc : ℕ → PartitionState → PartitionState
having_pc pc ps = record ps { core = record ps.core { pc = pc } }

abbrev pub having_npc : ℕ → PartitionState → PartitionState
having_npc npc ps = record ps { core = record ps.core { npc = npc } }

abbrev pub having_y : ℕ → PartitionState → PartitionState
having_y y ps = record ps { core = record ps.core { y = y } }

abbrev pub having_conditions : ℕ → PartitionState → PartitionState
having_conditions icc ps = record ps { core = record ps.core { icc = icc } }

abbrev pub having_hardware : Option Timer → PartitionState → PartitionState
having_hardware timer ps = record ps { clocks = record ps.clocks { hardware_timer = timer } }

abbrev pub having_execution : Option Timer → PartitionState → PartitionState
having_execution timer ps = record ps { clocks = record ps.clocks { execution_timer = timer } }

abbrev pub having_base : ℕ → PartitionState → PartitionState
having_base base ps = record ps { traps = record ps.traps { base = base } }

abbrev pub having_mask : ℕ → PartitionState → PartitionState
having_mask mask ps = record ps { traps = record ps.traps { mask = mask } }

abbrev pub having_pending : ℕ → PartitionState → PartitionState
having_pending pending ps = record ps { traps = record ps.traps { pending = pending } }

abbrev pub timer_due : ℕ → ℕ → Option Timer
timer_due deadline interval = Some (record { deadline = deadline; interval = interval })

-- g1 and g7
pub record GlobalRows : Type 0 where
  pub first_low : (ps : PartitionState) →
      flip (Global 1) 0 (having_globals (0 ∷ 0x12345678 ∷ 2 ∷ 3 ∷ 4 ∷ 5 ∷ 6 ∷ 7 ∷ []) ps) ≡ having_globals (0 ∷ 0x12345679 ∷ 2 ∷ 3 ∷ 4 ∷ 5 ∷ 6 ∷ 7 ∷ []) ps
  pub first_high : (ps : PartitionState) →
      flip (Global 1) 31 (having_globals (0 ∷ 0x12345678 ∷ 2 ∷ 3 ∷ 4 ∷ 5 ∷ 6 ∷ 7 ∷ []) ps) ≡ having_globals (0 ∷ 0x92345678 ∷ 2 ∷ 3 ∷ 4 ∷ 5 ∷ 6 ∷ 7 ∷ []) ps
  pub last_low : (ps : PartitionState) →
      flip (Global 7) 0 (having_globals (0 ∷ 1 ∷ 2 ∷ 3 ∷ 4 ∷ 5 ∷ 6 ∷ 7 ∷ []) ps) ≡ having_globals (0 ∷ 1 ∷ 2 ∷ 3 ∷ 4 ∷ 5 ∷ 6 ∷ 6 ∷ []) ps
  pub last_high : (ps : PartitionState) →
      flip (Global 7) 31 (having_globals (0 ∷ 1 ∷ 2 ∷ 3 ∷ 4 ∷ 5 ∷ 6 ∷ 7 ∷ []) ps) ≡ having_globals (0 ∷ 1 ∷ 2 ∷ 3 ∷ 4 ∷ 5 ∷ 6 ∷ 0x80000007 ∷ []) ps

-- w0 and w127
pub record WindowRows : Type 0 where
  pub first_low : (ps : PartitionState) → flip (Windowed 0) 0 (having_windows (9 ∷ replicate 127 5) ps) ≡ having_windows (8 ∷ replicate 127 5) ps
  pub first_high : (ps : PartitionState) → flip (Windowed 0) 31 (having_windows (0x80000000 ∷ replicate 127 5) ps) ≡ having_windows (0 ∷ replicate 127 5) ps
  pub last_low : (ps : PartitionState) → flip (Windowed 127) 0 (having_windows (replicate 127 5 ++ 0 ∷ []) ps) ≡ having_windows (replicate 127 5 ++ 1 ∷ []) ps
  pub last_high : (ps : PartitionState) → flip (Windowed 127) 31 (having_windows (replicate 127 5 ++ 1 ∷ []) ps) ≡ having_windows (replicate 127 5 ++ 0x80000001 ∷ []) ps

-- the program counters, whose two lowest bits are 0, Y, and the four condition codes
pub record RegisterRows : Type 0 where
  pub pc_low : (ps : PartitionState) → flip Pc 2 (having_pc 0x40100010 ps) ≡ having_pc 0x40100014 ps
  pub pc_high : (ps : PartitionState) → flip Pc 31 (having_pc 0x40100010 ps) ≡ having_pc 0xc0100010 ps
  pub npc_low : (ps : PartitionState) → flip Npc 2 (having_npc 0x40100014 ps) ≡ having_npc 0x40100010 ps
  pub npc_high : (ps : PartitionState) → flip Npc 31 (having_npc 0xc0100014 ps) ≡ having_npc 0x40100014 ps
  pub y_low : (ps : PartitionState) → flip YRegister 0 (having_y 6 ps) ≡ having_y 7 ps
  pub y_high : (ps : PartitionState) → flip YRegister 31 (having_y 6 ps) ≡ having_y 0x80000006 ps
  pub conditions_low : (ps : PartitionState) → flip Conditions 0 (having_conditions 5 ps) ≡ having_conditions 4 ps
  pub conditions_high : (ps : PartitionState) → flip Conditions 3 (having_conditions 5 ps) ≡ having_conditions 13 ps

-- deadlines: one that becomes 0 disarms its timer, and that of a timer that is not armed is 0 and becomes another
pub record TimerRows : Type 0 where
  pub hardware_low : (ps : PartitionState) → flip HardwareDeadline 0 (having_hardware (timer_due 2 7) ps) ≡ having_hardware (timer_due 3 7) ps
  pub hardware_high : (ps : PartitionState) → flip HardwareDeadline 62 (having_hardware (timer_due 2 7) ps) ≡ having_hardware (timer_due 0x4000000000000002 7) ps
  pub hardware_disarmed : (ps : PartitionState) → flip HardwareDeadline 0 (having_hardware (timer_due 1 7) ps) ≡ having_hardware None ps
  pub hardware_armed : (ps : PartitionState) → flip HardwareDeadline 62 (having_hardware None ps) ≡ having_hardware (timer_due 0x4000000000000000 0) ps
  pub execution_low : (ps : PartitionState) → flip ExecutionDeadline 0 (having_execution (timer_due 2 7) ps) ≡ having_execution (timer_due 3 7) ps
  pub execution_high : (ps : PartitionState) → flip ExecutionDeadline 62 (having_execution (timer_due 2 7) ps) ≡ having_execution (timer_due 0x4000000000000002 7) ps
  pub execution_disarmed : (ps : PartitionState) → flip ExecutionDeadline 0 (having_execution (timer_due 1 7) ps) ≡ having_execution None ps
  pub execution_armed : (ps : PartitionState) → flip ExecutionDeadline 62 (having_execution None ps) ≡ having_execution (timer_due 0x4000000000000000 0) ps

-- the base of the table of traps, whose twelve lowest bits are 0, and the masked and the pending interrupts
pub record TrapRows : Type 0 where
  pub base_low : (ps : PartitionState) → flip TrapBase 12 (having_base 0x40100000 ps) ≡ having_base 0x40101000 ps
  pub base_high : (ps : PartitionState) → flip TrapBase 31 (having_base 0x40100000 ps) ≡ having_base 0xc0100000 ps
  pub mask_low : (ps : PartitionState) → flip Mask 0 (having_mask 0xffffffff ps) ≡ having_mask 0xfffffffe ps
  pub mask_high : (ps : PartitionState) → flip Mask 31 (having_mask 0xffffffff ps) ≡ having_mask 0x7fffffff ps
  pub pending_low : (ps : PartitionState) → flip Pending 0 (having_pending 0 ps) ≡ having_pending 1 ps
  pub pending_high : (ps : PartitionState) → flip Pending 31 (having_pending 0 ps) ≡ having_pending 0x80000000 ps

-- a byte of memory
pub record MemoryRows : Type 0 where
  pub low : (ps : PartitionState) → byte_at ps.memory 0x40100010 ≡ 0x12 → byte_at (flip (MemoryByte 0x40100010) 0 ps).memory 0x40100010 ≡ 0x13
  pub high : (ps : PartitionState) → byte_at ps.memory 0x40100010 ≡ 0x12 → byte_at (flip (MemoryByte 0x40100010) 7 ps).memory 0x40100010 ≡ 0x92

-- the bits at the edges of each place
pub record EdgeRows : Type 0 where
  pub globals : (view : PartitionView) →
      (is_place view (Global 0) 0 ≡ false) × (is_place view (Global 1) 0 ≡ true) × (is_place view (Global 7) 31 ≡ true) × (is_place view (Global 7) 32 ≡ false)
      × (is_place view (Global 8) 0 ≡ false)
  pub windows : (view : PartitionView) →
      (is_place view (Windowed 0) 0 ≡ true) × (is_place view (Windowed 127) 31 ≡ true) × (is_place view (Windowed 127) 32 ≡ false) × (is_place view (Windowed 128) 0 ≡ false)
  pub counters : (view : PartitionView) →
      (is_place view Pc 1 ≡ false) × (is_place view Pc 2 ≡ true) × (is_place view Pc 31 ≡ true) × (is_place view Pc 32 ≡ false)
      × (is_place view Npc 1 ≡ false) × (is_place view Npc 2 ≡ true) × (is_place view Npc 31 ≡ true) × (is_place view Npc 32 ≡ false)
  pub others : (view : PartitionView) →
      (is_place view YRegister 31 ≡ true) × (is_place view YRegister 32 ≡ false) × (is_place view Conditions 3 ≡ true) × (is_place view Conditions 4 ≡ false)
      × (is_place view HardwareDeadline 62 ≡ true) × (is_place view HardwareDeadline 63 ≡ false)
      × (is_place view ExecutionDeadline 62 ≡ true) × (is_place view ExecutionDeadline 63 ≡ false)
  pub traps : (view : PartitionView) →
      (is_place view TrapBase 11 ≡ false) × (is_place view TrapBase 12 ≡ true) × (is_place view TrapBase 31 ≡ true) × (is_place view TrapBase 32 ≡ false)
      × (is_place view Mask 31 ≡ true) × (is_place view Mask 32 ≡ false) × (is_place view Pending 31 ≡ true) × (is_place view Pending 32 ≡ false)
  pub memory : (view : PartitionView) (address : ℕ) → is_readable (areas_of view) address ≡ true →
      (is_place view (MemoryByte address) 7 ≡ true) × (is_place view (MemoryByte address) 8 ≡ false)
  pub elsewhere : (view : PartitionView) (address bit : ℕ) → is_readable (areas_of view) address ≡ false → is_place view (MemoryByte address) bit ≡ false
