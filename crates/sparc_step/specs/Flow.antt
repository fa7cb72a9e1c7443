-- Branches, calls, jumps and traps, by the rows of appendix B of the SPARC V8 manual.
use Rattle.std.specs.Prelude.{ℕ, ◌+◌, ◌*◌, ◌%◌, ◌^◌, ℤ, Bool, ◌&&◌, ◌==◌, if◌then◌else◌, bit_xor}
use Rattle.sparc_code.specs.declared.instruction.Src.{Src}
use Rattle.sparc_step.specs.Conditions.{holds}
use Rattle.sparc_step.specs.Operands.{sum_of, value_of}
use Rattle.sparc_step.specs.Outcome.{RegisterOutcome, trapped, went, with_result}
use Rattle.sparc_step.specs.Registers.{Registers, advanced, branched, in_window, register_at, sent, skipped, with_register, with_y}
use Rattle.sparc_step.specs.Words.{residue}
use Rattle.sparc_step.specs.declared.outcome.Turn.{Turn}
use Rattle.sparc_step.specs.declared.outcome.Turn.TheVariants.{Went, Trap, Call}

-- this many words from an address on; addresses wrap
unfoldable pub branch_target : ℕ → ℤ → ℕ
branch_target pc words = (pc + 4 * residue 32 words) % 2 ^ 32

-- CALL: register 15 has its own address
unfoldable pub call_row : ℤ → Registers → Registers
call_row disp core = branched (with_register core 15 core.pc) (branch_target core.pc disp)

-- a branch that is taken; where it is taken always, the annul bit annuls its delay slot
unfoldable pub taken : ℕ → Bool → ℕ → Registers → Registers
taken condition annul to core = if annul && (condition == 8) then sent core to else branched core to

-- a branch that is not taken; the annul bit annuls its delay slot
unfoldable pub passed : Bool → Registers → Registers
passed annul core = if annul then skipped core else advanced core

-- Bicc
unfoldable pub branch_row : ℕ → Bool → ℤ → Registers → Registers
branch_row condition annul disp core =
    if holds condition core.icc then taken condition annul (branch_target core.pc disp) core else passed annul core

-- SETHI
unfoldable pub sethi_row : ℕ → ℕ → Registers → Registers
sethi_row rd imm core = with_result rd (imm * 2 ^ 10) core

-- WRY
unfoldable pub write_y_row : ℕ → Src → Registers → Registers
write_y_row rs1 source core = advanced (with_y core (bit_xor (register_at core rs1) (value_of source core)))

-- JMPL to a target: it traps where no instruction can stand there
unfoldable pub jumped : ℕ → ℕ → Registers → RegisterOutcome
jumped rd to core = if to % 4 == 0 then went (branched (with_register core rd core.pc) to) else trapped 0x07 core

-- JMPL
abbrev pub jump_row : ℕ → ℕ → Src → Registers → RegisterOutcome
jump_row rd rs1 source core = jumped rd (sum_of rs1 source core) core

-- the type of a software trap
unfoldable pub trap_type : ℕ → ℕ
trap_type number = 0x80 + number % 128

-- the outcome of a software trap: one type is the call of the hypervisor
abbrev pub turn_of_type : ℕ → Turn
turn_of_type type = if type == 0xf0 then Call else Trap type

-- the outcome of a Ticc
unfoldable pub trap_turn : ℕ → ℕ → Src → Registers → Turn
trap_turn condition rs1 source core =
    if holds condition core.icc then turn_of_type (trap_type (sum_of rs1 source core)) else Went

-- the registers that a turn leaves which sets no register: a trap leaves them as before
abbrev pub left_by : Turn → Registers → Registers
left_by Went core = advanced core
left_by (Trap type) core = core
left_by Call core = advanced core

-- Ticc
abbrev pub trap_row : ℕ → ℕ → Src → Registers → RegisterOutcome
trap_row condition rs1 source core = record {
  turn = trap_turn condition rs1 source core;
  core = left_by (trap_turn condition rs1 source core) core;
}

-- the window that SAVE enters
unfoldable pub window_below : Registers → ℕ
window_below core = (core.cwp + 7) % 8

-- the window that RESTORE enters
unfoldable pub window_above : Registers → ℕ
window_above core = (core.cwp + 1) % 8

-- the registers in a window that is entered, with a result in it
unfoldable pub window_entered : ℕ → ℕ → ℕ → Registers → Registers
window_entered window rd value core = with_result rd value (in_window core window)

-- SAVE and RESTORE to a window, which may not be the invalid one: the operands are of the old window, the result of the new
unfoldable pub moved : ℕ → ℕ → ℕ → ℕ → Registers → RegisterOutcome
moved window type rd value core =
    if window == core.inv then trapped type core else went (window_entered window rd value core)

-- SAVE
abbrev pub save_row : ℕ → ℕ → Src → Registers → RegisterOutcome
save_row rd rs1 source core = moved (window_below core) 0x05 rd (sum_of rs1 source core) core

-- RESTORE
abbrev pub restore_row : ℕ → ℕ → Src → Registers → RegisterOutcome
restore_row rd rs1 source core = moved (window_above core) 0x06 rd (sum_of rs1 source core) core
