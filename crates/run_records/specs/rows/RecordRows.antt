-- Rows on what is recorded of a run, worked by hand.
use Rattle.std.specs.Prelude.{◌≡◌, ℕ, Bool, true, false, List, [], ◌∷◌, Some, None, codes, pos}
use Rattle.sparc_code.specs.declared.instruction.Instr.TheVariants as instr
use Rattle.sparc_code.specs.declared.instruction.Src.TheVariants as src
use Rattle.xm_conf.specs.declared.health.Action.TheVariants as action
use Rattle.xm_conf.specs.declared.health.Event.TheVariants as event
use Rattle.xm_report.specs.declared.line.Move.TheVariants as move
use Rattle.run_records.specs.Calls.{CallMade, HealthMet, InterruptTaken, StateMoved, TrapMet, accessed_after_trap, call_text}
use Rattle.run_records.specs.Counts.{Row, counts_text, rows_of}
use Rattle.run_records.specs.Doing.{Delivers, Executes, Rests, doing_by}
use Rattle.run_records.specs.Tried.{Completed, Executed, Fate, Trapped, is_taken}
use Rattle.run_records.specs.Stops.{ended_by, is_another}
use Rattle.run_records.specs.Use.{Occurrence, PartUse, SlotTick, figures_of, occurrences, slot_use}
use Rattle.run_records.specs.UseText.{part_text, slot_text}

-- a partition that does not go on rests; one that takes an interrupt executes nothing; one whose traps are disabled executes
pub record DoingRows : Type 0 where
  pub rests : doing_by false (Some 3) true ≡ Rests
  pub delivers : doing_by true (Some 3) true ≡ Delivers 3
  pub masked : doing_by true None true ≡ Executes
  pub disabled : doing_by true (Some 3) false ≡ Executes

-- an instruction at an address
abbrev pub at : ℕ → Fate → Executed
at address fate = record { address = address; fate = fate }

abbrev pub row : ℕ → ℕ → ℕ → ℕ → Row
row address completed taken trapped = record { address = address; completed = completed; taken = taken; trapped = trapped }

-- a loop of two words that is entered twice, and a word that traps: of the branch one of two is taken
abbrev pub loop_twice : List Executed
loop_twice =
    at 0x40000004 (Completed false) ∷ at 0x40000008 (Completed true) ∷ at 0x40000004 (Completed false) ∷ at 0x40000008 (Completed false)
    ∷ at 0x40000000 (Trapped 9) ∷ []

-- BNE is taken where the last result was not zero; BA always, BN never; a jump is no branch
pub record TakenRows : Type 0 where
  pub not_zero : is_taken (instr.Branch 9 false (pos 2)) 0 ≡ true
  pub zero : is_taken (instr.Branch 9 false (pos 2)) 4 ≡ false
  pub always : is_taken (instr.Branch 8 true (pos 2)) 4 ≡ true
  pub never : is_taken (instr.Branch 0 true (pos 2)) 4 ≡ false
  pub jump : is_taken (instr.Jump 0 15 (src.Imm (pos 8))) 0 ≡ false

-- each word has one row, in rising order, and each instruction is counted once; a taken branch has completed
pub record CountRows : Type 0 where
  pub rows : rows_of loop_twice ≡ row 0x40000000 0 0 1 ∷ row 0x40000004 2 0 0 ∷ row 0x40000008 2 1 0 ∷ []
  pub text : counts_text (record { rows = row 0x40000000 0 0 1 ∷ row 0x4000000c 12 3 0 ∷ []; outside = 4; interrupts = 15 })
      ≡ codes "40000000 0 0 1\n4000000c 12 3 0\noutside 4\ninterrupts 15\n"
  pub nothing : counts_text (record { rows = []; outside = 0; interrupts = 0 }) ≡ codes "outside 0\ninterrupts 0\n"

-- a stop before a tick ends the run there, whatever the tick changes; one after it counts the tick; a byte that stays the same is no stop
pub record StopRows : Type 0 where
  pub before : ended_by true true (Some 7) ≡ Some 0
  pub after : ended_by false true (Some 7) ≡ Some 1
  pub later : ended_by false false (Some 7) ≡ Some 8
  pub none : ended_by false false None ≡ None
  pub changed : is_another (Some 3) (Some 4) ≡ true
  pub same : is_another (Some 3) (Some 3) ≡ false

-- lines: a call with its arguments and its result, one that was refused, one that makes a port, one without a result and one of a number that is no call's;
-- an interrupt; a trap; a health event with the address that was accessed, and one without; a change of state
pub record LineRows : Type 0 where
  pub made : call_text (CallMade 16005 3 0x40100a2c 22 (0 ∷ 0x401fff80 ∷ 12 ∷ []) None (Some 12)) ≡ codes "[16005] P3 40100a2c receive_queuing_message 0 401fff80 c = 12\n"
  pub refused : call_text (CallMade 7 0 0x40000010 2 (5 ∷ []) None (Some 0xfffffffc)) ≡ codes "[7] P0 40000010 halt_partition 5 = -4 XM_NO_PERMISSION\n"
  pub named : call_text (CallMade 7 0 0x40000010 16 (0x40000200 ∷ 12 ∷ 1 ∷ []) (Some (codes "gyro")) (Some 0xfffffffb))
      ≡ codes "[7] P0 40000010 create_sampling_port 40000200 c 1 \"gyro\" = -5 XM_INVALID_CONFIGURATION\n"
  pub back : call_text (CallMade 7 0 0x40000010 34 [] None None) ≡ codes "[7] P0 40000010 sparc_iret\n"
  pub unknown : call_text (CallMade 7 0 0x40000010 99 [] None (Some 0xfffffffe)) ≡ codes "[7] P0 40000010 call_99 = -2 XM_UNKNOWN_CALL\n"
  pub interrupt : call_text (InterruptTaken 8 1 0x40000010 5) ≡ codes "[8] P1 40000010 interrupt 5\n"
  pub trap : call_text (TrapMet 9 1 0x40000010 0x2a) ≡ codes "[9] P1 40000010 trap 2a\n"
  pub accessed : call_text (HealthMet 9 1 event.SparcIllegalInstruction 0x40000010 (Some 0x10) action.Halt) ≡ codes "[9] P1 HM XM_HM_EV_SPARC_ILLEGAL_INSTRUCTION 40000010 XM_HM_AC_HALT accessed 00000010\n"
  pub plain : call_text (HealthMet 9 1 event.SparcIllegalInstruction 0x40000010 None action.Halt) ≡ codes "[9] P1 HM XM_HM_EV_SPARC_ILLEGAL_INSTRUCTION 40000010 XM_HM_AC_HALT\n"
  pub moved : call_text (StateMoved 9 1 move.Halt) ≡ codes "[9] P1 HALT\n"

-- a trap that was handed on and could not be delivered: its own event has its own address, and that of the delivery has the window's place
pub record AccessedRows : Type 0 where
  pub own : accessed_after_trap true true (Some 0x10) 0x4000ffa0 ≡ Some 0x10
  pub delivery : accessed_after_trap true false (Some 0x10) 0x4000ffa0 ≡ Some 0x4000ffa0
  pub halted : accessed_after_trap false false (Some 0x10) 0x4000ffa0 ≡ Some 0x10

-- a tick of slot 2 of plan 0
abbrev pub tick : Bool → Bool → Bool → SlotTick
tick first busy ready = record { plan = 0; slot = 2; part = 1; first = first; busy = busy; ready = ready }

-- three frames of a slot of three ticks: in the first its partition waits after two ticks; in the second it is still busy at the end; in the third the run
-- ends after one tick, which is no overrun
abbrev pub three_frames : List SlotTick
three_frames =
    tick true true true ∷ tick false true false ∷ tick false false false ∷ tick true true true ∷ tick false true true ∷ tick false true true ∷ tick true true true ∷ []

abbrev pub occurrence : ℕ → ℕ → Bool → Occurrence
occurrence ticks busy unfinished = record { plan = 0; slot = 2; ticks = ticks; busy = busy; unfinished = unfinished }

pub record UseRows : Type 0 where
  pub occurrences : occurrences three_frames ≡ occurrence 3 2 false ∷ occurrence 3 3 true ∷ occurrence 1 1 true ∷ []
  pub slot : slot_use 0 2 3 three_frames ≡ record { busy = record { count = 3; least = 1; sum = 6; most = 3 }; overruns = 1 }
  pub other : slot_use 1 2 3 three_frames ≡ record { busy = record { count = 0; least = 0; sum = 0; most = 0 }; overruns = 0 }
  pub figures : figures_of (5 ∷ 2 ∷ 9 ∷ []) ≡ record { count = 3; least = 2; sum = 16; most = 9 }

-- a partition whose interrupt 1 was delivered twice, and whose interrupt 2 waits; two of its calls were refused
abbrev pub busy_part : PartUse
busy_part = record {
  busy = 40;
  in_slots = 50;
  ticks = 200;
  executed = 38;
  waits = figures_of [] ∷ figures_of (3 ∷ 6 ∷ []) ∷ figures_of [] ∷ [];
  waiting = 0 ∷ 0 ∷ 7 ∷ [];
  refused = 0 ∷ 0 ∷ 2 ∷ [];
  stack = figures_of (0x401fff80 ∷ 0x401fff00 ∷ []);
}

-- the text of a slot that ran twice, and of a partition
pub record UseTextRows : Type 0 where
  pub slot : slot_text 0 2 (record { start = 0; duration = 3; part = 1 }) (record { busy = figures_of (3 ∷ 2 ∷ []); overruns = 1 })
      ≡ codes "plan 0 slot 2 P1 ticks 3 frames 2 least 2 mean 2 most 3 overruns 1\n"
  pub part : part_text 1 busy_part
      ≡ codes "P1 ticks 200 in slots 50 busy 40 instructions 38\nP1 interrupt 1 delivered 2 least 3 mean 4 most 6 waiting 0\nP1 interrupt 2 delivered 0 least 0 mean 0 most 0 waiting 7\nP1 refused halt_partition 2\nP1 stack pointers 2 deepest 401fff00\n"
