-- An instruction leaves words in the registers and bytes in the memory.
use Rattle.std.proofs.Common.{ℕ, ◌<◌, ◌≤◌, ◌+◌, ◌*◌, Bool, true, false, List, Option, None, Some, Result, Ok, Err, sym, arith, subst}
use Rattle.std.specs.Prelude.{◌/◌, ◌%◌, ◌^◌, ◌==◌, ℤ, pos, negsuc, nat_lt, if◌then◌else◌, bit_xor, slice_index, slice_set}
use Rattle.std.proofs.lemmas.Int.{of_z-to_z}
use Rattle.std.specs.Int.{w32, bit_not, byte_len, cast_signed, to_be_bytes}
use Rattle.guest_bus.specs.Access.{access_fault, after_store, fetched, loaded, memory_unless_refused, store_fault, unless_refused, width_of}
use Rattle.guest_bus.specs.Memory.{Area, Memory, is_readable}
use Rattle.guest_bus.specs.declared.bus.BusFault.{BusFault}
use Rattle.guest_bus.specs.declared.bus.BusFault.TheVariants.{Outside, Unaligned}
use Rattle.guest_bus.specs.declared.bus.Size.{Size}
use Rattle.guest_bus.specs.declared.bus.Size.TheVariants.{One, Two, Four, Eight}
use Rattle.sparc_code.specs.Decoded.{decoded}
use Rattle.sparc_code.specs.lemmas.DecodedLemmas.{spells-decoded}
use Rattle.sparc_code.specs.Fields.{imm22}
use Rattle.sparc_code.specs.Spells.{Spells}
use Rattle.sparc_code.specs.declared.instruction.Arith.{Arith}
use Rattle.sparc_code.specs.declared.instruction.Arith.TheVariants as work
use Rattle.sparc_code.specs.declared.instruction.Instr.{Instr}
use Rattle.sparc_code.specs.declared.instruction.Instr.TheVariants as instr
use Rattle.sparc_code.specs.declared.instruction.MemOp.{MemOp}
use Rattle.sparc_code.specs.declared.instruction.MemOp.TheVariants as transfers
use Rattle.sparc_code.specs.declared.instruction.Src.{Src}
use Rattle.sparc_code.specs.declared.instruction.Src.TheVariants.{Imm, Reg}
use Rattle.sparc_step.specs.Arithmetic.{arith_outcome, dividend, divided_by, multiply_step, stepped_y, tagged_difference_overflows, tagged_sum_overflows, unless_overflow}
use Rattle.sparc_step.specs.Conditions.{carry, codes_of_difference, codes_of_result, codes_of_sum, codes_of_tagged_difference, codes_of_tagged_sum, condition_codes, holds}
use Rattle.sparc_step.specs.Execution.{executed, keeping_memory, turned, turned_after}
use Rattle.sparc_step.specs.Flow.{branch_row, branch_target, call_row, jumped, left_by, moved, passed, sethi_row, taken, trap_turn, trap_type, turn_of_type, window_above, window_below, window_entered, write_y_row}
use Rattle.sparc_step.specs.Operands.{sum_of, value_of}
use Rattle.sparc_step.specs.Outcome.{RegisterOutcome, trapped, went, with_result, with_result_and_codes}
use Rattle.sparc_step.specs.Registers.{Registers, advanced, branched, in_window, place_in_windows, register_at, registers_started, sent, skipped, with_icc, with_register, with_y}
use Rattle.sparc_step.specs.Transfers.{exchange_of, exchanged, exchanged_with, fault_type, loaded_into, low_word, pair_at, pair_loaded, signed_byte, signed_half, store_of, stored_from, transfer, with_pair}
use Rattle.sparc_step.specs.Words.{bit, difference, quotient, quotient_overflows, residue, shifted_arithmetically, shifted_left, shifted_right, signed_product, signed_quotient, signed_quotient_overflows, sum}
use Rattle.sparc_step.specs.declared.outcome.Turn.{Turn}
use Rattle.sparc_step.specs.declared.outcome.Turn.TheVariants.{Went, Trap, Call}
use Rattle.range_model.specs.Numbers.{IsByteMemory}
use Rattle.range_model.specs.Instructions.{IsTrapByte, IsTurnedInRange}
use Rattle.range_model.specs.Registers.{AreWordRegisters}
use Rattle.range_model.proofs.NumberLemmas.{and_word, copies_below, least_word, memory_double, not_word, number_bytes, or_word, part_below, product_double, saturated_word, set_below, shifted_word, written_bytes, xor_word}

-- a register has a word
pub register_word : (core : Registers) (n : ℕ) → AreWordRegisters core → register_at core n < 2 ^ 32
unfolding register_at
register_word core n has = by (nat_lt n 8)
  where
    by : (b : Bool) → (if b then slice_index core.globals n else slice_index core.windows (place_in_windows core.cwp n)) < 2 ^ 32
    by true = has.globals n
    by false = has.windows (place_in_windows core.cwp n)

-- registers with a word in one of them
pub with_register_word : (core : Registers) (n value : ℕ) → value < 2 ^ 32 → AreWordRegisters core → AreWordRegisters (with_register core n value)
unfolding with_register
with_register_word core n value small has = by (n == 0) (nat_lt n 8)
  where
    by : (a b : Bool) → AreWordRegisters (
        if a then core
        else if b then record core { globals = slice_set core.globals n value }
        else record core { windows = slice_set core.windows (place_in_windows core.cwp n) value })
    by true b = has
    by false true = record {
      pc = has.pc;
      npc = has.npc;
      y = has.y;
      icc = has.icc;
      cwp = has.cwp;
      globals = set_below (2 ^ 32) core.globals n value small has.globals;
      windows = has.windows;
    }
    by false false = record {
      pc = has.pc;
      npc = has.npc;
      y = has.y;
      icc = has.icc;
      cwp = has.cwp;
      globals = has.globals;
      windows = set_below (2 ^ 32) core.windows (place_in_windows core.cwp n) value small has.windows;
    }

-- registers at other program counters
pub placed_words : (core : Registers) (pc npc : ℕ) → pc < 2 ^ 32 → npc < 2 ^ 32 → AreWordRegisters core → AreWordRegisters (record core { pc = pc; npc = npc })
placed_words core pc npc one two has = record {
  pc = one;
  npc = two;
  y = has.y;
  icc = has.icc;
  cwp = has.cwp;
  globals = has.globals;
  windows = has.windows;
}

next_word : (n : ℕ) → (n + 4) % 2 ^ 32 < 2 ^ 32
next_word n = omega arith

pub advanced_words : (core : Registers) → AreWordRegisters core → AreWordRegisters (advanced core)
unfolding advanced
advanced_words core has = placed_words core core.npc ((core.npc + 4) % 2 ^ 32) has.npc (next_word core.npc) has

branched_words : (core : Registers) (to : ℕ) → to < 2 ^ 32 → AreWordRegisters core → AreWordRegisters (branched core to)
unfolding branched
branched_words core to small has = placed_words core core.npc to has.npc small has

skipped_words : (core : Registers) → AreWordRegisters core → AreWordRegisters (skipped core)
unfolding skipped
skipped_words core has = placed_words core ((core.npc + 4) % 2 ^ 32) ((core.npc + 8) % 2 ^ 32) (next_word core.npc) (omega arith) has

sent_words : (core : Registers) (to : ℕ) → to < 2 ^ 32 → AreWordRegisters core → AreWordRegisters (sent core to)
unfolding sent
sent_words core to small has = placed_words core to ((to + 4) % 2 ^ 32) small (next_word to) has

pub in_window_words : (core : Registers) (window : ℕ) → window < 8 → AreWordRegisters core → AreWordRegisters (in_window core window)
unfolding in_window
in_window_words core window few has = record {
  pc = has.pc;
  npc = has.npc;
  y = has.y;
  icc = has.icc;
  cwp = few;
  globals = has.globals;
  windows = has.windows;
}

with_y_words : (core : Registers) (y : ℕ) → y < 2 ^ 32 → AreWordRegisters core → AreWordRegisters (with_y core y)
unfolding with_y
with_y_words core y small has = record {
  pc = has.pc;
  npc = has.npc;
  y = small;
  icc = has.icc;
  cwp = has.cwp;
  globals = has.globals;
  windows = has.windows;
}

pub with_icc_words : (core : Registers) (icc : ℕ) → icc < 16 → AreWordRegisters core → AreWordRegisters (with_icc core icc)
unfolding with_icc
with_icc_words core icc four has = record {
  pc = has.pc;
  npc = has.npc;
  y = has.y;
  icc = four;
  cwp = has.cwp;
  globals = has.globals;
  windows = has.windows;
}

-- the registers of a program that begins
pub started_words : (entry : ℕ) → entry < 2 ^ 32 → AreWordRegisters (registers_started entry)
unfolding registers_started
started_words entry small = record {
  pc = small;
  npc = next_word entry;
  y = omega arith;
  icc = omega arith;
  cwp = omega arith;
  globals = copies_below (2 ^ 32) 8 0 (omega arith);
  windows = copies_below (2 ^ 32) 128 0 (omega arith);
}

with_result_words : (rd value : ℕ) (core : Registers) → value < 2 ^ 32 → AreWordRegisters core → AreWordRegisters (with_result rd value core)
unfolding with_result
with_result_words rd value core small has = advanced_words (with_register core rd value) (with_register_word core rd value small has)

with_codes_words : (rd value icc : ℕ) (core : Registers) → value < 2 ^ 32 → icc < 16 → AreWordRegisters core → AreWordRegisters (with_result_and_codes rd value icc core)
unfolding with_result_and_codes
with_codes_words rd value icc core small four has =
    advanced_words (with_icc (with_register core rd value) icc) (with_icc_words (with_register core rd value) icc four (with_register_word core rd value small has))

-- what work on registers leaves
record Works (o : RegisterOutcome) : Type 0 where
  turn : IsTrapByte o.turn
  core : AreWordRegisters o.core

goes : (core : Registers) → AreWordRegisters core → Works (went core)
goes core has = record { turn = tt; core = has }

traps : (type : ℕ) (core : Registers) → type < 256 → AreWordRegisters core → Works (trapped type core)
traps type core byte has = record { turn = byte; core = has }

-- one of two
either : (b : Bool) (one other : RegisterOutcome) → Works one → Works other → Works (if b then one else other)
either true one other first second = first
either false one other first second = second

-- the condition codes are four bits
one_bit : (b : Bool) → bit b ≤ 1
one_bit true = omega arith
one_bit false = omega arith

four_bits : (n z v c : Bool) → condition_codes n z v c < 16
unfolding condition_codes
four_bits n z v c = let a = one_bit n in let b = one_bit z in let d = one_bit v in let e = one_bit c in omega (arith, a, b, d, e)

result_codes : (value : ℕ) (v : Bool) → codes_of_result value v < 16
unfolding codes_of_result
result_codes value v = four_bits _ _ _ _

sum_codes : (a b : ℕ) (c : Bool) → codes_of_sum a b c < 16
unfolding codes_of_sum
sum_codes a b c = four_bits _ _ _ _

tagged_sum_codes : (a b : ℕ) (v : Bool) → codes_of_tagged_sum a b v < 16
unfolding codes_of_tagged_sum
tagged_sum_codes a b v = four_bits _ _ _ _

difference_codes : (a b : ℕ) (c : Bool) → codes_of_difference a b c < 16
unfolding codes_of_difference
difference_codes a b c = four_bits _ _ _ _

tagged_difference_codes : (a b : ℕ) (v : Bool) → codes_of_tagged_difference a b v < 16
unfolding codes_of_tagged_difference
tagged_difference_codes a b v = four_bits _ _ _ _

-- what comes of two words is a word
sum_word : (a b : ℕ) (c : Bool) → sum a b c < 2 ^ 32
unfolding sum
sum_word a b c = omega arith

difference_word : (a b : ℕ) (c : Bool) → difference a b c < 2 ^ 32
unfolding difference
difference_word a b c = omega arith

residue_word : (z : ℤ) → residue 32 z < 2 ^ 32
residue_word (pos n) = omega arith
residue_word (negsuc n) = omega arith

residue_double : (z : ℤ) → residue 64 z < 2 ^ 64
residue_double (pos n) = omega arith
residue_double (negsuc n) = omega arith

signed_product_double : (a b : ℕ) → signed_product a b < 2 ^ 64
unfolding signed_product
signed_product_double a b = residue_double _

quotient_word : (a b : ℕ) → quotient a b < 2 ^ 32
unfolding quotient
quotient_word a b = least_word (a / b)

signed_quotient_word : (a b : ℕ) → signed_quotient a b < 2 ^ 32
unfolding signed_quotient
signed_quotient_word a b = saturated_word _

left_word : (a b : ℕ) → shifted_left a b < 2 ^ 32
unfolding shifted_left
left_word a b = remainder (a * 2 ^ (b % 32))
  where
    remainder : (m : ℕ) → m % 2 ^ 32 < 2 ^ 32
    remainder m = omega arith

right_word : (a b : ℕ) → a < 2 ^ 32 → shifted_right a b < 2 ^ 32
unfolding shifted_right
right_word a b small = part_below (2 ^ 32) a (2 ^ (b % 32)) small

arithmetic_word : (a b : ℕ) → a < 2 ^ 32 → shifted_arithmetically a b < 2 ^ 32
unfolding shifted_arithmetically
arithmetic_word a b small = shifted_word (cast_signed w32 a) (b % 32) (subst (λ (n : ℕ). n < 2 ^ 32) (sym (of_z-to_z w32 a small)) small)

low_half : (n : ℕ) → n % 2 ^ 32 < 2 ^ 32
low_half n = omega arith

high_half : (n : ℕ) → n < 2 ^ 64 → n / 2 ^ 32 < 2 ^ 32
high_half n small = omega (arith, small)

stepped_y_word : (core : Registers) (a : ℕ) → core.y < 2 ^ 32 → stepped_y core a < 2 ^ 32
unfolding stepped_y
stepped_y_word core a small = omega (arith, small)

-- a result, and one with condition codes
result : (rd value : ℕ) (core : Registers) → value < 2 ^ 32 → AreWordRegisters core → Works (went (with_result rd value core))
result rd value core small has = goes (with_result rd value core) (with_result_words rd value core small has)

coded_result : (rd value icc : ℕ) (core : Registers) → value < 2 ^ 32 → icc < 16 → AreWordRegisters core → Works (went (with_result_and_codes rd value icc core))
coded_result rd value icc core small four has = goes (with_result_and_codes rd value icc core) (with_codes_words rd value icc core small four has)

logic : (rd value : ℕ) (core : Registers) → value < 2 ^ 32 → AreWordRegisters core → Works (went (with_result_and_codes rd value (codes_of_result value false) core))
logic rd value core small has = coded_result rd value (codes_of_result value false) core small (result_codes value false) has

product : (rd n : ℕ) (core : Registers) → n < 2 ^ 64 → AreWordRegisters core → Works (went (with_result rd (n % 2 ^ 32) (with_y core (n / 2 ^ 32))))
product rd n core small has = result rd (n % 2 ^ 32) (with_y core (n / 2 ^ 32)) (low_half n) (with_y_words core (n / 2 ^ 32) (high_half n small) has)

coded_product : (rd n : ℕ) (core : Registers) → n < 2 ^ 64 → AreWordRegisters core
    → Works (went (with_result_and_codes rd (n % 2 ^ 32) (codes_of_result (n % 2 ^ 32) false) (with_y core (n / 2 ^ 32))))
coded_product rd n core small has = logic rd (n % 2 ^ 32) (with_y core (n / 2 ^ 32)) (low_half n) (with_y_words core (n / 2 ^ 32) (high_half n small) has)

divided : (divisor : ℕ) (core : Registers) (o : RegisterOutcome) → Works o → AreWordRegisters core → Works (divided_by divisor core o)
divided divisor core o works has = either (divisor == 0) (trapped 0x2A core) o (traps 0x2A core (omega arith) has) works

tagged : (overflows : Bool) (core : Registers) (o : RegisterOutcome) → Works o → AreWordRegisters core → Works (unless_overflow overflows core o)
tagged overflows core o works has = either overflows (trapped 0x0A core) o (traps 0x0A core (omega arith) has) works

multiplied : (rd a b : ℕ) (core : Registers) → AreWordRegisters core → AreWordRegisters (multiply_step rd a b core)
unfolding multiply_step
multiplied rd a b core has =
    with_codes_words rd _ _ (with_y core (stepped_y core a)) (sum_word _ _ _) (sum_codes _ _ _) (with_y_words core (stepped_y core a) (stepped_y_word core a has.y) has)

-- work on registers
arithmetic : (operation : Arith) (rd a b : ℕ) (core : Registers) → a < 2 ^ 32 → b < 2 ^ 32 → AreWordRegisters core → Works (arith_outcome operation rd a b core)
arithmetic work.Add rd a b core one two has = result rd _ core (sum_word a b false) has
arithmetic work.And rd a b core one two has = result rd _ core (and_word a b one) has
arithmetic work.Or rd a b core one two has = result rd _ core (or_word a b one two) has
arithmetic work.Xor rd a b core one two has = result rd _ core (xor_word a b one two) has
arithmetic work.Sub rd a b core one two has = result rd _ core (difference_word a b false) has
arithmetic work.AndN rd a b core one two has = result rd _ core (and_word a (bit_not w32 b) one) has
arithmetic work.OrN rd a b core one two has = result rd _ core (or_word a (bit_not w32 b) one (not_word b)) has
arithmetic work.XNor rd a b core one two has = result rd _ core (not_word (bit_xor a b)) has
arithmetic work.AddX rd a b core one two has = result rd _ core (sum_word a b (carry core.icc)) has
arithmetic work.UMul rd a b core one two has = product rd _ core (product_double a b one two) has
arithmetic work.SMul rd a b core one two has = product rd _ core (signed_product_double a b) has
arithmetic work.SubX rd a b core one two has = result rd _ core (difference_word a b (carry core.icc)) has
arithmetic work.UDiv rd a b core one two has = divided b core _ (result rd _ core (quotient_word (dividend core a) b) has) has
arithmetic work.SDiv rd a b core one two has = divided b core _ (result rd _ core (signed_quotient_word (dividend core a) b) has) has
arithmetic work.AddCc rd a b core one two has = coded_result rd _ _ core (sum_word a b false) (sum_codes a b false) has
arithmetic work.AndCc rd a b core one two has = logic rd _ core (and_word a b one) has
arithmetic work.OrCc rd a b core one two has = logic rd _ core (or_word a b one two) has
arithmetic work.XorCc rd a b core one two has = logic rd _ core (xor_word a b one two) has
arithmetic work.SubCc rd a b core one two has = coded_result rd _ _ core (difference_word a b false) (difference_codes a b false) has
arithmetic work.AndNCc rd a b core one two has = logic rd _ core (and_word a (bit_not w32 b) one) has
arithmetic work.OrNCc rd a b core one two has = logic rd _ core (or_word a (bit_not w32 b) one (not_word b)) has
arithmetic work.XNorCc rd a b core one two has = logic rd _ core (not_word (bit_xor a b)) has
arithmetic work.AddXCc rd a b core one two has = coded_result rd _ _ core (sum_word a b (carry core.icc)) (sum_codes a b (carry core.icc)) has
arithmetic work.UMulCc rd a b core one two has = coded_product rd _ core (product_double a b one two) has
arithmetic work.SMulCc rd a b core one two has = coded_product rd _ core (signed_product_double a b) has
arithmetic work.SubXCc rd a b core one two has = coded_result rd _ _ core (difference_word a b (carry core.icc)) (difference_codes a b (carry core.icc)) has
arithmetic work.UDivCc rd a b core one two has =
    divided b core _ (coded_result rd (quotient (dividend core a) b) (codes_of_result (quotient (dividend core a) b) (quotient_overflows (dividend core a) b)) core
    (quotient_word (dividend core a) b) (result_codes (quotient (dividend core a) b) (quotient_overflows (dividend core a) b)) has) has
arithmetic work.SDivCc rd a b core one two has =
    divided b core _ (coded_result rd (signed_quotient (dividend core a) b) (codes_of_result (signed_quotient (dividend core a) b) (signed_quotient_overflows (dividend core a) b)) core
    (signed_quotient_word (dividend core a) b) (result_codes (signed_quotient (dividend core a) b) (signed_quotient_overflows (dividend core a) b)) has) has
arithmetic work.TAddCc rd a b core one two has = coded_result rd _ _ core (sum_word a b false) (tagged_sum_codes a b (tagged_sum_overflows a b)) has
arithmetic work.TSubCc rd a b core one two has = coded_result rd _ _ core (difference_word a b false) (tagged_difference_codes a b (tagged_difference_overflows a b)) has
arithmetic work.TAddCcTv rd a b core one two has =
    tagged (tagged_sum_overflows a b) core _ (coded_result rd (sum a b false) (codes_of_tagged_sum a b false) core (sum_word a b false) (tagged_sum_codes a b false) has) has
arithmetic work.TSubCcTv rd a b core one two has =
    tagged (tagged_difference_overflows a b) core _ (coded_result rd (difference a b false) (codes_of_tagged_difference a b false) core (difference_word a b false) (tagged_difference_codes a b false) has) has
arithmetic work.MulSCc rd a b core one two has = goes (multiply_step rd a b core) (multiplied rd a b core has)
arithmetic work.Sll rd a b core one two has = result rd _ core (left_word a b) has
arithmetic work.Srl rd a b core one two has = result rd _ core (right_word a b one) has
arithmetic work.Sra rd a b core one two has = result rd _ core (arithmetic_word a b one) has

value_word : (source : Src) (core : Registers) → AreWordRegisters core → value_of source core < 2 ^ 32
value_word (Reg n) core has = register_word core n has
value_word (Imm number) core has = residue_word number

sum_of_word : (rs1 : ℕ) (source : Src) (core : Registers) → sum_of rs1 source core < 2 ^ 32
unfolding sum_of
sum_of_word rs1 source core = low_half _

target_word : (pc : ℕ) (words : ℤ) → branch_target pc words < 2 ^ 32
unfolding branch_target
target_word pc words = low_half _

-- calls, branches, jumps and moves to another window
call_words : (disp : ℤ) (core : Registers) → AreWordRegisters core → AreWordRegisters (call_row disp core)
unfolding call_row
call_words disp core has = branched_words (with_register core 15 core.pc) (branch_target core.pc disp) (target_word core.pc disp) (with_register_word core 15 core.pc has.pc has)

either_words : (b : Bool) (one other : Registers) → AreWordRegisters one → AreWordRegisters other → AreWordRegisters (if b then one else other)
either_words true one other first second = first
either_words false one other first second = second

taken_words : (condition : ℕ) (annul : Bool) (to : ℕ) (core : Registers) → to < 2 ^ 32 → AreWordRegisters core → AreWordRegisters (taken condition annul to core)
unfolding taken
taken_words condition annul to core small has = either_words _ (sent core to) (branched core to) (sent_words core to small has) (branched_words core to small has)

passed_words : (annul : Bool) (core : Registers) → AreWordRegisters core → AreWordRegisters (passed annul core)
unfolding passed
passed_words annul core has = either_words annul (skipped core) (advanced core) (skipped_words core has) (advanced_words core has)

branch_words : (condition : ℕ) (annul : Bool) (disp : ℤ) (core : Registers) → AreWordRegisters core → AreWordRegisters (branch_row condition annul disp core)
unfolding branch_row
branch_words condition annul disp core has =
    either_words (holds condition core.icc) (taken condition annul (branch_target core.pc disp) core) (passed annul core)
    (taken_words condition annul (branch_target core.pc disp) core (target_word core.pc disp) has) (passed_words annul core has)

sethi_words : (rd imm : ℕ) (core : Registers) → imm < 2 ^ 22 → AreWordRegisters core → AreWordRegisters (sethi_row rd imm core)
unfolding sethi_row
sethi_words rd imm core small has = with_result_words rd (imm * 2 ^ 10) core (omega (arith, small)) has

write_y_words : (rs1 : ℕ) (source : Src) (core : Registers) → AreWordRegisters core → AreWordRegisters (write_y_row rs1 source core)
unfolding write_y_row
write_y_words rs1 source core has =
    advanced_words (with_y core (bit_xor (register_at core rs1) (value_of source core)))
    (with_y_words core (bit_xor (register_at core rs1) (value_of source core)) (xor_word _ _ (register_word core rs1 has) (value_word source core has)) has)

jumps : (rd to : ℕ) (core : Registers) → to < 2 ^ 32 → AreWordRegisters core → Works (jumped rd to core)
unfolding jumped
jumps rd to core small has =
    either (to % 4 == 0) (went (branched (with_register core rd core.pc) to)) (trapped 0x07 core)
    (goes (branched (with_register core rd core.pc) to) (branched_words (with_register core rd core.pc) to small (with_register_word core rd core.pc has.pc has)))
    (traps 0x07 core (omega arith) has)

enters : (window type rd value : ℕ) (core : Registers) → window < 8 → type < 256 → value < 2 ^ 32 → AreWordRegisters core → Works (moved window type rd value core)
unfolding moved window_entered
enters window type rd value core few byte small has =
    either (window == core.inv) (trapped type core) (went (with_result rd value (in_window core window)))
    (traps type core byte has)
    (goes (with_result rd value (in_window core window)) (with_result_words rd value (in_window core window) small (in_window_words core window few has)))

below_few : (core : Registers) → window_below core < 8
unfolding window_below
below_few core = omega arith

above_few : (core : Registers) → window_above core < 8
unfolding window_above
above_few core = omega arith

-- a Ticc
type_byte : (type : ℕ) → type < 256 → IsTrapByte (turn_of_type type)
type_byte type byte = by (type == 0xf0)
  where
    by : (b : Bool) → IsTrapByte (if b then Call else Trap type)
    by true = tt
    by false = byte

software_byte : (number : ℕ) → trap_type number < 256
unfolding trap_type
software_byte number = omega arith

ticc_byte : (condition rs1 : ℕ) (source : Src) (core : Registers) → IsTrapByte (trap_turn condition rs1 source core)
unfolding trap_turn
ticc_byte condition rs1 source core = by (holds condition core.icc)
  where
    by : (b : Bool) → IsTrapByte (if b then turn_of_type (trap_type (sum_of rs1 source core)) else Went)
    by true = type_byte (trap_type (sum_of rs1 source core)) (software_byte (sum_of rs1 source core))
    by false = tt

left_words : (t : Turn) (core : Registers) → AreWordRegisters core → AreWordRegisters (left_by t core)
left_words Went core has = advanced_words core has
left_words (Trap type) core has = has
left_words Call core has = advanced_words core has

goes_on : (core : Registers) (memory : Memory) → AreWordRegisters core → IsByteMemory memory → IsTurnedInRange (record { turn = Went; core = core; memory = memory })
goes_on core memory has bytes = record { turn = tt; core = has; memory = bytes }

pub is_refused : (type : ℕ) (core : Registers) (memory : Memory) → type < 256 → AreWordRegisters core → IsByteMemory memory → IsTurnedInRange (record { turn = Trap type; core = core; memory = memory })
is_refused type core memory byte has bytes = record { turn = byte; core = has; memory = bytes }

keeps_memory : (o : RegisterOutcome) (memory : Memory) → Works o → IsByteMemory memory → IsTurnedInRange (keeping_memory memory o)
keeps_memory o memory works bytes = record { turn = works.turn; core = works.core; memory = bytes }

fault_byte : (fault : BusFault) → fault_type fault < 256
fault_byte Unaligned = omega arith
fault_byte Outside = omega arith

-- loads
load_words : (r : Result ℕ BusFault) (extended : ℕ → ℕ) (rd : ℕ) (core : Registers) (memory : Memory) → ((n : ℕ) → extended n < 2 ^ 32) → AreWordRegisters core → IsByteMemory memory
    → IsTurnedInRange (loaded_into r extended rd core memory)
load_words (Ok value) extended rd core memory small has bytes = goes_on (with_result rd (extended value) core) memory (with_result_words rd (extended value) core (small value) has) bytes
load_words (Err fault) extended rd core memory small has bytes = is_refused (fault_type fault) core memory (fault_byte fault) has bytes

signed_byte_word : (n : ℕ) → signed_byte n < 2 ^ 32
unfolding signed_byte
signed_byte_word n = residue_word _

signed_half_word : (n : ℕ) → signed_half n < 2 ^ 32
unfolding signed_half
signed_half_word n = residue_word _

-- LDD
abbrev IsDouble : Result ℕ BusFault → Type 0
IsDouble (Ok value) = value < 2 ^ 64
IsDouble (Err fault) = Unit {0}

double_loaded : (areas : List Area) (memory : Memory) (address : ℕ) → IsByteMemory memory → IsDouble (loaded areas memory address Eight)
unfolding loaded
double_loaded areas memory address bytes = by (access_fault (is_readable areas) address (byte_len (width_of Eight))) _ (memory_double memory address bytes)
  where
    by : (o : Option BusFault) (value : ℕ) → value < 2 ^ 64 → IsDouble (unless_refused o value)
    by None value small = small
    by (Some fault) value small = tt

with_pair_words : (rd value : ℕ) (core : Registers) → value < 2 ^ 64 → AreWordRegisters core → AreWordRegisters (with_pair rd value core)
unfolding with_pair
with_pair_words rd value core small has =
    with_register_word (with_register core rd (value / 2 ^ 32)) (rd + 1) (value % 2 ^ 32) (low_half value) (with_register_word core rd (value / 2 ^ 32) (high_half value small) has)

pair_words : (r : Result ℕ BusFault) (rd : ℕ) (core : Registers) (memory : Memory) → IsDouble r → AreWordRegisters core → IsByteMemory memory → IsTurnedInRange (pair_loaded r rd core memory)
pair_words (Ok value) rd core memory small has bytes = goes_on (advanced (with_pair rd value core)) memory (advanced_words (with_pair rd value core) (with_pair_words rd value core small has)) bytes
pair_words (Err fault) rd core memory small has bytes = is_refused (fault_type fault) core memory (fault_byte fault) has bytes

-- stores and exchanges
after_store_bytes : (areas : List Area) (memory : Memory) (address : ℕ) (size : Size) (value : ℕ) → IsByteMemory memory → IsByteMemory (after_store areas memory address size value)
unfolding after_store
after_store_bytes areas memory address size value bytes = by (store_fault areas address size) _ (written_bytes memory address (to_be_bytes (width_of size) value) (number_bytes (width_of size) value) bytes)
  where
    by : (o : Option BusFault) (new : Memory) → IsByteMemory new → IsByteMemory (memory_unless_refused o memory new)
    by None new small = small
    by (Some fault) new small = bytes

stored : (o : Option BusFault) (core : Registers) (old new : Memory) → AreWordRegisters core → IsByteMemory old → IsByteMemory new → IsTurnedInRange (stored_from o core old new)
stored None core old new has bytes after = goes_on (advanced core) new (advanced_words core has) after
stored (Some fault) core old new has bytes after = is_refused (fault_type fault) core old (fault_byte fault) has bytes

store_words : (value address : ℕ) (size : Size) (areas : List Area) (core : Registers) (memory : Memory) → AreWordRegisters core → IsByteMemory memory → IsTurnedInRange (store_of value address size areas core memory)
unfolding store_of
store_words value address size areas core memory has bytes =
    stored (store_fault areas address size) core memory (after_store areas memory address size value) has bytes (after_store_bytes areas memory address size value bytes)

exchanges_with : (o : Option BusFault) (found rd : ℕ) (core : Registers) (old new : Memory) → AreWordRegisters core → IsByteMemory old → IsByteMemory new → IsTurnedInRange (exchanged_with o found rd core old new)
exchanges_with None found rd core old new has bytes after = goes_on (with_result rd (found % 2 ^ 32) core) new (with_result_words rd (found % 2 ^ 32) core (low_half found) has) after
exchanges_with (Some fault) found rd core old new has bytes after = is_refused (fault_type fault) core old (fault_byte fault) has bytes

exchanges : (r : Result ℕ BusFault) (o : Option BusFault) (rd : ℕ) (core : Registers) (old new : Memory) → AreWordRegisters core → IsByteMemory old → IsByteMemory new → IsTurnedInRange (exchanged r o rd core old new)
exchanges (Ok found) o rd core old new has bytes after = exchanges_with o found rd core old new has bytes after
exchanges (Err fault) o rd core old new has bytes after = is_refused (fault_type fault) core old (fault_byte fault) has bytes

exchange_words : (value address : ℕ) (size : Size) (rd : ℕ) (areas : List Area) (core : Registers) (memory : Memory) → AreWordRegisters core → IsByteMemory memory
    → IsTurnedInRange (exchange_of value address size rd areas core memory)
unfolding exchange_of
exchange_words value address size rd areas core memory has bytes =
    exchanges (loaded areas memory address size) (store_fault areas address size) rd core memory (after_store areas memory address size value) has bytes
    (after_store_bytes areas memory address size value bytes)

transferred : (operation : MemOp) (rd address : ℕ) (areas : List Area) (core : Registers) (memory : Memory) → AreWordRegisters core → IsByteMemory memory → IsTurnedInRange (transfer operation rd address areas core memory)
transferred transfers.Ld rd address areas core memory has bytes = load_words (loaded areas memory address Four) low_word rd core memory low_half has bytes
transferred transfers.LdUb rd address areas core memory has bytes = load_words (loaded areas memory address One) low_word rd core memory low_half has bytes
transferred transfers.LdUh rd address areas core memory has bytes = load_words (loaded areas memory address Two) low_word rd core memory low_half has bytes
transferred transfers.LdD rd address areas core memory has bytes = pair_words (loaded areas memory address Eight) rd core memory (double_loaded areas memory address bytes) has bytes
transferred transfers.St rd address areas core memory has bytes = store_words (register_at core rd) address Four areas core memory has bytes
transferred transfers.StB rd address areas core memory has bytes = store_words (register_at core rd) address One areas core memory has bytes
transferred transfers.StH rd address areas core memory has bytes = store_words (register_at core rd) address Two areas core memory has bytes
transferred transfers.StD rd address areas core memory has bytes = store_words (pair_at core rd) address Eight areas core memory has bytes
transferred transfers.LdSb rd address areas core memory has bytes = load_words (loaded areas memory address One) signed_byte rd core memory signed_byte_word has bytes
transferred transfers.LdSh rd address areas core memory has bytes = load_words (loaded areas memory address Two) signed_half rd core memory signed_half_word has bytes
transferred transfers.LdStUb rd address areas core memory has bytes = exchange_words 0xFF address One rd areas core memory has bytes
transferred transfers.Swap rd address areas core memory has bytes = exchange_words (register_at core rd) address Four rd areas core memory has bytes

-- the number of a SETHI has 22 bits
abbrev HasShortNumber : Instr → Type 0
HasShortNumber (instr.Call disp) = Unit {0}
HasShortNumber (instr.Branch condition annul disp) = Unit {0}
HasShortNumber (instr.Sethi rd imm) = imm < 2 ^ 22
HasShortNumber (instr.Arith operation rd rs1 source) = Unit {0}
HasShortNumber (instr.ReadY rd) = Unit {0}
HasShortNumber instr.Barrier = Unit {0}
HasShortNumber (instr.WriteY rs1 source) = Unit {0}
HasShortNumber (instr.Jump rd rs1 source) = Unit {0}
HasShortNumber (instr.Trap condition rs1 source) = Unit {0}
HasShortNumber instr.Flush = Unit {0}
HasShortNumber (instr.Save rd rs1 source) = Unit {0}
HasShortNumber (instr.Restore rd rs1 source) = Unit {0}
HasShortNumber (instr.Mem operation rd rs1 source) = Unit {0}
HasShortNumber instr.Privileged = Unit {0}
HasShortNumber instr.Float = Unit {0}
HasShortNumber instr.Coproc = Unit {0}
HasShortNumber instr.Illegal = Unit {0}

short_number : (word : ℕ) → imm22 word < 2 ^ 22
unfolding imm22
short_number word = omega arith

spelled_short : (word : ℕ) (i : Instr) → Spells word i → HasShortNumber i
spelled_short word (instr.Call disp) is = tt
spelled_short word (instr.Branch condition annul disp) is = tt
spelled_short word (instr.Sethi rd imm) is = subst (λ (n : ℕ). n < 2 ^ 22) is.2 (short_number word)
spelled_short word (instr.Arith operation rd rs1 source) is = tt
spelled_short word (instr.ReadY rd) is = tt
spelled_short word instr.Barrier is = tt
spelled_short word (instr.WriteY rs1 source) is = tt
spelled_short word (instr.Jump rd rs1 source) is = tt
spelled_short word (instr.Trap condition rs1 source) is = tt
spelled_short word instr.Flush is = tt
spelled_short word (instr.Save rd rs1 source) is = tt
spelled_short word (instr.Restore rd rs1 source) is = tt
spelled_short word (instr.Mem operation rd rs1 source) is = tt
spelled_short word instr.Privileged is = tt
spelled_short word instr.Float is = tt
spelled_short word instr.Coproc is = tt
spelled_short word instr.Illegal is = tt

-- each instruction
executes : (i : Instr) (areas : List Area) (core : Registers) (memory : Memory) → HasShortNumber i → AreWordRegisters core → IsByteMemory memory → IsTurnedInRange (executed i areas core memory)
executes (instr.Call disp) areas core memory short has bytes = goes_on (call_row disp core) memory (call_words disp core has) bytes
executes (instr.Branch condition annul disp) areas core memory short has bytes = goes_on (branch_row condition annul disp core) memory (branch_words condition annul disp core has) bytes
executes (instr.Sethi rd imm) areas core memory short has bytes = goes_on (sethi_row rd imm core) memory (sethi_words rd imm core short has) bytes
executes (instr.Arith operation rd rs1 source) areas core memory short has bytes =
    keeps_memory (arith_outcome operation rd (register_at core rs1) (value_of source core) core) memory
    (arithmetic operation rd (register_at core rs1) (value_of source core) core (register_word core rs1 has) (value_word source core has) has) bytes
executes (instr.ReadY rd) areas core memory short has bytes = goes_on (with_result rd core.y core) memory (with_result_words rd core.y core has.y has) bytes
executes instr.Barrier areas core memory short has bytes = goes_on (advanced core) memory (advanced_words core has) bytes
executes (instr.WriteY rs1 source) areas core memory short has bytes = goes_on (write_y_row rs1 source core) memory (write_y_words rs1 source core has) bytes
executes (instr.Jump rd rs1 source) areas core memory short has bytes =
    keeps_memory (jumped rd (sum_of rs1 source core) core) memory (jumps rd (sum_of rs1 source core) core (sum_of_word rs1 source core) has) bytes
executes (instr.Trap condition rs1 source) areas core memory short has bytes = record {
  turn = ticc_byte condition rs1 source core;
  core = left_words (trap_turn condition rs1 source core) core has;
  memory = bytes;
}
executes instr.Flush areas core memory short has bytes = goes_on (advanced core) memory (advanced_words core has) bytes
executes (instr.Save rd rs1 source) areas core memory short has bytes =
    keeps_memory (moved (window_below core) 0x05 rd (sum_of rs1 source core) core) memory
    (enters (window_below core) 0x05 rd (sum_of rs1 source core) core (below_few core) (omega arith) (sum_of_word rs1 source core) has) bytes
executes (instr.Restore rd rs1 source) areas core memory short has bytes =
    keeps_memory (moved (window_above core) 0x06 rd (sum_of rs1 source core) core) memory
    (enters (window_above core) 0x06 rd (sum_of rs1 source core) core (above_few core) (omega arith) (sum_of_word rs1 source core) has) bytes
executes (instr.Mem operation rd rs1 source) areas core memory short has bytes = transferred operation rd (sum_of rs1 source core) areas core memory has bytes
executes instr.Privileged areas core memory short has bytes = is_refused 0x03 core memory (omega arith) has bytes
executes instr.Float areas core memory short has bytes = is_refused 0x04 core memory (omega arith) has bytes
executes instr.Coproc areas core memory short has bytes = is_refused 0x24 core memory (omega arith) has bytes
executes instr.Illegal areas core memory short has bytes = is_refused 0x02 core memory (omega arith) has bytes

turned_by : (r : Result ℕ BusFault) (areas : List Area) (core : Registers) (memory : Memory) → AreWordRegisters core → IsByteMemory memory → IsTurnedInRange (turned_after r areas core memory)
turned_by (Ok word) areas core memory has bytes = executes (decoded word) areas core memory (spelled_short word (decoded word) (spells-decoded word)) has bytes
turned_by (Err fault) areas core memory has bytes = is_refused 0x01 core memory (omega arith) has bytes

-- the instruction at pc
pub turned_in_range : (areas : List Area) (core : Registers) (memory : Memory) → AreWordRegisters core → IsByteMemory memory → IsTurnedInRange (turned areas core memory)
unfolding turned
turned_in_range areas core memory has bytes = turned_by (fetched areas memory core.pc) areas core memory has bytes
