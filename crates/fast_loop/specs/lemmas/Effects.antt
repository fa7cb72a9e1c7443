-- What a row leaves of the registers, but for the program counters.
use Rattle.std.specs.Prelude.{◌≡◌, ℕ, ◌+◌, ◌*◌, ◌/◌, ◌%◌, ◌^◌, ◌<◌, ⊤, Bool, true, false, bit_and, bit_or, bit_xor, List}
use Rattle.std.specs.Int.{w32, bit_not}
use Rattle.guest_bus.specs.Memory.{Area, Memory}
use Rattle.guest_bus.specs.declared.bus.Size.{Size}
use Rattle.guest_bus.specs.declared.bus.Size.TheVariants.{One, Two, Four, Eight}
use Rattle.sparc_code.specs.declared.instruction.Arith.{Arith}
use Rattle.sparc_code.specs.declared.instruction.Arith.TheVariants as arith
use Rattle.sparc_code.specs.declared.instruction.MemOp.{MemOp}
use Rattle.sparc_code.specs.declared.instruction.MemOp.TheVariants.{Ld, LdUb, LdUh, LdD, St, StB, StH, StD, LdSb, LdSh}
use Rattle.sparc_step.specs.Arithmetic.{dividend}
use Rattle.sparc_step.specs.Cached.{register_of}
use Rattle.sparc_step.specs.Conditions.{carry, codes_of_difference, codes_of_result, codes_of_sum}
use Rattle.sparc_step.specs.Registers.{Registers, placed, register_at, with_icc, with_register, with_y}
use Rattle.sparc_step.specs.Transfers.{done, low_word, signed_byte, signed_half, transfer}
use Rattle.sparc_step.specs.Words.{difference, quotient, shifted_arithmetically, shifted_left, shifted_right, signed_product, signed_quotient, sum}
use Rattle.predecode.specs.Kinds.{Does, Works, Compares, Sets, ReadsY, WritesY, Form, Sum, Number, Register}
use Rattle.predecode.specs.declared.rows.Row.{Row}

-- operand 1, and operand 2 by its form
abbrev pub first : Row → Registers → ℕ
first row core = register_at core row.rs1

abbrev pub operand : Form → Row → Registers → ℕ
operand Sum row core = register_at core row.rs2 + row.number
operand Number row core = row.number
operand Register row core = register_at core row.rs2

-- a result of logic with its condition codes
abbrev pub set_logical : ℕ → ℕ → Registers → Registers
set_logical rd value core = with_icc (with_register core rd value) (codes_of_result value false)

-- a double word: its low half is the result, its high half goes to Y
abbrev pub set_wide : ℕ → ℕ → Registers → Registers
set_wide rd product core = with_register (with_y core (product / 2 ^ 32)) rd (product % 2 ^ 32)

-- the same with condition codes, of the low half
abbrev pub set_wide_coded : ℕ → ℕ → Registers → Registers
set_wide_coded rd product core = set_logical rd (product % 2 ^ 32) (with_y core (product / 2 ^ 32))

-- what work on registers leaves, of the values of its operands
abbrev pub worked : Arith → ℕ → ℕ → ℕ → Registers → Registers
worked arith.Add rd a b core = with_register core rd (sum a b false)
worked arith.And rd a b core = with_register core rd (bit_and a b)
worked arith.Or rd a b core = with_register core rd (bit_or a b)
worked arith.Xor rd a b core = with_register core rd (bit_xor a b)
worked arith.Sub rd a b core = with_register core rd (difference a b false)
worked arith.AndN rd a b core = with_register core rd (bit_and a (bit_not w32 b))
worked arith.OrN rd a b core = with_register core rd (bit_or a (bit_not w32 b))
worked arith.XNor rd a b core = with_register core rd (bit_not w32 (bit_xor a b))
worked arith.AddX rd a b core = with_register core rd (sum a b (carry core.icc))
worked arith.SubX rd a b core = with_register core rd (difference a b (carry core.icc))
worked arith.UMul rd a b core = set_wide rd (a * b) core
worked arith.SMul rd a b core = set_wide rd (signed_product a b) core
worked arith.UDiv rd a b core = with_register core rd (quotient (dividend core a) b)
worked arith.SDiv rd a b core = with_register core rd (signed_quotient (dividend core a) b)
worked arith.AddCc rd a b core = with_icc (with_register core rd (sum a b false)) (codes_of_sum a b false)
worked arith.SubCc rd a b core = with_icc (with_register core rd (difference a b false)) (codes_of_difference a b false)
worked arith.AndCc rd a b core = set_logical rd (bit_and a b) core
worked arith.OrCc rd a b core = set_logical rd (bit_or a b) core
worked arith.XorCc rd a b core = set_logical rd (bit_xor a b) core
worked arith.AndNCc rd a b core = set_logical rd (bit_and a (bit_not w32 b)) core
worked arith.OrNCc rd a b core = set_logical rd (bit_or a (bit_not w32 b)) core
worked arith.XNorCc rd a b core = set_logical rd (bit_not w32 (bit_xor a b)) core
worked arith.AddXCc rd a b core = with_icc (with_register core rd (sum a b (carry core.icc))) (codes_of_sum a b (carry core.icc))
worked arith.SubXCc rd a b core = with_icc (with_register core rd (difference a b (carry core.icc))) (codes_of_difference a b (carry core.icc))
worked arith.UMulCc rd a b core = set_wide_coded rd (a * b) core
worked arith.SMulCc rd a b core = set_wide_coded rd (signed_product a b) core
worked arith.Sll rd a b core = with_register core rd (shifted_left a b)
worked arith.Srl rd a b core = with_register core rd (shifted_right a b)
worked arith.Sra rd a b core = with_register core rd (shifted_arithmetically a b)
worked operation rd a b core = core

-- a division is done only by what is not 0; some work is done by no row
abbrev pub MayDivide : Arith → ℕ → Type 0
MayDivide arith.UDiv b = 0 < b
MayDivide arith.SDiv b = 0 < b
MayDivide arith.UDivCc b = ⊥
MayDivide arith.SDivCc b = ⊥
MayDivide arith.TAddCc b = ⊥
MayDivide arith.TSubCc b = ⊥
MayDivide arith.TAddCcTv b = ⊥
MayDivide arith.TSubCcTv b = ⊥
MayDivide arith.MulSCc b = ⊥
MayDivide operation b = ⊤

-- what WRY makes Y
unfoldable pub y_of : ℕ → ℕ → ℕ
y_of a b = bit_xor a b

-- what a row leaves that works on registers alone, by what it does
abbrev pub left_so : Does → Row → Registers → Registers
left_so (Works operation form) row core = worked operation (register_of row.rd) (first row core) (operand form row core) core
left_so (Compares form) row core = with_icc core (codes_of_difference (first row core) (operand form row core) false)
left_so (Sets form) row core = with_register core (register_of row.rd) (operand form row core)
left_so ReadsY row core = with_register core (register_of row.rd) core.y
left_so WritesY row core = with_y core (y_of (first row core) (operand Sum row core))
left_so d row core = core

-- the sum of the operands: the address of a load or a store
abbrev pub address_so : Form → Row → Registers → ℕ
address_so form row core = (first row core + operand form row core) % 2 ^ 32

-- what a load sets its register to
abbrev pub extended_by : Bool → Size → ℕ → ℕ
extended_by true One value = signed_byte value
extended_by true Two value = signed_half value
extended_by false One value = low_word value
extended_by false Two value = low_word value
extended_by signed Four value = low_word value
extended_by signed Eight value = low_word value

-- a load or a store was done, wherever it stands
abbrev pub IsTransferred : MemOp → ℕ → ℕ → List Area → Registers → Registers → Memory → Memory → Type 0
IsTransferred operation rd address areas old new memory after =
    (pc npc : ℕ) → transfer operation rd address areas (placed pc npc old) memory ≡ done (placed npc ((npc + 4) % 2 ^ 32) new) after

-- the load of a size, which may extend the sign of less than a word, and the store
abbrev pub load_by_size : Bool → Size → MemOp
load_by_size true One = LdSb
load_by_size true Two = LdSh
load_by_size false One = LdUb
load_by_size false Two = LdUh
load_by_size signed Four = Ld
load_by_size signed Eight = LdD

abbrev pub store_by_size : Size → MemOp
store_by_size One = StB
store_by_size Two = StH
store_by_size Four = St
store_by_size Eight = StD
