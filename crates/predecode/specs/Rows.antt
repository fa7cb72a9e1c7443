-- Which row is that of an instruction.
use Rattle.std.specs.Prelude.{◌≡◌, ℕ, ◌*◌, ◌^◌, ◌<◌, ◌⊎◌, ◌≢◌, ⊤, ℤ, Bool, true, false}
use Rattle.sparc_code.specs.declared.instruction.Arith.{Arith}
use Rattle.sparc_code.specs.declared.instruction.Arith.TheVariants as arith
use Rattle.sparc_code.specs.declared.instruction.MemOp.{MemOp}
use Rattle.sparc_code.specs.declared.instruction.MemOp.TheVariants as memory
use Rattle.sparc_code.specs.declared.instruction.Src.{Src}
use Rattle.sparc_code.specs.declared.instruction.Src.TheVariants.{Reg, Imm}
use Rattle.sparc_code.specs.declared.instruction.Instr.{Instr}
use Rattle.sparc_code.specs.declared.instruction.Instr.TheVariants as instr
use Rattle.sparc_step.specs.Cached.{register_of}
use Rattle.sparc_step.specs.Words.{residue}
use Rattle.predecode.specs.Kinds.{Does, Unmade, Leaves, Idles, Works, Compares, Sets, Moves, ReadsY, WritesY, Saves, Restores, Calls, Jumps, BranchesAlways, Branches, Annuls, AnnulsAlways, Traps, Form, Sum, Number, Register, does}
use Rattle.predecode.specs.declared.rows.Row.{Row}

-- operand 2 is a register, or a number, which then is added to register 0
abbrev pub HasSource : Src → Row → Type 0
HasSource (Reg register) row = (row.rs2 ≡ register) × (row.number ≡ 0)
HasSource (Imm number) row = (row.rs2 ≡ 0) × (row.number ≡ residue 32 number)

-- one of both is 0; it is a number alone where register 0 is added, and a register alone where the number is 0
abbrev pub HasForm : Form → Row → Type 0
HasForm Sum row = (row.rs2 ≡ 0) ⊎ (row.number ≡ 0)
HasForm Number row = row.rs2 ≡ 0
HasForm Register row = row.number ≡ 0

-- work that sets its register, and does nothing else
abbrev pub is_plain : Arith → Bool
is_plain arith.Add = true
is_plain arith.And = true
is_plain arith.Or = true
is_plain arith.Xor = true
is_plain arith.Sub = true
is_plain arith.AndN = true
is_plain arith.OrN = true
is_plain arith.XNor = true
is_plain arith.Sll = true
is_plain arith.Srl = true
is_plain arith.Sra = true
is_plain operation = false

-- an instruction that does nothing but to go on to the next word: a branch that is never taken and annuls nothing, or one that only sets register 0
abbrev pub IsIdle : Instr → Type 0
IsIdle (instr.Branch condition annul disp) = (condition ≡ 0) × (annul ≡ false)
IsIdle (instr.Sethi rd imm) = rd ≡ 0
IsIdle (instr.Arith operation rd rs1 source) = (rd ≡ 0) × (is_plain operation ≡ true)
IsIdle i = ⊥

-- an instruction that sets the row's register to its operand 2: SETHI, or an OR of register 0 and operand 2
abbrev pub IsSet : Row → Instr → Type 0
IsSet row (instr.Sethi rd imm) = (row.rd ≡ rd) × (row.rs2 ≡ 0) × (row.number ≡ imm * 2 ^ 10)
IsSet row (instr.Arith operation rd rs1 source) = (operation ≡ arith.Or) × (row.rd ≡ rd) × (rs1 ≡ 0) × HasSource source row
IsSet row i = ⊥

-- an instruction whose operand 2 is the row's
pub record IsSourced (row : Row) (of : Src → Instr) (i : Instr) : Type 0 where
  pub source : Src
  pub is : i ≡ of source
  pub second : HasSource source row

-- an instruction whose displacement is the row's number
pub record IsDisplaced (row : Row) (of : ℤ → Instr) (i : Instr) : Type 0 where
  pub displacement : ℤ
  pub is : i ≡ of displacement
  pub number : row.number ≡ residue 32 displacement

-- the register of a load or a store whose row has a number: a load of less than a double word may drop what it loads
abbrev pub moved_register : MemOp → ℕ → ℕ
moved_register memory.Ld r = register_of r
moved_register memory.LdUb r = register_of r
moved_register memory.LdUh r = register_of r
moved_register memory.LdSb r = register_of r
moved_register memory.LdSh r = register_of r
moved_register operation r = r

-- the row is that of the instruction: what it does is what its instruction does
abbrev pub DoesSo : Does → Row → Instr → Type 0
DoesSo Unmade row i = ⊤
DoesSo Leaves row i = ⊤
DoesSo Idles row i = IsIdle i
DoesSo (Works operation form) row i = IsSourced row (instr.Arith operation (register_of row.rd) row.rs1) i
DoesSo (Compares form) row i = IsSourced row (instr.Arith arith.SubCc 0 row.rs1) i
DoesSo (Sets form) row i = IsSet row i
DoesSo (Moves operation form) row i = IsSourced row (instr.Mem operation (moved_register operation row.rd) row.rs1) i
DoesSo ReadsY row i = i ≡ instr.ReadY (register_of row.rd)
DoesSo WritesY row i = IsSourced row (instr.WriteY row.rs1) i
DoesSo Saves row i = IsSourced row (instr.Save row.rd row.rs1) i
DoesSo Restores row i = IsSourced row (instr.Restore row.rd row.rs1) i
DoesSo Calls row i = IsDisplaced row instr.Call i
DoesSo Jumps row i = IsSourced row (instr.Jump (register_of row.rd) row.rs1) i
DoesSo BranchesAlways row i = IsDisplaced row (instr.Branch 8 false) i
DoesSo Branches row i = IsDisplaced row (instr.Branch row.rs1 false) i
DoesSo Annuls row i = IsDisplaced row (instr.Branch row.rs1 true) i × (row.rs1 ≢ 8)
DoesSo AnnulsAlways row i = IsDisplaced row (instr.Branch 8 true) i
DoesSo Traps row i = IsSourced row (instr.Trap 8 row.rs1) i

abbrev pub IsRowOf : Row → Instr → Type 0
IsRowOf row i = DoesSo (does row.kind) row i

-- a number from 1 to 32: of a register that is set, or of none
abbrev pub IsResult : ℕ → Type 0
IsResult r = (0 < r) × (r < 33)

-- the register of a load or a store
abbrev pub IsMoved : MemOp → ℕ → Type 0
IsMoved memory.Ld r = IsResult r
IsMoved memory.LdUb r = IsResult r
IsMoved memory.LdUh r = IsResult r
IsMoved memory.LdSb r = IsResult r
IsMoved memory.LdSh r = IsResult r
IsMoved operation r = r < 32

-- the row's register is one that may be set, where it is set, and else a register
abbrev pub IsTarget : Does → ℕ → Type 0
IsTarget (Works operation form) r = IsResult r
IsTarget (Sets form) r = IsResult r × (r < 32)
IsTarget (Moves operation form) r = IsMoved operation r
IsTarget ReadsY r = IsResult r
IsTarget Jumps r = IsResult r
IsTarget Saves r = r < 32
IsTarget Restores r = r < 32
IsTarget d r = ⊤

-- the condition of a branch is a condition
abbrev pub IsCondition : Does → ℕ → Type 0
IsCondition Branches condition = condition < 16
IsCondition Annuls condition = condition < 16
IsCondition d condition = ⊤

-- the form of operand 2 is that of the kind
abbrev pub IsFormed : Does → Row → Type 0
IsFormed (Works operation form) row = HasForm form row
IsFormed (Compares form) row = HasForm form row
IsFormed (Sets form) row = HasForm form row
IsFormed (Moves operation form) row = HasForm form row
IsFormed WritesY row = HasForm Sum row
IsFormed Saves row = HasForm Sum row
IsFormed Restores row = HasForm Sum row
IsFormed Jumps row = HasForm Sum row
IsFormed Traps row = HasForm Sum row
IsFormed d row = ⊤

-- its registers are registers, the condition of a branch is a condition, and operand 2 has the form of the kind
pub record AreRegisterNumbers (row : Row) : Type 0 where
  pub rd : IsTarget (does row.kind) row.rd
  pub rs1 : row.rs1 < 32
  pub rs2 : row.rs2 < 32
  pub condition : IsCondition (does row.kind) row.rs1
  pub form : IsFormed (does row.kind) row
