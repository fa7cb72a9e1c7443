-- For proofs and private clauses: how rows are put together.
use Rattle.std.specs.Prelude.{◌≡◌, ℕ, Bool, true, false, ◌==◌, if◌then◌else◌}
use Rattle.sparc_code.specs.declared.instruction.Arith.{Arith}
use Rattle.sparc_code.specs.declared.instruction.Arith.TheVariants as arith
use Rattle.sparc_code.specs.declared.instruction.Instr.{Instr}
use Rattle.sparc_code.specs.declared.instruction.Instr.TheVariants as instr
use Rattle.sparc_code.specs.declared.instruction.MemOp.{MemOp}
use Rattle.sparc_code.specs.declared.instruction.MemOp.TheVariants as memory
use Rattle.sparc_code.specs.declared.instruction.Src.{Src}
use Rattle.sparc_code.specs.declared.instruction.Src.TheVariants.{Reg, Imm}
use Rattle.predecode.specs.Kinds.{Does, Leaves, Works, Compares, Sets, Moves, Form, Sum, Number, Register}
use Rattle.predecode.specs.Rows.{HasSource, IsRowOf}
use Rattle.predecode.specs.declared.kinds.Kind.{Kind}
use Rattle.predecode.specs.declared.rows.Row.{Row}

-- a row of a kind, with these registers and this operand 2
pub record HasParts (row : Row) (kind : Kind) (rd rs1 : ℕ) (source : Src) : Type 0 where
  pub work : row.kind ≡ kind
  pub result : row.rd ≡ rd
  pub first : row.rs1 ≡ rs1
  pub second : HasSource source row

-- operand 2 is a number: register 0 is one, too
abbrev pub is_number : Src → Bool
is_number (Reg register) = register == 0
is_number (Imm number) = true

-- the form of operand 2 where there is one for each of both
abbrev pub form_by : Bool → Form
form_by number = if number then Number else Register

-- work that is frequent enough for two kinds
abbrev pub has_forms : Arith → Bool
has_forms arith.Add = true
has_forms arith.And = true
has_forms arith.Or = true
has_forms arith.Xor = true
has_forms arith.Sub = true
has_forms arith.Sll = true
has_forms arith.Srl = true
has_forms arith.Sra = true
has_forms operation = false

-- work that no row does
abbrev pub is_left : Arith → Bool
is_left arith.UDivCc = true
is_left arith.SDivCc = true
is_left arith.TAddCc = true
is_left arith.TSubCc = true
is_left arith.TAddCcTv = true
is_left arith.TSubCcTv = true
is_left arith.MulSCc = true
is_left operation = false

-- what is done of work on registers
abbrev pub worked_as : Arith → Bool → Does
worked_as operation number =
    if is_left operation then Leaves else Works operation (if has_forms operation then form_by number else Sum)

-- what is done of a load or a store
abbrev pub moved_as : MemOp → Bool → Does
moved_as memory.Ld number = Moves memory.Ld (form_by number)
moved_as memory.LdUb number = Moves memory.LdUb (form_by number)
moved_as memory.LdUh number = Moves memory.LdUh Sum
moved_as memory.LdSb number = Moves memory.LdSb Sum
moved_as memory.LdSh number = Moves memory.LdSh Sum
moved_as memory.LdD number = Moves memory.LdD Sum
moved_as memory.St number = Moves memory.St (form_by number)
moved_as memory.StB number = Moves memory.StB (form_by number)
moved_as memory.StH number = Moves memory.StH Sum
moved_as memory.StD number = Moves memory.StD Sum
moved_as memory.LdStUb number = Leaves
moved_as memory.Swap number = Leaves

-- the row of work on registers
abbrev pub IsWorkRow : Row → Arith → ℕ → ℕ → Src → Type 0
IsWorkRow row operation rd rs1 source = IsRowOf row (instr.Arith operation rd rs1 source)

-- the row of a load or a store
abbrev pub IsMemoryRow : Row → MemOp → ℕ → ℕ → Src → Type 0
IsMemoryRow row operation rd rs1 source = IsRowOf row (instr.Mem operation rd rs1 source)

-- those of the others with an operand 2
abbrev pub IsWriteRow : Row → ℕ → Src → Type 0
IsWriteRow row rs1 source = IsRowOf row (instr.WriteY rs1 source)

abbrev pub IsJumpRow : Row → ℕ → ℕ → Src → Type 0
IsJumpRow row rd rs1 source = IsRowOf row (instr.Jump rd rs1 source)

abbrev pub IsTrapRow : Row → ℕ → ℕ → Src → Type 0
IsTrapRow row condition rs1 source = IsRowOf row (instr.Trap condition rs1 source)

abbrev pub IsSaveRow : Row → ℕ → ℕ → Src → Type 0
IsSaveRow row rd rs1 source = IsRowOf row (instr.Save rd rs1 source)

abbrev pub IsRestoreRow : Row → ℕ → ℕ → Src → Type 0
IsRestoreRow row rd rs1 source = IsRowOf row (instr.Restore rd rs1 source)
