-- What rows of each kind do.
use Rattle.std.specs.Prelude.{ℕ, Bool, true, false, Option, None, Some, ◌==◌, if◌then◌else◌}
use Rattle.predecode.specs.declared.kinds.Kind.{Kind}
use Rattle.predecode.specs.declared.kinds.Kind.TheVariants.{Empty, Other, Nothing, AddNumber, AddRegister, SubNumber, SubRegister, SetNumber, SetRegister, OrNumber, OrRegister, AndNumber, AndRegister, XorNumber, XorRegister, SllNumber, SllRegister, SrlNumber, SrlRegister, SraNumber, SraRegister, AndN, OrN, XNor, AddX, SubX, CompareNumber, CompareRegister, AddCc, SubCc, AndCc, OrCc, XorCc, AndNCc, OrNCc, XNorCc, AddXCc, SubXCc, UMul, SMul, UMulCc, SMulCc, UDiv, SDiv, LdNumber, LdRegister, LdUbNumber, LdUbRegister, LdUh, LdSb, LdSh, LdD, StNumber, StRegister, StBNumber, StBRegister, StH, StD, RdY, WrY, Save, Restore, Call, Jump, Always, Branch, Annulling, AnnullingAlways, Trap, CompareNumberE, CompareNumberLe, CompareNumberL, CompareNumberLeu, CompareNumberCs, CompareNumberNe, CompareNumberG, CompareNumberGe, CompareNumberGu, CompareNumberCc, CompareRegisterE, CompareRegisterLe, CompareRegisterL, CompareRegisterLeu, CompareRegisterCs, CompareRegisterNe, CompareRegisterG, CompareRegisterGe, CompareRegisterGu, CompareRegisterCc, AddE, AddNe, SubE, SubNe, AndE, AndNe, OrE, OrNe}
use Rattle.sparc_code.specs.declared.instruction.Arith.{Arith}
use Rattle.sparc_code.specs.declared.instruction.Arith.TheVariants as arith
use Rattle.sparc_code.specs.declared.instruction.MemOp.{MemOp}
use Rattle.sparc_code.specs.declared.instruction.MemOp.TheVariants as memory

-- how operand 2 stands in a row: as the sum of a register and a number, of which one is 0, or as one of both alone
pub data Form : Type 0 where
  Sum : Form
  Number : Form
  Register : Form

-- what rows of a kind do: nothing, since no row is made yet, or since their instruction is left to others; they only go on to the next word; work on registers; a comparison,
-- whose difference is dropped; a register becomes operand 2; a load or a store; Y is read or written; a window is entered; a call or a jump; a
-- branch that annuls nothing, taken always or on a condition; one that may annul its delay slot, taken on a condition or always; a trap that is
-- taken always
pub data Does : Type 0 where
  Unmade : Does
  Leaves : Does
  Idles : Does
  Works : (operation : Arith) (form : Form) → Does
  Compares : (form : Form) → Does
  Sets : (form : Form) → Does
  Moves : (operation : MemOp) (form : Form) → Does
  ReadsY : Does
  WritesY : Does
  Saves : Does
  Restores : Does
  Calls : Does
  Jumps : Does
  BranchesAlways : Does
  Branches : Does
  Annuls : Does
  AnnulsAlways : Does
  Traps : Does

abbrev pub does : Kind → Does
does Empty = Unmade
does Other = Leaves
does Nothing = Idles
does AddNumber = Works arith.Add Number
does AddRegister = Works arith.Add Register
does SubNumber = Works arith.Sub Number
does SubRegister = Works arith.Sub Register
does SetNumber = Sets Number
does SetRegister = Sets Register
does OrNumber = Works arith.Or Number
does OrRegister = Works arith.Or Register
does AndNumber = Works arith.And Number
does AndRegister = Works arith.And Register
does XorNumber = Works arith.Xor Number
does XorRegister = Works arith.Xor Register
does SllNumber = Works arith.Sll Number
does SllRegister = Works arith.Sll Register
does SrlNumber = Works arith.Srl Number
does SrlRegister = Works arith.Srl Register
does SraNumber = Works arith.Sra Number
does SraRegister = Works arith.Sra Register
does AndN = Works arith.AndN Sum
does OrN = Works arith.OrN Sum
does XNor = Works arith.XNor Sum
does AddX = Works arith.AddX Sum
does SubX = Works arith.SubX Sum
does CompareNumber = Compares Number
does CompareRegister = Compares Register
does AddCc = Works arith.AddCc Sum
does SubCc = Works arith.SubCc Sum
does AndCc = Works arith.AndCc Sum
does OrCc = Works arith.OrCc Sum
does XorCc = Works arith.XorCc Sum
does AndNCc = Works arith.AndNCc Sum
does OrNCc = Works arith.OrNCc Sum
does XNorCc = Works arith.XNorCc Sum
does AddXCc = Works arith.AddXCc Sum
does SubXCc = Works arith.SubXCc Sum
does UMul = Works arith.UMul Sum
does SMul = Works arith.SMul Sum
does UMulCc = Works arith.UMulCc Sum
does SMulCc = Works arith.SMulCc Sum
does UDiv = Works arith.UDiv Sum
does SDiv = Works arith.SDiv Sum
does LdNumber = Moves memory.Ld Number
does LdRegister = Moves memory.Ld Register
does LdUbNumber = Moves memory.LdUb Number
does LdUbRegister = Moves memory.LdUb Register
does LdUh = Moves memory.LdUh Sum
does LdSb = Moves memory.LdSb Sum
does LdSh = Moves memory.LdSh Sum
does LdD = Moves memory.LdD Sum
does StNumber = Moves memory.St Number
does StRegister = Moves memory.St Register
does StBNumber = Moves memory.StB Number
does StBRegister = Moves memory.StB Register
does StH = Moves memory.StH Sum
does StD = Moves memory.StD Sum
does RdY = ReadsY
does WrY = WritesY
does Save = Saves
does Restore = Restores
does Call = Calls
does Jump = Jumps
does Always = BranchesAlways
does Branch = Branches
does Annulling = Annuls
does AnnullingAlways = AnnulsAlways
does Trap = Traps
does CompareNumberE = Compares Number
does CompareNumberLe = Compares Number
does CompareNumberL = Compares Number
does CompareNumberLeu = Compares Number
does CompareNumberCs = Compares Number
does CompareNumberNe = Compares Number
does CompareNumberG = Compares Number
does CompareNumberGe = Compares Number
does CompareNumberGu = Compares Number
does CompareNumberCc = Compares Number
does CompareRegisterE = Compares Register
does CompareRegisterLe = Compares Register
does CompareRegisterL = Compares Register
does CompareRegisterLeu = Compares Register
does CompareRegisterCs = Compares Register
does CompareRegisterNe = Compares Register
does CompareRegisterG = Compares Register
does CompareRegisterGe = Compares Register
does CompareRegisterGu = Compares Register
does CompareRegisterCc = Compares Register
does AddE = Works arith.AddCc Sum
does AddNe = Works arith.AddCc Sum
does SubE = Works arith.SubCc Sum
does SubNe = Works arith.SubCc Sum
does AndE = Works arith.AndCc Sum
does AndNe = Works arith.AndCc Sum
does OrE = Works arith.OrCc Sum
does OrNe = Works arith.OrCc Sum

-- the condition of the branch that follows, where the row is that of a pair
abbrev pub follows : Kind → Option ℕ
follows Empty = None
follows Other = None
follows Nothing = None
follows AddNumber = None
follows AddRegister = None
follows SubNumber = None
follows SubRegister = None
follows SetNumber = None
follows SetRegister = None
follows OrNumber = None
follows OrRegister = None
follows AndNumber = None
follows AndRegister = None
follows XorNumber = None
follows XorRegister = None
follows SllNumber = None
follows SllRegister = None
follows SrlNumber = None
follows SrlRegister = None
follows SraNumber = None
follows SraRegister = None
follows AndN = None
follows OrN = None
follows XNor = None
follows AddX = None
follows SubX = None
follows CompareNumber = None
follows CompareRegister = None
follows AddCc = None
follows SubCc = None
follows AndCc = None
follows OrCc = None
follows XorCc = None
follows AndNCc = None
follows OrNCc = None
follows XNorCc = None
follows AddXCc = None
follows SubXCc = None
follows UMul = None
follows SMul = None
follows UMulCc = None
follows SMulCc = None
follows UDiv = None
follows SDiv = None
follows LdNumber = None
follows LdRegister = None
follows LdUbNumber = None
follows LdUbRegister = None
follows LdUh = None
follows LdSb = None
follows LdSh = None
follows LdD = None
follows StNumber = None
follows StRegister = None
follows StBNumber = None
follows StBRegister = None
follows StH = None
follows StD = None
follows RdY = None
follows WrY = None
follows Save = None
follows Restore = None
follows Call = None
follows Jump = None
follows Always = None
follows Branch = None
follows Annulling = None
follows AnnullingAlways = None
follows Trap = None
follows CompareNumberE = Some 1
follows CompareNumberLe = Some 2
follows CompareNumberL = Some 3
follows CompareNumberLeu = Some 4
follows CompareNumberCs = Some 5
follows CompareNumberNe = Some 9
follows CompareNumberG = Some 10
follows CompareNumberGe = Some 11
follows CompareNumberGu = Some 12
follows CompareNumberCc = Some 13
follows CompareRegisterE = Some 1
follows CompareRegisterLe = Some 2
follows CompareRegisterL = Some 3
follows CompareRegisterLeu = Some 4
follows CompareRegisterCs = Some 5
follows CompareRegisterNe = Some 9
follows CompareRegisterG = Some 10
follows CompareRegisterGe = Some 11
follows CompareRegisterGu = Some 12
follows CompareRegisterCc = Some 13
follows AddE = Some 1
follows AddNe = Some 9
follows SubE = Some 1
follows SubNe = Some 9
follows AndE = Some 1
follows AndNe = Some 9
follows OrE = Some 1
follows OrNe = Some 9

-- an instruction that never goes on to the next word, or that is left to others
abbrev pub goes_nowhere : Does → Bool
goes_nowhere Unmade = true
goes_nowhere Leaves = true
goes_nowhere Calls = true
goes_nowhere Jumps = true
goes_nowhere BranchesAlways = true
goes_nowhere AnnulsAlways = true
goes_nowhere Traps = true
goes_nowhere d = false

abbrev pub is_exit : Kind → Bool
is_exit kind = goes_nowhere (does kind)

-- no row is made yet
abbrev pub is_none : Does → Bool
is_none Unmade = true
is_none d = false

abbrev pub is_unmade : Kind → Bool
is_unmade kind = is_none (does kind)
