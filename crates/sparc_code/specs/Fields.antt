-- The fields of an instruction word, as the formats of section 5.1 of the SPARC V8 manual name them.
use Rattle.std.specs.Prelude.{ℕ, ℤ, pos, ◌-◌, ◌/◌, ◌%◌, ◌^◌, ◌-ℤ◌, nat_lt, if◌then◌else◌}

-- the bits of a word from a place upward, as a number
abbrev pub field : ℕ → ℕ → ℕ → ℕ
field low width word = word / 2 ^ low % 2 ^ width

-- a field of this many bits as a signed number: its highest bit counts less than nothing
unfoldable pub signed : ℕ → ℕ → ℤ
signed width n = if nat_lt n (2 ^ (width - 1)) then pos n else pos n -ℤ pos (2 ^ width)

-- the format
unfoldable pub op : ℕ → ℕ
op word = field 30 2 word

-- the selector of format 2
unfoldable pub op2 : ℕ → ℕ
op2 word = field 22 3 word

-- the selector of format 3
unfoldable pub op3 : ℕ → ℕ
op3 word = field 19 6 word

-- the register of the result
unfoldable pub rd : ℕ → ℕ
rd word = field 25 5 word

-- the register of the first operand
unfoldable pub rs1 : ℕ → ℕ
rs1 word = field 14 5 word

-- operand 2 stands in the word
unfoldable pub i : ℕ → ℕ
i word = field 13 1 word

-- the register of operand 2
unfoldable pub rs2 : ℕ → ℕ
rs2 word = field 0 5 word

-- operand 2 in the word, with a sign
unfoldable pub simm13 : ℕ → ℤ
simm13 word = signed 13 (field 0 13 word)

-- the number of places of a shift in the word
unfoldable pub shcnt : ℕ → ℤ
shcnt word = pos (field 0 5 word)

-- the number of a trap in the word
unfoldable pub imm7 : ℕ → ℤ
imm7 word = pos (field 0 7 word)

-- the words from a call to its target, with a sign
unfoldable pub disp30 : ℕ → ℤ
disp30 word = signed 30 (field 0 30 word)

-- the words from a branch to its target, with a sign
unfoldable pub disp22 : ℕ → ℤ
disp22 word = signed 22 (field 0 22 word)

-- the upper bits that SETHI sets
unfoldable pub imm22 : ℕ → ℕ
imm22 word = field 0 22 word

-- the condition of a branch or a trap
unfoldable pub cond : ℕ → ℕ
cond word = field 25 4 word

-- the annul bit of a branch
unfoldable pub annul : ℕ → ℕ
annul word = field 29 1 word
