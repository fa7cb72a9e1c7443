-- The bytes of small values in each way to make a format, worked by hand, and what is read of bytes.
use Rattle.std.specs.Prelude.{◌≡◌, ℕ, zero, suc, ◌+◌, Bool, true, false, nat_le, List, [], ◌∷◌, codes, length, replicate, Option, Some, None, Ok, Err}
use Rattle.std.specs.Int.{w16, w32, w64, w8}
use Rattle.fault_messages.specs.declared.fault.HeadFault.{HeadFault}
use Rattle.xm_base.specs.Cursor.{Place, cursor_start}
use Rattle.file_headers.specs.Known.{head_faults}
use Rattle.codecs.specs.Codec.{Codec, any_number, coded, counted, counted_items, each_of, fixed_text, items, keyed, no_bytes, number, optional, pair, raw_bytes, tested, through, through_where}
use Rattle.codecs.specs.Files.{FileCodec, judged_file, text_before_digest, versioned_file, whole_file}

-- the faults of the rows: too few bytes at a place, other bytes there, and a number that is refused
pub data RowFault : Type 0 where
  Few : ℕ → RowFault
  Other : ℕ → RowFault
  Refused : ℕ → ℕ → RowFault

-- a byte and a half word
abbrev pub byte : Codec RowFault ℕ
byte = any_number Few w8

abbrev pub half_word : Codec RowFault ℕ
half_word = any_number Few w16

-- a place in bytes
abbrev pub place_in : List ℕ → ℕ → Place
place_in bytes at = record { bytes = bytes; at = at }

-- a byte that is a number up to the most
abbrev pub up_to : ℕ → Codec RowFault ℕ
up_to most = number Few Refused w8 (λ n. nat_le n most)

-- fields
pub record FieldRows : Type 0 where
  pub one : byte.spell 0xAB ≡ 0xAB ∷ []
  pub two : half_word.spell 0x1234 ≡ 0x12 ∷ 0x34 ∷ []
  pub four : (any_number Few w32).spell 0x12345678 ≡ 0x12 ∷ 0x34 ∷ 0x56 ∷ 0x78 ∷ []
  pub eight : (any_number Few w64).spell 0x123456789ABCDEF0 ≡ 0x12 ∷ 0x34 ∷ 0x56 ∷ 0x78 ∷ 0x9A ∷ 0xBC ∷ 0xDE ∷ 0xF0 ∷ []
  pub last : half_word.fits 65535 ≡ true
  pub beyond : half_word.fits 65536 ≡ false
  pub read : half_word.read (cursor_start (1 ∷ 2 ∷ 3 ∷ [])) ≡ Ok (258, place_in (1 ∷ 2 ∷ 3 ∷ []) 2)
  pub few : half_word.read (place_in (1 ∷ 2 ∷ 3 ∷ []) 2) ≡ Err (Few 2)
  pub allowed : (up_to 2).read (cursor_start (2 ∷ [])) ≡ Ok (2, place_in (2 ∷ []) 1)
  pub refused : (up_to 2).read (cursor_start (3 ∷ [])) ≡ Err (Refused 0 3)
  pub bytes : (raw_bytes Few 2).read (cursor_start (7 ∷ 8 ∷ 9 ∷ [])) ≡ Ok (7 ∷ 8 ∷ [], place_in (7 ∷ 8 ∷ 9 ∷ []) 2)
  pub too_few : (raw_bytes Few 2).fits (7 ∷ []) ≡ false
  pub text : (fixed_text Few Other (codes "AB")).spell tt ≡ 65 ∷ 66 ∷ []
  pub other : (fixed_text Few Other (codes "AB")).read (cursor_start (65 ∷ 67 ∷ [])) ≡ Err (Other 0)
  pub none : (no_bytes {F = RowFault}).read (cursor_start (1 ∷ [])) ≡ Ok (tt, place_in (1 ∷ []) 0)

-- the meaning of a flag's byte, and its byte
abbrev pub flag_meant : ℕ → Option Bool
flag_meant zero = Some false
flag_meant (suc zero) = Some true
flag_meant (suc (suc n)) = None

abbrev pub flag_code : Bool → ℕ
flag_code false = 0
flag_code true = 1

-- a flag
abbrev pub flag_byte : Codec RowFault Bool
flag_byte = coded Other flag_meant flag_code byte

-- zeros, this many
abbrev pub raw_zeros : ℕ → Codec RowFault (Unit {0})
raw_zeros count = fixed_text Few Other (replicate count 0)

-- three numbers at most, none below the one before it, up to a 9
abbrev pub rising : Codec RowFault (List ℕ)
rising = items (λ floor. nat_le 9 floor) (λ floor. number Few Refused w8 (λ n. nat_le floor n)) (λ floor n. n) 3 0

-- parts and lists
pub record PartRows : Type 0 where
  pub order : (pair byte λ n. half_word).spell (1, 2) ≡ 1 ∷ 0 ∷ 2 ∷ []
  pub both : (pair byte λ n. half_word).read (cursor_start (1 ∷ 0 ∷ 2 ∷ [])) ≡ Ok ((1, 2), place_in (1 ∷ 0 ∷ 2 ∷ []) 3)
  pub second : (pair byte λ n. half_word).read (cursor_start (1 ∷ 0 ∷ [])) ≡ Err (Few 1)
  pub depends : (pair byte λ n. up_to n).read (cursor_start (1 ∷ 2 ∷ [])) ≡ Err (Refused 1 2)
  pub plus : (through (λ n. n + 1) (λ n. n) byte).read (cursor_start (4 ∷ [])) ≡ Ok (5, place_in (4 ∷ []) 1)
  pub some : (through_where (λ n. nat_le n 4) (λ n. n) (λ n. n) byte).fits 5 ≡ false
  pub sum : (tested Refused (λ n. nat_le n 256) half_word).read (cursor_start (1 ∷ 1 ∷ [])) ≡ Err (Refused 0 257)
  pub flag : flag_byte.spell true ≡ 1 ∷ []
  pub no_flag : flag_byte.read (cursor_start (2 ∷ [])) ≡ Err (Other 0)
  pub list : (counted byte half_word).spell (1 ∷ 2 ∷ []) ≡ 2 ∷ 0 ∷ 1 ∷ 0 ∷ 2 ∷ []
  pub listed : (counted byte byte).read (cursor_start (1 ∷ 5 ∷ 6 ∷ [])) ≡ Ok (5 ∷ [], place_in (1 ∷ 5 ∷ 6 ∷ []) 2)
  pub there : (optional flag_byte half_word (raw_zeros 1)).spell (Some 5) ≡ 1 ∷ 0 ∷ 5 ∷ []
  pub absent : (optional flag_byte half_word (raw_zeros 1)).spell None ≡ 0 ∷ 0 ∷ []
  pub stands : (optional flag_byte half_word (raw_zeros 1)).read (cursor_start (0 ∷ 1 ∷ [])) ≡ Err (Other 1)
  pub numbered : (counted_items byte (λ floor. number Few Refused w8 (λ n. nat_le floor n)) (λ floor n. n + 1) 0).read (cursor_start (2 ∷ 4 ∷ 4 ∷ [])) ≡ Err (Refused 2 4)
  pub key : (keyed byte (λ n. raw_bytes Few n) (λ bytes. length bytes)).spell (7 ∷ 8 ∷ []) ≡ 2 ∷ 7 ∷ 8 ∷ []
  pub floor : rising.read (cursor_start (5 ∷ 3 ∷ [])) ≡ Err (Refused 1 3)
  pub ends : rising.read (cursor_start (5 ∷ 9 ∷ 1 ∷ [])) ≡ Ok (5 ∷ 9 ∷ [], place_in (5 ∷ 9 ∷ 1 ∷ []) 2)
  pub most : rising.read (cursor_start (1 ∷ 2 ∷ 3 ∷ 4 ∷ [])) ≡ Ok (1 ∷ 2 ∷ 3 ∷ [], place_in (1 ∷ 2 ∷ 3 ∷ 4 ∷ []) 3)
  pub missing : rising.fits (1 ∷ 2 ∷ []) ≡ false
  pub own : (each_of (λ most. up_to most) (1 ∷ 2 ∷ [])).read (cursor_start (1 ∷ 3 ∷ [])) ≡ Err (Refused 1 3)
  pub as_many : (each_of (λ most. up_to most) (1 ∷ 2 ∷ [])).fits (1 ∷ []) ≡ false

-- a byte after a head whose versions are 1 and 2
abbrev pub versions : FileCodec HeadFault (ℕ × ℕ)
versions = versioned_file head_faults (codes "NAME") 2 (λ version. any_number head_faults.short w8)

-- files
pub record FileRows : Type 0 where
  pub head : text_before_digest (codes "NAME") (7 ∷ []) ≡ 78 ∷ 65 ∷ 77 ∷ 69 ∷ 0 ∷ 1 ∷ 0 ∷ 0 ∷ 0 ∷ 27 ∷ 7 ∷ []
  pub end : (whole_file head_faults.trailing (any_number head_faults.short w8)).read (7 ∷ 8 ∷ []) ≡ Err (head_faults.trailing 1)
  pub version : versions.spell (2, 7) ≡ 78 ∷ 65 ∷ 77 ∷ 69 ∷ 0 ∷ 2 ∷ 0 ∷ 0 ∷ 0 ∷ 11 ∷ 7 ∷ []
  pub read : versions.read (78 ∷ 65 ∷ 77 ∷ 69 ∷ 0 ∷ 2 ∷ 0 ∷ 0 ∷ 0 ∷ 11 ∷ 7 ∷ []) ≡ Ok (2, 7)
  pub name : versions.read (78 ∷ 65 ∷ 77 ∷ 70 ∷ 0 ∷ 2 ∷ 0 ∷ 0 ∷ 0 ∷ 11 ∷ 7 ∷ []) ≡ Err head_faults.magic
  pub later : versions.read (78 ∷ 65 ∷ 77 ∷ 69 ∷ 0 ∷ 3 ∷ 0 ∷ 0 ∷ 0 ∷ 11 ∷ 7 ∷ []) ≡ Err (head_faults.version 3)
  pub more : versions.read (78 ∷ 65 ∷ 77 ∷ 69 ∷ 0 ∷ 2 ∷ 0 ∷ 0 ∷ 0 ∷ 11 ∷ 7 ∷ 8 ∷ []) ≡ Err (head_faults.trailing 11)
  pub less : versions.read (78 ∷ 65 ∷ 77 ∷ 69 ∷ 0 ∷ 2 ∷ 0 ∷ 0 ∷ 0 ∷ 11 ∷ []) ≡ Err (head_faults.short 10)
  pub stated : versions.read (78 ∷ 65 ∷ 77 ∷ 69 ∷ 0 ∷ 2 ∷ 0 ∷ 0 ∷ 0 ∷ 10 ∷ 7 ∷ []) ≡ Err (head_faults.trailing 10)
  pub judged : (judged_file (λ v. head_faults.magic) (λ v. nat_le v.1 6) versions).fits (1, 7) ≡ false
