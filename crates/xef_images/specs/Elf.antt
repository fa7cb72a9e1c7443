-- The program file of a linker as an image: an executable of ELF, of 32 bits, big endian, for SPARC.
use Rattle.std.specs.Prelude.{ℕ, zero, suc, ◌+◌, ◌^◌, ◌==◌, Bool, ◌&&◌, ◌||◌, not, nat_le, nat_lt, if◌then◌else◌, List, [], ◌∷◌, ◌++◌, length, take, drop, slice_index, codes, Option, Some, None, Result, Ok, Err}
use Rattle.std.specs.Int.{w16, w32, from_be_bytes}
use Rattle.std.specs.Str.{bytes_eq}
use Rattle.xef_images.specs.Image.{Image, Segment, end_of, xef_length}
use Rattle.file_headers.specs.Steps.{◌>>=◌}
use Rattle.xef_images.specs.Tests.{is_entry}
use Rattle.xef_images.specs.declared.header.Header.{Header}
use Rattle.fault_messages.specs.declared.fault.ElfFault.{ElfFault}
use Rattle.fault_messages.specs.declared.fault.ElfFault.TheVariants as fault
use Rattle.xm_base.specs.declared.limits.TheConstants.{FILE_BYTES}

-- the number of two bytes at a place
abbrev pub half : List ℕ → ℕ → ℕ
half bytes place = from_be_bytes w16 (take 2 (drop place bytes))

-- the number of four bytes at a place
abbrev pub elf_word : List ℕ → ℕ → ℕ
elf_word bytes place = from_be_bytes w32 (take 4 (drop place bytes))

-- the file begins as ELF
unfoldable pub is_magic : List ℕ → Bool
is_magic bytes = bytes_eq (take 4 bytes) (127 ∷ codes "ELF")

-- of 32 bits, big endian, version 1
unfoldable pub is_class : List ℕ → Bool
is_class bytes = (slice_index bytes 4 == 1) && (slice_index bytes 5 == 2) && (slice_index bytes 6 == 1)

-- an executable, for SPARC, version 1
unfoldable pub is_machine : List ℕ → Bool
is_machine bytes = (half bytes 16 == 2) && (half bytes 18 == 2) && (elf_word bytes 20 == 1)

-- how many program headers there are, each of 32 bytes, or what is wrong with the head of the file
unfoldable pub header_count : List ℕ → Result ℕ ElfFault
header_count bytes =
    if nat_lt (length bytes) 52 then Err (fault.Short 0)
    else if not (is_magic bytes) then Err fault.Magic
    else if not (is_class bytes) then Err fault.Class
    else if not (is_machine bytes) then Err fault.Machine
    else if nat_lt 0 (half bytes 44) && not (half bytes 42 == 32) then Err (fault.Headers (half bytes 42))
    else Ok (half bytes 44)

-- the program header at a place
unfoldable pub header_at : List ℕ → ℕ → Header
header_at bytes place = record {
  place = place;
  kind = elf_word bytes place;
  offset = elf_word bytes (place + 4);
  address = elf_word bytes (place + 8);
  count = elf_word bytes (place + 16);
  memory = elf_word bytes (place + 20);
}

-- a header of type 1 with some memory is loaded
abbrev pub is_loaded : Header → Bool
is_loaded header = (header.kind == 1) && nat_lt 0 header.memory

-- some of the contents stand past the end
abbrev pub is_cut : List ℕ → Header → Bool
is_cut bytes header = nat_lt 0 header.count && nat_lt (length bytes) (header.offset + header.count)

-- the segment of a header, with its bytes out of the file
abbrev pub segment_of : List ℕ → Header → Segment
segment_of bytes header = record { address = header.address; memory = header.memory; bytes = take header.count (drop header.offset bytes) }

-- the segment of a header that is loaded, after this many others, or its first fault
unfoldable pub segment_from : List ℕ → ℕ → Header → Result Segment ElfFault
segment_from bytes before header =
    if nat_lt header.memory header.count then Err (fault.Size header.place)
    else if nat_lt (2 ^ 32) (header.address + header.memory) || nat_le 8 before then Err (fault.Limit header.place)
    else if is_cut bytes header then Err (fault.Short header.offset)
    else Ok (segment_of bytes header)

-- what the header at a place loads after this many other segments: none, one, or its first fault
unfoldable pub load_at : List ℕ → ℕ → ℕ → Result (List Segment) ElfFault
load_at bytes before place =
    if nat_lt (length bytes) (place + 32) then Err (fault.Short place)
    else if is_loaded (header_at bytes place) then (segment_from bytes before (header_at bytes place) >>= λ segment. Ok (segment ∷ []))
    else Ok []

-- what this many headers load, from a place on, after this many other segments: segments in the order of the headers, or the first fault
unfoldable pub loads : List ℕ → ℕ → ℕ → ℕ → Result (List Segment) ElfFault
loads bytes before place zero = Ok []
loads bytes before place (suc count) = do
  first ← load_at bytes before place
  others ← loads bytes (before + length first) (place + 32) count
  Ok (first ++ others)

-- a segment among others that are sorted by address, before those with its address
abbrev pub inserted_by_address : Segment → List Segment → List Segment
inserted_by_address segment [] = segment ∷ []
inserted_by_address segment (other ∷ others) = if nat_le segment.address other.address then segment ∷ other ∷ others else other ∷ inserted_by_address segment others

-- segments sorted by address
abbrev pub sorted : List Segment → List Segment
sorted [] = []
sorted (segment ∷ others) = inserted_by_address segment (sorted others)

-- the address of the first segment that begins before the one before it ends, the first of all after the floor
abbrev pub overlap : ℕ → List Segment → Option ℕ
overlap floor [] = None
overlap floor (segment ∷ later) = if nat_lt segment.address floor then Some segment.address else overlap (end_of segment) later

-- the fault of two segments that overlap
abbrev pub overlap_fault : Option ℕ → Result (Unit {0}) ElfFault
overlap_fault None = Ok tt
overlap_fault (Some address) = Err (fault.Overlap address)

-- what is wrong with an entry and all segments, sorted by address
unfoldable pub verdict : ℕ → List Segment → Result (Unit {0}) ElfFault
verdict entry segments =
    if length segments == 0 then Err fault.NoLoad
    else (overlap_fault (overlap 0 segments) >>= λ _.
    if not (is_entry entry segments) then Err (fault.Entry entry)
    else if nat_lt FILE_BYTES (xef_length segments) then Err (fault.Limit 0)
    else Ok tt)

-- the image of a program file, or its first fault
unfoldable pub elf : List ℕ → Result Image ElfFault
elf bytes = do
  count ← header_count bytes
  segments ← loads bytes 0 (elf_word bytes 28) count
  verdict (elf_word bytes 24) (sorted segments) >>= λ _. Ok (record { entry = elf_word bytes 24; segments = sorted segments })
