-- Names: of systems, partitions, ports and UARTs.
use Rattle.std.specs.Prelude.{◌≡◌, ◌≢◌, ℕ, ◌-◌, ◌≤◌, ◌==◌, Bool, ◌&&◌, not, nat_le, if◌then◌else◌, List, ◌++◌, length, replicate, take, Option, Some, None, All}
use Rattle.std.specs.List.{list_all}

-- a byte of a name is printed, and is none of `"`, `&`, `'` and `<`
abbrev pub IsNameByte : ℕ → Type 0
IsNameByte byte = (32 ≤ byte) × (byte ≤ 126) × (byte ≢ 34) × (byte ≢ 38) × (byte ≢ 39) × (byte ≢ 60)

-- a name has 1 to 31 such bytes
pub record IsName (bytes : List ℕ) : Type 0 where
  pub some : 1 ≤ length bytes
  pub most : length bytes ≤ 31
  pub each : All IsNameByte bytes

-- whether a byte may stand in a name
abbrev pub is_name_byte : ℕ → Bool
is_name_byte byte =
    nat_le 32 byte && nat_le byte 126 && not (byte == 34) && not (byte == 38) && not (byte == 39) && not (byte == 60)

-- whether bytes are a name
abbrev pub is_name : List ℕ → Bool
is_name bytes = nat_le 1 (length bytes) && nat_le (length bytes) 31 && list_all is_name_byte bytes

-- the name that bytes are, where they are one
abbrev pub name_from_bytes : List ℕ → Option (List ℕ)
name_from_bytes bytes = if is_name bytes then Some bytes else None

-- the bytes, filled up with zeros to 31
abbrev pub padded : List ℕ → List ℕ
padded bytes = bytes ++ replicate (31 - length bytes) 0

-- the first bytes of a buffer, this many, are a name, and the others are zeros
pub record IsNameBuffer (buffer : List ℕ) (count : ℕ) : Type 0 where
  pub name : IsName (take count buffer)
  pub counted : length (take count buffer) ≡ count
  pub rest : buffer ≡ padded (take count buffer)
