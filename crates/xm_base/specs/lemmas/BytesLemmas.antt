-- For proofs and private clauses: the bytes of the number that bytes are, are those bytes.
use Rattle.std.specs.Prelude.{◌≡◌, ℕ, ◌<◌, ◌%◌, List, [], ◌∷◌, length}
use Rattle.std.specs.Int.{w8, w16, w32, w64, to_be_bytes, from_be_bytes}
use Rattle.std.proofs.Common.{refl, ap, arith}
use Rattle.std.proofs.lemmas.Nat.{be_bytes_2, be_bytes_4, be_bytes_8}
use Rattle.byteorder.specs.Endian.{big_number}
use Rattle.xm_base.specs.Cursor.{IsNumberOf}
use Rattle.xm_base.specs.Bytes.{AreBytes}

-- one byte
pub spelled_1 : (bytes : List ℕ) → length bytes ≡ 1 → AreBytes bytes → to_be_bytes w8 (from_be_bytes w8 bytes) ≡ bytes
spelled_1 [] one each = absurd (omega arith)
spelled_1 (byte ∷ []) one each =
    let small : byte < 256 = each 0 in
    let same : byte % 256 ≡ byte = omega arith in
    ap (λ b. b ∷ []) same
spelled_1 (byte ∷ next ∷ rest) one each = absurd (omega arith)

-- two bytes
pub spelled_2 : (bytes : List ℕ) → length bytes ≡ 2 → AreBytes bytes → to_be_bytes w16 (from_be_bytes w16 bytes) ≡ bytes
spelled_2 bytes two each = be_bytes_2 bytes _ two each refl

-- four bytes
pub spelled_4 : (bytes : List ℕ) → length bytes ≡ 4 → AreBytes bytes → to_be_bytes w32 (from_be_bytes w32 bytes) ≡ bytes
spelled_4 bytes four each = be_bytes_4 bytes _ four each refl

-- eight bytes
pub spelled_8 : (bytes : List ℕ) → length bytes ≡ 8 → AreBytes bytes → to_be_bytes w64 (from_be_bytes w64 bytes) ≡ bytes
spelled_8 bytes eight each = be_bytes_8 bytes _ eight each refl

-- the number that is read of two bytes
pub read_2 : (bytes : List ℕ) → big_number 2 bytes ≡ from_be_bytes w16 bytes
read_2 bytes = omega arith

-- the number that is read of four bytes
pub read_4 : (bytes : List ℕ) → big_number 4 bytes ≡ from_be_bytes w32 bytes
read_4 bytes = omega arith

-- the number that is read of eight bytes
pub read_8 : (bytes : List ℕ) → big_number 8 bytes ≡ from_be_bytes w64 bytes
read_8 bytes = omega arith

-- a number that is read of two bytes is theirs
pub number_2 : (bytes : List ℕ) (number : ℕ) → length bytes ≡ 2 → AreBytes bytes → number ≡ big_number 2 bytes → IsNumberOf w16 bytes number
number_2 bytes number two each read = rw (read, read_2 bytes) (record { value = refl; spelled = spelled_2 bytes two each })

-- a number that is read of four bytes is theirs
pub number_4 : (bytes : List ℕ) (number : ℕ) → length bytes ≡ 4 → AreBytes bytes → number ≡ big_number 4 bytes → IsNumberOf w32 bytes number
number_4 bytes number four each read = rw (read, read_4 bytes) (record { value = refl; spelled = spelled_4 bytes four each })

-- a number that is read of eight bytes is theirs
pub number_8 : (bytes : List ℕ) (number : ℕ) → length bytes ≡ 8 → AreBytes bytes → number ≡ big_number 8 bytes → IsNumberOf w64 bytes number
number_8 bytes number eight each read = rw (read, read_8 bytes) (record { value = refl; spelled = spelled_8 bytes eight each })
