-- A bit of a byte flips in the area that has it.
use Rattle.std.proofs.Common.{◌≡◌, ℕ, true, false, List, [], ◌∷◌, get_or, Option, Some, refl, sym, ap, ◌∙◌, arith}
use Rattle.std.specs.Prelude.{◌<◌, ◌%◌, ◌^◌, bit_xor, slice_get, slice_index, unwrap_or}
use Rattle.std.specs.FinMap.{insert}
use Rattle.std.specs.Int.{to_be_bytes, w8}
use Rattle.std.proofs.lemmas.Option.{get_or_from_slice_get, slice_get-get_or}
use borrow.Rule.Slice.PartMut.{put_mid}
use Rattle.guest_bus.specs.Memory.{Area, byte_at, is_readable}
use Rattle.guest_memory.specs.Flat.{listed, memory_in}
use Rattle.guest_memory.specs.Flips.{with_flipped}
use Rattle.guest_memory.specs.lemmas.FlatTerms.{IsSpace, StandsInArea}
use Rattle.guest_memory.specs.declared.entry.Entry.{Entry}
use Rattle.guest_memory.specs.declared.entry.Place.{Place}
use Rattle.guest_memory.proofs.AccessLemmas.{byte_stands, bytes_within, bytes_written}

-- an address that may be read is in some area
pub nowhere : (areas : List Area) (address : ℕ) → is_readable areas address ≡ true → is_readable areas address ≡ false → ⊥
nowhere areas address some none = cc

-- one byte that is put at a place
pub byte_put : (bytes new : List ℕ) (at byte bit flipped wide : ℕ) → slice_get bytes at ≡ Some byte → flipped ≡ bit_xor byte (2 ^ bit) → wide ≡ flipped → flipped < 256
    → new ≡ put_mid at 1 bytes (to_be_bytes w8 wide) → new ≡ put_mid at 1 bytes (bit_xor (slice_index bytes at) (2 ^ bit) ∷ [])
byte_put bytes new at byte bit flipped wide there flips widened below put = put ∙ ap (λ (put : List ℕ). put_mid at 1 bytes put) one
  where
    low : to_be_bytes w8 wide ≡ wide ∷ []
    low = let small : wide < 256 = omega (arith, widened, below) in let e : wide % 256 ≡ wide = omega arith in ap (λ (b : ℕ). b ∷ []) e

    here : slice_index bytes at ≡ byte
    here = get_or_from_slice_get bytes at byte 0 there

    one : to_be_bytes w8 wide ≡ bit_xor (slice_index bytes at) (2 ^ bit) ∷ []
    one = low ∙ ap (λ (b : ℕ). b ∷ []) (widened ∙ flips ∙ ap (λ (b : ℕ). bit_xor b (2 ^ bit)) (sym here))

-- what the flip of a bit of a byte leaves of the memory
pub flipped_in : (entries : List Entry) (bytes new : List ℕ) (place : Place) (address bit : ℕ) → IsSpace entries bytes → StandsInArea address 1 place entries
    → new ≡ put_mid place.byte 1 bytes (bit_xor (slice_index bytes place.byte) (2 ^ bit) ∷ []) → memory_in (listed entries) new ≡ with_flipped address bit (memory_in (listed entries) bytes)
flipped_in entries bytes new place address bit space stands put =
    ap (memory_in (listed entries)) put
    ∙ bytes_written entries bytes (bit_xor (slice_index bytes place.byte) (2 ^ bit) ∷ []) place address 1 space stands refl
    ∙ ap (λ (byte : ℕ). insert (memory_in (listed entries) bytes) address (bit_xor byte (2 ^ bit))) (sym byte)
  where
    there : slice_get bytes place.byte ≡ Some (get_or bytes place.byte 0)
    there = slice_get-get_or bytes place.byte 0 (omega (arith, bytes_within entries bytes place address 1 space stands))

    byte : byte_at (memory_in (listed entries) bytes) address ≡ get_or bytes place.byte 0
    byte = ap (λ (o : Option ℕ). unwrap_or o 0) (sym (byte_stands entries bytes place address (get_or bytes place.byte 0) space stands there))
