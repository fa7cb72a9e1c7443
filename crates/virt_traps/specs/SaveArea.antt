-- The registers of each window, and its save area: the 64 bytes at its stack pointer that hold its locals and ins (section 4.1 and appendix D of the SPARC V8 manual).
use Rattle.std.specs.Prelude.{ℕ, zero, suc, ◌+◌, ◌%◌, ◌^◌, Bool, ◌&&◌, nat_le, ◌==◌, List, [], ◌∷◌, slice_index, slice_set}
use Rattle.guest_bus.specs.Words.{allows}
use Rattle.sparc_step.specs.Registers.{place_in_windows}

-- register n of a window, for n from 8 to 31
abbrev pub register_of : List ℕ → ℕ → ℕ → ℕ
register_of windows window n = slice_index windows (place_in_windows window n)

-- this many registers of a window from n on
unfoldable pub registers_from : List ℕ → ℕ → ℕ → ℕ → List ℕ
registers_from windows window n zero = []
registers_from windows window n (suc count) = register_of windows window n ∷ registers_from windows window (suc n) count

-- what a window saves: its locals and its ins, registers 16 to 31
unfoldable pub saved : List ℕ → ℕ → List ℕ
saved windows window = registers_from windows window 16 16

-- the windows with these values in one of them, from register n on
unfoldable pub with_registers : List ℕ → ℕ → ℕ → List ℕ → List ℕ
with_registers windows window n [] = windows
with_registers windows window n (value ∷ values) =
    with_registers (slice_set windows (place_in_windows window n) value) window (suc n) values

-- the address can be that of a save area: it is a multiple of 8, and each of the 64 bytes is allowed, none of them past the last address
unfoldable pub is_usable : (ℕ → Bool) → ℕ → Bool
is_usable allowed address = (address % 8 == 0) && (nat_le (address + 64) (2 ^ 32) && allows allowed address 64)
