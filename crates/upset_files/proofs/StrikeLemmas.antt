-- The places and bits that fit a partition are those at which it may be struck.
use Rattle.std.proofs.Common.{◌≡◌, ℕ, zero, suc, ◌+◌, ◌&&◌, ◌||◌, nat_le, nat_lt, List, [], ◌∷◌, map, refl, ap, ◌∙◌, slice_get, slice_index_or}
use Rattle.std.specs.List.{list_any}
use Rattle.std.proofs.lemmas.Bool.{and_from}
use Rattle.guest_bus.specs.Memory.{holds_address, is_readable}
use Rattle.guest_memory.specs.Loading.{area_of, memory_areas}
use Rattle.xm_conf.specs.Configuration.{Part}
use Rattle.xm_conf.specs.declared.part.Area.{Area}
use Rattle.machine_model.specs.Partition.{areas_of}
use Rattle.machine_model.specs.View.{System, no_part, part_of, view_of}
use Rattle.xm_report.specs.declared.place.Place.TheVariants.{Conditions, ExecutionDeadline, Global, HardwareDeadline, Mask, MemoryByte, Npc, Pc, Pending, TrapBase, Windowed, YRegister}
use Rattle.upset_files.specs.Fits.{areas_or_none, has_address, is_bit_of, is_place_of, areas_of_part}
use Rattle.upset_files.specs.Laws.{PlacesAreThose, UpsetsMayStrike}

-- the same addresses are in the areas of a memory
any_same : (address : ℕ) (areas : List Area) → list_any (holds_address address) (map area_of areas) ≡ list_any (has_address address) areas
unfolding has_address
any_same address [] = refl
any_same address (area ∷ areas) = ap (λ b. (nat_le area.start address && nat_lt address (area.start + area.size)) || b) (any_same address areas)

-- the areas of a partition, or none
areas_same : (parts : List Part) (p : ℕ) → memory_areas (slice_index_or parts p no_part) ≡ map area_of (areas_or_none (slice_get parts p))
unfolding memory_areas
areas_same [] p = refl
areas_same (part ∷ parts) zero = refl
areas_same (part ∷ parts) (suc p) = areas_same parts p

-- a byte of memory
byte_same : (system : System) (p address : ℕ) → is_readable (areas_of (view_of system p)) address ≡ list_any (has_address address) (areas_of_part system.conf p)
unfolding areas_of view_of part_of areas_of_part
byte_same system p address =
    ap (λ areas. is_readable areas address) (areas_same system.conf.parts p) ∙ any_same address (areas_or_none (slice_get system.conf.parts p))

pub places_those : PlacesAreThose
places_those system p (Global n) bit = refl
places_those system p (Windowed n) bit = refl
places_those system p Pc bit = refl
places_those system p Npc bit = refl
places_those system p YRegister bit = refl
places_those system p Conditions bit = refl
places_those system p HardwareDeadline bit = refl
places_those system p ExecutionDeadline bit = refl
places_those system p TrapBase bit = refl
places_those system p Mask bit = refl
places_those system p Pending bit = refl
places_those system p (MemoryByte address) bit = ap (λ b. b && nat_lt bit 8) (byte_same system p address)

pub may_strike : UpsetsMayStrike
may_strike system ticks before line fits =
    places_those system line.part line.place line.bit ∙ and_from (is_place_of (areas_of_part system.conf line.part) line.place) (is_bit_of line.place line.bit) fits.place fits.bit
