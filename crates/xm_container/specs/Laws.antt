-- The laws of containers.
use Rattle.std.specs.Prelude.{◌≡◌, ℕ, ◌<◌, ◌^◌, List, [], ◌++◌, length, Ok}
use Rattle.xm_base.specs.Bytes.{AreBytes}
use Rattle.bin_config.specs.Spelled.{HasConfRanges}
use Rattle.bin_config.specs.Version.{FitsVersion}
use Rattle.bin_config.specs.declared.version.Version.{Version}
use Rattle.bin_config.specs.declared.version.Version.TheVariants.{One, Two}
use Rattle.loaded_system.specs.System.{System, IsSystem}
use Rattle.xm_container.specs.Box.{box_text, IsSpelledContainer}
use Rattle.xm_container.specs.Reading.{unpacked}

-- no container, of either version, is a proper prefix of another: what stands after one that is a prefix is nothing
abbrev pub ContainersArePrefixFree : Type 0
ContainersArePrefixFree =
    (v w : Version) (one other : System) (rest : List ℕ) → length (box_text w other) < 2 ^ 32 → box_text w other ≡ box_text v one ++ rest
    → rest ≡ []

-- a system whose configuration meets the rules of a version and has its numbers in the ranges of their fields is unpacked
-- from its container in that version, where a word can say the container's length
abbrev pub PackedIsUnpacked : Type 0
PackedIsUnpacked =
    (v : Version) (system : System) → IsSystem system → FitsVersion v system.conf → HasConfRanges system.conf → length (box_text v system) < 2 ^ 32
    → unpacked (box_text v system) ≡ Ok system

-- a system that has a container of version 1 is unpacked from it as from its container of version 2, where a word can say the
-- latter's length: in both versions the same system runs
abbrev pub VersionsAreAlike : Type 0
VersionsAreAlike =
    (system : System) → IsSystem system → FitsVersion One system.conf → HasConfRanges system.conf → length (box_text Two system) < 2 ^ 32
    → unpacked (box_text One system) ≡ unpacked (box_text Two system)

-- the system that is unpacked is the one whose container the bytes are, in one of the versions
abbrev pub UnpackedIsPacked : Type 0
UnpackedIsPacked = (bytes : List ℕ) (system : System) → AreBytes bytes → unpacked bytes ≡ Ok system → (v : Version) × IsSpelledContainer v bytes system
