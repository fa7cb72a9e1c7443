-- The laws of the binary form.
use Rattle.std.specs.Prelude.{◌≡◌, ◌≢◌, ℕ, ◌<◌, ◌≤◌, ◌^◌, List, [], ◌++◌, length, Option, Ok, Err}
use Rattle.xm_base.specs.Bytes.{AreBytes}
use Rattle.xm_conf.specs.Configuration.{Conf}
use Rattle.bin_config.specs.Reading.{read_as, read_of, read_within}
use Rattle.bin_config.specs.Spelled.{HasConfRanges, IsSpelledConf}
use Rattle.bin_config.specs.Version.{FitsVersion, IsWanted, version_number}
use Rattle.bin_config.specs.Xmc.{xmc}
use Rattle.fault_messages.specs.declared.fault.XmcFault.TheVariants as fault
use Rattle.bin_config.specs.declared.version.Version.{Version}
use Rattle.bin_config.specs.declared.version.Version.TheVariants.{Two}

-- no spelling, of either version, has another one as its prefix: what follows a spelling in a spelling is nothing
abbrev pub IsPrefixFree : Type 0
IsPrefixFree =
    (v w : Version) (a b : Conf) (rest : List ℕ) → length (xmc w b) < 2 ^ 32 → xmc w b ≡ xmc v a ++ rest → rest ≡ []

-- bytes are the one spelling of a configuration in a version, which can be spelled in it and meets its rules
pub record IsSpellingOf (v : Version) (bytes : List ℕ) (conf : Conf) : Type 0 where
  pub text : bytes ≡ xmc v conf
  pub spelled : IsSpelledConf v conf
  pub fits : FitsVersion v conf

-- what is read of bytes is what they spell, in a version that is wanted
abbrev pub ReadIsSpelled : Type 0
ReadIsSpelled =
    (want : Option Version) (bytes : List ℕ) (conf : Conf) → AreBytes bytes → read_within want bytes ≡ Ok conf
    → (v : Version) × IsWanted want v × IsSpellingOf v bytes conf

-- a configuration whose numbers are in the ranges of their fields, and which meets the rules of a version, is read of its
-- spelling in that version
abbrev pub SpelledIsRead : Type 0
SpelledIsRead =
    (want : Option Version) (v : Version) (conf : Conf) → IsWanted want v → HasConfRanges conf → FitsVersion v conf
    → read_within want (xmc v conf) ≡ Ok conf

-- what is read of bytes of either version is read of its spelling in version 2: no upgrade changes a configuration, and one
-- of what was upgraded gives the same bytes
abbrev pub UpgradedIsSame : Type 0
UpgradedIsSame = (bytes : List ℕ) (conf : Conf) → AreBytes bytes → read_of bytes ≡ Ok conf → read_of (xmc Two conf) ≡ read_of bytes

-- a spelling in another version than the one that is wanted is refused by its version
abbrev pub OtherIsRefused : Type 0
OtherIsRefused = (v w : Version) (conf : Conf) → v ≢ w → read_as v (xmc w conf) ≡ Err (fault.Version (version_number w))

-- nothing is read of a spelling with something after it: that begins where the spelling ends
abbrev pub MoreIsTrailing : Type 0
MoreIsTrailing =
    (want : Option Version) (v : Version) (conf : Conf) (rest : List ℕ) → IsWanted want v → IsSpelledConf v conf → rest ≢ []
    → read_within want (xmc v conf ++ rest) ≡ Err (fault.Trailing (length (xmc v conf)))

-- a spelling that is cut after its length field is short where it ends
abbrev pub CutIsShort : Type 0
CutIsShort =
    (want : Option Version) (v : Version) (conf : Conf) (front rest : List ℕ) → IsWanted want v → IsSpelledConf v conf
    → xmc v conf ≡ front ++ rest → rest ≢ [] → 10 ≤ length front → read_within want front ≡ Err (fault.Short (length front))

-- what can be spelled is shorter than what its length field can state
abbrev pub FitsItsLength : Type 0
FitsItsLength = (v : Version) (conf : Conf) → IsSpelledConf v conf → length (xmc v conf) < 2 ^ 32
