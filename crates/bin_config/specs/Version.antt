-- The two versions of the binary form: their numbers, and what a configuration has in each.
use Rattle.std.specs.Prelude.{◌≡◌, ℕ, ◌==◌, ⊤, if◌then◌else◌, List, [], Option, Some, None}
use Rattle.xm_conf.specs.Configuration.{Conf}
use Rattle.xm_conf.specs.Description.{described}
use Rattle.xm_conf.specs.Fits.{FitsWithin}
use Rattle.xm_conf.specs.Limits.{most_parts, most_parts_1}
use Rattle.xm_conf.specs.declared.link.Link.{Link}
use Rattle.bin_config.specs.declared.version.Version.{Version}
use Rattle.bin_config.specs.declared.version.Version.TheVariants as version

-- the number that a file has
abbrev pub version_number : Version → ℕ
version_number version.One = 1
version_number version.Two = 2

-- how many partitions a configuration may have
abbrev pub parts_in_version : Version → ℕ
parts_in_version version.One = most_parts_1
parts_in_version version.Two = most_parts

-- the version of a number
abbrev pub version_numbered : ℕ → Option Version
version_numbered n = if n == 1 then Some version.One else if n == 2 then Some version.Two else None

-- the version of a number, where it is the one that is wanted, or where either is
abbrev pub wanted : Option Version → ℕ → Option Version
wanted None n = version_numbered n
wanted (Some v) n = if n == version_number v then Some v else None

-- a version is the one that is wanted, or either is
abbrev pub IsWanted : Option Version → Version → Type 0
IsWanted None v = ⊤
IsWanted (Some w) v = w ≡ v

-- the links that a configuration may have
abbrev pub MayHaveLinks : Version → List Link → Type 0
MayHaveLinks version.One links = links ≡ []
MayHaveLinks version.Two links = ⊤

-- a configuration meets the rules of a version
pub record FitsVersion (v : Version) (conf : Conf) : Type 0 where
  pub fits : FitsWithin (parts_in_version v) (described conf)
  pub links : MayHaveLinks v conf.links
