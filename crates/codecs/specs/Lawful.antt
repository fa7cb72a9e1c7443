-- What a format has to keep: what is read was spelled there, and what is spelled is read, whatever follows it.
use Rattle.std.specs.Prelude.{◌≡◌, ℕ, true, List, [], ◌++◌, Result, Ok}
use Rattle.xm_base.specs.Bytes.{AreBytes}
use Rattle.xm_base.specs.Cursor.{Place, ahead}
use Rattle.codecs.specs.Codec.{Codec}
use Rattle.codecs.specs.Files.{FileCodec}

-- a value stands at a place, and another place is the one after it: its spelling is there, and it is one that the format spells
pub record StandsAt {F X : Type 0} (c : Codec F X) (place : Place) (x : X) (after : Place) : Type 0 where
  pub text : ahead place ≡ c.spell x ++ ahead after
  pub fits : c.fits x ≡ true

-- a read gives a value, and these bytes follow
pub record GivesBefore {F X : Type 0} (read : Result (X × Place) F) (x : X) (rest : List ℕ) : Type 0 where
  pub after : Place
  pub is : read ≡ Ok (x, after)
  pub later : ahead after ≡ rest

-- both round trips of a format
pub record IsLawful {F X : Type 0} (c : Codec F X) : Type 0 where
  pub spelled : (place : Place) (x : X) (after : Place) → AreBytes (ahead place) → c.read place ≡ Ok (x, after) → StandsAt c place x after
  pub again : (place : Place) (x : X) (rest : List ℕ) → c.fits x ≡ true → ahead place ≡ c.spell x ++ rest → GivesBefore (c.read place) x rest

-- bytes are the file of a value
pub record IsFileOf {F X : Type 0} (c : FileCodec F X) (bytes : List ℕ) (x : X) : Type 0 where
  pub text : bytes ≡ c.spell x
  pub fits : c.fits x ≡ true

-- both round trips of a format of files
pub record IsLawfulFile {F X : Type 0} (c : FileCodec F X) : Type 0 where
  pub spelled : (bytes : List ℕ) (x : X) → AreBytes bytes → c.read bytes ≡ Ok x → IsFileOf c bytes x
  pub again : (x : X) → c.fits x ≡ true → c.read (c.spell x) ≡ Ok x

-- no file is a proper prefix of another: what stands after one that is a prefix is nothing
abbrev pub IsPrefixFree : {F X : Type 0} → FileCodec F X → Type 0
IsPrefixFree {F} {X} c = (one other : X) (rest : List ℕ) → c.fits one ≡ true → c.fits other ≡ true → c.spell other ≡ c.spell one ++ rest → rest ≡ []
