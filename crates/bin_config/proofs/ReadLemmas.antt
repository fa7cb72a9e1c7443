-- What reading gives is what the bytes spell.
use Rattle.std.proofs.Common.{◌≡◌, List, ℕ, Option, Some, None, Result, Ok, Err, sym, ap, subst, ◌∙◌}
use Rattle.std.specs.Prelude.{IfOk}
use Rattle.xm_base.specs.Bytes.{AreBytes}
use Rattle.xm_conf.specs.Configuration.{Conf}
use Rattle.file_headers.specs.Gives.{Gives}
use Rattle.bin_config.specs.Gives.{Fails}
use Rattle.bin_config.specs.Laws.{IsSpellingOf, ReadIsSpelled, SpelledIsRead, UpgradedIsSame}
use Rattle.bin_config.specs.lemmas.RangeLemmas.{fits_two, ranges_if_spelled}
use Rattle.bin_config.specs.Reading.{read_as, read_of, read_within}
use Rattle.bin_config.specs.Spelled.{HasConfRanges}
use Rattle.bin_config.specs.Version.{FitsVersion, IsWanted}
use Rattle.bin_config.specs.Xmc.{xmc}
use Rattle.fault_messages.specs.declared.fault.XmcFault.{XmcFault}
use Rattle.bin_config.specs.declared.version.Version.{Version}
use Rattle.bin_config.specs.declared.version.Version.TheVariants.{Two}

-- a configuration that reading gives is the one that the bytes spell, in one of the versions
pub given_spelled : ReadIsSpelled → (bytes : List ℕ) (given : Result Conf XmcFault) → AreBytes bytes → Gives Fails (λ found. found) given (read_of bytes)
    → IfOk given (λ conf. (v : Version) × IsSpellingOf v bytes conf)
given_spelled law bytes (Ok conf) each read = let is = law None bytes conf each read in (is.0, is.2)
given_spelled law bytes (Err fault) each read = tt

-- the same in one version
pub given_in : ReadIsSpelled → (v : Version) (bytes : List ℕ) (given : Result Conf XmcFault) → AreBytes bytes → Gives Fails (λ found. found) given (read_as v bytes)
    → IfOk given (IsSpellingOf v bytes)
given_in law v bytes (Ok conf) each read =
    let is = law (Some v) bytes conf each read in
    subst (λ (w : Version). IsSpellingOf w bytes conf) (sym is.1) is.2
given_in law v bytes (Err fault) each read = tt

-- what the bytes spell in a version that is wanted is what reading gives
spelling_read : SpelledIsRead → (want : Option Version) (v : Version) (bytes : List ℕ) (conf : Conf) → IsWanted want v → IsSpellingOf v bytes conf
    → read_within want bytes ≡ Ok conf
spelling_read law want v bytes conf wants is = ap (read_within want) is.text ∙ law want v conf wants (ranges_if_spelled v conf is.spelled) is.fits

-- where there is memory
pub only_spelled : SpelledIsRead → (want : Option Version) (v : Version) (bytes : List ℕ) (conf : Conf) (given : Result Conf XmcFault) → IsWanted want v → IsSpellingOf v bytes conf
    → Gives Fails (λ found. found) given (read_within want bytes) → Gives Fails (λ found. found) given (Ok conf)
only_spelled law want v bytes conf given wants is gives =
    subst (λ (read : Result Conf XmcFault). Gives Fails (λ found. found) given read) (spelling_read law want v bytes conf wants is) gives

-- what is read of bytes of either version is read of its spelling in version 2
pub upgraded_same : ReadIsSpelled → SpelledIsRead → UpgradedIsSame
upgraded_same spelled again bytes conf each read =
    let is = spelled None bytes conf each read in
    again None Two conf tt (ranges_if_spelled is.0 conf is.2.spelled) (fits_two is.0 conf is.2.fits) ∙ sym read

-- what is written in version 2 is read, where either version is
pub written_read : SpelledIsRead → (conf : Conf) → HasConfRanges conf → FitsVersion Two conf → read_of (xmc Two conf) ≡ Ok conf
written_read law conf ranges fits = law None Two conf tt ranges fits
