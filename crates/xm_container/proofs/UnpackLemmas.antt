-- What is unpacked is what the bytes spell, and what they spell is unpacked.
use Rattle.std.proofs.Common.{◌≡◌, ◌<◌, ◌^◌, ℕ, List, length, Result, Ok, Err, ap, subst, ◌∙◌}
use Rattle.std.specs.Prelude.{IfOk}
use Rattle.xm_base.specs.Bytes.{AreBytes}
use Rattle.bin_config.specs.declared.version.Version.{Version}
use Rattle.loaded_system.specs.System.{System}
use Rattle.xm_container.specs.Box.{box_text, IsSpelledContainer}
use Rattle.file_headers.specs.Gives.{Gives}
use Rattle.xm_container.specs.Gives.{Fails}
use Rattle.xm_container.specs.Laws.{PackedIsUnpacked, UnpackedIsPacked}
use Rattle.xm_container.specs.Reading.{unpacked}
use Rattle.fault_messages.specs.declared.fault.BoxFault.{BoxFault}

-- what is unpacked is what the bytes spell
pub found_spelled : UnpackedIsPacked → (bytes : List ℕ) (result : Result System BoxFault) → AreBytes bytes → Gives Fails (λ found. found) result (unpacked bytes) → IfOk result (λ system. (v : Version) × IsSpelledContainer v bytes system)
found_spelled law bytes (Ok system) each given = law bytes system each given
found_spelled law bytes (Err fault) each given = tt

-- what the bytes spell is unpacked
pub spelled_unpacked : PackedIsUnpacked → (v : Version) (bytes : List ℕ) (system : System) → IsSpelledContainer v bytes system → unpacked bytes ≡ Ok system
spelled_unpacked law v bytes system is =
    let short : length (box_text v system) < 2 ^ 32 = subst (λ (b : List ℕ). length b < 2 ^ 32) is.text is.short in
    ap unpacked is.text ∙ law v system is.loads is.fits is.ranges short

-- where there is memory
pub only_spelled : PackedIsUnpacked → (v : Version) (bytes : List ℕ) (system : System) (result : Result System BoxFault) → IsSpelledContainer v bytes system → Gives Fails (λ found. found) result (unpacked bytes)
    → Gives Fails (λ found. found) result (Ok system)
only_spelled law v bytes system result is given = subst (λ (read : Result System BoxFault). Gives Fails (λ found. found) result read) (spelled_unpacked law v bytes system is) given
