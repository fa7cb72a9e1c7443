-- A name gives back the buffer that keeps it.
use Rattle.std.specs.Prelude.{◌≡◌, length, take}
use Rattle.std.proofs.Common.{◌∙◌, ap, sym}
use Rattle.xm_conf.specs.Name.{IsNameBuffer, padded}
use Rattle.xm_conf.specs.declared.name.Name.TheInside.{Inside}

-- the buffer of a name, out of its bytes alone
pub kept_back : (name : Inside) → IsNameBuffer name.bytes name.count → record { bytes = padded (take name.count name.bytes); count = length (take name.count name.bytes) } ≡ name
kept_back name kept =
    ap (λ bytes. record { bytes = bytes; count = length (take name.count name.bytes) }) (sym kept.rest)
    ∙ ap (λ count. record { bytes = name.bytes; count = count }) kept.counted
