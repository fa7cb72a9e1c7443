-- What is packed is unpacked: the configuration with the image of each partition.
use Rattle.std.proofs.Common.{◌≡◌, ℕ, ◌+◌, ◌≤◌, Bool, true, false, cond, List, length, None, Result, Ok, Err, refl, sym, ap, ◌∙◌, arith}
use Rattle.std.specs.Prelude.{All, IfOk, nat_le, Vec}
use Rattle.xm_conf.specs.Configuration.{Conf}
use Rattle.xm_conf.specs.Description.{described}
use Rattle.xm_conf.specs.Fits.{Fits}
use Rattle.xm_base.specs.declared.limits.TheConstants.{FILE_BYTES}
use Rattle.bin_config.specs.Spelled.{HasConfRanges}
use Rattle.bin_config.specs.Version.{FitsVersion}
use Rattle.bin_config.specs.declared.version.Version.TheVariants.{Two}
use Rattle.xef_images.specs.Image.{IsImage}
use Rattle.xef_images.specs.lemmas.ImageLemmas.{Decides-nat_le}
use Rattle.loaded_system.specs.Inside.{first_outside}
use Rattle.loaded_system.specs.lemmas.InsideLemmas.{inside_if_none}
use Rattle.loaded_system.specs.System.{IsSystem}
use Rattle.xm_container.specs.Box.{box_length, box_text, fields_text, sealed_text}
use Rattle.xm_container.proofs.BoxLemmas.{length-sealed}
use Rattle.xm_container.specs.Laws.{PackedIsUnpacked}
use Rattle.xm_container.specs.Numbers.{missing}
use Rattle.xm_container.specs.Pack.{Packs, partition_numbers, in_order, sealed, system_of}
use Rattle.xm_container.proofs.PackLemmas.{length-in_order}
use Rattle.xm_container.specs.Reading.{unpacked}
use Rattle.fault_messages.specs.declared.fault.PackFault.{PackFault}
use Rattle.fault_messages.specs.declared.fault.PackFault.TheVariants as fault
use Rattle.xm_container.specs.declared.image.Image.{Image as Given}

-- a configuration and images of which none is missing and none lies outside are a system
pub system_loads : (conf : Conf) (images : List Given) → Fits (described conf) → All IsImage (in_order images 0 (length conf.parts)) → missing (length conf.parts) (partition_numbers images) ≡ None
    → first_outside conf.parts (in_order images 0 (length conf.parts)) ≡ None → IsSystem (system_of conf images)
system_loads conf images fits each none inside = record {
  fits = fits;
  images = each;
  counted = length-in_order images (length conf.parts) none;
  inside = inside_if_none conf.parts (in_order images 0 (length conf.parts)) inside;
}

-- fields that are sealed are not too long
sealed_so : (fields bytes : List ℕ) → sealed fields ≡ Ok bytes → (26 + length fields ≤ FILE_BYTES) × (sealed_text Two fields ≡ bytes)
unfolding sealed
sealed_so fields bytes e =
    let t = at (nat_le (box_length fields) FILE_BYTES) e in
    ((Decides-nat_le (box_length fields) FILE_BYTES).0 t.0, t.1)
  where
    at : (test : Bool) → cond {A = Result (List ℕ) PackFault} test (Ok (sealed_text Two fields)) (Err (fault.Long (box_length fields))) ≡ Ok bytes → (test ≡ true) × (sealed_text Two fields ≡ bytes)
    at true is = (refl, cc)
    at false is = absurd cc

-- what is packed is unpacked
pub packed_read : {A : Type 0} → PackedIsUnpacked → (conf : Conf) (images : List Given) (fields : List ℕ) (result : Result (Vec ℕ A) PackFault) → IsSystem (system_of conf images) → HasConfRanges conf
    → fields ≡ fields_text Two (system_of conf images) → Packs result (sealed fields) → IfOk result (λ bytes. unpacked bytes.items ≡ Ok (system_of conf images))
unfolding box_text
packed_read law conf images fields (Err fault) loads ranges is given = tt
packed_read law conf images fields (Ok bytes) loads ranges is given =
    let s = sealed_so fields bytes.items given in
    let text : box_text Two (system_of conf images) ≡ bytes.items = ap (sealed_text Two) (sym is) ∙ s.1 in
    let size : length (box_text Two (system_of conf images)) ≡ 26 + length fields = ap (λ f. length (sealed_text Two f)) (sym is) ∙ length-sealed Two fields in
    let fits : FitsVersion Two conf = record { fits = loads.fits; links = tt } in
    ap unpacked (sym text) ∙ law Two (system_of conf images) loads fits ranges (omega (arith, s.0, size))
