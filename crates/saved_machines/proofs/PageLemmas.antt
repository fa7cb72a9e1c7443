-- A page as it was loaded is none that is saved.
use Rattle.std.proofs.Common.{◌≡◌, ℕ, Bool, true, false, refl}
use Rattle.std.specs.Prelude.{◌&&◌, not}
use Rattle.std.specs.Str.{bytes_eq}
use Rattle.std.proofs.lemmas.Slice.Eq.{bytes_eq-Decides}
use Rattle.guest_bus.specs.Memory.{Memory}
use Rattle.saved_machines.specs.SavedFormat.{loaded_page, page_format}
use Rattle.saved_machines.specs.rows.SavedRows.{some_area}

fails : (first same : Bool) → same ≡ true → (first && not same) ≡ false
fails true same is = rw is refl
fails false same is = refl

pub as_loaded : (loaded : Memory) (address : ℕ) → (page_format some_area loaded 0).fits (record { address = address; bytes = loaded_page loaded address }) ≡ false
as_loaded loaded address = fails _ (bytes_eq (loaded_page loaded address) (loaded_page loaded address)) ((bytes_eq-Decides (loaded_page loaded address) (loaded_page loaded address)).1 refl)
