-- The system of images that were read.
use Rattle.std.proofs.Common.{◌≡◌, ℕ, ◌<◌, List, length, None, Ok, refl, sym, ap, subst, ◌∙◌}
use Rattle.std.specs.Prelude.{All}
use Rattle.xm_conf.specs.Configuration.{Conf}
use Rattle.xef_images.specs.Image.{Image}
use Rattle.loaded_system.specs.Inside.{first_outside}
use Rattle.loaded_system.specs.lemmas.InsideLemmas.{none_if_inside}
use Rattle.loaded_system.specs.System.{System, AreInside}
use Rattle.xm_container.specs.Entries.{Entries}
use Rattle.xm_container.specs.lemmas.EntriesTerms.{AreEntries}
use Rattle.xm_container.proofs.NumberLemmas.{all_counted}
use Rattle.xm_container.specs.Numbers.{extra, missing}
use Rattle.xm_container.specs.Reading.{assigned}

-- there is an image for each partition
pub assigned_counted : (count : ℕ) (entries : Entries) (ids : List ℕ) (images : List Image) → record { ids = ids; images = images } ≡ entries → AreEntries entries
    → All (λ id. id < count) ids → missing count ids ≡ None → length images ≡ count
assigned_counted count entries ids images is are below none =
    let own : AreEntries (record { ids = ids; images = images }) = subst (λ (e : Entries). AreEntries e) (sym is) are in
    own.counted ∙ all_counted count ids own.rise below none

-- the system of images that lie inside
pub assigned_so : (conf : Conf) (count : ℕ) (entries : Entries) (ids : List ℕ) (images : List Image) (system : System) → record { ids = ids; images = images } ≡ entries → count ≡ length conf.parts
    → extra count ids ≡ None → missing count ids ≡ None → AreInside conf.parts images → system ≡ record { conf = conf; images = images } → assigned conf entries ≡ Ok system
unfolding assigned
assigned_so conf count entries ids images system is counted no_extra no_missing inside system_is =
    let none_extra : extra (length conf.parts) ids ≡ None = ap (λ n. extra n ids) (sym counted) ∙ no_extra in
    let none_missing : missing (length conf.parts) ids ≡ None = ap (λ n. missing n ids) (sym counted) ∙ no_missing in
    let none_outside : first_outside conf.parts images ≡ None = none_if_inside conf.parts images inside in
    let made : System = record { conf = conf; images = images } in
    let so : assigned conf (record { ids = ids; images = images }) ≡ Ok made = rw (none_extra, none_missing, none_outside) refl in
    ap (λ e. assigned conf e) (sym is) ∙ so ∙ ap (λ s. Ok s) (sym system_is)
