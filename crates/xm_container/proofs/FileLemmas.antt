-- Where the files of the images stand in a container.
use Rattle.std.proofs.Common.{◌≡◌, ℕ, ◌+◌, ◌-◌, ◌^◌, ◌<◌, ◌≤◌, List, [], ◌∷◌, ◌++◌, length, take, drop, Option, Some, Result, Ok, refl, sym, ap, subst, ◌∙◌, append_assoc, arith, codes}
use Rattle.std.specs.Prelude.{All, OnOk, slice_get}
use Rattle.std.specs.Int.{w32, from_be_bytes, to_be_bytes}
use Rattle.std.proofs.lemmas.List.{length-append, take_at, drop_at}
use Rattle.md5.specs.Md5.{md5}
use Rattle.xm_base.specs.Bytes.{AreBytes}
use Rattle.bin_config.specs.Version.{version_number}
use Rattle.bin_config.specs.declared.version.Version.{Version}
use Rattle.bin_config.specs.Xmc.{xmc}
use Rattle.bin_config.specs.lemmas.RangeLemmas.{spelled_if_fits}
use Rattle.bin_config.specs.lemmas.XmcLemmas.{xmc_short}
use Rattle.file_headers.specs.lemmas.FieldLemmas.{wide32}
use Rattle.file_headers.specs.lemmas.HeadsTerms.{lead_text}
use Rattle.xef_images.specs.Image.{Image, IsImage}
use Rattle.xef_images.specs.Spelling.{xef_text}
use Rattle.xef_images.specs.lemmas.XefLemmas.{length-xef_text}
use Rattle.loaded_system.specs.System.{System}
use Rattle.xm_container.proofs.BoxLemmas.{length-sealed}
use Rattle.xm_container.proofs.LineLemmas.{image_first, image_loads}
use Rattle.xm_container.specs.Box.{box_text, entries_text, fields_text, front_text, image_entry_text, sealed_text, sized_text, IsSpelledContainer}
use Rattle.xm_container.specs.lemmas.EntriesTerms.{BeginsSized, IsFileOf}
use Rattle.xm_container.specs.Laws.{UnpackedIsPacked}
use Rattle.xm_container.specs.Reading.{unpacked}

-- the length, and what stands after it
stands_apart : (bytes : List ℕ) (begun : BeginsSized bytes) → bytes ≡ to_be_bytes w32 (length begun.text) ++ (begun.text ++ begun.rest)
unfolding sized_text
stands_apart bytes begun = begun.stands ∙ append_assoc (to_be_bytes w32 (length begun.text)) begun.text begun.rest

-- the length has four bytes
pub sized_room : (bytes : List ℕ) → BeginsSized bytes → 4 ≤ length bytes
sized_room bytes begun =
    omega (arith, ap length (stands_apart bytes begun), length-append (to_be_bytes w32 (length begun.text)) (begun.text ++ begun.rest))

-- the number of its bytes
pub sized_count : (bytes : List ℕ) (begun : BeginsSized bytes) → from_be_bytes w32 (take 4 bytes) ≡ length begun.text
sized_count bytes begun =
    ap (λ b. from_be_bytes w32 (take 4 b)) (stands_apart bytes begun)
    ∙ ap (from_be_bytes w32) (take_at (to_be_bytes w32 (length begun.text)) (begun.text ++ begun.rest) 4 refl)
    ∙ wide32.again (length begun.text) begun.short

-- what stands after it
pub sized_after : (bytes : List ℕ) (begun : BeginsSized bytes) → drop 4 bytes ≡ begun.text ++ begun.rest
sized_after bytes begun =
    ap (drop 4) (stands_apart bytes begun) ∙ drop_at (to_be_bytes w32 (length begun.text)) (begun.text ++ begun.rest) 4 refl

-- the bytes after the length are at least as many as it says
pub sized_enough : (bytes after word : List ℕ) (count : ℕ) → BeginsSized bytes → word ≡ take 4 bytes → after ≡ drop 4 bytes → count ≡ from_be_bytes w32 word → count ≤ length after
sized_enough bytes after word count begun is_word is_after is_count =
    let counted : count ≡ length begun.text = is_count ∙ ap (from_be_bytes w32) is_word ∙ sized_count bytes begun in
    let long = ap length (is_after ∙ sized_after bytes begun) ∙ length-append begun.text begun.rest in
    omega (arith, counted, long)

-- the text and the rest
pub sized_parts : (bytes after word text rest : List ℕ) (count : ℕ) (begun : BeginsSized bytes) → word ≡ take 4 bytes → after ≡ drop 4 bytes → count ≡ from_be_bytes w32 word
    → text ≡ take count after → rest ≡ drop count after → (text ≡ begun.text) × (rest ≡ begun.rest)
sized_parts bytes after word text rest count begun is_word is_after is_count is_text is_rest =
    let counted : count ≡ length begun.text = is_count ∙ ap (from_be_bytes w32) is_word ∙ sized_count bytes begun in
    let stands : after ≡ begun.text ++ begun.rest = is_after ∙ sized_after bytes begun in (
      is_text ∙ ap (take count) stands ∙ take_at begun.text begun.rest count (sym counted),
      is_rest ∙ ap (drop count) stands ∙ drop_at begun.text begun.rest count (sym counted),
    )

-- where a text after its length follows one byte, there is that byte
pub after_byte : (bytes : List ℕ) → BeginsSized (drop 1 bytes) → 1 ≤ length bytes
after_byte [] begun = absurd (let room : 4 ≤ 0 = sized_room [] begun in omega (arith, room))
after_byte (byte ∷ bytes) begun = omega arith

-- the file of an image, and the images after it
pub image_begins : (images : List Image) (id : ℕ) (image : Image) (entries : List ℕ) → All IsImage images → slice_get images id ≡ Some image → entries ≡ entries_text id (drop id images)
    → (begun : BeginsSized (drop 1 entries)) × (begun.text ≡ xef_text image) × (begun.rest ≡ entries_text (id + 1) (drop (id + 1) images))
unfolding image_entry_text
image_begins images id image entries each some stands =
    let is : IsImage image = image_loads images id image each some in
    let below : length (xef_text image) < 2 ^ 32 = omega (arith, length-xef_text image is.most, is.short) in (
      record {
        text = xef_text image;
        rest = entries_text (id + 1) (drop (id + 1) images);
        short = below;
        stands = ap (drop 1) (stands ∙ ap (entries_text id) (image_first images id image some));
      },
      refl,
      refl,
    )

-- what stands between the length of a container and its digest
fields_there : (v : Version) (bytes : List ℕ) (system : System) → IsSpelledContainer v bytes system → (26 ≤ length bytes) × (take (length bytes - 26) (drop 10 bytes) ≡ fields_text v system)
unfolding box_text sealed_text front_text
fields_there v bytes system is =
    let fields = fields_text v system in
    let lead = lead_text (codes "XMPK") (version_number v) (26 + length fields) in
    let digest = md5 (front_text v fields) in
    let size : length bytes ≡ 26 + length fields = ap length is.text ∙ length-sealed v fields in
    let stands : bytes ≡ lead ++ (fields ++ digest) = is.text ∙ append_assoc lead fields digest in
    let after : drop 10 bytes ≡ fields ++ digest = ap (drop 10) stands ∙ drop_at lead (fields ++ digest) 10 refl in
    let count : length fields ≡ length bytes - 26 = omega (arith, size) in
    (omega (arith, size), ap (take (length bytes - 26)) after ∙ take_at fields digest (length bytes - 26) count)

-- a container that was read is longer than what stands around its fields
pub container_room : UnpackedIsPacked → (bytes : List ℕ) (system : System) → AreBytes bytes → unpacked bytes ≡ Ok system → 26 ≤ length bytes
container_room law bytes system each read =
    let s = law bytes system each read in
    (fields_there s.0 bytes system s.1).0

-- the configuration is the first of the fields
configuration_begins : (v : Version) (bytes fields : List ℕ) (system : System) → IsSpelledContainer v bytes system → fields ≡ take (length bytes - 26) (drop 10 bytes)
    → (begun : BeginsSized fields) × (begun.rest ≡ length system.images ∷ entries_text 0 system.images)
unfolding fields_text
configuration_begins v bytes fields system is are =
    let short : length (xmc v system.conf) < 2 ^ 32 = xmc_short v system.conf (spelled_if_fits v system.conf is.ranges is.fits) in
    (record { text = xmc v system.conf; rest = length system.images ∷ entries_text 0 system.images; short = short; stands = are ∙ (fields_there v bytes system is).1 }, refl)

-- the configuration is the first of the fields of a container that was read, and after it are the number of images and the images
pub fields_begin : UnpackedIsPacked → (bytes fields : List ℕ) (system : System) → AreBytes bytes → unpacked bytes ≡ Ok system → fields ≡ take (length bytes - 26) (drop 10 bytes)
    → (begun : BeginsSized fields) × (begun.rest ≡ length system.images ∷ entries_text 0 system.images)
fields_begin law bytes fields system each read are =
    let s = law bytes system each read in
    configuration_begins s.0 bytes fields system s.1 are

-- a file that is at hand is the image's
pub file_is : (image : Image) (found : Option Image) (file : Option (List ℕ)) → IsFileOf found file → found ≡ Some image → IsFileOf (Some image) file
file_is image found file is e = subst (λ (o : Option Image). IsFileOf o file) e is

-- what is put after the number of a partition is its image, where it is the image's file
pub numbered : {T E : Type 0} (result : Result T E) (old new file : List ℕ) (id : ℕ) (image : Image) → file ≡ xef_text image → OnOk result (new ≡ old ++ id ∷ sized_text file)
    → OnOk result (new ≡ old ++ image_entry_text id image)
unfolding image_entry_text
numbered result old new file id image is put = subst (λ (bytes : List ℕ). OnOk result (new ≡ old ++ id ∷ sized_text bytes)) is put
