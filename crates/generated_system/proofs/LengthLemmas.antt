-- The container of a generated system has few bytes.
use Rattle.std.proofs.Common.{◌≡◌, ℕ, ◌+◌, ◌*◌, ◌≤◌, Bool, true, List, [], ◌∷◌, ◌++◌, length, refl, arith, length-append}
use Rattle.std.specs.Prelude.{◌&&◌, nat_le}
use Rattle.std.specs.Fmt.{digits}
use Rattle.std.specs.Int.{to_be_bytes, w32}
use Rattle.std.specs.List.{list_all}
use Rattle.std.proofs.lemmas.Bool.{and_parts}
use Rattle.bin_config.specs.Xmc.{action, area_record, belongings, body, chan, end, head, identity, monitor, part_record, plan_record, port_record, region_record, slot_record, text_field, xmc}
use Rattle.bin_config.specs.declared.version.Version.TheVariants.{Two}
use Rattle.xm_base.specs.declared.limits.TheConstants.{FILE_BYTES}
use Rattle.xm_conf.specs.lemmas.NameLemmas.{Decides-nat_le}
use Rattle.xef_images.specs.Image.{Image, xef_length}
use Rattle.xef_images.specs.Spelling.{xef_text}
use Rattle.xef_images.specs.lemmas.XefLemmas.{length-xef_text}
use Rattle.xm_container.specs.Box.{box_length, entries_text, image_entry_text, fields_text, sized_text}
use Rattle.generated_system.specs.Generated.{all_chans, all_images, all_parts, area_start, image_bytes, chan_of, generated_conf, conf_with, first_word, generated, generated_image, generated_part, generated_plan, port_name, program_of, receiving_code, sending_code, slot_drawn, generated_slots, generated_way}

-- the binary configuration is as long whatever the durations are
length-xmc : (number : ℕ) → length (xmc Two (generated_conf number)) ≡ 995
unfolding digits xmc head body text_field region_record slot_record plan_record action monitor area_record port_record identity belongings part_record end chan generated_conf conf_with generated_plan generated_slots slot_drawn all_parts all_chans generated_part chan_of port_name generated_way area_start
length-xmc number = refl

-- whether an image has few segments, and its file few bytes
unfoldable is_short : Image → Bool
is_short image = nat_le (length image.segments) 8 && nat_le (xef_length image.segments) 131

all_short : list_all is_short all_images ≡ true
unfolding is_short all_images generated_image area_start image_bytes first_word program_of sending_code receiving_code
all_short = refl

-- an image with its number and its length
length-entry : (id : ℕ) (image : Image) → is_short image ≡ true → length (image_entry_text id image) ≤ 136
unfolding is_short image_entry_text sized_text
length-entry id image short =
    let tests = and_parts (nat_le (length image.segments) 8) (nat_le (xef_length image.segments) 131) short in
    let few = (Decides-nat_le (length image.segments) 8).0 tests.0 in
    omega (
      arith,
      (Decides-nat_le (xef_length image.segments) 131).0 tests.1,
      length-xef_text image few,
      length-append (to_be_bytes w32 (length (xef_text image))) (xef_text image),
    )

-- and all of them
length-entries : (id : ℕ) (images : List Image) → list_all is_short images ≡ true → length (entries_text id images) ≤ 136 * length images
length-entries id [] short = omega arith
length-entries id (image ∷ images) short =
    let tests = and_parts (is_short image) (list_all is_short images) short in
    omega (arith, length-append (image_entry_text id image) (entries_text (id + 1) images), length-entry id image tests.0, length-entries (id + 1) images tests.1)

length-all_images : length all_images ≡ 16
unfolding all_images
length-all_images = refl

-- the container is not too long
pub fields_short : (number : ℕ) → box_length (fields_text Two (generated number)) ≤ FILE_BYTES
unfolding fields_text sized_text generated
fields_short number =
    omega (
      arith,
      length-append (to_be_bytes w32 (length (xmc Two (generated_conf number))) ++ xmc Two (generated_conf number)) (length all_images ∷ entries_text 0 all_images),
      length-append (to_be_bytes w32 (length (xmc Two (generated_conf number)))) (xmc Two (generated_conf number)),
      length-xmc number,
      length-entries 0 all_images all_short,
      length-all_images,
    )
