-- A generated system is packed, and unpacked again.
use Rattle.std.proofs.Common.{◌≡◌, ℕ, ◌≤◌, true, List, length, None, Result, Ok, Err, refl, ap, subst, ◌∙◌}
use Rattle.std.specs.Prelude.{nat_le, Vec}
use Rattle.bin_config.specs.declared.version.Version.TheVariants.{Two}
use Rattle.xm_base.specs.declared.limits.TheConstants.{FILE_BYTES}
use Rattle.xm_conf.specs.Configuration.{Conf}
use Rattle.xm_conf.specs.lemmas.NameLemmas.{Decides-nat_le}
use Rattle.loaded_system.specs.Inside.{first_outside, has_segment, is_inside}
use Rattle.xm_container.specs.Box.{box_length, box_text, fields_text, sealed_text}
use Rattle.xm_container.specs.Numbers.{extra, has_id, missing}
use Rattle.xm_container.specs.Pack.{Packs, partition_numbers, in_order, packed, sealed, system_of}
use Rattle.fault_messages.specs.declared.fault.PackFault.{PackFault}
use Rattle.fault_messages.specs.declared.fault.PackFault.TheVariants as variant
use Rattle.xm_container.specs.declared.image.Image.{Image}
use Rattle.generated_system.specs.Generated.{all_images, all_parts, area_start, image_bytes, generated_conf, conf_with, first_word, generated, generated_image, generated_part, program_of, receiving_code, sending_code}
use Rattle.generated_system.specs.lemmas.Given.{all_given, generated_given}
use Rattle.generated_system.proofs.LengthLemmas.{fields_short}

-- there are sixteen partitions, and an image for each
length-parts : (number : ℕ) → length (generated_conf number).parts ≡ 16
unfolding generated_conf conf_with all_parts
length-parts number = refl

none_extra : extra 16 (partition_numbers all_given) ≡ None
unfolding extra has_id all_given generated_given
none_extra = refl

none_missing : missing 16 (partition_numbers all_given) ≡ None
unfolding missing has_id all_given generated_given
none_missing = refl

-- in their order
in_order_is : in_order all_given 0 16 ≡ all_images
unfolding all_given generated_given all_images
in_order_is = refl

-- and each lies inside its partition's area
none_outside : first_outside all_parts all_images ≡ None
unfolding first_outside has_segment is_inside all_parts generated_part all_images generated_image area_start image_bytes first_word program_of sending_code receiving_code
none_outside = refl

parts_are : (number : ℕ) → (generated_conf number).parts ≡ all_parts
unfolding generated_conf conf_with
parts_are number = refl

-- what is not too long is sealed
sealed_is : (fields : List ℕ) → box_length fields ≤ FILE_BYTES → sealed fields ≡ Ok (sealed_text Two fields)
unfolding sealed
sealed_is fields short =
    let fits : nat_le (box_length fields) FILE_BYTES ≡ true = (Decides-nat_le (box_length fields) FILE_BYTES).1 short in
    rw fits refl

-- what is packed is the generated system
system_is : (number : ℕ) → system_of (generated_conf number) all_given ≡ generated number
unfolding generated
system_is number =
    ap (λ n. record { conf = generated_conf number; images = in_order all_given 0 n }) (length-parts number)
    ∙ ap (λ images. record { conf = generated_conf number; images = images }) in_order_is

packed_so : (number : ℕ) → packed (generated_conf number) all_given ≡ Ok (box_text Two (generated number))
unfolding packed box_text
packed_so number =
    rw (system_is number, length-parts number, none_extra, none_missing, in_order_is, parts_are number, none_outside) (sealed_is (fields_text Two (generated number)) (fields_short number))

pub packed_is : (number : ℕ) (conf : Conf) (images : List Image) → conf ≡ generated_conf number → images ≡ all_given → packed conf images ≡ Ok (box_text Two (generated number))
packed_is number conf images conf_is images_are = ap (λ c. packed c images) conf_is ∙ ap (packed (generated_conf number)) images_are ∙ packed_so number

pub system_so : (number : ℕ) (conf : Conf) (images : List Image) → conf ≡ generated_conf number → images ≡ all_given → system_of conf images ≡ generated number
system_so number conf images conf_is images_are = ap (λ c. system_of c images) conf_is ∙ ap (system_of (generated_conf number)) images_are ∙ system_is number

-- where packing gives a container, only memory can run out
pub only_memory : {A : Type 0} (result : Result (Vec ℕ A) PackFault) (fault : PackFault) (expected : Result (List ℕ) PackFault) (text : List ℕ) → result ≡ Err fault → Packs result expected → expected ≡ Ok text
    → fault ≡ variant.Memory
only_memory {A} result fault expected text is packs comes =
    at fault (subst (λ (r : Result (Vec ℕ A) PackFault). Packs r (Ok text)) is (subst (λ (e : Result (List ℕ) PackFault). Packs result e) comes packs))
  where
    at : (f : PackFault) → Packs {A = A} (Err f) (Ok text) → f ≡ variant.Memory
    at variant.Memory p = refl
    at (variant.Missing id) p = absurd (let wrong : ⊥ = cc in wrong)
    at (variant.Extra id) p = absurd (let wrong : ⊥ = cc in wrong)
    at (variant.Outside id address) p = absurd (let wrong : ⊥ = cc in wrong)
    at (variant.Long length) p = absurd (let wrong : ⊥ = cc in wrong)
