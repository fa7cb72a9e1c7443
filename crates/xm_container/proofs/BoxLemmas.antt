-- A container states its length, and a system is unpacked from its container.
use Rattle.std.proofs.Common.{◌≡◌, ℕ, zero, suc, ◌+◌, ◌-◌, ◌%◌, ◌^◌, ◌<◌, ◌≤◌, Bool, true, false, not, List, [], ◌∷◌, ◌++◌, length, drop, None, Some, Result, Ok, refl, sym, ap, ◌∙◌, append_assoc, arith, codes}
use Rattle.std.specs.Prelude.{nat_le, nat_lt, ◌==◌, ◌&&◌, ◌||◌, All}
use Rattle.std.specs.Int.{w8, w32, to_be_bytes}
use Rattle.std.proofs.lemmas.List.{append-nil, nil_from_length, length-append, drop_at}
use Rattle.std.proofs.lemmas.List.Elements.{All-head, All-tail}
use Rattle.std.proofs.lemmas.Bool.Decides.{Decides-eqb, nat_tests}
use Rattle.md5.specs.Md5.{md5}
use Rattle.md5.proofs.StandardFacts.{length-md5}
use Rattle.xm_base.specs.Cursor.{Place, ahead, left, past, cursor_start}
use Rattle.xm_conf.specs.Description.{described}
use Rattle.xm_conf.specs.Laws.{IsBrokenUnlessFits}
use Rattle.bin_config.specs.lemmas.RangeLemmas.{spelled_if_fits}
use Rattle.bin_config.specs.Reading.{read_as}
use Rattle.bin_config.specs.Version.{version_number}
use Rattle.xm_conf.specs.Limits.{most_parts}
use Rattle.bin_config.specs.declared.version.Version.{Version}
use Rattle.bin_config.specs.Xmc.{xmc}
use Rattle.bin_config.specs.lemmas.XmcLemmas.{one_is_short, spelled_read, xmc_short, numbered_back, number_small}
use Rattle.bin_config.specs.declared.version.Version.TheVariants.{One, Two}
use Rattle.file_headers.specs.lemmas.FieldLemmas.{wide8, wide32}
use Rattle.xef_images.specs.Image.{Image, IsImage}
use Rattle.xef_images.specs.lemmas.ImageLemmas.{Decides-nat_le}
use Rattle.xef_images.specs.Reading.{xef}
use Rattle.xef_images.specs.Spelling.{xef_text}
use Rattle.xef_images.specs.lemmas.XefLemmas.{length-xef_text, xef_again}
use Rattle.loaded_system.specs.Inside.{first_outside}
use Rattle.loaded_system.specs.lemmas.InsideLemmas.{none_if_inside}
use Rattle.loaded_system.specs.System.{System, IsSystem}
use Rattle.file_headers.specs.Fields.{field_bytes, number_at}
use Rattle.file_headers.specs.lemmas.HeadLemmas.{IsSealed, stated_again, stated_version_again, unsealed_again}
use Rattle.file_headers.specs.Heads.{is_version, stated_length}
use Rattle.file_headers.specs.lemmas.HeadsTerms.{lead_text}
use Rattle.xm_container.specs.Box.{sized_text, image_entry_text, entries_text, fields_text, front_text, sealed_text, box_text}
use Rattle.file_headers.specs.lemmas.FieldLemmas.{Reads, bytes_again, number_again, listed_again}
use Rattle.xm_container.specs.Laws.{ContainersArePrefixFree, PackedIsUnpacked, VersionsAreAlike}
use Rattle.xm_container.proofs.NumberLemmas.{numbers}
use Rattle.xm_container.specs.Numbers.{least_where, has_id, extra, missing}
use Rattle.xm_container.specs.Reading.{length_at, conf_at, id_at, image_at, image_entry_at, image_entries_at, image_table_at, container_fields, assigned, version_in, system_in, unpacked, box_faults, box_field, box_short}

-- the number of a version is that of a version of containers
is_container_version : (v : Version) → is_version 2 (version_number v) ≡ true
is_container_version One = refl
is_container_version Two = refl

-- the version that stands there is the one of the bytes before the digest
pub version_in_again : (v : Version) (size : ℕ) (rest : List ℕ) → version_in (lead_text (codes "XMPK") (version_number v) size ++ rest) ≡ Ok v
unfolding version_in
version_in_again v size rest =
    rw (stated_version_again box_faults (codes "XMPK") 2 (version_number v) size rest refl (is_container_version v) (number_small v), numbered_back v) refl

-- what stands before the digest has 16 bytes less than the container
length-front : (v : Version) (fields : List ℕ) → length (front_text v fields) ≡ 10 + length fields
unfolding front_text
length-front v fields = length-append (lead_text (codes "XMPK") (version_number v) (26 + length fields)) fields

-- the length of a container
pub length-sealed : (v : Version) (fields : List ℕ) → length (sealed_text v fields) ≡ 26 + length fields
unfolding sealed_text
length-sealed v fields =
    omega (arith, length-append (front_text v fields) (md5 (front_text v fields)), length-md5 (front_text v fields), length-front v fields)

-- a container states its length, whatever stands after it
sealed_stated : (v : Version) (fields rest : List ℕ) → 26 + length fields < 2 ^ 32 → stated_length box_faults (codes "XMPK") 2 (sealed_text v fields ++ rest) ≡ Ok (26 + length fields)
unfolding sealed_text front_text
sealed_stated v fields rest below =
    let lead = lead_text (codes "XMPK") (version_number v) (26 + length fields) in
    ap (stated_length box_faults (codes "XMPK") 2) (ap (λ x. x ++ rest) (append_assoc lead fields (md5 (front_text v fields))) ∙ append_assoc lead (fields ++ md5 (front_text v fields)) rest)
    ∙ stated_again box_faults (codes "XMPK") 2 (version_number v) (26 + length fields) ((fields ++ md5 (front_text v fields)) ++ rest) refl (is_container_version v) (number_small v) below

-- the same value
same_value : {A F : Type 0} (x y : A) → (let done : Result A F = Ok x in done ≡ Ok y) → x ≡ y
same_value x y e = cc

-- no container is a proper prefix of another
pub none_goes_on : ContainersArePrefixFree
unfolding box_text
none_goes_on v w one other rest below is =
    let a = fields_text v one in
    let b = fields_text w other in
    let long = ap length is ∙ length-append (sealed_text v a) rest in
    let size_a = length-sealed v a in
    let size_b = length-sealed w b in
    let stated_b : stated_length box_faults (codes "XMPK") 2 (sealed_text w b) ≡ Ok (26 + length b) = ap (stated_length box_faults (codes "XMPK") 2) (sym (append-nil (sealed_text w b))) ∙ sealed_stated w b [] (omega (arith, below, size_b)) in
    let stated_a : stated_length box_faults (codes "XMPK") 2 (sealed_text w b) ≡ Ok (26 + length a) = ap (stated_length box_faults (codes "XMPK") 2) is ∙ sealed_stated v a rest (omega (arith, below, size_a, long)) in
    let same : 26 + length b ≡ 26 + length a = same_value (26 + length b) (26 + length a) (sym stated_b ∙ stated_a) in
    nil_from_length rest (omega (arith, same, size_a, size_b, long))

-- bytes after their length are read
sized_again : (place : Place) (bytes rest : List ℕ) → length bytes < 2 ^ 32 → ahead place ≡ sized_text bytes ++ rest
    → (count : Reads (number_at box_short w32 place) (length bytes) (bytes ++ rest)) × Reads (field_bytes box_short (length bytes) count.after) bytes rest
unfolding sized_text
sized_again place bytes rest below stands =
    let a = number_again box_short w32 (2 ^ 32) wide32 place (length bytes) (bytes ++ rest) below (stands ∙ append_assoc (to_be_bytes w32 (length bytes)) bytes rest) in
    (a, bytes_again box_short (length bytes) a.after bytes rest refl a.ahead)

-- a number of one byte is that byte
pub byte_of : (n : ℕ) → n < 256 → to_be_bytes w8 n ≡ n ∷ []
byte_of n below =
    let same : n % 256 ≡ n = omega arith in
    ap (λ b. b ∷ []) same

-- an image that stands there is read
entry_again : (floor id : ℕ) (place : Place) (image : Image) (rest : List ℕ) → floor ≤ id → id < 256 → IsImage image → ahead place ≡ image_entry_text id image ++ rest
    → Reads (image_entry_at floor place) (record { id = id; xef = image }) rest
unfolding image_entry_text image_entry_at id_at image_at
entry_again floor id place image rest above byte is stands =
    let text = xef_text image in
    let short : length text < 2 ^ 32 = omega (arith, length-xef_text image is.most, is.short) in
    let first : ahead place ≡ to_be_bytes w8 id ++ (sized_text text ++ rest) = stands ∙ ap (λ b. b ++ (sized_text text ++ rest)) (sym (byte_of id byte)) in
    let a = listed_again box_short box_field w8 256 wide8 (λ n. nat_le floor n) place id (sized_text text ++ rest) byte ((Decides-nat_le floor id).1 above) first in
    let b = sized_again a.after text rest short a.ahead in
    let loads : xef text ≡ Ok image = xef_again image is in
    record { after = b.1.after; is = rw (a.is, b.0.is, b.1.is, loads) refl; ahead = b.1.ahead }

-- images that stand there are read
entries_again : (id : ℕ) (place : Place) (images : List Image) (rest : List ℕ) → id + length images ≤ 256 → All IsImage images → ahead place ≡ entries_text id images ++ rest
    → Reads (image_entries_at (length images) id place) (record { ids = numbers id (length images); images = images }) rest
unfolding image_entries_at
entries_again id place [] rest few each stands = record { after = place; is = refl; ahead = stands }
entries_again id place (image ∷ images) rest few each stands =
    let first = entry_again id id place image (entries_text (id + 1) images ++ rest) (omega arith) (omega (arith, few)) (All-head IsImage image images each)
    (stands ∙ append_assoc (image_entry_text id image) (entries_text (id + 1) images) rest) in
    let others = entries_again (id + 1) first.after images rest (omega (arith, few)) (All-tail IsImage image images each) first.ahead in
    record { after = others.after; is = rw (first.is, others.is) refl; ahead = others.ahead }

-- where no number passes there is no smallest one
least_none : (test : ℕ → Bool) (from count : ℕ) → ((n : ℕ) → from ≤ n → n < from + count → test n ≡ false) → least_where test from count ≡ None
least_none test from zero fails = refl
least_none test from (suc count) fails =
    let here : test from ≡ false = fails from (omega arith) (omega arith) in
    rw here (least_none test (from + 1) count (λ n least most. fails n (omega (arith, least)) (omega (arith, most))))

-- whether a number is among those from one on
among : (from count n : ℕ) → has_id (numbers from count) n ≡ (nat_le from n && nat_lt n (from + count))
unfolding has_id
among from zero n = grind (arith, nat_tests)
among from (suc count) n =
    let rest = among (from + 1) count n in
    rw rest (either from count n)
  where
    either : (from count n : ℕ) → ((from == n) || (nat_le (from + 1) n && nat_lt n ((from + 1) + count))) ≡ (nat_le from n && nat_lt n (from + suc count))
    either from count n = grind (arith, nat_tests)

-- no number of a partition is extra
no_extra : (parts : ℕ) → extra parts (numbers 0 parts) ≡ None
unfolding extra
no_extra parts = least_none (has_id (numbers 0 parts)) parts (256 - parts) (λ n least most. among 0 parts n ∙ grind (arith, nat_tests))

-- no number of a partition is missing
no_missing : (parts : ℕ) → missing parts (numbers 0 parts) ≡ None
unfolding missing
no_missing parts = least_none (λ n. not (has_id (numbers 0 parts) n)) 0 parts (λ n least most. ap not (among 0 parts n) ∙ grind (arith, nat_tests))

-- images that lie inside make their system
assigned_again : (system : System) → IsSystem system → assigned system.conf (record { ids = numbers 0 (length system.images); images = system.images }) ≡ Ok system
unfolding assigned
assigned_again system is =
    let parts = length system.conf.parts in
    let counted : length system.images ≡ parts = is.counted in
    let none_extra : extra parts (numbers 0 (length system.images)) ≡ None = ap (λ n. extra parts (numbers 0 n)) counted ∙ no_extra parts in
    let none_missing : missing parts (numbers 0 (length system.images)) ≡ None = ap (λ n. missing parts (numbers 0 n)) counted ∙ no_missing parts in
    let none_outside : first_outside system.conf.parts system.images ≡ None = none_if_inside system.conf.parts system.images is.inside in
    rw (none_extra, none_missing, none_outside) refl

-- there are few images
few_images : (system : System) → IsSystem system → length system.images ≤ most_parts
unfolding described
few_images system is = omega (arith, is.counted, is.fits.counts.parts.few)

-- a configuration and images that stand there are read
fields_again : (v : Version) (system : System) (front : List ℕ) → IsSystem system → read_as v (xmc v system.conf) ≡ Ok system.conf → length (xmc v system.conf) < 2 ^ 32
    → drop 10 front ≡ fields_text v system
    → container_fields v front ≡ Ok (system.conf, record { ids = numbers 0 (length system.images); images = system.images })
unfolding container_fields conf_at length_at image_table_at fields_text
fields_again v system front is read short stands =
    let images = system.images in
    let count = length system.images in
    let few = few_images system is in
    let entries = entries_text 0 system.images in
    let c = sized_again (past 10 (cursor_start front)) (xmc v system.conf) (length system.images ∷ entries_text 0 system.images) short stands in
    let n = number_again box_short w8 256 wide8 c.1.after (length system.images) entries (omega (arith, few)) (c.1.ahead ∙ ap (λ b. b ++ entries) (sym (byte_of (length system.images) (omega (arith, few))))) in
    let e = entries_again 0 n.after system.images [] (omega (arith, few)) is.images (n.ahead ∙ sym (append-nil entries)) in
    let none : left e.after ≡ 0 = ap length e.ahead in
    let ended : (left e.after == 0) ≡ true = (Decides-eqb (left e.after) 0).1 none in
    rw (c.0.is, c.1.is, read, n.is, e.is, ended) refl

-- what stands before the digest, after name, version and length
front_fields : (v : Version) (fields : List ℕ) → drop 10 (front_text v fields) ≡ fields
unfolding front_text
front_fields v fields = drop_at (lead_text (codes "XMPK") (version_number v) (26 + length fields)) fields 10 refl

-- the version of what stands before the digest
front_version : (v : Version) (fields : List ℕ) → version_in (front_text v fields) ≡ Ok v
unfolding front_text
front_version v fields = version_in_again v (26 + length fields) fields

-- a container has the digest of what stands before it
sealed_signed : (v : Version) (fields : List ℕ) → 26 + length fields < 2 ^ 32 → IsSealed box_faults (codes "XMPK") 2 (sealed_text v fields) (front_text v fields)
unfolding sealed_text
sealed_signed v fields below = record {
  stated = ap (stated_length box_faults (codes "XMPK") 2) (sym (append-nil (sealed_text v fields))) ∙ sealed_stated v fields [] below ∙ ap (λ n. Ok n) (sym (length-sealed v fields));
  parts = refl;
  count = omega (arith, length-front v fields, length-sealed v fields);
}

-- a system is unpacked from its container
pub packed_unpacked : IsBrokenUnlessFits → PackedIsUnpacked
unfolding unpacked system_in box_text
packed_unpacked law v system is fits ranges below =
    let fields = fields_text v system in
    let small : 26 + length (fields_text v system) < 2 ^ 32 = omega (arith, below, length-sealed v (fields_text v system)) in
    let read : read_as v (xmc v system.conf) ≡ Ok system.conf = spelled_read law (Some v) v system.conf refl ranges fits in
    let short : length (xmc v system.conf) < 2 ^ 32 = xmc_short v system.conf (spelled_if_fits v system.conf ranges fits) in
    let first = unsealed_again box_faults (codes "XMPK") 2 (sealed_text v fields) (front_text v fields) (sealed_signed v fields small) in
    let second = fields_again v system (front_text v fields) is read short (front_fields v fields) in
    rw (first, front_version v fields, second) (assigned_again system is)

-- the length of bytes after their length
length-sized : (bytes : List ℕ) → length (sized_text bytes) ≡ 4 + length bytes
unfolding sized_text
length-sized bytes = length-append (to_be_bytes w32 (length bytes)) bytes

-- the length of the fields
length-fields : (v : Version) (system : System) → length (fields_text v system) ≡ (4 + length (xmc v system.conf)) + length (length system.images ∷ entries_text 0 system.images)
unfolding fields_text
length-fields v system =
    length-append (sized_text (xmc v system.conf)) (length system.images ∷ entries_text 0 system.images)
    ∙ ap (λ n. n + length (length system.images ∷ entries_text 0 system.images)) (length-sized (xmc v system.conf))

-- the length of a container
length-box : (v : Version) (system : System) → length (box_text v system) ≡ 26 + length (fields_text v system)
unfolding box_text
length-box v system = length-sealed v (fields_text v system)

-- a container of version 1 is no longer than that of version 2
one_is_no_longer : (system : System) → length (box_text One system) ≤ length (box_text Two system)
one_is_no_longer system =
    omega (arith, length-box One system, length-box Two system, length-fields One system, length-fields Two system, one_is_short system.conf)

-- a system is unpacked from its container of either version
pub versions_alike : PackedIsUnpacked → VersionsAreAlike
versions_alike law system is fits ranges below =
    law One system is fits ranges (omega (arith, below, one_is_no_longer system))
    ∙ sym (law Two system is (record { fits = is.fits; links = tt }) ranges below)
