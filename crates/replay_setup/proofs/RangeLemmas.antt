-- What is unpacked of bytes is in range.
use Rattle.std.proofs.Common.{◌≡◌, ℕ, zero, suc, ◌<◌, Bool, true, false, List, [], ◌∷◌, take, drop, IfOk, Option, Some, None, Result, Ok, Err, arith, subst}
use Rattle.std.specs.Prelude.{◌^◌, ◌+◌, ◌==◌, codes, if◌then◌else◌, nat_lt, slice_index}
use Rattle.std.specs.Int.{Width, byte_len, from_be_bytes, w8, w32}
use Rattle.std.specs.List.{AllByRecursion}
use Rattle.std.specs.Str.{bytes_eq}
use Rattle.xm_base.specs.Bytes.{AreBytes}
use Rattle.xm_base.specs.Cursor.{Place, ahead, cursor_start, left, next, past}
use Rattle.file_headers.specs.Faults.{HeadFaults}
use Rattle.file_headers.specs.Fields.{field_bytes, listed_at, number_at}
use Rattle.file_headers.specs.Heads.{before_digest, found_digest, stored_digest, unsealed}
use Rattle.file_headers.specs.Steps.{◌>>=◌, unless}
use Rattle.fault_messages.specs.declared.fault.BoxFault.{BoxFault}
use Rattle.fault_messages.specs.declared.fault.BoxFault.TheVariants as fault
use Rattle.fault_messages.specs.declared.fault.XefFault.{XefFault}
use Rattle.fault_messages.specs.declared.fault.XefFault.TheVariants.{Field, Trailing}
use Rattle.xef_images.specs.Image.{Image, Segment}
use Rattle.xef_images.specs.Reading.{address_at, count_at, entry_point_at, image_fields, memory_at, row_at, rows_at, segment_at, segment_table_at, segments_at, size_at, xef, xef_faults, xef_field, xef_short}
use Rattle.xef_images.specs.Tests.{is_entry}
use Rattle.xm_conf.specs.Configuration.{Conf}
use Rattle.bin_config.specs.Reading as bin
use Rattle.bin_config.specs.declared.version.Version.{Version}
use Rattle.loaded_system.specs.System as loaded
use Rattle.loaded_system.specs.Inside.{first_outside}
use Rattle.xm_container.specs.Entries.{Entries}
use Rattle.xm_container.specs.Numbers.{extra, missing}
use Rattle.xm_container.specs.Reading.{as_config, as_image, assigned, box_faults, box_field, box_short, conf_at, container_fields, id_at, image_at, image_entries_at, image_entry_at, image_table_at, length_at, system_in, unless_some, unpacked, version_in}
use Rattle.xm_container.specs.declared.image.Image.{Image as Given}
use Rattle.system_state.specs.State.{with_inputs}
use Rattle.range_model.specs.Ranges.{HasRanges, IsImageInRange}

-- a fact that a step gives of each value, and the next step keeps
pub then_has : {A B F : Type 0} (P : A → Type 0) (Q : B → Type 0) (m : Result A F) (f : A → Result B F) → IfOk m P → ((a : A) → P a → IfOk (f a) Q) → IfOk (m >>= f) Q
then_has P Q (Ok a) f has keeps = keeps a has
then_has P Q (Err fault) f has keeps = tt

-- a fact that the last step gives
pub last_has : {A B F : Type 0} (Q : B → Type 0) (m : Result A F) (f : A → Result B F) → ((a : A) → IfOk (f a) Q) → IfOk (m >>= f) Q
last_has Q (Ok a) f gives = gives a
last_has Q (Err fault) f gives = tt

-- a part of bytes is bytes
take_bytes : (n : ℕ) (xs : List ℕ) → AreBytes xs → AreBytes (take n xs)
take_bytes zero xs each i = omega arith
take_bytes (suc n) [] each i = omega arith
take_bytes (suc n) (x ∷ xs) each zero = each zero
take_bytes (suc n) (x ∷ xs) each (suc i) = take_bytes n xs (λ k. each (suc k)) i

drop_bytes : (n : ℕ) (xs : List ℕ) → AreBytes xs → AreBytes (drop n xs)
drop_bytes zero xs each i = each i
drop_bytes (suc n) [] each i = omega arith
drop_bytes (suc n) (x ∷ xs) each i = drop_bytes n xs (λ k. each (suc k)) i

-- four of them are a word
are_word : (bytes : List ℕ) → AreBytes bytes → from_be_bytes w32 bytes < 2 ^ 32
are_word bytes each =
    let a : slice_index bytes 0 < 256 = each 0 in
    let b : slice_index bytes 1 < 256 = each 1 in
    let c : slice_index bytes 2 < 256 = each 2 in
    let d : slice_index bytes 3 < 256 = each 3 in
    omega (arith, a, b, c, d)

-- a value with a fact, and a place among bytes after it
abbrev Leaves : {T : Type 0} → (T → Type 0) → T × Place → Type 0
Leaves P read = P read.0 × AreBytes read.1.bytes

-- of which nothing is known but its place
abbrev Any : {T : Type 0} → T → Type 0
Any value = Unit {0}

-- the next bytes
field_leaves : {F : Type 0} (short : ℕ → F) (count : ℕ) (place : Place) → AreBytes place.bytes → IfOk (field_bytes short count place) (Leaves AreBytes)
field_leaves {F} short count place each = by (nat_lt (left place) count)
  where
    by : (b : Bool) → IfOk (if b then Err (short place.at) else Ok (next count place, past count place)) (Leaves AreBytes)
    by true = tt
    by false = (take_bytes count (ahead place) (drop_bytes place.at place.bytes each), each)

-- the next number, and the next word
number_leaves : {F : Type 0} (short : ℕ → F) (width : Width) (place : Place) → AreBytes place.bytes → IfOk (number_at short width place) (Leaves Any)
number_leaves {F} short width place each =
    then_has (Leaves AreBytes) (Leaves Any) (field_bytes short (byte_len width) place) _ (field_leaves short (byte_len width) place each) (λ bytes its. (tt, its.1))

word_leaves : {F : Type 0} (short : ℕ → F) (place : Place) → AreBytes place.bytes → IfOk (number_at short w32 place) (Leaves (λ number. number < 2 ^ 32))
word_leaves {F} short place each =
    then_has (Leaves AreBytes) (Leaves (λ number. number < 2 ^ 32)) (field_bytes short (byte_len w32) place) _ (field_leaves short (byte_len w32) place each) (λ bytes its. (are_word bytes.0 its.0, its.1))

unless_leaves : {T F : Type 0} (P : T → Type 0) (test : Bool) (fault : F) (read : T × Place) → Leaves P read → IfOk (unless test fault read) (Leaves P)
unless_leaves {T} {F} P true fault read its = its
unless_leaves {T} {F} P false fault read its = tt

listed_leaves : {F : Type 0} (short field : ℕ → F) (width : Width) (test : ℕ → Bool) (place : Place) → AreBytes place.bytes → IfOk (listed_at short field width test place) (Leaves Any)
listed_leaves {F} short field width test place each =
    then_has (Leaves Any) (Leaves Any) (number_at short width place) _ (number_leaves short width place each) (λ number its. unless_leaves Any (test number.0) (field place.at) number its)

-- the rows of an image
row_leaves : (floor : ℕ) (place : Place) → AreBytes place.bytes → IfOk (row_at floor place) (Leaves Any)
unfolding address_at count_at memory_at row_at
row_leaves floor place each =
    then_has (Leaves Any) (Leaves Any) (address_at floor place) _ (listed_leaves xef_short xef_field w32 _ place each) (λ address one.
    then_has (Leaves Any) (Leaves Any) (memory_at address.0 address.1) _ (listed_leaves xef_short xef_field w32 _ address.1 one.1) (λ memory two.
    then_has (Leaves Any) (Leaves Any) (count_at memory.0 memory.1) _ (listed_leaves xef_short xef_field w32 _ memory.1 two.1) (λ count three. (tt, three.1))))

rows_leave : (count floor : ℕ) (place : Place) → AreBytes place.bytes → IfOk (rows_at count floor place) (Leaves Any)
unfolding rows_at
rows_leave zero floor place each = (tt, each)
rows_leave (suc count) floor place each =
    then_has (Leaves Any) (Leaves Any) (row_at floor place) _ (row_leaves floor place each) (λ row one.
    then_has (Leaves Any) (Leaves Any) (rows_at count (row.0.address + row.0.memory) row.1) _ (rows_leave count (row.0.address + row.0.memory) row.1 one.1) (λ rows two. (tt, two.1)))

-- its segments
abbrev HasBytes : Segment → Type 0
HasBytes segment = AreBytes segment.bytes

abbrev HaveBytes : List Segment → Type 0
HaveBytes segments = AllByRecursion (λ segment. AreBytes segment.bytes) segments

segment_leaves : (row : _) (place : Place) → AreBytes place.bytes → IfOk (segment_at row place) (Leaves HasBytes)
unfolding segment_at
segment_leaves row place each = then_has (Leaves AreBytes) (Leaves HasBytes) (field_bytes xef_short row.count place) _ (field_leaves xef_short row.count place each) (λ bytes its. its)

segments_leave : (rows : List _) (place : Place) → AreBytes place.bytes → IfOk (segments_at rows place) (Leaves HaveBytes)
unfolding segments_at
segments_leave [] place each = (tt, each)
segments_leave (row ∷ rows) place each =
    then_has (Leaves HasBytes) (Leaves HaveBytes) (segment_at row place) _ (segment_leaves row place each) (λ segment one.
    then_has (Leaves HaveBytes) (Leaves HaveBytes) (segments_at rows segment.1) _ (segments_leave rows segment.1 one.1) (λ segments two. ((one.0, two.0), two.1)))

size_leaves : (place : Place) → AreBytes place.bytes → IfOk (size_at place) (Leaves Any)
unfolding size_at
size_leaves place each = listed_leaves xef_short xef_field w8 _ place each

table_leaves : (place : Place) → AreBytes place.bytes → IfOk (segment_table_at place) (Leaves HaveBytes)
unfolding segment_table_at
table_leaves place each =
    then_has (Leaves Any) (Leaves HaveBytes) (size_at place) _ (size_leaves place each) (λ count one.
    then_has (Leaves Any) (Leaves HaveBytes) (rows_at count.0 0 count.1) _ (rows_leave count.0 0 count.1 one.1) (λ rows two. segments_leave rows.0 rows.1 two.1))

entry_leaves : (place : Place) → AreBytes place.bytes → IfOk (entry_point_at place) (Leaves (λ entry. entry < 2 ^ 32))
unfolding entry_point_at
entry_leaves place each = word_leaves xef_short (past 10 place) each

-- an image
unless_has : {T F : Type 0} (P : T → Type 0) (test : Bool) (fault : F) (value : T) → P value → IfOk (unless test fault value) P
unless_has {T} {F} P true fault value its = its
unless_has {T} {F} P false fault value its = tt

fields_in_range : (bytes : List ℕ) → AreBytes bytes → IfOk (image_fields bytes) IsImageInRange
unfolding image_fields
fields_in_range bytes each =
    then_has (Leaves (λ entry. entry < 2 ^ 32)) IsImageInRange (entry_point_at (cursor_start bytes)) _ (entry_leaves (cursor_start bytes) each) (λ entry one.
    then_has (Leaves HaveBytes) IsImageInRange (segment_table_at entry.1) _ (table_leaves entry.1 one.1) (λ segments two.
    last_has IsImageInRange (unless (is_entry entry.0 segments.0) (Field 10) segments.1) _ (λ tested.
    unless_has IsImageInRange (left tested == 0) (Trailing tested.at) (record { entry = entry.0; segments = segments.0 }) (record { entry = one.0; bytes = two.0 }))))

unsealed_bytes : {F : Type 0} (faults : HeadFaults F) (name : List ℕ) (latest : ℕ) (bytes : List ℕ) → AreBytes bytes → IfOk (unsealed faults name latest bytes) AreBytes
unfolding unsealed
unsealed_bytes {F} faults name latest bytes each = last_has AreBytes (before_digest faults name latest bytes) _ (λ count.
    unless_has AreBytes (bytes_eq (stored_digest count bytes) (found_digest count bytes)) (faults.digest (stored_digest count bytes) (found_digest count bytes)) (take count bytes) (take_bytes count bytes each))

image_in_range : (bytes : List ℕ) → AreBytes bytes → IfOk (xef bytes) IsImageInRange
unfolding xef
image_in_range bytes each = then_has AreBytes IsImageInRange (unsealed xef_faults (codes "XMEF") 1 bytes) image_fields (unsealed_bytes xef_faults (codes "XMEF") 1 bytes each) fields_in_range

-- the images of a container
as_image_in_range : (id : ℕ) (r : Result Image XefFault) → IfOk r IsImageInRange → IfOk (as_image id r) IsImageInRange
as_image_in_range id (Ok image) is = is
as_image_in_range id (Err fault) is = tt

abbrev IsGivenInRange : Given → Type 0
IsGivenInRange given = IsImageInRange given.xef

abbrev AreEntriesInRange : Entries → Type 0
AreEntriesInRange entries = AllByRecursion IsImageInRange entries.images

image_leaves : (id : ℕ) (place : Place) → AreBytes place.bytes → IfOk (image_at id place) (Leaves IsImageInRange)
unfolding image_at
image_leaves id place each =
    then_has (Leaves Any) (Leaves IsImageInRange) (number_at box_short w32 place) _ (number_leaves box_short w32 place each) (λ count one.
    then_has (Leaves AreBytes) (Leaves IsImageInRange) (field_bytes box_short count.0 count.1) _ (field_leaves box_short count.0 count.1 one.1) (λ bytes two.
    then_has IsImageInRange (Leaves IsImageInRange) (as_image id (xef bytes.0)) _ (as_image_in_range id (xef bytes.0) (image_in_range bytes.0 two.0)) (λ image is. (is, two.1))))

id_leaves : (floor : ℕ) (place : Place) → AreBytes place.bytes → IfOk (id_at floor place) (Leaves Any)
unfolding id_at
id_leaves floor place each = listed_leaves box_short box_field w8 _ place each

entry_in_range : (floor : ℕ) (place : Place) → AreBytes place.bytes → IfOk (image_entry_at floor place) (Leaves IsGivenInRange)
unfolding image_entry_at
entry_in_range floor place each =
    then_has (Leaves Any) (Leaves IsGivenInRange) (id_at floor place) _ (id_leaves floor place each) (λ id one.
    then_has (Leaves IsImageInRange) (Leaves IsGivenInRange) (image_at id.0 id.1) _ (image_leaves id.0 id.1 one.1) (λ image its. its))

entries_in_range : (count floor : ℕ) (place : Place) → AreBytes place.bytes → IfOk (image_entries_at count floor place) (Leaves AreEntriesInRange)
unfolding image_entries_at
entries_in_range zero floor place each = (tt, each)
entries_in_range (suc count) floor place each =
    then_has (Leaves IsGivenInRange) (Leaves AreEntriesInRange) (image_entry_at floor place) _ (entry_in_range floor place each) (λ entry one.
    then_has (Leaves AreEntriesInRange) (Leaves AreEntriesInRange) (image_entries_at count (entry.0.id + 1) entry.1) _ (entries_in_range count (entry.0.id + 1) entry.1 one.1) (λ later two. ((one.0, two.0), two.1)))

images_in_range : (place : Place) → AreBytes place.bytes → IfOk (image_table_at place) (Leaves AreEntriesInRange)
unfolding image_table_at
images_in_range place each = then_has (Leaves Any) (Leaves AreEntriesInRange) (number_at box_short w8 place) _ (number_leaves box_short w8 place each) (λ count one. entries_in_range count.0 0 count.1 one.1)

-- the configuration before them
conf_leaves : (v : Version) (place : Place) → AreBytes place.bytes → IfOk (conf_at v place) (Leaves Any)
unfolding conf_at length_at
conf_leaves v place each =
    then_has (Leaves Any) (Leaves Any) (length_at place) _ (number_leaves box_short w32 (past 10 place) each) (λ count one.
    then_has (Leaves AreBytes) (Leaves Any) (field_bytes box_short count.0 count.1) _ (field_leaves box_short count.0 count.1 one.1) (λ bytes two.
    last_has (Leaves Any) (as_config (bin.read_as v bytes.0)) _ (λ conf. (tt, two.1))))

abbrev AreFieldsInRange : Conf × Entries → Type 0
AreFieldsInRange fields = AreEntriesInRange fields.1

container_in_range : (v : Version) (bytes : List ℕ) → AreBytes bytes → IfOk (container_fields v bytes) AreFieldsInRange
unfolding container_fields
container_in_range v bytes each =
    then_has (Leaves Any) AreFieldsInRange (conf_at v (cursor_start bytes)) _ (conf_leaves v (cursor_start bytes) each) (λ conf one.
    then_has (Leaves AreEntriesInRange) AreFieldsInRange (image_table_at conf.1) _ (images_in_range conf.1 one.1) (λ entries two. unless_has AreFieldsInRange (left entries.1 == 0) (fault.Trailing entries.1.at) (conf.0, entries.0) two.0))

-- a system
abbrev IsSystemInRange : loaded.System → Type 0
IsSystemInRange system = AllByRecursion IsImageInRange system.images

granted_in_range : {X : Type 0} (refusal : X → BoxFault) (o : Option X) (later : Result loaded.System BoxFault) → IfOk later IsSystemInRange → IfOk (unless_some refusal o later) IsSystemInRange
granted_in_range {X} refusal None later is = is
granted_in_range {X} refusal (Some x) later is = tt

assigned_in_range : (conf : Conf) (entries : Entries) → AreEntriesInRange entries → IfOk (assigned conf entries) IsSystemInRange
unfolding assigned
assigned_in_range conf entries is =
    granted_in_range _ (extra _ entries.ids) _ (granted_in_range _ (missing _ entries.ids) _ (granted_in_range _ (first_outside conf.parts entries.images) _ is))

unpacked_in_range : (bytes : List ℕ) → AreBytes bytes → IfOk (unpacked bytes) IsSystemInRange
unfolding system_in unpacked
unpacked_in_range bytes each =
    then_has AreBytes IsSystemInRange (unsealed box_faults (codes "XMPK") 2 bytes) system_in (unsealed_bytes box_faults (codes "XMPK") 2 bytes each) (λ front its.
    last_has IsSystemInRange (version_in front) _ (λ v.
    then_has AreFieldsInRange IsSystemInRange (container_fields v front) _ (container_in_range v front its) (λ fields is. assigned_in_range fields.0 fields.1 is)))

-- so the system that a container of bytes spells has its images in range, whatever its input words are
pub system_in_range : (bytes : List ℕ) (system : loaded.System) (inputs : List (List ℕ)) → AreBytes bytes → unpacked bytes ≡ Ok system → HasRanges (with_inputs system inputs)
system_in_range bytes system inputs each unpacks = subst (λ (r : Result loaded.System BoxFault). IfOk r IsSystemInRange) unpacks (unpacked_in_range bytes each)
