-- The system that is unpacked is the one whose container the bytes are.
use Rattle.std.proofs.Common.{◌≡◌, ℕ, zero, suc, ◌+◌, ◌^◌, ◌<◌, ◌≤◌, List, [], ◌∷◌, ◌++◌, length, take, drop, Option, None, Some, Result, Ok, Err, refl, sym, ap, subst, ◌∙◌, arith, codes, true}
use Rattle.std.specs.Prelude.{nat_le, ◌==◌, All}
use Rattle.std.specs.Int.{w8, w32, to_be_bytes}
use Rattle.std.proofs.lemmas.Bool.Decides.{Decides-eqb, nat_tests}
use Rattle.std.proofs.lemmas.List.{append-nil, nil_from_length, length-append, length-drop, take_at, take-append-le, take-append-drop}
use Rattle.std.proofs.lemmas.List.Elements.{All-cons, All-nil}
use Rattle.md5.specs.Md5.{md5}
use Rattle.xm_base.specs.Bytes.{AreBytes}
use Rattle.xm_base.specs.Cursor.{Place, ahead, left, past, cursor_start}
use Rattle.xm_conf.specs.Configuration.{Conf}
use Rattle.xm_conf.specs.Description.{described}
use Rattle.xm_conf.specs.Fits.{Fits}
use Rattle.xm_conf.specs.lemmas.FitLemmas.{fits_within}
use Rattle.xm_conf.specs.Limits.{most_parts}
use Rattle.xm_conf.specs.Laws.{IsBrokenUnlessFits}
use Rattle.bin_config.specs.lemmas.RangeLemmas.{parts_few, ranges_if_spelled}
use Rattle.bin_config.specs.Reading.{read_as}
use Rattle.bin_config.specs.Version.{FitsVersion, parts_in_version, version_number, version_numbered}
use Rattle.bin_config.specs.declared.version.Version.{Version}
use Rattle.bin_config.specs.Laws.{IsSpellingOf}
use Rattle.bin_config.specs.Spelled.{HasConfRanges}
use Rattle.bin_config.specs.Xmc.{xmc}
use Rattle.bin_config.specs.lemmas.XmcLemmas.{read_spelled, numbered_there}
use Rattle.fault_messages.specs.declared.fault.XmcFault.{XmcFault}
use Rattle.file_headers.specs.lemmas.FieldLemmas.{AreBytes-drop, AreBytes-take, Takes, takes_both, wide8, wide32}
use Rattle.xef_images.specs.Image.{Image, IsImage}
use Rattle.xef_images.specs.lemmas.ImageLemmas.{Decides-nat_le}
use Rattle.xef_images.specs.Reading.{xef}
use Rattle.xef_images.specs.Spelling.{xef_text}
use Rattle.file_headers.specs.lemmas.StepLemmas.{stepped, ok_is, passed}
use Rattle.file_headers.specs.Steps.{◌>>=◌, unless}
use Rattle.xef_images.specs.lemmas.XefLemmas.{xef_takes}
use Rattle.fault_messages.specs.declared.fault.XefFault.{XefFault}
use Rattle.loaded_system.specs.Inside.{first_outside}
use Rattle.loaded_system.specs.lemmas.InsideLemmas.{inside_if_none}
use Rattle.loaded_system.specs.System.{System, IsSystem}
use Rattle.file_headers.specs.Fields.{field_bytes, listed_at, number_at}
use Rattle.file_headers.specs.lemmas.HeadLemmas.{stated_takes, stated_version_again, unsealed_takes}
use Rattle.file_headers.specs.Heads.{is_version, stated_version, unsealed}
use Rattle.file_headers.specs.lemmas.HeadsTerms.{lead_text}
use Rattle.xm_container.specs.Box.{sized_text, image_entry_text, entries_text, fields_text, front_text, sealed_text, box_text}
use Rattle.xm_container.proofs.BoxLemmas.{byte_of}
use Rattle.xm_container.specs.Entries.{Entries}
use Rattle.xm_container.specs.lemmas.EntriesTerms.{RiseFrom}
use Rattle.file_headers.specs.lemmas.FieldLemmas.{bytes_take, number_takes, listed_takes}
use Rattle.xm_container.specs.Laws.{UnpackedIsPacked}
use Rattle.xm_container.proofs.NumberLemmas.{numbers, all_below, all_counted, all_numbers}
use Rattle.xm_container.specs.Numbers.{extra, missing}
use Rattle.xm_container.specs.Reading.{as_config, as_image, length_at, conf_at, id_at, image_at, image_entry_at, with_entry, image_entries_at, image_table_at, container_fields, unless_some, assigned, version_in, system_in, unpacked, box_faults, box_field, box_short, or_container_version}
use Rattle.xm_container.specs.declared.image.Image.{Image as Given}
use Rattle.fault_messages.specs.declared.fault.BoxFault.{BoxFault}
use Rattle.fault_messages.specs.declared.fault.BoxFault.TheVariants as fault

-- the bytes of a prefix are bytes
bytes_front : (xs ys : List ℕ) → AreBytes (xs ++ ys) → AreBytes xs
bytes_front xs ys all = subst (λ (x : List ℕ). AreBytes x) (take_at xs ys (length xs) refl) (AreBytes-take (length xs) (xs ++ ys) all)

-- bytes after their length that are read stand there
sized_takes : (place : Place) (count : ℕ × Place) (bytes : List ℕ × Place) → AreBytes (ahead place) → number_at box_short w32 place ≡ Ok count → field_bytes box_short count.0 count.1 ≡ Ok bytes
    → Takes place (sized_text bytes.0) bytes.1 × AreBytes bytes.0
unfolding sized_text
sized_takes place count bytes each first second =
    let a = number_takes box_short w32 (2 ^ 32) wide32 place count.0 count.1 each first in
    let b = bytes_take box_short count.0 count.1 bytes.0 bytes.1 a.0.rest second in
    let both = takes_both place (to_be_bytes w32 count.0) count.1 bytes.0 bytes.1 a.0 b.0 in (
      subst (λ (n : ℕ). Takes place (to_be_bytes w32 n ++ bytes.0) bytes.1) (sym b.1) both,
      bytes_front bytes.0 (ahead bytes.1) (subst (λ (x : List ℕ). AreBytes x) b.0.parts a.0.rest),
    )

-- a configuration that was read
config_read : (read : Result Conf XmcFault) (conf : Conf) → as_config read ≡ Ok conf → read ≡ Ok conf
config_read (Ok c) conf e = ap (λ x. Ok x) (ok_is c conf e)
config_read (Err reported) conf e = absurd cc

-- an image that was read
image_read : (id : ℕ) (read : Result Image XefFault) (image : Image) → as_image id read ≡ Ok image → read ≡ Ok image
image_read id (Ok i) image e = ap (λ x. Ok x) (ok_is i image e)
image_read id (Err reported) image e = absurd cc

-- a configuration that is read stands there
conf_takes : IsBrokenUnlessFits → (v : Version) (place : Place) (conf : Conf) (after : Place) → AreBytes (ahead (past 10 place)) → conf_at v place ≡ Ok (conf, after)
    → Takes (past 10 place) (sized_text (xmc v conf)) after × FitsVersion v conf × HasConfRanges conf
unfolding conf_at length_at
conf_takes law v place conf after each e =
    let a = stepped (number_at box_short w32 (past 10 place)) (λ count. field_bytes box_short count.0 count.1 >>= λ bytes. as_config (read_as v bytes.0) >>= λ conf. Ok (conf, bytes.1)) (conf, after) e in
    let b = stepped (field_bytes box_short a.value.0 a.value.1) (λ bytes. as_config (read_as v bytes.0) >>= λ conf. Ok (conf, bytes.1)) (conf, after) a.led in
    let c = stepped (as_config (read_as v b.value.0)) (λ conf. Ok (conf, b.value.1)) (conf, after) b.led in
    let t = sized_takes (past 10 place) a.value b.value each a.is b.is in
    let was = read_spelled law (Some v) b.value.0 c.value t.1 (config_read (read_as v b.value.0) c.value c.is) in
    let is : IsSpellingOf v b.value.0 c.value = subst (λ (w : Version). IsSpellingOf w b.value.0 c.value) (sym was.1) was.2 in
    let made : Conf × Place = (c.value, b.value.1) in
    let P : Conf × Place → Type 0 = λ x. Takes (past 10 place) (sized_text (xmc v x.0)) x.1 × FitsVersion v x.0 × HasConfRanges x.0 in
    subst P {x = made} (ok_is made (conf, after) c.led)
    (subst (λ (text : List ℕ). Takes (past 10 place) (sized_text text) b.value.1) is.text t.0, is.fits, ranges_if_spelled v c.value is.spelled)

-- an image that is read
record IsTaken (floor : ℕ) (place : Place) (entry : Given) (after : Place) : Type 0 where
  stands : Takes place (image_entry_text entry.id entry.xef) after
  loads : IsImage entry.xef
  byte : entry.id < 256
  above : floor ≤ entry.id

-- an image that is read stands there
entry_takes : (floor : ℕ) (place : Place) (entry : Given) (after : Place) → AreBytes (ahead place) → image_entry_at floor place ≡ Ok (entry, after) → IsTaken floor place entry after
unfolding image_entry_at id_at image_at image_entry_text
entry_takes floor place entry after each e =
    let a = stepped (listed_at box_short box_field w8 (λ id. nat_le floor id) place) (λ id. (number_at box_short w32 id.1 >>= λ count. field_bytes box_short count.0 count.1 >>= λ bytes. as_image id.0 (xef bytes.0) >>= λ image. Ok (image, bytes.1)) >>= λ image. Ok (record { id = id.0; xef = image.0 }, image.1)) (entry, after) e in
    let b = stepped (number_at box_short w32 a.value.1 >>= λ count. field_bytes box_short count.0 count.1 >>= λ bytes. as_image a.value.0 (xef bytes.0) >>= λ image. Ok (image, bytes.1)) (λ image. Ok (record { id = a.value.0; xef = image.0 }, image.1)) (entry, after) a.led in
    let c = stepped (number_at box_short w32 a.value.1) (λ count. field_bytes box_short count.0 count.1 >>= λ bytes. as_image a.value.0 (xef bytes.0) >>= λ image. Ok (image, bytes.1)) b.value b.is in
    let d = stepped (field_bytes box_short c.value.0 c.value.1) (λ bytes. as_image a.value.0 (xef bytes.0) >>= λ image. Ok (image, bytes.1)) b.value c.led in
    let f = stepped (as_image a.value.0 (xef d.value.0)) (λ image. Ok (image, d.value.1)) b.value d.led in
    let l = listed_takes box_short box_field w8 256 wide8 (λ id. nat_le floor id) place a.value.0 a.value.1 each a.is in
    let t = sized_takes a.value.1 c.value d.value l.0.rest c.is d.is in
    let is = xef_takes d.value.0 f.value t.1 (image_read a.value.0 (xef d.value.0) f.value f.is) in
    let own : Takes a.value.1 (sized_text (xef_text f.value)) d.value.1 = subst (λ (text : List ℕ). Takes a.value.1 (sized_text text) d.value.1) is.text t.0 in
    let whole = takes_both place (to_be_bytes w8 a.value.0) a.value.1 (sized_text (xef_text f.value)) d.value.1 l.0 own in
    let line : Takes place (a.value.0 ∷ sized_text (xef_text f.value)) d.value.1
    = subst (λ (b : List ℕ). Takes place (b ++ sized_text (xef_text f.value)) d.value.1) (byte_of a.value.0 l.1) whole in
    let image : Image × Place = (f.value, d.value.1) in
    let P : Image × Place → Type 0 = λ x. Takes place (a.value.0 ∷ sized_text (xef_text x.0)) x.1 × IsImage x.0 in
    let at_image = subst P {x = image} (ok_is image b.value f.led) (line, is.loads) in
    let made : Given × Place = (record { id = a.value.0; xef = b.value.0 }, b.value.1) in
    let Q : Given × Place → Type 0 = λ x. IsTaken floor place x.0 x.1 in
    subst Q {x = made} (ok_is made (entry, after) b.led)
    (record { stands = at_image.0; loads = at_image.1; byte = l.1; above = (Decides-nat_le floor a.value.0).0 l.2 })

-- images after their numbers
abbrev given_text : List ℕ → List Image → List ℕ
given_text [] images = []
given_text (id ∷ ids) [] = []
given_text (id ∷ ids) (image ∷ images) = image_entry_text id image ++ given_text ids images

-- images that are read
record AreTaken (count floor : ℕ) (place : Place) (entries : Entries) (after : Place) : Type 0 where
  stands : Takes place (given_text entries.ids entries.images) after
  ids : length entries.ids ≡ count
  images : length entries.images ≡ count
  load : All IsImage entries.images
  rise : RiseFrom floor entries.ids
  bytes : AreBytes entries.ids

-- no byte is a byte
bytes_nil : AreBytes []
bytes_nil zero = omega arith
bytes_nil (suc i) = omega arith

-- one more byte
bytes_cons : (x : ℕ) (xs : List ℕ) → x < 256 → AreBytes xs → AreBytes (x ∷ xs)
bytes_cons x xs byte each zero = byte
bytes_cons x xs byte each (suc i) = each i

-- images that are read stand there
entries_take : (count floor : ℕ) (place : Place) (entries : Entries) (after : Place) → AreBytes (ahead place) → image_entries_at count floor place ≡ Ok (entries, after)
    → AreTaken count floor place entries after
unfolding image_entries_at
entries_take zero floor place entries after each e =
    let none : Entries × Place = (record { ids = []; images = [] }, place) in
    let P : Entries × Place → Type 0 = λ x. AreTaken 0 floor place x.0 x.1 in
    subst P {x = none} (ok_is none (entries, after) e)
    (record { stands = record { parts = refl; rest = each }; ids = refl; images = refl; load = All-nil IsImage; rise = tt; bytes = bytes_nil })
entries_take (suc count) floor place entries after each e =
    let a = stepped (image_entry_at floor place) (λ entry. image_entries_at count (entry.0.id + 1) entry.1 >>= λ later. Ok (with_entry entry.0 later.0, later.1)) (entries, after) e in
    let b = stepped (image_entries_at count (a.value.0.id + 1) a.value.1) (λ later. Ok (with_entry a.value.0 later.0, later.1)) (entries, after) a.led in
    let first = entry_takes floor place a.value.0 a.value.1 each a.is in
    let rest = entries_take count (a.value.0.id + 1) a.value.1 b.value.0 b.value.1 first.stands.rest b.is in
    let made : Entries × Place = (with_entry a.value.0 b.value.0, b.value.1) in
    let P : Entries × Place → Type 0 = λ x. AreTaken (suc count) floor place x.0 x.1 in
    subst P {x = made} (ok_is made (entries, after) b.led)
    (record {
      stands = takes_both place (image_entry_text a.value.0.id a.value.0.xef) a.value.1 (given_text b.value.0.ids b.value.0.images) b.value.1 first.stands rest.stands;
      ids = ap suc rest.ids;
      images = ap suc rest.images;
      load = All-cons IsImage a.value.0.xef b.value.0.images first.loads rest.load;
      rise = (first.above, rest.rise);
      bytes = bytes_cons a.value.0.id b.value.0.ids first.byte rest.bytes;
    })

-- the fields, as they are read
abbrev given_fields : Version → Conf → Entries → List ℕ
given_fields v conf entries = sized_text (xmc v conf) ++ length entries.ids ∷ given_text entries.ids entries.images

-- a configuration and images that are read
record AreFields (v : Version) (front : List ℕ) (conf : Conf) (entries : Entries) : Type 0 where
  parts : drop 10 front ≡ given_fields v conf entries
  long : 10 ≤ length front
  fits : FitsVersion v conf
  ranges : HasConfRanges conf
  images : length entries.images ≡ length entries.ids
  load : All IsImage entries.images
  rise : RiseFrom 0 entries.ids
  bytes : AreBytes entries.ids

-- a configuration and images that are read stand there
fields_take : IsBrokenUnlessFits → (v : Version) (front : List ℕ) (conf : Conf) (entries : Entries) → AreBytes front → container_fields v front ≡ Ok (conf, entries) → AreFields v front conf entries
unfolding container_fields image_table_at
fields_take law v front conf entries each e =
    let a = stepped (conf_at v (cursor_start front)) (λ conf. (number_at box_short w8 conf.1 >>= λ count. image_entries_at count.0 0 count.1) >>= λ entries. unless (left entries.1 == 0) (fault.Trailing entries.1.at) (conf.0, entries.0)) (conf, entries) e in
    let b = stepped (number_at box_short w8 a.value.1 >>= λ count. image_entries_at count.0 0 count.1) (λ entries. unless (left entries.1 == 0) (fault.Trailing entries.1.at) (a.value.0, entries.0)) (conf, entries) a.led in
    let c = stepped (number_at box_short w8 a.value.1) (λ count. image_entries_at count.0 0 count.1) b.value b.is in
    let made : Conf × Entries = (a.value.0, b.value.0) in
    let p = passed (left b.value.1 == 0) (fault.Trailing b.value.1.at) made (conf, entries) b.led in
    let first = conf_takes law v (cursor_start front) a.value.0 a.value.1 (AreBytes-drop 10 front each) a.is in
    let n = number_takes box_short w8 256 wide8 a.value.1 c.value.0 c.value.1 first.0.rest c.is in
    let t = entries_take c.value.0 0 c.value.1 b.value.0 b.value.1 n.0.rest c.led in
    let ended : ahead b.value.1 ≡ [] = nil_from_length (ahead b.value.1) ((Decides-eqb (left b.value.1) 0).0 p.true) in
    let text = given_text b.value.0.ids b.value.0.images in
    let following : ahead a.value.1 ≡ length b.value.0.ids ∷ text
    = n.0.parts
    ∙ ap (λ byte. byte ++ ahead c.value.1) (byte_of c.value.0 n.1 ∙ ap (λ k. k ∷ []) (sym t.ids))
    ∙ ap (λ rest. length b.value.0.ids ∷ rest) (t.stands.parts ∙ ap (λ rest. text ++ rest) ended ∙ append-nil text) in
    let parts : drop 10 front ≡ given_fields v a.value.0 b.value.0 = first.0.parts ∙ ap (λ rest. sized_text (xmc v a.value.0) ++ rest) following in
    let some : length (ahead a.value.1) ≡ suc (length text) = ap length following in
    let P : Conf × Entries → Type 0 = λ x. AreFields v front x.0 x.1 in
    subst P {x = made} p.is
    (record {
      parts = parts;
      long = omega (arith, some, ap length first.0.parts, length-append (sized_text (xmc v a.value.0)) (ahead a.value.1), length-drop 10 front);
      fits = first.1;
      ranges = first.2;
      images = t.images ∙ sym t.ids;
      load = t.load;
      rise = t.rise;
      bytes = t.bytes;
    })

-- what was not refused
record Took {X : Type 0} (found : Option X) (later : Result System BoxFault) (system : System) : Type 0 where
  none : found ≡ None
  led : later ≡ Ok system

-- what was not refused found nothing
took : {X : Type 0} (refusal : X → BoxFault) (found : Option X) (later : Result System BoxFault) (system : System) → unless_some refusal found later ≡ Ok system → Took found later system
took refusal None later system e = record { none = refl; led = e }
took refusal (Some x) later system e = absurd cc

-- images after the numbers of all partitions
given_numbers : (images : List Image) (id : ℕ) → given_text (numbers id (length images)) images ≡ entries_text id images
given_numbers [] id = refl
given_numbers (image ∷ images) id = ap (λ rest. image_entry_text id image ++ rest) (given_numbers images (id + 1))

-- fields that are those of a system, which can be loaded
record AreOf (v : Version) (front : List ℕ) (system : System) : Type 0 where
  stands : drop 10 front ≡ fields_text v system
  loads : IsSystem system
  fits : FitsVersion v system.conf
  ranges : HasConfRanges system.conf

-- fields whose images make a system are that system's
fields_are : (v : Version) (front : List ℕ) (conf : Conf) (entries : Entries) (system : System) → AreFields v front conf entries → assigned conf entries ≡ Ok system → AreOf v front system
unfolding assigned fields_text described
fields_are v front conf entries system is e =
    let made : System = record { conf = conf; images = entries.images } in
    let x = took (λ id. fault.Extra id) (extra (length conf.parts) entries.ids) _ system e in
    let m = took (λ id. fault.Missing id) (missing (length conf.parts) entries.ids) _ system x.led in
    let o = took (λ outside. fault.Outside outside.id outside.address) (first_outside conf.parts entries.images) (Ok made) system m.led in
    let fits : Fits (described conf) = fits_within (parts_in_version v) (described conf) (parts_few v) is.fits.fits in
    let few : length conf.parts ≤ most_parts = fits.counts.parts.few in
    let below : All (λ id. id < length conf.parts) entries.ids = all_below (length conf.parts) entries.ids (omega (arith, few)) is.bytes x.none in
    let counted : entries.ids ≡ numbers 0 (length entries.ids) = all_numbers (length conf.parts) entries.ids is.rise below m.none in
    let own : entries.ids ≡ numbers 0 (length entries.images) = counted ∙ ap (numbers 0) (sym is.images) in
    let texts : given_text entries.ids entries.images ≡ entries_text 0 entries.images = ap (λ ids. given_text ids entries.images) own ∙ given_numbers entries.images 0 in
    subst (λ (s : System). AreOf v front s) {x = made} (ok_is made system o.led)
    (record {
      stands =
          is.parts
          ∙ ap (λ text. sized_text (xmc v conf) ++ length entries.ids ∷ text) texts
          ∙ ap (λ n. sized_text (xmc v conf) ++ n ∷ entries_text 0 entries.images) (sym is.images);
      loads = record {
        fits = fits;
        images = is.load;
        counted = is.images ∙ all_counted (length conf.parts) entries.ids is.rise below m.none;
        inside = inside_if_none conf.parts entries.images o.none;
      };
      fits = is.fits;
      ranges = is.ranges;
    })

-- a version that was found
had_version : (n : ℕ) (found : Option Version) (v : Version) → or_container_version n found ≡ Ok v → found ≡ Some v
had_version n (Some w) v e = ap (λ x. Some x) (ok_is w v e)
had_version n None v e = absurd cc

-- the number of a version is a small one
known_small : (n : ℕ) → is_version 2 n ≡ true → n < 2 ^ 16
known_small n known = grind (arith, nat_tests, known)

-- the version of what stands before the digest is the one that its head says
version_in_takes : (version size : ℕ) (rest front : List ℕ) (v : Version) → is_version 2 version ≡ true → front ≡ lead_text (codes "XMPK") version size ++ rest → version_in front ≡ Ok v → version ≡ version_number v
unfolding version_in
version_in_takes version size rest front v known is e =
    let s = stepped (stated_version box_faults (codes "XMPK") 2 front) (λ number. or_container_version number (version_numbered number)) v e in
    let again : stated_version box_faults (codes "XMPK") 2 front ≡ Ok version = ap (stated_version box_faults (codes "XMPK") 2) is ∙ stated_version_again box_faults (codes "XMPK") 2 version size rest refl known (known_small version known) in
    ok_is version s.value (sym again ∙ s.is) ∙ numbered_there s.value v (had_version s.value (version_numbered s.value) v s.led)

-- the system that is unpacked is the one whose container the bytes are
pub unpacked_packed : IsBrokenUnlessFits → UnpackedIsPacked
unfolding unpacked system_in box_text sealed_text front_text
unpacked_packed law bytes system each e =
    let s = stepped (unsealed box_faults (codes "XMPK") 2 bytes) system_in system e in
    let n = stepped (version_in s.value) (λ version. container_fields version s.value >>= λ fields. assigned fields.0 fields.1) system s.led in
    let v : Version = n.value in
    let f = stepped (container_fields v s.value) (λ fields. assigned fields.0 fields.1) system n.led in
    let is = unsealed_takes box_faults (codes "XMPK") 2 bytes s.value s.is in
    let front_each : AreBytes s.value = bytes_front s.value (md5 s.value) (subst (λ (x : List ℕ). AreBytes x) is.parts each) in
    let read = fields_take law v s.value f.value.0 f.value.1 front_each f.is in
    let own = fields_are v s.value f.value.0 f.value.1 system read f.led in
    let head = stated_takes box_faults (codes "XMPK") 2 bytes (length bytes) refl each is.stated in
    let first : take 10 bytes ≡ lead_text (codes "XMPK") head.version (length bytes) = ap (take 10) head.parts ∙ take_at (lead_text (codes "XMPK") head.version (length bytes)) (drop 10 bytes) 10 refl in
    let same : take 10 bytes ≡ take 10 s.value = ap (take 10) is.parts ∙ take-append-le 10 s.value (md5 s.value) read.long in
    let front_is : s.value ≡ lead_text (codes "XMPK") head.version (length bytes) ++ drop 10 s.value = sym (take-append-drop 10 s.value) ∙ ap (λ x. x ++ drop 10 s.value) (sym same ∙ first) in
    let one : head.version ≡ version_number v = version_in_takes head.version (length bytes) (drop 10 s.value) s.value v head.known front_is n.is in
    let parts : s.value ≡ lead_text (codes "XMPK") (version_number v) (length bytes) ++ fields_text v system
    = front_is ∙ ap (λ w. lead_text (codes "XMPK") w (length bytes) ++ drop 10 s.value) one ∙ ap (λ x. lead_text (codes "XMPK") (version_number v) (length bytes) ++ x) own.stands in
    let ten : length (lead_text (codes "XMPK") (version_number v) (length bytes)) ≡ 10 = refl in
    let sized : length bytes ≡ 26 + length (fields_text v system) = omega (arith, is.count, ap length parts, length-append (lead_text (codes "XMPK") (version_number v) (length bytes)) (fields_text v system), ten) in
    let whole : s.value ≡ lead_text (codes "XMPK") (version_number v) (26 + length (fields_text v system)) ++ fields_text v system = parts ∙ ap (λ n. lead_text (codes "XMPK") (version_number v) n ++ fields_text v system) sized in
    (v, record { loads = own.loads; fits = own.fits; ranges = own.ranges; short = head.short; text = is.parts ∙ ap (λ x. x ++ md5 x) whole })
