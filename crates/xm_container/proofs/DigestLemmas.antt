-- Two digests are reported exactly where they differ.
use Rattle.std.proofs.Common.{◌≡◌, ℕ, zero, suc, List, length, codes, Option, None, Some, Result, Ok, Err, subst}
use Rattle.std.specs.Prelude.{nat_le, ◌==◌, ◌+◌}
use Rattle.std.specs.Int.{w8, w32}
use Rattle.xm_base.specs.Cursor.{Place, left, past, cursor_start}
use Rattle.xm_conf.specs.Configuration.{Conf}
use Rattle.bin_config.specs.Reading.{read_as}
use Rattle.fault_messages.specs.declared.fault.XmcFault.{XmcFault}
use Rattle.fault_messages.specs.declared.fault.XmcFault.TheVariants as xmc
use Rattle.bin_config.specs.Version.{version_numbered}
use Rattle.bin_config.specs.declared.version.Version.{Version}
use Rattle.xef_images.specs.Image.{Image}
use Rattle.xef_images.specs.Reading.{xef}
use Rattle.fault_messages.specs.declared.fault.XefFault.{XefFault}
use Rattle.fault_messages.specs.declared.fault.XefFault.TheVariants as xef_fault
use Rattle.loaded_system.specs.Inside.{first_outside}
use Rattle.loaded_system.specs.System.{System}
use Rattle.file_headers.specs.Fields.{number_at, field_bytes}
use Rattle.file_headers.specs.Gives.{Gives}
use Rattle.file_headers.specs.Heads.{ReportsDigests, unsealed, stated_version}
use Rattle.file_headers.specs.Steps.{unless, ◌>>=◌}
use Rattle.file_headers.specs.lemmas.DigestLemmas.{IsPlain, fields_report, plain_bytes, plain_cond, plain_fault, plain_number, plain_then, value_is_none, plain_stated_version}
use Rattle.file_headers.specs.lemmas.FaultsTerms.{AreApart}
use Rattle.xm_container.specs.Entries.{Entries}
use Rattle.xm_container.specs.Gives.{Fails}
use Rattle.xm_container.specs.Numbers.{extra, missing}
use Rattle.xm_container.specs.Reading.{as_config, as_image, length_at, conf_at, id_at, image_at, image_entry_at, with_entry, image_entries_at, image_table_at, container_fields, unless_some, assigned, system_in, box_faults, box_field, box_short, or_container_version, version_in}
use Rattle.fault_messages.specs.declared.fault.BoxFault.{BoxFault}
use Rattle.fault_messages.specs.declared.fault.BoxFault.TheVariants as fault

-- no other fault is one of digests
pub apart : AreApart box_faults
apart = record {
  magic = λ s f e. absurd cc;
  version = λ found s f e. absurd cc;
  short = λ at s f e. absurd cc;
  trailing = λ at s f e. absurd cc;
  stored = λ s f s' f' e. cc;
  found = λ s f s' f' e. cc;
}

-- a fault with another type of value
abbrev fault_of : {A : Type 0} → BoxFault → Result A BoxFault
fault_of box = Err box

-- a refusal that reports no digests, where there is one
plain_some : {X A : Type 0} (refusal : X → BoxFault) (there : Option X) (later : Result A BoxFault) → ((x : X) → IsPlain box_faults (fault_of {A = A} (refusal x))) → IsPlain box_faults later → IsPlain box_faults (unless_some refusal there later)
plain_some refusal None later first second = second
plain_some refusal (Some x) later first second = first x

-- the faults of a configuration are reported as its own
plain_config : (read : Result Conf XmcFault) → IsPlain box_faults (as_config read)
plain_config (Ok conf) = value_is_none box_faults conf
plain_config (Err xmc.Magic) = plain_fault box_faults _ (λ s f e. absurd cc)
plain_config (Err (xmc.Version found)) = plain_fault box_faults _ (λ s f e. absurd cc)
plain_config (Err (xmc.Short at)) = plain_fault box_faults _ (λ s f e. absurd cc)
plain_config (Err (xmc.Trailing at)) = plain_fault box_faults _ (λ s f e. absurd cc)
plain_config (Err (xmc.Field at)) = plain_fault box_faults _ (λ s f e. absurd cc)
plain_config (Err (xmc.NotFit rule)) = plain_fault box_faults _ (λ s f e. absurd cc)
plain_config (Err xmc.Memory) = plain_fault box_faults _ (λ s f e. absurd cc)

-- the faults of an image are reported as its own
plain_xef : (id : ℕ) (read : Result Image XefFault) → IsPlain box_faults (as_image id read)
plain_xef id (Ok image) = value_is_none box_faults image
plain_xef id (Err xef_fault.Magic) = plain_fault box_faults _ (λ s f e. absurd cc)
plain_xef id (Err (xef_fault.Version found)) = plain_fault box_faults _ (λ s f e. absurd cc)
plain_xef id (Err (xef_fault.Short at)) = plain_fault box_faults _ (λ s f e. absurd cc)
plain_xef id (Err (xef_fault.Trailing at)) = plain_fault box_faults _ (λ s f e. absurd cc)
plain_xef id (Err (xef_fault.Digest stored found)) = plain_fault box_faults _ (λ s f e. absurd cc)
plain_xef id (Err (xef_fault.Field at)) = plain_fault box_faults _ (λ s f e. absurd cc)
plain_xef id (Err xef_fault.Memory) = plain_fault box_faults _ (λ s f e. absurd cc)

plain_conf : (v : Version) (place : Place) → IsPlain box_faults (conf_at v place)
unfolding conf_at length_at
plain_conf v place =
    plain_then box_faults (number_at box_short w32 (past 10 place)) (λ count. field_bytes box_short count.0 count.1 >>= λ bytes. as_config (read_as v bytes.0) >>= λ conf. Ok (conf, bytes.1)) (plain_number box_faults apart w32 (past 10 place))
    (λ count. plain_then box_faults (field_bytes box_short count.0 count.1) (λ bytes. as_config (read_as v bytes.0) >>= λ conf. Ok (conf, bytes.1)) (plain_bytes box_faults apart count.0 count.1)
    (λ bytes. plain_then box_faults (as_config (read_as v bytes.0)) (λ conf. Ok (conf, bytes.1)) (plain_config (read_as v bytes.0)) (λ conf. value_is_none box_faults (conf, bytes.1))))

plain_id : (floor : ℕ) (place : Place) → IsPlain box_faults (id_at floor place)
unfolding id_at
plain_id floor place =
    plain_then box_faults (number_at box_short w8 place) (λ field. unless (nat_le floor field.0) (box_field place.at) field) (plain_number box_faults apart w8 place)
    (λ field. plain_cond box_faults (nat_le floor field.0) (Ok field) (Err (box_field place.at)) (value_is_none box_faults field) (plain_fault box_faults _ (λ s f e. absurd cc)))

plain_image : (id : ℕ) (place : Place) → IsPlain box_faults (image_at id place)
unfolding image_at
plain_image id place =
    plain_then box_faults (number_at box_short w32 place) (λ count. field_bytes box_short count.0 count.1 >>= λ bytes. as_image id (xef bytes.0) >>= λ image. Ok (image, bytes.1)) (plain_number box_faults apart w32 place)
    (λ count. plain_then box_faults (field_bytes box_short count.0 count.1) (λ bytes. as_image id (xef bytes.0) >>= λ image. Ok (image, bytes.1)) (plain_bytes box_faults apart count.0 count.1)
    (λ bytes. plain_then box_faults (as_image id (xef bytes.0)) (λ image. Ok (image, bytes.1)) (plain_xef id (xef bytes.0)) (λ image. value_is_none box_faults (image, bytes.1))))

plain_entries : (count floor : ℕ) (place : Place) → IsPlain box_faults (image_entries_at count floor place)
unfolding image_entries_at image_entry_at
plain_entries zero floor place = value_is_none box_faults _
plain_entries (suc count) floor place =
    plain_then box_faults (image_entry_at floor place) (λ entry. image_entries_at count (entry.0.id + 1) entry.1 >>= λ later. Ok (with_entry entry.0 later.0, later.1))
    (plain_then box_faults (id_at floor place) (λ id. image_at id.0 id.1 >>= λ image. Ok (record { id = id.0; xef = image.0 }, image.1)) (plain_id floor place)
    (λ id. plain_then box_faults (image_at id.0 id.1) (λ image. Ok (record { id = id.0; xef = image.0 }, image.1)) (plain_image id.0 id.1) (λ image. value_is_none box_faults _)))
    (λ entry. plain_then box_faults (image_entries_at count (entry.0.id + 1) entry.1) (λ later. Ok (with_entry entry.0 later.0, later.1)) (plain_entries count (entry.0.id + 1) entry.1)
    (λ later. value_is_none box_faults (with_entry entry.0 later.0, later.1)))

plain_fields : (v : Version) (bytes : List ℕ) → IsPlain box_faults (container_fields v bytes)
unfolding container_fields image_table_at
plain_fields v bytes =
    plain_then box_faults (conf_at v (cursor_start bytes)) (λ conf. image_table_at conf.1 >>= λ entries. unless (left entries.1 == 0) (fault.Trailing entries.1.at) (conf.0, entries.0)) (plain_conf v (cursor_start bytes))
    (λ conf. plain_then box_faults (image_table_at conf.1) (λ entries. unless (left entries.1 == 0) (fault.Trailing entries.1.at) (conf.0, entries.0))
    (plain_then box_faults (number_at box_short w8 conf.1) (λ count. image_entries_at count.0 0 count.1) (plain_number box_faults apart w8 conf.1) (λ count. plain_entries count.0 0 count.1))
    (λ entries. plain_cond box_faults (left entries.1 == 0) (Ok (conf.0, entries.0)) (Err (fault.Trailing entries.1.at)) (value_is_none box_faults (conf.0, entries.0)) (plain_fault box_faults _ (λ s f e. absurd cc))))

plain_assigned : (conf : Conf) (entries : Entries) → IsPlain box_faults (assigned conf entries)
unfolding assigned
plain_assigned conf entries =
    plain_some (λ id. fault.Extra id) (extra (length conf.parts) entries.ids) _ (λ id. plain_fault box_faults _ (λ s f e. absurd cc))
    (plain_some (λ id. fault.Missing id) (missing (length conf.parts) entries.ids) _ (λ id. plain_fault box_faults _ (λ s f e. absurd cc))
    (plain_some (λ outside. fault.Outside outside.id outside.address) (first_outside conf.parts entries.images) _ (λ outside. plain_fault box_faults _ (λ s f e. absurd cc))
    (value_is_none box_faults (record { conf = conf; images = entries.images }))))

-- a version, where there is one
plain_or_version : (n : ℕ) (found : Option Version) → IsPlain box_faults (or_container_version n found)
plain_or_version n None = plain_fault box_faults _ (λ s f e. absurd cc)
plain_or_version n (Some v) = value_is_none box_faults v

plain_version_in : (bytes : List ℕ) → IsPlain box_faults (version_in bytes)
unfolding version_in
plain_version_in bytes =
    plain_then box_faults (stated_version box_faults (codes "XMPK") 2 bytes) (λ number. or_container_version number (version_numbered number)) (plain_stated_version box_faults apart (codes "XMPK") 2 bytes)
    (λ number. plain_or_version number (version_numbered number))

-- the fields after the head report no digests
plain_system : (front : List ℕ) → IsPlain box_faults (system_in front)
unfolding system_in
plain_system front =
    plain_then box_faults (version_in front) (λ version. container_fields version front >>= λ fields. assigned fields.0 fields.1) (plain_version_in front)
    (λ version. plain_then box_faults (container_fields version front) (λ fields. assigned fields.0 fields.1) (plain_fields version front) (λ fields. plain_assigned fields.0 fields.1))

-- what gives a reading that reports no digests reports none
given_plain : {X Y : Type 0} (view : X → Y) (result : Result X BoxFault) (read : Result Y BoxFault) → IsPlain box_faults read → Gives Fails view result read → IsPlain box_faults result
given_plain view (Ok value) read plain given = value_is_none box_faults value
given_plain view (Err box) read plain given =
    plain_fault box_faults box (λ s f e. plain.none s f (subst (λ (t : BoxFault). Fails t read) e given))

-- where the first step does not fail, whatever follows
pub reports_given : {X : Type 0} (view : X → System) (bytes front : List ℕ) (result : Result X BoxFault) → unsealed box_faults (codes "XMPK") 2 bytes ≡ Ok front → Gives Fails view result (system_in front)
    → ReportsDigests box_faults (codes "XMPK") 2 bytes result
reports_given view bytes front result is given =
    fields_report box_faults apart (codes "XMPK") 2 bytes front result is (given_plain view result (system_in front) (plain_system front) given)
