-- A container that is unpacked has a configuration that meets the rules.
use Rattle.std.proofs.Common.{◌≡◌, Bool, true, false, List, ℕ, length, codes, IfOk, Option, Some, None, Result, Ok, Err, refl, subst}
use Rattle.xm_base.specs.Cursor.{Place, cursor_start as begin}
use Rattle.file_headers.specs.Fields.{field_bytes}
use Rattle.file_headers.specs.Heads.{unsealed}
use Rattle.file_headers.specs.Steps.{unless}
use Rattle.fault_messages.specs.declared.fault.BoxFault.{BoxFault}
use Rattle.fault_messages.specs.declared.fault.XmcFault.{XmcFault}
use Rattle.bin_config.specs.lemmas.RangeLemmas.{parts_few}
use Rattle.bin_config.specs.Reading as bin
use Rattle.bin_config.specs.Version.{parts_in_version}
use Rattle.bin_config.specs.declared.version.Version.{Version}
use Rattle.loaded_system.specs.Inside.{first_outside}
use Rattle.loaded_system.specs.System.{System as Loaded}
use Rattle.xm_conf.specs.Configuration.{Conf}
use Rattle.xm_conf.specs.Description.{described}
use Rattle.xm_conf.specs.Fits.{Fits}
use Rattle.xm_conf.specs.Laws.{IsBrokenUnlessFits}
use Rattle.xm_conf.specs.Rules.{first_broken}
use Rattle.xm_conf.specs.declared.item.Broken.{Broken}
use Rattle.xm_conf.specs.lemmas.FitLemmas.{fits_within}
use Rattle.xm_container.specs.Entries.{Entries}
use Rattle.xm_container.specs.Numbers.{extra, missing}
use Rattle.xm_container.specs.Reading.{as_config, assigned, box_faults, box_short, conf_at, container_fields, length_at, system_in, image_table_at, unless_some, unpacked, version_in}
use Rattle.xm_commands.proofs.SavedLemmas.{last_has, then_has}

-- what meets the rules
abbrev Meets : Conf → Type 0
Meets conf = Fits (described conf)

unbroken_meets : IsBrokenUnlessFits → (v : Version) (conf : Conf) (o : Option Broken) → first_broken (parts_in_version v) (described conf) ≡ o → IfOk (bin.unbroken conf o) Meets
unbroken_meets law v conf None none = fits_within (parts_in_version v) (described conf) (parts_few v) ((law (parts_in_version v) (described conf)).0 none)
unbroken_meets law v conf (Some broken) some = tt

read_meets : IsBrokenUnlessFits → (want : Option Version) (bytes : List ℕ) → IfOk (bin.read_within want bytes) Meets
unfolding bin.read_within
read_meets law want bytes =
    last_has Meets (bin.head_at want (begin bytes)) _ (λ head. last_has Meets (bin.fields_at head.0 head.1) _ (λ conf.
    unbroken_meets law head.0 conf (first_broken (parts_in_version head.0) (described conf)) refl))

as_config_meets : (r : Result Conf XmcFault) → IfOk r Meets → IfOk (as_config r) Meets
as_config_meets (Ok conf) meets = meets
as_config_meets (Err fault) meets = tt

-- the configuration of a value that was read, and its configuration and images
abbrev ConfMeets : {T : Type 0} → Conf × T → Type 0
ConfMeets read = Meets read.0

conf_meets : IsBrokenUnlessFits → (v : Version) (place : Place) → IfOk (conf_at v place) ConfMeets
unfolding conf_at
conf_meets law v place =
    last_has ConfMeets (length_at place) _ (λ count. last_has ConfMeets (field_bytes box_short count.0 count.1) _ (λ bytes.
    then_has Meets ConfMeets (as_config (bin.read_as v bytes.0)) _ (as_config_meets (bin.read_as v bytes.0) (read_meets law (Some v) bytes.0)) (λ conf meets. meets)))

unless_meets : {T : Type 0} (test : Bool) (fault : BoxFault) (value : Conf × T) → Meets value.0 → IfOk (unless test fault value) ConfMeets
unless_meets true fault value meets = meets
unless_meets false fault value meets = tt

fields_meet : IsBrokenUnlessFits → (v : Version) (bytes : List ℕ) → IfOk (container_fields v bytes) ConfMeets
unfolding container_fields
fields_meet law v bytes =
    then_has ConfMeets ConfMeets (conf_at v (begin bytes)) _ (conf_meets law v (begin bytes)) (λ conf meets. last_has ConfMeets (image_table_at conf.1) _ (λ entries. unless_meets _ _ (conf.0, entries.0) meets))

-- of a system that was read
abbrev SystemMeets : Loaded → Type 0
SystemMeets system = Meets system.conf

granted_meets : {X : Type 0} (refusal : X → BoxFault) (o : Option X) (later : Result Loaded BoxFault) → IfOk later SystemMeets → IfOk (unless_some refusal o later) SystemMeets
granted_meets refusal None later meets = meets
granted_meets refusal (Some x) later meets = tt

assigned_meets : (conf : Conf) (entries : Entries) → Meets conf → IfOk (assigned conf entries) SystemMeets
unfolding assigned
assigned_meets conf entries meets =
    granted_meets _ (extra (length conf.parts) entries.ids) _ (granted_meets _ (missing (length conf.parts) entries.ids) _ (granted_meets _ (first_outside conf.parts entries.images) _ meets))

unpacked_meets : IsBrokenUnlessFits → (bytes : List ℕ) → IfOk (unpacked bytes) SystemMeets
unfolding unpacked system_in
unpacked_meets law bytes =
    last_has SystemMeets (unsealed box_faults (codes "XMPK") 2 bytes) system_in (λ front. last_has SystemMeets (version_in front) _ (λ v.
    then_has ConfMeets SystemMeets (container_fields v front) _ (fields_meet law v front) (λ fields meets. assigned_meets fields.0 fields.1 meets)))

pub system_fits : IsBrokenUnlessFits → (bytes : List ℕ) (system : Loaded) → unpacked bytes ≡ Ok system → Fits (described system.conf)
system_fits law bytes system unpacks = subst (λ (r : Result Loaded BoxFault). IfOk r SystemMeets) unpacks (unpacked_meets law bytes)
