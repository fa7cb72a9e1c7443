-- The file of a saved machine keeps both round trips, and no file is a prefix of another.
use Rattle.std.proofs.Common.{◌≡◌, ℕ, ◌+◌, ◌≤◌, Bool, true, List, ◌++◌, length, refl, sym, ◌∙◌, arith}
use Rattle.std.specs.Prelude.{◌&&◌, ◌||◌, ◌==◌, codes}
use Rattle.std.specs.Str.{bytes_eq}
use Rattle.std.proofs.lemmas.Bool.Decides.{Decides-eqb}
use Rattle.std.proofs.lemmas.List.{length-append}
use Rattle.codecs.specs.Codec.{times}
use Rattle.codecs.specs.Lawful.{IsLawful}
use Rattle.codecs.specs.Laws.{HasBytes}
use Rattle.codecs.specs.lemmas.CodecLemmas.{keyed_lawful, optional_lawful, pair_lawful, raw_bytes_lawful, tested_lawful, through_lawful}
use Rattle.codecs.specs.lemmas.CutLemmas.{cut_sealed_is_short}
use Rattle.codecs.specs.lemmas.FileLemmas.{sealed_ends, sealed_lawful}
use Rattle.codecs.specs.lemmas.ItemLemmas.{counted_items_lawful, each_lawful, length-items, times_lawful}
use Rattle.codecs.specs.lemmas.ReadLemmas.{both}
use Rattle.guest_bus.specs.Memory.{Area, Memory}
use Rattle.machine_model.specs.Structures.{flag}
use Rattle.saved_machines.specs.Laws.{CutSavedFileIsShort, SavedFilesAreLawful, SavedFilesArePrefixFree, SavedMachinesHaveOneFile}
use Rattle.saved_machines.specs.Saved.{SavedHead, SavedStore}
use Rattle.saved_machines.specs.SavedFields.{any_word, globals_field, health_field, log_field, made_field, saved_faults, trace_field}
use Rattle.saved_machines.specs.SavedFormat.{area_pages_format, clock_format, head_format, machine_format, page_format, pages_format, partition_format, processor_format, standing_format, store_format, traps_format}
use Rattle.saved_machines.proofs.FieldLemmas.{any_word_lawful, byte_lawful, content_lawful, double_word_lawful, flag_lawful, globals_lawful, health_lawful, known_byte_lawful, log_lawful, made_lawful, state_lawful, timer_lawful, trace_lawful, word_lawful, zeros_lawful}
use Rattle.xm_conf.specs.Configuration.{Conf}

pub clock_lawful : (conf : Conf) (time : ℕ) → IsLawful (clock_format conf time)
clock_lawful conf time =
    through_lawful _ _ _ (λ t fits. refl) (λ c fits. refl)
    (pair_lawful _ _ (byte_lawful _) λ plan.
    pair_lawful _ _ (double_word_lawful _) λ start.
    optional_lawful _ _ _ flag_lawful (byte_lawful _) (zeros_lawful 1))

pub head_lawful : (conf : Conf) (container : List ℕ) → IsLawful (head_format conf container)
head_lawful conf container =
    through_lawful _ _ _ (λ t fits. refl) (λ h fits. refl)
    (pair_lawful _ _ (tested_lawful _ _ _ (raw_bytes_lawful _ 16)) λ stored.
    pair_lawful _ _ (double_word_lawful _) λ ticks.
    pair_lawful _ _ (double_word_lawful _) λ time.
    pair_lawful _ _ any_word_lawful λ resets.
    pair_lawful _ _ (tested_lawful _ _ _ flag_lawful) λ halted.
    clock_lawful conf time)

pub standing_lawful : (head : SavedHead) (p : ℕ) → IsLawful (standing_format head p)
standing_lawful head p =
    through_lawful _ _ _ (λ t fits. refl) (λ s fits. refl)
    (pair_lawful _ _ (known_byte_lawful p) λ number.
    pair_lawful _ _ state_lawful λ state.
    pair_lawful _ _ any_word_lawful λ resets.
    pair_lawful _ _ any_word_lawful λ status.
    double_word_lawful _)

pub processor_lawful : IsLawful processor_format
processor_lawful =
    through_lawful _ _ _ (λ t fits. refl) (λ c fits. refl)
    (pair_lawful _ _ (word_lawful _) λ pc.
    pair_lawful _ _ (word_lawful _) λ npc.
    pair_lawful _ _ any_word_lawful λ y.
    pair_lawful _ _ (byte_lawful _) λ icc.
    pair_lawful _ _ (byte_lawful _) λ cwp.
    byte_lawful _)

pub traps_lawful : IsLawful traps_format
traps_lawful =
    through_lawful _ _ _ (λ t fits. refl) (λ v fits. refl)
    (pair_lawful _ _ flag_lawful λ enabled. pair_lawful _ _ (word_lawful _) λ base. pair_lawful _ _ any_word_lawful λ pending. any_word_lawful)

pub page_lawful : (area : Area) (loaded : Memory) (floor : ℕ) → IsLawful (page_format area loaded floor)
page_lawful area loaded floor =
    tested_lawful _ _ _ (through_lawful _ _ _ (λ t fits. refl) (λ page fits. refl) (pair_lawful _ _ (word_lawful _) λ address. raw_bytes_lawful _ 256))

pub area_pages_lawful : (loaded : Memory) (area : Area) → IsLawful (area_pages_format loaded area)
area_pages_lawful loaded area = counted_items_lawful any_word _ _ area.start any_word_lawful (λ floor. page_lawful area loaded floor)

pub store_lawful : (conf : Conf) (loaded : Memory) (head : SavedHead) (p : ℕ) (halted : Bool) (left : ℕ) → IsLawful (store_format conf loaded head p halted left)
store_lawful conf loaded head p halted left =
    through_lawful _ _ _ (λ t fits. refl) (λ s fits. refl)
    (pair_lawful _ _ (made_lawful conf p) λ made.
    pair_lawful _ _ globals_lawful λ globals.
    pair_lawful _ _ (times_lawful 128 any_word any_word_lawful) λ windows.
    pair_lawful _ _ (log_lawful _ _ _ trace_lawful) λ traces.
    pair_lawful _ _ (log_lawful _ _ _ health_lawful) λ health.
    pair_lawful _ _ (times_lawful left any_word any_word_lawful) λ inputs.
    each_lawful _ _ (λ area. area_pages_lawful loaded area))

-- the sixth of seven tests
sixth : (a b c d e f g : Bool) → (a && (b && (c && (d && (e && (f && g)))))) ≡ true → f ≡ true
sixth a b c d e f g all = (both f g (both e _ (both d _ (both c _ (both b _ (both a _ all).1).1).1).1).1).0

-- a partition has as many input words as are left
inputs_left : (conf : Conf) (loaded : Memory) (head : SavedHead) (p : ℕ) (halted : Bool) (left : ℕ) (store : SavedStore) → (store_format conf loaded head p halted left).fits store ≡ true → length store.inputs ≡ left
inputs_left conf loaded head p halted left store fits =
    length-items (λ (u : Unit {0}). any_word) (λ u word. u) left tt store.inputs
    (sixth ((made_field conf p).fits store.made) (globals_field.fits store.globals) ((times 128 any_word).fits store.windows) ((log_field head.ticks 24 trace_field).fits store.traces)
    ((log_field (head.ticks + flag (head.halted || halted)) 20 health_field).fits store.health) ((times left any_word).fits store.inputs) ((pages_format conf loaded p).fits store.pages) fits)

pub partition_lawful : (conf : Conf) (loaded : Memory) (head : SavedHead) (p : ℕ) → IsLawful (partition_format conf loaded head p)
partition_lawful conf loaded head p =
    through_lawful _ _ _ (λ t fits. refl) (λ s fits. refl)
    (pair_lawful _ _ (standing_lawful head p) λ standing.
    pair_lawful _ _ processor_lawful λ processor.
    pair_lawful _ _ traps_lawful λ traps.
    pair_lawful _ _ timer_lawful λ hardware_timer.
    pair_lawful _ _ timer_lawful λ execution_timer.
    keyed_lawful _ _ _ any_word_lawful (λ left. store_lawful conf loaded head p _ left) (λ left store fits. inputs_left conf loaded head p _ left store fits))

pub machine_lawful : (conf : Conf) (loaded : ℕ → Memory) (container : List ℕ) → IsLawful (machine_format conf loaded container)
machine_lawful conf loaded container =
    through_lawful _ _ _ (λ t fits. refl) (λ saved fits. refl)
    (pair_lawful _ _ (head_lawful conf container) λ head.
    pair_lawful _ _ (each_lawful _ conf.chans (λ chan. content_lawful chan.kind chan.length)) λ channels.
    each_lawful _ _ (λ p. partition_lawful conf (loaded p) head p))

-- a machine has the bytes of its container's digest at least
machine_has_bytes : (conf : Conf) (loaded : ℕ → Memory) (container : List ℕ) → HasBytes (machine_format conf loaded container)
machine_has_bytes conf loaded container saved fits =
    let stored : List ℕ = saved.head.container in
    let head : (head_format conf container).fits saved.head ≡ true = (both ((head_format conf container).fits saved.head) _ fits).0 in
    let sixteen : length stored ≡ 16 = (Decides-eqb (length stored) 16).0 (both (length stored == 16) (bytes_eq stored container) (both (length stored == 16 && bytes_eq stored container) _ head).0).0 in
    first_long stored _ _ (omega (arith, sixteen))
  where
    first_long : (xs ys zs : List ℕ) → 1 ≤ length xs → 1 ≤ length ((xs ++ ys) ++ zs)
    first_long xs ys zs some = omega (arith, some, length-append xs ys, length-append (xs ++ ys) zs)

pub saved_lawful : SavedFilesAreLawful
saved_lawful conf loaded container =
    sealed_lawful _ (codes "XMSM") (machine_format conf loaded container) refl (machine_lawful conf loaded container) (machine_has_bytes conf loaded container)

pub saved_prefix_free : SavedFilesArePrefixFree
saved_prefix_free conf loaded container = sealed_ends saved_faults (codes "XMSM") (machine_format conf loaded container) refl

pub saved_one_file : SavedMachinesHaveOneFile
saved_one_file conf loaded container one other saved one_each other_each one_read other_read =
    let law = saved_lawful conf loaded container in
    (law.spelled one saved one_each one_read).text ∙ sym (law.spelled other saved other_each other_read).text

pub saved_cut : CutSavedFileIsShort
saved_cut conf loaded container = cut_sealed_is_short saved_faults (codes "XMSM") (machine_format conf loaded container) refl
