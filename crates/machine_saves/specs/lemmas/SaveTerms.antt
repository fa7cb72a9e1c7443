-- For proofs and private clauses: the bytes of a saved machine, part after part.
use Rattle.std.specs.Prelude.{◌≡◌, ℕ, zero, suc, ◌+◌, ◌*◌, ◌/◌, ◌<◌, if◌then◌else◌, List, [], ◌∷◌, ◌++◌, length, take, drop, codes, get_or, slice_get, is_some, unwrap_or, Option, Some, None}
use Rattle.std.specs.Int.{to_be_bytes, w16, w8}
use Rattle.std.specs.List.{flat_map}
use Rattle.std.specs.Str.{bytes_eq}
use Rattle.md5.specs.Md5.{md5}
use Rattle.codecs.specs.Files.{text_before_digest}
use Rattle.cyclic_plans.specs.PlanClock.{CyclicClock}
use Rattle.guest_bus.specs.Memory.{Area, Memory}
use Rattle.guest_memory.specs.Loading.{areas_with_image}
use Rattle.guest_memory.specs.Memories.{Memories, areas_at, map_at}
use Rattle.machine_model.specs.Machine.{Machine}
use Rattle.machine_model.specs.Partition.{PartitionState}
use Rattle.machine_model.specs.Structures.{double, flag, word}
use Rattle.machine_model.specs.View.{no_image, view_of}
use Rattle.saved_machines.specs.Saved.{SavedPage}
use Rattle.saved_machines.specs.Savable.{HasItsMemory, IsSavedState}
use Rattle.saved_machines.specs.SavedFormat.{partition_format}
use Rattle.saved_machines.specs.Saving.{changed_in, loaded_of, saved_head, saved_part}
use Rattle.system_state.specs.State.{part_at}
use Rattle.xef_images.specs.Image.{Image}
use Rattle.xm_conf.specs.Configuration.{Chan, Part}
use Rattle.xm_conf.specs.declared.channel.ChanKind.{ChanKind}
use Rattle.xm_conf.specs.declared.channel.ChanKind.TheVariants as chan_kind
use Rattle.xm_ports.specs.Channels.{Content, HeldSample, messages_of, sample_of}

-- the texts of the numbers below one, one after another
abbrev pub all_texts : (ℕ → List ℕ) → ℕ → List ℕ
all_texts text zero = []
all_texts text (suc n) = text 0 ++ all_texts (λ k. text (suc k)) n

-- the plan that is asked for
unfoldable pub asked_text : Option ℕ → List ℕ
asked_text asked = to_be_bytes w8 (flag (is_some asked)) ++ to_be_bytes w8 (unwrap_or asked 0)

-- the plan clock
unfoldable pub clock_text : CyclicClock → List ℕ
clock_text clock = to_be_bytes w8 clock.plan ++ double clock.frame_start ++ asked_text clock.asked

-- the whole machine
unfoldable pub machine_head_text : List ℕ → Machine → List ℕ
machine_head_text container g =
    container ++ double g.ticks ++ double g.time ++ word g.resets ++ to_be_bytes w8 (flag g.halted) ++ clock_text g.clock

-- a message
unfoldable pub message_text : List ℕ → List ℕ
message_text bytes = to_be_bytes w16 (length bytes) ++ bytes

-- the message of a sampling channel
unfoldable pub held_text : HeldSample → List ℕ
held_text held = to_be_bytes w8 1 ++ double held.time ++ message_text held.bytes

abbrev pub sample_text : Option HeldSample → List ℕ
sample_text None = to_be_bytes w8 0
sample_text (Some held) = held_text held

-- the messages of a queue
abbrev pub messages_text : List (List ℕ) → List ℕ
messages_text messages = to_be_bytes w8 (length messages) ++ flat_map message_text messages

-- what a channel of a kind holds
abbrev pub content_text : ChanKind → Content → List ℕ
content_text (chan_kind.Sampling refresh) content = sample_text (sample_of content)
content_text (chan_kind.Queuing most) content = messages_text (messages_of content)

-- what channels hold
abbrev pub contents_text : List Chan → List Content → List ℕ
contents_text [] contents = []
contents_text (chan ∷ chans) [] = []
contents_text (chan ∷ chans) (content ∷ contents) = content_text chan.kind content ++ contents_text chans contents

unfoldable pub channels_text : Machine → List ℕ
channels_text g = contents_text g.system.conf.chans g.channels

-- a page
unfoldable pub page_text : SavedPage → List ℕ
page_text page = word page.address ++ page.bytes

-- pages, their number before them
unfoldable pub pages_text : List SavedPage → List ℕ
pages_text pages = word (length pages) ++ flat_map page_text pages

-- those of an area
abbrev pub area_text : Memory → Memory → Area → List ℕ
area_text loaded memory area = pages_text (changed_in loaded memory area)

-- the page of a number in the bytes of an area
unfoldable pub page_of : List ℕ → ℕ → List ℕ
page_of bytes number = take 256 (drop (256 * number) bytes)

-- that page, where it is not as it was loaded
unfoldable pub changed_page : List ℕ → List ℕ → ℕ → ℕ → List SavedPage
changed_page loaded now start number =
    if bytes_eq (page_of now number) (page_of loaded number) then [] else record { address = start + 256 * number; bytes = page_of now number } ∷ []

-- the pages of an area from a number on, this many, that are not as they were loaded
unfoldable pub changed_from : List ℕ → List ℕ → ℕ → ℕ → ℕ → List SavedPage
changed_from loaded now start number zero = []
changed_from loaded now start number (suc count) = changed_page loaded now start number ++ changed_from loaded now start (suc number) count

-- all of an area
unfoldable pub changed_bytes : List ℕ → List ℕ → ℕ → List SavedPage
changed_bytes loaded now start = changed_from loaded now start 0 (length now / 256)

-- a partition
unfoldable pub part_text : Machine → ℕ → List ℕ
part_text g p = (partition_format g.system.conf (loaded_of g.system p) (saved_head [] g) p).spell (saved_part (view_of g.system p) (part_at p g))

-- all partitions
unfoldable pub parts_text : Machine → List ℕ
parts_text g = all_texts (part_text g) (length g.parts)

-- all fields
unfoldable pub machine_text : List ℕ → Machine → List ℕ
machine_text container g = machine_head_text container g ++ channels_text g ++ parts_text g

-- what stands before the digest, and the whole file
unfoldable pub text_before : List ℕ → List ℕ
text_before fields = text_before_digest (codes "XMSM") fields

unfoldable pub sealed_text : List ℕ → List ℕ
sealed_text fields = text_before fields ++ md5 (text_before fields)

-- the area of a number of a partition
pub record IsAreaOf (memories : Memories) (p number : ℕ) (area : Area) : Type 0 where
  pub partition : p < length memories.areas
  pub there : slice_get (areas_at p memories) number ≡ Some area

-- the memory of a partition that there is has its image
abbrev pub HasImage : ℕ → List Part → List Image → Memories → Type 0
HasImage p parts images memories = p < length parts → map_at p memories ≡ areas_with_image (areas_at p memories) (get_or images p no_image)

-- of the partitions below a number the numbers are in range
abbrev pub HaveStates : ℕ → Machine → Type 0
HaveStates n g = (p : ℕ) → p < n → IsSavedState (part_at p g)

-- each partition that there is has its memory
abbrev pub HaveMemories : Machine → Type 0
HaveMemories g = (p : ℕ) (ps : PartitionState) → slice_get g.parts p ≡ Some ps → HasItsMemory g p ps.memory

-- each element below a number is of a kind
abbrev pub EachBelow : {X : Type 0} → (X → Type 0) → ℕ → List X → Type 0
EachBelow P n xs = (k : ℕ) (x : _) → k < n → slice_get xs k ≡ Some x → P x
