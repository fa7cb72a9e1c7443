-- The parts of a saved machine are spelled as they are put.
use Rattle.std.proofs.Common.{◌≡◌, ℕ, zero, suc, ◌+◌, ◌-◌, ◌*◌, ◌%◌, ◌<◌, ◌≤◌, Bool, true, false, List, [], ◌∷◌, ◌++◌, length, map, drop, replicate, get_or, Option, None, Some, refl, sym, ap, ◌∙◌, append_assoc, arith}
use Rattle.std.specs.Prelude.{min, slice_get, is_some, unwrap_or, codes}
use Rattle.std.specs.Int.{to_be_bytes, w16, w8}
use Rattle.std.specs.List.{flat_map}
use Rattle.std.proofs.lemmas.Option.{get_or_from_slice_get}
use Rattle.codecs.specs.Codec.{Codec, each_of, items_spelled, no_bytes, optional, raw_bytes, times}
use Rattle.codecs.specs.lemmas.FileLemmas.{length-sealed}
use Rattle.core_files.specs.Head.{core_head}
use Rattle.cyclic_plans.specs.PlanClock.{CyclicClock}
use Rattle.guest_bus.specs.Memory.{Area, Memory}
use Rattle.guest_memory.specs.Loading.{memory_areas}
use Rattle.health_monitor.specs.declared.entry.HealthEntry.{HealthEntry}
use Rattle.machine_model.specs.CoreFile.{bits_of_flags, log_bytes, processor_bytes, standing_bytes, timer_bytes}
use Rattle.machine_model.specs.Lists.{each, table}
use Rattle.machine_model.specs.Machine.{Machine}
use Rattle.machine_model.specs.Partition.{PartitionState, areas_of}
use Rattle.machine_model.specs.Structures.{counts_bytes, double, flag, health_bytes, state_number, trace_bytes, word}
use Rattle.machine_model.specs.View.{PartitionView, System, part_of, view_of}
use Rattle.saved_machines.specs.Saved.{SavedHead, SavedPage}
use Rattle.saved_machines.specs.SavedFields.{SavedCodec, any_word, content_field, flag_field, health_field, kept_count, log_field, message_field, sample_field, saved_faults, saved_short, timer_field, trace_field}
use Rattle.saved_machines.specs.SavedFormat.{area_pages_format, asked_format, clock_format, head_format, machine_format, page_format, pages_format, partition_format, processor_format, saved_format, standing_format, traps_format}
use Rattle.saved_machines.specs.Saving.{changed_in, loaded_of, saved_file, saved_head, saved_of, saved_part, saved_processor, saved_standing}
use Rattle.sparc_step.specs.Registers.{AreRegisters, Registers}
use Rattle.system_state.specs.State.{memory_of, part_at}
use Rattle.virt_clocks.specs.declared.timer.Timer.{Timer}
use Rattle.virt_traps.specs.Virtual.{VirtualTraps}
use Rattle.xm_base.specs.declared.partition.State.{State}
use Rattle.xm_base.specs.declared.partition.State.TheVariants.{Ready, Idle, Suspended, Halted}
use Rattle.xm_conf.specs.Configuration.{Chan, Conf}
use Rattle.xm_conf.specs.Health.{action_row, event_row}
use Rattle.xm_conf.specs.declared.channel.ChanKind.{ChanKind}
use Rattle.xm_conf.specs.declared.channel.ChanKind.TheVariants as chan_kind
use Rattle.xm_conf.specs.declared.health.Action.{Action}
use Rattle.xm_conf.specs.declared.health.Action.TheVariants as action
use Rattle.xm_conf.specs.declared.health.Event.{Event}
use Rattle.xm_conf.specs.declared.health.Event.TheVariants as event
use Rattle.xm_ports.specs.Channels.{Content, HeldSample, messages_of, sample_of}
use Rattle.xm_traces.specs.Ring.{IsKept, Kept, RING_ENTRIES}
use Rattle.xm_traces.specs.declared.entry.TraceEntry.{TraceEntry}
use Rattle.machine_saves.specs.lemmas.SaveTerms.{all_texts, area_text, asked_text, channels_text, clock_text, content_text, contents_text, held_text, machine_head_text, machine_text, message_text, messages_text, page_text, pages_text, part_text, parts_text, sample_text, sealed_text, text_before}

-- items of one format
times_spelled : {F X : Type 0} (c : Codec F X) (text : X → List ℕ) (count : ℕ) → ((x : X) → c.spell x ≡ text x) → (xs : List X) → (times count c).spell xs ≡ flat_map text xs
times_spelled c text count same [] = refl
times_spelled c text count same (x ∷ xs) = λ i. same x i ++ times_spelled c text count same xs i

words_spelled : (count : ℕ) (words : List ℕ) → (times count any_word).spell words ≡ flat_map word words
words_spelled count words = times_spelled any_word word count (λ n. refl) words

-- bytes
small_byte : (n : ℕ) → n < 256 → to_be_bytes w8 n ≡ n ∷ []
small_byte n below = let e : n % 256 ≡ n = omega (arith, below) in ap (λ (b : ℕ). b ∷ []) e

state_byte : (s : State) → to_be_bytes w8 (state_number s) ≡ state_number s ∷ []
state_byte Ready = refl
state_byte Idle = refl
state_byte Suspended = refl
state_byte Halted = refl

flag_byte : (b : Bool) → to_be_bytes w8 (flag b) ≡ flag b ∷ []
flag_byte true = refl
flag_byte false = refl

event_byte : (e : Event) → to_be_bytes w8 (event_row e).number ≡ (event_row e).number ∷ []
event_byte event.PartitionError = refl
event_byte event.MemProtection = refl
event_byte event.UnexpectedTrap = refl
event_byte event.SparcIllegalInstruction = refl
event_byte event.SparcPrivilegedInstruction = refl
event_byte event.SparcFpDisabled = refl
event_byte event.SparcCpDisabled = refl
event_byte event.SparcAddressNotAligned = refl
event_byte event.SparcTagOverflow = refl
event_byte event.SparcDivideException = refl
event_byte event.SparcInstrAccess = refl
event_byte event.SparcDataAccess = refl

action_byte : (a : Action) → to_be_bytes w8 (action_row a).number ≡ (action_row a).number ∷ []
action_byte action.Ignore = refl
action_byte action.Shutdown = refl
action_byte action.PartitionColdReset = refl
action_byte action.PartitionWarmReset = refl
action_byte action.Suspend = refl
action_byte action.Halt = refl
action_byte action.Propagate = refl
action_byte action.HypervisorColdReset = refl
action_byte action.HypervisorWarmReset = refl
action_byte action.HypervisorHalt = refl
action_byte action.SwitchToMaintenance = refl

-- timers
timer_spelled : (timer : Option Timer) → timer_field.spell timer ≡ timer_bytes timer
timer_spelled None = refl
timer_spelled (Some timer) = refl

-- logs
trace_spelled : (entry : TraceEntry) → trace_field.spell entry ≡ trace_bytes entry
unfolding trace_bytes
trace_spelled entry = refl

-- a health entry, by the bytes of its event and its action
abbrev entry_bytes : HealthEntry → List ℕ → List ℕ → List ℕ
entry_bytes entry e a = double entry.time ++ (word entry.seq ++ (e ++ (a ++ (replicate 2 0 ++ word entry.word))))

health_spelled : (entry : HealthEntry) → health_field.spell entry ≡ health_bytes entry
unfolding health_bytes
health_spelled entry =
    let bytes : entry_bytes entry (to_be_bytes w8 (event_row entry.event).number) (to_be_bytes w8 (action_row entry.action).number) ≡ entry_bytes entry ((event_row entry.event).number ∷ []) ((action_row entry.action).number ∷ []) =
    (λ i. entry_bytes entry (event_byte entry.event i) (action_byte entry.action i)) in bytes

log_spelled : {T : Type 0} (most size : ℕ) (entry : SavedCodec T) (text : T → List ℕ) → ((e : T) → entry.spell e ≡ text e) → (kept : Kept T) → IsKept kept → (log_field most size entry).spell kept ≡ log_bytes size text kept
unfolding counts_bytes
log_spelled most size entry text same kept is =
    let counts = word (kept.next - kept_count kept.next) ++ word kept.next in
    let zeros = replicate ((RING_ENTRIES - kept_count kept.next) * size) 0 in
    ap (λ (entries : List ℕ). counts ++ (entries ++ zeros)) (times_spelled entry text (kept_count kept.next) same kept.entries)
    ∙ sym (append_assoc counts (flat_map text kept.entries) zeros)
    ∙ ap (λ (n : ℕ). (word (kept.next - n) ++ word kept.next) ++ flat_map text kept.entries ++ replicate ((64 - n) * size) 0) (sym is.count)

-- pages
abbrev items_text : Area → Memory → ℕ → List SavedPage → List ℕ
items_text area loaded floor pages = items_spelled (λ at. page_format area loaded at) (λ at page. page.address + 256) floor pages

page_texts : (area : Area) (loaded : Memory) (floor : ℕ) (pages : List SavedPage) → items_text area loaded floor pages ≡ flat_map page_text pages
unfolding page_text
page_texts area loaded floor [] = refl
page_texts area loaded floor (page ∷ pages) = ap (λ (rest : List ℕ). (word page.address ++ page.bytes) ++ rest) (page_texts area loaded (page.address + 256) pages)

area_spelled : (loaded : Memory) (area : Area) (pages : List SavedPage) → (area_pages_format loaded area).spell pages ≡ pages_text pages
unfolding pages_text
area_spelled loaded area pages = ap (λ (rest : List ℕ). word (length pages) ++ rest) (page_texts area loaded area.start pages)

each_spelled_so : {F A X : Type 0} (part : A → Codec F X) (made : A → X) (text : A → List ℕ) → ((a : A) → (part a).spell (made a) ≡ text a) → (known : List A) → (each_of part known).spell (map made known) ≡ flat_map text known
each_spelled_so part made text same [] = refl
each_spelled_so part made text same (a ∷ known) = λ i. same a i ++ each_spelled_so part made text same known i

areas_spelled : (loaded memory : Memory) (areas : List Area) → (each_of (λ area. area_pages_format loaded area) areas).spell (map (changed_in loaded memory) areas) ≡ flat_map (area_text loaded memory) areas
areas_spelled loaded memory areas =
    each_spelled_so (λ area. area_pages_format loaded area) (changed_in loaded memory) (area_text loaded memory) (λ area. area_spelled loaded area (changed_in loaded memory area)) areas

-- a partition: how it stands, its registers without a number, and its virtual traps
abbrev standing_text : ℕ → PartitionState → List ℕ
standing_text p ps = (p ∷ []) ++ ((state_number ps.state ∷ []) ++ (word ps.resets ++ (word ps.reset_status ++ double ps.clocks.execution)))

standing_spelled : (head : SavedHead) (p : ℕ) (ps : PartitionState) → (standing_format head p).spell (saved_standing ps) ≡ standing_text p ps
standing_spelled head p ps = ap (λ (state : List ℕ). (p ∷ []) ++ (state ++ (word ps.resets ++ (word ps.reset_status ++ double ps.clocks.execution)))) (state_byte ps.state)

abbrev processor_text : Registers → List ℕ → List ℕ → List ℕ → List ℕ
processor_text core icc cwp inv = word core.pc ++ (word core.npc ++ (word core.y ++ (icc ++ (cwp ++ inv))))

processor_spelled : (core : Registers) → AreRegisters core → processor_format.spell (saved_processor core) ≡ processor_text core (core.icc ∷ []) (core.cwp ∷ []) (core.inv ∷ [])
processor_spelled core are =
    λ i. processor_text core (small_byte core.icc (omega (arith, are.four_conditions)) i) (small_byte core.cwp (omega (arith, are.current_window)) i) (small_byte core.inv (omega (arith, are.invalid_window)) i)

abbrev traps_text : VirtualTraps → List ℕ → List ℕ
traps_text traps enabled = enabled ++ (word traps.base ++ (word traps.pending ++ word traps.mask))

traps_spelled : (traps : VirtualTraps) → traps_format.spell traps ≡ traps_text traps (flag traps.enabled ∷ [])
traps_spelled traps = ap (traps_text traps) (flag_byte traps.enabled)

-- thirteen parts, to the right and to the left
abbrev to_right : (a b c d e f g h j k l m n : List ℕ) → List ℕ
to_right a b c d e f g h j k l m n = a ++ (b ++ (c ++ (d ++ (e ++ (f ++ (g ++ (h ++ (j ++ (k ++ (l ++ (m ++ n)))))))))))

abbrev to_left : (a d e f g h j k l m n : List ℕ) → List ℕ
to_left a d e f g h j k l m n = a ++ d ++ e ++ f ++ g ++ h ++ j ++ k ++ l ++ m ++ n

turned : (a d e f g h j k l m n : List ℕ) → to_left a d e f g h j k l m n ≡ a ++ (d ++ (e ++ (f ++ (g ++ (h ++ (j ++ (k ++ (l ++ (m ++ n)))))))))
turned a d e f g h j k l m n =
    append_assoc (a ++ d ++ e ++ f ++ g ++ h ++ j ++ k ++ l) m n
    ∙ append_assoc (a ++ d ++ e ++ f ++ g ++ h ++ j ++ k) l (m ++ n)
    ∙ append_assoc (a ++ d ++ e ++ f ++ g ++ h ++ j) k (l ++ (m ++ n))
    ∙ append_assoc (a ++ d ++ e ++ f ++ g ++ h) j (k ++ (l ++ (m ++ n)))
    ∙ append_assoc (a ++ d ++ e ++ f ++ g) h (j ++ (k ++ (l ++ (m ++ n))))
    ∙ append_assoc (a ++ d ++ e ++ f) g (h ++ (j ++ (k ++ (l ++ (m ++ n)))))
    ∙ append_assoc (a ++ d ++ e) f (g ++ (h ++ (j ++ (k ++ (l ++ (m ++ n))))))
    ∙ append_assoc (a ++ d) e (f ++ (g ++ (h ++ (j ++ (k ++ (l ++ (m ++ n)))))))
    ∙ append_assoc a d (e ++ (f ++ (g ++ (h ++ (j ++ (k ++ (l ++ (m ++ n))))))))

-- what a core file has of the first three
abbrev core_part : ℕ → PartitionState → List ℕ
core_part p ps = (p ∷ state_number ps.state ∷ []) ++ word ps.resets ++ word ps.reset_status ++ double ps.clocks.execution ++ processor_bytes ps

front_same : (p : ℕ) (ps : PartitionState) (rest : List ℕ)
    → standing_text p ps ++ (processor_text ps.core (ps.core.icc ∷ []) (ps.core.cwp ∷ []) (ps.core.inv ∷ []) ++ (traps_text ps.traps (flag ps.traps.enabled ∷ []) ++ rest)) ≡ core_part p ps ++ rest
unfolding processor_bytes
front_same p ps rest = refl

head_same : (view : PartitionView) (ps : PartitionState) (inputs pages : List ℕ)
    → drop 6 (core_head view ps) ++ inputs ++ pages
    ≡ to_left (core_part view.id ps) (timer_bytes ps.clocks.hardware_timer) (timer_bytes ps.clocks.execution_timer) (word (length ps.inputs)) (word (bits_of_flags ps.made)) (flat_map word ps.core.globals)
    (flat_map word ps.core.windows) (log_bytes 24 trace_bytes ps.traces) (log_bytes 20 health_bytes ps.health) inputs pages
unfolding core_head standing_bytes
head_same view ps inputs pages = refl

module _ (g : Machine) (p : ℕ) (ps : PartitionState) (are : AreRegisters ps.core) (traces : IsKept ps.traces) (health : IsKept ps.health) where
  state_spelled : (head : SavedHead) → (partition_format g.system.conf (loaded_of g.system p) head p).spell (saved_part (view_of g.system p) ps)
      ≡ drop 6 (core_head (view_of g.system p) ps) ++ flat_map word ps.inputs ++ flat_map (area_text (loaded_of g.system p) ps.memory) (areas_of (view_of g.system p))
  unfolding saved_part areas_of view_of
  state_spelled head =
      let inputs = flat_map word ps.inputs in
      let pages = flat_map (area_text (loaded_of g.system p) ps.memory) (areas_of (view_of g.system p)) in
      let most = head.ticks in
      (λ i. to_right (standing_spelled head p ps i) (processor_spelled ps.core are i) (traps_spelled ps.traps i) (timer_spelled ps.clocks.hardware_timer i) (timer_spelled ps.clocks.execution_timer i)
      (word (length ps.inputs)) (word (bits_of_flags ps.made)) (words_spelled 8 ps.core.globals i) (words_spelled 128 ps.core.windows i)
      (log_spelled most 24 trace_field trace_bytes trace_spelled ps.traces traces i) (log_spelled most 20 health_field health_bytes health_spelled ps.health health i)
      (words_spelled (length ps.inputs) ps.inputs i) (areas_spelled (loaded_of g.system p) ps.memory (areas_of (view_of g.system p)) i))
      ∙ front_same p ps _
      ∙ sym (turned (core_part p ps) (timer_bytes ps.clocks.hardware_timer) (timer_bytes ps.clocks.execution_timer) (word (length ps.inputs)) (word (bits_of_flags ps.made)) (flat_map word ps.core.globals)
      (flat_map word ps.core.windows) (log_bytes 24 trace_bytes ps.traces) (log_bytes 20 health_bytes ps.health) inputs pages)
      ∙ sym (head_same (view_of g.system p) ps inputs pages)

-- what is put of a partition
pub part_put : (g : Machine) (p : ℕ) (old one two new : List ℕ) → AreRegisters (part_at p g).core → IsKept (part_at p g).traces → IsKept (part_at p g).health
    → one ≡ old ++ drop 6 (core_head (view_of g.system p) (part_at p g)) → two ≡ one ++ flat_map word (part_at p g).inputs
    → new ≡ two ++ flat_map (area_text (loaded_of g.system p) (memory_of p g)) (areas_of (view_of g.system p)) → new ≡ old ++ part_text g p
unfolding part_text
part_put g p old one two new are traces health first second third =
    let head = drop 6 (core_head (view_of g.system p) (part_at p g)) in
    let inputs = flat_map word (part_at p g).inputs in
    let pages = flat_map (area_text (loaded_of g.system p) (memory_of p g)) (areas_of (view_of g.system p)) in
    third ∙ ap (λ (xs : List ℕ). xs ++ pages) second ∙ ap (λ (xs : List ℕ). xs ++ inputs ++ pages) first
    ∙ ap (λ (xs : List ℕ). xs ++ pages) (append_assoc old head inputs) ∙ append_assoc old (head ++ inputs) pages
    ∙ ap (λ (xs : List ℕ). old ++ xs) (sym (state_spelled g p (part_at p g) are traces health (saved_head [] g)))

-- what channels hold
abbrev sample_format_text : ℕ → Option HeldSample → List ℕ
sample_format_text most found = (optional flag_field (sample_field most) no_bytes).spell found

sample_spelled : (most : ℕ) (found : Option HeldSample) → sample_format_text most found ≡ sample_text found
unfolding held_text message_text
sample_spelled most None = refl
sample_spelled most (Some held) = refl

message_spelled : (most : ℕ) (bytes : List ℕ) → (message_field most).spell bytes ≡ message_text bytes
unfolding message_text
message_spelled most bytes = refl

content_spelled : (kind : ChanKind) (most : ℕ) (content : Content) → (content_field kind most).spell content ≡ content_text kind content
content_spelled (chan_kind.Sampling refresh) most content = sample_spelled most (sample_of content)
content_spelled (chan_kind.Queuing room) most content =
    ap (λ (messages : List ℕ). to_be_bytes w8 (length (messages_of content)) ++ messages) (times_spelled (message_field most) message_text (length (messages_of content)) (message_spelled most) (messages_of content))

contents_spelled : (chans : List Chan) (contents : List Content) → (each_of (λ chan. content_field chan.kind chan.length) chans).spell contents ≡ contents_text chans contents
contents_spelled [] contents = refl
contents_spelled (chan ∷ chans) [] = refl
contents_spelled (chan ∷ chans) (content ∷ contents) = λ i. content_spelled chan.kind chan.length content i ++ contents_spelled chans contents i

-- the whole machine
asked_spelled : (plans : ℕ) (asked : Option ℕ) → (asked_format plans).spell asked ≡ asked_text asked
unfolding asked_text
asked_spelled plans None = refl
asked_spelled plans (Some plan) = refl

clock_spelled : (conf : Conf) (time : ℕ) (clock : CyclicClock) → (clock_format conf time).spell clock ≡ clock_text clock
unfolding clock_text
clock_spelled conf time clock =
    ap (λ (asked : List ℕ). to_be_bytes w8 clock.plan ++ (double clock.frame_start ++ asked)) (asked_spelled (length conf.plans) clock.asked)
    ∙ sym (append_assoc (to_be_bytes w8 clock.plan) (double clock.frame_start) (asked_text clock.asked))

head_spelled : (container : List ℕ) (g : Machine) → (head_format g.system.conf container).spell (saved_head container g) ≡ machine_head_text container g
unfolding machine_head_text
head_spelled container g =
    let ticks = double g.ticks in
    let time = double g.time in
    let resets = word g.resets in
    let halted = to_be_bytes w8 (flag g.halted) in
    let clock = clock_text g.clock in
    ap (λ (clock : List ℕ). container ++ (ticks ++ (time ++ (resets ++ (halted ++ clock))))) (clock_spelled g.system.conf g.time g.clock)
    ∙ sym (append_assoc (container ++ ticks ++ time ++ resets) halted clock ∙ append_assoc (container ++ ticks ++ time) resets (halted ++ clock)
    ∙ append_assoc (container ++ ticks) time (resets ++ (halted ++ clock)) ∙ append_assoc container ticks (time ++ (resets ++ (halted ++ clock))))

-- all partitions
parts_spelled : {F X Y : Type 0} (part : ℕ → Codec F X) (number : ℕ → ℕ) (made : ℕ → Y → X) (text : ℕ → List ℕ) (ys : List Y)
    → ((k : ℕ) (y : Y) → slice_get ys k ≡ Some y → (part (number k)).spell (made k y) ≡ text k) → (each_of part (table number (length ys))).spell (each made ys) ≡ all_texts text (length ys)
parts_spelled part number made text [] same = refl
parts_spelled part number made text (y ∷ ys) same =
    λ i. same 0 y refl i ++ parts_spelled part (λ k. number (suc k)) (λ k. made (suc k)) (λ k. text (suc k)) ys (λ k one there. same (suc k) one there) i

module _ (container : List ℕ) (g : Machine) (counted : length g.parts ≡ length g.system.conf.parts) where
  all_parts : (each_of (λ p. partition_format g.system.conf (loaded_of g.system p) (saved_head container g) p) (table (λ p. p) (length g.system.conf.parts))).spell (each (λ p. saved_part (view_of g.system p)) g.parts) ≡ parts_text g
  unfolding parts_text part_text
  all_parts =
      ap (λ (n : ℕ). (each_of (λ p. partition_format g.system.conf (loaded_of g.system p) (saved_head container g) p) (table (λ p. p) n)).spell (each (λ p. saved_part (view_of g.system p)) g.parts)) (sym counted)
      ∙ parts_spelled (λ p. partition_format g.system.conf (loaded_of g.system p) (saved_head container g) p) (λ p. p) (λ p. saved_part (view_of g.system p)) (part_text g) g.parts
      (λ p ps there. ap (λ (one : PartitionState). (partition_format g.system.conf (loaded_of g.system p) (saved_head [] g) p).spell (saved_part (view_of g.system p) one)) (sym (get_or_from_slice_get g.parts p ps _ there)))

  -- all fields
  machine_spelled : (machine_format g.system.conf (loaded_of g.system) container).spell (saved_of container g) ≡ machine_text container g
  unfolding machine_text channels_text saved_of
  machine_spelled =
      (λ i. head_spelled container g i ++ (contents_spelled g.system.conf.chans g.channels i ++ all_parts i))
      ∙ sym (append_assoc (machine_head_text container g) (channels_text g) (parts_text g))

  -- the file
  pub file_is : saved_file container g ≡ sealed_text (machine_text container g)
  unfolding saved_file sealed_text text_before
  file_is = ap sealed_text machine_spelled

-- how long a file is
pub sealed_long : (fields : List ℕ) → length (sealed_text fields) ≡ 26 + length fields
unfolding sealed_text text_before
sealed_long fields = length-sealed saved_faults (codes "XMSM") (raw_bytes saved_short 0) refl fields
