-- What is saved of a machine has a spelling.
use Rattle.std.proofs.Common.{◌≡◌, ◌≢◌, ℕ, zero, suc, ◌+◌, ◌-◌, ◌*◌, ◌/◌, ◌%◌, ◌^◌, ◌<◌, ◌≤◌, Bool, true, false, List, [], ◌∷◌, length, map, get_or, Option, None, Some, refl, sym, ap, ◌∙◌, subst, arith, pow-suc}
use Rattle.std.specs.Prelude.{codes, ◌&&◌, ◌||◌, ◌==◌, nat_le, nat_lt, not, is_some, slice_get, All, IfSome, IsSome, if◌then◌else◌}
use Rattle.std.specs.Option.{ForSome}
use Rattle.std.specs.Str.{bytes_eq}
use Rattle.std.specs.Int.{w16, w32, w64, w8}
use Rattle.std.proofs.lemmas.Bool.{false≢true}
use Rattle.std.proofs.lemmas.Bool.Decides.{Decides-eqb, nat_tests}
use Rattle.std.proofs.lemmas.Option.{slice_get-get_or}
use Rattle.std.proofs.lemmas.Slice.Eq.{bytes_eq-Decides}
use Rattle.std.proofs.lemmas.List.Elements.{All-head, All-tail}
use Rattle.codecs.specs.Codec.{Codec, each_of, items_fit, limit_of, times}
use Rattle.codecs.specs.Files.{sealed_length}
use Rattle.codecs.specs.lemmas.CodecLemmas.{test_of}
use Rattle.codecs.specs.lemmas.FileLemmas.{length-sealed}
use Rattle.codecs.specs.lemmas.ReadLemmas.{and_both}
use Rattle.cyclic_plans.specs.Slots.{frame_of}
use Rattle.guest_bus.specs.Memory.{Area, Memory}
use Rattle.guest_bus.specs.lemmas.MemoryLemmas.{length-bytes_at}
use Rattle.guest_memory.specs.Loading.{memory_areas}
use Rattle.guest_memory.specs.Memories.{IsPlaced}
use Rattle.health_monitor.specs.declared.entry.HealthEntry.{HealthEntry}
use Rattle.machine_model.specs.CoreFile.{bits_of_flags}
use Rattle.machine_model.specs.Facts.{AreEnds, IsChannelEnd}
use Rattle.machine_model.specs.Lists.{each, table}
use Rattle.machine_model.specs.Machine.{Machine}
use Rattle.machine_model.specs.Partition.{PartitionState, areas_of, is_halted}
use Rattle.machine_model.specs.Structures.{flag}
use Rattle.machine_model.specs.View.{part_of, port_channel, view_of, with_its_name}
use Rattle.machine_model.specs.lemmas.ListLemmas.{table_at}
use Rattle.saved_machines.specs.Laws.{SavableMachinesFit, SavableMachinesReadBack}
use Rattle.saved_machines.specs.Savable.{AreSavedRegisters, AreSavedTraps, AreSavedWords, IsSavable, IsSavedContent, IsSavedHealth, IsSavedState, IsSavedTrace}
use Rattle.saved_machines.specs.Saved.{SavedPage}
use Rattle.saved_machines.specs.SavedFields.{SavedCodec, action_field, any_word, are_channel_ends, content_field, event_field, flag_field, health_field, is_channel_end, kept_count, log_field, made_field, message_field, saved_faults, state_field, timer_field, trace_field}
use Rattle.saved_machines.specs.SavedFormat.{area_pages_format, asked_format, clock_format, head_format, loaded_page, machine_format, page_format, partition_format, processor_format, standing_format, store_format, traps_format}
use Rattle.saved_machines.specs.Saving.{changed_in, changed_pages, loaded_of, page_bytes, saved_file, saved_head, saved_of, saved_part, saved_processor, saved_standing, saved_store}
use Rattle.saved_machines.proofs.FormatLemmas.{saved_lawful}
use Rattle.sparc_step.specs.Registers.{Registers}
use Rattle.virt_clocks.specs.Clocks.{IsTimer}
use Rattle.virt_clocks.specs.declared.timer.Timer.{Timer}
use Rattle.virt_traps.specs.Virtual.{VirtualTraps}
use Rattle.xm_base.specs.declared.partition.State.{State}
use Rattle.xm_base.specs.declared.partition.State.TheVariants.{Ready, Idle, Suspended, Halted}
use Rattle.xm_conf.specs.Configuration.{Chan, Conf}
use Rattle.xm_conf.specs.View.{channel_of}
use Rattle.xm_conf.specs.declared.channel.ChanKind.{ChanKind}
use Rattle.xm_conf.specs.declared.channel.ChanKind.TheVariants as chan_kind
use Rattle.xm_conf.specs.declared.health.Action.{Action}
use Rattle.xm_conf.specs.declared.health.Action.TheVariants as action
use Rattle.xm_conf.specs.declared.health.Event.{Event}
use Rattle.xm_conf.specs.declared.health.Event.TheVariants as event
use Rattle.xm_ports.specs.Channels.{Content, HasMost, IsMessage, IsShape, Queuing, Sampling, Suits, SuitsKind, shape_of}
use Rattle.xm_ports.specs.Ports.{is_made}
use Rattle.xm_traces.specs.Ring.{IsKept, Kept}
use Rattle.xm_traces.specs.declared.entry.TraceEntry.{TraceEntry}

-- three and more tests
and_three : (a b c : Bool) → a ≡ true → b ≡ true → c ≡ true → (a && (b && c)) ≡ true
and_three a b c x y z = and_both a (b && c) x (and_both b c y z)

-- tests on numbers
at_most : (n most : ℕ) → n ≤ most → nat_le n most ≡ true
at_most n most le = grind (arith, nat_tests, le)

equal : (n m : ℕ) → n ≡ m → (n == m) ≡ true
equal n m is = (Decides-eqb n m).1 is

apart : (n m : ℕ) → n ≢ m → not (n == m) ≡ true
apart n m differ = at (n == m) refl
  where
    at : (b : Bool) → (n == m) ≡ b → not b ≡ true
    at true same = absurd (differ ((Decides-eqb n m).0 same))
    at false same = refl

-- a flag, and the state of a partition
flag_fits : (b : Bool) → flag_field.fits b ≡ true
flag_fits true = refl
flag_fits false = refl

state_fits : (s : State) → state_field.fits s ≡ true
state_fits Ready = refl
state_fits Idle = refl
state_fits Suspended = refl
state_fits Halted = refl

-- items of one format
times_fit : {F X : Type 0} (c : Codec F X) (P : X → Type 0) (count : ℕ) → ((x : X) → P x → c.fits x ≡ true) → (xs : List X) → length xs ≡ count → All P xs → (times count c).fits xs ≡ true
times_fit c P zero fits [] long all = refl
times_fit c P zero fits (x ∷ xs) long all = absurd (omega (arith, long))
times_fit c P (suc count) fits [] long all = absurd (omega (arith, long))
times_fit c P (suc count) fits (x ∷ xs) long all =
    and_both (c.fits x) ((times count c).fits xs) (fits x (All-head P x xs all)) (times_fit c P count fits xs (omega (arith, long)) (All-tail P x xs all))

words_fit : (count : ℕ) (words : List ℕ) → length words ≡ count → AreSavedWords words → (times count any_word).fits words ≡ true
words_fit count words long all = times_fit any_word (λ n. n < 2 ^ 32) count (λ n below. test_of n (limit_of w32) below) words long all

-- how a partition stands
standing_fits : (container : List ℕ) (g : Machine) (p : ℕ) (ps : PartitionState) → g.ticks ≤ 4000000000 → ps.clocks.execution ≤ g.ticks + flag g.halted → IsSavedState ps → (standing_format (saved_head container g) p).fits (saved_standing ps) ≡ true
standing_fits container g p ps few execution is =
    let small : ps.clocks.execution < 2 ^ 64 = within (flag g.halted) (one g.halted) execution in
    and_three true (state_field.fits ps.state) _ refl (state_fits ps.state)
    (and_three (nat_lt ps.resets (limit_of w32)) (nat_lt ps.reset_status (limit_of w32)) _ (test_of _ _ is.resets) (test_of _ _ is.reset_status)
    (and_both (nat_lt ps.clocks.execution (limit_of w64)) (nat_le ps.clocks.execution (g.ticks + flag g.halted)) (test_of _ _ small) (at_most _ _ execution)))
  where
    one : (b : Bool) → flag b ≤ 1
    one true = omega arith
    one false = omega arith

    within : (more : ℕ) → more ≤ 1 → ps.clocks.execution ≤ g.ticks + more → ps.clocks.execution < 2 ^ 64
    within more le bound = omega (arith, le, bound, few)

-- the registers without a number
processor_fits : (core : Registers) → AreSavedRegisters core → processor_format.fits (saved_processor core) ≡ true
processor_fits core is =
    let always = is.always in
    and_three (nat_lt core.pc (limit_of w32) && core.pc % 4 == 0) (nat_lt core.npc (limit_of w32) && core.npc % 4 == 0) _
    (and_both _ _ (test_of _ _ is.pc) (equal _ _ always.pc_aligned)) (and_both _ _ (test_of _ _ is.npc) (equal _ _ always.npc_aligned))
    (and_three (nat_lt core.y (limit_of w32)) (nat_lt core.icc (limit_of w8) && nat_lt core.icc 16) _
    (test_of _ _ is.y) (and_both _ _ (test_of core.icc (limit_of w8) (omega (arith, always.four_conditions))) (test_of _ _ always.four_conditions))
    (and_both (nat_lt core.cwp (limit_of w8) && nat_lt core.cwp 8) (nat_lt core.inv (limit_of w8) && (nat_lt core.inv 8 && not (core.inv == core.cwp)))
    (and_both _ _ (test_of core.cwp (limit_of w8) (omega (arith, always.current_window))) (test_of _ _ always.current_window))
    (and_three _ _ _ (test_of core.inv (limit_of w8) (omega (arith, always.invalid_window))) (test_of _ _ always.invalid_window) (apart _ _ (λ same. always.windows_differ (sym same))))))

-- the virtual traps
traps_fit : (traps : VirtualTraps) → AreSavedTraps traps → traps.base % 4096 ≡ 0 → traps_format.fits traps ≡ true
traps_fit traps is page =
    and_three (flag_field.fits traps.enabled) (nat_lt traps.base (limit_of w32) && traps.base % 4096 == 0) _
    (flag_fits traps.enabled) (and_both _ _ (test_of _ _ is.base) (equal _ _ page))
    (and_both (nat_lt traps.pending (limit_of w32)) (nat_lt traps.mask (limit_of w32)) (test_of _ _ is.pending) (test_of _ _ is.mask))

-- a timer
timer_fits : (timer : Option Timer) → ForSome timer IsTimer → timer_field.fits timer ≡ true
timer_fits None is = refl
timer_fits (Some timer) is =
    let can = is timer refl in
    let deadline : timer.deadline < 2 ^ 64 = omega (arith, can.deadline) in
    let interval : timer.interval < 2 ^ 64 = omega (arith, can.interval) in
    and_both _ _ (and_three (nat_lt timer.deadline (limit_of w64)) (nat_le 1 timer.deadline) (nat_lt timer.deadline (2 ^ 63)) (test_of _ _ deadline) (at_most 1 timer.deadline (omega (arith, can.some))) (test_of _ _ can.deadline))
    (and_both (nat_lt timer.interval (limit_of w64)) (nat_lt timer.interval (2 ^ 63)) (test_of _ _ interval) (test_of _ _ can.interval))

-- logs
trace_fits : (entry : TraceEntry) → IsSavedTrace entry → trace_field.fits entry ≡ true
trace_fits entry is =
    and_three (nat_lt entry.time (limit_of w64)) (nat_lt entry.bits (limit_of w32)) _ (test_of _ _ is.time) (test_of _ _ is.bits)
    (and_both (nat_lt entry.seq (limit_of w32)) (length entry.load == 8) (test_of _ _ is.seq) (equal _ _ is.load))

every_event : (e : Event) → event_field.fits e ≡ true
every_event event.PartitionError = refl
every_event event.MemProtection = refl
every_event event.UnexpectedTrap = refl
every_event event.SparcIllegalInstruction = refl
every_event event.SparcPrivilegedInstruction = refl
every_event event.SparcFpDisabled = refl
every_event event.SparcCpDisabled = refl
every_event event.SparcAddressNotAligned = refl
every_event event.SparcTagOverflow = refl
every_event event.SparcDivideException = refl
every_event event.SparcInstrAccess = refl
every_event event.SparcDataAccess = refl

every_action : (a : Action) → action_field.fits a ≡ true
every_action action.Ignore = refl
every_action action.Shutdown = refl
every_action action.PartitionColdReset = refl
every_action action.PartitionWarmReset = refl
every_action action.Suspend = refl
every_action action.Halt = refl
every_action action.Propagate = refl
every_action action.HypervisorColdReset = refl
every_action action.HypervisorWarmReset = refl
every_action action.HypervisorHalt = refl
every_action action.SwitchToMaintenance = refl

health_fits : (entry : HealthEntry) → IsSavedHealth entry → health_field.fits entry ≡ true
health_fits entry is =
    and_three (nat_lt entry.time (limit_of w64)) (nat_lt entry.seq (limit_of w32)) _ (test_of _ _ is.time) (test_of _ _ is.seq)
    (and_three (event_field.fits entry.event) (action_field.fits entry.action) _ (every_event entry.event) (every_action entry.action) (test_of entry.word (limit_of w32) is.word))

log_fits : {T : Type 0} (most size : ℕ) (entry : SavedCodec T) (P : T → Type 0) (kept : Kept T) → ((e : T) → P e → entry.fits e ≡ true) → kept.next ≤ most → IsKept kept → All P kept.entries → (log_field most size entry).fits kept ≡ true
log_fits most size entry P kept fits few is all =
    let oldest : kept.next - kept_count kept.next < 2 ^ 32 = omega (arith, is.within) in
    and_three _ _ _
    (and_three (nat_lt (kept.next - kept_count kept.next) (limit_of w32)) (nat_lt kept.next (limit_of w32)) _ (test_of _ _ oldest) (test_of _ _ is.within)
    (and_both (nat_le kept.next most) (kept.next - kept_count kept.next == kept.next - kept_count kept.next) (at_most _ _ few) (equal _ _ refl)))
    (times_fit entry P (kept_count kept.next) fits kept.entries is.count all) refl

-- messages, and what channels hold
message_fits : (most : ℕ) (bytes : List ℕ) → most ≤ 4096 → IsMessage most bytes → (message_field most).fits bytes ≡ true
message_fits most bytes few is =
    let short : length bytes < 2 ^ 16 = omega (arith, few, is.fit) in
    and_both _ _ (and_three (nat_lt (length bytes) (limit_of w16)) (nat_le 1 (length bytes)) (nat_le (length bytes) most) (test_of _ _ short) (at_most 1 (length bytes) is.some) (at_most _ _ is.fit)) (equal (length bytes) (length bytes) refl)

content_fits : (kind : ChanKind) (most : ℕ) (content : Content) → most ≤ 4096 → HasMost kind → SuitsKind kind most content → IsSavedContent content → (content_field kind most).fits content ≡ true
content_fits (chan_kind.Sampling refresh) most (Sampling None) few kind suits time = refl
content_fits (chan_kind.Sampling refresh) most (Sampling (Some held)) few kind suits time =
    and_both _ true (and_both true _ refl (and_both (nat_lt held.time (limit_of w64)) _ (test_of _ _ time) (message_fits most held.bytes few suits))) refl
content_fits (chan_kind.Sampling refresh) most (Queuing messages) few kind suits time = absurd suits
content_fits (chan_kind.Queuing room) most (Sampling sample) few kind suits time = absurd suits
content_fits (chan_kind.Queuing room) most (Queuing messages) few kind suits time =
    let short : length messages < 256 = omega (arith, kind.1, suits.few) in
    and_both _ true
    (and_both _ _ (and_both (nat_lt (length messages) (limit_of w8)) (nat_le (length messages) room) (test_of _ _ short) (at_most _ _ suits.few))
    (times_fit (message_field most) (IsMessage most) (length messages) (λ bytes is. message_fits most bytes few is) messages refl suits.each)) refl

channels_fit : (chans : List Chan) (contents : List Content) → length contents ≡ length chans → ((c : ℕ) (chan : Chan) (content : Content) → slice_get chans c ≡ Some chan → slice_get contents c ≡ Some content → Suits (shape_of chan) content)
    → All (λ chan. IsShape (shape_of chan)) chans → All IsSavedContent contents → (each_of (λ chan. content_field chan.kind chan.length) chans).fits contents ≡ true
channels_fit [] [] long suits shapes times = refl
channels_fit [] (content ∷ contents) long suits shapes times = absurd (omega (arith, long))
channels_fit (chan ∷ chans) [] long suits shapes times = absurd (omega (arith, long))
channels_fit (chan ∷ chans) (content ∷ contents) long suits shapes times =
    let shape = All-head (λ (one : Chan). IsShape (shape_of one)) chan chans shapes in
    and_both _ _ (content_fits chan.kind chan.length content shape.few shape.most (suits 0 chan content refl refl).held (All-head IsSavedContent content contents times))
    (channels_fit chans contents (omega (arith, long)) (λ c one other. suits (suc c) one other) (All-tail (λ (one : Chan). IsShape (shape_of one)) chan chans shapes) (All-tail IsSavedContent content contents times))

-- the made ports as a word
flag_few : (one : Bool) → flag one ≤ 1
flag_few true = omega arith
flag_few false = omega arith

bits_below : (made : List Bool) → bits_of_flags made < 2 ^ length made
bits_below [] = omega arith
bits_below (one ∷ rest) = omega (arith, bits_below rest, flag_few one, pow-suc 2 (length rest))

port_below : {X : Type 0} (xs : List X) (r : ℕ) → IsSome (slice_get xs r) → r < length xs
port_below [] zero some = absurd (false≢true some)
port_below [] (suc r) some = absurd (false≢true some)
port_below (x ∷ xs) zero some = omega arith
port_below (x ∷ xs) (suc r) some = omega (arith, port_below xs r some)

channel_some : (conf : Conf) (p : ℕ) (found : Option ℕ) → IsSome (with_its_name conf p found) → is_some found ≡ true
channel_some conf p None some = absurd (false≢true some)
channel_some conf p (Some c) some = refl

end_fits : (g : Machine) (p r : ℕ) → IsChannelEnd (view_of g.system p) r → is_channel_end g.system.conf p r ≡ true
unfolding view_of port_channel
end_fits g p r is =
    let below = port_below (part_of g.system.conf p).ports r is.port in
    and_both _ _ (test_of _ _ below)
    (channel_some g.system.conf p (channel_of g.system.conf p r) (subst IsSome (table_at (port_channel g.system.conf p) (length (part_of g.system.conf p).ports) r below) is.channel))

ends_fit : (conf : Conf) (p r : ℕ) (made : List Bool) → ((k : ℕ) → is_made k made ≡ true → is_channel_end conf p (r + k) ≡ true) → are_channel_ends conf p r made ≡ true
ends_fit conf p r [] each = refl
ends_fit conf p r (one ∷ later) each =
    and_both _ _ (first one (λ is. ap (is_channel_end conf p) (omega arith) ∙ each 0 is)) (ends_fit conf p (suc r) later (λ k is. ap (is_channel_end conf p) (omega arith) ∙ each (suc k) is))
  where
    first : (b : Bool) → (b ≡ true → is_channel_end conf p r ≡ true) → (not b || is_channel_end conf p r) ≡ true
    first true f = f refl
    first false f = refl

made_fits : (g : Machine) (p : ℕ) (made : List Bool) → length made ≡ 32 → AreEnds (view_of g.system p) made → (made_field g.system.conf p).fits made ≡ true
made_fits g p made long ends =
    let below : bits_of_flags made < 2 ^ 32 = subst (λ (n : ℕ). bits_of_flags made < 2 ^ n) long (bits_below made) in
    and_both _ _ (and_both (nat_lt (bits_of_flags made) (limit_of w32)) (length made == 32) (test_of _ _ below) (equal _ _ long))
    (ends_fit g.system.conf p 0 made (λ k is. ap (is_channel_end g.system.conf p) (omega arith) ∙ end_fits g p k (ends k is)))

-- pages
module _ (m loaded : Memory) where
  few_pages : (a count : ℕ) → length (changed_pages loaded m a count) ≤ count
  unfolding changed_pages
  few_pages a zero = omega arith
  few_pages a (suc count) = at (bytes_eq (page_bytes m a) (loaded_page loaded a)) (few_pages (a + 256) count)
    where
      at : (b : Bool) → length (changed_pages loaded m (a + 256) count) ≤ count
          → length (if b then changed_pages loaded m (a + 256) count else record { address = a; bytes = page_bytes m a } ∷ changed_pages loaded m (a + 256) count) ≤ suc count
      at true few = omega (arith, few)
      at false few = omega (arith, few)

  page_long : (a : ℕ) → length (page_bytes m a) ≡ 256
  unfolding page_bytes
  page_long a = length-bytes_at m a 256

  -- pages from a floor on
  abbrev pages_pass : Area → ℕ → List SavedPage → Bool
  pages_pass area floor pages = items_fit (λ at. false) (λ at. page_format area loaded at) (λ at page. page.address + 256) (length pages) floor pages

  page_fits : (area : Area) (a floor : ℕ) → floor ≤ a → a % 256 ≡ 0 → a < area.start + area.size → a < 2 ^ 32 → bytes_eq (page_bytes m a) (loaded_page loaded a) ≡ false → (page_format area loaded floor).fits (record { address = a; bytes = page_bytes m a }) ≡ true
  page_fits area a floor from whole under word differ =
      let test : (nat_le floor a && a % 256 == 0 && nat_lt a (area.start + area.size)) ≡ true = rw (at_most floor a from, equal (a % 256) 0 whole, test_of a (area.start + area.size) under) refl in
      let new : not (bytes_eq (page_bytes m a) (loaded_page loaded a)) ≡ true = rw differ refl in
      and_both _ _ (and_both _ _ (and_both (nat_lt a (limit_of w32)) _ (test_of a (limit_of w32) word) test) (equal (length (page_bytes m a)) 256 (page_long a))) new

  pages_fit : (area : Area) (a count floor : ℕ) → floor ≤ a → a % 256 ≡ 0 → a + 256 * count ≤ area.start + area.size → a + 256 * count ≤ 2 ^ 32 → pages_pass area floor (changed_pages loaded m a count) ≡ true
  unfolding changed_pages
  pages_fit area a zero floor from whole under word = refl
  pages_fit area a (suc count) floor from whole under word =
      let next : (a + 256) % 256 ≡ 0 = omega (arith, whole) in
      at (bytes_eq (page_bytes m a) (loaded_page loaded a)) refl
      (pages_fit area (a + 256) count floor (omega (arith, from)) next (omega (arith, under)) (omega (arith, word)))
      (pages_fit area (a + 256) count (a + 256) (omega arith) next (omega (arith, under)) (omega (arith, word)))
    where
      at : (b : Bool) → bytes_eq (page_bytes m a) (loaded_page loaded a) ≡ b → pages_pass area floor (changed_pages loaded m (a + 256) count) ≡ true → pages_pass area (a + 256) (changed_pages loaded m (a + 256) count) ≡ true
          → pages_pass area floor (if b then changed_pages loaded m (a + 256) count else record { address = a; bytes = page_bytes m a } ∷ changed_pages loaded m (a + 256) count) ≡ true
      at true same skipped kept = skipped
      at false differ skipped kept = and_both _ _ (page_fits area a floor from whole (omega (arith, under)) (omega (arith, word)) differ) kept

  area_fits : (area : Area) → IsPlaced area → (area_pages_format loaded area).fits (changed_in loaded m area) ≡ true
  area_fits area is =
      let whole : area.start % 256 ≡ 0 = omega (arith, is.start) in
      let few : length (changed_in loaded m area) < 2 ^ 32 = omega (arith, few_pages area.start (area.size / 256), is.ends) in
      and_both (nat_lt (length (changed_in loaded m area)) (limit_of w32)) _ (test_of _ _ few)
      (pages_fit area area.start (area.size / 256) area.start (omega arith) whole (omega arith) (omega (arith, is.ends)))

  areas_fit : (areas : List Area) → All IsPlaced areas → (each_of (λ area. area_pages_format loaded area) areas).fits (map (changed_in loaded m) areas) ≡ true
  areas_fit [] placed = refl
  areas_fit (area ∷ areas) placed = and_both _ _ (area_fits area (All-head IsPlaced area areas placed)) (areas_fit areas (All-tail IsPlaced area areas placed))

-- a partition
module _ (container : List ℕ) (g : Machine) (is : IsSavable container g) (p : ℕ) (ps : PartitionState) (there : slice_get g.parts p ≡ Some ps) where
  store_fits : (store_format g.system.conf (loaded_of g.system p) (saved_head container g) p (is_halted ps.state) (length ps.inputs)).fits (saved_store (view_of g.system p) ps) ≡ true
  unfolding view_of areas_of
  store_fits =
      let state = is.stored.parts p ps there in
      let facts = is.facts p ps there in
      and_three _ _ _ (made_fits g p ps.made state.ports facts.made)
      (and_both _ _ (words_fit 8 ps.core.globals state.core.always.eight_globals state.core.globals) (equal _ 0 state.core.always.zero))
      (and_three _ _ _ (words_fit 128 ps.core.windows state.core.always.eight_windows state.core.windows)
      (log_fits g.ticks 24 trace_field IsSavedTrace ps.traces trace_fits facts.traces state.traces state.trace_entries)
      (and_three _ _ _ (log_fits (g.ticks + flag (g.halted || is_halted ps.state)) 20 health_field IsSavedHealth ps.health health_fits facts.health state.health state.health_entries)
      (words_fit (length ps.inputs) ps.inputs refl state.words)
      (areas_fit ps.memory (loaded_of g.system p) (memory_areas (part_of g.system.conf p)) (is.conf.placed p))))

  part_fits : (partition_format g.system.conf (loaded_of g.system p) (saved_head container g) p).fits (saved_part (view_of g.system p) ps) ≡ true
  unfolding saved_part
  part_fits =
      let state = is.stored.parts p ps there in
      let facts = is.facts p ps there in
      let part = is.parts p ps there in
      and_three _ _ _ (standing_fits container g p ps (omega (arith, is.ticks)) facts.execution state) (processor_fits ps.core state.core)
      (and_three _ _ _ (traps_fit ps.traps state.traps state.table) (timer_fits ps.clocks.hardware_timer state.timers.hardware)
      (and_three _ (nat_lt (length ps.inputs) (limit_of w32)) _ (timer_fits ps.clocks.execution_timer state.timers.execution) (test_of _ _ part.inputs) store_fits))

parts_fit : {F X Y : Type 0} (part : ℕ → Codec F X) (number : ℕ → ℕ) (made : ℕ → Y → X) (ys : List Y) → ((k : ℕ) (y : Y) → slice_get ys k ≡ Some y → (part (number k)).fits (made k y) ≡ true) → (each_of part (table number (length ys))).fits (each made ys) ≡ true
parts_fit part number made [] fit = refl
parts_fit part number made (y ∷ ys) fit =
    and_both _ _ (fit 0 y refl) (parts_fit part (λ k. number (suc k)) (λ k. made (suc k)) ys (λ k one there. fit (suc k) one there))

-- the plan that is asked for
asked_fits : (plans : ℕ) (asked : Option ℕ) → plans ≤ 256 → IfSome asked (λ plan. plan < plans) → (asked_format plans).fits asked ≡ true
asked_fits plans None few is = refl
asked_fits plans (Some plan) few is = and_both true _ refl (and_both (nat_lt plan (limit_of w8)) (nat_lt plan plans) (test_of plan (limit_of w8) (omega (arith, few, is))) (test_of _ _ is))

module _ (container : List ℕ) (g : Machine) (is : IsSavable container g) where
  clock_fits : (clock_format g.system.conf g.time).fits g.clock ≡ true
  clock_fits =
      let in_frame = is.clocked.in_frame in
      let plan : g.clock.plan < 256 = omega (arith, in_frame.plan, is.conf.plans) in
      let start : g.clock.frame_start < 2 ^ 64 = omega (arith, in_frame.begun, is.timed, is.ticks) in
      and_three _ _ _ (and_both (nat_lt g.clock.plan (limit_of w8)) (nat_lt g.clock.plan (length g.system.conf.plans)) (test_of _ _ plan) (test_of _ _ in_frame.plan))
      (and_three (nat_lt g.clock.frame_start (limit_of w64)) (nat_le g.clock.frame_start g.time) (nat_lt g.time (g.clock.frame_start + frame_of g.system.conf g.clock.plan))
      (test_of _ _ start) (at_most _ _ in_frame.begun) (test_of _ _ in_frame.before_end))
      (asked_fits (length g.system.conf.plans) g.clock.asked is.conf.plans is.clocked.asked)

  head_fits : (head_format g.system.conf container).fits (saved_head container g) ≡ true
  head_fits =
      let ticks : g.ticks < 2 ^ 64 = omega (arith, is.ticks) in
      let time : g.time < 2 ^ 64 = omega (arith, is.ticks, is.timed) in
      and_three _ _ _ (and_both (length container == 16) (bytes_eq container container) (equal _ _ is.digest) ((bytes_eq-Decides container container).1 refl))
      (and_both (nat_lt g.ticks (limit_of w64)) (nat_le g.ticks 4000000000) (test_of _ _ ticks) (at_most _ _ (omega (arith, is.ticks))))
      (and_three _ (nat_lt g.resets (limit_of w32)) _ (and_both (nat_lt g.time (limit_of w64)) (nat_le g.time g.ticks) (test_of _ _ time) (at_most _ _ is.timed)) (test_of _ _ is.stored.resets)
      (and_both (flag_field.fits g.halted && nat_le (g.ticks + flag g.halted) 4000000000) _ (and_both _ _ (flag_fits g.halted) (at_most _ _ is.ticks)) clock_fits))

  all_fit : (each_of (λ p. partition_format g.system.conf (loaded_of g.system p) (saved_head container g) p) (table (λ p. p) (length g.system.conf.parts))).fits (each (λ p. saved_part (view_of g.system p)) g.parts) ≡ true
  all_fit =
      ap (λ (n : ℕ). (each_of (λ p. partition_format g.system.conf (loaded_of g.system p) (saved_head container g) p) (table (λ p. p) n)).fits (each (λ p. saved_part (view_of g.system p)) g.parts)) (sym is.complete.parts)
      ∙ parts_fit (λ p. partition_format g.system.conf (loaded_of g.system p) (saved_head container g) p) (λ p. p) (λ p. saved_part (view_of g.system p)) g.parts (λ p ps there. part_fits container g is p ps there)

  held_in_time : All IsSavedContent g.channels
  held_in_time = λ c none below. is.stored.contents c (get_or g.channels c none) (omega (arith, below, is.shapes.counted)) (slice_get-get_or g.channels c none below)

  machine_fits : (machine_format g.system.conf (loaded_of g.system) container).fits (saved_of container g) ≡ true
  unfolding saved_of
  machine_fits = and_three _ _ _ head_fits (channels_fit g.system.conf.chans g.channels is.shapes.counted is.shapes.suited is.conf.chans held_in_time) all_fit

pub savable_fits : SavableMachinesFit
unfolding saved_file
savable_fits container g is =
    let format = machine_format g.system.conf (loaded_of g.system) container in
    let long = length-sealed saved_faults (codes "XMSM") format refl (saved_of container g) in
    let short : sealed_length (length (format.spell (saved_of container g))) < 2 ^ 32 = omega (arith, long, is.short) in
    and_both _ _ (machine_fits container g is) (test_of _ _ short)

pub savable_reads_back : SavableMachinesReadBack
unfolding saved_file
savable_reads_back container g is = (saved_lawful g.system.conf (loaded_of g.system) container).again (saved_of container g) (savable_fits container g is)
