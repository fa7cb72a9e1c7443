-- What is read of a file can be restored: what the tests of the format say.
use Rattle.std.proofs.Common.{◌≡◌, ℕ, zero, suc, ◌+◌, ◌-◌, ◌%◌, ◌^◌, ◌<◌, ◌≤◌, Bool, true, false, List, [], ◌∷◌, length, map, min, Option, None, Some, Result, Ok, Err, refl, sym, ap, ◌∙◌, subst, arith}
use Rattle.std.specs.Prelude.{◌&&◌, ◌||◌, ◌==◌, codes, nat_le, nat_lt, not, slice_get, All, IfOk, IfSome, unwrap_or}
use Rattle.std.specs.Option.{ForSome}
use Rattle.std.specs.Int.{w16, w32, w64, w8}
use Rattle.std.specs.Str.{bytes_eq}
use Rattle.std.proofs.lemmas.Bool.{false≢true}
use Rattle.std.proofs.lemmas.Bool.Decides.{Decides-eqb, nat_tests}
use Rattle.std.proofs.lemmas.List.{length-map}
use Rattle.std.proofs.lemmas.List.Elements.{All-cons, All-head, All-nil, All-tail}
use Rattle.codecs.specs.Codec.{Codec, each_of, items_fit, limit_of, no_bytes, optional, times}
use Rattle.codecs.specs.Lawful.{IsFileOf}
use Rattle.codecs.specs.lemmas.ItemLemmas.{length-items}
use Rattle.codecs.specs.lemmas.ReadLemmas.{and_both, both}
use Rattle.cyclic_plans.specs.PlanClock.{AsksPlan, CyclicClock, IsInFrame}
use Rattle.cyclic_plans.specs.Slots.{frame_of}
use Rattle.file_headers.specs.Gives.{Gives}
use Rattle.file_headers.specs.Heads.{unsealed}
use Rattle.guest_bus.specs.Memory.{Area, Memory, all_from, holds_address, is_readable}
use Rattle.guest_memory.specs.Loading.{memory_areas}
use Rattle.guest_memory.specs.Memories.{IsPlaced}
use Rattle.machine_model.specs.CoreFile.{bits_of_flags}
use Rattle.machine_model.specs.Facts.{HaveEight}
use Rattle.machine_model.specs.Lists.{table}
use Rattle.machine_model.specs.Partition.{is_halted}
use Rattle.machine_model.specs.Structures.{flag}
use Rattle.machine_model.specs.View.{part_of}
use Rattle.saved_machines.specs.Laws.{ReadMachinesAreRestorable}
use Rattle.saved_machines.specs.Reading.{Fails, saved_value}
use Rattle.saved_machines.specs.Restorable.{ArePages, IsRestorable, IsRestorablePart}
use Rattle.saved_machines.specs.Saved.{SavedHead, SavedMachine, SavedPage, SavedPartition, SavedStore}
use Rattle.saved_machines.specs.SavedFields.{SavedCodec, any_word, are_channel_ends, content_field, flag_field, globals_field, health_field, kept_count, log_counts, log_field, made_field, message_field, sample_field, saved_faults, state_field, timer_field, trace_field}
use Rattle.saved_machines.specs.SavedFormat.{area_pages_format, asked_format, clock_format, container_format, halted_format, head_format, loaded_page, machine_format, page_format, pages_format, partition_format, processor_format, saved_format, standing_format, store_format, traps_format}
use Rattle.saved_machines.specs.declared.fault.SavedFault.{SavedFault}
use Rattle.saved_machines.specs.declared.machine.Saved.{Saved}
use Rattle.saved_machines.specs.lemmas.ReadTerms.{machine_in}
use Rattle.saved_machines.proofs.ConfLemmas.{conf_placed}
use Rattle.saved_machines.proofs.FormatLemmas.{saved_lawful}
use Rattle.virt_clocks.specs.Clocks.{IsTimer}
use Rattle.virt_clocks.specs.declared.timer.Timer.{Timer}
use Rattle.xm_base.specs.Bytes.{AreBytes}
use Rattle.xm_conf.specs.Configuration.{Chan, Conf}
use Rattle.xm_conf.specs.Description.{described}
use Rattle.xm_conf.specs.Fits.{Fits}
use Rattle.xm_conf.specs.declared.channel.ChanKind.{ChanKind}
use Rattle.xm_conf.specs.declared.channel.ChanKind.TheVariants as chan_kind
use Rattle.xm_ports.specs.Channels.{Content, IsMessage, Queuing, Sampling, Suits, SuitsKind, sample_of, shape_of, shapes_of}
use Rattle.xm_ports.specs.Contents.{EachSuits}
use Rattle.xm_traces.specs.Ring.{Kept, RING_ENTRIES}
use Rattle.xm_traces.specs.declared.entry.TraceEntry.{TraceEntry}

-- tests on numbers
under : (n limit : ℕ) → nat_lt n limit ≡ true → n < limit
under n limit is = grind (arith, nat_tests, is)

up_to : (n most : ℕ) → nat_le n most ≡ true → n ≤ most
up_to n most is = grind (arith, nat_tests, is)

same : (n m : ℕ) → (n == m) ≡ true → n ≡ m
same n m is = (Decides-eqb n m).0 is

-- items of one format
times_each : {F X : Type 0} (c : Codec F X) (P : X → Type 0) (count : ℕ) → ((x : X) → c.fits x ≡ true → P x) → (xs : List X) → (times count c).fits xs ≡ true → All P xs
times_each c P zero each [] fits = All-nil P
times_each c P zero each (x ∷ xs) fits = absurd (false≢true fits)
times_each c P (suc count) each [] fits = absurd (false≢true fits)
times_each c P (suc count) each (x ∷ xs) fits =
    let two = both (c.fits x) ((times count c).fits xs) fits in
    All-cons P x xs (each x two.0) (times_each c P count each xs two.1)

-- an item for each of a list
each_long : {F A X : Type 0} (part : A → Codec F X) (known : List A) (xs : List X) → (each_of part known).fits xs ≡ true → length xs ≡ length known
each_long part [] [] fits = refl
each_long part [] (x ∷ xs) fits = absurd (false≢true fits)
each_long part (a ∷ known) [] fits = absurd (false≢true fits)
each_long part (a ∷ known) (x ∷ xs) fits = ap suc (each_long part known xs (both ((part a).fits x) ((each_of part known).fits xs) fits).1)

table_long : {X : Type 0} (f : ℕ → X) (count : ℕ) → length (table f count) ≡ count
table_long f zero = refl
table_long f (suc count) = ap suc (table_long (λ k. f (suc k)) count)

each_is : {F X : Type 0} (P : ℕ → X → Type 0) (part : ℕ → Codec F X) (number : ℕ → ℕ) (count : ℕ) → ((k : ℕ) (x : X) → (part (number k)).fits x ≡ true → P k x)
    → (xs : List X) → (each_of part (table number count)).fits xs ≡ true → (k : ℕ) → IfSome (slice_get xs k) (P k)
each_is P part number count each [] fits k = tt
each_is P part number zero each (x ∷ xs) fits k = absurd (false≢true fits)
each_is P part number (suc count) each (x ∷ xs) fits zero =
    each 0 x (both ((part (number 0)).fits x) ((each_of part (table (λ k. number (suc k)) count)).fits xs) fits).0
each_is P part number (suc count) each (x ∷ xs) fits (suc k) =
    each_is (λ j. P (suc j)) part (λ j. number (suc j)) count (λ j y. each (suc j) y) xs (both ((part (number 0)).fits x) ((each_of part (table (λ j. number (suc j)) count)).fits xs) fits).1 k

-- a timer
armed_is : (timer : Timer)
    → ((nat_lt timer.deadline (limit_of w64) && (nat_le 1 timer.deadline && nat_lt timer.deadline (2 ^ 63))) && (nat_lt timer.interval (limit_of w64) && nat_lt timer.interval (2 ^ 63))) ≡ true → IsTimer timer
armed_is timer fits =
    let two = both (nat_lt timer.deadline (limit_of w64) && (nat_le 1 timer.deadline && nat_lt timer.deadline (2 ^ 63))) (nat_lt timer.interval (limit_of w64) && nat_lt timer.interval (2 ^ 63)) fits in
    let deadline = both (nat_le 1 timer.deadline) (nat_lt timer.deadline (2 ^ 63)) (both (nat_lt timer.deadline (limit_of w64)) (nat_le 1 timer.deadline && nat_lt timer.deadline (2 ^ 63)) two.0).1 in
    let interval = (both (nat_lt timer.interval (limit_of w64)) (nat_lt timer.interval (2 ^ 63)) two.1).1 in
    record { some = up_to 1 timer.deadline deadline.0; deadline = under timer.deadline (2 ^ 63) deadline.1; interval = under timer.interval (2 ^ 63) interval }

timer_is : (timer : Option Timer) → timer_field.fits timer ≡ true → ForSome timer IsTimer
timer_is None fits = λ one there. absurd cc
timer_is (Some timer) fits = λ one there. subst IsTimer (ap (λ found. unwrap_or found timer) there) (armed_is timer fits)

-- what a channel holds
message_is : (most : ℕ) (bytes : List ℕ) → (message_field most).fits bytes ≡ true → IsMessage most bytes
message_is most bytes fits =
    let count = length bytes in
    let tests = (both (nat_lt count (limit_of w16)) (nat_le 1 count && nat_le count most) (both (nat_lt count (limit_of w16) && (nat_le 1 count && nat_le count most)) (count == count) fits).0).1 in
    let two = both (nat_le 1 count) (nat_le count most) tests in
    record { some = up_to 1 count two.0; fit = up_to count most two.1 }

content_is : (kind : ChanKind) (most : ℕ) (content : Content) → (content_field kind most).fits content ≡ true → SuitsKind kind most content
content_is (chan_kind.Sampling refresh) most (Sampling None) fits = tt
content_is (chan_kind.Sampling refresh) most (Sampling (Some held)) fits =
    let sample = (both (nat_lt held.time (limit_of w64) && (message_field most).fits held.bytes) true fits).0 in
    message_is most held.bytes (both (nat_lt held.time (limit_of w64)) ((message_field most).fits held.bytes) sample).1
content_is (chan_kind.Sampling refresh) most (Queuing messages) fits = absurd (false≢true (both ((optional flag_field (sample_field most) no_bytes).fits (sample_of (Queuing messages))) false fits).1)
content_is (chan_kind.Queuing room) most (Sampling sample) fits = absurd (false≢true (both (nat_lt 0 (limit_of w8) && nat_le 0 room && true) false fits).1)
content_is (chan_kind.Queuing room) most (Queuing messages) fits =
    let count = length messages in
    let tests = (both ((nat_lt count (limit_of w8) && nat_le count room) && (times count (message_field most)).fits messages) true fits).0 in
    let two = both (nat_lt count (limit_of w8) && nat_le count room) ((times count (message_field most)).fits messages) tests in
    record {
      few = up_to count room (both (nat_lt count (limit_of w8)) (nat_le count room) two.0).1;
      each = times_each (message_field most) (IsMessage most) count (message_is most) messages two.1;
    }

channels_suit : (chans : List Chan) (contents : List Content) → (each_of (λ chan. content_field chan.kind chan.length) chans).fits contents ≡ true
    → (c : ℕ) → IfSome (slice_get (map shape_of chans) c) (λ shape. IfSome (slice_get contents c) (Suits shape))
channels_suit [] contents fits c = tt
channels_suit (chan ∷ chans) [] fits c = absurd (false≢true fits)
channels_suit (chan ∷ chans) (content ∷ contents) fits zero =
    let two = both ((content_field chan.kind chan.length).fits content) ((each_of (λ one. content_field one.kind one.length) chans).fits contents) fits in
    record { held = content_is chan.kind chan.length content two.0 }
channels_suit (chan ∷ chans) (content ∷ contents) fits (suc c) =
    let two = both ((content_field chan.kind chan.length).fits content) ((each_of (λ one. content_field one.kind one.length) chans).fits contents) fits in
    channels_suit chans contents two.1 c

-- a log
record IsLog {T : Type 0} (most : ℕ) (P : T → Type 0) (kept : Kept T) : Type 0 where
  pub count : length kept.entries ≡ min kept.next RING_ENTRIES
  pub most_noted : kept.next ≤ most
  pub each : All P kept.entries

log_is : {T : Type 0} (most size : ℕ) (entry : SavedCodec T) (P : T → Type 0) (kept : Kept T) → ((e : T) → entry.fits e ≡ true → P e) → (log_field most size entry).fits kept ≡ true → IsLog most P kept
log_is most size entry P kept each fits =
    let next = kept.next in
    let oldest = next - kept_count next in
    let entries = (times (kept_count next) entry).fits kept.entries in
    let two = both ((log_counts most).fits next) (entries && true) fits in
    let counts = (both (nat_lt oldest (limit_of w32)) (nat_lt next (limit_of w32) && (nat_le next most && (oldest == oldest))) two.0).1 in
    let bound = (both (nat_le next most) (oldest == oldest) (both (nat_lt next (limit_of w32)) (nat_le next most && (oldest == oldest)) counts).1).0 in
    let listed = (both entries true two.1).0 in
    record {
      count = length-items (λ (u : Unit {0}). entry) (λ u x. u) (kept_count next) tt kept.entries listed;
      most_noted = up_to next most bound;
      each = times_each entry P (kept_count next) each kept.entries listed;
    }

trace_is : (e : TraceEntry) → trace_field.fits e ≡ true → length e.load ≡ 8
trace_is e fits =
    let bits = (both (nat_lt e.time (limit_of w64)) (nat_lt e.bits (limit_of w32) && (nat_lt e.seq (limit_of w32) && (length e.load == 8))) fits).1 in
    let seq = (both (nat_lt e.bits (limit_of w32)) (nat_lt e.seq (limit_of w32) && (length e.load == 8)) bits).1 in
    same (length e.load) 8 (both (nat_lt e.seq (limit_of w32)) (length e.load == 8) seq).1

-- pages
covered : (areas : List Area) (a count : ℕ) → ((q : ℕ) → a ≤ q → q < a + count → is_readable areas q ≡ true) → all_from (is_readable areas) a count ≡ true
covered areas a zero each = refl
covered areas a (suc count) each =
    and_both (is_readable areas a) (all_from (is_readable areas) (suc a) count) (each a (omega arith) (omega arith)) (covered areas (suc a) count (λ q from below. each q (omega (arith, from)) (omega (arith, below))))

module _ (areas : List Area) (loaded : Memory) where
  -- the page lies in the areas
  abbrev Lies : SavedPage → Type 0
  Lies page = all_from (is_readable areas) page.address (length page.bytes) ≡ true

  record IsPageOf (area : Area) (floor : ℕ) (page : SavedPage) : Type 0 where
    pub from : floor ≤ page.address
    pub whole : page.address % 256 ≡ 0
    pub before : page.address < area.start + area.size
    pub long : length page.bytes ≡ 256

  page_is : (area : Area) (floor : ℕ) (page : SavedPage) → (page_format area loaded floor).fits page ≡ true → IsPageOf area floor page
  page_is area floor page fits =
      let address = page.address in
      let end = area.start + area.size in
      let place = (nat_le floor address && address % 256 == 0) && nat_lt address end in
      let two = both (nat_lt address (limit_of w32) && place) (length page.bytes == 256) (both ((nat_lt address (limit_of w32) && place) && (length page.bytes == 256)) (not (bytes_eq page.bytes (loaded_page loaded address))) fits).0 in
      let tests = both (nat_le floor address && address % 256 == 0) (nat_lt address end) (both (nat_lt address (limit_of w32)) place two.0).1 in
      let first = both (nat_le floor address) (address % 256 == 0) tests.0 in
      record {
        from = up_to floor address first.0;
        whole = same (address % 256) 0 first.1;
        before = under address end tests.1;
        long = same (length page.bytes) 256 two.1;
      }

  page_lies : (area : Area) (floor : ℕ) (page : SavedPage) → IsPlaced area → area.start ≤ floor → ((q : ℕ) → holds_address q area ≡ true → is_readable areas q ≡ true) → IsPageOf area floor page → Lies page
  page_lies area floor page placed above inside is =
      covered areas page.address (length page.bytes) (λ q from below. inside q (holds q from below))
    where
      holds : (q : ℕ) → page.address ≤ q → q < page.address + length page.bytes → holds_address q area ≡ true
      holds q from below =
          let start : area.start ≤ q = omega (arith, above, is.from, from) in
          let end : q < area.start + area.size = omega (arith, is.whole, is.before, is.long, placed.start, placed.size, below) in
          grind (arith, nat_tests, start, end)

  area_lies : (area : Area) (floor : ℕ) (pages : List SavedPage) → IsPlaced area → area.start ≤ floor → ((q : ℕ) → holds_address q area ≡ true → is_readable areas q ≡ true)
      → items_fit (λ at. false) (λ at. page_format area loaded at) (λ at page. page.address + 256) (length pages) floor pages ≡ true → ArePages areas pages
  area_lies area floor [] placed above inside fits = All-nil Lies
  area_lies area floor (page ∷ pages) placed above inside fits =
      let later = items_fit (λ (at : ℕ). false) (λ at. page_format area loaded at) (λ at one. one.address + 256) (length pages) (page.address + 256) pages in
      let two = both ((page_format area loaded floor).fits page) later fits in
      let is = page_is area floor page two.0 in
      All-cons Lies page pages (page_lies area floor page placed above inside is)
      (area_lies area (page.address + 256) pages placed (omega (arith, above, is.from)) inside two.1)

  areas_lie : (some : List Area) (pages : List (List SavedPage)) → All IsPlaced some → ((q : ℕ) → is_readable some q ≡ true → is_readable areas q ≡ true)
      → (each_of (λ area. area_pages_format loaded area) some).fits pages ≡ true → All (ArePages areas) pages
  areas_lie [] [] placed inside fits = All-nil (ArePages areas)
  areas_lie [] (here ∷ pages) placed inside fits = absurd (false≢true fits)
  areas_lie (area ∷ some) [] placed inside fits = absurd (false≢true fits)
  areas_lie (area ∷ some) (here ∷ pages) placed inside fits =
      let two = both ((area_pages_format loaded area).fits here) ((each_of (λ one. area_pages_format loaded one) some).fits pages) fits in
      let items = items_fit (λ (at : ℕ). false) (λ at. page_format area loaded at) (λ at page. page.address + 256) (length here) area.start here in
      All-cons (ArePages areas) here pages
      (area_lies area area.start here (All-head IsPlaced area some placed) (omega arith) (λ q held. inside q (rw held refl)) (both (nat_lt (length here) (limit_of w32)) items two.0).1)
      (areas_lie some pages (All-tail IsPlaced area some placed) (λ q held. inside q (later (holds_address q area) (is_readable some q) held)) two.1)
    where
      later : (a b : Bool) → b ≡ true → (a || b) ≡ true
      later true b held = refl
      later false b held = held

-- what a partition has stored
module _ (conf : Conf) (loaded : Memory) (head : SavedHead) (p : ℕ) (part : SavedPartition) where
  store_is : All IsPlaced (memory_areas (part_of conf p)) → (store_format conf loaded head p (is_halted part.standing.state) (length part.store.inputs)).fits part.store ≡ true
      → (standing_format head p).fits part.standing ≡ true → timer_field.fits part.hardware_timer ≡ true → timer_field.fits part.execution_timer ≡ true → length part.store.inputs < 2 ^ 32
      → IsRestorablePart conf head p part
  store_is placed fits standing hardware execution few =
      let s = part.store in
      let most = head.ticks + flag (head.halted || is_halted part.standing.state) in
      let made = (made_field conf p).fits s.made in
      let globals = globals_field.fits s.globals in
      let windows = (times 128 any_word).fits s.windows in
      let traces = (log_field head.ticks 24 trace_field).fits s.traces in
      let health = (log_field most 20 health_field).fits s.health in
      let inputs = (times (length s.inputs) any_word).fits s.inputs in
      let pages = (pages_format conf loaded p).fits s.pages in
      let one = both made (globals && (windows && (traces && (health && (inputs && pages))))) fits in
      let two = both globals (windows && (traces && (health && (inputs && pages)))) one.1 in
      let three = both windows (traces && (health && (inputs && pages))) two.1 in
      let four = both traces (health && (inputs && pages)) three.1 in
      let five = both health (inputs && pages) four.1 in
      let six = both inputs pages five.1 in
      let traced = log_is head.ticks 24 trace_field (λ (e : TraceEntry). length e.load ≡ 8) s.traces trace_is four.0 in
      let noted = log_is most 20 health_field (λ e. Unit {0}) s.health (λ e is. tt) five.0 in
      let word = any_word.fits part.standing.resets in
      let status = any_word.fits part.standing.reset_status in
      let clock = part.standing.execution in
      let ran = both (state_field.fits part.standing.state) (word && (status && (nat_lt clock (limit_of w64) && nat_le clock (head.ticks + flag head.halted)))) standing in
      let begun = both status (nat_lt clock (limit_of w64) && nat_le clock (head.ticks + flag head.halted)) (both word (status && (nat_lt clock (limit_of w64) && nat_le clock (head.ticks + flag head.halted))) ran.1).1 in
      record {
        hardware_timer = timer_is part.hardware_timer hardware;
        execution_timer = timer_is part.execution_timer execution;
        traces = traced.count;
        health = noted.count;
        pages = areas_lie (memory_areas (part_of conf p)) loaded (memory_areas (part_of conf p)) s.pages placed (λ q held. held) six.1;
        inputs = few;
        trace_count = traced.most_noted;
        health_count = noted.most_noted;
        execution = up_to clock (head.ticks + flag head.halted) (both (nat_lt clock (limit_of w64)) (nat_le clock (head.ticks + flag head.halted)) begun.1).1;
        loads = traced.each;
        made = (both (any_word.fits (bits_of_flags s.made) && (length s.made == 32)) (are_channel_ends conf p 0 s.made) one.0).1;
      }

part_is : (conf : Conf) (loaded : Memory) (head : SavedHead) (p : ℕ) (part : SavedPartition) → All IsPlaced (memory_areas (part_of conf p)) → (partition_format conf loaded head p).fits part ≡ true → IsRestorablePart conf head p part
part_is conf loaded head p part placed fits =
    let standing = (standing_format head p).fits part.standing in
    let processor = processor_format.fits part.processor in
    let traps = traps_format.fits part.traps in
    let hardware = timer_field.fits part.hardware_timer in
    let execution = timer_field.fits part.execution_timer in
    let few = any_word.fits (length part.store.inputs) in
    let store = (store_format conf loaded head p (is_halted part.standing.state) (length part.store.inputs)).fits part.store in
    let one = both standing (processor && (traps && (hardware && (execution && (few && store))))) fits in
    let two = both processor (traps && (hardware && (execution && (few && store)))) one.1 in
    let three = both traps (hardware && (execution && (few && store))) two.1 in
    let four = both hardware (execution && (few && store)) three.1 in
    let five = both execution (few && store) four.1 in
    let six = both few store five.1 in
    store_is conf loaded head p part placed six.1 one.0 four.0 five.0 (under (length part.store.inputs) (2 ^ 32) six.0)

-- the plan clock
record IsClock (conf : Conf) (time : ℕ) (clock : CyclicClock) : Type 0 where
  pub in_frame : IsInFrame conf clock time
  pub asked : AsksPlan conf clock

asked_is : (plans : ℕ) (asked : Option ℕ) → (asked_format plans).fits asked ≡ true → IfSome asked (λ plan. plan < plans)
asked_is plans None fits = tt
asked_is plans (Some plan) fits = under plan plans (both (nat_lt plan (limit_of w8)) (nat_lt plan plans) fits).1

clock_is : (conf : Conf) (time : ℕ) (clock : CyclicClock) → (clock_format conf time).fits clock ≡ true → IsClock conf time clock
clock_is conf time clock fits =
    let plans = length conf.plans in
    let start = clock.frame_start in
    let end = start + frame_of conf clock.plan in
    let plan = nat_lt clock.plan (limit_of w8) && nat_lt clock.plan plans in
    let begun = nat_lt start (limit_of w64) && (nat_le start time && nat_lt time end) in
    let asked = (asked_format plans).fits clock.asked in
    let one = both plan (begun && asked) fits in
    let two = both begun asked one.1 in
    let frame = both (nat_le start time) (nat_lt time end) (both (nat_lt start (limit_of w64)) (nat_le start time && nat_lt time end) two.0).1 in
    record {
      in_frame = record {
        plan = under clock.plan plans (both (nat_lt clock.plan (limit_of w8)) (nat_lt clock.plan plans) one.0).1;
        begun = up_to start time frame.0;
        before_end = under time end frame.1;
      };
      asked = asked_is plans clock.asked two.1;
    }

-- the head
record IsHead (conf : Conf) (head : SavedHead) : Type 0 where
  pub time : head.time ≤ head.ticks
  pub begun : head.ticks + flag head.halted ≤ 4000000000
  pub clock : IsClock conf head.time head.clock

head_is : (conf : Conf) (container : List ℕ) (head : SavedHead) → (head_format conf container).fits head ≡ true → IsHead conf head
head_is conf container head fits =
    let digest = (container_format container).fits head.container in
    let ticks = nat_lt head.ticks (limit_of w64) && nat_le head.ticks 4000000000 in
    let time = nat_lt head.time (limit_of w64) && nat_le head.time head.ticks in
    let resets = any_word.fits head.resets in
    let halted = flag_field.fits head.halted && nat_le (head.ticks + flag head.halted) 4000000000 in
    let clock = (clock_format conf head.time).fits head.clock in
    let one = both digest (ticks && (time && (resets && (halted && clock)))) fits in
    let two = both ticks (time && (resets && (halted && clock))) one.1 in
    let three = both time (resets && (halted && clock)) two.1 in
    let four = both resets (halted && clock) three.1 in
    let five = both halted clock four.1 in
    record {
      time = up_to head.time head.ticks (both (nat_lt head.time (limit_of w64)) (nat_le head.time head.ticks) three.0).1;
      begun = up_to (head.ticks + flag head.halted) 4000000000 (both (flag_field.fits head.halted) (nat_le (head.ticks + flag head.halted) 4000000000) five.0).1;
      clock = clock_is conf head.time head.clock five.1;
    }

-- a machine
pub fits_restorable : (conf : Conf) (loaded : ℕ → Memory) (container : List ℕ) (saved : SavedMachine) → Fits (described conf) → (saved_format conf loaded container).fits saved ≡ true → IsRestorable conf saved
unfolding shapes_of
fits_restorable conf loaded container saved meets fits =
    let head = (head_format conf container).fits saved.head in
    let channels = (each_of (λ chan. content_field chan.kind chan.length) conf.chans).fits saved.channels in
    let partition = λ (p : ℕ). partition_format conf (loaded p) saved.head p in
    let parts = (each_of partition (table (λ p. p) (length conf.parts))).fits saved.parts in
    let machine = (machine_format conf loaded container).fits saved in
    let one = both head (channels && parts) (both machine _ fits).0 in
    let two = both channels parts one.1 in
    let is = head_is conf container saved.head one.0 in
    record {
      counted = each_long partition (table (λ p. p) (length conf.parts)) saved.parts two.1 ∙ table_long (λ p. p) (length conf.parts);
      parts = each_is (IsRestorablePart conf saved.head) partition (λ p. p) (length conf.parts) (λ p part good. part_is conf (loaded p) saved.head p part (conf_placed conf p meets) good) saved.parts two.1;
      channels = each_long (λ (chan : Chan). content_field chan.kind chan.length) conf.chans saved.channels two.0 ∙ sym (length-map conf.chans shape_of);
      contents = channels_suit conf.chans saved.channels two.0;
      time = is.time;
      begun = is.begun;
      frame = is.clock.in_frame;
      asked = is.clock.asked;
    }

pub read_restorable : ReadMachinesAreRestorable
read_restorable conf loaded container bytes saved meets each read =
    fits_restorable conf loaded container saved meets ((saved_lawful conf loaded container).spelled bytes saved each read).fits

-- what was read, as an answer of the reader
pub answer_restorable : (conf : Conf) (loaded : ℕ → Memory) (container bytes before : List ℕ) → Fits (described conf) → AreBytes bytes → unsealed saved_faults (codes "XMSM") 1 bytes ≡ Ok before
    → (answer : Result Saved SavedFault) → Gives Fails saved_value answer (machine_in conf loaded container before) → IfOk answer (λ saved. IsRestorable conf (saved_value saved))
unfolding machine_in
answer_restorable conf loaded container bytes before meets each whole (Ok saved) gives = read_restorable conf loaded container bytes (saved_value saved) meets each (rw whole gives)
answer_restorable conf loaded container bytes before meets each whole (Err found) gives = tt
