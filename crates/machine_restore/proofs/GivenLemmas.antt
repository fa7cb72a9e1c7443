-- What is put into a system adds up to the machine with all values.
use Rattle.std.proofs.Common.{All, ◌≡◌, ℕ, zero, suc, ◌+◌, ◌<◌, ◌≤◌, Bool, true, List, [], ◌∷◌, length, map, take, set, get_or, Option, Some, refl, sym, ap, ◌∙◌, add-one, subst, arith}
use Rattle.std.proofs.lemmas.List.{length-map, length-set}
use Rattle.std.proofs.lemmas.Option.{slice_get-get_or}
use Rattle.std.specs.Prelude.{IfSome, slice_get}
use Rattle.guest_bus.specs.Memory.{Area, Memory, all_from, is_readable, with_bytes}
use Rattle.health_monitor.specs.declared.entry.HealthEntry.{HealthEntry}
use Rattle.machine_model.specs.Caller.{with_written}
use Rattle.machine_model.specs.Lists.{each, table}
use Rattle.machine_model.specs.Machine.{Machine, booted_part, start}
use Rattle.machine_model.specs.Partition.{PartitionState, booted, loaded_memory}
use Rattle.machine_model.specs.View.{PartitionView, System, view_of}
use Rattle.sparc_step.specs.Registers.{Registers}
use Rattle.system_state.specs.State.{OwnState, SysState, areas_in, input_words_of, memory_of, part_at, with_machine, with_memory, with_own, with_part}
use Rattle.system_state.specs.lemmas.StateLemmas.{part_set}
use Rattle.virt_clocks.specs.Clocks.{PartitionClocks}
use Rattle.virt_traps.specs.Virtual.{VirtualTraps}
use Rattle.xm_conf.specs.Configuration.{Conf}
use Rattle.xm_ports.specs.Channels.{Content, shapes_of}
use Rattle.xm_ports.specs.Contents.{EachSuits, content_of}
use Rattle.xm_ports.specs.declared.content.ContentValue.{ContentValue}
use Rattle.xm_traces.specs.Ring.{Kept}
use Rattle.xm_traces.specs.declared.entry.TraceEntry.{TraceEntry}
use Rattle.machine_restore.specs.lemmas.Values.{ArePartValues, restored, restored_part}
use Rattle.saved_machines.specs.Restorable.{ArePages}
use Rattle.saved_machines.specs.Saving.{with_area_pages, with_saved_pages}
use Rattle.saved_machines.specs.Saved.{SavedPage}
use Rattle.saved_machines.specs.Values.{MachineValues, PartValues}
use Rattle.machine_restore.specs.lemmas.RestoreTerms.{all_paged, counted_so, given_all, given_at, given_below, given_part, own_of, paged, parts_given}

-- of two writes at a place the later one stands
written_twice : {X : Type 0} (xs : List X) (p : ℕ) (first second : X) → set (set xs p first) p second ≡ set xs p second
written_twice [] p first second = refl
written_twice (x ∷ xs) zero first second = refl
written_twice {X} (x ∷ xs) (suc p) first second = ap (λ (ys : List X). x ∷ ys) (written_twice xs p first second)

-- of two states of a partition the later one stands
set_again : (sys now new : SysState) (p : ℕ) (first second : PartitionState) → now ≡ with_machine (with_part p first sys.machine) sys → new ≡ with_machine (with_part p second now.machine) now
    → new ≡ with_machine (with_part p second sys.machine) sys
set_again sys now new p first second was is =
    is ∙ ap (λ (s : SysState). with_machine (with_part p second s.machine) s) was
    ∙ ap (λ (states : List PartitionState). with_machine (record sys.machine { parts = states }) sys) (written_twice sys.machine.parts p first second)

-- a state is another, and there are as many
pub set_within : (sys now : SysState) (p q : ℕ) (ps : PartitionState) → now ≡ with_machine (with_part p ps sys.machine) sys → q < length sys.machine.parts → q < length now.machine.parts
set_within sys now p q ps is below = omega (arith, below, ap (λ (s : SysState). length s.machine.parts) is, length-set sys.machine.parts p ps)

-- and their areas are the same
pub set_areas : (sys now : SysState) (p q : ℕ) (ps : PartitionState) → now ≡ with_machine (with_part p ps sys.machine) sys → areas_in q now.machine ≡ areas_in q sys.machine
set_areas sys now p q ps is = ap (λ (s : SysState). areas_in q s.machine) is

-- the state of a partition, but for its memory
pub state_given : (values : PartValues) (core : Registers) (virt : VirtualTraps) (clocks : PartitionClocks) (made : List Bool) (traces : Kept TraceEntry) (health : Kept HealthEntry) → core ≡ values.core → virt ≡ values.traps → clocks ≡ values.clocks
    → made ≡ values.made → traces ≡ values.traces → health ≡ values.health
    → record { core = core; virt = virt; clocks = clocks; state = values.state; resets = values.resets; reset_status = values.reset_status; ports = made; traces = traces; health = health; used = 0 } ≡ own_of values
unfolding own_of
state_given values core virt clocks made traces health cores virts clocked mades traced logged = λ i. record {
  core = cores i;
  virt = virts i;
  clocks = clocked i;
  state = values.state;
  resets = values.resets;
  reset_status = values.reset_status;
  ports = mades i;
  traces = traced i;
  health = logged i;
  used = 0;
}

-- a page more
page_more : (memory : Memory) (pages : List SavedPage) (i : ℕ) (page : SavedPage) (address : ℕ) (bytes : List ℕ) → i < length pages → page ≡ get_or pages i page → address ≡ page.address → bytes ≡ page.bytes
    → with_bytes (with_saved_pages memory (take i pages)) address bytes ≡ with_saved_pages memory (take (suc i) pages)
page_more memory [] i page address bytes below here at same = absurd (omega (arith, below))
page_more memory (first ∷ pages) zero page address bytes below here at same =
    (λ j. with_bytes memory (at j) (same j)) ∙ ap (λ (one : SavedPage). with_bytes memory one.address one.bytes) here
page_more memory (first ∷ pages) (suc i) page address bytes below here at same =
    page_more (with_bytes memory first.address first.bytes) pages i page address bytes (omega (arith, below)) here at same

-- each byte of a page may be read
pub page_readable : (areas other : List Area) (pages : List SavedPage) (i : ℕ) (page : SavedPage) (address : ℕ) (bytes : List ℕ) → ArePages areas pages → other ≡ areas → i < length pages → page ≡ get_or pages i page → address ≡ page.address → bytes ≡ page.bytes
    → all_from (is_readable other) address (length bytes) ≡ true
page_readable areas other pages i page address bytes all same within here at those =
    (λ j. all_from (is_readable (same j)) (at j) (length (those j)))
    ∙ ap (λ (one : SavedPage). all_from (is_readable areas) one.address (length one.bytes)) here ∙ all i page within

-- no page is put
pub paged_none : (sys : SysState) (p : ℕ) → sys ≡ paged p [] sys
unfolding paged
paged_none sys p =
    ap (λ (states : List PartitionState). with_machine (record sys.machine { parts = states }) sys) (sym (stays sys.machine.parts p (booted_part sys.machine.system p)))
  where
    stays : (xs : List PartitionState) (k : ℕ) (other : PartitionState) → set xs k (get_or xs k other) ≡ xs
    stays [] k other = refl
    stays (x ∷ xs) zero other = refl
    stays (x ∷ xs) (suc k) other = ap (λ (ys : List PartitionState). x ∷ ys) (stays xs k other)

-- there are as many partitions, and their areas are the same
pub paged_within : (sys now : SysState) (p q : ℕ) (pages : List SavedPage) → now ≡ paged p pages sys → q < length sys.machine.parts → q < length now.machine.parts
unfolding paged
paged_within sys now p q pages is below = set_within sys now p q _ is below

pub paged_areas : (sys now : SysState) (p q : ℕ) (pages : List SavedPage) → now ≡ paged p pages sys → areas_in q now.machine ≡ areas_in q sys.machine
unfolding paged
paged_areas sys now p q pages is = set_areas sys now p q _ is

-- a page more is put
pub paged_more : (sys now new : SysState) (p i : ℕ) (pages : List SavedPage) (page : SavedPage) (address : ℕ) (bytes : List ℕ) → p < length sys.machine.parts → now ≡ paged p (take i pages) sys → i < length pages → page ≡ get_or pages i page
    → address ≡ page.address → bytes ≡ page.bytes → new ≡ with_machine (with_part p (with_written address bytes (part_at p now.machine)) now.machine) now → new ≡ paged p (take (i + 1) pages) sys
unfolding paged with_written
paged_more sys now new p i pages page address bytes below was within here at same is =
    let more : i + 1 ≡ suc i = add-one i in
    rw more
    (set_again sys now new p (record (part_at p sys.machine) { memory = with_saved_pages (memory_of p sys.machine) (take i pages) }) (with_written address bytes (part_at p now.machine)) was is
    ∙ ap (λ (ps : PartitionState). with_machine (with_part p (with_written address bytes ps) sys.machine) sys) (part_set sys now p (record (part_at p sys.machine) { memory = with_saved_pages (memory_of p sys.machine) (take i pages) }) below was)
    ∙ ap (λ (m : Memory). with_machine (with_part p (record (part_at p sys.machine) { memory = m }) sys.machine) sys) (page_more (memory_of p sys.machine) pages i page address bytes within here at same))

-- the pages of an area more
area_more : (memory : Memory) (areas : List (List SavedPage)) (i : ℕ) (pages : List SavedPage) → slice_get areas i ≡ Some pages → with_saved_pages (with_area_pages memory (take i areas)) pages ≡ with_area_pages memory (take (suc i) areas)
area_more memory [] i pages there = absurd cc
area_more memory (first ∷ areas) zero pages there =
    let same : first ≡ pages = cc in
    ap (λ (those : List SavedPage). with_saved_pages memory those) (sym same)
area_more memory (first ∷ areas) (suc i) pages there = area_more (with_saved_pages memory first) areas i pages there

-- the pages of an area lie in the partition's areas
pub area_readable : (areas other : List Area) (lists : List (List SavedPage)) (i : ℕ) (pages : List SavedPage) → All (ArePages areas) lists → other ≡ areas → slice_get lists i ≡ Some pages → ArePages other pages
area_readable areas other lists i pages all same there =
    subst (λ (those : List Area). ArePages those pages) (sym same)
    (subst (λ (those : List SavedPage). ArePages areas those) (sym (found lists i there).1) (all i pages (found lists i there).0))
  where
    found : (xs : List (List SavedPage)) (n : ℕ) → slice_get xs n ≡ Some pages → (n < length xs) × (pages ≡ get_or xs n pages)
    found [] n is = absurd cc
    found (x ∷ xs) zero is =
        let here : x ≡ pages = cc in
        (omega arith, sym here)
    found (x ∷ xs) (suc n) is =
        let rest = found xs n is in
        (omega (arith, rest.0), rest.1)

-- no page of any area is put
pub all_paged_none : (sys : SysState) (p : ℕ) → sys ≡ all_paged p [] sys
unfolding paged all_paged
all_paged_none sys p = paged_none sys p

-- there are as many partitions, and their areas are the same
pub all_paged_within : (sys now : SysState) (p q : ℕ) (areas : List (List SavedPage)) → now ≡ all_paged p areas sys → q < length sys.machine.parts → q < length now.machine.parts
unfolding all_paged
all_paged_within sys now p q areas is below = set_within sys now p q _ is below

pub all_paged_areas : (sys now : SysState) (p q : ℕ) (areas : List (List SavedPage)) → now ≡ all_paged p areas sys → areas_in q now.machine ≡ areas_in q sys.machine
unfolding all_paged
all_paged_areas sys now p q areas is = set_areas sys now p q _ is

-- the pages of an area more are put
pub all_paged_more : (sys now new : SysState) (p i : ℕ) (areas : List (List SavedPage)) (pages : List SavedPage) → p < length sys.machine.parts → now ≡ all_paged p (take i areas) sys → slice_get areas i ≡ Some pages → new ≡ paged p pages now
    → new ≡ all_paged p (take (i + 1) areas) sys
unfolding paged all_paged
all_paged_more sys now new p i areas pages below was here is =
    let more : i + 1 ≡ suc i = add-one i in
    rw more
    (set_again sys now new p (record (part_at p sys.machine) { memory = with_area_pages (memory_of p sys.machine) (take i areas) }) (record (part_at p now.machine) { memory = with_saved_pages (memory_of p now.machine) pages }) was is
    ∙ ap (λ (ps : PartitionState). with_machine (with_part p (record ps { memory = with_saved_pages ps.memory pages }) sys.machine) sys)
    (part_set sys now p (record (part_at p sys.machine) { memory = with_area_pages (memory_of p sys.machine) (take i areas) }) below was)
    ∙ ap (λ (m : Memory). with_machine (with_part p (record (part_at p sys.machine) { memory = m }) sys.machine) sys) (area_more (memory_of p sys.machine) areas i pages here))

-- the state of a partition, and then its pages
pub given_whole : (sys mid new : SysState) (p : ℕ) (own : OwnState) (values : PartValues) → p < length sys.machine.parts → own ≡ own_of values → mid ≡ with_machine (with_own p own sys.machine) sys → new ≡ all_paged p values.pages mid
    → new ≡ given_at p values sys
unfolding all_paged given_at
given_whole sys mid new p own values below state was is =
    set_again sys mid new p (with_memory own (memory_of p sys.machine) (input_words_of p sys.machine)) (record (part_at p mid.machine) { memory = with_area_pages (memory_of p mid.machine) values.pages }) was is
    ∙ ap (λ (ps : PartitionState). with_machine (with_part p (record ps { memory = with_area_pages ps.memory values.pages }) sys.machine) sys)
    (part_set sys mid p (with_memory own (memory_of p sys.machine) (input_words_of p sys.machine)) below was)
    ∙ ap (λ (o : OwnState). with_machine (with_part p (with_memory o (with_area_pages (memory_of p sys.machine) values.pages) (input_words_of p sys.machine)) sys.machine) sys) state

-- there are as many partitions
given_length : (n : ℕ) (values : List PartValues) (words : ℕ → List ℕ) (parts : List PartitionState) → length (given_below n values words parts) ≡ length parts
given_length zero values words parts = refl
given_length (suc n) [] words parts = refl
given_length (suc n) (one ∷ values) words [] = refl
given_length (suc n) (one ∷ values) words (ps ∷ parts) = ap suc (given_length n values (λ k. words (suc k)) parts)

-- one partition more has its values
below_more : (n : ℕ) (values : List PartValues) (words : ℕ → List ℕ) (parts : List PartitionState) (one : PartValues) (other : PartitionState) → n < length parts → n < length values → one ≡ get_or values n one
    → set (given_below n values words parts) n (given_part one (get_or (given_below n values words parts) n other).memory (words n)) ≡ given_below (suc n) values words parts
below_more n [] words parts one other below within here = absurd (omega (arith, within))
below_more n (first ∷ values) words [] one other below within here = absurd (omega (arith, below))
below_more zero (first ∷ values) words (ps ∷ parts) one other below within here = ap (λ (v : PartValues). given_part v ps.memory (words 0) ∷ parts) here
below_more (suc n) (first ∷ values) words (ps ∷ parts) one other below within here =
    ap (λ (rest : List PartitionState). given_part first ps.memory (words 0) ∷ rest)
    (below_more n values (λ k. words (suc k)) parts one other (omega (arith, below)) (omega (arith, within)) here)

-- none has them yet
pub given_none : (sys : SysState) (values : List PartValues) → sys ≡ parts_given 0 values sys
unfolding parts_given
given_none sys values = refl

-- there are as many partitions, and their areas are the same
pub given_within : (sys now : SysState) (n q : ℕ) (values : List PartValues) → now ≡ parts_given n values sys → q < length sys.machine.parts → q < length now.machine.parts
unfolding parts_given
given_within sys now n q values is below =
    omega (arith, below, ap (λ (s : SysState). length s.machine.parts) is, given_length n values (λ k. input_words_of k sys.machine) sys.machine.parts)

pub given_areas : (sys now : SysState) (n q : ℕ) (values : List PartValues) → now ≡ parts_given n values sys → areas_in q now.machine ≡ areas_in q sys.machine
unfolding parts_given
given_areas sys now n q values is = ap (λ (s : SysState). areas_in q s.machine) is

-- one more has them
pub given_more : (sys now new : SysState) (n : ℕ) (values : List PartValues) (one : PartValues) → n < length sys.machine.parts → n < length values → now ≡ parts_given n values sys → one ≡ get_or values n one → new ≡ given_at n one now
    → new ≡ parts_given (n + 1) values sys
unfolding parts_given given_at
given_more sys now new n values one below within was here is =
    let more : n + 1 ≡ suc n = add-one n in
    rw more
    (is ∙ ap (λ (s : SysState). with_machine (with_part n (given_part one (memory_of n s.machine) (input_words_of n s.machine)) s.machine) s) was
    ∙ ap (λ (states : List PartitionState). with_machine (record sys.machine { parts = states }) sys)
    (below_more n values (λ q. input_words_of q sys.machine) sys.machine.parts one (booted_part sys.machine.system n) below within here))

-- the values of one partition
pub values_there : (parts : List PartValues) (areas : ℕ → List Area) (other : List Area) (count n : ℕ) (one : PartValues) → ((p : ℕ) → p < count → IfSome (slice_get parts p) (ArePartValues (areas p))) → n < count → n < length parts
    → one ≡ get_or parts n one → other ≡ areas n → ArePartValues other one
values_there parts areas other count n one all inside below here same =
    subst (λ (held : List Area). ArePartValues held one) (sym same)
    (subst (λ (found : Option PartValues). IfSome found (ArePartValues (areas n))) (slice_get-get_or parts n one below ∙ ap Some (sym here)) (all n inside))

-- the configuration and the shapes of the channels stay
pub given_conf : (sys now : SysState) (n : ℕ) (values : List PartValues) → now ≡ parts_given n values sys → now.machine.system.conf ≡ sys.machine.system.conf
unfolding parts_given
given_conf sys now n values is = ap (λ (s : SysState). s.machine.system.conf) is

pub given_shapes : (sys now : SysState) (n : ℕ) (values : List PartValues) → now ≡ parts_given n values sys → now.shapes ≡ sys.shapes
unfolding parts_given
given_shapes sys now n values is = ap (λ (s : SysState). s.shapes) is

-- what is given for channels
pub channels_counted : (given : List ContentValue) (contents : List Content) (conf other : Conf) → map content_of given ≡ contents → length contents ≡ length (shapes_of conf) → other ≡ conf → length given ≡ length (shapes_of other)
channels_counted given contents conf other held counted same =
    sym (length-map given content_of) ∙ ap length held ∙ counted ∙ ap (λ (one : Conf). length (shapes_of one)) (sym same)

pub channels_suit : (given : List ContentValue) (contents : List Content) (conf other : Conf) → map content_of given ≡ contents → EachSuits (shapes_of conf) contents → other ≡ conf → EachSuits (shapes_of other) (map content_of given)
channels_suit given contents conf other held suits same =
    subst (λ (one : Conf). EachSuits (shapes_of one) (map content_of given)) (sym same)
    (subst (λ (those : List Content). EachSuits (shapes_of conf) those) (sym held) suits)

-- the partitions, then the channels, then the clocks and counts
pub all_put : (values : MachineValues) (parts : List PartValues) (contents : List Content) (sys one two new : SysState) → parts ≡ values.parts → contents ≡ values.channels → one ≡ parts_given (length sys.machine.parts) parts sys
    → two ≡ with_machine (record one.machine { channels = contents }) one → new ≡ with_machine (counted_so values two.machine) two → new ≡ with_machine (given_all values sys.machine) sys
unfolding parts_given
all_put values parts contents sys one two new those held made filled is =
    is ∙ ap (λ (s : SysState). with_machine (counted_so values s.machine) s) filled
    ∙ ap (λ (s : SysState). with_machine (counted_so values (record s.machine { channels = contents })) s) made
    ∙ (λ j. with_machine (counted_so values (record sys.machine {
      parts = given_below (length sys.machine.parts) (those j) (λ q. input_words_of q sys.machine) sys.machine.parts;
      channels = held j;
    })) sys)

-- the first this many partitions that boot, with their values
all_given : (n : ℕ) (values : List PartValues) (words : ℕ → List ℕ) (boot : ℕ → PartitionState) (view : ℕ → PartitionView) → n ≤ length values
    → ((q : ℕ) → (boot q).memory ≡ loaded_memory (view q)) → ((q : ℕ) → words q ≡ (view q).inputs)
    → given_below n values words (table boot n) ≡ each (λ q. restored_part (view q)) (take n values)
unfolding own_of
all_given zero values words boot view enough memories inputs = refl
all_given (suc n) [] words boot view enough memories inputs = absurd (omega (arith, enough))
all_given (suc n) (one ∷ values) words boot view enough memories inputs =
    (λ i. given_part one (memories 0 i) (inputs 0 i) ∷ given_below n values (λ k. words (suc k)) (table (λ k. boot (suc k)) n))
    ∙ ap (λ (rest : List PartitionState). restored_part (view 0) one ∷ rest)
    (all_given n values (λ k. words (suc k)) (λ k. boot (suc k)) (λ k. view (suc k)) (omega (arith, enough)) (λ k. memories (suc k)) (λ k. inputs (suc k)))

-- a list of as many
length_table : (f : ℕ → PartitionState) (n : ℕ) → length (table f n) ≡ n
length_table f zero = refl
length_table f (suc n) = ap suc (length_table (λ k. f (suc k)) n)

-- a machine that boots, with all values
given_start : (system : System) (values : MachineValues) → length system.conf.parts ≤ length values.parts → given_all values (start system) ≡ restored system values
unfolding start restored booted view_of
given_start system values counted =
    ap (λ (n : ℕ). counted_so values (record (start system) {
      parts = given_below n values.parts (λ q. input_words_of q (start system)) (table (booted_part system) (length system.conf.parts));
      channels = values.channels;
    })) (length_table (booted_part system) (length system.conf.parts))
    ∙ ap (λ (states : List PartitionState). counted_so values (record (start system) { parts = states; channels = values.channels }))
    (all_given (length system.conf.parts) values.parts (λ q. input_words_of q (start system)) (booted_part system) (view_of system) counted (λ q. refl) (λ q. refl))

-- the machine of the system that has all values
pub restored_is : (system : System) (values : MachineValues) (sys new : SysState) → length system.conf.parts ≤ length values.parts → sys.machine ≡ start system → new ≡ with_machine (given_all values sys.machine) sys
    → new.machine ≡ restored system values
restored_is system values sys new counted boots is =
    ap (λ (s : SysState). s.machine) is ∙ ap (given_all values) boots ∙ given_start system values counted

-- its configuration is that of what runs
pub start_conf : (system : System) (g : Machine) → g ≡ start system → g.system.conf ≡ system.conf
unfolding start
start_conf system g boots = ap (λ (m : Machine). m.system.conf) boots

-- its partitions are those of its configuration
pub start_counted : (system : System) (g : Machine) → g ≡ start system → length g.parts ≡ length g.system.conf.parts
unfolding start
start_counted system g boots =
    ap (λ (m : Machine). length m.parts) boots ∙ length_table (booted_part system) (length system.conf.parts) ∙ ap (λ (m : Machine). length m.system.conf.parts) (sym boots)
