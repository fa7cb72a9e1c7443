-- The file of a saved machine. Each line has a field, its bytes and what it may be; a field without a range may be anything.
use Rattle.std.specs.Prelude.{ℕ, ◌+◌, ◌%◌, ◌==◌, ◌&&◌, ◌||◌, Bool, not, nat_le, nat_lt, List, codes, length, Option}
use Rattle.std.specs.Str.{bytes_eq}
use Rattle.codecs.specs.Codec.{counted_items, each_of, keyed, optional, pair, raw_bytes, tested, through, times}
use Rattle.codecs.specs.Files.{FileCodec, sealed_file}
use Rattle.cyclic_plans.specs.PlanClock.{CyclicClock}
use Rattle.cyclic_plans.specs.Slots.{frame_of}
use Rattle.guest_bus.specs.Memory.{Area, Memory, bytes_at}
use Rattle.guest_memory.specs.Loading.{memory_areas}
use Rattle.machine_model.specs.Lists.{table}
use Rattle.machine_model.specs.Partition.{is_halted}
use Rattle.machine_model.specs.Structures.{flag}
use Rattle.machine_model.specs.View.{part_of}
use Rattle.saved_machines.specs.Saved.{SavedHead, SavedMachine, SavedPage, SavedPartition, SavedProcessor, SavedStanding, SavedStore}
use Rattle.saved_machines.specs.SavedFields.{SavedCodec, any_word, byte_where, content_field, double_word_where, flag_field, globals_field, health_field, known_byte, log_field, made_field, saved_faults, saved_field, saved_short, state_field, timer_field, trace_field, word_where, zeros}
use Rattle.saved_machines.specs.declared.fault.SavedFault.{SavedFault}
use Rattle.saved_machines.specs.declared.fault.SavedFault.TheVariants as fault
use Rattle.virt_traps.specs.Virtual.{VirtualTraps}
use Rattle.xm_conf.specs.Configuration.{Conf}

-- whether a plan is asked for | 1; that plan | 1 | one of this many, or 0 for none
abbrev pub asked_format : ℕ → SavedCodec (Option ℕ)
asked_format plans = optional flag_field (byte_where (λ asked. nat_lt asked plans)) (zeros 1)

-- plan | 1 | of the configuration; when its frame began | 8 | up to the time, which is in the frame; the plan that is asked for
abbrev pub clock_format : Conf → ℕ → SavedCodec CyclicClock
clock_format conf time =
    through (λ t. record { plan = t.0; frame_start = t.1.0; asked = t.1.1 }) (λ clock. (clock.plan, (clock.frame_start, clock.asked)))
    (pair (byte_where (λ plan. nat_lt plan (length conf.plans))) λ plan.
    pair (double_word_where (λ start. nat_le start time && nat_lt time (start + frame_of conf plan))) λ start.
    asked_format (length conf.plans))

-- digest of a container | 16 | this one
abbrev pub container_format : List ℕ → SavedCodec (List ℕ)
container_format container = tested (λ at stored. fault.Container stored container) (λ stored. bytes_eq stored container) (raw_bytes saved_short 16)

-- whether it has halted | 1 | the ticks that have begun, the one in which it halts with them, are up to 4000000000
abbrev pub halted_format : ℕ → SavedCodec Bool
halted_format ticks = tested (λ at halted. saved_field at) (λ halted. nat_le (ticks + flag halted) 4000000000) flag_field

-- digest of the container; ticks | 8 | up to 4000000000; time | 8 | up to the ticks; resets | 4; whether it has halted | 1; the plan clock
abbrev pub head_format : Conf → List ℕ → SavedCodec SavedHead
head_format conf container =
    through (λ t. record { container = t.0; ticks = t.1.0; time = t.1.1.0; resets = t.1.1.1.0; halted = t.1.1.1.1.0; clock = t.1.1.1.1.1 })
    (λ head. (head.container, (head.ticks, (head.time, (head.resets, (head.halted, head.clock))))))
    (pair (container_format container) λ stored.
    pair (double_word_where (λ ticks. nat_le ticks 4000000000)) λ ticks.
    pair (double_word_where (λ time. nat_le time ticks)) λ time.
    pair any_word λ resets.
    pair (halted_format ticks) λ halted.
    clock_format conf time)

-- number | 1 | this partition's; state | 1; resets | 4; status of the last reset | 4; execution clock | 8 | up to the ticks that have begun
abbrev pub standing_format : SavedHead → ℕ → SavedCodec SavedStanding
standing_format head p =
    through (λ t. record { state = t.1.0; resets = t.1.1.0; reset_status = t.1.1.1.0; execution = t.1.1.1.1 })
    (λ s. (tt, (s.state, (s.resets, (s.reset_status, s.execution)))))
    (pair (known_byte p) λ number.
    pair state_field λ state.
    pair any_word λ resets.
    pair any_word λ status.
    double_word_where (λ execution. nat_le execution (head.ticks + flag head.halted)))

-- pc | 4 | a multiple of 4; npc | 4 | a multiple of 4; y | 4; icc | 1 | 0 to 15; cwp | 1 | 0 to 7; inv | 1 | 0 to 7 and not cwp
abbrev pub processor_format : SavedCodec SavedProcessor
processor_format =
    through (λ t. record { pc = t.0; npc = t.1.0; y = t.1.1.0; icc = t.1.1.1.0; cwp = t.1.1.1.1.0; inv = t.1.1.1.1.1 })
    (λ c. (c.pc, (c.npc, (c.y, (c.icc, (c.cwp, c.inv))))))
    (pair (word_where (λ pc. pc % 4 == 0)) λ pc.
    pair (word_where (λ npc. npc % 4 == 0)) λ npc.
    pair any_word λ y.
    pair (byte_where (λ icc. nat_lt icc 16)) λ icc.
    pair (byte_where (λ cwp. nat_lt cwp 8)) λ cwp.
    byte_where (λ inv. nat_lt inv 8 && not (inv == cwp)))

-- whether traps are taken | 1; base of their table | 4 | a multiple of 4096; pending | 4; mask | 4
abbrev pub traps_format : SavedCodec VirtualTraps
traps_format =
    through (λ t. record { enabled = t.0; base = t.1.0; pending = t.1.1.0; mask = t.1.1.1 }) (λ v. (v.enabled, (v.base, (v.pending, v.mask))))
    (pair flag_field λ enabled. pair (word_where (λ base. base % 4096 == 0)) λ base. pair any_word λ pending. any_word)

-- the bytes of a page in what was loaded
unfoldable pub loaded_page : Memory → ℕ → List ℕ
loaded_page loaded address = bytes_at loaded address 256

-- address | 4 | from the floor on, a multiple of 256, before the end of the area; bytes | 256 | not those that were loaded
abbrev pub page_format : Area → Memory → ℕ → SavedCodec SavedPage
page_format area loaded floor =
    tested (λ at page. saved_field at) (λ page. not (bytes_eq page.bytes (loaded_page loaded page.address)))
    (through (λ t. record { address = t.0; bytes = t.1 }) (λ page. (page.address, page.bytes))
    (pair (word_where (λ address. nat_le floor address && address % 256 == 0 && nat_lt address (area.start + area.size))) λ address.
    raw_bytes saved_short 256))

-- number of pages | 4; each page | 260 | from the beginning of the area on, after the one before it
abbrev pub area_pages_format : Memory → Area → SavedCodec (List SavedPage)
area_pages_format loaded area = counted_items any_word (λ floor. page_format area loaded floor) (λ floor page. page.address + 256) area.start

-- the pages of each area
abbrev pub pages_format : Conf → Memory → ℕ → SavedCodec (List (List SavedPage))
pages_format conf loaded p = each_of (λ area. area_pages_format loaded area) (memory_areas (part_of conf p))

-- ports that are made | 4 | ends of channels; registers g0 to g7 | 32 | g0 is 0; registers of windows | 512; traces | 1544 | up to the ticks; health
-- log | 1288 | up to the ticks, and one more where something has halted; this many input words | 4 each; the pages of each area
abbrev pub store_format : Conf → Memory → SavedHead → ℕ → Bool → ℕ → SavedCodec SavedStore
store_format conf loaded head p halted left =
    through (λ t. record { made = t.0; globals = t.1.0; windows = t.1.1.0; traces = t.1.1.1.0; health = t.1.1.1.1.0; inputs = t.1.1.1.1.1.0; pages = t.1.1.1.1.1.1 })
    (λ s. (s.made, (s.globals, (s.windows, (s.traces, (s.health, (s.inputs, s.pages)))))))
    (pair (made_field conf p) λ made.
    pair globals_field λ globals.
    pair (times 128 any_word) λ windows.
    pair (log_field head.ticks 24 trace_field) λ traces.
    pair (log_field (head.ticks + flag (head.halted || halted)) 20 health_field) λ health.
    pair (times left any_word) λ inputs.
    pages_format conf loaded p)

-- how it stands | 18; registers without a number | 15; virtual traps | 13; timers | 17 each; number of input words that are left | 4; its store
abbrev pub partition_format : Conf → Memory → SavedHead → ℕ → SavedCodec SavedPartition
partition_format conf loaded head p =
    through (λ t. record { standing = t.0; processor = t.1.0; traps = t.1.1.0; hardware_timer = t.1.1.1.0; execution_timer = t.1.1.1.1.0; store = t.1.1.1.1.1 })
    (λ s. (s.standing, (s.processor, (s.traps, (s.hardware_timer, (s.execution_timer, s.store))))))
    (pair (standing_format head p) λ standing.
    pair processor_format λ processor.
    pair traps_format λ traps.
    pair timer_field λ hardware_timer.
    pair timer_field λ execution_timer.
    keyed any_word (λ left. store_format conf loaded head p (is_halted standing.state) left) (λ store. length store.inputs))

-- the head; what each channel holds; each partition
abbrev pub machine_format : Conf → (ℕ → Memory) → List ℕ → SavedCodec SavedMachine
machine_format conf loaded container =
    through (λ t. record { head = t.0; channels = t.1.0; parts = t.1.1 }) (λ saved. (saved.head, (saved.channels, saved.parts)))
    (pair (head_format conf container) λ head.
    pair (each_of (λ chan. content_field chan.kind chan.length) conf.chans) λ channels.
    each_of (λ p. partition_format conf (loaded p) head p) (table (λ p. p) (length conf.parts)))

-- name "XMSM" | 4; version 1 | 2; length of the whole | 4; the machine; MD5 of all before it | 16: for a configuration, with what is loaded into the
-- memory of each partition, and the digest of the container
abbrev pub saved_format : Conf → (ℕ → Memory) → List ℕ → FileCodec SavedFault SavedMachine
saved_format conf loaded container = sealed_file saved_faults (codes "XMSM") (machine_format conf loaded container)
