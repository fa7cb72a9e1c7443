-- The fields of a saved machine.
use Rattle.std.specs.Prelude.{ℕ, zero, suc, ◌-◌, ◌*◌, ◌/◌, ◌%◌, ◌^◌, ◌==◌, Bool, true, false, ◌&&◌, ◌||◌, not, nat_le, nat_lt, is_some, List, [], ◌∷◌, length, min, replicate, slice_get, slice_index_or, Option}
use Rattle.std.specs.Int.{w16, w32, w64, w8}
use Rattle.codecs.specs.Codec.{Codec, any_number, coded, counted, fixed_text, keyed, no_bytes, number, optional, pair, raw_bytes, tested, through, through_where, times}
use Rattle.fault_messages.specs.OfHeads.{head_fault_as}
use Rattle.fault_messages.specs.declared.fault.HeadFault.{HeadFault}
use Rattle.file_headers.specs.Faults.{HeadFaults}
use Rattle.file_headers.specs.Known.{head_faults}
use Rattle.file_headers.specs.Lifted.{lifted_faults}
use Rattle.health_monitor.specs.declared.entry.HealthEntry.{HealthEntry}
use Rattle.machine_model.specs.CoreFile.{bits_of_flags}
use Rattle.machine_model.specs.Structures.{flag, state_number}
use Rattle.machine_model.specs.View.{part_of}
use Rattle.saved_machines.specs.declared.fault.SavedFault.{SavedFault}
use Rattle.saved_machines.specs.declared.fault.SavedFault.TheVariants as fault
use Rattle.virt_clocks.specs.declared.timer.Timer.{Timer}
use Rattle.xm_base.specs.declared.partition.State.{State}
use Rattle.xm_base.specs.declared.partition.State.TheVariants.{Ready, Idle, Suspended, Halted}
use Rattle.xm_conf.specs.Configuration.{Conf}
use Rattle.xm_conf.specs.Health.{action_row, actions, event_row, events}
use Rattle.xm_conf.specs.View.{channel_of}
use Rattle.xm_conf.specs.declared.channel.ChanKind.{ChanKind}
use Rattle.xm_conf.specs.declared.channel.ChanKind.TheVariants as chan_kind
use Rattle.xm_conf.specs.declared.health.Action.{Action}
use Rattle.xm_conf.specs.declared.health.Event.{Event}
use Rattle.xm_ports.specs.Channels.{Content, HeldSample, Queuing, Sampling, messages_of, sample_of}
use Rattle.xm_traces.specs.Ring.{Kept, RING_ENTRIES, kept_of}
use Rattle.xm_traces.specs.declared.entry.TraceEntry.{TraceEntry}

-- a format of a part of a saved machine
abbrev pub SavedCodec : Type 0 → Type 0
SavedCodec X = Codec SavedFault X

-- the fault of a head as one of a saved machine
abbrev pub saved_fault : HeadFault → SavedFault
saved_fault found = head_fault_as fault.Magic fault.Version fault.Short fault.Trailing fault.Digest found

-- how the faults of its head and its digest are made
abbrev pub saved_faults : HeadFaults SavedFault
saved_faults = lifted_faults saved_fault head_faults

-- a field that passes the end, and one whose value is not allowed
abbrev pub saved_short : ℕ → SavedFault
saved_short at = fault.Short at

abbrev pub saved_field : ℕ → SavedFault
saved_field at = fault.Field at

-- numbers that have to pass a test
abbrev pub byte_where : (ℕ → Bool) → SavedCodec ℕ
byte_where test = number saved_short (λ at n. saved_field at) w8 test

abbrev pub half_word_where : (ℕ → Bool) → SavedCodec ℕ
half_word_where test = number saved_short (λ at n. saved_field at) w16 test

abbrev pub word_where : (ℕ → Bool) → SavedCodec ℕ
word_where test = number saved_short (λ at n. saved_field at) w32 test

abbrev pub double_word_where : (ℕ → Bool) → SavedCodec ℕ
double_word_where test = number saved_short (λ at n. saved_field at) w64 test

-- any byte, any word, any double word
abbrev pub any_byte : SavedCodec ℕ
any_byte = any_number saved_short w8

abbrev pub any_word : SavedCodec ℕ
any_word = any_number saved_short w32

abbrev pub any_double_word : SavedCodec ℕ
any_double_word = any_number saved_short w64

-- zeros, this many
abbrev pub zeros : ℕ → SavedCodec (Unit {0})
zeros count = fixed_text saved_short saved_field (replicate count 0)

-- a number that has to stand there
abbrev pub known_byte : ℕ → SavedCodec (Unit {0})
known_byte n = fixed_text saved_short saved_field (n ∷ [])

-- a value of a table by its number
abbrev pub numbered : {X : Type 0} → List X → (X → ℕ) → SavedCodec X
numbered table number_of = coded saved_field (λ n. slice_get table n) number_of any_byte

-- a flag
abbrev pub flag_field : SavedCodec Bool
flag_field = numbered (false ∷ true ∷ []) flag

-- the states of a partition in the order of their numbers, and a state
abbrev pub states : List State
states = Ready ∷ Idle ∷ Suspended ∷ Halted ∷ []

abbrev pub state_field : SavedCodec State
state_field = numbered states state_number

-- a health event, and an action
abbrev pub event_field : SavedCodec Event
event_field = numbered events (λ event. (event_row event).number)

abbrev pub action_field : SavedCodec Action
action_field = numbered actions (λ action. (action_row action).number)

-- the low bits of a number as flags, this many, the lowest first
unfoldable pub flags_of : ℕ → ℕ → List Bool
flags_of zero n = []
flags_of (suc count) n = (n % 2 == 1) ∷ flags_of count (n / 2)

-- whether port r of partition p is there, and is an end of a channel
abbrev pub is_channel_end : Conf → ℕ → ℕ → Bool
is_channel_end conf p r = nat_lt r (length (part_of conf p).ports) && is_some (channel_of conf p r)

-- whether only such ports are made, of these from port r on
abbrev pub are_channel_ends : Conf → ℕ → ℕ → List Bool → Bool
are_channel_ends conf p r [] = true
are_channel_ends conf p r (made ∷ later) = (not made || is_channel_end conf p r) && are_channel_ends conf p (suc r) later

-- which of 32 ports are made, a bit each, port 0 the lowest
abbrev pub made_field : Conf → ℕ → SavedCodec (List Bool)
made_field conf p =
    tested (λ at made. saved_field at) (λ made. are_channel_ends conf p 0 made)
    (through_where (λ made. length made == 32) (λ n. flags_of 32 n) (λ made. bits_of_flags made) any_word)

-- the deadline | 8 | 1 to 2^63 - 1; the interval | 8 | below 2^63
abbrev pub armed_timer : SavedCodec Timer
armed_timer =
    through (λ t. record { deadline = t.0; interval = t.1 }) (λ timer. (timer.deadline, timer.interval))
    (pair (double_word_where (λ n. nat_le 1 n && nat_lt n (2 ^ 63))) λ deadline. double_word_where (λ n. nat_lt n (2 ^ 63)))

-- zeros for the deadline | 8; zeros for the interval | 8
abbrev pub no_timer : SavedCodec (Unit {0})
no_timer = through (λ t. tt) (λ u. (tt, tt)) (pair (zeros 8) λ deadline. zeros 8)

-- whether a timer is armed | 1; the timer, or zeros
abbrev pub timer_field : SavedCodec (Option Timer)
timer_field = optional flag_field armed_timer no_timer

-- the length of a message | 2 | 1 to the most; its bytes
abbrev pub message_field : ℕ → SavedCodec (List ℕ)
message_field most = keyed (half_word_where (λ n. nat_le 1 n && nat_le n most)) (λ n. raw_bytes saved_short n) (λ bytes. length bytes)

-- the time of a message | 8; the message
abbrev pub sample_field : ℕ → SavedCodec HeldSample
sample_field most =
    through (λ t. record { time = t.0; bytes = t.1 }) (λ sample. (sample.time, sample.bytes)) (pair any_double_word λ time. message_field most)

-- whether a content is that of a sampling channel
abbrev pub holds_sample : Content → Bool
holds_sample (Sampling sample) = true
holds_sample (Queuing messages) = false

-- a sampling channel: whether it holds a message | 1; the message. A queue: how many messages wait | 1 | up to its most; each, the oldest first
abbrev pub content_field : ChanKind → ℕ → SavedCodec Content
content_field (chan_kind.Sampling refresh) length =
    through_where (λ content. holds_sample content) (λ sample. Sampling sample) (λ content. sample_of content) (optional flag_field (sample_field length) no_bytes)
content_field (chan_kind.Queuing most) length =
    through_where (λ content. not (holds_sample content)) (λ messages. Queuing messages) (λ content. messages_of content)
    (counted (byte_where (λ n. nat_le n most)) (message_field length))

-- how many entries are kept of this many
abbrev pub kept_count : ℕ → ℕ
kept_count next = min next RING_ENTRIES

-- the number of the oldest entry that is kept | 4; the next number | 4 | up to the most
abbrev pub log_counts : ℕ → SavedCodec ℕ
log_counts most =
    through (λ t. t.1) (λ next. (next - kept_count next, next))
    (pair any_word λ oldest. word_where (λ next. nat_le next most && oldest == next - kept_count next))

-- the counts of a log; the entries that are kept, the oldest first; zeros in the places that are left, of this many bytes each
abbrev pub log_field : {T : Type 0} → ℕ → ℕ → SavedCodec T → SavedCodec (Kept T)
log_field most size entry =
    through (λ t. kept_of t.0 t.1.0) (λ kept. (kept.next, (kept.entries, tt)))
    (pair (log_counts most) λ next. pair (times (kept_count next) entry) λ entries. zeros ((RING_ENTRIES - kept_count next) * size))

-- time | 8; bits | 4; number | 4; load | 8
abbrev pub trace_field : SavedCodec TraceEntry
trace_field =
    through (λ t. record { time = t.0; bits = t.1.0; seq = t.1.1.0; load = t.1.1.1 }) (λ e. (e.time, (e.bits, (e.seq, e.load))))
    (pair any_double_word λ time. pair any_word λ bits. pair any_word λ seq. raw_bytes saved_short 8)

-- time | 8; number | 4; event | 1; action | 1; zeros | 2; word | 4
abbrev pub health_field : SavedCodec HealthEntry
health_field =
    through (λ t. record { time = t.0; seq = t.1.0; event = t.1.1.0; action = t.1.1.1.0; word = t.1.1.1.1.1 })
    (λ e. (e.time, (e.seq, (e.event, (e.action, (tt, e.word))))))
    (pair any_double_word λ time. pair any_word λ seq. pair event_field λ event. pair action_field λ action. pair (zeros 2) λ none. any_word)

-- eight words, of which the first is 0
abbrev pub globals_field : SavedCodec (List ℕ)
globals_field = tested (λ at globals. saved_field at) (λ globals. slice_index_or globals 0 0 == 0) (times 8 any_word)
