-- Each field of a saved machine keeps both round trips.
use Rattle.std.proofs.Common.{◌≡◌, ℕ, ◌-◌, Bool, true, false, List, [], ◌∷◌, length, Some, refl, sym, ap, ◌∙◌, arith}
use Rattle.std.specs.Prelude.{◌&&◌, ◌==◌, nat_le, not, slice_get}
use Rattle.std.proofs.lemmas.Bool.{false≢true}
use Rattle.std.proofs.lemmas.Bool.Decides.{Decides-eqb}
use Rattle.codecs.specs.Lawful.{IsLawful}
use Rattle.codecs.specs.lemmas.CodecLemmas.{any_number_lawful, below_of, coded_lawful, fixed_text_lawful, keyed_lawful, no_bytes_lawful, number_lawful, optional_lawful, pair_lawful, raw_bytes_lawful, tested_lawful, through_lawful, through_where_lawful, wide64}
use Rattle.codecs.specs.lemmas.ItemLemmas.{counted_lawful, times_lawful}
use Rattle.codecs.specs.lemmas.ReadLemmas.{both}
use Rattle.codecs.specs.lemmas.TableLemmas.{AreNumbered, row_number}
use Rattle.file_headers.specs.lemmas.FieldLemmas.{wide16, wide32, wide8}
use Rattle.machine_model.specs.CoreFile.{bits_of_flags}
use Rattle.machine_model.specs.Structures.{flag, state_number}
use Rattle.saved_machines.specs.SavedFields.{SavedCodec, action_field, any_byte, any_double_word, any_word, armed_timer, byte_where, content_field, double_word_where, event_field, flag_field, flags_of, globals_field, half_word_where, health_field, holds_sample, log_counts, log_field, made_field, message_field, numbered, sample_field, state_field, states, timer_field, trace_field, word_where, zeros, kept_count, known_byte, no_timer}
use Rattle.saved_machines.proofs.MadeLemmas.{bits_back, flags_back, length-flags}
use Rattle.xm_base.specs.declared.partition.State.{State}
use Rattle.xm_base.specs.declared.partition.State.TheVariants.{Ready, Idle, Suspended, Halted}
use Rattle.xm_conf.specs.Configuration.{Conf}
use Rattle.xm_conf.specs.Health.{action_row, actions, event_row, events}
use Rattle.xm_conf.specs.declared.channel.ChanKind.{ChanKind}
use Rattle.xm_conf.specs.declared.channel.ChanKind.TheVariants as chan_kind
use Rattle.xm_conf.specs.declared.health.Action.{Action}
use Rattle.xm_conf.specs.declared.health.Action.TheVariants as action
use Rattle.xm_conf.specs.declared.health.Event.{Event}
use Rattle.xm_conf.specs.declared.health.Event.TheVariants as event
use Rattle.xm_ports.specs.Channels.{Content, Queuing, Sampling, messages_of, sample_of}

-- numbers
pub byte_lawful : (test : ℕ → Bool) → IsLawful (byte_where test)
byte_lawful test = number_lawful _ _ _ test wide8

pub half_word_lawful : (test : ℕ → Bool) → IsLawful (half_word_where test)
half_word_lawful test = number_lawful _ _ _ test wide16

pub word_lawful : (test : ℕ → Bool) → IsLawful (word_where test)
word_lawful test = number_lawful _ _ _ test wide32

pub double_word_lawful : (test : ℕ → Bool) → IsLawful (double_word_where test)
double_word_lawful test = number_lawful _ _ _ test wide64

pub any_byte_lawful : IsLawful any_byte
any_byte_lawful = any_number_lawful _ _ wide8

pub any_word_lawful : IsLawful any_word
any_word_lawful = any_number_lawful _ _ wide32

pub any_double_word_lawful : IsLawful any_double_word
any_double_word_lawful = any_number_lawful _ _ wide64

pub zeros_lawful : (count : ℕ) → IsLawful (zeros count)
zeros_lawful count = fixed_text_lawful _ _ _

-- a number that has to stand there
pub known_byte_lawful : (n : ℕ) → IsLawful (known_byte n)
known_byte_lawful n = fixed_text_lawful _ _ _

-- values of a table
numbered_lawful : {X : Type 0} (table : List X) (number_of : X → ℕ) → AreNumbered number_of 0 table → ((x : X) → slice_get table (number_of x) ≡ Some x) → IsLawful (numbered table number_of)
numbered_lawful table number_of are there =
    coded_lawful _ _ number_of any_byte (λ n x e. omega (arith, row_number number_of 0 table are n x e)) (λ x known. there x) any_byte_lawful

flag_there : (b : Bool) → slice_get (false ∷ true ∷ []) (flag b) ≡ Some b
flag_there false = refl
flag_there true = refl

pub flag_lawful : IsLawful flag_field
flag_lawful = numbered_lawful (false ∷ true ∷ []) flag (refl, (refl, tt)) flag_there

state_there : (s : State) → slice_get states (state_number s) ≡ Some s
state_there Ready = refl
state_there Idle = refl
state_there Suspended = refl
state_there Halted = refl

pub state_lawful : IsLawful state_field
state_lawful = numbered_lawful states state_number (refl, (refl, (refl, (refl, tt)))) state_there

event_there : (e : Event) → slice_get events (event_row e).number ≡ Some e
event_there event.PartitionError = refl
event_there event.MemProtection = refl
event_there event.UnexpectedTrap = refl
event_there event.SparcIllegalInstruction = refl
event_there event.SparcPrivilegedInstruction = refl
event_there event.SparcFpDisabled = refl
event_there event.SparcCpDisabled = refl
event_there event.SparcAddressNotAligned = refl
event_there event.SparcTagOverflow = refl
event_there event.SparcDivideException = refl
event_there event.SparcInstrAccess = refl
event_there event.SparcDataAccess = refl

pub event_lawful : IsLawful event_field
event_lawful = numbered_lawful events (λ e. (event_row e).number) (refl, (refl, (refl, (refl, (refl, (refl, (refl, (refl, (refl, (refl, (refl, (refl, tt)))))))))))) event_there

action_there : (a : Action) → slice_get actions (action_row a).number ≡ Some a
action_there action.Ignore = refl
action_there action.Shutdown = refl
action_there action.PartitionColdReset = refl
action_there action.PartitionWarmReset = refl
action_there action.Suspend = refl
action_there action.Halt = refl
action_there action.Propagate = refl
action_there action.HypervisorColdReset = refl
action_there action.HypervisorWarmReset = refl
action_there action.HypervisorHalt = refl
action_there action.SwitchToMaintenance = refl

pub action_lawful : IsLawful action_field
action_lawful = numbered_lawful actions (λ a. (action_row a).number) (refl, (refl, (refl, (refl, (refl, (refl, (refl, (refl, (refl, (refl, (refl, tt))))))))))) action_there

-- ports that are made
pub made_lawful : (conf : Conf) (p : ℕ) → IsLawful (made_field conf p)
made_lawful conf p =
    tested_lawful _ _ _
    (through_where_lawful _ _ _ any_word
    (λ n fits. (bits_back 32 n (below_of n _ fits), (Decides-eqb (length (flags_of 32 n)) 32).1 (length-flags 32 n)))
    (λ made fits long. ap (λ count. flags_of count (bits_of_flags made)) (sym ((Decides-eqb (length made) 32).0 long)) ∙ flags_back made)
    any_word_lawful)

-- timers
armed_timer_lawful : IsLawful armed_timer
armed_timer_lawful = through_lawful _ _ _ (λ t fits. refl) (λ timer fits. refl) (pair_lawful _ _ (double_word_lawful _) λ deadline. double_word_lawful _)

no_timer_lawful : IsLawful no_timer
no_timer_lawful = through_lawful _ _ _ (λ t fits. refl) (λ u fits. refl) (pair_lawful _ _ (zeros_lawful 8) λ deadline. zeros_lawful 8)

pub timer_lawful : IsLawful timer_field
timer_lawful = optional_lawful _ _ _ flag_lawful armed_timer_lawful no_timer_lawful

-- messages
pub message_lawful : (most : ℕ) → IsLawful (message_field most)
message_lawful most =
    keyed_lawful _ _ _ (half_word_lawful _) (λ n. raw_bytes_lawful _ n) (λ n bytes fits. (Decides-eqb (length bytes) n).0 fits)

pub sample_lawful : (most : ℕ) → IsLawful (sample_field most)
sample_lawful most = through_lawful _ _ _ (λ t fits. refl) (λ s fits. refl) (pair_lawful _ _ any_double_word_lawful λ time. message_lawful most)

-- what a channel holds
sampling_there : (content : Content) → holds_sample content ≡ true → Sampling (sample_of content) ≡ content
sampling_there (Sampling sample) good = refl
sampling_there (Queuing messages) good = absurd (false≢true good)

queuing_there : (content : Content) → not (holds_sample content) ≡ true → Queuing (messages_of content) ≡ content
queuing_there (Sampling sample) good = absurd (false≢true good)
queuing_there (Queuing messages) good = refl

pub content_lawful : (kind : ChanKind) (length : ℕ) → IsLawful (content_field kind length)
content_lawful (chan_kind.Sampling refresh) length =
    through_where_lawful _ _ _ _ (λ sample fits. (refl, refl)) (λ content fits good. sampling_there content good) (optional_lawful _ _ _ flag_lawful (sample_lawful length) no_bytes_lawful)
content_lawful (chan_kind.Queuing most) length =
    through_where_lawful _ _ _ _ (λ messages fits. (refl, refl)) (λ content fits good. queuing_there content good) (counted_lawful _ _ (byte_lawful _) (message_lawful length))

-- logs
counts_back : (first word few : Bool) (oldest next : ℕ) → (first && (word && (few && (oldest == next - kept_count next)))) ≡ true → next - kept_count next ≡ oldest
counts_back first word few oldest next e = sym ((Decides-eqb oldest (next - kept_count next)).0 (both few _ (both word _ (both first _ e).1).1).1)

pub counts_lawful : (most : ℕ) → IsLawful (log_counts most)
counts_lawful most =
    through_lawful _ _ _ (λ t fits. ap (λ oldest. (oldest, t.1)) (counts_back (any_word.fits t.0) (any_word.fits t.1) (nat_le t.1 most) t.0 t.1 fits)) (λ next fits. refl)
    (pair_lawful _ _ any_word_lawful λ oldest. word_lawful _)

pub log_lawful : {T : Type 0} (most size : ℕ) (entry : SavedCodec T) → IsLawful entry → IsLawful (log_field most size entry)
log_lawful most size entry law =
    through_lawful _ _ _ (λ t fits. refl) (λ kept fits. refl) (pair_lawful _ _ (counts_lawful most) λ next. pair_lawful _ _ (times_lawful _ entry law) λ entries. zeros_lawful _)

pub trace_lawful : IsLawful trace_field
trace_lawful =
    through_lawful _ _ _ (λ t fits. refl) (λ e fits. refl)
    (pair_lawful _ _ any_double_word_lawful λ time. pair_lawful _ _ any_word_lawful λ bits. pair_lawful _ _ any_word_lawful λ seq. raw_bytes_lawful _ 8)

pub health_lawful : IsLawful health_field
health_lawful =
    through_lawful _ _ _ (λ t fits. refl) (λ e fits. refl)
    (pair_lawful _ _ any_double_word_lawful λ time. pair_lawful _ _ any_word_lawful λ seq. pair_lawful _ _ event_lawful λ e. pair_lawful _ _ action_lawful λ a. pair_lawful _ _ (zeros_lawful 2) λ none. any_word_lawful)

pub globals_lawful : IsLawful globals_field
globals_lawful = tested_lawful _ _ _ (times_lawful 8 any_word any_word_lawful)
