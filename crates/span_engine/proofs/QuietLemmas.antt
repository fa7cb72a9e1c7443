-- Ticks of which none but the last may have an act that ends a stretch, and of which in none but the last partitions may receive more than
-- whose slot it is.
use Rattle.std.proofs.Common.{◌≡◌, ℕ, zero, suc, ◌+◌, ◌<◌, ◌≤◌, Bool, true, false, List, Option, None, Some, refl, ap, subst, ◌∙◌, arith}
use Rattle.std.specs.Prelude.{◌-◌, if◌then◌else◌, IfSome}
use Rattle.guest_bus.specs.Memory.{Area, Memory}
use Rattle.sparc_step.specs.Execution.{Turned}
use Rattle.sparc_step.specs.Registers.{Registers}
use Rattle.sparc_step.specs.declared.outcome.Turn.{Turn}
use Rattle.sparc_step.specs.declared.outcome.Turn.TheVariants.{Went, Trap, Call}
use Rattle.machine_model.specs.Machine as machine
use Rattle.machine_model.specs.Machine.{Machine, local, run}
use Rattle.machine_model.specs.Partition.{PartitionState, areas_of}
use Rattle.machine_model.specs.Emission as emission
use Rattle.machine_model.specs.Emission.{Act, OwnPuts, OwnSignals, OwnStill, OwnTakes, OwnTraffic}
use Rattle.machine_model.specs.Traffic.{Puts, Signals, Still, Takes, Traffic, puts_at, takes_at, traffic_as, traffic_of}
use Rattle.machine_model.specs.View.{PartitionView, named, view_of}
use Rattle.span_model.specs.Calm.{GoneCalm, IsCalm}
use Rattle.span_model.specs.Meeting.{HasGone}
use Rattle.span_model.specs.SpanLaws.{met}
use Rattle.span_model.specs.Spans.{IsSpan}
use Rattle.virt_traps.specs.Stepping.{stepped, then_settled}
use Rattle.span_model.specs.Undisturbed.{IsUndisturbed}
use Rattle.system_state.specs.Serving.{traffic_by, without_traffic}
use Rattle.system_state.specs.declared.served.Note.{Note}
use Rattle.system_state.specs.declared.served.Note.TheVariants as note
use Rattle.xm_conf.specs.Configuration.{Conf}
use Rattle.tick_steps.specs.Kept.{AreBareTicks}
use Rattle.tick_steps.specs.Quiet.{AreQuiet, ends_in, ends_stretch, is_signal}
use Rattle.tick_steps.specs.Span.{ends_so, notes_signal}
use Rattle.tick_steps.specs.Work.{act_beyond}
use Rattle.tick_steps.specs.declared.beyond.Beyond.{Beyond}
use Rattle.span_engine.proofs.KeepingLemmas.{calm_bare}

-- a tick with this act
pub acts_so : (g : Machine) (act : Act) → machine.act_of (local g) ≡ act → ends_in g ≡ ends_stretch act
unfolding ends_in
acts_so g act is = ap ends_stretch is

-- a tick that reaches beyond no partition
pub calm_goes : (g : Machine) (k : ℕ) (works : Bool) → IsCalm g k works → ends_in (run g k) ≡ false
calm_goes g k works calm = acts_so (run g k) emission.Nothing calm.act

-- whether traffic under the system's numbers is a signal
signals_in : Traffic → Bool
signals_in Still = false
signals_in (Puts channel bytes) = false
signals_in (Takes channel) = false
signals_in (Signals source number) = true

own_signals_in : (conf : Conf) (p : ℕ) (own : OwnTraffic) → is_signal own ≡ signals_in (traffic_as conf p own)
unfolding signals_in
own_signals_in conf p OwnStill = refl
own_signals_in conf p (OwnPuts name bytes) = by (named conf p name)
  where
    by : (o : Option ℕ) → false ≡ signals_in (puts_at o bytes)
    by None = refl
    by (Some channel) = refl
own_signals_in conf p (OwnTakes name) = by (named conf p name)
  where
    by : (o : Option ℕ) → false ≡ signals_in (takes_at o)
    by None = refl
    by (Some channel) = refl
own_signals_in conf p (OwnSignals number) = refl

noted_signals_in : (p : ℕ) (a_note : Note) (memory : Memory) → signals_in (traffic_by p a_note memory) ≡ notes_signal a_note
unfolding signals_in
noted_signals_in p note.Nothing memory = refl
noted_signals_in p (note.Console at size) memory = refl
noted_signals_in p (note.Trace entry) memory = refl
noted_signals_in p (note.Put chan at size) memory = refl
noted_signals_in p (note.Take chan) memory = refl
noted_signals_in p (note.Saw at size) memory = refl
noted_signals_in p note.NotKept memory = refl
noted_signals_in p (note.Signal number) memory = refl

-- of traffic a signal alone ends a stretch
traffic_apart : (act : Act) → ends_stretch act ≡ (if is_signal (traffic_of act) then true else ends_stretch (without_traffic act))
traffic_apart emission.Nothing = refl
traffic_apart (emission.Trades own) = by (is_signal own)
  where
    by : (b : Bool) → b ≡ (if b then true else false)
    by true = refl
    by false = refl
traffic_apart (emission.Upon id order) = refl
traffic_apart (emission.Plans change) = refl
traffic_apart (emission.UponAll event) = refl

-- so the note and what reaches beyond the partition say what ends a stretch
pub same_end : (conf : Conf) (p : ℕ) (act : Act) (a_note : Note) (reach : Beyond) (memory : Memory) → traffic_as conf p (traffic_of act) ≡ traffic_by p a_note memory
    → without_traffic act ≡ act_beyond reach → ends_stretch act ≡ ends_so a_note reach
same_end conf p act a_note reach memory traffic is =
    traffic_apart act
    ∙ ap (λ (b : Bool). if b then true else ends_stretch (without_traffic act)) (own_signals_in conf p (traffic_of act) ∙ ap signals_in traffic ∙ noted_signals_in p a_note memory)
    ∙ ap (λ (a : Act). if notes_signal a_note then true else ends_stretch a) is

-- a partition that went in a step went in the one before
went_before : (turn : Turn) (areas : List Area) (t : Turned) → t.turn ≡ turn → (then_settled turn areas t).turn ≡ Went → t.turn ≡ Went
went_before Went areas t is went = is
went_before (Trap type) areas t is went = went
went_before Call areas t is went = went

-- and in all before
went_earlier : (j n : ℕ) (areas : List Area) (core : Registers) (memory : Memory) → (stepped (j + n) areas core memory).turn ≡ Went → (stepped j areas core memory).turn ≡ Went
went_earlier j zero areas core memory went = subst (λ (k : ℕ). (stepped k areas core memory).turn ≡ Went) (none j) went
  where
    none : (i : ℕ) → i + zero ≡ i
    none i = omega arith
went_earlier j (suc n) areas core memory went =
    went_earlier j n areas core memory
    (went_before (stepped (j + n) areas core memory).turn areas (stepped (j + n) areas core memory) refl
    (subst (λ (k : ℕ). (stepped k areas core memory).turn ≡ Went) (more j n) went))
  where
    more : (i k : ℕ) → i + suc k ≡ suc (i + k)
    more i k = omega arith

pub earlier_gone : (j k : ℕ) (view : PartitionView) (ps : PartitionState) → j ≤ k → HasGone k view ps → HasGone j view ps
earlier_gone j k view ps within gone =
    went_earlier j (k - j) (areas_of view) ps.core ps.memory
    (subst (λ (n : ℕ). (stepped n (areas_of view) ps.core ps.memory).turn ≡ Went) (rest j k within) gone)
  where
    rest : (i n : ℕ) → i ≤ n → n ≡ i + (n - i)
    rest i n less = omega (arith, less)

-- timers that do not fall due up to a tick do not up to an earlier one
pub earlier_bound : (j k : ℕ) (o : Option ℕ) → j ≤ k → IfSome o (λ ticks. k < ticks) → IfSome o (λ ticks. j < ticks)
earlier_bound j k None within bound = bound
earlier_bound j k (Some ticks) within bound = omega (arith, within, bound)

-- the ticks of a span are also ticks of a shorter one
earlier_span : (g : Machine) (j k : ℕ) → j ≤ k → IsSpan g k → IsSpan g j
earlier_span g j k less is = record {
  running = is.running;
  begun = is.begun;
  within = inside is.within;
  alike = λ i below. is.alike i (omega (arith, below, less));
}
  where
    inside : {end : ℕ} → g.time + k < end → g.time + j < end
    inside {end} before = omega (arith, before, less)

-- a partition that goes undisturbed up to a tick does up to an earlier one
earlier_undisturbed : (g : Machine) (p : ℕ) (first : Bool) (ps : PartitionState) (j k : ℕ) → j ≤ k → IsUndisturbed g p first ps k → IsUndisturbed g p first ps j
earlier_undisturbed g p first ps j k less is = record {
  span = earlier_span g j k less is.span;
  goes = is.goes;
  undelivered = is.undelivered;
  timers = earlier_bound j k _ less is.timers;
}

-- ticks in which the partition of a slot only went, and one more
calm_before : GoneCalm → (g : Machine) (p : ℕ) (first : Bool) (ps : PartitionState) (done : ℕ) → IsUndisturbed g p first ps done → HasGone done (view_of g.system p) (met g first ps)
    → (k : ℕ) → k + 1 < done + 1 → IsCalm g k true
calm_before calms g p first ps done is gone k below =
    calms g p first ps k (earlier_undisturbed g p first ps k done (omega (arith, below)) is) (earlier_gone (suc k) done (view_of g.system p) (met g first ps) (omega (arith, below)) gone)

pub quiet_gone : GoneCalm → (g : Machine) (p : ℕ) (first : Bool) (ps : PartitionState) (done : ℕ) → IsUndisturbed g p first ps done → HasGone done (view_of g.system p) (met g first ps)
    → AreQuiet (done + 1) g
quiet_gone calms g p first ps done is gone k below = calm_goes g k true (calm_before calms g p first ps done is gone k below)

pub bare_gone : GoneCalm → (g : Machine) (p : ℕ) (first : Bool) (ps : PartitionState) (done : ℕ) → IsUndisturbed g p first ps done → HasGone done (view_of g.system p) (met g first ps)
    → AreBareTicks (done + 1) g
bare_gone calms g p first ps done is gone k below = calm_bare g k true (calm_before calms g p first ps done is gone k below)
