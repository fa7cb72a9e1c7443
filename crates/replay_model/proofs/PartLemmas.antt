-- What each pass of a tick in isolation leaves of a partition's part of the machine.
use Rattle.std.proofs.Common.{◌≡◌, ℕ, zero, suc, ◌<◌, Bool, true, false, List, [], ◌∷◌, length, map, get_or, Option, None, Some, refl, sym, ap, ◌∙◌, arith}
use Rattle.std.specs.Prelude.{if◌then◌else◌}
use Rattle.std.proofs.lemmas.List.{get_or-set_same, length-set}
use Rattle.xm_base.specs.Options.{on}
use Rattle.xm_base.specs.declared.partition.Order.{Order}
use Rattle.xm_base.specs.declared.partition.State.{State}
use Rattle.xm_conf.specs.Configuration.{Conf}
use Rattle.xm_ports.specs.Channels.{Content, cleared}
use Rattle.machine_model.specs.lemmas.ListLemmas.{each_counted as each_length}
use Rattle.machine_model.specs.Alone.{Alone}
use Rattle.machine_model.specs.Laws.{part}
use Rattle.machine_model.specs.lemmas.LinkLemmas.{own_signal}
use Rattle.machine_model.specs.Lists.{each}
use Rattle.machine_model.specs.Machine.{Machine, booted_part, copies, obeyed_emissions}
use Rattle.machine_model.specs.Partition.{PartitionState, applies, is_halted, link_signal, order_emissions, ordered_emissions, reset}
use Rattle.machine_model.specs.Emission.{OwnPuts, OwnSignals, OwnStill, OwnTakes, OwnTraffic}
use Rattle.machine_model.specs.Traffic.{Puts, Signals, Still, Takes, Traffic, after_message, after_traffic, copies_after, copies_of, heard_as, heard_from, heard_of_own, hearing, interrupted, own_puts_at, own_takes_at, puts_at, takes_at, traffic_as}
use Rattle.machine_model.specs.View.{PartitionView, name_of, named, part_of, view_of}
use Rattle.machine_model.specs.Whole.{AllHalted, AllReset, NoEvent, WholeEvent, after_event, content_after, ticks_after, time_after}
use Rattle.span_model.specs.Passes.{part_at, traded, with_part, with_traffic}
use Rattle.virt_traps.specs.Virtual.{raised}
use Rattle.replay_model.specs.Laws.{IsOwnChannel}
use Rattle.replay_model.specs.Passes.{event_met, part_in, traffic_received, tick_past}
use Rattle.replay_model.proofs.CopyLemmas.{cleared_copies, each_id, named_name, on_id, on_same, own_copies, signal_kept}

-- a partition alone, of its parts
abbrev pub alone_of : PartitionState → List (Option Content) → ℕ → ℕ → Alone
alone_of state contents ticks time = record { state = state; copies = contents; ticks = ticks; time = time }

-- the partition's state is another one
pub part_put : (p : ℕ) (x : PartitionState) (g : Machine) → p < length g.parts → part_in (with_part p x g) p ≡ alone_of x (copies g p) g.ticks g.time
unfolding part copies
part_put p x g below = ap (λ (s : PartitionState). alone_of s (copies g p) g.ticks g.time) (get_or-set_same g.parts p x (booted_part g.system p) below)

pub part_is : (g : Machine) (p : ℕ) → part_in g p ≡ alone_of (part_at p g) (copies g p) g.ticks g.time
unfolding part
part_is g p = refl

-- an element of what is changed, or else another one
each_or : {X : Type 0} (f : ℕ → X → X) (xs : List X) (p : ℕ) (d : X) → p < length xs → get_or (each f xs) p d ≡ f p (get_or xs p d)
each_or f [] p d below = absurd (omega (arith, below))
each_or f (x ∷ xs) zero d below = refl
each_or f (x ∷ xs) (suc p) d below = each_or (λ k. f (suc k)) xs p d (omega (arith, below))

-- traffic of the system, as partition p hears it
abbrev heard_state : Machine → Traffic → ℕ → PartitionState → PartitionState
heard_state g t q ps = hearing (view_of g.system q) (heard_as g.system.conf q t) ps

abbrev traded_part : Machine → Traffic → ℕ → Alone
traded_part g t p =
    alone_of (heard_state g t p (part_at p g)) (copies_of g.system.conf p (length (part_of g.system.conf p).ports) (each (after_traffic g.time t) g.channels)) g.ticks g.time

part_trafficked : (g : Machine) (p : ℕ) (t : Traffic) → p < length g.parts → part_in (with_traffic t g) p ≡ traded_part g t p
unfolding part copies
part_trafficked g p t below =
    ap (λ (s : PartitionState). alone_of s (copies_of g.system.conf p (length (part_of g.system.conf p).ports) (each (after_traffic g.time t) g.channels)) g.ticks g.time)
    (each_or (heard_state g t) g.parts p (booted_part g.system p) below)

part_still : (g : Machine) (p : ℕ) → part_in g p ≡ traded_part g Still p
unfolding part copies
part_still g p =
    ap (λ (channels : List Content). alone_of (part_at p g) (copies_of g.system.conf p (length (part_of g.system.conf p).ports) channels) g.ticks g.time) (sym (each_id g.channels))

part_after_traffic : (g : Machine) (p : ℕ) (t : Traffic) → p < length g.parts → part_in (traded t g) p ≡ traded_part g t p
part_after_traffic g p Still below = part_still g p
part_after_traffic g p (Puts c bytes) below = part_trafficked g p (Puts c bytes) below
part_after_traffic g p (Takes c) below = part_trafficked g p (Takes c) below
part_after_traffic g p (Signals source number) below = part_trafficked g p (Signals source number) below

-- what a partition hears of traffic under its own name
puts_heard : (conf : Conf) (p q : ℕ) (bytes : List ℕ) (c : ℕ) → named conf p q ≡ Some c
    → heard_as conf p (puts_at (named conf p q) bytes) ≡ OwnPuts q bytes
puts_heard conf p q bytes c is =
    ap (λ o. heard_as conf p (puts_at o bytes)) is ∙ ap (λ o. own_puts_at o bytes) (named_name conf p q c is)

takes_heard : (view : PartitionView) (conf : Conf) (p : ℕ) (o : Option ℕ) (ps : PartitionState) → hearing view (heard_as conf p (takes_at o)) ps ≡ ps
takes_heard view conf p None ps = refl
takes_heard view conf p (Some c) ps = by (name_of conf p c)
  where
    by : (n : Option ℕ) → hearing view (own_takes_at n) ps ≡ ps
    by None = refl
    by (Some q) = refl

-- what it hears of traffic of its own
own_heard : (view : PartitionView) (conf : Conf) (p : ℕ) (own : OwnTraffic) (ps : PartitionState) → IsOwnChannel conf p own
    → hearing view (heard_as conf p (traffic_as conf p own)) ps ≡ hearing view (heard_of_own own) ps
own_heard view conf p OwnStill ps is = refl
own_heard view conf p (OwnPuts q bytes) ps is = ap (λ heard. hearing view heard ps) (puts_heard conf p q bytes is.0 is.1)
own_heard view conf p (OwnTakes q) ps is = takes_heard view conf p (named conf p q) ps
own_heard view conf p (OwnSignals number) ps is = ap (λ heard. hearing view heard ps) (own_signal conf p number)

-- traffic of its own
pub part_traded : (g : Machine) (p : ℕ) (own : OwnTraffic) → p < length g.parts → IsOwnChannel g.system.conf p own
    → part_in (traded (traffic_as g.system.conf p own) g) p
    ≡ alone_of (hearing (view_of g.system p) (heard_of_own own) (part_at p g)) (copies_after g.time (heard_of_own own) (copies g p)) g.ticks g.time
unfolding copies
part_traded g p own below is =
    part_after_traffic g p (traffic_as g.system.conf p own) below
    ∙ ap (λ (s : PartitionState). alone_of s (copies_of g.system.conf p (length (part_of g.system.conf p).ports) (each (after_traffic g.time (traffic_as g.system.conf p own)) g.channels)) g.ticks g.time)
    (own_heard (view_of g.system p) g.system.conf p own (part_at p g) is)
    ∙ ap (λ (contents : List (Option Content)). alone_of (hearing (view_of g.system p) (heard_of_own own) (part_at p g)) contents g.ticks g.time)
    (own_copies g.system.conf p (length (part_of g.system.conf p).ports) g.time own g.channels)

-- traffic of others that it receives
pub part_received : (g : Machine) (p : ℕ) (own : OwnTraffic) → p < length g.parts → IsOwnChannel g.system.conf p own
    → part_in (traffic_received p own g) p ≡ alone_of (hearing (view_of g.system p) own (part_at p g)) (copies_after g.time own (copies g p)) g.ticks g.time
part_received g p OwnStill below is = part_traded g p OwnStill below is
part_received g p (OwnPuts q bytes) below is = part_traded g p (OwnPuts q bytes) below is
part_received g p (OwnTakes q) below is = part_traded g p (OwnTakes q) below is
part_received g p (OwnSignals number) below is =
    part_put p (hearing (view_of g.system p) (OwnSignals number) (part_at p g)) g below
    ∙ ap (λ (contents : List (Option Content)). alone_of (hearing (view_of g.system p) (OwnSignals number) (part_at p g)) contents g.ticks g.time)
    (sym (signal_kept (copies g p) g.time number))

-- what is the same after traffic
pub traded_system : (t : Traffic) (g : Machine) → (traded t g).system ≡ g.system
traded_system Still g = refl
traded_system (Puts c bytes) g = refl
traded_system (Takes c) g = refl
traded_system (Signals source number) g = refl

pub traded_length : (t : Traffic) (g : Machine) → length (traded t g).parts ≡ length g.parts
traded_length Still g = refl
traded_length (Puts c bytes) g = each_length (heard_state g (Puts c bytes)) g.parts
traded_length (Takes c) g = each_length (heard_state g (Takes c)) g.parts
traded_length (Signals source number) g = each_length (heard_state g (Signals source number)) g.parts

-- and after that of others
pub received_system : (p : ℕ) (own : OwnTraffic) (g : Machine) → (traffic_received p own g).system ≡ g.system
received_system p OwnStill g = refl
received_system p (OwnPuts q bytes) g = traded_system (puts_at (named g.system.conf p q) bytes) g
received_system p (OwnTakes q) g = traded_system (takes_at (named g.system.conf p q)) g
received_system p (OwnSignals number) g = refl

pub received_length : (p : ℕ) (own : OwnTraffic) (g : Machine) → length (traffic_received p own g).parts ≡ length g.parts
received_length p OwnStill g = refl
received_length p (OwnPuts q bytes) g = traded_length (puts_at (named g.system.conf p q) bytes) g
received_length p (OwnTakes q) g = traded_length (takes_at (named g.system.conf p q)) g
received_length p (OwnSignals number) g = length-set g.parts p (hearing (view_of g.system p) (OwnSignals number) (part_at p g))

-- a hypervisor event
kept_copies : (contents : List (Option Content)) → contents ≡ map (on (λ content. content)) contents
kept_copies [] = refl
kept_copies (o ∷ contents) = rw (sym (kept_copies contents), on_id o) refl

same_map : (f g : Option Content → Option Content) (contents : List (Option Content)) → ((o : Option Content) → f o ≡ g o) → map f contents ≡ map g contents
same_map f g [] same = refl
same_map f g (o ∷ contents) same = rw (same o, same_map f g contents same) refl

event_kept : (e : WholeEvent) (contents : List (Option Content)) → ((content : Content) → content ≡ content_after e content) → contents ≡ map (on (content_after e)) contents
event_kept e contents same = kept_copies contents ∙ same_map (on (λ content. content)) (on (content_after e)) contents (λ o. on_same (λ content. content) (content_after e) o same)

pub part_met : (g : Machine) (p : ℕ) (e : WholeEvent) → p < length g.parts
    → part_in (event_met p e g) p ≡ alone_of (after_event (view_of g.system p) e (part_at p g)) (map (on (content_after e)) (copies g p)) g.ticks g.time
unfolding part copies
part_met g p NoEvent below = ap (λ (contents : List (Option Content)). alone_of (part_at p g) contents g.ticks g.time) (event_kept NoEvent (copies g p) (λ content. refl))
part_met g p (AllReset mode) below =
    ap (λ (s : PartitionState). alone_of s (copies_of g.system.conf p (length (part_of g.system.conf p).ports) (map cleared g.channels)) g.ticks g.time)
    (get_or-set_same g.parts p (reset (view_of g.system p) mode 0 (part_at p g)) (booted_part g.system p) below)
    ∙ ap (λ (contents : List (Option Content)). alone_of (reset (view_of g.system p) mode 0 (part_at p g)) contents g.ticks g.time)
    (cleared_copies g.system.conf p (length (part_of g.system.conf p).ports) g.channels
    ∙ same_map (on cleared) (on (content_after (AllReset mode))) (copies g p) (λ o. on_same cleared (content_after (AllReset mode)) o (λ content. refl)))
part_met g p AllHalted below = ap (λ (contents : List (Option Content)). alone_of (part_at p g) contents g.ticks g.time) (event_kept AllHalted (copies g p) (λ content. refl))

-- the same system, and as many partitions
pub met_system : (p : ℕ) (e : WholeEvent) (g : Machine) → (event_met p e g).system ≡ g.system
met_system p NoEvent g = refl
met_system p (AllReset mode) g = refl
met_system p AllHalted g = refl

pub met_length : (p : ℕ) (e : WholeEvent) (g : Machine) → length (event_met p e g).parts ≡ length g.parts
met_length p NoEvent g = refl
met_length p (AllReset mode) g = length-set g.parts p (reset (view_of g.system p) mode 0 (part_at p g))
met_length p AllHalted g = refl

pub met_time : (p : ℕ) (e : WholeEvent) (g : Machine) → (event_met p e g).time ≡ g.time
met_time p NoEvent g = refl
met_time p (AllReset mode) g = refl
met_time p AllHalted g = refl

-- the clocks past the tick
pub part_past : (g : Machine) (p : ℕ) (e : WholeEvent) → part_in (tick_past e g) p ≡ alone_of (part_at p g) (copies g p) (ticks_after e g.ticks) (time_after e g.time)
unfolding part copies
part_past g p NoEvent = refl
part_past g p (AllReset mode) = refl
part_past g p AllHalted = refl

-- an order emits the same after traffic was heard
heard_alike : (o : Option ℕ) (ps : PartitionState) → (interrupted o ps).state ≡ ps.state
heard_alike None ps = refl
heard_alike (Some n) ps = by (is_halted ps.state)
  where
    by : (b : Bool) → (if b then ps else record ps { traps = raised n ps.traps }).state ≡ ps.state
    by true = refl
    by false = refl

heard_state_is : (view : PartitionView) (own : OwnTraffic) (ps : PartitionState) → (hearing view own ps).state ≡ ps.state
unfolding after_message
heard_state_is view OwnStill ps = refl
heard_state_is view (OwnPuts q bytes) ps = heard_alike (heard_from q view.part.ports ps.made view.channels) ps
heard_state_is view (OwnTakes q) ps = refl
heard_state_is view (OwnSignals number) ps = heard_alike (Some (link_signal number)) ps

pub emitted_alike : (view : PartitionView) (own : OwnTraffic) (order : Option Order) (ps : PartitionState) → obeyed_emissions order (hearing view own ps) ≡ obeyed_emissions order ps
unfolding ordered_emissions
emitted_alike view own None ps = refl
emitted_alike view own (Some order) ps = ap (λ (state : State). if applies order state then order_emissions order else []) (heard_state_is view own ps)
