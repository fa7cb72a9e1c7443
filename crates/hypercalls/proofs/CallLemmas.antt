-- A hypercall of a partition: it is served, its tick is counted, and what it asks for is followed.
use Rattle.std.proofs.Common.{◌≡◌, ℕ, ◌<◌, ◌⊎◌, inl, inr, Bool, true, false, List, [], ◌++◌, Option, None, Some, length, map, set, get_or, refl, sym, ap, ◌∙◌, subst}
use Rattle.std.proofs.lemmas.List.{append-nil, append_assoc, get_or-set_same, length-set, map-append, set-set}
use Rattle.std.specs.Prelude.{◌==◌, if◌then◌else◌}
use Rattle.guest_bus.specs.Memory.{Memory}
use Rattle.system_state.specs.Serving.{IsEntered, IsServed, caller_at, own_traffic, sight_by, emissions_by, traffic_by, untraded, upshot_of, without_traffic}
use Rattle.system_state.specs.State.{SysState, with_machine}
use Rattle.system_state.specs.declared.served.Note.{Note}
use Rattle.system_state.specs.declared.served.Note.TheVariants as note
use Rattle.system_state.specs.declared.served.Served as code
use Rattle.tick_steps.specs.lemmas.PartLemmas.{part_put_back}
use Rattle.machine_model.specs.lemmas.ListLemmas.{each_counted as each_length}
use Rattle.machine_model.specs.Caller.{Acts, Meets, Served, Upshot}
use Rattle.machine_model.specs.Health.{Worked, quiet, self_ordered}
use Rattle.machine_model.specs.Hypercalls.{served}
use Rattle.machine_model.specs.Lists.{each}
use Rattle.machine_model.specs.LocalTick.{by_upshot, called, clocked}
use Rattle.machine_model.specs.Machine.{Machine, booted_part, sight_for}
use Rattle.machine_model.specs.Observed.{Observation, observed_by}
use Rattle.machine_model.specs.Partition.{PartitionState, is_halted, link_signal}
use Rattle.machine_model.specs.Emission as emission
use Rattle.machine_model.specs.Emission.{OwnPuts, OwnSignals, OwnStill, OwnTakes, OwnTraffic, Sight, Emission, Trades, Words, line_of}
use Rattle.machine_model.specs.Traffic.{Puts, Signals, Still, Takes, Traffic, after_message, after_traffic, heard_as, heard_from, hearing, interrupted, traffic_as, traffic_of}
use Rattle.machine_model.specs.View.{PartitionView, view_of}
use Rattle.span_model.specs.Passes.{part_at, traded, with_part}
use Rattle.virt_traps.specs.Virtual.{raised}
use Rattle.xm_report.specs.Report.{ReportLine}
use Rattle.xm_traces.specs.Ring.{Kept, noted}
use Rattle.xm_traces.specs.declared.entry.TraceEntry.{TraceEntry}
use Rattle.tick_steps.specs.Work.{AsksAtMost, IsPartDone, IsNotedBy, ReachIsUponOne, IsTickWorked, EmitsAlone, act_beyond, console_emissions}
use Rattle.tick_steps.specs.lemmas.WorkTerms.{trace_emissions}
use Rattle.tick_steps.specs.declared.beyond.Beyond.{Beyond}
use Rattle.tick_steps.specs.declared.beyond.Beyond.TheVariants as beyond
use Rattle.system_state.specs.declared.served.Act.TheVariants as act
use Rattle.xm_base.specs.declared.partition.Order.{Order}
use Rattle.tick_steps.specs.lemmas.HealthLemmas.{silent}
use Rattle.tick_steps.specs.lemmas.InstructionLemmas.{handled_still}
use Rattle.hypercalls.proofs.MildLemmas.{Mild, served_mild}
use Rattle.hypercalls.proofs.ServedLemmas.{kept_parts, served_keeps}
use Rattle.tick_steps.specs.lemmas.ReachLemmas.{no_traffic, one_before, reach_untraded}
use Rattle.tick_steps.specs.lemmas.WorkLemmas.{done_then, put_there}
use Rattle.tick_steps.specs.lemmas.ListLemmas.{at_each_set, set_each_set}
use Rattle.xm_conf.specs.Configuration.{Conf}

-- an interrupt that becomes pending, and a tick that is counted
counted_interrupted : (heard : Option ℕ) (ps : PartitionState) → clocked (interrupted heard ps) ≡ interrupted heard (clocked ps)
unfolding clocked
counted_interrupted None ps = refl
counted_interrupted (Some n) ps = by (is_halted ps.state)
  where
    by : (b : Bool) → clocked (if b then ps else record ps { traps = raised n ps.traps }) ≡ (if b then clocked ps else record (clocked ps) { traps = raised n ps.traps })
    by true = refl
    by false = refl

-- traffic that is heard, and a tick that is counted
counted_hearing : (view : PartitionView) (own : OwnTraffic) (ps : PartitionState) → clocked (hearing view own ps) ≡ hearing view own (clocked ps)
unfolding after_message clocked
counted_hearing view OwnStill ps = refl
counted_hearing view (OwnPuts q bytes) ps = counted_interrupted (heard_from q view.part.ports ps.made view.channels) ps
counted_hearing view (OwnTakes q) ps = refl
counted_hearing view (OwnSignals number) ps = counted_interrupted (Some (link_signal number)) ps

-- traffic that is heard keeps the health log and the clock
kept_interrupted : (heard : Option ℕ) (ps : PartitionState) → kept_parts (interrupted heard ps) ≡ kept_parts ps
kept_interrupted None ps = refl
kept_interrupted (Some n) ps = by (is_halted ps.state)
  where
    by : (b : Bool) → kept_parts (if b then ps else record ps { traps = raised n ps.traps }) ≡ kept_parts ps
    by true = refl
    by false = refl

kept_hearing : (view : PartitionView) (own : OwnTraffic) (ps : PartitionState) → kept_parts (hearing view own ps) ≡ kept_parts ps
unfolding after_message
kept_hearing view OwnStill ps = refl
kept_hearing view (OwnPuts q bytes) ps = kept_interrupted (heard_from q view.part.ports ps.made view.channels) ps
kept_hearing view (OwnTakes q) ps = refl
kept_hearing view (OwnSignals number) ps = kept_interrupted (Some (link_signal number)) ps

-- what a partition makes of traffic
abbrev heard_in : Machine → Traffic → ℕ → PartitionState → PartitionState
heard_in g traffic q ps = hearing (view_of g.system q) (heard_as g.system.conf q traffic) ps

-- a tick that is counted after traffic
counted_traffic : (traffic : Traffic) (p : ℕ) (x : PartitionState) (g : Machine) → p < length g.parts
    → set (each (heard_in g traffic) (set g.parts p x)) p (clocked (get_or (each (heard_in g traffic) (set g.parts p x)) p (booted_part g.system p))) ≡ each (heard_in g traffic) (set g.parts p (clocked x))
counted_traffic traffic p x g below =
    ap (λ (ps : PartitionState). set (each (heard_in g traffic) (set g.parts p x)) p (clocked ps)) (at_each_set (heard_in g traffic) g.parts p x (booted_part g.system p) below)
    ∙ ap (λ (ps : PartitionState). set (each (heard_in g traffic) (set g.parts p x)) p ps) (counted_hearing (view_of g.system p) (heard_as g.system.conf p traffic) x)
    ∙ set_each_set (heard_in g traffic) g.parts p x (clocked x)

counted_traded : (traffic : Traffic) (p : ℕ) (x : PartitionState) (g : Machine) → p < length g.parts
    → with_part p (clocked (part_at p (traded traffic (with_part p x g)))) (traded traffic (with_part p x g)) ≡ traded traffic (with_part p (clocked x) g)
counted_traded Still p x g below =
    ap (λ (ps : PartitionState). with_part p (clocked ps) (with_part p x g)) (get_or-set_same g.parts p x (booted_part g.system p) below)
    ∙ ap (λ (parts : List PartitionState). record g { parts = parts }) (set-set g.parts p x (clocked x))
counted_traded (Puts channel bytes) p x g below =
    ap (λ (parts : List PartitionState). record g { parts = parts; channels = each (after_traffic g.time (Puts channel bytes)) g.channels }) (counted_traffic (Puts channel bytes) p x g below)
counted_traded (Takes channel) p x g below =
    ap (λ (parts : List PartitionState). record g { parts = parts; channels = each (after_traffic g.time (Takes channel)) g.channels }) (counted_traffic (Takes channel) p x g below)
counted_traded (Signals source number) p x g below =
    ap (λ (parts : List PartitionState). record g { parts = parts; channels = each (after_traffic g.time (Signals source number)) g.channels }) (counted_traffic (Signals source number) p x g below)

-- traffic keeps the number of ticks
pub traded_ticks : (traffic : Traffic) (g : Machine) → (traded traffic g).ticks ≡ g.ticks
traded_ticks Still g = refl
traded_ticks (Puts channel bytes) g = refl
traded_ticks (Takes channel) g = refl
traded_ticks (Signals source number) g = refl

-- and how many partitions there are
pub traded_length : (traffic : Traffic) (g : Machine) → length (traded traffic g).parts ≡ length g.parts
traded_length Still g = refl
traded_length (Puts channel bytes) g = each_length (heard_in g (Puts channel bytes)) g.parts
traded_length (Takes channel) g = each_length (heard_in g (Takes channel)) g.parts
traded_length (Signals source number) g = each_length (heard_in g (Signals source number)) g.parts

-- a partition after traffic has the health log and the clock that it was given
traded_kept : (traffic : Traffic) (p : ℕ) (x : PartitionState) (g : Machine) → p < length g.parts → kept_parts (part_at p (traded traffic (with_part p x g))) ≡ kept_parts x
traded_kept Still p x g below = ap kept_parts (get_or-set_same g.parts p x (booted_part g.system p) below)
traded_kept (Puts channel bytes) p x g below =
    ap kept_parts (at_each_set (heard_in g (Puts channel bytes)) g.parts p x (booted_part g.system p) below)
    ∙ kept_hearing (view_of g.system p) (heard_as g.system.conf p (Puts channel bytes)) x
traded_kept (Takes channel) p x g below =
    ap kept_parts (at_each_set (heard_in g (Takes channel)) g.parts p x (booted_part g.system p) below)
    ∙ kept_hearing (view_of g.system p) (heard_as g.system.conf p (Takes channel)) x
traded_kept (Signals source number) p x g below =
    ap kept_parts (at_each_set (heard_in g (Signals source number)) g.parts p x (booted_part g.system p) below)
    ∙ kept_hearing (view_of g.system p) (heard_as g.system.conf p (Signals source number)) x

-- what a call leaves, with its tick counted
counted : (p : ℕ) (s : Served) (traffic : Traffic) (old one two : SysState) → p < length old.machine.parts
    → one ≡ with_machine (traded traffic (with_part p s.after old.machine)) old
    → two ≡ with_machine (with_part p (clocked (part_at p one.machine)) one.machine) one
    → two ≡ with_machine (traded traffic (with_part p (clocked s.after) old.machine)) old
counted p s traffic old one two below one_is two_is =
    two_is
    ∙ ap (λ (sys : SysState). with_machine (with_part p (clocked (part_at p sys.machine)) sys.machine) sys) one_is
    ∙ ap (λ (g : Machine). with_machine g old) (counted_traded traffic p s.after old.machine below)

-- a call emits bytes for the console, and else traces
emissions_split : (a_note : Note) (memory : Memory) → emissions_by a_note memory ≡ console_emissions a_note memory ++ trace_emissions a_note
emissions_split note.Nothing memory = refl
emissions_split (note.Console at size) memory = refl
emissions_split (note.Trace entry) memory = refl
emissions_split (note.Put chan at size) memory = refl
emissions_split (note.Take chan) memory = refl
emissions_split (note.Saw at size) memory = refl
emissions_split note.NotKept memory = refl
emissions_split (note.Signal number) memory = refl

-- where it reports nothing, no memory shows bytes for the console
console_none : (a_note : Note) (memory other : Memory) → emissions_by a_note memory ≡ [] → console_emissions a_note other ≡ console_emissions a_note memory
console_none note.Nothing memory other none = refl
console_none (note.Console at size) memory other none = absurd cc
console_none (note.Trace entry) memory other none = refl
console_none (note.Put chan at size) memory other none = refl
console_none (note.Take chan) memory other none = refl
console_none (note.Saw at size) memory other none = refl
console_none note.NotKept memory other none = refl
console_none (note.Signal number) memory other none = refl

-- the bytes for the console are the same after what follows the call
console_same : (s : Served) (a_note : Note) (view : PartitionView) (time : ℕ) → s.emitted ≡ emissions_by a_note s.after.memory → (s.emitted ≡ []) ⊎ (s.upshot ≡ Acts emission.Nothing)
    → console_emissions a_note (by_upshot s.upshot view time (clocked s.after)).after.memory ≡ console_emissions a_note s.after.memory
unfolding clocked
console_same s a_note view time emitted_is (inl none) = console_none a_note s.after.memory _ (sym emitted_is ∙ none)
console_same s a_note view time emitted_is (inr nothing) = ap (λ (u : Upshot). console_emissions a_note (by_upshot u view time (clocked s.after)).after.memory) nothing

-- the lines of a call and of what follows it
call_lines : (line : Emission → ReportLine) (a_note : Note) (memory after : Memory) (tale more : List Emission) (between got : List ReportLine)
    → tale ≡ emissions_by a_note memory → console_emissions a_note after ≡ console_emissions a_note memory → between ≡ map line (trace_emissions a_note) → got ≡ between ++ map line more
    → map line (tale ++ more) ≡ map line (console_emissions a_note after) ++ got
call_lines line a_note memory after tale more between got tale_is console_is between_is got_is =
    map-append line tale more
    ∙ ap (λ (first : List Emission). map line first ++ map line more) (tale_is ∙ emissions_split a_note memory ∙ ap (λ (console : List Emission). console ++ trace_emissions a_note) (sym console_is))
    ∙ ap (λ (lines : List ReportLine). lines ++ map line more) (map-append line (console_emissions a_note after) (trace_emissions a_note))
    ∙ append_assoc (map line (console_emissions a_note after)) (map line (trace_emissions a_note)) (map line more)
    ∙ ap (λ (lines : List ReportLine). map line (console_emissions a_note after) ++ (lines ++ map line more)) (sym between_is)
    ∙ ap (λ (lines : List ReportLine). map line (console_emissions a_note after) ++ lines) (sym got_is)

-- the outcome of a call and what follows it
abbrev worked_by : Served → PartitionView → ℕ → Worked
worked_by s view time = record (by_upshot s.upshot view time (clocked s.after)) { emitted = s.emitted ++ (by_upshot s.upshot view time (clocked s.after)).emitted }

-- what follows a call of this upshot, on a system
abbrev following : Upshot → ℕ → SysState → Worked
following u p sys = by_upshot u (view_of sys.machine.system p) sys.machine.time (part_at p sys.machine)

-- a call that was served, whose tick was counted, and that was followed
record IsCalled (p : ℕ) (sight : Sight) (s : Served) (answer : code.Served) (reach : Beyond) (old one two new : SysState) (between got : List ReportLine) : Type 0 where
  below : p < length old.machine.parts
  acts : (s.emitted ≡ []) ⊎ (s.upshot ≡ Acts emission.Nothing)
  serves : IsServed p sight s answer old one
  counts : two ≡ with_machine (with_part p (clocked (part_at p one.machine)) one.machine) one
  traces : between ≡ map (line_of two.machine.ticks p) (trace_emissions answer.note)
  follows : IsPartDone p (following (upshot_of answer.act) p two).after (following (upshot_of answer.act) p two).emitted two new between got
  act : (following (upshot_of answer.act) p two).act ≡ act_beyond reach
  one_is : ReachIsUponOne reach two.machine

module _ (p : ℕ) (sight : Sight) (s : Served) (answer : code.Served) (reach : Beyond) (old one two new : SysState) (between got : List ReportLine) where
  -- one without traffic
  plain_call : IsCalled p sight s answer reach old one two new between got → untraded s.upshot ≡ s.upshot → own_traffic s.upshot ≡ OwnStill
      → IsTickWorked p (worked_by s (view_of old.machine.system p) old.machine.time) answer.note reach old new got
  plain_call c plain own_still =
      let view = view_of old.machine.system p in
      let w = by_upshot s.upshot view old.machine.time (clocked s.after) in
      let still : traffic_by p answer.note s.after.memory ≡ Still =
      sym c.serves.traffic ∙ ap (λ (own : OwnTraffic). traffic_as old.machine.system.conf p own) own_still in
      let two_is : two ≡ with_machine (with_part p (clocked s.after) old.machine) old =
      counted p s (traffic_by p answer.note s.after.memory) old one two c.below c.serves.state c.counts
      ∙ ap (λ (t : Traffic). with_machine (traded t (with_part p (clocked s.after) old.machine)) old) still in
      let upshot_is : upshot_of answer.act ≡ s.upshot = sym c.serves.upshot ∙ plain in
      let follows = subst (λ (u : Upshot). IsPartDone p (following u p two).after (following u p two).emitted two new between got) upshot_is c.follows in
      let same : following s.upshot p two ≡ w =
      ap (λ (x : PartitionState). by_upshot s.upshot (view_of two.machine.system p) two.machine.time x) (put_there p (clocked s.after) old.machine two old c.below two_is)
      ∙ ap (λ (sys : SysState). by_upshot s.upshot (view_of sys.machine.system p) sys.machine.time (clocked s.after)) two_is in
      let done : IsPartDone p w.after w.emitted old new between got =
      done_then (λ v t x. (by_upshot s.upshot v t x).after) (λ v t x. (by_upshot s.upshot v t x).emitted) p (clocked s.after) [] old two new between between got c.below
      (silent p (clocked s.after) old two between two_is) follows in
      let act_is : w.act ≡ act_beyond reach = ap (λ (x : Worked). x.act) (sym same) ∙ ap (λ (u : Upshot). (following u p two).act) (sym upshot_is) ∙ c.act in
      let ticks : two.machine.ticks ≡ old.machine.ticks = ap (λ (sys : SysState). sys.machine.ticks) two_is in
      let traces = c.traces ∙ ap (λ (n : ℕ). map (line_of n p) (trace_emissions answer.note)) ticks in
      let lengths : length two.machine.parts ≡ length old.machine.parts =
      ap (λ (sys : SysState). length sys.machine.parts) two_is ∙ length-set old.machine.parts p (clocked s.after) in
      record {
        state = done.state ∙ ap (λ (t : Traffic). with_machine (traded t (with_part p w.after old.machine)) old) (sym (no_traffic p w reach old act_is));
        lines = call_lines (line_of old.machine.ticks p) answer.note s.after.memory w.after.memory s.emitted w.emitted between got c.serves.emitted
            (console_same s answer.note view old.machine.time c.serves.emitted c.acts) traces done.lines;
        act = ap without_traffic act_is ∙ (reach_untraded reach).same;
        readable = c.serves.readable;
        one = one_before reach two.machine old.machine lengths c.one_is;
      }

  -- one that puts or takes a message
  trading_call : (own : OwnTraffic) → IsCalled p sight s answer reach old one two new between got → s.upshot ≡ Acts (Trades own)
      → IsTickWorked p (worked_by s (view_of old.machine.system p) old.machine.time) answer.note reach old new got
  unfolding clocked
  trading_call own c trades =
      let view = view_of old.machine.system p in
      let traffic = traffic_by p answer.note s.after.memory in
      let two_is : two ≡ with_machine (traded traffic (with_part p (clocked s.after) old.machine)) old = counted p s traffic old one two c.below c.serves.state c.counts in
      let upshot_is : upshot_of answer.act ≡ Acts emission.Nothing = sym c.serves.upshot ∙ ap untraded trades in
      let follows : IsPartDone p (part_at p two.machine) [] two new between got =
      subst (λ (u : Upshot). IsPartDone p (following u p two).after (following u p two).emitted two new between got) upshot_is c.follows in
      let act_is : emission.Nothing ≡ act_beyond reach = sym (ap (λ (u : Upshot). (following u p two).act) upshot_is) ∙ c.act in
      let traffic_is : traffic_as old.machine.system.conf p own ≡ traffic =
      sym (ap (λ (u : Upshot). traffic_as old.machine.system.conf p (own_traffic u)) trades) ∙ c.serves.traffic in
      let ticks : two.machine.ticks ≡ old.machine.ticks =
      ap (λ (sys : SysState). sys.machine.ticks) two_is ∙ traded_ticks traffic (with_part p (clocked s.after) old.machine) in
      let traces = c.traces ∙ ap (λ (n : ℕ). map (line_of n p) (trace_emissions answer.note)) ticks in
      let lengths : length two.machine.parts ≡ length old.machine.parts =
      ap (λ (sys : SysState). length sys.machine.parts) two_is ∙ traded_length traffic (with_part p (clocked s.after) old.machine) ∙ length-set old.machine.parts p (clocked s.after) in
      let worked : IsTickWorked p (record (quiet (clocked s.after)) { emitted = s.emitted ++ []; act = Trades own }) answer.note reach old new got = record {
        state = follows.state ∙ part_put_back p two ∙ two_is
            ∙ ap (λ (t : Traffic). with_machine (traded t (with_part p (clocked s.after) old.machine)) old) (sym traffic_is);
        lines = call_lines (line_of old.machine.ticks p) answer.note s.after.memory s.after.memory s.emitted [] between got c.serves.emitted refl traces follows.lines;
        act = act_is;
        readable = c.serves.readable;
        one = one_before reach two.machine old.machine lengths c.one_is;
      } in
      subst (λ (u : Upshot). IsTickWorked p (record (by_upshot u view old.machine.time (clocked s.after)) { emitted = s.emitted ++ (by_upshot u view old.machine.time (clocked s.after)).emitted }) answer.note reach old new got) (sym trades) worked

  -- each call
  any_call : IsCalled p sight s answer reach old one two new between got → IsTickWorked p (worked_by s (view_of old.machine.system p) old.machine.time) answer.note reach old new got
  any_call c = by s.upshot refl
    where
      by : (u : Upshot) → s.upshot ≡ u → IsTickWorked p (worked_by s (view_of old.machine.system p) old.machine.time) answer.note reach old new got
      by (Acts emission.Nothing) is = plain_call c (ap untraded is ∙ sym is) (ap own_traffic is)
      by (Acts (Trades own)) is = trading_call own c is
      by (Acts (emission.Upon id order)) is = plain_call c (ap untraded is ∙ sym is) (ap own_traffic is)
      by (Acts (emission.Plans change)) is = plain_call c (ap untraded is ∙ sym is) (ap own_traffic is)
      by (Acts (emission.UponAll event)) is = plain_call c (ap untraded is ∙ sym is) (ap own_traffic is)
      by (Meets event word) is = plain_call c (ap untraded is ∙ sym is) (ap own_traffic is)

-- a call from these program counters
pub call_worked : (p pc npc n : ℕ) (answer : code.Served) (reach : Beyond) (old one two new : SysState) (had between got : List ReportLine) → p < length old.machine.parts → had ≡ []
    → IsServed p (caller_at p pc npc old).sight (served (caller_at p pc npc old)) answer old one
    → two ≡ with_machine (with_part p (clocked (part_at p one.machine)) one.machine) one
    → n ≡ two.machine.ticks
    → between ≡ had ++ map (line_of n p) (trace_emissions answer.note)
    → IsPartDone p (by_upshot (upshot_of answer.act) (view_of two.machine.system p) two.machine.time (part_at p two.machine)).after
    (by_upshot (upshot_of answer.act) (view_of two.machine.system p) two.machine.time (part_at p two.machine)).emitted two new between got
    → (by_upshot (upshot_of answer.act) (view_of two.machine.system p) two.machine.time (part_at p two.machine)).act ≡ act_beyond reach
    → ReachIsUponOne reach two.machine
    → IsTickWorked p (called (caller_at p pc npc old)) answer.note reach old new got
unfolding called caller_at
call_worked p pc npc n answer reach old one two new had between got below empty serves counts n_is traces follows act one_is =
    let caller = caller_at p pc npc old in
    any_call p caller.sight (served caller) answer reach old one two new between got (record {
      below = below;
      acts = (served_keeps caller).acts;
      serves = serves;
      counts = counts;
      traces = traces ∙ ap (λ (h : List ReportLine). h ++ map (line_of n p) (trace_emissions answer.note)) empty ∙ ap (λ (k : ℕ). map (line_of k p) (trace_emissions answer.note)) n_is;
      follows = follows;
      act = act;
      one_is = one_is;
    })

-- a call that reports nothing, and asks for nothing
pub call_quiet : (p pc npc : ℕ) (answer : code.Served) (old one two : SysState) (had : List ReportLine) → p < length old.machine.parts → had ≡ []
    → IsServed p (caller_at p pc npc old).sight (served (caller_at p pc npc old)) answer old one
    → two ≡ with_machine (with_part p (clocked (part_at p one.machine)) one.machine) one → answer.note ≡ note.Nothing → answer.act ≡ act.Nothing
    → IsTickWorked p (called (caller_at p pc npc old)) note.Nothing beyond.Nothing old two had
call_quiet p pc npc answer old one two had below empty serves counts note_is act_is =
    let none : code.Served = record { note = note.Nothing; act = act.Nothing } in
    let is : answer ≡ none = λ i. record { note = note_is i; act = act_is i } in
    call_worked p pc npc two.machine.ticks none beyond.Nothing old one two two had had had below empty
    (subst (λ (a : code.Served). IsServed p (caller_at p pc npc old).sight (served (caller_at p pc npc old)) a old one) is serves) counts refl (sym (append-nil had))
    (silent p (part_at p two.machine) two two had (sym (part_put_back p two))) refl tt

-- a call that put a message does nothing else
put_alone : (conf : Conf) (p : ℕ) (upshot u : Upshot) (chan : ℕ) (bytes : List ℕ) (reach : Beyond) (view : PartitionView) (time : ℕ) (ps : PartitionState)
    → traffic_as conf p (own_traffic upshot) ≡ Puts chan bytes → untraded upshot ≡ u → (by_upshot u view time ps).act ≡ act_beyond reach → act_beyond reach ≡ emission.Nothing
put_alone conf p (Acts emission.Nothing) u chan bytes reach view time ps puts is act = absurd cc
put_alone conf p (Acts (Trades own)) u chan bytes reach view time ps puts is act = sym act ∙ ap (λ (upshot : Upshot). (by_upshot upshot view time ps).act) (sym is)
put_alone conf p (Acts (emission.Upon id order)) u chan bytes reach view time ps puts is act = absurd cc
put_alone conf p (Acts (emission.Plans change)) u chan bytes reach view time ps puts is act = absurd cc
put_alone conf p (Acts (emission.UponAll event)) u chan bytes reach view time ps puts is act = absurd cc
put_alone conf p (Meets event word) u chan bytes reach view time ps puts is act = absurd cc

-- nor does what follows it change the memory
put_memory : (conf : Conf) (p : ℕ) (u : Upshot) (chan : ℕ) (bytes : List ℕ) (view : PartitionView) (time : ℕ) (ps : PartitionState)
    → traffic_as conf p (own_traffic u) ≡ Puts chan bytes → (by_upshot u view time (clocked ps)).after.memory ≡ ps.memory
unfolding clocked
put_memory conf p (Acts emission.Nothing) chan bytes view time ps puts = refl
put_memory conf p (Acts (Trades own)) chan bytes view time ps puts = refl
put_memory conf p (Acts (emission.Upon id order)) chan bytes view time ps puts = absurd cc
put_memory conf p (Acts (emission.Plans change)) chan bytes view time ps puts = refl
put_memory conf p (Acts (emission.UponAll event)) chan bytes view time ps puts = refl
put_memory conf p (Meets event word) chan bytes view time ps puts = absurd cc

-- one that was shown bytes does nothing, or asks for a plan
mild_alone : (upshot u : Upshot) (reach : Beyond) (view : PartitionView) (time : ℕ) (ps : PartitionState) → Mild upshot → untraded upshot ≡ u
    → (by_upshot u view time ps).act ≡ act_beyond reach → AsksAtMost reach
mild_alone upshot u reach view time ps (inl nothing) is act = inl (sym act ∙ ap (λ (x : Upshot). (by_upshot x view time ps).act) (sym is ∙ ap untraded nothing))
mild_alone upshot u reach view time ps (inr (plan, asks)) is act =
    inr (plan, sym act ∙ ap (λ (x : Upshot). (by_upshot x view time ps).act) (sym is ∙ ap untraded asks))

mild_memory : (u : Upshot) (view : PartitionView) (time : ℕ) (ps : PartitionState) → Mild u → (by_upshot u view time (clocked ps)).after.memory ≡ ps.memory
unfolding clocked
mild_memory u view time ps (inl nothing) = ap (λ (x : Upshot). (by_upshot x view time (clocked ps)).after.memory) nothing
mild_memory u view time ps (inr (plan, asks)) = ap (λ (x : Upshot). (by_upshot x view time (clocked ps)).after.memory) asks

-- an order on itself and a health event have no traffic
order_still : (b : Bool) (view : PartitionView) (id : ℕ) (order : Order) (ps : PartitionState)
    → traffic_of (if b then self_ordered view order ps else record (quiet ps) { act = emission.Upon id order }).act ≡ OwnStill
unfolding self_ordered
order_still true view id order ps = refl
order_still false view id order ps = refl

-- what follows a call has the call's traffic
same_traffic : (u : Upshot) (view : PartitionView) (time : ℕ) (ps : PartitionState) → traffic_of (by_upshot u view time ps).act ≡ own_traffic u
same_traffic (Acts emission.Nothing) view time ps = refl
same_traffic (Acts (Trades own)) view time ps = refl
same_traffic (Acts (emission.Upon id order)) view time ps = order_still (id == view.id) view id order ps
same_traffic (Acts (emission.Plans change)) view time ps = refl
same_traffic (Acts (emission.UponAll event)) view time ps = refl
same_traffic (Meets event word) view time ps = handled_still view time event word None ps

-- the bytes that a note names of a message, and those that were shown, are still there
bytes_same : (conf : Conf) (p : ℕ) (a_note : Note) (seen : Sight) (s : Served) (view : PartitionView) (time : ℕ) → ((bytes : List ℕ) → seen ≡ Words bytes → Mild s.upshot)
    → traffic_as conf p (own_traffic s.upshot) ≡ traffic_by p a_note s.after.memory → seen ≡ sight_by a_note s.after.memory
    → (traffic_by p a_note s.after.memory ≡ traffic_by p a_note (by_upshot s.upshot view time (clocked s.after)).after.memory)
    × (sight_by a_note s.after.memory ≡ sight_by a_note (by_upshot s.upshot view time (clocked s.after)).after.memory)
bytes_same conf p note.Nothing seen s view time mild trades shows = (refl, refl)
bytes_same conf p (note.Console at size) seen s view time mild trades shows = (refl, refl)
bytes_same conf p (note.Trace entry) seen s view time mild trades shows = (refl, refl)
bytes_same conf p (note.Put chan at size) seen s view time mild trades shows =
    (ap (traffic_by p (note.Put chan at size)) (sym (put_memory conf p s.upshot chan _ view time s.after trades)), refl)
bytes_same conf p (note.Take chan) seen s view time mild trades shows = (refl, refl)
bytes_same conf p (note.Saw at size) seen s view time mild trades shows =
    (refl, ap (sight_by (note.Saw at size)) (sym (mild_memory s.upshot view time s.after (mild _ shows))))
bytes_same conf p note.NotKept seen s view time mild trades shows = (refl, refl)
bytes_same conf p (note.Signal number) seen s view time mild trades shows = (refl, refl)

-- a call that was shown bytes observed
saw_mild : (p pc npc : ℕ) (old : SysState) (bytes : List ℕ) → (caller_at p pc npc old).sight ≡ Words bytes → Mild (served (caller_at p pc npc old)).upshot
unfolding caller_at
saw_mild p pc npc old bytes shows = at (observed_by (view_of old.machine.system p) (part_at p old.machine).core) refl
  where
    at : (o : Option Observation) → observed_by (view_of old.machine.system p) (part_at p old.machine).core ≡ o → Mild (served (caller_at p pc npc old)).upshot
    at None is = absurd (let none : sight_for old.machine (view_of old.machine.system p) None ≡ Words bytes = sym (ap (sight_for old.machine (view_of old.machine.system p)) is) ∙ shows in cc)
    at (Some call) is = served_mild (caller_at p pc npc old) call is

-- what a call's note reports is its traffic and what it was shown
pub call_noted : (p pc npc : ℕ) (answer : code.Served) (old one : SysState) → IsServed p (caller_at p pc npc old).sight (served (caller_at p pc npc old)) answer old one
    → IsNotedBy p (caller_at p pc npc old).sight (called (caller_at p pc npc old)) answer.note old
unfolding called caller_at
call_noted p pc npc answer old one serves =
    let caller = caller_at p pc npc old in
    let same = bytes_same old.machine.system.conf p answer.note caller.sight (served caller) caller.view caller.time (saw_mild p pc npc old) serves.traffic serves.seen in
    record {
      traffic = ap (traffic_as old.machine.system.conf p) (same_traffic (served caller).upshot caller.view caller.time (clocked (served caller).after)) ∙ serves.traffic ∙ same.0;
      seen = serves.seen ∙ same.1;
    }

-- what follows a call that made an entry keeps the traces
entered_after : (s : Served) (a_note : Note) (before : Kept TraceEntry) (view : PartitionView) (time : ℕ) → s.emitted ≡ emissions_by a_note s.after.memory → (s.emitted ≡ []) ⊎ (s.upshot ≡ Acts emission.Nothing)
    → IsEntered a_note before s.after.traces → IsEntered a_note before (by_upshot s.upshot view time (clocked s.after)).after.traces
unfolding clocked
entered_after s note.Nothing before view time emitted_is acts entered = tt
entered_after s (note.Console at size) before view time emitted_is acts entered = tt
entered_after s (note.Trace entry) before view time emitted_is (inl none) entered = absurd cc
entered_after s (note.Trace entry) before view time emitted_is (inr nothing) entered =
    subst (λ (u : Upshot). (by_upshot u view time (clocked s.after)).after.traces ≡ noted entry before) (sym nothing) entered
entered_after s (note.Put chan at size) before view time emitted_is acts entered = tt
entered_after s (note.Take chan) before view time emitted_is acts entered = tt
entered_after s (note.Saw at size) before view time emitted_is acts entered = tt
entered_after s note.NotKept before view time emitted_is acts entered = tt
entered_after s (note.Signal number) before view time emitted_is acts entered = tt

-- the entry that a call's note has is the one that it made
pub call_entered : (p pc npc : ℕ) (answer : code.Served) (old one : SysState) → IsServed p (caller_at p pc npc old).sight (served (caller_at p pc npc old)) answer old one
    → IsEntered answer.note (part_at p old.machine).traces (called (caller_at p pc npc old)).after.traces
unfolding called caller_at
call_entered p pc npc answer old one serves =
    let caller = caller_at p pc npc old in
    entered_after (served caller) answer.note (part_at p old.machine).traces caller.view caller.time serves.emitted (served_keeps caller).acts serves.entered

-- where what follows a call of this upshot reaches, by its note
reach_noted : (conf : Conf) (p : ℕ) (seen : Sight) (a_note : Note) (s : Served) (u : Upshot) (reach : Beyond) (view : PartitionView) (time : ℕ) (ps : PartitionState) → s.emitted ≡ emissions_by a_note s.after.memory → (s.emitted ≡ []) ⊎ (s.upshot ≡ Acts emission.Nothing)
    → traffic_as conf p (own_traffic s.upshot) ≡ traffic_by p a_note s.after.memory → seen ≡ sight_by a_note s.after.memory → ((bytes : List ℕ) → seen ≡ Words bytes → Mild s.upshot)
    → untraded s.upshot ≡ u → (by_upshot u view time ps).act ≡ act_beyond reach → EmitsAlone a_note reach
reach_noted conf p seen note.Nothing s u reach view time ps emitted_is acts trades shows mild is act = tt
reach_noted conf p seen (note.Console at size) s u reach view time ps emitted_is (inl none) trades shows mild is act = absurd cc
reach_noted conf p seen (note.Console at size) s u reach view time ps emitted_is (inr nothing) trades shows mild is act =
    sym act ∙ ap (λ (upshot : Upshot). (by_upshot upshot view time ps).act) (sym is ∙ ap untraded nothing)
reach_noted conf p seen (note.Trace entry) s u reach view time ps emitted_is acts trades shows mild is act = tt
reach_noted conf p seen (note.Put chan at size) s u reach view time ps emitted_is acts trades shows mild is act = put_alone conf p s.upshot u chan _ reach view time ps trades is act
reach_noted conf p seen (note.Take chan) s u reach view time ps emitted_is acts trades shows mild is act = tt
reach_noted conf p seen (note.Saw at size) s u reach view time ps emitted_is acts trades shows mild is act = mild_alone s.upshot u reach view time ps (mild _ shows) is act
reach_noted conf p seen note.NotKept s u reach view time ps emitted_is acts trades shows mild is act = tt
reach_noted conf p seen (note.Signal number) s u reach view time ps emitted_is acts trades shows mild is act = tt

-- a call that emits bytes for the console reaches nothing
pub call_alone : (p pc npc : ℕ) (answer : code.Served) (reach : Beyond) (old one two : SysState)
    → IsServed p (caller_at p pc npc old).sight (served (caller_at p pc npc old)) answer old one
    → (by_upshot (upshot_of answer.act) (view_of two.machine.system p) two.machine.time (part_at p two.machine)).act ≡ act_beyond reach → EmitsAlone answer.note reach
call_alone p pc npc answer reach old one two serves act =
    let caller = caller_at p pc npc old in
    reach_noted old.machine.system.conf p caller.sight answer.note (served caller) (upshot_of answer.act) reach (view_of two.machine.system p) two.machine.time (part_at p two.machine) serves.emitted
    (served_keeps caller).acts serves.traffic serves.seen (saw_mild p pc npc old) serves.upshot act

-- a call keeps the health log and the execution clock of its partition
pub call_keeps : (p pc npc : ℕ) (answer : code.Served) (old one : SysState) → p < length old.machine.parts
    → IsServed p (caller_at p pc npc old).sight (served (caller_at p pc npc old)) answer old one → kept_parts (part_at p one.machine) ≡ kept_parts (part_at p old.machine)
unfolding caller_at
call_keeps p pc npc answer old one below serves =
    let caller = caller_at p pc npc old in
    ap (λ (sys : SysState). kept_parts (part_at p sys.machine)) serves.state
    ∙ traded_kept (traffic_by p answer.note (served caller).after.memory) p (served caller).after old.machine below
    ∙ (served_keeps caller).same

-- and how many partitions there are
pub call_counts : (p pc npc : ℕ) (answer : code.Served) (old one : SysState)
    → IsServed p (caller_at p pc npc old).sight (served (caller_at p pc npc old)) answer old one → length one.machine.parts ≡ length old.machine.parts
call_counts p pc npc answer old one serves =
    let caller = caller_at p pc npc old in
    ap (λ (sys : SysState). length sys.machine.parts) serves.state
    ∙ traded_length (traffic_by p answer.note (served caller).after.memory) (with_part p (served caller).after old.machine)
    ∙ length-set old.machine.parts p (served caller).after
