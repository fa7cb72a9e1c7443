-- A tick of one partition: its work, and then the end of the tick, are the whole tick.
use Rattle.std.proofs.Common.{◌≡◌, ℕ, List, [], ◌∷◌, ◌++◌, map, Some, refl, sym, ap, ◌∙◌}
use Rattle.std.proofs.lemmas.List.{append_assoc}
use Rattle.xm_report.specs.Report.{ReportLine}
use Rattle.system_state.specs.Serving.{without_traffic}
use Rattle.system_state.specs.State.{SysState, with_machine}
use Rattle.system_state.specs.declared.served.Note.{Note}
use Rattle.machine_model.specs.Health.{Worked}
use Rattle.machine_model.specs.Lines.{plan_lines}
use Rattle.machine_model.specs.Lists.{all_of}
use Rattle.machine_model.specs.Machine.{Machine, clock_after}
use Rattle.machine_model.specs.Partition.{PartitionState}
use Rattle.machine_model.specs.Emission.{Act, Nothing, OwnTraffic, Plans, Trades, Upon, UponAll, line_of, reach_of}
use Rattle.machine_model.specs.Traffic.{Puts, Signals, Still, Takes, Traffic, traffic_as}
use Rattle.machine_model.specs.Whole.{event_lines, event_of, whole_lines}
use Rattle.span_model.specs.Passes.{evented, obeyed_in, obeyed_lines, rest_but, tick_ended, traded, traffic_in, with_part, worked_lines, worked_through}
use Rattle.tick_steps.specs.Work.{IsTickWorked, act_beyond, console_emissions}
use Rattle.tick_steps.specs.lemmas.WorkTerms.{ended_by, ending_lines}
use Rattle.tick_steps.specs.declared.beyond.Beyond.{Beyond}
use Rattle.tick_steps.specs.lemmas.ListLemmas.{none_emitted, same_set}

-- the end of a tick does not look at the traffic of its act
ended_alike : (act : Act) (p : ℕ) (g : Machine) → ended_by act p g ≡ ended_by (without_traffic act) p g
ended_alike Nothing p g = refl
ended_alike (Trades traffic) p g = refl
ended_alike (Upon id order) p g = refl
ended_alike (Plans change) p g = refl
ended_alike (UponAll event) p g = refl

-- nor do its lines
ending_alike : (act : Act) (g : Machine) → ending_lines act g ≡ ending_lines (without_traffic act) g
ending_alike Nothing g = refl
ending_alike (Trades traffic) g = refl
ending_alike (Upon id order) g = refl
ending_alike (Plans change) g = refl
ending_alike (UponAll event) g = refl

-- traffic leaves the hardware clock
traded_time : (traffic : Traffic) (g : Machine) → (traded traffic g).time ≡ g.time
traded_time Still g = refl
traded_time (Puts channel bytes) g = refl
traded_time (Takes channel) g = refl
traded_time (Signals source number) g = refl

-- the machine after the work of a partition and its traffic
abbrev pub after_work : ℕ → Worked → Machine → Machine
after_work p work g = traded (traffic_in g p work.act) (with_part p work.after g)

-- the whole tick is that, and its end
through_is : (p : ℕ) (work : Worked) (g : Machine) → worked_through p work g ≡ ended_by work.act p (after_work p work g)
through_is p work g =
    ap (λ (time : ℕ). tick_ended work.act (rest_but (Some p) time (evented (event_of work.act) (obeyed_in (reach_of work.act).directed (after_work p work g)))))
    (sym (traded_time (traffic_in g p work.act) (with_part p work.after g)))

-- the line of a plan that starts after a tick of this act
abbrev plan_of : Act → Machine → List ReportLine
plan_of act g = plan_lines g.ticks g.clock.plan (clock_after (event_of act) g.system.conf act g.clock g.time).plan

-- the lines of a tick's end, over the machine at its beginning
abbrev own_ending : Act → ℕ → PartitionState → Machine → List ReportLine
own_ending act p after g =
    obeyed_lines (reach_of act).directed (with_part p after g) ++ whole_lines g.ticks (event_of act)
    ++ all_of (λ q ps. event_lines g.ticks (event_of act) q) g.parts ++ plan_of act g

-- they are those over the machine after the work
set_ending : (act : Act) (p : ℕ) (after : PartitionState) (g : Machine) → own_ending act p after g ≡ ending_lines act (with_part p after g)
set_ending act p after g =
    ap (λ (lines : List ReportLine). obeyed_lines (reach_of act).directed (with_part p after g) ++ whole_lines g.ticks (event_of act) ++ lines ++ plan_of act g)
    (same_set (event_lines g.ticks (event_of act)) g.parts p after)

traded_ending : (own : OwnTraffic) (traffic : Traffic) (p : ℕ) (after : PartitionState) (g : Machine)
    → own_ending (Trades own) p after g ≡ ending_lines (Trades own) (traded traffic (with_part p after g))
traded_ending own Still p after g = set_ending (Trades own) p after g
traded_ending own (Puts channel bytes) p after g =
    ap (λ (lines : List ReportLine). lines ++ plan_of (Trades own) g)
    (none_emitted g.parts ∙ sym (none_emitted (traded (Puts channel bytes) (with_part p after g)).parts))
traded_ending own (Takes channel) p after g =
    ap (λ (lines : List ReportLine). lines ++ plan_of (Trades own) g)
    (none_emitted g.parts ∙ sym (none_emitted (traded (Takes channel) (with_part p after g)).parts))
traded_ending own (Signals source number) p after g =
    ap (λ (lines : List ReportLine). lines ++ plan_of (Trades own) g)
    (none_emitted g.parts ∙ sym (none_emitted (traded (Signals source number) (with_part p after g)).parts))

ending_is : (act : Act) (p : ℕ) (after : PartitionState) (g : Machine) → own_ending act p after g ≡ ending_lines act (traded (traffic_in g p act) (with_part p after g))
ending_is Nothing p after g = set_ending Nothing p after g
ending_is (Trades own) p after g = traded_ending own (traffic_as g.system.conf p own) p after g
ending_is (Upon id order) p after g = set_ending (Upon id order) p after g
ending_is (Plans change) p after g = set_ending (Plans change) p after g
ending_is (UponAll event) p after g = set_ending (UponAll event) p after g

-- lists one after another, put together from after
regrouped : {X : Type 0} (a b c d e : List X) → a ++ b ++ c ++ d ++ e ≡ a ++ (b ++ c ++ d ++ e)
regrouped [] b c d e = refl
regrouped (x ∷ a) b c d e = ap (λ rest. x ∷ rest) (regrouped a b c d e)

-- the lines of the whole tick are those of the work, and of its end
lines_are : (p : ℕ) (work : Worked) (g : Machine) → worked_lines p work g ≡ map (line_of g.ticks p) work.emitted ++ ending_lines work.act (after_work p work g)
lines_are p work g =
    regrouped (map (line_of g.ticks p) work.emitted) (obeyed_lines (reach_of work.act).directed (with_part p work.after g)) (whole_lines g.ticks (event_of work.act))
    (all_of (λ q ps. event_lines g.ticks (event_of work.act) q) g.parts) (plan_of work.act g)
    ∙ ap (λ (lines : List ReportLine). map (line_of g.ticks p) work.emitted ++ lines) (ending_is work.act p work.after g)

-- a tick whose work was done and that was ended: the machine
pub tick_state : (p : ℕ) (work : Worked) (note : Note) (reach : Beyond) (old mid new : SysState) (got : List ReportLine)
    → IsTickWorked p work note reach old mid got → new ≡ with_machine (ended_by (act_beyond reach) p mid.machine) mid
    → new ≡ with_machine (worked_through p work old.machine) old
tick_state p work note reach old mid new got worked ended =
    ended
    ∙ ap (λ (s : SysState). with_machine (ended_by (act_beyond reach) p s.machine) s) worked.state
    ∙ ap (λ (act : Act). with_machine (ended_by act p (after_work p work old.machine)) old) (sym worked.act)
    ∙ ap (λ (g : Machine). with_machine g old) (sym (ended_alike work.act p (after_work p work old.machine)) ∙ sym (through_is p work old.machine))

-- and its lines, but for that of bytes for the console
pub tick_lines : (p : ℕ) (work : Worked) (note : Note) (reach : Beyond) (old mid : SysState) (got all : List ReportLine)
    → IsTickWorked p work note reach old mid got → all ≡ got ++ ending_lines (act_beyond reach) mid.machine
    → worked_lines p work old.machine ≡ map (line_of old.machine.ticks p) (console_emissions note work.after.memory) ++ all
tick_lines p work note reach old mid got all worked ended =
    lines_are p work old.machine
    ∙ ap (λ (lines : List ReportLine). lines ++ ending_lines work.act (after_work p work old.machine)) worked.lines
    ∙ append_assoc (map (line_of old.machine.ticks p) (console_emissions note work.after.memory)) got (ending_lines work.act (after_work p work old.machine))
    ∙ ap (λ (lines : List ReportLine). map (line_of old.machine.ticks p) (console_emissions note work.after.memory) ++ lines) (end_is ∙ sym ended)
  where
    end_is : got ++ ending_lines work.act (after_work p work old.machine) ≡ got ++ ending_lines (act_beyond reach) mid.machine
    end_is =
        ap (λ (lines : List ReportLine). got ++ lines) (ending_alike work.act (after_work p work old.machine))
        ∙ ap (λ (act : Act). got ++ ending_lines act (after_work p work old.machine)) worked.act
        ∙ ap (λ (s : SysState). got ++ ending_lines (act_beyond reach) s.machine) (sym worked.state)
