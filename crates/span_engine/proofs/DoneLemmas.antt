-- Ticks that were done: quiet ones, and those of which the last had work.
use Rattle.std.proofs.Common.{◌≡◌, inl, inr, ℕ, suc, ◌+◌, ◌<◌, ◌≤◌, Bool, true, false, List, [], ◌∷◌, ◌++◌, length, map, Option, Some, refl, sym, ap, subst, ◌∙◌, arith}
use Rattle.std.specs.Prelude.{◌-◌, if◌then◌else◌, IfSome}
use Rattle.std.proofs.lemmas.Bool.{eq-eqb}
use Rattle.std.proofs.lemmas.List.{append-nil, get_or-set_same}
use Rattle.guest_bus.specs.Memory.{Memory, bytes_at}
use Rattle.health_monitor.specs.declared.effects.Whole.TheVariants as whole
use Rattle.system_state.specs.Serving.{CanBeEmitted, without_traffic}
use Rattle.system_state.specs.State.{SysState, areas_in, memory_of, with_machine}
use Rattle.system_state.specs.declared.served.Note.{Note}
use Rattle.system_state.specs.declared.served.Note.TheVariants as note
use Rattle.xm_report.specs.Report.{ReportLine}
use Rattle.tick_steps.specs.lemmas.PartLemmas.{traded_memory}
use Rattle.machine_model.specs.Facts.{IsAsMany, RunsKeepNumbers}
use Rattle.machine_model.specs.Health.{Worked}
use Rattle.machine_model.specs.Laws.{ActsWithinBounds}
use Rattle.machine_model.specs.Lines.{lines, step_lines}
use Rattle.machine_model.specs.Lists.{is_number}
use Rattle.machine_model.specs.LocalTick.{bounded, local_tick, with_interrupts, worked, worked_if}
use Rattle.machine_model.specs.Machine as machine
use Rattle.machine_model.specs.Machine.{Machine, SlotTurn, booted_part, copies, run, sight, turn_of}
use Rattle.machine_model.specs.Partition.{PartitionState, rested}
use Rattle.machine_model.specs.Emission as emission
use Rattle.machine_model.specs.Emission.{Act, Directed, Emission, line_of, reach_of}
use Rattle.machine_model.specs.Traffic.{Traffic}
use Rattle.guest_memory.specs.Loading.{memory_areas}
use Rattle.machine_model.specs.View.{System, part_of, view_of}
use Rattle.span_model.specs.Calm.{GoneCalm, turn_after}
use Rattle.span_model.specs.Meeting.{HasGone, first_after, gone_on}
use Rattle.span_model.specs.NextLaws.{IsNextTick, IsTickOf, MetTick, next_work}
use Rattle.span_model.specs.PassLaws.{IsInPasses, IsPassedNext, PassedNext, TickInPasses}
use Rattle.span_model.specs.Passes.{rest_but, traded, traffic_in, with_part, worked_lines, worked_through}
use Rattle.span_model.specs.SpanLaws.{IsAwake, its_areas, met}
use Rattle.span_model.specs.Undisturbed.{IsUndisturbed, UndisturbedNext, gone_parts, next_instruction}
use Rattle.tick_steps.specs.Kept.{AreBareTicks, kept_by, kept_tick}
use Rattle.tick_steps.specs.Quiet.{AreQuiet, ends_in}
use Rattle.tick_steps.specs.lemmas.SpanTerms.{AreDoneFrom}
use Rattle.tick_steps.specs.Span.{ends_so}
use Rattle.tick_steps.specs.Work.{ReachIsUponOne, IsTickWorked, EmitsAlone, act_beyond, console_emissions}
use Rattle.tick_steps.specs.lemmas.WorkTerms.{ended_by, ending_lines}
use Rattle.tick_steps.specs.declared.beyond.Beyond.{Beyond}
use Rattle.tick_steps.specs.declared.beyond.Beyond.TheVariants as beyond
use Rattle.span_engine.proofs.KeepingLemmas.{IsNoted, same_order, worked_kept}
use Rattle.span_engine.proofs.QuietLemmas.{acts_so, bare_gone, quiet_gone, same_end}
use Rattle.tick_steps.specs.lemmas.SlotLemmas.{at_next, its_before, within_bounds}
use Rattle.span_engine.proofs.TickLemmas.{tick_lines, tick_state}
use Rattle.tick_steps.specs.lemmas.ListLemmas.{each_at}

-- the rest of all others leaves the memory of a partition
rest_memory : (p time : ℕ) (g : Machine) → memory_of p (rest_but (Some p) time g) ≡ memory_of p g
rest_memory p time g =
    each_at (λ (ps : PartitionState). ps.memory) (λ q ps. if is_number (Some p) q then ps else rested time ps) g.parts p (booted_part g.system p)
    (λ ps. ap (λ (own : Bool). (if own then ps else rested time ps).memory) (eq-eqb p p refl))

-- a tick that does not reach beyond its partition leaves the memory that the work left
plain_memory : (p : ℕ) (traffic : Traffic) (after : PartitionState) (m : Machine) → p < length m.parts
    → memory_of p (ended_by emission.Nothing p (traded traffic (with_part p after m))) ≡ after.memory
plain_memory p traffic after m below =
    rest_memory p (traded traffic (with_part p after m)).time (traded traffic (with_part p after m))
    ∙ traded_memory traffic p (with_part p after m)
    ∙ ap (λ (ps : PartitionState). ps.memory) (get_or-set_same m.parts p after (booted_part m.system p) below)

-- so the bytes for the console are still there
emitted_after : (a_note : Note) (reach : Beyond) (p : ℕ) (traffic : Traffic) (after : PartitionState) (m : Machine) → p < length m.parts → EmitsAlone a_note reach
    → console_emissions a_note (memory_of p (ended_by (act_beyond reach) p (traded traffic (with_part p after m)))) ≡ console_emissions a_note after.memory
emitted_after note.Nothing reach p traffic after m below alone = refl
emitted_after (note.Console at size) reach p traffic after m below alone =
    ap (λ (act : Act). emission.Console (bytes_at (memory_of p (ended_by act p (traded traffic (with_part p after m)))) at size) ∷ []) alone
    ∙ ap (λ (memory : Memory). emission.Console (bytes_at memory at size) ∷ []) (plain_memory p traffic after m below)
emitted_after (note.Trace entry) reach p traffic after m below alone = refl
emitted_after (note.Put chan at size) reach p traffic after m below alone = refl
emitted_after (note.Take chan) reach p traffic after m below alone = refl
emitted_after (note.Saw at size) reach p traffic after m below alone = refl
emitted_after note.NotKept reach p traffic after m below alone = refl
emitted_after (note.Signal number) reach p traffic after m below alone = refl

-- nor does one that asks for a plan
asking_memory : (plan p : ℕ) (traffic : Traffic) (after : PartitionState) (m : Machine) → p < length m.parts
    → memory_of p (ended_by (emission.Plans (emission.Asked plan)) p (traded traffic (with_part p after m))) ≡ after.memory
asking_memory plan p traffic after m below =
    rest_memory p (traded traffic (with_part p after m)).time (traded traffic (with_part p after m))
    ∙ traded_memory traffic p (with_part p after m)
    ∙ ap (λ (ps : PartitionState). ps.memory) (get_or-set_same m.parts p after (booted_part m.system p) below)

-- so the bytes of a message and those that were shown are still there, too
kept_after : (a_note : Note) (reach : Beyond) (turn : Option SlotTurn) (p : ℕ) (traffic : Traffic) (after : PartitionState) (m : Machine) → p < length m.parts → EmitsAlone a_note reach
    → kept_by turn true a_note reach (memory_of p (ended_by (act_beyond reach) p (traded traffic (with_part p after m)))) ≡ kept_by turn true a_note reach after.memory
kept_after note.Nothing reach turn p traffic after m below alone = refl
kept_after (note.Console at size) reach turn p traffic after m below alone = refl
kept_after (note.Trace entry) reach turn p traffic after m below alone = refl
kept_after (note.Put chan at size) reach turn p traffic after m below alone =
    ap (kept_by turn true (note.Put chan at size) reach)
    (ap (λ (act : Act). memory_of p (ended_by act p (traded traffic (with_part p after m)))) alone ∙ plain_memory p traffic after m below)
kept_after (note.Take chan) reach turn p traffic after m below alone = refl
kept_after (note.Saw at size) reach turn p traffic after m below (inl alone) =
    ap (kept_by turn true (note.Saw at size) reach)
    (ap (λ (act : Act). memory_of p (ended_by act p (traded traffic (with_part p after m)))) alone ∙ plain_memory p traffic after m below)
kept_after (note.Saw at size) reach turn p traffic after m below (inr (plan, asks)) =
    ap (kept_by turn true (note.Saw at size) reach)
    (ap (λ (act : Act). memory_of p (ended_by act p (traded traffic (with_part p after m)))) asks ∙ asking_memory plan p traffic after m below)
kept_after note.NotKept reach turn p traffic after m below alone = refl
kept_after (note.Signal number) reach turn p traffic after m below alone = refl

-- an order is on a partition that there is
beyond_one : (reach : Beyond) (m : Machine) → ReachIsUponOne reach m → IfSome (reach_of (act_beyond reach)).directed (λ directed. directed.id < length m.parts)
beyond_one beyond.Nothing m one = tt
beyond_one (beyond.Order id order) m one = one
beyond_one (beyond.Plan plan) m one = tt
beyond_one (beyond.Whole whole.Nothing) m one = tt
beyond_one (beyond.Whole (whole.Reset mode)) m one = tt
beyond_one (beyond.Whole whole.Halt) m one = tt
beyond_one (beyond.Whole whole.Maintenance) m one = tt

directed_one : (act : Act) (reach : Beyond) (m : Machine) → without_traffic act ≡ act_beyond reach → ReachIsUponOne reach m → IfSome (reach_of act).directed (λ directed. directed.id < length m.parts)
directed_one act reach m is one =
    subst (λ (directed : Option Directed). IfSome directed (λ d. d.id < length m.parts)) (sym (same_order act ∙ ap (λ (a : Act). (reach_of a).directed) is)) (beyond_one reach m one)

-- ticks of which the last had this work, which was done and ended
passed_done : RunsKeepNumbers → (g m : Machine) (p done most : ℕ) (first : Bool) (work : Worked) (a_note : Note) (reach : Beyond) (old mid new : SysState) (got all : List ReportLine)
    → m ≡ run g done → m.halted ≡ false → m.ticks ≡ g.ticks + done → lines g done ≡ [] → AreQuiet (done + 1) g → AreBareTicks (done + 1) g → p < length m.parts → done < most
    → run g (suc done) ≡ worked_through p work m → lines g (suc done) ≡ worked_lines p work m
    → turn_after done (turn_of g) ≡ Some (record { part = p; first = first }) → IsTickOf m p first work → bounded (view_of m.system p) work.act ≡ work.act
    → IsNoted m p work a_note → IsTickWorked p work a_note reach (with_machine m old) mid got → EmitsAlone a_note reach
    → new ≡ with_machine (ended_by (act_beyond reach) p mid.machine) mid → all ≡ got ++ ending_lines (act_beyond reach) mid.machine → length all ≤ 40
    → AreDoneFrom (record { ticks = done + 1; part = p; worked = true; note = a_note; reach = reach }) most g old new all
passed_done keeps g m p done most first work a_note reach old mid new got all m_is runs ticks silent quiet bare below fewer state its_lines turns tick bounds noted worked alone ended emitted_lines few =
    let one : done + 1 ≡ suc done = omega arith in
    let its_state : new ≡ with_machine (run g (done + 1)) old =
    tick_state p work a_note reach (with_machine m old) mid new got worked ended ∙ ap (λ (x : Machine). with_machine x old) (sym state ∙ ap (run g) (sym one)) in
    let many : IsAsMany g (run g (done + 1)) = keeps g (done + 1) in
    let before : IsAsMany g (run g done) = keeps g done in
    let memory : console_emissions a_note (memory_of p new.machine) ≡ console_emissions a_note work.after.memory =
    ap (λ (x : SysState). console_emissions a_note (memory_of p x.machine)) ended
    ∙ ap (λ (x : SysState). console_emissions a_note (memory_of p (ended_by (act_beyond reach) p x.machine))) worked.state
    ∙ emitted_after a_note reach p (traffic_in m p work.act) work.after m below alone in
    let its_end : ends_in (run g done) ≡ ends_so a_note reach =
    ap ends_in (sym m_is) ∙ acts_so m work.act (ap machine.act_of tick.local ∙ bounds)
    ∙ same_end m.system.conf p work.act a_note reach work.after.memory noted.traffic worked.act in
    let its_kept : kept_tick (run g done) ≡ kept_by (turn_after done (turn_of g)) true a_note reach (memory_of p new.machine) =
    ap kept_tick (sym m_is) ∙ worked_kept m p first work a_note reach tick bounds worked.act noted
    ∙ ap (λ t. kept_by t true a_note reach work.after.memory) (sym turns)
    ∙ sym (kept_after a_note reach (turn_after done (turn_of g)) p (traffic_in m p work.act) work.after m below alone)
    ∙ ap (λ (x : SysState). kept_by (turn_after done (turn_of g)) true a_note reach (memory_of p (ended_by (act_beyond reach) p x.machine))) (sym worked.state)
    ∙ ap (λ (x : SysState). kept_by (turn_after done (turn_of g)) true a_note reach (memory_of p x.machine)) (sym ended) in
    record {
      some = omega arith;
      within = omega (arith, fewer);
      running = subst (λ (n : ℕ). (run g n).halted ≡ false) (less done) (ap (λ (x : Machine). x.halted) (sym m_is) ∙ runs);
      state = its_state;
      lines =
          ap (lines g) one ∙ its_lines ∙ tick_lines p work a_note reach (with_machine m old) mid got all worked emitted_lines
          ∙ ap (λ (tale : List Emission). map (line_of m.ticks p) tale ++ all) (sym memory)
          ∙ ap (λ (n : ℕ). map (line_of n p) (console_emissions a_note (memory_of p new.machine)) ++ all) (omega (arith, ticks));
      silent = ap (lines g) (omega arith) ∙ silent;
      few = few;
      part = omega (arith, ap (λ (x : SysState). length x.machine.parts) its_state, many.parts, before.parts, ap (λ (x : Machine). length x.parts) m_is, below);
      readable = subst (λ (x : Machine). CanBeEmitted a_note (areas_in p x)) (sym (ap (λ (x : SysState). x.machine) its_state))
          (same_areas (run g (done + 1)) m (many.system ∙ sym before.system ∙ sym (ap (λ (x : Machine). x.system) m_is)) worked.readable);
      kept = subst (λ (n : ℕ). kept_tick (run g n) ≡ kept_by (turn_after n (turn_of g)) true a_note reach (memory_of p new.machine)) (less done) its_kept;
      quiet = quiet;
      bare = bare;
      ends = subst (λ (n : ℕ). ends_in (run g n) ≡ ends_so a_note reach) (less done) its_end;
    }
  where
    less : (n : ℕ) → n ≡ n + 1 - 1
    less n = omega arith

    same_areas : (x y : Machine) → x.system ≡ y.system → CanBeEmitted a_note (areas_in p y) → CanBeEmitted a_note (areas_in p x)
    same_areas x y same readable = subst (λ (s : System). CanBeEmitted a_note (memory_areas (part_of s.conf p))) (sym same) readable

-- ticks in which the partition of the slot went, and one in which its instruction trapped or called
pub next_done : RunsKeepNumbers → ActsWithinBounds → GoneCalm → UndisturbedNext → PassedNext
    → (g : Machine) (p : ℕ) (first : Bool) (ps : PartitionState) (done most : ℕ) (a_note : Note) (reach : Beyond) (old mid new : SysState) (got all : List ReportLine)
    → IsUndisturbed g p first ps done → HasGone done (view_of g.system p) (met g first ps) → p < length g.parts → done < most
    → IsNoted (run g done) p (next_instruction (run g done) p (gone_on done (its_areas g p) (met g first ps))) a_note
    → IsTickWorked p (next_instruction (run g done) p (gone_on done (its_areas g p) (met g first ps))) a_note reach (with_machine (run g done) old) mid got → EmitsAlone a_note reach
    → new ≡ with_machine (ended_by (act_beyond reach) p mid.machine) mid → all ≡ got ++ ending_lines (act_beyond reach) mid.machine → length all ≤ 40
    → AreDoneFrom (record { ticks = done + 1; part = p; worked = true; note = a_note; reach = reach }) most g old new all
next_done keeps bounds calms undisturbed passes g p first ps done most a_note reach old mid new got all is gone below fewer noted worked alone ended emitted_lines few =
    let next : IsNextTick g done (gone_parts done g p first ps) p (first_after done first) (next_instruction (run g done) p (gone_on done (its_areas g p) (met g first ps))) =
    undisturbed g p first ps done is gone in
    let at = at_next g p first ps done (next_instruction (run g done) p (gone_on done (its_areas g p) (met g first ps))) is next in
    let counted : length (run g done).parts ≡ length g.parts = (keeps g done).parts in
    let there : p < length (run g done).parts = omega (arith, counted, below) in
    let passed : IsPassedNext g done (gone_parts done g p first ps) p (next_instruction (run g done) p (gone_on done (its_areas g p) (met g first ps))) =
    passes g done (gone_parts done g p first ps) p (first_after done first) (next_instruction (run g done) p (gone_on done (its_areas g p) (met g first ps))) next
    (ap (λ (x : Machine). x.halted) next.before.state ∙ is.span.running) there
    (within_bounds bounds (run g done) p (first_after done first) (its_before done ps (gone_on done (its_areas g p) (met g first ps))) (gone_on done (its_areas g p) (met g first ps)) at)
    (directed_one (next_instruction (run g done) p (gone_on done (its_areas g p) (met g first ps))).act reach (run g done) worked.act worked.one) in
    passed_done keeps g (run g done) p done most (first_after done first) (next_instruction (run g done) p (gone_on done (its_areas g p) (met g first ps))) a_note reach old mid new got all refl
    (ap (λ (x : Machine). x.halted) next.before.state ∙ is.span.running) (ap (λ (x : Machine). x.ticks) next.before.state) next.before.lines (quiet_gone calms g p first ps done is gone) (bare_gone calms g p first ps done is gone) there fewer passed.state passed.lines
    (ap (turn_after done) is.goes.slot.turn) next.tick
    (within_bounds bounds (run g done) p (first_after done first) (its_before done ps (gone_on done (its_areas g p) (met g first ps))) (gone_on done (its_areas g p) (met g first ps)) at)
    noted worked alone ended emitted_lines few

-- the work of a partition that is awake
works_awake : (g : Machine) (p : ℕ) (first : Bool) (ps : PartitionState) → IsAwake g p first ps
    → worked (view_of g.system p) (copies g p) g.time first (sight g p) ps ≡ next_work g p (met g first ps)
unfolding worked
works_awake g p first ps is = ap (λ (b : Bool). worked_if b (view_of g.system p) (copies g p) g.time (sight g p) (with_interrupts g.time first ps)) is.wakes

awake_bounds : ActsWithinBounds → (g : Machine) (p : ℕ) (first : Bool) (ps : PartitionState) → IsAwake g p first ps
    → bounded (view_of g.system p) (next_work g p (met g first ps)).act ≡ (next_work g p (met g first ps)).act
unfolding local_tick
awake_bounds law g p first ps is =
    subst (λ (w : Worked). bounded (view_of g.system p) w.act ≡ w.act) (works_awake g p first ps is)
    (law g.system p ps (copies g p) g.ticks g.time first (sight g p))

-- a tick in which the partition of the slot does this work
pub met_done : RunsKeepNumbers → ActsWithinBounds → MetTick → TickInPasses
    → (g : Machine) (p : ℕ) (first : Bool) (ps : PartitionState) (most : ℕ) (a_note : Note) (reach : Beyond) (old mid new : SysState) (got all : List ReportLine)
    → g.halted ≡ false → IsAwake g p first ps → p < length g.parts → 0 < most
    → IsNoted g p (next_work g p (met g first ps)) a_note → IsTickWorked p (next_work g p (met g first ps)) a_note reach (with_machine g old) mid got → EmitsAlone a_note reach
    → new ≡ with_machine (ended_by (act_beyond reach) p mid.machine) mid → all ≡ got ++ ending_lines (act_beyond reach) mid.machine → length all ≤ 40
    → AreDoneFrom (record { ticks = 0 + 1; part = p; worked = true; note = a_note; reach = reach }) most g old new all
met_done keeps bounds meets passes g p first ps most a_note reach old mid new got all runs is below some noted worked alone ended emitted_lines few =
    let passed : IsInPasses g p (next_work g p (met g first ps)) =
    passes g p first (next_work g p (met g first ps)) runs below (meets g p first ps runs is) (awake_bounds bounds g p first ps is)
    (directed_one (next_work g p (met g first ps)).act reach g worked.act worked.one) in
    passed_done keeps g g p 0 most first (next_work g p (met g first ps)) a_note reach old mid new got all refl runs (omega arith) refl (λ k below_last. absurd (omega (arith, below_last))) (λ k below_last. absurd (omega (arith, below_last))) below some passed.state
    (append-nil (step_lines g) ∙ passed.lines) (ap (turn_after 0) is.slot.turn) (meets g p first ps runs is) (awake_bounds bounds g p first ps is) noted worked alone ended emitted_lines few
