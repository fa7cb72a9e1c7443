-- Two runs that are steered alike go together for a closed set of partitions.
use Rattle.std.proofs.Common.{◌≡◌, ℕ, zero, suc, ◌<◌, Bool, true, false, [], ◌∷◌, Some, refl, sym, ap, ◌∙◌, arith, subst}
use Rattle.machine_model.specs.lemmas.TickLemmas.{step_halted}
use Rattle.machine_model.specs.Alone.{alone_lines, alone_said, alone_start}
use Rattle.machine_model.specs.Cue.{cue, script, script_unless}
use Rattle.machine_model.specs.Facts.{KeepsNumbers, RunsKeepNumbers}
use Rattle.machine_model.specs.Laws.{AllTicks, BootsAlone, OneTick, SeesNothing, part}
use Rattle.machine_model.specs.Lines.{lines, own, said}
use Rattle.machine_model.specs.Machine.{Machine, run, start, step}
use Rattle.machine_model.specs.View.{System, view_of}
use Rattle.xm_flows.specs.Groups.{Members}
use Rattle.xm_flows.specs.Laws.{AreClosedAlike, ClosedRunsAlike, NoneSteers, UnsteeredRunsAlike}
use Rattle.xm_flows.specs.Rights.{ActsByRight}
use Rattle.xm_flows.specs.Steering.{steering}
use Rattle.xm_flows.specs.Together.{GoTogether, ReceivesTheSame}
use Rattle.xm_flows.proofs.AgreeLemmas.{agree_of}
use Rattle.xm_flows.proofs.TickLemmas.{part_alike, same_part, steered, together_after, received_alike}

-- two machines after this many ticks, and what the members received in them
record RunTogether (members : Members) (g h : Machine) (count : ℕ) : Type 0 where
  ends : GoTogether members (run g count) (run h count)
  scripts : (p : ℕ) → members p ≡ true → script g p count ≡ script h p count

-- what the laws on one tick and on what runs give
record Given : Type 0 where
  tick : OneTick
  rights : ActsByRight
  sees : SeesNothing
  numbers : KeepsNumbers

-- the systems stay
stays_alike : KeepsNumbers → (members : Members) (g h : Machine) → AreClosedAlike members g.system h.system → AreClosedAlike members (step g).system (step h).system
stays_alike numbers members g h alike =
    subst (λ (system : System). AreClosedAlike members (step g).system system) (sym (numbers h).system)
    (subst (λ (system : System). AreClosedAlike members system h.system) (sym (numbers g).system) alike)

-- the script of a machine that has halted, and of one that goes on
no_script : (g : Machine) (p count : ℕ) → g.halted ≡ true → script g p (suc count) ≡ []
no_script g p count halts = ap (λ b. script_unless b (cue g p) (script (step g) p count)) halts

more_script : (g : Machine) (p count : ℕ) → g.halted ≡ false → script g p (suc count) ≡ cue g p ∷ script (step g) p count
more_script g p count runs = ap (λ b. script_unless b (cue g p) (script (step g) p count)) runs

-- a tick more at the beginning
more : (members : Members) (g h : Machine) (count : ℕ) → g.halted ≡ false → h.halted ≡ false → ReceivesTheSame members g h → RunTogether members (step g) (step h) count → RunTogether members g h (suc count)
more members g h count runs runs_too received_so rest = record {
  ends = rest.ends;
  scripts = λ p member.
      more_script g p count runs ∙ ap (λ c. c ∷ script (step g) p count) (received_so.cues p member) ∙ ap (λ others. cue h p ∷ others) (rest.scripts p member)
      ∙ sym (more_script h p count runs_too);
}

run_together : Given → (members : Members) (count : ℕ) (g h : Machine) → AreClosedAlike members g.system h.system → GoTogether members g h
    → ((k : ℕ) → k < count → steering members (run g k) ≡ steering members (run h k)) → RunTogether members g h count
run_together given members zero g h alike go steers = record { ends = go; scripts = λ p member. refl }
run_together given members (suc count) g h alike go steers =
    by g.halted refl (λ next. run_together given members count (step g) (step h) (stays_alike given.numbers members g h alike) next (λ k below. steers (suc k) (omega (arith, below))))
  where
    by : (b : Bool) → g.halted ≡ b → (GoTogether members (step g) (step h) → RunTogether members (step g) (step h) count) → RunTogether members g h (suc count)
    by true halts further =
        let halts_too : h.halted ≡ true = sym go.halted ∙ halts in
        let same : GoTogether members (step g) (step h) =
        subst (λ (m : Machine). GoTogether members (step g) m) (sym (step_halted h halts_too)) (subst (λ (m : Machine). GoTogether members m h) (sym (step_halted g halts)) go)
        in
        record { ends = (further same).ends; scripts = λ p member. no_script g p count halts ∙ sym (no_script h p count halts_too) }
    by false runs further =
        let runs_too : h.halted ≡ false = sym go.halted ∙ runs in
        let steered_so = steered members g h runs runs_too (steers 0 (omega arith)) in
        more members g h count runs runs_too (received_alike given.rights given.sees members g h alike go steered_so)
        (further (together_after given.tick given.rights given.sees members g h alike go runs runs_too steered_so))

-- the machines as they boot
start_alike : (members : Members) (one other : System) → AreClosedAlike members one other → AreClosedAlike members (start one).system (start other).system
unfolding start
start_alike members one other alike = alike

pub start_together : BootsAlone → (members : Members) (one other : System) → AreClosedAlike members one other → GoTogether members (start one) (start other)
unfolding start
start_together boots members one other alike = record {
  parts = λ p member.
      same_part (start one) (start other) p (alone_start (view_of other p))
      (boots one p (alike.in_one p member) ∙ ap (λ view. Some (alone_start view)) (alike.same.views p member))
      (boots other p (alike.in_other p member));
  ticks = refl;
  time = refl;
  clock = record { plan = refl; frame_start = refl };
  halted = refl;
}

-- what runs stays in a run
run_system : RunsKeepNumbers → (system : System) (count : ℕ) → (run (start system) count).system ≡ system
unfolding start
run_system numbers system count = (numbers (start system) count).system

run_alike : RunsKeepNumbers → (members : Members) (one other : System) (count : ℕ) → AreClosedAlike members one other
    → AreClosedAlike members (run (start one) count).system (run (start other) count).system
run_alike numbers members one other count alike =
    subst (λ (system : System). AreClosedAlike members (run (start one) count).system system) (sym (run_system numbers other count))
    (subst (λ (system : System). AreClosedAlike members system other) (sym (run_system numbers one count)) alike)

-- a member's lines and console bytes
lines_alike : AllTicks → (members : Members) (g h : Machine) → AreClosedAlike members g.system h.system → GoTogether members g h → (count : ℕ) → RunTogether members g h count
    → (p : ℕ) → members p ≡ true → own p (lines g count) ≡ own p (lines h count)
lines_alike all members g h alike go count runs p member =
    let same = go.parts p member in
    (all count g p same.state same.there).lines
    ∙ ap (λ v. alone_lines v (part g p same.state) (script g p count)) (alike.same.views p member)
    ∙ ap (λ a. alone_lines (view_of h.system p) a (script g p count)) (part_alike members g h go p same.state same.copies)
    ∙ ap (alone_lines (view_of h.system p) (part h p same.state)) (runs.scripts p member)
    ∙ sym (all count h p same.state same.there_too).lines

said_alike : AllTicks → (members : Members) (g h : Machine) → AreClosedAlike members g.system h.system → GoTogether members g h → (count : ℕ) → RunTogether members g h count
    → (p : ℕ) → members p ≡ true → said g count p ≡ said h count p
said_alike all members g h alike go count runs p member =
    let same = go.parts p member in
    (all count g p same.state same.there).said
    ∙ ap (λ v. alone_said v (part g p same.state) (script g p count)) (alike.same.views p member)
    ∙ ap (λ a. alone_said (view_of h.system p) a (script g p count)) (part_alike members g h go p same.state same.copies)
    ∙ ap (alone_said (view_of h.system p) (part h p same.state)) (runs.scripts p member)
    ∙ sym (all count h p same.state same.there_too).said

pub closed_runs : OneTick → AllTicks → BootsAlone → ActsByRight → SeesNothing → KeepsNumbers → RunsKeepNumbers → ClosedRunsAlike
closed_runs tick all boots rights sees numbers run_numbers members one other count alike steers =
    let from = start_alike members one other alike in
    let go = start_together boots members one other alike in
    let runs = run_together (record { tick = tick; rights = rights; sees = sees; numbers = numbers }) members count (start one) (start other) from go steers in
    record {
      agree = agree_of members (run (start one) count) (run (start other) count) (run_alike run_numbers members one other count alike) runs.ends;
      lines = lines_alike all members (start one) (start other) from go count runs;
      said = said_alike all members (start one) (start other) from go count runs;
    }

-- where no tick steers, ticks steer alike
pub unsteered_runs : ClosedRunsAlike → NoneSteers → UnsteeredRunsAlike
unsteered_runs law none members one other count alike plain plain_too =
    law members one other count alike (λ k below. none members one k plain ∙ sym (none members other k plain_too))
