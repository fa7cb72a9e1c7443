-- Two runs with upsets go together for a closed set of partitions.
use Rattle.std.proofs.Common.{◌≡◌, ℕ, zero, suc, ◌<◌, Bool, true, false, List, [], ◌∷◌, None, Some, refl, sym, ap, ◌∙◌, arith, subst}
use Rattle.std.specs.Prelude.{slice_get}
use Rattle.std.proofs.lemmas.Option.{same_Some}
use Rattle.machine_model.specs.Alone.{Alone}
use Rattle.machine_model.specs.Cue.{cue}
use Rattle.machine_model.specs.Facts.{KeepsNumbers}
use Rattle.machine_model.specs.Laws.{alone_part_at, part}
use Rattle.machine_model.specs.Machine.{Machine, copies, start, step}
use Rattle.machine_model.specs.Partition.{PartitionState}
use Rattle.machine_model.specs.View.{System}
use Rattle.cyclic_plans.specs.PlanClock.{started as clock_started}
use Rattle.xm_flows.specs.Groups.{Members}
use Rattle.xm_flows.specs.Laws.{AreClosedAlike}
use Rattle.xm_flows.specs.Rights.{IsUnsteered}
use Rattle.xm_flows.specs.Steering.{no_steering, steering}
use Rattle.xm_flows.specs.Together.{GoTogether, HasSamePart, StartTogether, TicksTogether, TogetherAgree, UnsteeredTicks}
use Rattle.upset_laws.specs.GroupLaws.{AreStruckAlike, ClosedUpsetRunsAlike, UnsteeredUpsetRunsAlike}
use Rattle.upset_laws.specs.UpsetLaws.{AreEqualUpset, OneUpsetTick, TwoUpsetRuns}
use Rattle.upset_model.specs.Upsets.{Schedule, Upset, alone_struck, later, ready, ready_unless, strikes_on, upset, upset_run, upset_script, upsets}
use Rattle.upset_laws.proofs.UpsetLemmas.{no_upset_script, more_upset_script, part_there, ready_system, state_there, step_ready_halts}

-- what upsets keep
upsets_kept : (us : List Upset) (g : Machine) → upsets us g ≡ record g { parts = (upsets us g).parts }
unfolding upset
upsets_kept [] g = refl
upsets_kept (u ∷ us) g = upsets_kept us (upset u g)

ready_kept : (us : List Upset) (g : Machine) → ready us g ≡ record g { parts = (ready us g).parts }
unfolding ready
ready_kept us g = by g.halted
  where
    by : (b : Bool) → ready_unless b us g ≡ record g { parts = (ready_unless b us g).parts }
    by true = refl
    by false = upsets_kept us g

-- a partition's part, of its pieces, is the same in two machines that go together
part_alike : (members : Members) (g h : Machine) → GoTogether members g h → (p : ℕ) (ps : PartitionState) → copies g p ≡ copies h p → part g p ps ≡ part h p ps
unfolding part
part_alike members g h go p ps contents = rw (contents, go.ticks, go.time) refl

-- a partition that has the same part of two machines
part_copies : (g : Machine) (p : ℕ) (ps : PartitionState) → (part g p ps).copies ≡ copies g p
unfolding part
part_copies g p ps = refl

copies_are : (g : Machine) (p : ℕ) (a : Alone) → alone_part_at g p ≡ Some a → copies g p ≡ a.copies
copies_are g p a is =
    let there : slice_get g.parts p ≡ Some a.state = state_there g p a is in
    sym (part_copies g p a.state) ∙ ap (λ (b : Alone). b.copies) (same_Some (part g p a.state) a (sym (part_there g p a.state there) ∙ is))

same_part : (g h : Machine) (p : ℕ) (a : Alone) → alone_part_at g p ≡ Some a → alone_part_at h p ≡ Some a → HasSamePart g h p
same_part g h p a is is_too = record {
  state = a.state;
  there = state_there g p a is;
  there_too = state_there h p a is_too;
  copies = copies_are g p a is ∙ sym (copies_are h p a is_too);
}

-- two machines that go together do so after upsets that strike the members alike
ready_together : OneUpsetTick → (members : Members) (us vs : List Upset) (g h : Machine) → g.halted ≡ false → h.halted ≡ false → GoTogether members g h
    → ((p : ℕ) → members p ≡ true → strikes_on p us ≡ strikes_on p vs) → GoTogether members (ready us g) (ready vs h)
ready_together tick members us vs g h runs runs_too go strikes = record {
  parts = λ p member. let same = go.parts p member in
      same_part (ready us g) (ready vs h) p (alone_struck (strikes_on p vs) (part h p same.state))
      ((tick us g p same.state runs same.there).before ∙ ap (λ all. Some (alone_struck all (part g p same.state))) (strikes p member)
      ∙ ap (λ a. Some (alone_struck (strikes_on p vs) a)) (part_alike members g h go p same.state same.copies))
      (tick vs h p same.state runs_too same.there_too).before;
  ticks = ap (λ (m : Machine). m.ticks) (ready_kept us g) ∙ go.ticks ∙ sym (ap (λ (m : Machine). m.ticks) (ready_kept vs h));
  time = ap (λ (m : Machine). m.time) (ready_kept us g) ∙ go.time ∙ sym (ap (λ (m : Machine). m.time) (ready_kept vs h));
  clock = record {
    plan = ap (λ (m : Machine). m.clock.plan) (ready_kept us g) ∙ go.clock.plan ∙ sym (ap (λ (m : Machine). m.clock.plan) (ready_kept vs h));
    frame_start = ap (λ (m : Machine). m.clock.frame_start) (ready_kept us g) ∙ go.clock.frame_start ∙ sym (ap (λ (m : Machine). m.clock.frame_start) (ready_kept vs h));
  };
  halted = ap (λ (m : Machine). m.halted) (ready_kept us g) ∙ go.halted ∙ sym (ap (λ (m : Machine). m.halted) (ready_kept vs h));
}

ready_alike : (members : Members) (us vs : List Upset) (g h : Machine) → AreClosedAlike members g.system h.system → AreClosedAlike members (ready us g).system (ready vs h).system
ready_alike members us vs g h alike =
    subst (λ (system : System). AreClosedAlike members (ready us g).system system) (sym (ready_system vs h))
    (subst (λ (system : System). AreClosedAlike members system h.system) (sym (ready_system us g)) alike)

stays_alike : KeepsNumbers → (members : Members) (g h : Machine) → AreClosedAlike members g.system h.system → AreClosedAlike members (step g).system (step h).system
stays_alike numbers members g h alike =
    subst (λ (system : System). AreClosedAlike members (step g).system system) (sym (numbers h).system)
    (subst (λ (system : System). AreClosedAlike members system h.system) (sym (numbers g).system) alike)

-- what the laws on runs, on ticks side by side and on what runs give
pub record Given : Type 0 where
  pub struck : OneUpsetTick
  pub runs : TwoUpsetRuns
  pub numbers : KeepsNumbers
  pub start : StartTogether
  pub tick : TicksTogether
  pub agree : TogetherAgree

-- two machines after this many ticks with upsets, and what the members received in them
record RunTogether (members : Members) (s : Schedule) (g : Machine) (t : Schedule) (h : Machine) (count : ℕ) : Type 0 where
  systems : AreClosedAlike members (upset_run s g count).system (upset_run t h count).system
  ends : GoTogether members (upset_run s g count) (upset_run t h count)
  scripts : (p : ℕ) → members p ≡ true → upset_script s g p count ≡ upset_script t h p count

run_together : Given → (members : Members) (count : ℕ) (s : Schedule) (g : Machine) (t : Schedule) (h : Machine) → AreClosedAlike members g.system h.system → GoTogether members g h
    → AreStruckAlike members s t count
    → ((k : ℕ) → k < count → steering members (ready (s k) (upset_run s g k)) ≡ steering members (ready (t k) (upset_run t h k))) → RunTogether members s g t h count
run_together given members zero s g t h alike go strikes steers = record { systems = alike; ends = go; scripts = λ p member. refl }
run_together given members (suc count) s g t h alike go strikes steers =
    by g.halted refl (λ same next. run_together given members count (later s) (step (ready (s 0) g)) (later t) (step (ready (t 0) h)) same next
    (λ p k member below. strikes p (suc k) member (omega (arith, below))) (λ k below. steers (suc k) (omega (arith, below))))
  where
    by : (b : Bool) → g.halted ≡ b
        → (AreClosedAlike members (step (ready (s 0) g)).system (step (ready (t 0) h)).system → GoTogether members (step (ready (s 0) g)) (step (ready (t 0) h))
        → RunTogether members (later s) (step (ready (s 0) g)) (later t) (step (ready (t 0) h)) count)
        → RunTogether members s g t h (suc count)
    by true halts further =
        let halts_too : h.halted ≡ true = sym go.halted ∙ halts in
        let rest = further
        (subst (λ (m : Machine). AreClosedAlike members (step (ready (s 0) g)).system m.system) (sym (step_ready_halts (t 0) h halts_too))
        (subst (λ (m : Machine). AreClosedAlike members m.system h.system) (sym (step_ready_halts (s 0) g halts)) alike))
        (subst (λ (m : Machine). GoTogether members (step (ready (s 0) g)) m) (sym (step_ready_halts (t 0) h halts_too))
        (subst (λ (m : Machine). GoTogether members m h) (sym (step_ready_halts (s 0) g halts)) go)) in
        record { systems = rest.systems; ends = rest.ends; scripts = λ p member. no_upset_script (suc count) s g p halts ∙ sym (no_upset_script (suc count) t h p halts_too) }
    by false runs further =
        let runs_too : h.halted ≡ false = sym go.halted ∙ runs in
        let ready_go = ready_together given.struck members (s 0) (t 0) g h runs runs_too go (λ p member. strikes p 0 member (omega arith)) in
        let ready_same = ready_alike members (s 0) (t 0) g h alike in
        let ready_runs : (ready (s 0) g).halted ≡ false = ap (λ (m : Machine). m.halted) (ready_kept (s 0) g) ∙ runs in
        let together = given.tick members (ready (s 0) g) (ready (t 0) h) ready_same ready_go ready_runs (steers 0 (omega arith)) in
        let rest = further (stays_alike given.numbers members (ready (s 0) g) (ready (t 0) h) ready_same) together.next in
        record {
          systems = rest.systems;
          ends = rest.ends;
          scripts = λ p member.
              more_upset_script count s g p runs ∙ ap (λ c. c ∷ upset_script (later s) (step (ready (s 0) g)) p count) (together.received.cues p member)
              ∙ ap (λ others. cue (ready (t 0) h) p ∷ others) (rest.scripts p member) ∙ sym (more_upset_script count t h p runs_too);
        }

equal_for : Given → (members : Members) (s : Schedule) (g : Machine) (t : Schedule) (h : Machine) (count : ℕ) → AreClosedAlike members g.system h.system → GoTogether members g h
    → AreStruckAlike members s t count → RunTogether members s g t h count → (p : ℕ) → members p ≡ true → AreEqualUpset s g t h p count
equal_for given members s g t h count alike go strikes runs p member =
    let same = go.parts p member in
    given.runs s g t h p count count (omega arith) (record {
      state = same.state;
      there = same.there;
      part = part_there g p same.state same.there ∙ ap Some (part_alike members g h go p same.state same.copies) ∙ sym (part_there h p same.state same.there_too);
      view = alike.same.views p member;
      strikes = λ k below. strikes p k member below;
      script = runs.scripts p member;
    })

-- the systems of machines that boot
start_alike : (members : Members) (one other : System) → AreClosedAlike members one other → AreClosedAlike members (start one).system (start other).system
unfolding start
start_alike members one other alike = alike

pub closed_upset_runs : Given → ClosedUpsetRunsAlike
closed_upset_runs given members s one t other count alike strikes steers =
    let from = start_alike members one other alike in
    let go = given.start members one other alike in
    let runs = run_together given members count s (start one) t (start other) from go strikes steers in
    record {
      agree = given.agree members (upset_run s (start one) count) (upset_run t (start other) count) runs.systems runs.ends;
      lines = λ p member. (equal_for given members s (start one) t (start other) count from go strikes runs p member).lines;
      said = λ p member. (equal_for given members s (start one) t (start other) count from go strikes runs p member).said;
    }

-- where no partition may steer others no tick steers, whatever strikes
start_plain : (system : System) → IsUnsteered system.conf → IsUnsteered (start system).system.conf
unfolding start
start_plain system plain = plain

start_asks : (system : System) → (start system).clock.asked ≡ None
unfolding clock_started start
start_asks system = refl

ready_plain : (us : List Upset) (g : Machine) → IsUnsteered g.system.conf → IsUnsteered (ready us g).system.conf
ready_plain us g plain = subst (λ (system : System). IsUnsteered system.conf) (sym (ready_system us g)) plain

ready_asks : (us : List Upset) (g : Machine) → g.clock.asked ≡ None → (ready us g).clock.asked ≡ None
ready_asks us g none = ap (λ (m : Machine). m.clock.asked) (ready_kept us g) ∙ none

ready_steers : UnsteeredTicks → KeepsNumbers → (members : Members) (count : ℕ) (s : Schedule) (g : Machine) → IsUnsteered g.system.conf → g.clock.asked ≡ None
    → steering members (ready (s count) (upset_run s g count)) ≡ no_steering
ready_steers calm numbers members zero s g plain none = (calm members (ready (s 0) g) (ready_plain (s 0) g plain) (ready_asks (s 0) g none)).steers
ready_steers calm numbers members (suc count) s g plain none =
    let plain_too = ready_plain (s 0) g plain in
    ready_steers calm numbers members count (later s) (step (ready (s 0) g))
    (subst (λ (system : System). IsUnsteered system.conf) (sym (numbers (ready (s 0) g)).system) plain_too)
    (calm members (ready (s 0) g) plain_too (ready_asks (s 0) g none)).asked

pub unsteered_upset_runs : UnsteeredTicks → KeepsNumbers → ClosedUpsetRunsAlike → UnsteeredUpsetRunsAlike
unsteered_upset_runs calm numbers law members s one t other count alike strikes plain plain_too =
    law members s one t other count alike strikes (λ k below.
    ready_steers calm numbers members k s (start one) (start_plain one plain) (start_asks one)
    ∙ sym (ready_steers calm numbers members k t (start other) (start_plain other plain_too) (start_asks other)))
